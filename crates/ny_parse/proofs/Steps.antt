-- What each token does to the reader, by its kind and the state.
use Rattle.std.proofs.Common.{◌≡◌, ℕ, ◌+◌, ◌-◌, ◌<◌, ◌≤◌, min, List, [], ◌∷◌, ◌++◌, length, true, false, None, refl, ap, ◌∙◌, nat_lt, nat_le, ◌&&◌, if◌then◌else◌, arith}
use Rattle.std.proofs.lemmas.Bool.Decides.{nat_tests}
use Rattle.ny_syntax.specs.declared.token.Token.{Token}
use Rattle.ny_syntax.specs.declared.token.TokenKind.{TokenKind}
use Rattle.ny_syntax.specs.declared.token.TokenKind.TheVariants as kinds
use Rattle.ny_syntax.specs.declared.token.Mark.TheVariants as marks
use Rattle.ny_syntax.specs.declared.token.Word.TheVariants as words
use Rattle.ny_syntax.specs.declared.tree.Expr.{Expr}
use Rattle.ny_syntax.specs.declared.tree.Bind.{Bind}
use Rattle.ny_syntax.specs.declared.tree.Decl.{Decl}
use Rattle.std.proofs.Common.{Ok, Err}
use Rattle.ny_syntax.specs.Levels.{level_of, left_least, right_least, prefix_level, is_prefix}
use Rattle.ny_syntax.specs.Grammar.{Parse, height, height_limit, level, tree_of}
use Rattle.ny_parse.specs.declared.frame.Label.{Label}
use Rattle.ny_parse.specs.declared.frame.Measured.{Measured}
use Rattle.ny_parse.specs.declared.frame.Frame.{Frame}
use Rattle.ny_parse.specs.declared.frame.Frame.TheVariants as frames
use Rattle.ny_parse.specs.declared.state.State.{State}
use Rattle.ny_parse.specs.declared.state.State.TheVariants as states
use Rattle.ny_parse.specs.Nodes.{measured, label_of, number_of, named_of, grouped_of, prefixed_of, binary_of, call_of, conditional_of, block_of}
use Rattle.ny_parse.specs.Reading.{Next, goes, alone, deeper, chosen, reading, step, finish, whole_end, settled_end, settled, operator_taken, operator_next, close_next, settled_next, whole_next, named_next, opening_next, operand_next, call_open_next, if_next, begin_next, binds_next, bind_name_next, divided_next, closed, group_next, argument_next, test_next, chosen_next, otherwise_next, value_next, block_next, returned_next}
use Rattle.ny_parse.proofs.Partial.{TakesAny, least, is_over}
use Rattle.ny_parse.proofs.Small.{level-bound}

-- what the reader knows of a parse tree
abbrev pub measure : List ℕ → Parse → Measured
measure text p = measured (tree_of text p) (height_limit - height p) (level p)

-- the tokens don't go on with an operator that binds tighter than this, and don't open brackets
abbrev pub Ends : ℕ → List Token → Type 0
Ends n [] = Unit {0}
Ends n (t ∷ ts) = (t.kind ≡ kinds.Sign marks.Open → ⊥) × (level_of t.kind ≤ n)

pub ends-above : (m n : ℕ) (ts : List Token) → m ≤ n → Ends m ts → Ends n ts
ends-above m n [] le h = tt
ends-above m n (t ∷ ts) le (o, l) = (o, omega arith)

lt-true : (m n : ℕ) → m < n → nat_lt m n ≡ true
lt-true m n h = grind (arith, nat_tests)

lt-false : (m n : ℕ) → n ≤ m → nat_lt m n ≡ false
lt-false m n h = grind (arith, nat_tests)

le-true : (m n : ℕ) → m ≤ n → nat_le m n ≡ true
le-true m n h = grind (arith, nat_tests)

le-false : (m n : ℕ) → n < m → nat_le m n ≡ false
le-false m n h = grind (arith, nat_tests)

-- one token
pub goes-on : (text : List ℕ) (t : Token) (ts : List Token) (s : State) (k : List Frame) (ds : List Decl) (s2 : State) (k2 : List Frame) (ds2 : List Decl)
    → step text t s k ds ≡ goes s2 k2 ds2 → reading text (t ∷ ts) s k ds ≡ reading text ts s2 k2 ds2
unfolding reading
goes-on text t ts s k ds s2 k2 ds2 e = ap (λ n. chosen (λ m. reading text ts m.0 m.1.stack m.1.decls) (Err (t ∷ ts)) n) e

-- room for what is higher
roomy : (k : List Frame) (next : Next) → 1 + length k ≤ height_limit → deeper k next ≡ next
roomy k next h = ap (λ b. if b then None else next) (le-false height_limit (length k) (omega arith))

-- an expression settles
settled-stays : (next : ℕ) (x : Measured) (k : List Frame) → 1 ≤ next → next ≤ 6 → least k ≤ next → settled next x k ≡ (x, k)
unfolding settled
settled-stays next x [] one_up six h = refl
settled-stays next x (frames.Right a op ∷ k) one_up six h = ap (λ b. if b then settled next (binary_of a op x) k else (x, frames.Right a op ∷ k)) (lt-false next (right_least op.kind) h)
settled-stays next x (frames.Prefix m ∷ k) one_up six h = absurd (omega arith)
settled-stays next x (frame ∷ k) one_up six h = refl

settled-goes : (next : ℕ) (x a : Measured) (op : Token) (k : List Frame) → next ≤ level_of op.kind → settled next x (frames.Right a op ∷ k) ≡ settled next (binary_of a op x) k
unfolding settled
settled-goes next x a op k h = ap (λ b. if b then settled next (binary_of a op x) k else (x, frames.Right a op ∷ k)) (lt-true next (right_least op.kind) (omega arith))

settled-prefix : (next : ℕ) (x : Measured) (m : Token) (k : List Frame) → settled next x (frames.Prefix m ∷ k) ≡ settled next (prefixed_of m x) k
unfolding settled
settled-prefix next x m k = refl

-- where an expression settles into the one round it
same-settled : (text : List ℕ) (x y : Measured) (k1 k2 : List Frame) (ds : List Decl) (n : ℕ) (rest : List Token) → ((next : ℕ) → next ≤ n → settled next x k1 ≡ settled next y k2) → Ends n rest
    → reading text rest (states.Whole x) k1 ds ≡ reading text rest (states.Whole y) k2 ds
unfolding reading step finish whole_end whole_next
same-settled text x y k1 k2 ds n [] same ends = ap (λ s. chosen Ok (Err []) (settled_end text s.0 s.1 ds)) (same 0 (omega arith))
same-settled text x y k1 k2 ds n (t ∷ ts) same (o, l) =
    ap (λ s. chosen (λ m. reading text ts m.0 m.1.stack m.1.decls) (Err (t ∷ ts)) (settled_next t s ds)) (same (level_of t.kind) l)

pub binary-done : (text : List ℕ) (a : Measured) (op : Token) (x : Measured) (k : List Frame) (ds : List Decl) (rest : List Token) → Ends (level_of op.kind) rest
    → reading text rest (states.Whole x) (frames.Right a op ∷ k) ds ≡ reading text rest (states.Whole (binary_of a op x)) k ds
binary-done text a op x k ds rest ends = same-settled text x (binary_of a op x) (frames.Right a op ∷ k) k ds (level_of op.kind) rest (λ next le. settled-goes next x a op k le) ends

pub prefixed-done : (text : List ℕ) (m : Token) (x : Measured) (k : List Frame) (ds : List Decl) (rest : List Token) → Ends prefix_level rest
    → reading text rest (states.Whole x) (frames.Prefix m ∷ k) ds ≡ reading text rest (states.Whole (prefixed_of m x)) k ds
prefixed-done text m x k ds rest ends = same-settled text x (prefixed_of m x) (frames.Prefix m ∷ k) k ds prefix_level rest (λ next le. settled-prefix next x m k) ends

-- a name that no bracket follows
name-alone : (kind : TokenKind) (t : Token) (l : Label) (k : List Frame) (ds : List Decl) → (kind ≡ kinds.Sign marks.Open → ⊥) → named_next kind t l k ds ≡ whole_next t (named_of l) k ds
unfolding named_next
name-alone (kinds.Sign marks.Open) t l k ds h = absurd (h refl)
name-alone _ t l k ds h = refl

pub name-done : (text : List ℕ) (l : Label) (k : List Frame) (ds : List Decl) (n : ℕ) (rest : List Token) → Ends n rest → reading text rest (states.Named l) k ds ≡ reading text rest (states.Whole (named_of l)) k ds
unfolding reading step finish
name-done text l k ds n [] ends = refl
name-done text l k ds n (t ∷ ts) (o, lv) = ap (λ m. chosen (λ m. reading text ts m.0 m.1.stack m.1.decls) (Err (t ∷ ts)) m) (name-alone t.kind t l k ds o)

-- where an expression begins
pub number-step : (text : List ℕ) (t : Token) (v : _) (k : List Frame) (ds : List Decl) → t.kind ≡ kinds.Number v → step text t states.Before k ds ≡ goes (states.Whole (number_of t v)) k ds
unfolding step operand_next
number-step text t v k ds e = ap (λ kind. operand_next text kind t k ds) e

pub name-step : (text : List ℕ) (t : Token) (k : List Frame) (ds : List Decl) → t.kind ≡ kinds.Name → step text t states.Before k ds ≡ goes (states.Named (label_of text t)) k ds
unfolding step operand_next opening_next
name-step text t k ds e = ap (λ kind. operand_next text kind t k ds) e

pub open-step : (text : List ℕ) (t : Token) (k : List Frame) (ds : List Decl) → t.kind ≡ kinds.Sign marks.Open → 1 + length k ≤ height_limit → step text t states.Before k ds ≡ goes states.Before (frames.Group ∷ k) ds
unfolding step operand_next opening_next
open-step text t k ds e h = ap (λ kind. operand_next text kind t k ds) e ∙ roomy k (goes states.Before (frames.Group ∷ k) ds) h

prefix-operand : (text : List ℕ) (kind : TokenKind) (t : Token) (k : List Frame) (ds : List Decl) → is_prefix kind ≡ true → operand_next text kind t k ds ≡ deeper k (goes states.Before (frames.Prefix t ∷ k) ds)
unfolding operand_next opening_next
prefix-operand text (kinds.Sign marks.Minus) t k ds e = refl
prefix-operand text (kinds.Sign marks.Not) t k ds e = refl
prefix-operand text _ t k ds e = absurd (cc)

pub prefix-step : (text : List ℕ) (t : Token) (k : List Frame) (ds : List Decl) → is_prefix t.kind ≡ true → 1 + length k ≤ height_limit → step text t states.Before k ds ≡ goes states.Before (frames.Prefix t ∷ k) ds
unfolding step
prefix-step text t k ds e h = prefix-operand text t.kind t k ds e ∙ roomy k (goes states.Before (frames.Prefix t ∷ k) ds) h

pub if-step : (text : List ℕ) (t : Token) (k : List Frame) (ds : List Decl) → t.kind ≡ kinds.If → 1 + length k ≤ height_limit → step text t states.Before k ds ≡ goes (states.If t) k ds
unfolding step operand_next opening_next
if-step text t k ds e h = ap (λ kind. operand_next text kind t k ds) e ∙ roomy k (goes (states.If t) k ds) h

pub if_open-step : (text : List ℕ) (i t : Token) (k : List Frame) (ds : List Decl) → t.kind ≡ kinds.Sign marks.Open → step text t (states.If i) k ds ≡ goes states.Before (frames.Test i ∷ k) ds
unfolding step if_next
if_open-step text i t k ds e = ap (λ kind. if_next kind i k ds) e

pub begin-step : (text : List ℕ) (t : Token) (k : List Frame) (ds : List Decl) → t.kind ≡ kinds.Reserved words.Begin → 1 + length k ≤ height_limit → step text t states.Before k ds ≡ goes (states.Begin t) k ds
unfolding step operand_next opening_next
begin-step text t k ds e h = ap (λ kind. operand_next text kind t k ds) e ∙ roomy k (goes (states.Begin t) k ds) h

pub return-step : (text : List ℕ) (b t : Token) (k : List Frame) (ds : List Decl) → t.kind ≡ kinds.Reserved words.Return → step text t (states.Begin b) k ds ≡ goes states.Before (frames.Returned b [] height_limit ∷ k) ds
unfolding step begin_next
return-step text b t k ds e = ap (λ kind. begin_next kind b k ds) e

pub with-step : (text : List ℕ) (b t : Token) (k : List Frame) (ds : List Decl) → t.kind ≡ kinds.Reserved words.With → step text t (states.Begin b) k ds ≡ goes (states.Binds b [] height_limit) k ds
unfolding step begin_next
with-step text b t k ds e = ap (λ kind. begin_next kind b k ds) e

pub bind-step : (text : List ℕ) (b t : Token) (bs : List Bind) (spare : ℕ) (k : List Frame) (ds : List Decl) → t.kind ≡ kinds.Name → step text t (states.Binds b bs spare) k ds ≡ goes (states.BindName b bs spare (label_of text t)) k ds
unfolding step binds_next
bind-step text b t bs spare k ds e = ap (λ kind. alone (binds_next text kind t b bs spare) k ds) e

pub equal-step : (text : List ℕ) (b t : Token) (bs : List Bind) (spare : ℕ) (l : Label) (k : List Frame) (ds : List Decl) → t.kind ≡ kinds.Sign marks.Equal
    → step text t (states.BindName b bs spare l) k ds ≡ goes states.Before (frames.Value b bs spare l ∷ k) ds
unfolding step bind_name_next
equal-step text b t bs spare l k ds e = ap (λ kind. bind_name_next kind b bs spare l k ds) e

pub call-step : (text : List ℕ) (t : Token) (l : Label) (k : List Frame) (ds : List Decl) → t.kind ≡ kinds.Sign marks.Open → 1 + length k ≤ height_limit → step text t (states.Named l) k ds ≡ goes (states.CallOpen l) k ds
unfolding step named_next
call-step text t l k ds e h = ap (λ kind. named_next kind t l k ds) e ∙ roomy k (goes (states.CallOpen l) k ds) h

pub no_arguments-step : (text : List ℕ) (t : Token) (l : Label) (k : List Frame) (ds : List Decl) → t.kind ≡ kinds.Sign marks.Close → step text t (states.CallOpen l) k ds ≡ goes (states.Whole (call_of l [] height_limit)) k ds
unfolding step call_open_next
no_arguments-step text t l k ds e = ap (λ kind. call_open_next text kind t l k ds) e

pub some-arguments : (text : List ℕ) (kind : TokenKind) (t : Token) (l : Label) (k : List Frame) (ds : List Decl) → (kind ≡ kinds.Sign marks.Close → ⊥)
    → call_open_next text kind t l k ds ≡ operand_next text kind t (frames.Argument l [] height_limit ∷ k) ds
unfolding call_open_next
some-arguments text (kinds.Sign marks.Close) t l k ds h = absurd (h refl)
some-arguments text _ t l k ds h = refl

-- an operator
pub operator-step : (text : List ℕ) (t : Token) (x : Measured) (k : List Frame) (ds : List Decl) → 1 ≤ level_of t.kind → least k ≤ level_of t.kind → left_least t.kind ≤ x.level → length k ≤ x.spare
    → step text t (states.Whole x) k ds ≡ operator_taken t.kind t x k ds
unfolding step whole_next operator_next
operator-step text t x k ds one_up low left fits =
    ap (λ s. settled_next t s ds) (settled-stays (level_of t.kind) x k one_up (level-bound t.kind) low)
    ∙ ap (λ b. if b then operator_next t x k ds else close_next t x k ds) (lt-true 0 (level_of t.kind) one_up)
    ∙ ap (λ b. if b && nat_le (length k) x.spare then operator_taken t.kind t x k ds else None) (le-true (left_least t.kind) x.level left)
    ∙ ap (λ b. if b then operator_taken t.kind t x k ds else None) (le-true (length k) x.spare fits)

pub over-taken : (kind : TokenKind) (t : Token) (x : Measured) (k : List Frame) (ds : List Decl) → is_over kind ≡ true → operator_taken kind t x k ds ≡ goes (states.Divided x t) k ds
over-taken (kinds.Sign marks.Over) t x k ds e = refl
over-taken _ t x k ds e = absurd (cc)

pub right-taken : (kind : TokenKind) (t : Token) (x : Measured) (k : List Frame) (ds : List Decl) → is_over kind ≡ false → operator_taken kind t x k ds ≡ goes states.Before (frames.Right x t ∷ k) ds
right-taken (kinds.Sign marks.Over) t x k ds e = absurd (cc)
right-taken _ t x k ds e = refl

pub divisor-step : (text : List ℕ) (t : Token) (v : _) (x : Measured) (op : Token) (k : List Frame) (ds : List Decl) → t.kind ≡ kinds.Number v → step text t (states.Divided x op) k ds ≡ goes (states.Whole (binary_of x op (number_of t v))) k ds
unfolding step divided_next
divisor-step text t v x op k ds e = ap (λ kind. alone (divided_next kind t x op) k ds) e

-- a token that closes
abbrev pub IsBracket : Frame → Type 0
IsBracket (frames.Right a op) = ⊥
IsBracket (frames.Prefix m) = ⊥
IsBracket _ = Unit {0}

settled-bracket : (next : ℕ) (x : Measured) (frame : Frame) (k : List Frame) → IsBracket frame → settled next x (frame ∷ k) ≡ (x, frame ∷ k)
unfolding settled
settled-bracket next x (frames.Right a op) k h = absurd h
settled-bracket next x (frames.Prefix m) k h = absurd h
settled-bracket next x frame k h = refl

pub close-step : (text : List ℕ) (t : Token) (x : Measured) (frame : Frame) (k : List Frame) (ds : List Decl) → IsBracket frame → level_of t.kind ≤ 0 → step text t (states.Whole x) (frame ∷ k) ds ≡ closed frame t.kind t x k ds
unfolding step whole_next close_next
close-step text t x frame k ds bracket low =
    ap (λ s. settled_next t s ds) (settled-bracket (level_of t.kind) x frame k bracket)
    ∙ ap (λ b. if b then operator_next t x (frame ∷ k) ds else close_next t x (frame ∷ k) ds) (lt-false 0 (level_of t.kind) low)

pub group-step : (text : List ℕ) (t : Token) (x : Measured) (k : List Frame) (ds : List Decl) → t.kind ≡ kinds.Sign marks.Close → step text t (states.Whole x) (frames.Group ∷ k) ds ≡ goes (states.Whole (grouped_of x)) k ds
unfolding closed group_next
group-step text t x k ds e = close-step text t x frames.Group k ds tt (rw e (omega arith)) ∙ ap (λ kind. group_next kind x k ds) e

pub comma-step : (text : List ℕ) (t : Token) (l : Label) (es : List Expr) (spare : ℕ) (x : Measured) (k : List Frame) (ds : List Decl) → t.kind ≡ kinds.Sign marks.Comma
    → step text t (states.Whole x) (frames.Argument l es spare ∷ k) ds ≡ goes states.Before (frames.Argument l (es ++ x.expr ∷ []) (min spare x.spare) ∷ k) ds
unfolding closed argument_next
comma-step text t l es spare x k ds e =
    close-step text t x (frames.Argument l es spare) k ds tt (rw e (omega arith)) ∙ ap (λ kind. argument_next kind l (es ++ x.expr ∷ []) (min spare x.spare) k ds) e

pub last-step : (text : List ℕ) (t : Token) (l : Label) (es : List Expr) (spare : ℕ) (x : Measured) (k : List Frame) (ds : List Decl) → t.kind ≡ kinds.Sign marks.Close
    → step text t (states.Whole x) (frames.Argument l es spare ∷ k) ds ≡ goes (states.Whole (call_of l (es ++ x.expr ∷ []) (min spare x.spare))) k ds
unfolding closed argument_next
last-step text t l es spare x k ds e =
    close-step text t x (frames.Argument l es spare) k ds tt (rw e (omega arith)) ∙ ap (λ kind. argument_next kind l (es ++ x.expr ∷ []) (min spare x.spare) k ds) e

pub test-step : (text : List ℕ) (t i : Token) (x : Measured) (k : List Frame) (ds : List Decl) → t.kind ≡ kinds.Sign marks.Comma → step text t (states.Whole x) (frames.Test i ∷ k) ds ≡ goes states.Before (frames.Chosen i x ∷ k) ds
unfolding closed test_next
test-step text t i x k ds e = close-step text t x (frames.Test i) k ds tt (rw e (omega arith)) ∙ ap (λ kind. test_next kind i x k ds) e

pub chosen-step : (text : List ℕ) (t i : Token) (a x : Measured) (k : List Frame) (ds : List Decl) → t.kind ≡ kinds.Sign marks.Comma → step text t (states.Whole x) (frames.Chosen i a ∷ k) ds ≡ goes states.Before (frames.Otherwise i a x ∷ k) ds
unfolding closed chosen_next
chosen-step text t i a x k ds e = close-step text t x (frames.Chosen i a) k ds tt (rw e (omega arith)) ∙ ap (λ kind. chosen_next kind i a x k ds) e

pub otherwise-step : (text : List ℕ) (t i : Token) (a b x : Measured) (k : List Frame) (ds : List Decl) → t.kind ≡ kinds.Sign marks.Close
    → step text t (states.Whole x) (frames.Otherwise i a b ∷ k) ds ≡ goes (states.Whole (conditional_of i a b x)) k ds
unfolding closed otherwise_next
otherwise-step text t i a b x k ds e = close-step text t x (frames.Otherwise i a b) k ds tt (rw e (omega arith)) ∙ ap (λ kind. otherwise_next kind i a b x k ds) e

abbrev pub bound_of : Label → Expr → Bind
bound_of l e = record { at = l.at; name = l.name; value = e }

pub more-step : (text : List ℕ) (t b : Token) (bs : List Bind) (spare : ℕ) (l : Label) (x : Measured) (k : List Frame) (ds : List Decl) → t.kind ≡ kinds.Sign marks.Comma
    → step text t (states.Whole x) (frames.Value b bs spare l ∷ k) ds ≡ goes (states.Binds b (bs ++ bound_of l x.expr ∷ []) (min spare x.spare)) k ds
unfolding closed value_next
more-step text t b bs spare l x k ds e =
    close-step text t x (frames.Value b bs spare l) k ds tt (rw e (omega arith)) ∙ ap (λ kind. value_next kind b (bs ++ bound_of l x.expr ∷ []) (min spare x.spare) k ds) e

pub binds_end-step : (text : List ℕ) (t b : Token) (bs : List Bind) (spare : ℕ) (l : Label) (x : Measured) (k : List Frame) (ds : List Decl) → t.kind ≡ kinds.Reserved words.Return
    → step text t (states.Whole x) (frames.Value b bs spare l ∷ k) ds ≡ goes states.Before (frames.Returned b (bs ++ bound_of l x.expr ∷ []) (min spare x.spare) ∷ k) ds
unfolding closed value_next
binds_end-step text t b bs spare l x k ds e =
    close-step text t x (frames.Value b bs spare l) k ds tt (rw e (omega arith)) ∙ ap (λ kind. value_next kind b (bs ++ bound_of l x.expr ∷ []) (min spare x.spare) k ds) e

pub end-step : (text : List ℕ) (t b : Token) (bs : List Bind) (spare : ℕ) (x : Measured) (k : List Frame) (ds : List Decl) → t.kind ≡ kinds.Reserved words.End
    → step text t (states.Whole x) (frames.Returned b bs spare ∷ k) ds ≡ block_next (block_of b bs spare x) k ds
unfolding closed returned_next
end-step text t b bs spare x k ds e =
    close-step text t x (frames.Returned b bs spare) k ds tt (rw e (omega arith)) ∙ ap (λ kind. returned_next kind (block_of b bs spare x) k ds) e

pub block-whole : (x : Measured) (k : List Frame) (ds : List Decl) → TakesAny k → block_next x k ds ≡ goes (states.Whole x) k ds
unfolding block_next
block-whole x [] ds h = refl
block-whole x (frames.BlockFunction l ps ∷ k) ds h = absurd h
block-whole x (frame ∷ k) ds h = refl
