-- The tokens of a parse tree lead the reader over it: from where an expression begins to where it is whole.
use Rattle.std.proofs.Common.{◌≡◌, ℕ, ◌+◌, ◌-◌, ◌≤◌, max, min, List, [], ◌∷◌, ◌++◌, length, Bool, true, false, refl, sym, ap, subst, ◌∙◌, append_assoc, arith}
use Rattle.ny_syntax.specs.declared.token.Token.{Token}
use Rattle.ny_syntax.specs.declared.token.TokenKind.{TokenKind}
use Rattle.ny_syntax.specs.declared.token.TokenKind.TheVariants as kinds
use Rattle.ny_syntax.specs.declared.token.Mark.TheVariants as marks
use Rattle.ny_syntax.specs.declared.token.Word.TheVariants as words
use Rattle.ny_syntax.specs.declared.tree.Expr.{Expr}
use Rattle.ny_syntax.specs.declared.tree.Bind.{Bind}
use Rattle.ny_syntax.specs.declared.tree.Form.TheVariants as forms
use Rattle.ny_syntax.specs.declared.tree.Decl.{Decl}
use Rattle.ny_syntax.specs.Levels.{level_of, right_least, prefix_level, operand_level, operator_of, prefix_of, is_prefix}
use Rattle.ny_syntax.specs.Grammar
use Rattle.ny_syntax.specs.Grammar.{Parse, Arguments, Bindings, tokens, argument_tokens, binding_tokens, height, highest_argument, highest_binding, height_limit, level, IsNumber, IsRight, IsParse, AreArguments, AreBindings, tree_of, trees_of, binds_of, name_of, expr}
use Rattle.ny_parse.specs.declared.frame.Label.{Label}
use Rattle.ny_parse.specs.declared.frame.Measured.{Measured}
use Rattle.ny_parse.specs.declared.frame.Frame.{Frame}
use Rattle.ny_parse.specs.declared.frame.Frame.TheVariants as frames
use Rattle.ny_parse.specs.declared.state.State.{State}
use Rattle.ny_parse.specs.declared.state.State.TheVariants as states
use Rattle.std.proofs.Common.{Err}
use Rattle.ny_parse.specs.Nodes.{measured, label_of, number_of, grouped_of, binary_of, call_of, conditional_of}
use Rattle.ny_parse.specs.Reading.{goes, chosen, reading, step, block_next}
use Rattle.ny_parse.proofs.Partial.{TakesAny, least, is_over}
use Rattle.ny_parse.proofs.Small.{height-positive, left-bound}
use Rattle.ny_parse.proofs.Steps.{measure, Ends, ends-above, goes-on, number-step, name-step, open-step, prefix-step, if-step, if_open-step, begin-step, return-step, with-step, bind-step, equal-step, call-step, no_arguments-step, some-arguments, operator-step, over-taken, right-taken, divisor-step, group-step, comma-step, last-step, test-step, chosen-step, otherwise-step, more-step, binds_end-step, end-step, block-whole, name-done, binary-done, prefixed-done, bound_of}

-- a token that neither opens brackets nor is an operator
pub ends-token : (n : ℕ) (t : Token) (ts : List Token) (kind : TokenKind) → t.kind ≡ kind → (kind ≡ kinds.Sign marks.Open → ⊥) → level_of kind ≤ n → Ends n (t ∷ ts)
ends-token n t ts kind e differs low = (λ o. differs (sym e ∙ o), rw e low)

pub close-ends : (n : ℕ) (t : Token) (ts : List Token) → t.kind ≡ kinds.Sign marks.Close → Ends n (t ∷ ts)
close-ends n t ts e = ends-token n t ts (kinds.Sign marks.Close) e (λ o. cc) (omega arith)

pub comma-ends : (n : ℕ) (t : Token) (ts : List Token) → t.kind ≡ kinds.Sign marks.Comma → Ends n (t ∷ ts)
comma-ends n t ts e = ends-token n t ts (kinds.Sign marks.Comma) e (λ o. cc) (omega arith)

pub word-ends : (n : ℕ) (t : Token) (ts : List Token) (w : _) → t.kind ≡ kinds.Reserved w → Ends n (t ∷ ts)
word-ends n t ts w e = ends-token n t ts (kinds.Reserved w) e (λ o. cc) (omega arith)

operator-ends : (n : ℕ) (t : Token) (ts : List Token) → 1 ≤ level_of t.kind → level_of t.kind ≤ n → Ends n (t ∷ ts)
operator-ends n t ts one_up low = (λ o. let l : level_of t.kind ≡ 0 = ap level_of o in absurd (omega arith), low)

-- what an expression begins with closes nothing
First : List Token → Type 0
First l = (t : Token) × (ts : List Token) × (l ≡ t ∷ ts) × (t.kind ≡ kinds.Sign marks.Close → ⊥)

not_close : (t : Token) (kind : TokenKind) → t.kind ≡ kind → (kind ≡ kinds.Sign marks.Close → ⊥) → t.kind ≡ kinds.Sign marks.Close → ⊥
not_close t kind e differs c = differs (sym e ∙ c)

prefix-not_close : (t : Token) → is_prefix t.kind ≡ true → t.kind ≡ kinds.Sign marks.Close → ⊥
prefix-not_close t e c = let f : is_prefix t.kind ≡ false = ap is_prefix c in absurd (cc)

first-token : (p : Parse) → IsParse p → First (tokens p)
unfolding First
first-token (Grammar.number t v) e = (t, [], refl, not_close t (kinds.Number v) e (λ c. cc))
first-token (Grammar.name t) e = (t, [], refl, not_close t kinds.Name e (λ c. cc))
first-token (Grammar.grouped o p c) (ok, is, ck) = (o, tokens p ++ c ∷ [], refl, not_close o (kinds.Sign marks.Open) ok (λ c. cc))
first-token (Grammar.prefixed m p) (sign, is, tight) = (m, tokens p, refl, prefix-not_close m sign)
first-token (Grammar.binary a op b) (low, isa, left, isb, right) =
    let f = first-token a isa in (f.0, f.1 ++ (op ∷ tokens b), ap (λ l. l ++ (op ∷ tokens b)) f.2, f.3)
first-token (Grammar.bare_call t o c) (named, ok, ck) = (t, o ∷ c ∷ [], refl, not_close t kinds.Name named (λ c. cc))
first-token (Grammar.call t o es c) (named, ok, are, ck) = (t, o ∷ argument_tokens es ++ c ∷ [], refl, not_close t kinds.Name named (λ c. cc))
first-token (Grammar.conditional i o p c q d r e) (ik, ok, isp, ck, isq, dk, isr, ek) =
    (i, o ∷ tokens p ++ c ∷ tokens q ++ d ∷ tokens r ++ e ∷ [], refl, not_close i kinds.If ik (λ c. cc))
first-token (Grammar.bare_block b r p e) (bk, rk, is, ek) = (b, r ∷ tokens p ++ e ∷ [], refl, not_close b (kinds.Reserved words.Begin) bk (λ c. cc))
first-token (Grammar.block b w bs r p e) (bk, wk, are, rk, is, ek) =
    (b, w ∷ binding_tokens bs ++ r ∷ tokens p ++ e ∷ [], refl, not_close b (kinds.Reserved words.Begin) bk (λ c. cc))

first-argument : (es : Arguments) → AreArguments es → First (argument_tokens es)
unfolding First
first-argument (Grammar.argument p) is = first-token p is
first-argument (Grammar.arguments p comma es) (is, ck, are) =
    let f = first-token p is in (f.0, f.1 ++ (comma ∷ argument_tokens es), ap (λ l. l ++ (comma ∷ argument_tokens es)) f.2, f.3)

opened-one : (text : List ℕ) (t : Token) (ts : List Token) (l : Label) (k : List Frame) (ds : List Decl) → (t.kind ≡ kinds.Sign marks.Close → ⊥)
    → reading text (t ∷ ts) (states.CallOpen l) k ds ≡ reading text (t ∷ ts) states.Before (frames.Argument l [] height_limit ∷ k) ds
unfolding reading step
opened-one text t ts l k ds differs = ap (λ n. chosen (λ m. reading text ts m.0 m.1.stack m.1.decls) (Err (t ∷ ts)) n) (some-arguments text t.kind t l k ds differs)

opened : (text : List ℕ) (es : Arguments) (rest : List Token) (l : Label) (k : List Frame) (ds : List Decl) → AreArguments es
    → reading text (argument_tokens es ++ rest) (states.CallOpen l) k ds ≡ reading text (argument_tokens es ++ rest) states.Before (frames.Argument l [] height_limit ∷ k) ds
unfolding First
opened text es rest l k ds are =
    let f = first-argument es are in
    subst (λ ts. reading text (ts ++ rest) (states.CallOpen l) k ds ≡ reading text (ts ++ rest) states.Before (frames.Argument l [] height_limit ∷ k) ds) (sym f.2)
    (opened-one text f.0 (f.1 ++ rest) l k ds f.3)

-- a right side
right-tight : (kind : TokenKind) (p : Parse) → is_over kind ≡ false → IsRight kind p → right_least kind ≤ level p
right-tight (kinds.Sign marks.Over) p e h = absurd (cc)
right-tight _ p e h = h

over-number : (kind : TokenKind) (p : Parse) → is_over kind ≡ true → IsRight kind p → IsNumber p
over-number (kinds.Sign marks.Over) p e h = h
over-number _ p e h = absurd (cc)

divisor-drives : (text : List ℕ) (b : Parse) (x : Measured) (op : Token) (k : List Frame) (ds : List Decl) (rest : List Token) → IsNumber b → IsParse b
    → reading text (tokens b ++ rest) (states.Divided x op) k ds ≡ reading text rest (states.Whole (binary_of x op (measure text b))) k ds
divisor-drives text (Grammar.number t v) x op k ds rest h e =
    goes-on text t rest (states.Divided x op) k ds (states.Whole (binary_of x op (number_of t v))) k ds (divisor-step text t v x op k ds e)
divisor-drives text (Grammar.name t) x op k ds rest h e = absurd h
divisor-drives text (Grammar.grouped o p c) x op k ds rest h e = absurd h
divisor-drives text (Grammar.prefixed m p) x op k ds rest h e = absurd h
divisor-drives text (Grammar.binary a o b) x op k ds rest h e = absurd h
divisor-drives text (Grammar.bare_call t o c) x op k ds rest h e = absurd h
divisor-drives text (Grammar.call t o es c) x op k ds rest h e = absurd h
divisor-drives text (Grammar.conditional i o p c q d r f) x op k ds rest h e = absurd h
divisor-drives text (Grammar.bare_block b r p f) x op k ds rest h e = absurd h
divisor-drives text (Grammar.block b w bs r p f) x op k ds rest h e = absurd h

-- the same expression, with equal room
abbrev ReadsTo : List ℕ → Parse → List Frame → List Decl → List Token → Type 0
ReadsTo text p k ds rest = reading text (tokens p ++ rest) states.Before k ds ≡ reading text rest (states.Whole (measure text p)) k ds

spared : (text : List ℕ) (rest : List Token) (e : Expr) (m n level : ℕ) (k : List Frame) (ds : List Decl) → m ≡ n
    → reading text rest (states.Whole (measured e m level)) k ds ≡ reading text rest (states.Whole (measured e n level)) k ds
spared text rest e m n level k ds h = ap (λ s. reading text rest (states.Whole (measured e s level)) k ds) h

conditional-split : (xs ys zs rest : List Token) (c d e : Token) → (xs ++ c ∷ ys ++ d ∷ zs ++ e ∷ []) ++ rest ≡ xs ++ (c ∷ (ys ++ (d ∷ (zs ++ (e ∷ rest)))))
conditional-split xs ys zs rest c d e =
    append_assoc (xs ++ c ∷ ys ++ d ∷ zs) (e ∷ []) rest ∙ append_assoc (xs ++ c ∷ ys) (d ∷ zs) (e ∷ rest) ∙ append_assoc xs (c ∷ ys) (d ∷ (zs ++ (e ∷ rest)))

-- a block, once what stands inside it is read
pub bare_block-drives : (text : List ℕ) (b r : Token) (p : Parse) (e : Token) (k : List Frame) (ds : List Decl) (rest : List Token) (s : State) (k2 : List Frame) (ds2 : List Decl)
    → r.kind ≡ kinds.Reserved words.Return → e.kind ≡ kinds.Reserved words.End → ReadsTo text p (frames.Returned b [] height_limit ∷ k) ds (e ∷ rest)
    → block_next (measure text (Grammar.bare_block b r p e)) k ds ≡ goes s k2 ds2
    → reading text (r ∷ (tokens p ++ (e ∷ rest))) (states.Begin b) k ds ≡ reading text rest s k2 ds2
bare_block-drives text b r p e k ds rest s k2 ds2 rk ek inner next =
    goes-on text r (tokens p ++ (e ∷ rest)) (states.Begin b) k ds states.Before (frames.Returned b [] height_limit ∷ k) ds (return-step text b r k ds rk)
    ∙ inner
    ∙ goes-on text e rest (states.Whole (measure text p)) (frames.Returned b [] height_limit ∷ k) ds s k2 ds2
    (end-step text e b [] height_limit (measure text p) k ds ek
    ∙ ap (λ n. block_next (measured (expr b.from (forms.Block [] (tree_of text p))) n operand_level) k ds) (omega arith)
    ∙ next)

pub block-drives : (text : List ℕ) (b w : Token) (bs : Bindings) (r : Token) (p : Parse) (e : Token) (k : List Frame) (ds : List Decl) (rest : List Token) (s : State) (k2 : List Frame) (ds2 : List Decl)
    → w.kind ≡ kinds.Reserved words.With → e.kind ≡ kinds.Reserved words.End
    → reading text (binding_tokens bs ++ (r ∷ (tokens p ++ (e ∷ rest)))) (states.Binds b [] height_limit) k ds
    ≡ reading text (tokens p ++ (e ∷ rest)) states.Before (frames.Returned b (binds_of text bs) (min height_limit (height_limit - highest_binding bs)) ∷ k) ds
    → ReadsTo text p (frames.Returned b (binds_of text bs) (min height_limit (height_limit - highest_binding bs)) ∷ k) ds (e ∷ rest)
    → block_next (measure text (Grammar.block b w bs r p e)) k ds ≡ goes s k2 ds2
    → reading text (w ∷ (binding_tokens bs ++ (r ∷ (tokens p ++ (e ∷ rest))))) (states.Begin b) k ds ≡ reading text rest s k2 ds2
block-drives text b w bs r p e k ds rest s k2 ds2 wk ek binds inner next =
    goes-on text w (binding_tokens bs ++ (r ∷ (tokens p ++ (e ∷ rest)))) (states.Begin b) k ds (states.Binds b [] height_limit) k ds (with-step text b w k ds wk)
    ∙ binds
    ∙ inner
    ∙ goes-on text e rest (states.Whole (measure text p)) (frames.Returned b (binds_of text bs) (min height_limit (height_limit - highest_binding bs)) ∷ k) ds s k2 ds2
    (end-step text e b (binds_of text bs) (min height_limit (height_limit - highest_binding bs)) (measure text p) k ds ek
    ∙ ap (λ n. block_next (measured (expr b.from (forms.Block (binds_of text bs) (tree_of text p))) n operand_level) k ds) (omega arith)
    ∙ next)

mutual
  pub drives : (text : List ℕ) (p : Parse) → IsParse p → (k : List Frame) (ds : List Decl) (rest : List Token) → TakesAny k → least k ≤ level p → height p + length k ≤ 1 + height_limit → Ends (level p) rest → ReadsTo text p k ds rest
  drives text (Grammar.number t v) e k ds rest takes low room ends = goes-on text t rest states.Before k ds (states.Whole (number_of t v)) k ds (number-step text t v k ds e)
  drives text (Grammar.name t) e k ds rest takes low room ends =
      goes-on text t rest states.Before k ds (states.Named (label_of text t)) k ds (name-step text t k ds e) ∙ name-done text (label_of text t) k ds operand_level rest ends
  drives text (Grammar.grouped o p c) (ok, is, ck) k ds rest takes low room ends =
      goes-on text o ((tokens p ++ c ∷ []) ++ rest) states.Before k ds states.Before (frames.Group ∷ k) ds (open-step text o k ds ok (omega (arith, height-positive p)))
      ∙ ap (λ l. reading text l states.Before (frames.Group ∷ k) ds) (append_assoc (tokens p) (c ∷ []) rest)
      ∙ drives text p is (frames.Group ∷ k) ds (c ∷ rest) tt (omega arith) (omega arith) (close-ends (level p) c rest ck)
      ∙ goes-on text c rest (states.Whole (measure text p)) (frames.Group ∷ k) ds (states.Whole (grouped_of (measure text p))) k ds (group-step text c (measure text p) k ds ck)
      ∙ spared text rest (tree_of text p) (height_limit - height p - 1) (height_limit - (1 + height p)) operand_level k ds (omega arith)
  drives text (Grammar.prefixed m p) (sign, is, tight) k ds rest takes low room ends =
      goes-on text m (tokens p ++ rest) states.Before k ds states.Before (frames.Prefix m ∷ k) ds (prefix-step text m k ds sign (omega (arith, height-positive p)))
      ∙ drives text p is (frames.Prefix m ∷ k) ds rest tt tight (omega arith) (ends-above prefix_level (level p) rest tight ends)
      ∙ prefixed-done text m (measure text p) k ds rest ends
      ∙ spared text rest (expr m.from (forms.Prefix (prefix_of m.kind) (tree_of text p))) (height_limit - height p - 1) (height_limit - (1 + height p)) prefix_level k ds (omega arith)
  drives text (Grammar.binary a op b) (one_up, isa, left, isb, right) k ds rest takes low room ends =
      ap (λ l. reading text l states.Before k ds) (append_assoc (tokens a) (op ∷ tokens b) rest)
      ∙ drives text a isa k ds (op ∷ (tokens b ++ rest)) takes (omega (arith, left-bound op.kind)) (omega arith) (operator-ends (level a) op (tokens b ++ rest) one_up (omega (arith, left-bound op.kind)))
      ∙ by_case (is_over op.kind) refl
      (λ over tight. drives text b isb (frames.Right (measure text a) op ∷ k) ds rest tt tight (omega arith) (ends-above (level_of op.kind) (level b) rest (omega arith) ends))
      ∙ spared text rest (expr op.from (forms.Binary (operator_of op.kind) (tree_of text a) (tree_of text b))) (min (height_limit - height a) (height_limit - height b) - 1)
      (height_limit - (1 + max (height a) (height b))) (level_of op.kind) k ds (omega arith)
    where
      by_case : (over : Bool) → is_over op.kind ≡ over
          → (is_over op.kind ≡ false → right_least op.kind ≤ level b → ReadsTo text b (frames.Right (measure text a) op ∷ k) ds rest)
          → reading text (op ∷ (tokens b ++ rest)) (states.Whole (measure text a)) k ds ≡ reading text rest (states.Whole (binary_of (measure text a) op (measure text b))) k ds
      by_case true e inner =
          goes-on text op (tokens b ++ rest) (states.Whole (measure text a)) k ds (states.Divided (measure text a) op) k ds
          (operator-step text op (measure text a) k ds one_up low left (omega arith) ∙ over-taken op.kind op (measure text a) k ds e)
          ∙ divisor-drives text b (measure text a) op k ds rest (over-number op.kind b e right) isb
      by_case false e inner =
          goes-on text op (tokens b ++ rest) (states.Whole (measure text a)) k ds states.Before (frames.Right (measure text a) op ∷ k) ds
          (operator-step text op (measure text a) k ds one_up low left (omega arith) ∙ right-taken op.kind op (measure text a) k ds e)
          ∙ inner e (right-tight op.kind b e right)
          ∙ binary-done text (measure text a) op (measure text b) k ds rest ends
  drives text (Grammar.bare_call t o c) (named, ok, ck) k ds rest takes low room ends =
      goes-on text t (o ∷ c ∷ rest) states.Before k ds (states.Named (label_of text t)) k ds (name-step text t k ds named)
      ∙ goes-on text o (c ∷ rest) (states.Named (label_of text t)) k ds (states.CallOpen (label_of text t)) k ds (call-step text o (label_of text t) k ds ok (omega arith))
      ∙ goes-on text c rest (states.CallOpen (label_of text t)) k ds (states.Whole (call_of (label_of text t) [] height_limit)) k ds (no_arguments-step text c (label_of text t) k ds ck)
  drives text (Grammar.call t o es c) (named, ok, are, ck) k ds rest takes low room ends =
      goes-on text t (o ∷ ((argument_tokens es ++ c ∷ []) ++ rest)) states.Before k ds (states.Named (label_of text t)) k ds (name-step text t k ds named)
      ∙ goes-on text o ((argument_tokens es ++ c ∷ []) ++ rest) (states.Named (label_of text t)) k ds (states.CallOpen (label_of text t)) k ds (call-step text o (label_of text t) k ds ok (omega arith))
      ∙ ap (λ l. reading text l (states.CallOpen (label_of text t)) k ds) (append_assoc (argument_tokens es) (c ∷ []) rest)
      ∙ opened text es (c ∷ rest) (label_of text t) k ds are
      ∙ drives_arguments text es are (label_of text t) [] height_limit k ds c rest ck (omega arith)
      ∙ spared text rest (expr t.from (forms.Call (name_of text t) (trees_of text es))) (min (height_limit - 2) (min height_limit (height_limit - highest_argument es) - 1))
      (height_limit - max 2 (1 + highest_argument es)) operand_level k ds (omega arith)
  drives text (Grammar.conditional i o p c q d r e) (ik, ok, isp, ck, isq, dk, isr, ek) k ds rest takes low room ends =
      ap (λ l. reading text l states.Before k ds) (conditional-split (i ∷ o ∷ tokens p) (tokens q) (tokens r) rest c d e)
      ∙ goes-on text i (o ∷ (tokens p ++ (c ∷ (tokens q ++ (d ∷ (tokens r ++ (e ∷ rest))))))) states.Before k ds (states.If i) k ds (if-step text i k ds ik (omega (arith, height-positive p)))
      ∙ goes-on text o (tokens p ++ (c ∷ (tokens q ++ (d ∷ (tokens r ++ (e ∷ rest)))))) (states.If i) k ds states.Before (frames.Test i ∷ k) ds (if_open-step text i o k ds ok)
      ∙ drives text p isp (frames.Test i ∷ k) ds (c ∷ (tokens q ++ (d ∷ (tokens r ++ (e ∷ rest))))) tt (omega arith) (omega arith) (comma-ends (level p) c (tokens q ++ (d ∷ (tokens r ++ (e ∷ rest)))) ck)
      ∙ goes-on text c (tokens q ++ (d ∷ (tokens r ++ (e ∷ rest)))) (states.Whole (measure text p)) (frames.Test i ∷ k) ds states.Before (frames.Chosen i (measure text p) ∷ k) ds (test-step text c i (measure text p) k ds ck)
      ∙ drives text q isq (frames.Chosen i (measure text p) ∷ k) ds (d ∷ (tokens r ++ (e ∷ rest))) tt (omega arith) (omega arith) (comma-ends (level q) d (tokens r ++ (e ∷ rest)) dk)
      ∙ goes-on text d (tokens r ++ (e ∷ rest)) (states.Whole (measure text q)) (frames.Chosen i (measure text p) ∷ k) ds states.Before (frames.Otherwise i (measure text p) (measure text q) ∷ k) ds
      (chosen-step text d i (measure text p) (measure text q) k ds dk)
      ∙ drives text r isr (frames.Otherwise i (measure text p) (measure text q) ∷ k) ds (e ∷ rest) tt (omega arith) (omega arith) (close-ends (level r) e rest ek)
      ∙ goes-on text e rest (states.Whole (measure text r)) (frames.Otherwise i (measure text p) (measure text q) ∷ k) ds (states.Whole (conditional_of i (measure text p) (measure text q) (measure text r))) k ds
      (otherwise-step text e i (measure text p) (measure text q) (measure text r) k ds ek)
      ∙ spared text rest (expr i.from (forms.If (tree_of text p) (tree_of text q) (tree_of text r))) (min (height_limit - height p) (min (height_limit - height q) (height_limit - height r)) - 1)
      (height_limit - (1 + max (height p) (max (height q) (height r)))) operand_level k ds (omega arith)
  drives text (Grammar.bare_block b r p e) (bk, rk, is, ek) k ds rest takes low room ends =
      ap (λ l. reading text l states.Before k ds) (append_assoc (b ∷ r ∷ tokens p) (e ∷ []) rest)
      ∙ goes-on text b (r ∷ (tokens p ++ (e ∷ rest))) states.Before k ds (states.Begin b) k ds (begin-step text b k ds bk (omega (arith, height-positive p)))
      ∙ bare_block-drives text b r p e k ds rest (states.Whole (measure text (Grammar.bare_block b r p e))) k ds rk ek
      (drives text p is (frames.Returned b [] height_limit ∷ k) ds (e ∷ rest) tt (omega arith) (omega arith) (word-ends (level p) e rest words.End ek))
      (block-whole (measure text (Grammar.bare_block b r p e)) k ds takes)
  drives text (Grammar.block b w bs r p e) (bk, wk, are, rk, is, ek) k ds rest takes low room ends =
      ap (λ l. reading text l states.Before k ds) (append_assoc (b ∷ w ∷ binding_tokens bs ++ r ∷ tokens p) (e ∷ []) rest ∙ append_assoc (b ∷ w ∷ binding_tokens bs) (r ∷ tokens p) (e ∷ rest))
      ∙ goes-on text b (w ∷ (binding_tokens bs ++ (r ∷ (tokens p ++ (e ∷ rest))))) states.Before k ds (states.Begin b) k ds (begin-step text b k ds bk (omega (arith, height-positive p)))
      ∙ block-drives text b w bs r p e k ds rest (states.Whole (measure text (Grammar.block b w bs r p e))) k ds wk ek
      (drives_bindings text bs are b [] height_limit k ds r (tokens p ++ (e ∷ rest)) rk (omega arith))
      (drives text p is (frames.Returned b (binds_of text bs) (min height_limit (height_limit - highest_binding bs)) ∷ k) ds (e ∷ rest) tt (omega arith) (omega arith) (word-ends (level p) e rest words.End ek))
      (block-whole (measure text (Grammar.block b w bs r p e)) k ds takes)

  drives_arguments : (text : List ℕ) (es : Arguments) → AreArguments es → (l : Label) (done : List Expr) (spare : ℕ) (k : List Frame) (ds : List Decl) (c : Token) (rest : List Token)
      → c.kind ≡ kinds.Sign marks.Close → highest_argument es + length k ≤ height_limit
      → reading text (argument_tokens es ++ (c ∷ rest)) states.Before (frames.Argument l done spare ∷ k) ds
      ≡ reading text rest (states.Whole (call_of l (done ++ trees_of text es) (min spare (height_limit - highest_argument es)))) k ds
  drives_arguments text (Grammar.argument p) is l done spare k ds c rest ck room =
      drives text p is (frames.Argument l done spare ∷ k) ds (c ∷ rest) tt (omega arith) (omega arith) (close-ends (level p) c rest ck)
      ∙ goes-on text c rest (states.Whole (measure text p)) (frames.Argument l done spare ∷ k) ds (states.Whole (call_of l (done ++ tree_of text p ∷ []) (min spare (height_limit - height p)))) k ds
      (last-step text c l done spare (measure text p) k ds ck)
  drives_arguments text (Grammar.arguments p comma es) (is, comk, are) l done spare k ds c rest ck room =
      ap (λ l2. reading text l2 states.Before (frames.Argument l done spare ∷ k) ds) (append_assoc (tokens p) (comma ∷ argument_tokens es) (c ∷ rest))
      ∙ drives text p is (frames.Argument l done spare ∷ k) ds (comma ∷ (argument_tokens es ++ (c ∷ rest))) tt (omega arith) (omega arith) (comma-ends (level p) comma (argument_tokens es ++ (c ∷ rest)) comk)
      ∙ goes-on text comma (argument_tokens es ++ (c ∷ rest)) (states.Whole (measure text p)) (frames.Argument l done spare ∷ k) ds states.Before
      (frames.Argument l (done ++ tree_of text p ∷ []) (min spare (height_limit - height p)) ∷ k) ds (comma-step text comma l done spare (measure text p) k ds comk)
      ∙ drives_arguments text es are l (done ++ tree_of text p ∷ []) (min spare (height_limit - height p)) k ds c rest ck (omega arith)
      ∙ ap (λ l2. reading text rest (states.Whole (call_of l l2 (min (min spare (height_limit - height p)) (height_limit - highest_argument es)))) k ds) (append_assoc done (tree_of text p ∷ []) (trees_of text es))
      ∙ ap (λ n. reading text rest (states.Whole (call_of l (done ++ (tree_of text p ∷ trees_of text es)) n)) k ds)
      (let e : min (min spare (height_limit - height p)) (height_limit - highest_argument es) ≡ min spare (height_limit - max (height p) (highest_argument es)) = omega arith in e)

  pub drives_bindings : (text : List ℕ) (bs : Bindings) → AreBindings bs → (b : Token) (done : List Bind) (spare : ℕ) (k : List Frame) (ds : List Decl) (r : Token) (rest : List Token)
      → r.kind ≡ kinds.Reserved words.Return → highest_binding bs + length k ≤ height_limit
      → reading text (binding_tokens bs ++ (r ∷ rest)) (states.Binds b done spare) k ds
      ≡ reading text rest states.Before (frames.Returned b (done ++ binds_of text bs) (min spare (height_limit - highest_binding bs)) ∷ k) ds
  drives_bindings text (Grammar.binding n is p) (named, isk, isp) b done spare k ds r rest rk room =
      goes-on text n (is ∷ (tokens p ++ (r ∷ rest))) (states.Binds b done spare) k ds (states.BindName b done spare (label_of text n)) k ds (bind-step text b n done spare k ds named)
      ∙ goes-on text is (tokens p ++ (r ∷ rest)) (states.BindName b done spare (label_of text n)) k ds states.Before (frames.Value b done spare (label_of text n) ∷ k) ds
      (equal-step text b is done spare (label_of text n) k ds isk)
      ∙ drives text p isp (frames.Value b done spare (label_of text n) ∷ k) ds (r ∷ rest) tt (omega arith) (omega arith) (word-ends (level p) r rest words.Return rk)
      ∙ goes-on text r rest (states.Whole (measure text p)) (frames.Value b done spare (label_of text n) ∷ k) ds states.Before
      (frames.Returned b (done ++ bound_of (label_of text n) (tree_of text p) ∷ []) (min spare (height_limit - height p)) ∷ k) ds
      (binds_end-step text r b done spare (label_of text n) (measure text p) k ds rk)
  drives_bindings text (Grammar.bindings n is p comma bs) (named, isk, isp, comk, are) b done spare k ds r rest rk room =
      goes-on text n (is ∷ ((tokens p ++ comma ∷ binding_tokens bs) ++ (r ∷ rest))) (states.Binds b done spare) k ds (states.BindName b done spare (label_of text n)) k ds (bind-step text b n done spare k ds named)
      ∙ goes-on text is ((tokens p ++ comma ∷ binding_tokens bs) ++ (r ∷ rest)) (states.BindName b done spare (label_of text n)) k ds states.Before (frames.Value b done spare (label_of text n) ∷ k) ds
      (equal-step text b is done spare (label_of text n) k ds isk)
      ∙ ap (λ l2. reading text l2 states.Before (frames.Value b done spare (label_of text n) ∷ k) ds) (append_assoc (tokens p) (comma ∷ binding_tokens bs) (r ∷ rest))
      ∙ drives text p isp (frames.Value b done spare (label_of text n) ∷ k) ds (comma ∷ (binding_tokens bs ++ (r ∷ rest))) tt (omega arith) (omega arith)
      (comma-ends (level p) comma (binding_tokens bs ++ (r ∷ rest)) comk)
      ∙ goes-on text comma (binding_tokens bs ++ (r ∷ rest)) (states.Whole (measure text p)) (frames.Value b done spare (label_of text n) ∷ k) ds
      (states.Binds b (done ++ bound_of (label_of text n) (tree_of text p) ∷ []) (min spare (height_limit - height p))) k ds
      (more-step text comma b done spare (label_of text n) (measure text p) k ds comk)
      ∙ drives_bindings text bs are b (done ++ bound_of (label_of text n) (tree_of text p) ∷ []) (min spare (height_limit - height p)) k ds r rest rk (omega arith)
      ∙ ap (λ l2. reading text rest states.Before (frames.Returned b l2 (min (min spare (height_limit - height p)) (height_limit - highest_binding bs)) ∷ k) ds)
      (append_assoc done (bound_of (label_of text n) (tree_of text p) ∷ []) (binds_of text bs))
      ∙ ap (λ m. reading text rest states.Before (frames.Returned b (done ++ (bound_of (label_of text n) (tree_of text p) ∷ binds_of text bs)) m ∷ k) ds)
      (let e : min (min spare (height_limit - height p)) (height_limit - highest_binding bs) ≡ min spare (height_limit - max (height p) (highest_binding bs)) = omega arith in e)
