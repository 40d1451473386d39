-- What one token does to the reader, and what the reader answers at the end of the tokens. None stands where the token, or the
-- end, may not come.
use Rattle.std.specs.Prelude.{◌≡◌, ℕ, ◌≤◌, All, length, min, List, [], ◌∷◌, ◌++◌, Result, Ok, Err, Option, Some, None, nat_le, nat_lt, Bool, ◌&&◌, if◌then◌else◌}
use Rattle.ny_syntax.specs.declared.token.Token.{Token}
use Rattle.ny_syntax.specs.declared.token.TokenKind.{TokenKind}
use Rattle.ny_syntax.specs.declared.token.TokenKind.TheVariants as kinds
use Rattle.ny_syntax.specs.declared.token.Mark.TheVariants as marks
use Rattle.ny_syntax.specs.declared.token.Word.TheVariants as words
use Rattle.ny_syntax.specs.declared.tree.Expr.{Expr}
use Rattle.ny_syntax.specs.declared.tree.Bind.{Bind}
use Rattle.ny_syntax.specs.declared.tree.Param.{Param}
use Rattle.ny_syntax.specs.declared.tree.Decl.{Decl}
use Rattle.ny_syntax.specs.declared.tree.Decl.TheVariants as decls
use Rattle.ny_syntax.specs.declared.tree.Tree.{Tree}
use Rattle.ny_syntax.specs.Levels.{level_of, left_least, right_least}
use Rattle.ny_syntax.specs.Grammar.{param_of, height_limit}
use Rattle.ny_parse.specs.declared.fault.ParseFault.{ParseFault}
use Rattle.ny_parse.specs.declared.fault.ParseFault.TheVariants as faults
use Rattle.ny_parse.specs.declared.frame.Label.{Label}
use Rattle.ny_parse.specs.declared.frame.Measured.{Measured}
use Rattle.ny_parse.specs.declared.frame.Frame.{Frame}
use Rattle.ny_parse.specs.declared.frame.Frame.TheVariants as frames
use Rattle.ny_parse.specs.declared.state.State.{State}
use Rattle.ny_parse.specs.declared.state.State.TheVariants as states
use Rattle.ny_parse.specs.declared.reader.Reader.{Reader}
use Rattle.ny_parse.specs.Prefix.{place_of}
use Rattle.ny_parse.specs.Nodes.{label_of, number_of, named_of, grouped_of, prefixed_of, binary_of, call_of, conditional_of, block_of}

-- each token is a slice of the text
abbrev pub AreSlices : List ℕ → List Token → Type 0
AreSlices text ts = All (λ t. (t.from ≤ t.to) × (t.to ≤ length text)) ts

abbrev pub Next : Type 0
Next = Option (State × Reader)

abbrev pub goes : State → List Frame → List Decl → Next
goes s k ds = Some (s, record { stack = k; decls = ds })

-- a new state, and nothing else
abbrev pub alone : Option State → List Frame → List Decl → Next
alone None k ds = None
alone (Some s) k ds = goes s k ds

-- as much is open as the greatest height: only a number or a name fits
abbrev pub is_full : List Frame → Bool
is_full k = nat_le height_limit (length k)

-- between declarations
unfoldable pub outside : TokenKind → Token → List Frame → List Decl → Next
outside (kinds.Reserved words.Define) t k ds = goes states.Define k ds
outside (kinds.Reserved words.Play) t k ds = goes states.Before (frames.Play t ∷ k) ds
outside _ t k ds = None

unfoldable pub define_next : TokenKind → Option State
define_next (kinds.Reserved words.Function) = Some states.FunctionWord
define_next (kinds.Reserved words.Variable) = Some states.VariableWord
define_next _ = None

unfoldable pub function_word_next : List ℕ → TokenKind → Token → Option State
function_word_next text kinds.Name t = Some (states.FunctionName (label_of text t))
function_word_next text _ t = None

unfoldable pub function_name_next : TokenKind → Label → Option State
function_name_next (kinds.Sign marks.Open) l = Some (states.ParamsOpen l)
function_name_next _ l = None

unfoldable pub params_open_next : List ℕ → TokenKind → Token → Label → Option State
params_open_next text kinds.Name t l = Some (states.ParamsName l (param_of text t ∷ []))
params_open_next text (kinds.Sign marks.Close) t l = Some (states.ParamsClose l [])
params_open_next text _ t l = None

unfoldable pub params_comma_next : List ℕ → TokenKind → Token → Label → List Param → Option State
params_comma_next text kinds.Name t l ps = Some (states.ParamsName l (ps ++ param_of text t ∷ []))
params_comma_next text _ t l ps = None

unfoldable pub params_name_next : TokenKind → Label → List Param → Option State
params_name_next (kinds.Sign marks.Comma) l ps = Some (states.ParamsComma l ps)
params_name_next (kinds.Sign marks.Close) l ps = Some (states.ParamsClose l ps)
params_name_next _ l ps = None

unfoldable pub params_close_next : TokenKind → Token → Label → List Param → List Frame → List Decl → Next
params_close_next (kinds.Reserved words.Return) t l ps k ds = goes states.Before (frames.Function l ps ∷ k) ds
params_close_next (kinds.Reserved words.Begin) t l ps k ds = goes (states.Begin t) (frames.BlockFunction l ps ∷ k) ds
params_close_next _ t l ps k ds = None

unfoldable pub variable_word_next : List ℕ → TokenKind → Token → Option State
variable_word_next text kinds.Name t = Some (states.VariableName (label_of text t))
variable_word_next text _ t = None

unfoldable pub variable_name_next : TokenKind → Label → List Frame → List Decl → Next
variable_name_next (kinds.Sign marks.Equal) l k ds = goes states.Before (frames.Variable l ∷ k) ds
variable_name_next _ l k ds = None

-- a state and a construct that an expression of height 2 or more begins with
abbrev pub deeper : List Frame → Next → Next
deeper k next = if is_full k then None else next

-- what an expression begins with, but for a number
unfoldable pub opening_next : List ℕ → TokenKind → Token → List Frame → List Decl → Next
opening_next text kinds.Name t k ds = goes (states.Named (label_of text t)) k ds
opening_next text (kinds.Sign marks.Open) t k ds = deeper k (goes states.Before (frames.Group ∷ k) ds)
opening_next text (kinds.Sign marks.Minus) t k ds = deeper k (goes states.Before (frames.Prefix t ∷ k) ds)
opening_next text (kinds.Sign marks.Not) t k ds = deeper k (goes states.Before (frames.Prefix t ∷ k) ds)
opening_next text kinds.If t k ds = deeper k (goes (states.If t) k ds)
opening_next text (kinds.Reserved words.Begin) t k ds = deeper k (goes (states.Begin t) k ds)
opening_next text _ t k ds = None

-- where an expression begins
unfoldable pub operand_next : List ℕ → TokenKind → Token → List Frame → List Decl → Next
operand_next text (kinds.Number v) t k ds = goes (states.Whole (number_of t v)) k ds
operand_next text kind t k ds = opening_next text kind t k ds

unfoldable pub call_open_next : List ℕ → TokenKind → Token → Label → List Frame → List Decl → Next
call_open_next text (kinds.Sign marks.Close) t l k ds = goes (states.Whole (call_of l [] height_limit)) k ds
call_open_next text kind t l k ds = operand_next text kind t (frames.Argument l [] height_limit ∷ k) ds

unfoldable pub if_next : TokenKind → Token → List Frame → List Decl → Next
if_next (kinds.Sign marks.Open) i k ds = goes states.Before (frames.Test i ∷ k) ds
if_next _ i k ds = None

unfoldable pub begin_next : TokenKind → Token → List Frame → List Decl → Next
begin_next (kinds.Reserved words.With) b k ds = goes (states.Binds b [] height_limit) k ds
begin_next (kinds.Reserved words.Return) b k ds = goes states.Before (frames.Returned b [] height_limit ∷ k) ds
begin_next _ b k ds = None

unfoldable pub binds_next : List ℕ → TokenKind → Token → Token → List Bind → ℕ → Option State
binds_next text kinds.Name t b bs spare = Some (states.BindName b bs spare (label_of text t))
binds_next text _ t b bs spare = None

unfoldable pub bind_name_next : TokenKind → Token → List Bind → ℕ → Label → List Frame → List Decl → Next
bind_name_next (kinds.Sign marks.Equal) b bs spare l k ds = goes states.Before (frames.Value b bs spare l ∷ k) ds
bind_name_next _ b bs spare l k ds = None

unfoldable pub divided_next : TokenKind → Token → Measured → Token → Option State
divided_next (kinds.Number v) t a op = Some (states.Whole (binary_of a op (number_of t v)))
divided_next _ t a op = None

-- An expression before an operator of this level (0 before any other token) is made part of the expressions round it, up to
-- the one that the operator goes into.
unfoldable pub settled : ℕ → Measured → List Frame → Measured × List Frame
settled next x [] = (x, [])
settled next x (frames.Right a op ∷ k) =
    if nat_lt next (right_least op.kind) then settled next (binary_of a op x) k else (x, frames.Right a op ∷ k)
settled next x (frames.Prefix m ∷ k) = settled next (prefixed_of m x) k
settled next x (frame ∷ k) = (x, frame ∷ k)

-- an operator after a settled expression
abbrev pub operator_taken : TokenKind → Token → Measured → List Frame → List Decl → Next
operator_taken (kinds.Sign marks.Over) t x k ds = goes (states.Divided x t) k ds
operator_taken _ t x k ds = goes states.Before (frames.Right x t ∷ k) ds

unfoldable pub operator_next : Token → Measured → List Frame → List Decl → Next
operator_next t x k ds =
    if nat_le (left_least t.kind) x.level && nat_le (length k) x.spare then operator_taken t.kind t x k ds else None

-- another token after a settled expression, by what the expression stands in
unfoldable pub group_next : TokenKind → Measured → List Frame → List Decl → Next
group_next (kinds.Sign marks.Close) x k ds = goes (states.Whole (grouped_of x)) k ds
group_next _ x k ds = None

unfoldable pub argument_next : TokenKind → Label → List Expr → ℕ → List Frame → List Decl → Next
argument_next (kinds.Sign marks.Comma) l es spare k ds = goes states.Before (frames.Argument l es spare ∷ k) ds
argument_next (kinds.Sign marks.Close) l es spare k ds = goes (states.Whole (call_of l es spare)) k ds
argument_next _ l es spare k ds = None

unfoldable pub test_next : TokenKind → Token → Measured → List Frame → List Decl → Next
test_next (kinds.Sign marks.Comma) i x k ds = goes states.Before (frames.Chosen i x ∷ k) ds
test_next _ i x k ds = None

unfoldable pub chosen_next : TokenKind → Token → Measured → Measured → List Frame → List Decl → Next
chosen_next (kinds.Sign marks.Comma) i a x k ds = goes states.Before (frames.Otherwise i a x ∷ k) ds
chosen_next _ i a x k ds = None

unfoldable pub otherwise_next : TokenKind → Token → Measured → Measured → Measured → List Frame → List Decl → Next
otherwise_next (kinds.Sign marks.Close) i a b x k ds = goes (states.Whole (conditional_of i a b x)) k ds
otherwise_next _ i a b x k ds = None

unfoldable pub value_next : TokenKind → Token → List Bind → ℕ → List Frame → List Decl → Next
value_next (kinds.Sign marks.Comma) b bs spare k ds = goes (states.Binds b bs spare) k ds
value_next (kinds.Reserved words.Return) b bs spare k ds = goes states.Before (frames.Returned b bs spare ∷ k) ds
value_next _ b bs spare k ds = None

-- a whole block: a function's body, or an expression
unfoldable pub block_next : Measured → List Frame → List Decl → Next
block_next x (frames.BlockFunction l ps ∷ k) ds = goes states.Between k (ds ++ decls.Function l.at l.name ps x.expr ∷ [])
block_next x k ds = goes (states.Whole x) k ds

unfoldable pub returned_next : TokenKind → Measured → List Frame → List Decl → Next
returned_next (kinds.Reserved words.End) x k ds = block_next x k ds
returned_next _ x k ds = None

unfoldable pub closed : Frame → TokenKind → Token → Measured → List Frame → List Decl → Next
closed (frames.Variable l) kind t x k ds = outside kind t k (ds ++ decls.Variable l.at l.name x.expr ∷ [])
closed (frames.Function l ps) kind t x k ds = outside kind t k (ds ++ decls.Function l.at l.name ps x.expr ∷ [])
closed frames.Group kind t x k ds = group_next kind x k ds
closed (frames.Argument l es spare) kind t x k ds = argument_next kind l (es ++ x.expr ∷ []) (min spare x.spare) k ds
closed (frames.Test i) kind t x k ds = test_next kind i x k ds
closed (frames.Chosen i a) kind t x k ds = chosen_next kind i a x k ds
closed (frames.Otherwise i a b) kind t x k ds = otherwise_next kind i a b x k ds
closed (frames.Value b bs spare l) kind t x k ds =
    value_next kind b (bs ++ record { at = l.at; name = l.name; value = x.expr } ∷ []) (min spare x.spare) k ds
closed (frames.Returned b bs spare) kind t x k ds = returned_next kind (block_of b bs spare x) k ds
closed _ kind t x k ds = None

unfoldable pub close_next : Token → Measured → List Frame → List Decl → Next
close_next t x [] ds = None
close_next t x (frame ∷ k) ds = closed frame t.kind t x k ds

abbrev pub settled_next : Token → Measured × List Frame → List Decl → Next
settled_next t s ds = if nat_lt 0 (level_of t.kind) then operator_next t s.0 s.1 ds else close_next t s.0 s.1 ds

-- after a whole expression
unfoldable pub whole_next : Token → Measured → List Frame → List Decl → Next
whole_next t x k ds = settled_next t (settled (level_of t.kind) x k) ds

-- after a name in an expression
unfoldable pub named_next : TokenKind → Token → Label → List Frame → List Decl → Next
named_next (kinds.Sign marks.Open) t l k ds = deeper k (goes (states.CallOpen l) k ds)
named_next _ t l k ds = whole_next t (named_of l) k ds

unfoldable pub step : List ℕ → Token → State → List Frame → List Decl → Next
step text t states.Between k ds = outside t.kind t k ds
step text t states.Define k ds = alone (define_next t.kind) k ds
step text t states.FunctionWord k ds = alone (function_word_next text t.kind t) k ds
step text t (states.FunctionName l) k ds = alone (function_name_next t.kind l) k ds
step text t (states.ParamsOpen l) k ds = alone (params_open_next text t.kind t l) k ds
step text t (states.ParamsComma l ps) k ds = alone (params_comma_next text t.kind t l ps) k ds
step text t (states.ParamsName l ps) k ds = alone (params_name_next t.kind l ps) k ds
step text t (states.ParamsClose l ps) k ds = params_close_next t.kind t l ps k ds
step text t states.VariableWord k ds = alone (variable_word_next text t.kind t) k ds
step text t (states.VariableName l) k ds = variable_name_next t.kind l k ds
step text t states.Before k ds = operand_next text t.kind t k ds
step text t (states.Named l) k ds = named_next t.kind t l k ds
step text t (states.Whole x) k ds = whole_next t x k ds
step text t (states.Divided a op) k ds = alone (divided_next t.kind t a op) k ds
step text t (states.CallOpen l) k ds = call_open_next text t.kind t l k ds
step text t (states.If i) k ds = if_next t.kind i k ds
step text t (states.Begin b) k ds = begin_next t.kind b k ds
step text t (states.Binds b bs spare) k ds = alone (binds_next text t.kind t b bs spare) k ds
step text t (states.BindName b bs spare l) k ds = bind_name_next t.kind b bs spare l k ds

abbrev pub tree : List ℕ → List Decl → Option Expr → ℕ → Tree
tree text ds play place = record { decls = ds; play = play; play_at = place; end = length text }

-- the end of the tokens after a settled expression, by what the expression stands in
unfoldable pub ended : List ℕ → Frame → Measured → List Decl → Option Tree
ended text (frames.Variable l) x ds = Some (tree text (ds ++ decls.Variable l.at l.name x.expr ∷ []) None (length text))
ended text (frames.Function l ps) x ds = Some (tree text (ds ++ decls.Function l.at l.name ps x.expr ∷ []) None (length text))
ended text (frames.Play t) x ds = Some (tree text ds (Some x.expr) t.from)
ended text _ x ds = None

unfoldable pub settled_end : List ℕ → Measured → List Frame → List Decl → Option Tree
settled_end text x [] ds = None
settled_end text x (frame ∷ k) ds = ended text frame x ds

unfoldable pub whole_end : List ℕ → Measured → List Frame → List Decl → Option Tree
whole_end text x k ds = let s = settled 0 x k in settled_end text s.0 s.1 ds

unfoldable pub finish : List ℕ → State → List Frame → List Decl → Option Tree
finish text states.Between k ds = Some (tree text ds None (length text))
finish text (states.Named l) k ds = whole_end text (named_of l) k ds
finish text (states.Whole x) k ds = whole_end text x k ds
finish text _ k ds = None

abbrev pub chosen : {A B : Type 0} → (A → B) → B → Option A → B
chosen f other None = other
chosen f other (Some x) = f x

-- all the tokens: the tree, or the tokens from the one on that may not come
unfoldable pub reading : List ℕ → List Token → State → List Frame → List Decl → Result Tree (List Token)
reading text [] s k ds = chosen Ok (Err []) (finish text s k ds)
reading text (t ∷ ts) s k ds = chosen (λ n. reading text ts n.0 n.1.stack n.1.decls) (Err (t ∷ ts)) (step text t s k ds)

-- what a function of the reader returned, and how it left the reader, is what the token does, unless memory ran out
abbrev pub Goes : Result State ParseFault → ℕ → Reader → Next → Type 0
Goes (Ok s) place r next = next ≡ Some (s, r)
Goes (Err faults.OutOfMemory) place r next = Unit {0}
Goes (Err (faults.At at)) place r next = (next ≡ None) × (at ≡ place)

-- the same of a new state alone
abbrev pub Tells : {A : Type 0} → Result A ParseFault → ℕ → Option A → Type 0
Tells (Ok s) place next = next ≡ Some s
Tells (Err faults.OutOfMemory) place next = Unit {0}
Tells (Err (faults.At at)) place next = (next ≡ None) × (at ≡ place)

-- what the parser returned is what the reading gives, unless memory ran out
abbrev pub Answers : List ℕ → Result Tree ParseFault → Result Tree (List Token) → Type 0
Answers text (Ok tree) read = read ≡ Ok tree
Answers text (Err faults.OutOfMemory) read = Unit {0}
Answers text (Err (faults.At at)) read = (rest : List Token) × (read ≡ Err rest) × (at ≡ place_of text rest)
