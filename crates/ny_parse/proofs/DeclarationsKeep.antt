-- A token outside expressions keeps what the state stands for.
use Rattle.std.proofs.Common.{◌≡◌, ℕ, List, [], ◌∷◌, ◌++◌, refl, sym, ap, ◌∙◌, append_assoc, append-nil, arith}
use Rattle.ny_syntax.specs.declared.token.Token.{Token}
use Rattle.ny_syntax.specs.declared.token.TokenKind.{TokenKind}
use Rattle.ny_syntax.specs.declared.token.TokenKind.TheVariants as kinds
use Rattle.ny_syntax.specs.declared.token.Mark.TheVariants as marks
use Rattle.ny_syntax.specs.declared.token.Word.TheVariants as words
use Rattle.ny_syntax.specs.declared.tree.Param.{Param}
use Rattle.ny_syntax.specs.declared.tree.Decl.{Decl}
use Rattle.ny_syntax.specs.Grammar
use Rattle.ny_syntax.specs.Grammar.{param_tokens, more_param_tokens, more_params_of, param_of, height_limit}
use Rattle.ny_parse.specs.declared.frame.Label.{Label}
use Rattle.ny_parse.specs.declared.frame.Frame.{Frame}
use Rattle.ny_parse.specs.declared.state.State.TheVariants as states
use Rattle.ny_parse.specs.Reading.{alone, outside, define_next, function_word_next, function_name_next, params_open_next, params_comma_next, params_name_next, params_close_next, variable_word_next, variable_name_next}
use Rattle.ny_parse.proofs.Lists.{after}
use Rattle.ny_parse.proofs.Partial.{HasDecls, Stands, Keeps}
use Rattle.ny_parse.proofs.Small.{one_frame, one_more, more-tokens, more-params, more-are}

pub outside-keeps : (text : List ℕ) (kind : TokenKind) (t : Token) (k : List Frame) (ds : List Decl) (used : List Token) → t.kind ≡ kind → k ≡ [] → HasDecls text ds used
    → Keeps text (used ++ t ∷ []) (outside kind t k ds)
unfolding outside
outside-keeps text (kinds.Reserved words.Define) t k ds used e none has = (none, used, t, has, e, refl)
outside-keeps text (kinds.Reserved words.Play) t k ds used e none has = ((none, used, has, e, refl), tt, omega (arith, one_frame k none))
outside-keeps text _ t k ds used e none has = tt

pub define-keeps : (text : List ℕ) (kind : TokenKind) (t : Token) (k : List Frame) (ds : List Decl) (used : List Token) → t.kind ≡ kind → Stands text states.Define k ds used
    → Keeps text (used ++ t ∷ []) (alone (define_next kind) k ds)
unfolding define_next
define-keeps text (kinds.Reserved words.Function) t k ds used e (none, before, d, has, dk, eq) = (none, before, d, t, has, dk, e, after used before (d ∷ []) t eq)
define-keeps text (kinds.Reserved words.Variable) t k ds used e (none, before, d, has, dk, eq) = (none, before, d, t, has, dk, e, after used before (d ∷ []) t eq)
define-keeps text _ t k ds used e stands = tt

pub function_word-keeps : (text : List ℕ) (kind : TokenKind) (t : Token) (k : List Frame) (ds : List Decl) (used : List Token) → t.kind ≡ kind → Stands text states.FunctionWord k ds used
    → Keeps text (used ++ t ∷ []) (alone (function_word_next text kind t) k ds)
unfolding function_word_next
function_word-keeps text kinds.Name t k ds used e (none, before, d, f, has, dk, fk, eq) = (none, before, d, f, t, has, dk, fk, (e, refl), after used before (d ∷ f ∷ []) t eq)
function_word-keeps text _ t k ds used e stands = tt

pub function_name-keeps : (text : List ℕ) (kind : TokenKind) (t : Token) (l : Label) (k : List Frame) (ds : List Decl) (used : List Token) → t.kind ≡ kind → Stands text (states.FunctionName l) k ds used
    → Keeps text (used ++ t ∷ []) (alone (function_name_next kind l) k ds)
unfolding function_name_next
function_name-keeps text (kinds.Sign marks.Open) t l k ds used e (none, before, d, f, n, has, dk, fk, label, eq) =
    (none, (before, d, f, n, t, has, dk, fk, label, e, after used before (d ∷ f ∷ n ∷ []) t eq))
function_name-keeps text _ t l k ds used e stands = tt

pub params_open-keeps : (text : List ℕ) (kind : TokenKind) (t : Token) (l : Label) (k : List Frame) (ds : List Decl) (used : List Token) → t.kind ≡ kind → Stands text (states.ParamsOpen l) k ds used
    → Keeps text (used ++ t ∷ []) (alone (params_open_next text kind t l) k ds)
unfolding params_open_next
params_open-keeps text kinds.Name t l k ds used e (none, has) = (none, used, t, [], has, (e, tt), refl, refl)
params_open-keeps text (kinds.Sign marks.Close) t l k ds used e (none, has) =
    (none, (used, t, (used, Grammar.no_params, has, tt, refl, sym (append-nil used)), e, refl))
params_open-keeps text _ t l k ds used e stands = tt

pub params_comma-keeps : (text : List ℕ) (kind : TokenKind) (t : Token) (l : Label) (ps : List Param) (k : List Frame) (ds : List Decl) (used : List Token) → t.kind ≡ kind
    → Stands text (states.ParamsComma l ps) k ds used → Keeps text (used ++ t ∷ []) (alone (params_comma_next text kind t l ps) k ds)
unfolding params_comma_next
params_comma-keeps text kinds.Name t l ps k ds used e (none, before, first, mores, c, has, (named, are), is, ck, eq) = (
  none,
  before,
  first,
  mores ++ (c, t) ∷ [],
  has,
  (named, more-are mores c t are ck e),
  ap (λ l. param_of text first ∷ l) (more-params text mores c t) ∙ ap (λ l. l ++ param_of text t ∷ []) is,
  rw (eq, more-tokens mores c t) (simp append_assoc refl),
)
params_comma-keeps text _ t l ps k ds used e stands = tt

pub params_name-keeps : (text : List ℕ) (kind : TokenKind) (t : Token) (l : Label) (ps : List Param) (k : List Frame) (ds : List Decl) (used : List Token) → t.kind ≡ kind
    → Stands text (states.ParamsName l ps) k ds used → Keeps text (used ++ t ∷ []) (alone (params_name_next kind l ps) k ds)
unfolding params_name_next
params_name-keeps text (kinds.Sign marks.Comma) t l ps k ds used e (none, before, first, mores, has, are, is, eq) =
    (none, before, first, mores, t, has, are, is, e, after used before (param_tokens (Grammar.params first mores)) t eq)
params_name-keeps text (kinds.Sign marks.Close) t l ps k ds used e (none, before, first, mores, has, are, is, eq) =
    (none, (used, t, (before, Grammar.params first mores, has, are, is, eq), e, refl))
params_name-keeps text _ t l ps k ds used e stands = tt

pub params_close-keeps : (text : List ℕ) (kind : TokenKind) (t : Token) (l : Label) (ps : List Param) (k : List Frame) (ds : List Decl) (used : List Token) → t.kind ≡ kind
    → Stands text (states.ParamsClose l ps) k ds used → Keeps text (used ++ t ∷ []) (params_close_next kind t l ps k ds)
unfolding params_close_next
params_close-keeps text (kinds.Reserved words.Return) t l ps k ds used e (none, head) = ((none, used, t, head, e, refl), tt, omega (arith, one_frame k none))
params_close-keeps text (kinds.Reserved words.Begin) t l ps k ds used e (none, head) = (used, (none, head), omega (arith, one_more k none), e, refl)
params_close-keeps text _ t l ps k ds used e stands = tt

pub variable_word-keeps : (text : List ℕ) (kind : TokenKind) (t : Token) (k : List Frame) (ds : List Decl) (used : List Token) → t.kind ≡ kind → Stands text states.VariableWord k ds used
    → Keeps text (used ++ t ∷ []) (alone (variable_word_next text kind t) k ds)
unfolding variable_word_next
variable_word-keeps text kinds.Name t k ds used e (none, before, d, v, has, dk, vk, eq) = (none, before, d, v, t, has, dk, vk, (e, refl), after used before (d ∷ v ∷ []) t eq)
variable_word-keeps text _ t k ds used e stands = tt

pub variable_name-keeps : (text : List ℕ) (kind : TokenKind) (t : Token) (l : Label) (k : List Frame) (ds : List Decl) (used : List Token) → t.kind ≡ kind → Stands text (states.VariableName l) k ds used
    → Keeps text (used ++ t ∷ []) (variable_name_next kind l k ds)
unfolding variable_name_next
variable_name-keeps text (kinds.Sign marks.Equal) t l k ds used e (none, before, d, v, n, has, dk, vk, label, eq) =
    ((none, before, d, v, n, t, has, dk, vk, label, e, after used before (d ∷ v ∷ n ∷ []) t eq), tt, omega (arith, one_frame k none))
variable_name-keeps text _ t l k ds used e stands = tt
