-- What the reader took can always be gone on with to an accepted text: with numbers, names and closing tokens.
use Rattle.std.proofs.Common.{ℕ, min, List, [], ◌∷◌, ◌++◌, length, Some, None, refl, sym, subst, append_assoc, append-nil}
use Rattle.ny_syntax.specs.declared.token.Token.{Token}
use Rattle.ny_syntax.specs.declared.token.TokenKind.{TokenKind}
use Rattle.ny_syntax.specs.declared.token.TokenKind.TheVariants as kinds
use Rattle.ny_syntax.specs.declared.token.Mark.TheVariants as marks
use Rattle.ny_syntax.specs.declared.token.Word.TheVariants as words
use Rattle.ny_syntax.specs.declared.tree.Bind.{Bind}
use Rattle.ny_syntax.specs.declared.tree.Param.{Param}
use Rattle.ny_syntax.specs.declared.tree.Decl.{Decl}
use Rattle.ny_syntax.specs.declared.tree.Decl.TheVariants as decls
use Rattle.std.proofs.Common.{pos}
use Rattle.ny_syntax.specs.declared.token.Mark.{Mark}
use Rattle.ny_syntax.specs.declared.token.Word.{Word}
use Rattle.ny_syntax.specs.Grammar.{HasTree}
use Rattle.ny_parse.specs.declared.frame.Label.{Label}
use Rattle.ny_parse.specs.declared.frame.Measured.{Measured}
use Rattle.ny_parse.specs.declared.frame.Frame.{Frame}
use Rattle.ny_parse.specs.declared.frame.Frame.TheVariants as frames
use Rattle.ny_parse.specs.declared.state.State.{State}
use Rattle.ny_parse.specs.declared.state.State.TheVariants as states
use Rattle.ny_parse.specs.Nodes.{label_of, number_of, named_of, grouped_of, prefixed_of, binary_of, block_of, conditional_of}
use Rattle.ny_parse.specs.Prefix.{IsViable}
use Rattle.ny_parse.specs.Reading.{tree, define_next, function_word_next, function_name_next, params_open_next, params_comma_next, params_name_next, params_close_next, variable_word_next, variable_name_next, operand_next, call_open_next, if_next, begin_next, binds_next, bind_name_next, divided_next, group_next, argument_next, test_next, chosen_next, otherwise_next, value_next, block_next, returned_next}
use Rattle.ny_parse.proofs.Partial.{TakesAny, IsWhole, Stands, Keeps}
use Rattle.ny_parse.proofs.DeclarationsKeep.{define-keeps, function_word-keeps, function_name-keeps, params_open-keeps, params_comma-keeps, params_name-keeps, params_close-keeps, variable_word-keeps, variable_name-keeps}
use Rattle.ny_parse.proofs.OperandsKeep.{operand-keeps, call_open-keeps, if-keeps, begin-keeps, binds-keeps, bind_name-keeps, divided-keeps}
use Rattle.ny_parse.proofs.WholesKeep.{binary-whole, prefixed-whole, group-keeps, argument-keeps, test-keeps, chosen-keeps, otherwise-keeps, value-keeps, returned-keeps, variable-decls, returned-decls, named-whole}
use Rattle.ny_parse.proofs.StepKeeps.{silent-tree, played-tree}

abbrev token : TokenKind → Token
token kind = record { kind = kind; from = 0; to = 0 }

abbrev zero_token : Token
zero_token = token (kinds.Number (pos 0))

abbrev name_token : Token
name_token = token kinds.Name

abbrev mark : Mark → Token
mark m = token (kinds.Sign m)

abbrev word : Word → Token
word w = token (kinds.Reserved w)

viable : (text : List ℕ) (used : List Token) (made : _) → HasTree text used made → IsViable text used
viable text used made has = ([], made, subst (λ l. HasTree text l made) (sym (append-nil used)) has)

-- before one more token
earlier : (text : List ℕ) (used : List Token) (t : Token) → IsViable text (used ++ t ∷ []) → IsViable text used
earlier text used t (more, made, has) = (t ∷ more, made, subst (λ l. HasTree text l made) (append_assoc used (t ∷ []) more) has)

-- a number where an expression begins
zero-whole : (text : List ℕ) (k : List Frame) (ds : List Decl) (used : List Token) → Stands text states.Before k ds used → IsWhole text (number_of zero_token (pos 0)) k ds (used ++ zero_token ∷ [])
unfolding operand_next
zero-whole text k ds used stands = operand-keeps text (kinds.Number (pos 0)) zero_token k ds used refl stands

-- what has begun is gone on with if each expression inside it can be
abbrev Closes : List ℕ → List Frame → List Decl → Type 0
Closes text k ds = (x : Measured) (used : List Token) → IsWhole text x k ds used → IsViable text used

begun : (text : List ℕ) (k : List Frame) (ds : List Decl) → Closes text k ds → (used : List Token) → Stands text states.Before k ds used → IsViable text used
begun text k ds closes used stands = earlier text used zero_token (closes (number_of zero_token (pos 0)) (used ++ zero_token ∷ []) (zero-whole text k ds used stands))

otherwise-closes : (text : List ℕ) (i : Token) (a b : Measured) (k : List Frame) (ds : List Decl) → Closes text k ds → Closes text (frames.Otherwise i a b ∷ k) ds
unfolding otherwise_next
otherwise-closes text i a b k ds closes x used whole =
    earlier text used (mark marks.Close) (closes (conditional_of i a b x) (used ++ mark marks.Close ∷ []) (otherwise-keeps text (kinds.Sign marks.Close) (mark marks.Close) i a b x k ds used refl whole))

chosen-closes : (text : List ℕ) (i : Token) (a : Measured) (k : List Frame) (ds : List Decl) → Closes text k ds → Closes text (frames.Chosen i a ∷ k) ds
unfolding chosen_next
chosen-closes text i a k ds closes x used whole =
    earlier text used (mark marks.Comma)
    (begun text (frames.Otherwise i a x ∷ k) ds (otherwise-closes text i a x k ds closes) (used ++ mark marks.Comma ∷ []) (chosen-keeps text (kinds.Sign marks.Comma) (mark marks.Comma) i a x k ds used refl whole))

test-closes : (text : List ℕ) (i : Token) (k : List Frame) (ds : List Decl) → Closes text k ds → Closes text (frames.Test i ∷ k) ds
unfolding test_next
test-closes text i k ds closes x used whole =
    earlier text used (mark marks.Comma)
    (begun text (frames.Chosen i x ∷ k) ds (chosen-closes text i x k ds closes) (used ++ mark marks.Comma ∷ []) (test-keeps text (kinds.Sign marks.Comma) (mark marks.Comma) i x k ds used refl whole))

-- a whole block
block-closes : (text : List ℕ) (x : Measured) (k : List Frame) (ds : List Decl) (used : List Token) → (TakesAny k → Closes text k ds) → Keeps text used (block_next x k ds) → IsViable text used
unfolding block_next
block-closes text x [] ds used closes (before, p, holds, takes, reads, bound, leastp, eq) = absurd holds
block-closes text x (frames.BlockFunction l ps ∷ k) ds used closes (none, has) =
    viable text used (tree text (ds ++ decls.Function l.at l.name ps x.expr ∷ []) None (length text)) (silent-tree text (ds ++ decls.Function l.at l.name ps x.expr ∷ []) used has)
block-closes text x (frame ∷ k) ds used closes whole = closes tt x used whole

returned-closes : (text : List ℕ) (b : Token) (bs : List Bind) (spare : ℕ) (k : List Frame) (ds : List Decl) → (TakesAny k → Closes text k ds) → Closes text (frames.Returned b bs spare ∷ k) ds
unfolding returned_next
returned-closes text b bs spare k ds closes x used whole =
    earlier text used (word words.End)
    (block-closes text (block_of b bs spare x) k ds (used ++ word words.End ∷ []) closes (returned-keeps text (kinds.Reserved words.End) (word words.End) b bs spare x k ds used refl whole))

value-closes : (text : List ℕ) (b : Token) (bs : List Bind) (spare : ℕ) (l : Label) (k : List Frame) (ds : List Decl) → (TakesAny k → Closes text k ds) → Closes text (frames.Value b bs spare l ∷ k) ds
unfolding value_next
value-closes text b bs spare l k ds closes x used whole =
    earlier text used (word words.Return)
    (begun text (frames.Returned b (bs ++ record { at = l.at; name = l.name; value = x.expr } ∷ []) (min spare x.spare) ∷ k) ds
    (returned-closes text b (bs ++ record { at = l.at; name = l.name; value = x.expr } ∷ []) (min spare x.spare) k ds closes) (used ++ word words.Return ∷ [])
    (value-keeps text (kinds.Reserved words.Return) (word words.Return) b bs spare l x k ds used refl whole))

pub closes : (text : List ℕ) (k : List Frame) (ds : List Decl) → Closes text k ds
unfolding group_next argument_next
closes text [] ds x used (before, p, holds, takes, reads, bound, leastp, eq) = absurd holds
closes text (frames.Variable l ∷ k) ds x used whole =
    let h = variable-decls text ds l k x used whole in
    viable text used (tree text (ds ++ decls.Variable l.at l.name x.expr ∷ []) None (length text)) (silent-tree text (ds ++ decls.Variable l.at l.name x.expr ∷ []) used h.1)
closes text (frames.Function l ps ∷ k) ds x used whole =
    let h = returned-decls text ds l ps k x used whole in
    viable text used (tree text (ds ++ decls.Function l.at l.name ps x.expr ∷ []) None (length text)) (silent-tree text (ds ++ decls.Function l.at l.name ps x.expr ∷ []) used h.1)
closes text (frames.BlockFunction l ps ∷ k) ds x used (before, p, holds, takes, reads, bound, leastp, eq) = absurd takes
closes text (frames.Play t ∷ k) ds x used whole = viable text used (tree text ds (Some x.expr) t.from) (played-tree text x t k ds used whole)
closes text (frames.Group ∷ k) ds x used whole =
    earlier text used (mark marks.Close) (closes text k ds (grouped_of x) (used ++ mark marks.Close ∷ []) (group-keeps text (kinds.Sign marks.Close) (mark marks.Close) x k ds used refl whole))
closes text (frames.Prefix m ∷ k) ds x used whole = closes text k ds (prefixed_of m x) used (prefixed-whole text m x k ds used whole)
closes text (frames.Right a op ∷ k) ds x used whole = closes text k ds (binary_of a op x) used (binary-whole text a op x k ds used whole)
closes text (frames.Argument l es spare ∷ k) ds x used whole =
    earlier text used (mark marks.Close) (closes text k ds _ (used ++ mark marks.Close ∷ []) (argument-keeps text (kinds.Sign marks.Close) (mark marks.Close) l es spare x k ds used refl whole))
closes text (frames.Test i ∷ k) ds x used whole = test-closes text i k ds (closes text k ds) x used whole
closes text (frames.Chosen i a ∷ k) ds x used whole = chosen-closes text i a k ds (closes text k ds) x used whole
closes text (frames.Otherwise i a b ∷ k) ds x used whole = otherwise-closes text i a b k ds (closes text k ds) x used whole
closes text (frames.Value b bs spare l ∷ k) ds x used whole = value-closes text b bs spare l k ds (λ takes. closes text k ds) x used whole
closes text (frames.Returned b bs spare ∷ k) ds x used whole = returned-closes text b bs spare k ds (λ takes. closes text k ds) x used whole

before-viable : (text : List ℕ) (k : List Frame) (ds : List Decl) (used : List Token) → Stands text states.Before k ds used → IsViable text used
before-viable text k ds used stands = begun text k ds (closes text k ds) used stands

params_close-viable : (text : List ℕ) (l : Label) (ps : List Param) (k : List Frame) (ds : List Decl) (used : List Token) → Stands text (states.ParamsClose l ps) k ds used → IsViable text used
unfolding params_close_next
params_close-viable text l ps k ds used stands =
    earlier text used (word words.Return) (before-viable text (frames.Function l ps ∷ k) ds (used ++ word words.Return ∷ []) (params_close-keeps text (kinds.Reserved words.Return) (word words.Return) l ps k ds used refl stands))

params_name-viable : (text : List ℕ) (l : Label) (ps : List Param) (k : List Frame) (ds : List Decl) (used : List Token) → Stands text (states.ParamsName l ps) k ds used → IsViable text used
unfolding params_name_next
params_name-viable text l ps k ds used stands =
    earlier text used (mark marks.Close) (params_close-viable text l ps k ds (used ++ mark marks.Close ∷ []) (params_name-keeps text (kinds.Sign marks.Close) (mark marks.Close) l ps k ds used refl stands))

params_open-viable : (text : List ℕ) (l : Label) (k : List Frame) (ds : List Decl) (used : List Token) → Stands text (states.ParamsOpen l) k ds used → IsViable text used
unfolding params_open_next
params_open-viable text l k ds used stands =
    earlier text used (mark marks.Close) (params_close-viable text l [] k ds (used ++ mark marks.Close ∷ []) (params_open-keeps text (kinds.Sign marks.Close) (mark marks.Close) l k ds used refl stands))

function_name-viable : (text : List ℕ) (l : Label) (k : List Frame) (ds : List Decl) (used : List Token) → Stands text (states.FunctionName l) k ds used → IsViable text used
unfolding function_name_next
function_name-viable text l k ds used stands =
    earlier text used (mark marks.Open) (params_open-viable text l k ds (used ++ mark marks.Open ∷ []) (function_name-keeps text (kinds.Sign marks.Open) (mark marks.Open) l k ds used refl stands))

variable_name-viable : (text : List ℕ) (l : Label) (k : List Frame) (ds : List Decl) (used : List Token) → Stands text (states.VariableName l) k ds used → IsViable text used
unfolding variable_name_next
variable_name-viable text l k ds used stands =
    earlier text used (mark marks.Equal) (before-viable text (frames.Variable l ∷ k) ds (used ++ mark marks.Equal ∷ []) (variable_name-keeps text (kinds.Sign marks.Equal) (mark marks.Equal) l k ds used refl stands))

variable_word-viable : (text : List ℕ) (k : List Frame) (ds : List Decl) (used : List Token) → Stands text states.VariableWord k ds used → IsViable text used
unfolding variable_word_next
variable_word-viable text k ds used stands =
    earlier text used name_token (variable_name-viable text (label_of text name_token) k ds (used ++ name_token ∷ []) (variable_word-keeps text kinds.Name name_token k ds used refl stands))

bind_name-viable : (text : List ℕ) (b : Token) (bs : List Bind) (spare : ℕ) (l : Label) (k : List Frame) (ds : List Decl) (used : List Token) → Stands text (states.BindName b bs spare l) k ds used → IsViable text used
unfolding bind_name_next
bind_name-viable text b bs spare l k ds used stands =
    earlier text used (mark marks.Equal)
    (before-viable text (frames.Value b bs spare l ∷ k) ds (used ++ mark marks.Equal ∷ []) (bind_name-keeps text (kinds.Sign marks.Equal) (mark marks.Equal) b bs spare l k ds used refl stands))

-- each state
pub stands-viable : (text : List ℕ) (s : State) (k : List Frame) (ds : List Decl) (used : List Token) → Stands text s k ds used → IsViable text used
unfolding define_next function_word_next params_comma_next call_open_next if_next begin_next binds_next divided_next
stands-viable text states.Between k ds used (none, has) = viable text used (tree text ds None (length text)) (silent-tree text ds used has)
stands-viable text states.Define k ds used stands =
    earlier text used (word words.Variable) (variable_word-viable text k ds (used ++ word words.Variable ∷ []) (define-keeps text (kinds.Reserved words.Variable) (word words.Variable) k ds used refl stands))
stands-viable text states.FunctionWord k ds used stands =
    earlier text used name_token (function_name-viable text (label_of text name_token) k ds (used ++ name_token ∷ []) (function_word-keeps text kinds.Name name_token k ds used refl stands))
stands-viable text (states.FunctionName l) k ds used stands = function_name-viable text l k ds used stands
stands-viable text (states.ParamsOpen l) k ds used stands = params_open-viable text l k ds used stands
stands-viable text (states.ParamsComma l ps) k ds used stands =
    earlier text used name_token (params_name-viable text l _ k ds (used ++ name_token ∷ []) (params_comma-keeps text kinds.Name name_token l ps k ds used refl stands))
stands-viable text (states.ParamsName l ps) k ds used stands = params_name-viable text l ps k ds used stands
stands-viable text (states.ParamsClose l ps) k ds used stands = params_close-viable text l ps k ds used stands
stands-viable text states.VariableWord k ds used stands = variable_word-viable text k ds used stands
stands-viable text (states.VariableName l) k ds used stands = variable_name-viable text l k ds used stands
stands-viable text states.Before k ds used stands = before-viable text k ds used stands
stands-viable text (states.Named l) k ds used stands = closes text k ds (named_of l) used (named-whole text l k ds used stands)
stands-viable text (states.Whole x) k ds used stands = closes text k ds x used stands
stands-viable text (states.Divided a op) k ds used stands =
    earlier text used zero_token
    (closes text k ds (binary_of a op (number_of zero_token (pos 0))) (used ++ zero_token ∷ []) (divided-keeps text (kinds.Number (pos 0)) zero_token a op k ds used refl stands))
stands-viable text (states.CallOpen l) k ds used stands =
    earlier text used (mark marks.Close) (closes text k ds _ (used ++ mark marks.Close ∷ []) (call_open-keeps text (kinds.Sign marks.Close) (mark marks.Close) l k ds used refl stands))
stands-viable text (states.If i) k ds used stands =
    earlier text used (mark marks.Open) (before-viable text (frames.Test i ∷ k) ds (used ++ mark marks.Open ∷ []) (if-keeps text (kinds.Sign marks.Open) (mark marks.Open) i k ds used refl stands))
stands-viable text (states.Begin b) k ds used stands =
    earlier text used (word words.Return)
    (before-viable text (frames.Returned b [] 200 ∷ k) ds (used ++ word words.Return ∷ []) (begin-keeps text (kinds.Reserved words.Return) (word words.Return) b k ds used refl stands))
stands-viable text (states.Binds b bs spare) k ds used stands =
    earlier text used name_token (bind_name-viable text b bs spare (label_of text name_token) k ds (used ++ name_token ∷ []) (binds-keeps text kinds.Name name_token b bs spare k ds used refl stands))
stands-viable text (states.BindName b bs spare l) k ds used stands = bind_name-viable text b bs spare l k ds used stands
