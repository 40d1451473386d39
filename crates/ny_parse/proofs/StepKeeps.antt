-- Each token keeps what the state stands for; what the reader answers at the end is the tree of the tokens.
use Rattle.std.proofs.Common.{◌≡◌, ℕ, ◌≤◌, List, [], ◌∷◌, ◌++◌, length, Option, Some, None, refl, sym, ap, ◌∙◌, append_assoc, append-nil, arith}
use Rattle.ny_syntax.specs.declared.token.Token.{Token}
use Rattle.ny_syntax.specs.declared.token.TokenKind.TheVariants as kinds
use Rattle.ny_syntax.specs.declared.token.Word.TheVariants as words
use Rattle.ny_syntax.specs.declared.tree.Expr.{Expr}
use Rattle.ny_syntax.specs.declared.tree.Decl.{Decl}
use Rattle.ny_syntax.specs.declared.tree.Decl.TheVariants as decls
use Rattle.ny_syntax.specs.declared.tree.Tree.{Tree}
use Rattle.ny_syntax.specs.Grammar
use Rattle.ny_syntax.specs.Grammar.{Parse, tokens, height, height_limit, IsParse, tree_of, declarations_tokens, HasTree}
use Rattle.ny_parse.specs.declared.frame.Measured.{Measured}
use Rattle.ny_parse.specs.declared.frame.Frame.{Frame}
use Rattle.ny_parse.specs.declared.frame.Frame.TheVariants as frames
use Rattle.ny_parse.specs.declared.state.State.{State}
use Rattle.ny_parse.specs.declared.state.State.TheVariants as states
use Rattle.ny_parse.specs.Nodes.{named_of}
use Rattle.ny_parse.specs.Reading.{step, tree, settled, ended, settled_end, whole_end, finish}
use Rattle.ny_parse.proofs.Partial.{HasDecls, IsWhole, Stands, Keeps}
use Rattle.ny_parse.proofs.DeclarationsKeep.{outside-keeps, define-keeps, function_word-keeps, function_name-keeps, params_open-keeps, params_comma-keeps, params_name-keeps, params_close-keeps, variable_word-keeps, variable_name-keeps}
use Rattle.ny_parse.proofs.OperandsKeep.{operand-keeps, call_open-keeps, if-keeps, begin-keeps, binds-keeps, bind_name-keeps, divided-keeps}
use Rattle.ny_parse.proofs.WholesKeep.{settled-whole, whole-keeps, named-keeps, named-whole, variable-decls, returned-decls}

pub step-keeps : (text : List ℕ) (t : Token) (s : State) (k : List Frame) (ds : List Decl) (used : List Token) → Stands text s k ds used → Keeps text (used ++ t ∷ []) (step text t s k ds)
unfolding step
step-keeps text t states.Between k ds used (none, has) = outside-keeps text t.kind t k ds used refl none has
step-keeps text t states.Define k ds used stands = define-keeps text t.kind t k ds used refl stands
step-keeps text t states.FunctionWord k ds used stands = function_word-keeps text t.kind t k ds used refl stands
step-keeps text t (states.FunctionName l) k ds used stands = function_name-keeps text t.kind t l k ds used refl stands
step-keeps text t (states.ParamsOpen l) k ds used stands = params_open-keeps text t.kind t l k ds used refl stands
step-keeps text t (states.ParamsComma l ps) k ds used stands = params_comma-keeps text t.kind t l ps k ds used refl stands
step-keeps text t (states.ParamsName l ps) k ds used stands = params_name-keeps text t.kind t l ps k ds used refl stands
step-keeps text t (states.ParamsClose l ps) k ds used stands = params_close-keeps text t.kind t l ps k ds used refl stands
step-keeps text t states.VariableWord k ds used stands = variable_word-keeps text t.kind t k ds used refl stands
step-keeps text t (states.VariableName l) k ds used stands = variable_name-keeps text t.kind t l k ds used refl stands
step-keeps text t states.Before k ds used stands = operand-keeps text t.kind t k ds used refl stands
step-keeps text t (states.Named l) k ds used stands = named-keeps text t.kind t l k ds used refl stands
step-keeps text t (states.Whole x) k ds used stands = whole-keeps text t x k ds used stands
step-keeps text t (states.Divided a op) k ds used stands = divided-keeps text t.kind t a op k ds used refl stands
step-keeps text t (states.CallOpen l) k ds used stands = call_open-keeps text t.kind t l k ds used refl stands
step-keeps text t (states.If i) k ds used stands = if-keeps text t.kind t i k ds used refl stands
step-keeps text t (states.Begin b) k ds used stands = begin-keeps text t.kind t b k ds used refl stands
step-keeps text t (states.Binds b bs spare) k ds used stands = binds-keeps text t.kind t b bs spare k ds used refl stands
step-keeps text t (states.BindName b bs spare l) k ds used stands = bind_name-keeps text t.kind t b bs spare l k ds used refl stands

-- declarations alone
pub silent-tree : (text : List ℕ) (ds : List Decl) (used : List Token) → HasDecls text ds used → HasTree text used (tree text ds None (length text))
silent-tree text ds used (all, are, low, tk, of) =
    (Grammar.program all Grammar.silent, (are, tt), omega arith, append-nil (declarations_tokens all) ∙ tk, ap (λ l. tree text l None (length text)) of)

-- and a played expression
pub playing-tree : (text : List ℕ) (ds : List Decl) (before used : List Token) (t : Token) (p : Parse) (e : Expr) → HasDecls text ds before → t.kind ≡ kinds.Reserved words.Play → IsParse p → height p ≤ height_limit
    → tree_of text p ≡ e → used ≡ before ++ (t ∷ tokens p) → HasTree text used (tree text ds (Some e) t.from)
playing-tree text ds before used t p e (all, are, low, tk, of) play is high made eq = (
  Grammar.program all (Grammar.plays t p),
  (are, (play, is)),
  omega arith,
  ap (λ l. l ++ (t ∷ tokens p)) tk ∙ sym eq,
  ap (λ l. tree text l (Some (tree_of text p)) t.from) of ∙ ap (λ y. tree text ds (Some y) t.from) made,
)

-- what is answered at the end, if anything
abbrev pub Finishes : List ℕ → List Token → Option Tree → Type 0
Finishes text used None = Unit {0}
Finishes text used (Some made) = HasTree text used made

pub played-tree : (text : List ℕ) (x : Measured) (t : Token) (k : List Frame) (ds : List Decl) (used : List Token) → IsWhole text x (frames.Play t ∷ k) ds used → HasTree text used (tree text ds (Some x.expr) t.from)
played-tree text x t k ds used (mid, q, (none, before, has, play, eq), tt2, (isq, treeq, highq, lvq), bound, leastq, eq2) =
    playing-tree text ds before used t q x.expr has play isq (omega arith) treeq (rw (eq2, eq) (simp append_assoc refl))

ended-finishes : (text : List ℕ) (frame : Frame) (x : Measured) (k : List Frame) (ds : List Decl) (used : List Token) → IsWhole text x (frame ∷ k) ds used → Finishes text used (ended text frame x ds)
unfolding ended
ended-finishes text (frames.Variable l) x k ds used whole =
    let h = variable-decls text ds l k x used whole in silent-tree text (ds ++ decls.Variable l.at l.name x.expr ∷ []) used h.1
ended-finishes text (frames.Function l ps) x k ds used whole =
    let h = returned-decls text ds l ps k x used whole in silent-tree text (ds ++ decls.Function l.at l.name ps x.expr ∷ []) used h.1
ended-finishes text (frames.Play t) x k ds used whole = played-tree text x t k ds used whole
ended-finishes text _ x k ds used whole = tt

settled-finishes : (text : List ℕ) (x : Measured) (k : List Frame) (ds : List Decl) (used : List Token) → IsWhole text x k ds used → Finishes text used (settled_end text x k ds)
unfolding settled_end
settled-finishes text x [] ds used whole = tt
settled-finishes text x (frame ∷ k) ds used whole = ended-finishes text frame x k ds used whole

whole-finishes : (text : List ℕ) (x : Measured) (k : List Frame) (ds : List Decl) (used : List Token) → IsWhole text x k ds used → Finishes text used (whole_end text x k ds)
unfolding whole_end
whole-finishes text x k ds used whole = settled-finishes text (settled 0 x k).0 (settled 0 x k).1 ds used (settled-whole text 0 x k ds used whole)

pub finishes : (text : List ℕ) (s : State) (k : List Frame) (ds : List Decl) (used : List Token) → Stands text s k ds used → Finishes text used (finish text s k ds)
unfolding finish
finishes text states.Between k ds used (none, has) = silent-tree text ds used has
finishes text (states.Named l) k ds used stands = whole-finishes text (named_of l) k ds used (named-whole text l k ds used stands)
finishes text (states.Whole x) k ds used stands = whole-finishes text x k ds used stands
finishes text _ k ds used stands = tt
