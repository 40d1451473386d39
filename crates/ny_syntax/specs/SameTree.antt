-- Trees that are the same but for places.
use Rattle.std.specs.Prelude.{◌≡◌, ℕ, List, map, Option, Some, None}
use Rattle.ny_syntax.specs.declared.token.Token.{Token}
use Rattle.ny_syntax.specs.declared.tree.Expr.{Expr}
use Rattle.ny_syntax.specs.declared.tree.Bind.{Bind}
use Rattle.ny_syntax.specs.declared.tree.Form.{Form}
use Rattle.ny_syntax.specs.declared.tree.Form.TheVariants as forms
use Rattle.ny_syntax.specs.declared.tree.Form.TheFolds.{fold-Expr, fold-Bind}
use Rattle.ny_syntax.specs.declared.tree.Form.TheOpen.{Form-F, Expr-F, Bind-F}
use Rattle.ny_syntax.specs.declared.tree.Param.{Param}
use Rattle.ny_syntax.specs.declared.tree.Decl.{Decl}
use Rattle.ny_syntax.specs.declared.tree.Decl.TheVariants as decls
use Rattle.ny_syntax.specs.declared.tree.Tree.{Tree}
use Rattle.ny_syntax.specs.Grammar.{HasTree}

abbrev pub form_kept : Form-F Form Bind Expr → Form
form_kept (Form-F.Number v) = forms.Number v
form_kept (Form-F.Name n) = forms.Name n
form_kept (Form-F.Call n es) = forms.Call n es
form_kept (Form-F.If test a b) = forms.If test a b
form_kept (Form-F.Block bs e) = forms.Block bs e
form_kept (Form-F.Binary op a b) = forms.Binary op a b
form_kept (Form-F.Prefix op a) = forms.Prefix op a

abbrev pub bind_unplaced : Bind-F Form Bind Expr → Bind
bind_unplaced b = record { at = 0; name = b.name; value = b.value }

abbrev pub expr_unplaced : Expr-F Form Bind Expr → Expr
expr_unplaced e = record { at = 0; form = e.form }

-- an expression with 0 for each place
abbrev pub unplaced : Expr → Expr
unplaced = fold-Expr Form Bind Expr form_kept bind_unplaced expr_unplaced

abbrev pub unplaced_bind : Bind → Bind
unplaced_bind = fold-Bind Form Bind Expr form_kept bind_unplaced expr_unplaced

abbrev pub unplaced_param : Param → Param
unplaced_param p = record { at = 0; name = p.name }

abbrev pub unplaced_declaration : Decl → Decl
unplaced_declaration (decls.Function at n ps body) = decls.Function 0 n (map unplaced_param ps) (unplaced body)
unplaced_declaration (decls.Variable at n value) = decls.Variable 0 n (unplaced value)

abbrev pub unplaced_play : Option Expr → Option Expr
unplaced_play None = None
unplaced_play (Some e) = Some (unplaced e)

-- a tree with 0 for each place
abbrev pub without_places : Tree → Tree
without_places tree = record { decls = map unplaced_declaration tree.decls; play = unplaced_play tree.play; play_at = 0; end = 0 }

-- the tokens of a text have this tree, with places of their own
abbrev pub HasTreeElsewhere : List ℕ → List Token → Tree → Type 0
HasTreeElsewhere text ts tree = (same : Tree) × HasTree text ts same × (without_places same ≡ without_places tree)
