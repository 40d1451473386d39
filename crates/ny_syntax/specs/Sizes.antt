-- How large a tree is: how many expressions it has, and how many names it gives, to parameters, binds and declarations.
use Rattle.std.specs.Prelude.{ℕ, ◌+◌, List, [], ◌∷◌, map, length, Option, Some, None}
use Rattle.ny_syntax.specs.declared.tree.Expr.{Expr}
use Rattle.ny_syntax.specs.declared.tree.Bind.{Bind}
use Rattle.ny_syntax.specs.declared.tree.Form.TheFolds.{fold-Expr, fold-Bind}
use Rattle.ny_syntax.specs.declared.tree.Form.TheOpen.{Form-F, Expr-F, Bind-F}
use Rattle.ny_syntax.specs.declared.tree.Decl.{Decl}
use Rattle.ny_syntax.specs.declared.tree.Decl.TheVariants as decls
use Rattle.ny_syntax.specs.declared.tree.Tree.{Tree}

abbrev pub total : List ℕ → ℕ
total [] = 0
total (n ∷ ns) = n + total ns

-- the expressions and names of what a form is made of
abbrev pub form_size : Form-F ℕ ℕ ℕ → ℕ
form_size (Form-F.Number v) = 0
form_size (Form-F.Name x) = 0
form_size (Form-F.Call x es) = total es
form_size (Form-F.If c a b) = c + a + b
form_size (Form-F.Block bs e) = total bs + e
form_size (Form-F.Binary o a b) = a + b
form_size (Form-F.Prefix o a) = a

abbrev pub bind_size : Bind-F ℕ ℕ ℕ → ℕ
bind_size b = 1 + b.value

abbrev pub whole_size : Expr-F ℕ ℕ ℕ → ℕ
whole_size e = 1 + e.form

abbrev pub size_of : Expr → ℕ
size_of = fold-Expr ℕ ℕ ℕ form_size bind_size whole_size

abbrev pub size_of_bind : Bind → ℕ
size_of_bind = fold-Bind ℕ ℕ ℕ form_size bind_size whole_size

abbrev pub declaration_size : Decl → ℕ
declaration_size (decls.Function at name params body) = 1 + length params + size_of body
declaration_size (decls.Variable at name value) = 1 + size_of value

abbrev pub play_size : Option Expr → ℕ
play_size None = 0
play_size (Some e) = size_of e

-- the expressions and the names of a tree
unfoldable pub tree_size : Tree → ℕ
tree_size tree = total (map declaration_size tree.decls) + play_size tree.play
