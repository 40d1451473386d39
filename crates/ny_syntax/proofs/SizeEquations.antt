-- How large each kind of expression is.
use Rattle.std.proofs.Common.{◌≡◌, ℕ, ◌+◌, List, map, sym, ap, ◌∙◌}
use Rattle.std.specs.Prelude.{ℤ}
use Rattle.ny_syntax.specs.declared.tree.Name.{Name}
use Rattle.ny_syntax.specs.declared.tree.Expr.{Expr}
use Rattle.ny_syntax.specs.declared.tree.Bind.{Bind}
use Rattle.ny_syntax.specs.declared.tree.BinOp.{BinOp}
use Rattle.ny_syntax.specs.declared.tree.PreOp.{PreOp}
use Rattle.ny_syntax.specs.declared.tree.Form.{Form}
use Rattle.ny_syntax.specs.declared.tree.Form.TheVariants as forms
use Rattle.ny_syntax.specs.declared.tree.Form.TheVariants.{rolls-Number, rolls-Name, rolls-Call, rolls-If, rolls-Block, rolls-Binary, rolls-Prefix}
use Rattle.ny_syntax.specs.declared.tree.Form.TheFolds.{fold-roll-Expr, fold-roll-Form, fold_out-Bind}
use Rattle.ny_syntax.specs.declared.tree.Form.TheViews.{roll-Form}
use Rattle.ny_syntax.specs.declared.tree.Form.TheOpen as layers
use Rattle.ny_syntax.specs.Grammar.{expr}
use Rattle.ny_syntax.specs.Sizes.{total, form_size, bind_size, whole_size, size_of, size_of_bind}

pub size-number : (at : ℕ) (v : ℤ) → size_of (expr at (forms.Number v)) ≡ 1 + 0
size-number at v =
    ap (λ f. size_of (expr at f)) (sym (rolls-Number v))
    ∙ fold-roll-Expr ℕ ℕ ℕ form_size bind_size whole_size (record { at = at; form = roll-Form (layers.Number v) })
    ∙ ap (λ n. 1 + n) (fold-roll-Form ℕ ℕ ℕ form_size bind_size whole_size (layers.Number v))

pub size-name : (at : ℕ) (n : Name) → size_of (expr at (forms.Name n)) ≡ 1 + 0
size-name at n =
    ap (λ f. size_of (expr at f)) (sym (rolls-Name n))
    ∙ fold-roll-Expr ℕ ℕ ℕ form_size bind_size whole_size (record { at = at; form = roll-Form (layers.Name n) })
    ∙ ap (λ n. 1 + n) (fold-roll-Form ℕ ℕ ℕ form_size bind_size whole_size (layers.Name n))

pub size-call : (at : ℕ) (n : Name) (es : List Expr) → size_of (expr at (forms.Call n es)) ≡ 1 + total (map size_of es)
size-call at n es =
    ap (λ f. size_of (expr at f)) (sym (rolls-Call n es))
    ∙ fold-roll-Expr ℕ ℕ ℕ form_size bind_size whole_size (record { at = at; form = roll-Form (layers.Call n es) })
    ∙ ap (λ n. 1 + n) (fold-roll-Form ℕ ℕ ℕ form_size bind_size whole_size (layers.Call n es))

pub size-if : (at : ℕ) (test a b : Expr) → size_of (expr at (forms.If test a b)) ≡ 1 + (size_of test + size_of a + size_of b)
size-if at test a b =
    ap (λ f. size_of (expr at f)) (sym (rolls-If test a b))
    ∙ fold-roll-Expr ℕ ℕ ℕ form_size bind_size whole_size (record { at = at; form = roll-Form (layers.If test a b) })
    ∙ ap (λ n. 1 + n) (fold-roll-Form ℕ ℕ ℕ form_size bind_size whole_size (layers.If test a b))

pub size-block : (at : ℕ) (bs : List Bind) (e : Expr) → size_of (expr at (forms.Block bs e)) ≡ 1 + (total (map size_of_bind bs) + size_of e)
size-block at bs e =
    ap (λ f. size_of (expr at f)) (sym (rolls-Block bs e))
    ∙ fold-roll-Expr ℕ ℕ ℕ form_size bind_size whole_size (record { at = at; form = roll-Form (layers.Block bs e) })
    ∙ ap (λ n. 1 + n) (fold-roll-Form ℕ ℕ ℕ form_size bind_size whole_size (layers.Block bs e))

pub size-binary : (at : ℕ) (op : BinOp) (a b : Expr) → size_of (expr at (forms.Binary op a b)) ≡ 1 + (size_of a + size_of b)
size-binary at op a b =
    ap (λ f. size_of (expr at f)) (sym (rolls-Binary op a b))
    ∙ fold-roll-Expr ℕ ℕ ℕ form_size bind_size whole_size (record { at = at; form = roll-Form (layers.Binary op a b) })
    ∙ ap (λ n. 1 + n) (fold-roll-Form ℕ ℕ ℕ form_size bind_size whole_size (layers.Binary op a b))

pub size-prefix : (at : ℕ) (op : PreOp) (a : Expr) → size_of (expr at (forms.Prefix op a)) ≡ 1 + size_of a
size-prefix at op a =
    ap (λ f. size_of (expr at f)) (sym (rolls-Prefix op a))
    ∙ fold-roll-Expr ℕ ℕ ℕ form_size bind_size whole_size (record { at = at; form = roll-Form (layers.Prefix op a) })
    ∙ ap (λ n. 1 + n) (fold-roll-Form ℕ ℕ ℕ form_size bind_size whole_size (layers.Prefix op a))

pub size_of_bind-is : (b : Bind) → size_of_bind b ≡ 1 + size_of b.value
size_of_bind-is b = fold_out-Bind ℕ ℕ ℕ form_size bind_size whole_size b
