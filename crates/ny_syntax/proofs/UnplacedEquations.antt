-- What each kind of expression is without its places.
use Rattle.std.proofs.Common.{◌≡◌, ℕ, List, map, sym, ap, ◌∙◌}
use Rattle.std.specs.Prelude.{ℤ}
use Rattle.ny_syntax.specs.declared.tree.Name.{Name}
use Rattle.ny_syntax.specs.declared.tree.Expr.{Expr}
use Rattle.ny_syntax.specs.declared.tree.Bind.{Bind}
use Rattle.ny_syntax.specs.declared.tree.BinOp.{BinOp}
use Rattle.ny_syntax.specs.declared.tree.PreOp.{PreOp}
use Rattle.ny_syntax.specs.declared.tree.Form.{Form}
use Rattle.ny_syntax.specs.declared.tree.Form.TheVariants as forms
use Rattle.ny_syntax.specs.declared.tree.Form.TheVariants.{rolls-Number, rolls-Name, rolls-Call, rolls-If, rolls-Block, rolls-Binary, rolls-Prefix}
use Rattle.ny_syntax.specs.declared.tree.Form.TheFolds.{fold-roll-Expr, fold-roll-Form, fold-roll-Bind}
use Rattle.ny_syntax.specs.declared.tree.Form.TheViews.{roll-Form}
use Rattle.ny_syntax.specs.declared.tree.Form.TheOpen as layers
use Rattle.ny_syntax.specs.Grammar.{expr}
use Rattle.ny_syntax.specs.SameTree.{form_kept, bind_unplaced, expr_unplaced, unplaced, unplaced_bind}

pub unplaced-number : (at : ℕ) (v : ℤ) → unplaced (expr at (forms.Number v)) ≡ expr 0 (forms.Number v)
unplaced-number at v =
    ap (λ f. unplaced (expr at f)) (sym (rolls-Number v))
    ∙ fold-roll-Expr Form Bind Expr form_kept bind_unplaced expr_unplaced (record { at = at; form = roll-Form (layers.Number v) })
    ∙ ap (expr 0) (fold-roll-Form Form Bind Expr form_kept bind_unplaced expr_unplaced (layers.Number v))

pub unplaced-name : (at : ℕ) (n : Name) → unplaced (expr at (forms.Name n)) ≡ expr 0 (forms.Name n)
unplaced-name at n =
    ap (λ f. unplaced (expr at f)) (sym (rolls-Name n))
    ∙ fold-roll-Expr Form Bind Expr form_kept bind_unplaced expr_unplaced (record { at = at; form = roll-Form (layers.Name n) })
    ∙ ap (expr 0) (fold-roll-Form Form Bind Expr form_kept bind_unplaced expr_unplaced (layers.Name n))

pub unplaced-call : (at : ℕ) (n : Name) (es : List Expr) → unplaced (expr at (forms.Call n es)) ≡ expr 0 (forms.Call n (map unplaced es))
unplaced-call at n es =
    ap (λ f. unplaced (expr at f)) (sym (rolls-Call n es))
    ∙ fold-roll-Expr Form Bind Expr form_kept bind_unplaced expr_unplaced (record { at = at; form = roll-Form (layers.Call n es) })
    ∙ ap (expr 0) (fold-roll-Form Form Bind Expr form_kept bind_unplaced expr_unplaced (layers.Call n es))

pub unplaced-if : (at : ℕ) (test a b : Expr) → unplaced (expr at (forms.If test a b)) ≡ expr 0 (forms.If (unplaced test) (unplaced a) (unplaced b))
unplaced-if at test a b =
    ap (λ f. unplaced (expr at f)) (sym (rolls-If test a b))
    ∙ fold-roll-Expr Form Bind Expr form_kept bind_unplaced expr_unplaced (record { at = at; form = roll-Form (layers.If test a b) })
    ∙ ap (expr 0) (fold-roll-Form Form Bind Expr form_kept bind_unplaced expr_unplaced (layers.If test a b))

pub unplaced-block : (at : ℕ) (bs : List Bind) (e : Expr) → unplaced (expr at (forms.Block bs e)) ≡ expr 0 (forms.Block (map unplaced_bind bs) (unplaced e))
unplaced-block at bs e =
    ap (λ f. unplaced (expr at f)) (sym (rolls-Block bs e))
    ∙ fold-roll-Expr Form Bind Expr form_kept bind_unplaced expr_unplaced (record { at = at; form = roll-Form (layers.Block bs e) })
    ∙ ap (expr 0) (fold-roll-Form Form Bind Expr form_kept bind_unplaced expr_unplaced (layers.Block bs e))

pub unplaced-binary : (at : ℕ) (op : BinOp) (a b : Expr) → unplaced (expr at (forms.Binary op a b)) ≡ expr 0 (forms.Binary op (unplaced a) (unplaced b))
unplaced-binary at op a b =
    ap (λ f. unplaced (expr at f)) (sym (rolls-Binary op a b))
    ∙ fold-roll-Expr Form Bind Expr form_kept bind_unplaced expr_unplaced (record { at = at; form = roll-Form (layers.Binary op a b) })
    ∙ ap (expr 0) (fold-roll-Form Form Bind Expr form_kept bind_unplaced expr_unplaced (layers.Binary op a b))

pub unplaced-prefix : (at : ℕ) (op : PreOp) (a : Expr) → unplaced (expr at (forms.Prefix op a)) ≡ expr 0 (forms.Prefix op (unplaced a))
unplaced-prefix at op a =
    ap (λ f. unplaced (expr at f)) (sym (rolls-Prefix op a))
    ∙ fold-roll-Expr Form Bind Expr form_kept bind_unplaced expr_unplaced (record { at = at; form = roll-Form (layers.Prefix op a) })
    ∙ ap (expr 0) (fold-roll-Form Form Bind Expr form_kept bind_unplaced expr_unplaced (layers.Prefix op a))

pub unplaced_bind-is : (b : Bind) → unplaced_bind b ≡ (let bare : Bind = record { at = 0; name = b.name; value = unplaced b.value } in bare)
unplaced_bind-is b = fold-roll-Bind Form Bind Expr form_kept bind_unplaced expr_unplaced (record { at = b.at; name = b.name; value = b.value })
