-- How each kind of expression is written, and tokens after others.
use Rattle.std.proofs.Common.{◌≡◌, ℕ, List, [], ◌∷◌, ◌++◌, map, refl, sym, ap, ◌∙◌, append_assoc}
use Rattle.std.specs.Prelude.{ℤ}
use Rattle.ny_syntax.specs.declared.tree.Name.{Name}
use Rattle.ny_syntax.specs.declared.tree.Expr.{Expr}
use Rattle.ny_syntax.specs.declared.tree.Bind.{Bind}
use Rattle.ny_syntax.specs.declared.tree.BinOp.{BinOp}
use Rattle.ny_syntax.specs.declared.tree.PreOp.{PreOp}
use Rattle.ny_syntax.specs.declared.tree.Form.TheVariants as forms
use Rattle.ny_syntax.specs.declared.tree.Form.TheVariants.{rolls-Number, rolls-Name, rolls-Call, rolls-If, rolls-Block, rolls-Binary, rolls-Prefix}
use Rattle.ny_syntax.specs.declared.tree.Form.TheFolds.{fold-roll-Expr, fold-roll-Form, fold-roll-Bind}
use Rattle.ny_syntax.specs.declared.tree.Form.TheViews.{roll-Form}
use Rattle.ny_syntax.specs.declared.tree.Form.TheOpen as layers
use Rattle.ny_syntax.specs.declared.tree.Form.TheOpen.{Form-F}
use Rattle.ny_syntax.specs.Grammar.{expr}
use Rattle.ny_syntax.specs.Spelled.{Lexeme, spaced, onto, name, sign}
use Rattle.ny_syntax.specs.declared.token.Mark.TheVariants as marks
use Rattle.ny_syntax.specs.Canonical.{Written, operand, form_written, bind_written, expr_written, written, written_bind}

pub written-number : (at : ℕ) (v : ℤ) → written (expr at (forms.Number v)) ≡ form_written (Form-F.Number v)
written-number at v =
    ap (λ f. written (expr at f)) (sym (rolls-Number v))
    ∙ fold-roll-Expr Written Written Written form_written bind_written expr_written (record { at = at; form = roll-Form (layers.Number v) })
    ∙ fold-roll-Form Written Written Written form_written bind_written expr_written (layers.Number v)

pub written-name : (at : ℕ) (n : Name) → written (expr at (forms.Name n)) ≡ form_written (Form-F.Name n)
written-name at n =
    ap (λ f. written (expr at f)) (sym (rolls-Name n))
    ∙ fold-roll-Expr Written Written Written form_written bind_written expr_written (record { at = at; form = roll-Form (layers.Name n) })
    ∙ fold-roll-Form Written Written Written form_written bind_written expr_written (layers.Name n)

pub written-call : (at : ℕ) (n : Name) (es : List Expr) → written (expr at (forms.Call n es)) ≡ form_written (Form-F.Call n (map written es))
written-call at n es =
    ap (λ f. written (expr at f)) (sym (rolls-Call n es))
    ∙ fold-roll-Expr Written Written Written form_written bind_written expr_written (record { at = at; form = roll-Form (layers.Call n es) })
    ∙ fold-roll-Form Written Written Written form_written bind_written expr_written (layers.Call n es)

pub written-if : (at : ℕ) (test a b : Expr) → written (expr at (forms.If test a b)) ≡ form_written (Form-F.If (written test) (written a) (written b))
written-if at test a b =
    ap (λ f. written (expr at f)) (sym (rolls-If test a b))
    ∙ fold-roll-Expr Written Written Written form_written bind_written expr_written (record { at = at; form = roll-Form (layers.If test a b) })
    ∙ fold-roll-Form Written Written Written form_written bind_written expr_written (layers.If test a b)

pub written-block : (at : ℕ) (bs : List Bind) (e : Expr) → written (expr at (forms.Block bs e)) ≡ form_written (Form-F.Block (map written_bind bs) (written e))
written-block at bs e =
    ap (λ f. written (expr at f)) (sym (rolls-Block bs e))
    ∙ fold-roll-Expr Written Written Written form_written bind_written expr_written (record { at = at; form = roll-Form (layers.Block bs e) })
    ∙ fold-roll-Form Written Written Written form_written bind_written expr_written (layers.Block bs e)

pub written-binary : (at : ℕ) (op : BinOp) (a b : Expr) → written (expr at (forms.Binary op a b)) ≡ form_written (Form-F.Binary op (written a) (written b))
written-binary at op a b =
    ap (λ f. written (expr at f)) (sym (rolls-Binary op a b))
    ∙ fold-roll-Expr Written Written Written form_written bind_written expr_written (record { at = at; form = roll-Form (layers.Binary op a b) })
    ∙ fold-roll-Form Written Written Written form_written bind_written expr_written (layers.Binary op a b)

pub written-prefix : (at : ℕ) (op : PreOp) (a : Expr) → written (expr at (forms.Prefix op a)) ≡ form_written (Form-F.Prefix op (written a))
written-prefix at op a =
    ap (λ f. written (expr at f)) (sym (rolls-Prefix op a))
    ∙ fold-roll-Expr Written Written Written form_written bind_written expr_written (record { at = at; form = roll-Form (layers.Prefix op a) })
    ∙ fold-roll-Form Written Written Written form_written bind_written expr_written (layers.Prefix op a)

pub written_bind-is : (b : Bind) → written_bind b ≡ operand (written b.value).height (name b.name ∷ sign marks.Equal ∷ (written b.value).lexemes)
written_bind-is b = fold-roll-Bind Written Written Written form_written bind_written expr_written (record { at = b.at; name = b.name; value = b.value })

pub spaced-append : (words more : List Lexeme) → spaced (words ++ more) ≡ spaced words ++ spaced more
spaced-append [] more = refl
spaced-append (word ∷ words) more = ap (λ z. 32 ∷ word.bytes ++ z) (spaced-append words more) ∙ ap (λ z. 32 ∷ z) (sym (append_assoc word.bytes (spaced words) (spaced more)))

pub onto-append : (out : List ℕ) (words more : List Lexeme) → onto out (words ++ more) ≡ onto (onto out words) more
onto-append out [] more = refl
onto-append out (word ∷ words) more = onto-append (out ++ 32 ∷ word.bytes) words more

pub ruleset written_forms = (written-number, written-name, written-call, written-if, written-block, written-binary, written-prefix)

pub ruleset tokens_after_others = (onto-append)
