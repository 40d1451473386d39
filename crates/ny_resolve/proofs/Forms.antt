-- The faults of an expression, by its form.
use Rattle.std.proofs.Common.{◌≡◌, Bool, true, false, List, [], ◌++◌, refl, ap, sym, ◌∙◌}
use Rattle.std.specs.Prelude.{if◌then◌else◌, ℤ}
use Rattle.ny_syntax.specs.declared.tree.Name.{Name}
use Rattle.ny_syntax.specs.declared.tree.Expr.{Expr}
use Rattle.ny_syntax.specs.declared.tree.Bind.{Bind}
use Rattle.ny_syntax.specs.declared.tree.BinOp.{BinOp}
use Rattle.ny_syntax.specs.declared.tree.Form.{Form}
use Rattle.ny_syntax.specs.declared.tree.Form.TheVariants as forms
use Rattle.ny_syntax.specs.declared.tree.Form.TheVariants.{rolls-Number, rolls-Call, rolls-If, rolls-Binary}
use Rattle.ny_syntax.specs.declared.tree.Form.TheFolds.{fold-Form, fold-roll-Form, fold_out-Form, fold_out-Expr, fold_out-Bind}
use Rattle.ny_syntax.specs.declared.tree.Form.TheViews.{roll-Form, out-Form, roll-out-Form}
use Rattle.ny_syntax.specs.declared.tree.Form.TheOpen.{Form-F}
use Rattle.ny_resolve.specs.declared.fault.CheckWhy.TheVariants as why
use Rattle.ny_resolve.specs.Faults.{fault_if}
use Rattle.ny_resolve.specs.Literals.{value_of_shape, is_zero}
use Rattle.ny_resolve.specs.Names.{Scope}
use Rattle.ny_resolve.specs.Reading.{Formed, BindReading, Reading, ReadPart, form_reading, bind_reading, expr_reading, reading, reading_of_bind, is_division, binary_read}

pub faults-Number : (e : Expr) (v : ℤ) (s : Scope) → e.form ≡ forms.Number v → ((reading e).read s).faults ≡ []
faults-Number e v s is = rw (fold_out-Expr Formed BindReading Reading form_reading bind_reading expr_reading e, is, ← rolls-Number v, fold-roll-Form Formed BindReading Reading form_reading bind_reading expr_reading (Form-F.Number v))

pub faults-If : (e c a b : Expr) (s : Scope) → e.form ≡ forms.If c a b
    → ((reading e).read s).faults ≡ ((reading c).read s).faults ++ (((reading a).read s).faults ++ ((reading b).read s).faults)
faults-If e c a b s is = rw (fold_out-Expr Formed BindReading Reading form_reading bind_reading expr_reading e, is, ← rolls-If c a b, fold-roll-Form Formed BindReading Reading form_reading bind_reading expr_reading (Form-F.If c a b))

read-Binary : (e : Expr) (o : BinOp) (a b : Expr) (s : Scope) → e.form ≡ forms.Binary o a b → (reading e).read s ≡ binary_read e.at o (reading a) (reading b) s
read-Binary e o a b s is = rw (fold_out-Expr Formed BindReading Reading form_reading bind_reading expr_reading e, is, ← rolls-Binary o a b, fold-roll-Form Formed BindReading Reading form_reading bind_reading expr_reading (Form-F.Binary o a b))

then_faults : (d : Bool) (p q : ReadPart) → d ≡ true → (if d then p else q).faults ≡ p.faults
then_faults true p q h = refl
then_faults false p q h = cc

else_faults : (d : Bool) (p q : ReadPart) → d ≡ false → (if d then p else q).faults ≡ q.faults
else_faults true p q h = cc
else_faults false p q h = refl

pub faults-Division : (e : Expr) (o : BinOp) (a b : Expr) (s : Scope) → e.form ≡ forms.Binary o a b → is_division o ≡ true
    → ((reading e).read s).faults ≡ fault_if (is_zero (value_of_shape (reading b).shape)) why.ZeroDivisor e.at ++ ((reading a).read s).faults
faults-Division e o a b s is h = ap (λ (r : ReadPart). r.faults) (read-Binary e o a b s is) ∙ then_faults (is_division o) _ _ h

pub faults-Binary : (e : Expr) (o : BinOp) (a b : Expr) (s : Scope) → e.form ≡ forms.Binary o a b → is_division o ≡ false
    → ((reading e).read s).faults ≡ ((reading a).read s).faults ++ ((reading b).read s).faults
faults-Binary e o a b s is h = ap (λ (r : ReadPart). r.faults) (read-Binary e o a b s is) ∙ else_faults (is_division o) _ _ h

pub bind_is : (b : Bind) → reading_of_bind b ≡ record { at = b.at; name = b.name.bytes; read = (reading b.value).read }
bind_is b = fold_out-Bind Formed BindReading Reading form_reading bind_reading expr_reading b

-- only a call has arguments
arguments-of : (f : Form) (l : Form-F Form Bind Expr) (s : Scope) → out-Form f ≡ l → ((x : Name) (es : List Expr) → f ≡ forms.Call x es → ⊥)
    → (fold-Form Formed BindReading Reading form_reading bind_reading expr_reading f).arguments s ≡ []
arguments-of f (Form-F.Number v) s is h = rw (fold_out-Form Formed BindReading Reading form_reading bind_reading expr_reading f, is)
arguments-of f (Form-F.Name x) s is h = rw (fold_out-Form Formed BindReading Reading form_reading bind_reading expr_reading f, is)
arguments-of f (Form-F.Call x es) s is h = absurd (h x es (sym (roll-out-Form f) ∙ ap roll-Form is ∙ rolls-Call x es))
arguments-of f (Form-F.If c a b) s is h = rw (fold_out-Form Formed BindReading Reading form_reading bind_reading expr_reading f, is)
arguments-of f (Form-F.Block bs v) s is h = rw (fold_out-Form Formed BindReading Reading form_reading bind_reading expr_reading f, is)
arguments-of f (Form-F.Binary o a b) s is h = rw (fold_out-Form Formed BindReading Reading form_reading bind_reading expr_reading f, is)
arguments-of f (Form-F.Prefix o a) s is h = rw (fold_out-Form Formed BindReading Reading form_reading bind_reading expr_reading f, is)

pub arguments-none : (e : Expr) (s : Scope) → ((x : Name) (es : List Expr) → e.form ≡ forms.Call x es → ⊥) → (reading e).arguments s ≡ []
arguments-none e s h = rw (fold_out-Expr Formed BindReading Reading form_reading bind_reading expr_reading e) (arguments-of e.form (out-Form e.form) s refl h)
