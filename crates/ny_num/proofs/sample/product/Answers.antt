use Rattle.std.proofs.Common.{◌≡◌, ◌≤ℤ◌, ◌*ℤ◌, ◌∙◌, pos, neg_ℤ, sym, ap, subst, arith, w64, to_z, of_z}
use Rattle.std.proofs.lemmas.Int.{ints, to_z-of_z}
use Rattle.ny_num.proofs.Lifted.{product_low, product_high, product_fits}
use Rattle.ny_num.proofs.sample.product.Goals as goal

exact : (c : goal.After-from-2) → to_z w64 (of_z w64 (to_z w64 (of_z w64 c.from.result) *ℤ to_z w64 (of_z w64 c.from-2.result))) ≡ c.args.a *ℤ c.args.b
exact c =
    let a : to_z w64 (of_z w64 c.from.result) ≡ c.args.a = omega (arith, ints) in
    let b : to_z w64 (of_z w64 c.from-2.result) ≡ c.args.b = omega (arith, ints) in
    ap (λ z. to_z w64 (of_z w64 (z *ℤ to_z w64 (of_z w64 c.from-2.result)))) a ∙ ap (λ z. to_z w64 (of_z w64 (c.args.a *ℤ z))) b
    ∙ to_z-of_z w64 (c.args.a *ℤ c.args.b) (product_fits c.args.a c.args.b c.requires.a c.requires.b)

pub returns-clause-low : goal.returns-clause-low
returns-clause-low c = subst (λ z. neg_ℤ (pos 4611686014133000000) ≤ℤ z) (sym (exact c)) (product_low c.args.a c.args.b c.requires.a c.requires.b)

pub returns-clause-high : goal.returns-clause-high
returns-clause-high c = subst (λ z. z ≤ℤ pos 4611686014133000000) (sym (exact c)) (product_high c.args.a c.args.b c.requires.a c.requires.b)
