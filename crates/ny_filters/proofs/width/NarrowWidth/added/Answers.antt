use Rattle.std.proofs.Common.{◌≡◌, ◌+ℤ◌, ◌*ℤ◌, ◌∙◌, ap, arith, w64, to_z, of_z}
use Rattle.std.proofs.lemmas.Int.{ints, to_z-of_z}
use Rattle.ny_num.specs.Numbers.{million, floor_div, sat_sample}
use Rattle.ny_filters.proofs.width.NarrowWidth.added.Goals as goal

pub returns : goal.returns
returns c =
    let factor : to_z w64 (of_z w64 c.micro-2.result) ≡ c.micro-2.result = omega (arith, ints) in
    let exact : to_z w64 (of_z w64 c.short_product.result) ≡ c.short_product.result = omega (arith, ints) in
    let whole : to_z w64 (of_z w64 (to_z w64 (of_z w64 c.from.result) +ℤ to_z w64 (of_z w64 c.short_units.result))) ≡ c.args.to +ℤ c.short_units.result =
    omega (arith, ints, c.short_units.ensures.low, c.short_units.ensures.high, c.micro.ensures.within.0, c.micro.ensures.within.1) in
    let product : c.short_product.result ≡ c.args.factor *ℤ c.args.times =
    c.short_product.ensures.value ∙ ap (λ z. z *ℤ to_z w64 (of_z w64 c.args.times)) (factor ∙ c.micro-2.ensures.value)
    ∙ ap (λ z. c.args.factor *ℤ z) (to_z-of_z w64 c.args.times c.ranges.times) in
    c.of.ensures.value ∙ ap sat_sample whole
    ∙ ap (λ z. sat_sample (c.args.to +ℤ z)) (c.short_units.ensures.value ∙ ap (λ z. floor_div z million) (exact ∙ product))
