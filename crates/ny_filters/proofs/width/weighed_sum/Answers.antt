use Rattle.std.proofs.Common.{FitsSigned, rules, ◌≡◌, ◌+ℤ◌, subst, sym}
use Rattle.std.specs.Int.{cast_signed, cast_unsigned, w128}
use Rattle.ny_num.proofs.Weights.{four_fit, five_fit}
use Rattle.ny_filters.proofs.width.weighed_sum.Goals as goal

pub sum-all-requires : goal.sum-all-requires
sum-all-requires c =
    let before : cast_signed w128 (cast_unsigned w128 c.sum-inputs-2.result) ≡ c.weight.result +ℤ c.weight-2.result +ℤ c.weight-3.result = search rules in
    let last : cast_signed w128 (cast_unsigned w128 c.weight-4.result) ≡ c.weight-4.result = search rules in
    let w = c.weight.ensures in
    let w2 = c.weight-2.ensures in
    let w3 = c.weight-3.ensures in
    let w4 = c.weight-4.ensures in
    subst (FitsSigned w128) (sym (λ i. before i +ℤ last i)) (four_fit _ _ _ _ (w.least, w.greatest) (w2.least, w2.greatest) (w3.least, w3.greatest) (w4.least, w4.greatest))

pub sum-requires : goal.sum-requires
sum-requires c =
    let before : cast_signed w128 (cast_unsigned w128 c.sum-all.result) ≡ c.weight.result +ℤ c.weight-2.result +ℤ c.weight-3.result +ℤ c.weight-4.result = search rules in
    let last : cast_signed w128 (cast_unsigned w128 c.weight-5.result) ≡ c.weight-5.result = search rules in
    let w = c.weight.ensures in
    let w2 = c.weight-2.ensures in
    let w3 = c.weight-3.ensures in
    let w4 = c.weight-4.ensures in
    let w5 = c.weight-5.ensures in
    subst (FitsSigned w128) (sym (λ i. before i +ℤ last i)) (five_fit _ _ _ _ _ (w.least, w.greatest) (w2.least, w2.greatest) (w3.least, w3.greatest) (w4.least, w4.greatest) (w5.least, w5.greatest))
