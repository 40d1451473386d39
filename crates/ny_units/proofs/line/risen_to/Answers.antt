use Rattle.std.proofs.Common.{◌≡◌, ◌^◌, pos, neg_ℤ, ◌*ℤ◌, ◌≤ℤ◌, ◌∙◌, sym, ap, subst, w64, to_z, of_z}
use Rattle.std.specs.Int.{int_rem_euclid}
use Rattle.std.proofs.lemmas.Int.{to_z-of_z}
use mir.Syntax.{w128}
use Rattle.ny_num.specs.Numbers.{floor_div}
use Rattle.ny_units.specs.Lines.{risen_at}
use Rattle.ny_units.proofs.Risings.{slope_within}
use Rattle.ny_units.proofs.line.risen_to.Goals as goal

product_is : (c : goal.After-product-product) → to_z w128 (of_z w128 c.product-product.result) ≡ c.args.rise *ℤ pos c.args.place
product_is c =
    to_z-of_z w128 c.product-product.result (record { sfits = c.product-product.type_inv }) ∙ c.product-product.ensures
    ∙ ap (λ z. z *ℤ pos c.args.place) (to_z-of_z w64 c.args.rise c.ranges.rise)

pub whole_part-requires-clause-low : goal.whole_part-requires-clause-low
whole_part-requires-clause-low c =
    subst (λ z. neg_ℤ (pos (2 ^ 32)) ≤ℤ floor_div z (pos c.args.width)) (sym (product_is c)) (slope_within c.args.rise c.args.width c.args.place c.requires).0

pub whole_part-requires-clause-high : goal.whole_part-requires-clause-high
whole_part-requires-clause-high c =
    subst (λ z. floor_div z (pos c.args.width) ≤ℤ pos (2 ^ 32)) (sym (product_is c)) (slope_within c.args.rise c.args.width c.args.place c.requires).1

pub returns : goal.returns
returns c =
    let product : to_z w128 (of_z w128 c.product-product.result) ≡ c.args.rise *ℤ pos c.args.place =
    to_z-of_z w128 c.product-product.result (record { sfits = c.product-product.type_inv }) ∙ c.product-product.ensures
    ∙ ap (λ z. z *ℤ pos c.args.place) (to_z-of_z w64 c.args.rise c.ranges.rise) in
    let whole : to_z w64 (of_z w64 c.whole_part.result) ≡ risen_at c.args.rise c.args.width c.args.place =
    to_z-of_z w64 c.whole_part.result (record { sfits = c.whole_part.type_inv }) ∙ c.whole_part.ensures ∙ ap (λ z. floor_div z (pos c.args.width)) product in
    let within = slope_within c.args.rise c.args.width c.args.place c.requires in
    record {
      whole = whole;
      rest = ap (λ z. int_rem_euclid z (pos c.args.width)) (sym product) ∙ c.rest_part.ensures.value;
      part = record {
        part = c.rest_part.ensures.part;
        low = subst (λ z. neg_ℤ (pos (2 ^ 32)) ≤ℤ z) (sym whole) within.0;
        high = subst (λ z. z ≤ℤ pos (2 ^ 32)) (sym whole) within.1;
      };
    }
