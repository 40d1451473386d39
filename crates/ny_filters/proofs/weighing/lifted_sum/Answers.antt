use Rattle.std.proofs.Common.{FitsSigned, rules, true, ◌∙◌, ◌*ℤ◌, ◌≤ℤ◌, ap, ◌≡◌, ◌+ℤ◌, pos, subst, sym, w64, to_z, of_z}
use Rattle.ny_num.specs.Filters.{Coefficients, Recent}
use Rattle.ny_filters.specs.Sizes.{is_small}
use Rattle.ny_filters.proofs.Products.{three_lifted, four_lifted, five_lifted, above_zero, other_order, of_each}
use Rattle.ny_filters.proofs.weighing.lifted_sum.Goals as goal

pub short_plus-inputs-requires-3 : goal.short_plus-inputs-requires-3
short_plus-inputs-requires-3 c =
    let before : to_z w64 (of_z w64 c.short_plus-inputs-2.result) ≡ pos 2882303761518000000 +ℤ c.short_weight.result +ℤ c.short_weight-2.result = search rules in
    let last : to_z w64 (of_z w64 c.short_weight-3.result) ≡ c.short_weight-3.result = search rules in
    let w = c.short_weight.ensures in
    let w2 = c.short_weight-2.ensures in
    let w3 = c.short_weight-3.ensures in
    subst (FitsSigned w64) (sym (λ i. before i +ℤ last i)) (three_lifted _ _ _ (w.low, w.high) (w2.low, w2.high) (w3.low, w3.high))

pub short_plus-older-requires : goal.short_plus-older-requires
short_plus-older-requires c =
    let before : to_z w64 (of_z w64 c.short_plus-inputs-3.result) ≡ pos 2882303761518000000 +ℤ c.short_weight.result +ℤ c.short_weight-2.result +ℤ c.short_weight-3.result = search rules in
    let last : to_z w64 (of_z w64 c.short_weight-4.result) ≡ c.short_weight-4.result = search rules in
    let w = c.short_weight.ensures in
    let w2 = c.short_weight-2.ensures in
    let w3 = c.short_weight-3.ensures in
    let w4 = c.short_weight-4.ensures in
    subst (FitsSigned w64) (sym (λ i. before i +ℤ last i)) (four_lifted _ _ _ _ (w.low, w.high) (w2.low, w2.high) (w3.low, w3.high) (w4.low, w4.high))

pub short_plus-requires : goal.short_plus-requires
short_plus-requires c =
    let before : to_z w64 (of_z w64 c.short_plus-older.result) ≡ pos 2882303761518000000 +ℤ c.short_weight.result +ℤ c.short_weight-2.result +ℤ c.short_weight-3.result +ℤ c.short_weight-4.result = search rules in
    let last : to_z w64 (of_z w64 c.short_weight-5.result) ≡ c.short_weight-5.result = search rules in
    let w = c.short_weight.ensures in
    let w2 = c.short_weight-2.ensures in
    let w3 = c.short_weight-3.ensures in
    let w4 = c.short_weight-4.ensures in
    let w5 = c.short_weight-5.ensures in
    subst (FitsSigned w64) (sym (λ i. before i +ℤ last i)) (five_lifted _ _ _ _ _ (w.low, w.high) (w2.low, w2.high) (w3.low, w3.high) (w4.low, w4.high) (w5.low, w5.high))

pub short_weight-requires-4 : goal.short_weight-requires-4
short_weight-requires-4 c = record { small = subst (λ (q : Coefficients). is_small q.a2 ≡ true) (sym c.c.view_is) (of_each is_small c.args.c.now c.requires).a2 }

pub short_weight-requires-5 : goal.short_weight-requires-5
short_weight-requires-5 c = record { small = subst (λ (q : Coefficients). is_small q.a1 ≡ true) (sym c.c.view_is) (of_each is_small c.args.c.now c.requires).a1 }

all : (c : goal.After-short_plus) → to_z w64 (of_z w64 c.short_plus.result) ≡ pos 2882303761518000000 +ℤ c.short_weight.result +ℤ c.short_weight-2.result +ℤ c.short_weight-3.result +ℤ c.short_weight-4.result +ℤ c.short_weight-5.result
all c = search rules

pub returns-clause-value : goal.returns-clause-value
returns-clause-value c =
    all c
    ∙ other_order c.short_weight.result c.short_weight-2.result c.short_weight-3.result c.short_weight-4.result c.short_weight-5.result
    ∙ (λ i. c.short_weight.ensures.value i +ℤ c.short_weight-2.ensures.value i +ℤ c.short_weight-3.ensures.value i +ℤ c.short_weight-5.ensures.value i +ℤ c.short_weight-4.ensures.value i +ℤ pos 2882303761518000000)
    ∙ ap (λ (q : Coefficients). q.b0 *ℤ c.args.input +ℤ q.b1 *ℤ c.recent.inside.x1 +ℤ q.b2 *ℤ c.recent.inside.x2 +ℤ q.a1 *ℤ c.recent.inside.y1 +ℤ q.a2 *ℤ c.recent.inside.y2 +ℤ pos 2882303761518000000) c.c.view_is
    ∙ ap (λ (r : Recent). c.args.c.now.b0 *ℤ c.args.input +ℤ c.args.c.now.b1 *ℤ r.x1 +ℤ c.args.c.now.b2 *ℤ r.x2 +ℤ c.args.c.now.a1 *ℤ r.y1 +ℤ c.args.c.now.a2 *ℤ r.y2 +ℤ pos 2882303761518000000) c.recent.view_is

pub returns-clause-low : goal.returns-clause-low
returns-clause-low c =
    let w = c.short_weight.ensures in
    let w2 = c.short_weight-2.ensures in
    let w3 = c.short_weight-3.ensures in
    let w4 = c.short_weight-4.ensures in
    let w5 = c.short_weight-5.ensures in
    subst (λ z. pos 0 ≤ℤ z) (sym (all c)) (above_zero _ _ _ _ _ (w.low, w.high) (w2.low, w2.high) (w3.low, w3.high) (w4.low, w4.high) (w5.low, w5.high))
