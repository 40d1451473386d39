use Rattle.std.proofs.Common.{◌≡◌, ◌+ℤ◌, ◌-ℤ◌, ◌*ℤ◌, ◌*◌, ◌/◌, pos, unsigned_abs, ap, sym, ◌∙◌, w64, to_z, of_z, arith, rules}
use Rattle.std.proofs.lemmas.Int.{ints}
use Rattle.ny_num.specs.Numbers.{million, floor_div, sat_sample}
use Rattle.ny_num.specs.Filters.{biquad_value}
use Rattle.ny_num.proofs.Quotients.{floor_lifted}
use Rattle.ny_filters.proofs.weighing.lifted_units.Goals as goal

pub returns-clause-value : goal.returns-clause-value
unfolding biquad_value
returns-clause-value c =
    let same : to_z w64 (of_z w64 c.lifted_sum.result) ≡ c.lifted_sum.result = search rules in
    let n = unsigned_abs (to_z w64 (of_z w64 c.lifted_sum.result)) in
    let q = c.args.c.now in
    let r = c.args.recent.now in
    let sum = q.b0 *ℤ c.args.input +ℤ q.b1 *ℤ r.x1 +ℤ q.b2 *ℤ r.x2 +ℤ q.a1 *ℤ r.y1 +ℤ q.a2 *ℤ r.y2 in
    let lifted : sum +ℤ pos (2882303761518 * 1000000) ≡ pos n = sym c.lifted_sum.ensures.value ∙ omega (arith, ints, c.lifted_sum.ensures.low) in
    let units : floor_div sum million ≡ pos (n / 1000000) -ℤ pos 2882303761518 = floor_lifted 1000000 (omega arith) sum n 2882303761518 lifted in
    ap sat_sample (sym units)
