-- Where the outputs of a resampling lie in its input.
use Rattle.std.proofs.Common.{◌≡◌, ℕ, ◌+◌, ◌-◌, ◌*◌, ◌/◌, ◌%◌, ◌^◌, ◌<◌, ◌≤◌, ap, ◌∙◌, arith}
use Rattle.std.proofs.Math.Nat.{add-mul, div-le_self}
use Rattle.std.proofs.lemmas.Nat.{mul-le}
use Rattle.ny_num.proofs.Quotients.{kept, carried}
use Rattle.ny_units.specs.declared.course.Course.{Course}
use Rattle.ny_units.specs.declared.course.Position.{Position}
use Rattle.ny_units.specs.Courses.{IsCourse, IsPosition}

next_time : (index step : ℕ) → (index + 1) * step ≡ index * step + step
next_time index step = add-mul index 1 step ∙ (let one : 1 * step ≡ step = omega arith in ap (λ n. index * step + n) one)

module _ (c : Course) (at : Position) (course : IsCourse c) (is : IsPosition c at) where
  -- less than a whole sample is left over
  pub next_kept : at.part + c.part < c.grid → IsPosition c (record { index = at.index + 1; place = at.place + c.whole; part = at.part + c.part })
  next_kept less =
      let time : ℕ = at.index * c.step in
      let k = kept c.grid course.some time c.step (omega (arith, is.part, course.part)) in
      let next = next_time at.index c.step in
      record {
        place = omega (arith, is.place, course.whole, k.0, ap (λ n. n / c.grid) next);
        part = omega (arith, is.part, course.part, k.1, ap (λ n. n % c.grid) next);
      }

  -- what is left over has filled a sample
  pub next_carried : c.grid ≤ at.part + c.part → IsPosition c (record { index = at.index + 1; place = at.place + c.whole + 1; part = at.part + c.part - c.grid })
  next_carried more =
      let time : ℕ = at.index * c.step in
      let k = carried c.grid course.some time c.step (omega (arith, is.part, course.part)) in
      let next = next_time at.index c.step in
      record {
        place = omega (arith, is.place, course.whole, k.0, ap (λ n. n / c.grid) next);
        part = omega (arith, is.part, course.part, k.1, ap (λ n. n % c.grid) next);
      }

-- no output of an hour lies far
pub place_small : (c : Course) (at : Position) → IsCourse c → IsPosition c at → at.index < 2 ^ 34 → at.place < 2 ^ 53
place_small c at course is short =
    let times : at.index * c.step ≤ 17179869184 * 320000 = mul-le at.index c.step 17179869184 320000 (omega (arith, short)) course.fine in
    let less : at.index * c.step / c.grid ≤ at.index * c.step = div-le_self (at.index * c.step) c.grid in
    omega (arith, times, less, is.place)
