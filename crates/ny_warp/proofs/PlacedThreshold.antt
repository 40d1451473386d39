-- Where an offset and a factor reach a time.
use Rattle.std.proofs.Common.{◌≡◌, ℕ, zero, suc, ◌-◌, ◌*◌, ◌/◌, ◌<◌, ◌≤◌, min, refl, arith, ℤ, pos, negsuc, neg_ℤ, ◌≤ℤ◌}
use Rattle.std.specs.Int.{div_ceil}
use Rattle.std.proofs.lemmas.Int.{ints}
use Rattle.std.proofs.Math.Nat.{le-div_iff_mul-le, div-lt_iff_lt-mul, div-eq_of_lt}
use Rattle.ny_num.specs.Numbers.{floor_div, million}
use Rattle.ny_num.specs.Grid.{horizon, clamp_ticks, count_of}
use Rattle.ny_warp.specs.Maps.{IsThreshold}
use Rattle.ny_warp.specs.Warp.{scaled, placed_at}
use Rattle.ny_warp.proofs.Quotients.{div_ceil-reaches, div_ceil-before}

scaled-pos : (k v : ℕ) → scaled (pos k) v ≡ min (k * v / 1000000) horizon
unfolding scaled clamp_ticks
scaled-pos k v = refl

none-below : (m : ℕ) → count_of (floor_div (neg_ℤ (pos m)) million) ≡ 0
none-below zero = refl
none-below (suc m) = refl

-- a factor of 0 or less takes no time past the offset
pub placed-none : (d t v : ℕ) (s : ℤ) → s ≤ℤ pos 0 → d < t → placed_at d s v < t
unfolding scaled clamp_ticks
placed-none d t v (pos zero) h below =
    let e : 0 * v / 1000000 ≡ 0 = div-eq_of_lt {n = 0 * v} {m = 1000000} (omega arith) in
    omega arith
placed-none d t v (pos (suc n)) h below = absurd (omega (arith, ints))
placed-none d t v (negsuc n) h below =
    let e = none-below (suc n * v) in
    omega arith

pub placed-reaches : (d t v k : ℕ) → 0 < k → t ≤ horizon → div_ceil ((t - d) * 1000000) k ≤ v
    → t ≤ placed_at d (pos k) v
placed-reaches d t v k h top past =
    let e = scaled-pos k v in
    let enough : (t - d) * 1000000 ≤ v * k = div_ceil-reaches ((t - d) * 1000000) k v h past in
    let q : t - d ≤ k * v / 1000000 = (le-div_iff_mul-le {k = 1000000} {x = t - d} {y = k * v} (omega arith)).1 (omega arith) in
    omega arith

pub placed-before : (d t v k : ℕ) → 0 < k → d < t → v < div_ceil ((t - d) * 1000000) k
    → placed_at d (pos k) v < t
placed-before d t v k h below short =
    let e = scaled-pos k v in
    let less : v * k < (t - d) * 1000000 = div_ceil-before ((t - d) * 1000000) k v h short in
    let q : k * v / 1000000 < t - d = (div-lt_iff_lt-mul {k = 1000000} {x = k * v} {y = t - d} (omega arith)).1 (omega arith) in
    omega arith

pub placing-threshold : (d t k x : ℕ) → 0 < k → d < t → t ≤ horizon → x ≡ div_ceil ((t - d) * 1000000) k
    → IsThreshold (placed_at d (pos k)) t x
placing-threshold d t k x h below top e v =
    (λ past. placed-reaches d t v k h top (omega arith), λ short. placed-before d t v k h below (omega arith))

pub ruleset placing = (placing-threshold, placed-before)
