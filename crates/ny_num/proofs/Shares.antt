-- The share of a rise lies between nothing and the whole rise, and so a value on a line lies between its ends.
use Rattle.std.proofs.Common.{◌≡◌, ℕ, zero, suc, ◌*◌, ◌/◌, ◌<◌, ◌≤◌, ℤ, pos, negsuc, neg_ℤ, ◌+ℤ◌, ◌-ℤ◌, ◌*ℤ◌, ◌≤ℤ◌, refl, arith}
use Rattle.std.proofs.Math.Nat.{div-le_of_le-mul, mul-div-le, lt_of_mul-lt-mul_left, div-eq_of_lt}
use Rattle.std.proofs.lemmas.Nat.{mul-le}
use Rattle.std.proofs.lemmas.Int.{ints}
use Rattle.ny_num.specs.Numbers.{IsSample, floor_div}

-- a share of n, rounded down
up : (n f g : ℕ) → f < g → n * f / g ≤ n
up n f g h = div-le_of_le-mul g (omega (arith, ints, mul-le n f n g (omega arith) (omega (arith, ints, h))))

quotient_le : (m g n : ℕ) → m < suc n * g → m / g ≤ n
quotient_le m g n h =
    let less : m / g < suc n = lt_of_mul-lt-mul_left g (omega (arith, ints, mul-div-le m g, h)) in omega (arith, ints, less)

-- a share of a fall, rounded down
down : (m g n : ℕ) → 0 < g → m ≤ suc n * g → (negsuc n ≤ℤ floor_div (neg_ℤ (pos m)) (pos g)) × (floor_div (neg_ℤ (pos m)) (pos g) ≤ℤ pos 0)
down zero g n some h = let none : 0 / g ≡ 0 = div-eq_of_lt some in (omega (arith, ints, none), omega (arith, ints, none))
down (suc m) g n some h = let le = quotient_le m g n (omega (arith, ints, h)) in (omega (arith, ints, le), omega (arith, ints, le))

-- a value on the line between two samples, at a part f of the way g, is a sample
pub line_within : (from to : ℤ) (f g : ℕ) → f < g → IsSample from → IsSample to → IsSample (from +ℤ floor_div ((to -ℤ from) *ℤ pos f) (pos g))
line_within from to f g h a b = by_rise (to -ℤ from) refl
  where
    by_rise : (rise : ℤ) → to -ℤ from ≡ rise → IsSample (from +ℤ floor_div (rise *ℤ pos f) (pos g))
    by_rise (pos n) e = (omega (arith, ints, a.0), omega (arith, ints, e, b.1, up n f g h))
    by_rise (negsuc n) e =
        let share = down (suc n * f) g n (omega (arith, ints, h)) (omega (arith, ints, mul-le (suc n) f (suc n) g (omega arith) (omega (arith, ints, h)))) in
        (omega (arith, ints, e, b.0, share.0), omega (arith, ints, a.1, share.1))

-- a share of the rise between two samples needs no more room than the rise
pub share_within : (rise : ℤ) (f g : ℕ) → f < g → neg_ℤ (pos 4294967294) ≤ℤ rise → rise ≤ℤ pos 4294967294 → (neg_ℤ (pos 4294967294) ≤ℤ floor_div (rise *ℤ pos f) (pos g)) × (floor_div (rise *ℤ pos f) (pos g) ≤ℤ pos 4294967294)
share_within (pos n) f g h low high = (omega (arith, ints), omega (arith, ints, high, up n f g h))
share_within (negsuc n) f g h low high =
    let share = down (suc n * f) g n (omega (arith, ints, h)) (omega (arith, ints, mul-le (suc n) f (suc n) g (omega arith) (omega (arith, h)))) in
    (omega (arith, ints, low, share.0), omega (arith, ints, share.1))
