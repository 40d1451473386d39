-- The entries of a table are small.
use Rattle.std.proofs.Common.{◌≡◌, refl, ℕ, ◌-◌, ◌*◌, ◌/◌, ◌<◌, ◌≤◌, Bool, true, false, nat_lt, if◌then◌else◌, ℤ, pos, neg_ℤ, arith}
use Rattle.std.proofs.Math.Nat.{div-le_of_le-mul}
use Rattle.std.proofs.lemmas.Nat.{mul-le}
use Rattle.std.proofs.lemmas.Int.{ints}
use borrow.Author.Tests.{ltb-true, ltb-false}
use Rattle.ny_num.specs.Numbers.{IsSample}
use Rattle.ny_num.specs.Leaves.{arch, wave_entry}

small_quotient : (p m : ℕ) → p ≤ m → 1000000 * (16 * p) / (5 * m - 4 * p) ≤ 16000000
small_quotient p m less = div-le_of_le-mul (5 * m - 4 * p) (omega arith)

pub product_small : (half k : ℕ) → k < half → k * (half - k) ≤ half * half
product_small half k within = mul-le k (half - k) half half (omega arith) (omega arith)

pub arch_small : (half k : ℕ) → k < half → 1000000 * (16 * (k * (half - k))) / (5 * (half * half) - 4 * (k * (half - k))) ≤ 16000000
arch_small half k within = small_quotient (k * (half - k)) (half * half) (product_small half k within)

arch_bound : (half k : ℕ) → k < half → arch half k ≤ 16000000
unfolding arch
arch_bound half k within = arch_small half k within

by_test : (b : Bool) (x y : ℤ) → (b ≡ true → IsSample x) → (b ≡ false → IsSample y) → IsSample (if b then x else y)
by_test true x y first second = first refl
by_test false x y first second = second refl

above : (a : ℕ) → a ≤ 16000000 → IsSample (pos a)
above a small = (omega (arith, ints), omega (arith, ints))

below : (a : ℕ) → a ≤ 16000000 → IsSample (neg_ℤ (pos a))
below a small = (omega (arith, ints), omega (arith, ints))

pub entry_sample : (n k : ℕ) → k < n / 2 * 2 → IsSample (wave_entry n k)
unfolding wave_entry
entry_sample n k within =
    by_test (nat_lt k (n / 2)) (pos (arch (n / 2) k)) (neg_ℤ (pos (arch (n / 2) (k - n / 2))))
    (λ first. above (arch (n / 2) k) (arch_bound (n / 2) k (ltb-true k (n / 2) first)))
    (λ second. below (arch (n / 2) (k - n / 2)) (arch_bound (n / 2) (k - n / 2) (omega (arith, ltb-false k (n / 2) second))))
