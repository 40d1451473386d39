-- A product of two samples, lifted above 0 and divided there.
use Rattle.std.proofs.Common.{◌≡◌, ℕ, suc, ◌*◌, ◌/◌, ◌≤◌, ℤ, pos, negsuc, neg_ℤ, ◌+ℤ◌, ◌-ℤ◌, ◌*ℤ◌, ◌≤ℤ◌, sym, subst, arith, FitsSigned, w64}
use Rattle.std.proofs.lemmas.Int.{ints}
use Rattle.std.proofs.lemmas.Nat.{mul-le}
use Rattle.std.proofs.Math.IntN.{pos-*ℤ-pos, pos-*ℤ-negsuc, negsuc-*ℤ-pos, negsuc-*ℤ-negsuc}
use Rattle.ny_num.specs.Numbers.{IsSample, floor_div}
use Rattle.ny_num.proofs.Quotients.{floor_lifted}

pub lifted_floor : (z : ℤ) (n : ℕ) → z +ℤ pos 4611686014133000000 ≡ pos n → floor_div z (pos 1000000) ≡ pos (n / 1000000) -ℤ pos 4611686014133
lifted_floor z n e = floor_lifted 1000000 (omega arith) z n 4611686014133 e

abbrev IsSmall : ℤ → Type 0
IsSmall z = (neg_ℤ (pos 4611686014133000000) ≤ℤ z) × (z ≤ℤ pos 4611686014133000000)

above : (m n : ℕ) → m ≤ 2147483647 → n ≤ 2147483647 → IsSmall (pos (m * n))
above m n a b = let e = mul-le m n 2147483647 2147483647 a b in (omega (arith, ints, e), omega (arith, ints, e))

below : (m n : ℕ) → m ≤ 2147483647 → n ≤ 2147483647 → IsSmall (neg_ℤ (pos (m * n)))
below m n a b = let e = mul-le m n 2147483647 2147483647 a b in (omega (arith, ints, e), omega (arith, ints, e))

product_small : (a b : ℤ) → IsSample a → IsSample b → IsSmall (a *ℤ b)
product_small (pos m) (pos n) a b = subst IsSmall (sym (pos-*ℤ-pos m n)) (above m n (omega (arith, ints, a.1)) (omega (arith, ints, b.1)))
product_small (pos m) (negsuc n) a b = subst IsSmall (sym (pos-*ℤ-negsuc m n)) (below m (suc n) (omega (arith, ints, a.1)) (omega (arith, ints, b.0)))
product_small (negsuc m) (pos n) a b = subst IsSmall (sym (negsuc-*ℤ-pos m n)) (below (suc m) n (omega (arith, ints, a.0)) (omega (arith, ints, b.1)))
product_small (negsuc m) (negsuc n) a b = subst IsSmall (sym (negsuc-*ℤ-negsuc m n)) (above (suc m) (suc n) (omega (arith, ints, a.0)) (omega (arith, ints, b.0)))

pub product_low : (a b : ℤ) → IsSample a → IsSample b → neg_ℤ (pos 4611686014133000000) ≤ℤ (a *ℤ b)
product_low a b x y = (product_small a b x y).0

pub product_high : (a b : ℤ) → IsSample a → IsSample b → (a *ℤ b) ≤ℤ pos 4611686014133000000
product_high a b x y = (product_small a b x y).1

pub product_fits : (a b : ℤ) → IsSample a → IsSample b → FitsSigned w64 (a *ℤ b)
product_fits a b x y = let s = product_small a b x y in grind (arith, ints)
