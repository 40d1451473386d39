-- A quotient as the high part of a product with so many parts of a whole.
use Rattle.std.proofs.Common.{◌≡◌, inl, inr, ℕ, ◌+◌, ◌-◌, ◌*◌, ◌/◌, ◌%◌, ◌^◌, ◌<◌, ◌≤◌, ap, ◌∙◌, arith}
use Rattle.std.proofs.lemmas.Bool.{cases_lt}
use Rattle.std.proofs.lemmas.Nat.{div-mul-add, mul-lt, div_below}
use Rattle.std.proofs.Math.Nat.{mul-le-mul_right}

module _ (whole d : ℕ) (some : 0 < d) where
  -- with as many parts of the whole as a of d have, rounded up by so little that n of it are less than the whole
  pub high_part : (a parts more n : ℕ) → a * whole ≤ parts * d → parts * d ≤ a * whole + more → more * n < whole → parts * n / whole ≡ a * n / d
  high_part a parts more n least most little =
      let q : ℕ = a * n / d in
      let s : ℕ = a * n % d in
      let split : a * n ≡ q * d + s = omega arith in
      let rest : s < d = omega arith in
      let under : a * whole * n ≤ parts * d * n = mul-le-mul_right n least in
      let over : parts * d * n ≤ (a * whole + more) * n = mul-le-mul_right n most in
      let times : a * n * whole ≡ (q * d + s) * whole = ap (λ k. k * whole) split in
      let all : (s + 1) * whole ≤ d * whole = mul-le-mul_right whole (let e : s + 1 ≤ d = omega arith in e) in
      let enough : q * whole ≤ parts * n = at_least (q * whole) (parts * n) (omega arith) in
      let few : parts * n < q * whole + whole = below (parts * n) (q * whole + whole) (omega arith) in
      let e : parts * n ≡ q * whole + (parts * n - q * whole) = omega arith in
      ap (λ k. k / whole) e ∙ div-mul-add q whole (parts * n - q * whole) (omega arith)
    where
      at_least : (x y : ℕ) → x * d ≤ y * d → x ≤ y
      at_least x y h = elim (cases_lt y x) [
        | inl less ↦ absurd (let m : (y + 1) * d ≤ x * d = mul-le-mul_right d (let e : y + 1 ≤ x = omega (arith, less) in e) in omega (arith, m, h, some))
        | inr more ↦ more
      ]

      below : (x y : ℕ) → x * d < y * d → x < y
      below x y h = elim (cases_lt x y) [
        | inl less ↦ less
        | inr more ↦ absurd (let m : y * d ≤ x * d = mul-le-mul_right d more in omega (arith, m, h))
      ]

-- ---- halves of products of 64 bits

pub product_fits : (a b : ℕ) → a < 2 ^ 64 → b < 2 ^ 64 → a * b < 2 ^ 128
product_fits a b p q = mul-lt a b (2 ^ 64) (2 ^ 64) p q

pub half_fits : (a b : ℕ) → a < 2 ^ 64 → b < 2 ^ 64 → a * b / 2 ^ 64 < 2 ^ 64
half_fits a b p q = div_below (a * b) (2 ^ 64) (2 ^ 64) (omega arith) (mul-lt a b (2 ^ 64) (2 ^ 64) p q)

pub parts_fit : (micro parts : ℕ) → micro < 1000000 → parts * 1000000 < micro * 18446744073709551616 + 1000000 → parts < 18446744073709551616
parts_fit micro parts small few = omega (arith, small, few)
