-- A quotient as the high part of a product with the parts of a whole that one of a divisor is.
use Rattle.std.proofs.Common.{◌≡◌, inl, inr, ℕ, ◌+◌, ◌-◌, ◌*◌, ◌/◌, ◌%◌, ◌<◌, ◌≤◌, ap, ◌∙◌, suc, ℤ, pos, negsuc, ◌+ℤ◌, ◌-ℤ◌, ◌*ℤ◌, arith}
use Rattle.std.proofs.lemmas.Bool.{cases_lt}
use Rattle.std.proofs.lemmas.Int.{ints}
use Rattle.std.proofs.lemmas.Nat.{div-mul-add, mul-le}
use Rattle.std.proofs.Math.Nat.{mul-le-mul_right, div-le_self}
use Rattle.std.proofs.Math.IntN.{*ℤ_comm, pos-*ℤ-pos, pos-*ℤ-negsuc}
use Rattle.ny_num.specs.Numbers.{floor_div}
use Rattle.ny_num.proofs.Quotients.{floor_lifted}

module _ (whole d : ℕ) (some : 0 < d) where
  -- with as many parts of the whole as one of d has, rounded up by so little that n of it are less than the whole
  pub high_quotient : (parts more n : ℕ) → whole ≤ parts * d → parts * d ≤ whole + more → more * n < whole → parts * n / whole ≡ n / d
  high_quotient parts more n least most little =
      let q : ℕ = n / d in
      let s : ℕ = n % d in
      let split : n ≡ q * d + s = omega arith in
      let rest : s < d = omega arith in
      let under : whole * n ≤ parts * d * n = mul-le-mul_right n least in
      let over : parts * d * n ≤ (whole + more) * n = mul-le-mul_right n most in
      let times : n * whole ≡ (q * d + s) * whole = ap (λ k. k * whole) split in
      let all : (s + 1) * whole ≤ d * whole = mul-le-mul_right whole (let e : s + 1 ≤ d = omega arith in e) in
      let enough : q * whole ≤ parts * n = at_least (q * whole) (parts * n) (omega arith) in
      let few : parts * n < q * whole + whole = below (parts * n) (q * whole + whole) (omega arith) in
      let e : parts * n ≡ q * whole + (parts * n - q * whole) = omega arith in
      ap (λ k. k / whole) e ∙ div-mul-add q whole (parts * n - q * whole) (omega arith)
    where
      at_least : (x y : ℕ) → x * d ≤ y * d → x ≤ y
      at_least x y h = elim (cases_lt y x) [
        | inl less ↦ absurd (let m : (y + 1) * d ≤ x * d = mul-le-mul_right d (let e : y + 1 ≤ x = omega (arith, less) in e) in omega (arith, m, h, some))
        | inr more ↦ more
      ]

      below : (x y : ℕ) → x * d < y * d → x < y
      below x y h = elim (cases_lt x y) [
        | inl less ↦ less
        | inr more ↦ absurd (let m : y * d ≤ x * d = mul-le-mul_right d more in omega (arith, m, h))
      ]

-- a lifted rise times a part of a grid, so that as many grids lift it
lifted_product : (part grid u n : ℕ) (rise : ℤ) → pos u ≡ rise +ℤ pos 4294967296 → part < grid → n ≡ u * part + 4294967296 * (grid - part) → pos part *ℤ rise +ℤ pos (4294967296 * grid) ≡ pos n
lifted_product part grid u n (pos a) e less is =
    let same : u ≡ a + 4294967296 = omega (arith, ints, e) in
    let all : u * part ≡ (a + 4294967296) * part = ap (λ k. k * part) same in
    ap (λ d. d +ℤ pos (4294967296 * grid)) (pos-*ℤ-pos part a) ∙ omega (arith, ints, all, is, less)
lifted_product part grid u n (negsuc a) e less is =
    let same : u + suc a ≡ 4294967296 = omega (arith, ints, e) in
    let all : (u + suc a) * part ≡ 4294967296 * part = ap (λ k. k * part) same in
    ap (λ d. d +ℤ pos (4294967296 * grid)) (pos-*ℤ-negsuc part a) ∙ omega (arith, ints, all, is, less)

module _ (grid parts n : ℕ) (some : 0 < grid) (small : grid ≤ 320000) (enough : 2361183241434822606848 ≤ parts * grid) (few : parts * grid < 2361183241434822606848 + grid) (within : n < 2748779069440000) where
  pub high_is : parts * n / 2361183241434822606848 ≡ n / grid
  high_is =
      let times : grid * n ≤ 320000 * 2748779069440000 = mul-le grid n 320000 2748779069440000 small (omega (arith, within)) in
      high_quotient 2361183241434822606848 grid some parts grid n enough (omega (arith, few)) (omega (arith, times))

  pub high_small : parts * n / 2361183241434822606848 < 9223372036854775808
  high_small = omega (arith, high_is, div-le_self n grid, within)

  pub share_is : (part u : ℕ) (rise : ℤ) → pos u ≡ rise +ℤ pos 4294967296 → part < grid → n ≡ u * part + 4294967296 * (grid - part) → pos (parts * n / 2361183241434822606848) -ℤ pos 4294967296 ≡ floor_div (rise *ℤ pos part) (pos grid)
  share_is part u rise e less is =
      let product : rise *ℤ pos part +ℤ pos (4294967296 * grid) ≡ pos n = ap (λ z. z +ℤ pos (4294967296 * grid)) (*ℤ_comm rise (pos part)) ∙ lifted_product part grid u n rise e less is in
      let q = floor_lifted grid some (rise *ℤ pos part) n 4294967296 product in
      omega (arith, ints, high_is, q)
