-- Products that 64 bits hold.
use Rattle.std.proofs.Common.{Bool, FitsSigned, ◌≡◌, ◌&&◌, true, ◌≤◌, ℤ, pos, negsuc, neg_ℤ, unsigned_abs, ◌+ℤ◌, ◌*ℤ◌, ◌≤ℤ◌, ◌∙◌, ap, arith, w64, to_z, of_z}
use Rattle.std.proofs.lemmas.Bool.{and_parts}
use Rattle.std.proofs.lemmas.Float.{T_from_true}
use Rattle.std.proofs.lemmas.Nat.{mul-le}
use Rattle.std.proofs.lemmas.Int.{ints, unsigned_abs-mul, to_z-of_z}
use Rattle.std.specs.Int.Signed.{le_z}
use Rattle.ny_num.specs.Filters.{Coefficients}
use Rattle.ny_num.specs.Numbers.{IsSample, million, floor_div}
use Rattle.ny_filters.specs.Sizes.{is_small, each_holds}

at_most : (a b : ℤ) → le_z a b ≡ true → a ≤ℤ b
at_most a b e = record { le = T_from_true (le_z a b) e }

abs_small : (z : ℤ) → is_small z ≡ true → unsigned_abs z ≤ 268435456
abs_small z is =
    let p = and_parts (le_z (neg_ℤ (pos 268435456)) z) (le_z z (pos 268435456)) is in
    let low = at_most (neg_ℤ (pos 268435456)) z p.0 in
    let high = at_most z (pos 268435456) p.1 in
    omega (arith, ints, low, high)

abs_difference : (z : ℤ) → neg_ℤ (pos 4294967294) ≤ℤ z → z ≤ℤ pos 4294967294 → unsigned_abs z ≤ 4294967294
abs_difference z low high = omega (arith, ints, low, high)

between : (z : ℤ) → unsigned_abs z ≤ 2305843009213693952 → (neg_ℤ (pos 2305843009213693952) ≤ℤ z) × (z ≤ℤ pos 2305843009213693952)
between z h = (omega (arith, ints, h), omega (arith, ints, h))

pub product_small : (factor times : ℤ) → is_small factor ≡ true → neg_ℤ (pos 4294967294) ≤ℤ times → times ≤ℤ pos 4294967294
    → (neg_ℤ (pos 2305843009213693952) ≤ℤ (factor *ℤ times)) × ((factor *ℤ times) ≤ℤ pos 2305843009213693952)
product_small factor times small low high =
    between (factor *ℤ times) (omega (arith, unsigned_abs-mul factor times, mul-le (unsigned_abs factor) (unsigned_abs times) 268435456 4294967294 (abs_small factor small) (abs_difference times low high)))

fits : (z : ℤ) → (neg_ℤ (pos 2305843009213693952) ≤ℤ z) × (z ≤ℤ pos 2305843009213693952) → FitsSigned w64 z
fits z h = omega (arith, ints, h.0, h.1)

-- a product that is computed in 64 bits is exact
pub product_exact : (factor times : ℤ) → FitsSigned w64 factor → FitsSigned w64 times → is_small factor ≡ true → neg_ℤ (pos 4294967294) ≤ℤ times → times ≤ℤ pos 4294967294
    → to_z w64 (of_z w64 (to_z w64 (of_z w64 factor) *ℤ to_z w64 (of_z w64 times))) ≡ factor *ℤ times
product_exact factor times f t small low high =
    ap (λ z. to_z w64 (of_z w64 (z *ℤ to_z w64 (of_z w64 times)))) (to_z-of_z w64 factor f)
    ∙ ap (λ z. to_z w64 (of_z w64 (factor *ℤ z))) (to_z-of_z w64 times t)
    ∙ to_z-of_z w64 (factor *ℤ times) (fits (factor *ℤ times) (product_small factor times small low high))

pub units_within : (z : ℤ) → neg_ℤ (pos 2305843009213693952) ≤ℤ z → z ≤ℤ pos 2305843009213693952
    → (neg_ℤ (pos 2305843009213693952) ≤ℤ floor_div z million) × (floor_div z million ≤ℤ pos 2305843009213693952)
units_within (pos n) low high = (omega (arith, ints, low, high), omega (arith, ints, low, high))
units_within (negsuc n) low high = (omega (arith, ints, low, high), omega (arith, ints, low, high))

-- no more than a small number times a sample
abbrev pub IsShort : ℤ → Type 0
IsShort z = (neg_ℤ (pos 576460752303423488) ≤ℤ z) × (z ≤ℤ pos 576460752303423488)

short_between : (z : ℤ) → unsigned_abs z ≤ 576460752303423488 → IsShort z
short_between z h = (omega (arith, ints, h), omega (arith, ints, h))

abs_sample : (z : ℤ) → IsSample z → unsigned_abs z ≤ 2147483647
abs_sample z is = omega (arith, ints, is.0, is.1)

pub weight_short : (factor x : ℤ) → is_small factor ≡ true → IsSample x → IsShort (factor *ℤ x)
weight_short factor x small is =
    short_between (factor *ℤ x) (omega (arith, unsigned_abs-mul factor x, mul-le (unsigned_abs factor) (unsigned_abs x) 268435456 2147483647 (abs_small factor small) (abs_sample x is)))

short_fits : (z : ℤ) → IsShort z → FitsSigned w64 z
short_fits z h = omega (arith, ints, h.0, h.1)

pub weight_exact : (factor x a b : ℤ) → a ≡ factor → b ≡ x → is_small factor ≡ true → IsSample x → FitsSigned w64 a → FitsSigned w64 b
    → to_z w64 (of_z w64 (to_z w64 (of_z w64 a) *ℤ to_z w64 (of_z w64 b))) ≡ factor *ℤ x
weight_exact factor x a b f s small is fa fb =
    ap (λ z. to_z w64 (of_z w64 (z *ℤ to_z w64 (of_z w64 b)))) (to_z-of_z w64 a fa ∙ f)
    ∙ ap (λ z. to_z w64 (of_z w64 (factor *ℤ z))) (to_z-of_z w64 b fb ∙ s)
    ∙ to_z-of_z w64 (factor *ℤ x) (short_fits (factor *ℤ x) (weight_short factor x small is))

-- ---- weighed sums, lifted above 0

abbrev Lift : ℤ
Lift = pos 2882303761518000000

pub two_lifted : (a b : ℤ) → IsShort a → IsShort b → FitsSigned w64 (Lift +ℤ a +ℤ b)
two_lifted a b p q = omega (arith, ints, p.0, p.1, q.0, q.1)

pub three_lifted : (a b c : ℤ) → IsShort a → IsShort b → IsShort c → FitsSigned w64 (Lift +ℤ a +ℤ b +ℤ c)
three_lifted a b c p q r = omega (arith, ints, p.0, p.1, q.0, q.1, r.0, r.1)

pub four_lifted : (a b c d : ℤ) → IsShort a → IsShort b → IsShort c → IsShort d → FitsSigned w64 (Lift +ℤ a +ℤ b +ℤ c +ℤ d)
four_lifted a b c d p q r s = omega (arith, ints, p.0, p.1, q.0, q.1, r.0, r.1, s.0, s.1)

pub five_lifted : (a b c d e : ℤ) → IsShort a → IsShort b → IsShort c → IsShort d → IsShort e → FitsSigned w64 (Lift +ℤ a +ℤ b +ℤ c +ℤ d +ℤ e)
five_lifted a b c d e p q r s t = omega (arith, ints, p.0, p.1, q.0, q.1, r.0, r.1, s.0, s.1, t.0, t.1)

pub above_zero : (a b c d e : ℤ) → IsShort a → IsShort b → IsShort c → IsShort d → IsShort e → pos 0 ≤ℤ (Lift +ℤ a +ℤ b +ℤ c +ℤ d +ℤ e)
above_zero a b c d e p q r s t = omega (arith, ints, p.0, p.1, q.0, q.1, r.0, r.1, s.0, s.1, t.0, t.1)

-- the order in which they are added does not matter
pub other_order : (a b c d e : ℤ) → Lift +ℤ a +ℤ b +ℤ c +ℤ d +ℤ e ≡ a +ℤ b +ℤ c +ℤ e +ℤ d +ℤ Lift
other_order a b c d e = omega (arith, ints)

-- what holds of each number of a filter
pub record OfEach (holds : ℤ → Bool) (c : Coefficients) : Type 0 where
  pub b0 : holds c.b0 ≡ true
  pub b1 : holds c.b1 ≡ true
  pub b2 : holds c.b2 ≡ true
  pub a1 : holds c.a1 ≡ true
  pub a2 : holds c.a2 ≡ true

pub of_each : (holds : ℤ → Bool) (c : Coefficients) → each_holds holds c ≡ true → OfEach holds c
of_each holds c each =
    let four = and_parts (holds c.b0 && holds c.b1 && holds c.b2 && holds c.a1) (holds c.a2) each in
    let three = and_parts (holds c.b0 && holds c.b1 && holds c.b2) (holds c.a1) four.0 in
    let two = and_parts (holds c.b0 && holds c.b1) (holds c.b2) three.0 in
    let one = and_parts (holds c.b0) (holds c.b1) two.0 in
    record { b0 = one.0; b1 = one.1; b2 = two.1; a1 = three.1; a2 = four.1 }
