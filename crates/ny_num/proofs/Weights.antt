-- A number times a sample, exactly, is small beside 128 bits.
use Rattle.std.specs.Int.{w128}
use Rattle.std.proofs.Common.{FitsSigned, ◌≤◌, ℤ, pos, neg_ℤ, unsigned_abs, ◌+ℤ◌, ◌*ℤ◌, ◌≤ℤ◌, arith}
use Rattle.std.proofs.lemmas.Nat.{mul-le}
use Rattle.std.proofs.lemmas.Int.{ints, unsigned_abs-mul}
use Rattle.ny_num.specs.Numbers.{IsFix, IsSample}

abs_fix : (z : ℤ) → IsFix z → unsigned_abs z ≤ 9007199254740992
abs_fix z is = omega (arith, ints, is.0, is.1)

abs_sample : (z : ℤ) → IsSample z → unsigned_abs z ≤ 2147483647
abs_sample z is = omega (arith, ints, is.0, is.1)

between : (z : ℤ) → unsigned_abs z ≤ 19342813113834066795298816 → (neg_ℤ (pos 19342813113834066795298816) ≤ℤ z) × (z ≤ℤ pos 19342813113834066795298816)
between z h = (omega (arith, ints, h), omega (arith, ints, h))

pub weight_within : (factor x : ℤ) → IsFix factor → IsSample x → (neg_ℤ (pos 19342813113834066795298816) ≤ℤ (factor *ℤ x)) × ((factor *ℤ x) ≤ℤ pos 19342813113834066795298816)
weight_within factor x f s =
    between (factor *ℤ x) (omega (arith, unsigned_abs-mul factor x, mul-le (unsigned_abs factor) (unsigned_abs x) 9007199254740992 2147483647 (abs_fix factor f) (abs_sample x s)))

-- no more than a number times a sample
abbrev pub IsWeight : ℤ → Type 0
IsWeight z = (neg_ℤ (pos 19342813113834066795298816) ≤ℤ z) × (z ≤ℤ pos 19342813113834066795298816)

pub four_fit : (a b c d : ℤ) → IsWeight a → IsWeight b → IsWeight c → IsWeight d → FitsSigned w128 (a +ℤ b +ℤ c +ℤ d)
four_fit a b c d p q r s = omega (arith, ints, p.0, p.1, q.0, q.1, r.0, r.1, s.0, s.1)

pub five_fit : (a b c d e : ℤ) → IsWeight a → IsWeight b → IsWeight c → IsWeight d → IsWeight e → FitsSigned w128 (a +ℤ b +ℤ c +ℤ d +ℤ e)
five_fit a b c d e p q r s t = omega (arith, ints, p.0, p.1, q.0, q.1, r.0, r.1, s.0, s.1, t.0, t.1)
