-- Which numbers are factors that few bits hold.
use Rattle.std.specs.Prelude.{Bool, true, ◌&&◌, ℤ, pos, neg_ℤ}
use Rattle.std.specs.Int.Signed.{le_z}
use Rattle.ny_num.specs.Filters.{Coefficients}

-- no more than 2^28 millionths on either side of 0
abbrev pub is_small : ℤ → Bool
is_small z = le_z (neg_ℤ (pos 268435456)) z && le_z z (pos 268435456)

-- each number
abbrev pub is_any : ℤ → Bool
is_any z = true

-- it is so of each number of a biquad filter
abbrev pub each_holds : (ℤ → Bool) → Coefficients → Bool
each_holds holds c = holds c.b0 && holds c.b1 && holds c.b2 && holds c.a1 && holds c.a2
