-- Numbers and samples: whole millionths, each operation exact and then clamped once.
use Rattle.std.specs.Prelude.{◌^◌, ℤ, pos, neg_ℤ, unsigned_abs, ◌+ℤ◌, ◌-ℤ◌, ◌*ℤ◌, ◌≤ℤ◌}
use Rattle.std.specs.Int.{int_min, int_max, int_div_euclid}

-- a million, which is 1 in millionths
abbrev pub million : ℤ
million = pos 1000000

-- the greatest whole number whose product with b is at most a, for b above 0
abbrev pub floor_div : ℤ → ℤ → ℤ
floor_div a b = int_div_euclid a b

-- the number from low to high that is nearest to z
abbrev pub clamp_ℤ : ℤ → ℤ → ℤ → ℤ
clamp_ℤ low high z = int_max low (int_min z high)

-- the greatest number, in millionths
abbrev pub fix_limit : ℤ
fix_limit = pos (2 ^ 53)

-- the greatest sample, in millionths
abbrev pub sample_limit : ℤ
sample_limit = pos 2147483647

-- the number nearest to z millionths
unfoldable pub sat : ℤ → ℤ
sat z = clamp_ℤ (neg_ℤ fix_limit) fix_limit z

-- the sample nearest to z millionths
unfoldable pub sat_sample : ℤ → ℤ
sat_sample z = clamp_ℤ (neg_ℤ sample_limit) sample_limit z

-- z millionths are a number
abbrev pub IsFix : ℤ → Type 0
IsFix z = (neg_ℤ fix_limit ≤ℤ z) × (z ≤ℤ fix_limit)

-- z millionths are a sample
abbrev pub IsSample : ℤ → Type 0
IsSample z = (neg_ℤ sample_limit ≤ℤ z) × (z ≤ℤ sample_limit)

-- the whole units of a number, rounded down
unfoldable pub whole_units : ℤ → ℤ
whole_units a = floor_div a million

-- the sum of two numbers
unfoldable pub fix_add : ℤ → ℤ → ℤ
fix_add a b = sat (a +ℤ b)

-- the difference of two numbers
unfoldable pub fix_sub : ℤ → ℤ → ℤ
fix_sub a b = sat (a -ℤ b)

-- the number with the other sign
unfoldable pub fix_neg : ℤ → ℤ
fix_neg a = sat (neg_ℤ a)

-- the product of two numbers, rounded down to a millionth
unfoldable pub fix_mul : ℤ → ℤ → ℤ
fix_mul a b = sat (floor_div (a *ℤ b) million)

-- the quotient of a number by one above 0, rounded down to a millionth
unfoldable pub fix_div : ℤ → ℤ → ℤ
fix_div a b = sat (floor_div (a *ℤ million) b)

-- the sum of two samples
unfoldable pub sample_add : ℤ → ℤ → ℤ
sample_add a b = sat_sample (a +ℤ b)

-- the difference of two samples
unfoldable pub sample_sub : ℤ → ℤ → ℤ
sample_sub a b = sat_sample (a -ℤ b)

-- the product of two samples, rounded down to a millionth
unfoldable pub sample_mul : ℤ → ℤ → ℤ
sample_mul a b = sat_sample (floor_div (a *ℤ b) million)

-- the greater of two samples; none of these three needs a clamp
abbrev pub sample_max : ℤ → ℤ → ℤ
sample_max a b = int_max a b

-- the smaller of two samples
abbrev pub sample_min : ℤ → ℤ → ℤ
sample_min a b = int_min a b

-- a sample without its sign
abbrev pub sample_abs : ℤ → ℤ
sample_abs a = pos (unsigned_abs a)
