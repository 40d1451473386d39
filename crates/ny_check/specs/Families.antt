-- The operators of each family: a row for each says when its sound is heard, and what it is.
use Rattle.std.specs.Prelude.{ℕ, List, get_or, ℤ, pos}
use Rattle.std.specs.Int.{int_min, int_max}
use Rattle.ny_num.specs.Numbers.{fix_add, fix_sub, fix_mul, sample_abs}
use Rattle.ny_num.specs.declared.rate.Rate.{Rate}
use Rattle.ny_num.specs.declared.timing.Timing.{Timing}
use Rattle.ny_num.specs.Sound.{Sound, sum_timing}
use Rattle.ny_num.specs.Pointwise.{product_timing, each_value}
use Rattle.ny_num.specs.Filters.{Coefficients, one_pole, biquad, comb, comb_delay}
use Rattle.ny_kernels.specs.declared.operation.Op.{Op}
use Rattle.ny_kernels.specs.declared.operation.Op.TheVariants as op
use Rattle.ny_warp.specs.declared.env.Env.{Env}
use Rattle.ny_warp.specs.Environment.{shifted, stretched, louder, sustained, transposed, warped, at_sound_rate, at_control_rate}
use Rattle.ny_resolve.specs.declared.builtin.Rated.{Rated}
use Rattle.ny_resolve.specs.declared.builtin.Rated.TheVariants as rated
use Rattle.ny_check.specs.declared.node.ExprId.{ExprId}
use Rattle.ny_check.specs.declared.node.Generator.{Generator}
use Rattle.ny_check.specs.declared.node.Generator.TheVariants as generator
use Rattle.ny_check.specs.declared.node.Effect.{Effect}
use Rattle.ny_check.specs.declared.node.Effect.TheVariants as effect
use Rattle.ny_check.specs.declared.node.Transformation.{Transformation}
use Rattle.ny_check.specs.declared.node.Transformation.TheVariants as by
use Rattle.ny_check.specs.declared.node.Change.{Change}
use Rattle.ny_check.specs.declared.node.Change.TheVariants as change
use Rattle.ny_check.specs.Behaviours.{sustained_timing, plain_timing, rest_timing, envelope_end, const_sound, osc_sound, hzosc_sound, lfo_sound, noise_sound, rest_sound, ramp_sound, envelope_sound}

-- the number of an operator at a place among its numbers
abbrev pub number_at : List ℤ → ℕ → ℤ
number_at numbers k = get_or numbers k (pos 0)

-- ---- pairs

-- what an operation makes of two numbers
abbrev pub fix_operation : Op → ℤ → ℤ → ℤ
fix_operation op.Add a b = fix_add a b
fix_operation op.Sub a b = fix_sub a b
fix_operation op.Mul a b = fix_mul a b
fix_operation op.Max a b = int_max a b
fix_operation op.Min a b = int_min a b

-- when two sounds of one rate are heard together
abbrev pub pair_timing : Op → Timing → Timing → Timing
pair_timing op.Add s t = sum_timing s t
pair_timing op.Sub s t = sum_timing s t
pair_timing op.Mul s t = product_timing s t
pair_timing op.Max s t = sum_timing s t
pair_timing op.Min s t = sum_timing s t

-- ---- leaves

-- when a leaf of these numbers is heard
abbrev pub leaf_time : Generator → Env → List ℤ → Timing
leaf_time generator.Const env ns = sustained_timing env.sound_rate env (number_at ns 1)
leaf_time generator.Osc env ns = sustained_timing env.sound_rate env (number_at ns 1)
leaf_time generator.HzOsc env ns = sustained_timing env.sound_rate env (number_at ns 1)
leaf_time generator.Lfo env ns = sustained_timing env.control_rate env (number_at ns 1)
leaf_time generator.Noise env ns = sustained_timing env.sound_rate env (number_at ns 1)
leaf_time generator.Rest env ns = rest_timing env (number_at ns 0)
leaf_time generator.Ramp env ns = plain_timing env.control_rate env (number_at ns 0)
leaf_time generator.Pwl env ns = plain_timing env.control_rate env (envelope_end ns)

-- the sound of a leaf of these numbers
abbrev pub leaf_sound : Generator → Env → List ℤ → Sound
leaf_sound generator.Const env ns = const_sound env (number_at ns 0) (number_at ns 1)
leaf_sound generator.Osc env ns = osc_sound env (number_at ns 0) (number_at ns 1)
leaf_sound generator.HzOsc env ns = hzosc_sound env (number_at ns 0) (number_at ns 1)
leaf_sound generator.Lfo env ns = lfo_sound env (number_at ns 0) (number_at ns 1)
leaf_sound generator.Noise env ns = noise_sound env (number_at ns 0) (number_at ns 1)
leaf_sound generator.Rest env ns = rest_sound env (number_at ns 0)
leaf_sound generator.Ramp env ns = ramp_sound env (number_at ns 0)
leaf_sound generator.Pwl env ns = envelope_sound env ns

-- ---- effects

-- the coefficients of a biquad, in the order in which they are written
abbrev pub coefficients_of : List ℤ → Coefficients
coefficients_of ns =
    record { b0 = number_at ns 0; b1 = number_at ns 1; b2 = number_at ns 2; a1 = number_at ns 3; a2 = number_at ns 4 }

-- a comb, whose delay is counted at the sound's own rate
abbrev pub comb_sound : ℤ → ℤ → Sound → Sound
comb_sound delay gain s = comb (comb_delay s.rate delay) gain s

-- what is made of a sound and these numbers; it is heard when the sound is heard
abbrev pub effect_sound : Effect → List ℤ → Sound → Sound
effect_sound effect.Abs ns s = each_value sample_abs s
effect_sound effect.OnePole ns s = one_pole (number_at ns 0) s
effect_sound effect.Biquad ns s = biquad (coefficients_of ns) s
effect_sound effect.Comb ns s = comb_sound (number_at ns 0) (number_at ns 1) s

-- ---- changes

-- an environment after a change by a number
abbrev pub changed_by : Transformation → Env → ℤ → Env
changed_by by.At env k = shifted env k
changed_by by.Stretch env k = stretched env k
changed_by by.Loud env k = louder env k
changed_by by.Sustain env k = sustained env k
changed_by by.Transpose env k = transposed env k

-- an environment with another rate for sounds or for control
abbrev pub at_rate : Rated → Env → Rate → Env
at_rate rated.Sound env r = at_sound_rate env r
at_rate rated.Control env r = at_control_rate env r

-- the environment of what is changed
abbrev pub changed_env : Change → (ExprId → ℤ) → Env → Env
changed_env (change.By t k) number env = changed_by t env (number k)
changed_env (change.Warp m) number env = warped env m
changed_env (change.Rate rated r) number env = at_rate rated env r
