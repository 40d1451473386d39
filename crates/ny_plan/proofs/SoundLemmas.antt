-- When sounds are heard, and which of their samples: leaves, effects, and what is moved and cut.
use Rattle.std.proofs.Common.{◌≡◌, ℕ, ◌≤◌, true, false, cond, List, take, None, refl, sym, ap, arith, ℤ}
use Rattle.ny_num.specs.declared.rate.Rate.{Rate}
use Rattle.ny_num.specs.declared.timing.Timing.{Timing}
use Rattle.ny_num.specs.Sound as sounds
use Rattle.ny_num.specs.Sound.{timing_of, placed, placed_timing, cued_timing, cut_len, spanning}
use Rattle.ny_num.specs.Resampling.{is_same_rate, other_rate_timing, resampled, resampled_timing}
use Rattle.ny_num.proofs.SoundTimings.{timing_of-leaf, timing_of-sound_of, timing_of-each_value, timing_of-one_pole, timing_of-biquad, timing_of-comb}
use Rattle.ny_num.specs.Numbers.{sample_abs}
use Rattle.ny_num.specs.Leaves.{leaf_timing}
use Rattle.ny_warp.specs.declared.env.Env.{Env}
use Rattle.ny_check.specs.Families.{number_at, leaf_time, leaf_sound, effect_sound}
use Rattle.ny_check.specs.declared.node.Generator.{Generator}
use Rattle.ny_check.specs.declared.node.Generator.TheVariants as generator
use Rattle.ny_check.specs.declared.node.Effect.{Effect}
use Rattle.ny_check.specs.declared.node.Effect.TheVariants as effect
use Rattle.ny_num.specs.Filters.{comb_delay}
use Rattle.ny_check.specs.Behaviours.{sustained_timing, plain_timing, envelope_end, const_sound, rest_sound, ramp_sound, osc_sound, hzosc_sound, lfo_sound, noise_sound, envelope_sound, rest_timing}
use Rattle.ny_hands.specs.Kinds.{kind_of_generator}
use Rattle.ny_plan.proofs.OrderLemmas.{no_value}

pub resampled_same : (rate : Rate) (m : sounds.Sound) → is_same_rate m.rate rate ≡ true → resampled rate m ≡ m
unfolding resampled
resampled_same rate m e = ap (λ b. cond b m (Rattle.ny_num.specs.Sound.sound_of (other_rate_timing rate (timing_of m)) (Rattle.ny_num.specs.Resampling.interpolated rate m))) e

pub resampled_other : (rate : Rate) (t : Timing) → is_same_rate t.rate rate ≡ false → resampled_timing rate t ≡ other_rate_timing rate t
unfolding resampled_timing
resampled_other rate t e = ap (λ b. cond b t (other_rate_timing rate t)) e

pub cued_samples : (k : ℕ) (m : sounds.Sound) → (sounds.cued k m).samples ≡ take (Timing.len (cued_timing k (timing_of m))) m.samples
unfolding sounds.cued cued_timing timing_of
cued_samples k m = refl

pub cued_short : (k : ℕ) (t : Timing) → Timing.len (cued_timing k t) ≤ t.len
unfolding cued_timing cut_len
cued_short k t = omega arith

pub placed_samples : (k : ℕ) (m : sounds.Sound) → (placed k m).samples ≡ take (Timing.len (placed_timing k (timing_of m))) m.samples
unfolding placed placed_timing timing_of
placed_samples k m = refl

pub placed_short : (k : ℕ) (t : Timing) → Timing.len (placed_timing k t) ≤ t.len
unfolding placed_timing cut_len
placed_short k t = omega arith

pub stop_is : (m : sounds.Sound) (t : Timing) → timing_of m ≡ t → m.stop ≡ t.stop
unfolding timing_of
stop_is m t e = ap (λ (w : Timing). w.stop) e

-- when leaves are heard
pub timing_of-const : (env : Env) (v d : ℤ) → timing_of (const_sound env v d) ≡ sustained_timing env.sound_rate env d
unfolding const_sound
timing_of-const env v d = timing_of-leaf _ _

pub timing_of-osc : (env : Env) (key d : ℤ) → timing_of (osc_sound env key d) ≡ sustained_timing env.sound_rate env d
unfolding osc_sound
timing_of-osc env key d = timing_of-leaf _ _

pub timing_of-hzosc : (env : Env) (hz d : ℤ) → timing_of (hzosc_sound env hz d) ≡ sustained_timing env.sound_rate env d
unfolding hzosc_sound
timing_of-hzosc env hz d = timing_of-leaf _ _

pub timing_of-noise : (env : Env) (v d : ℤ) → timing_of (noise_sound env v d) ≡ sustained_timing env.sound_rate env d
unfolding noise_sound
timing_of-noise env v d = timing_of-leaf _ _

pub timing_of-lfo : (env : Env) (hz d : ℤ) → timing_of (lfo_sound env hz d) ≡ sustained_timing env.control_rate env d
unfolding lfo_sound
timing_of-lfo env hz d = timing_of-leaf _ _

pub timing_of-rest : (env : Env) (d : ℤ) → timing_of (rest_sound env d) ≡ rest_timing env d
unfolding rest_sound
timing_of-rest env d = timing_of-leaf _ _

pub timing_of-ramp : (env : Env) (d : ℤ) → timing_of (ramp_sound env d) ≡ plain_timing env.control_rate env d
unfolding ramp_sound
timing_of-ramp env d = timing_of-leaf _ _

pub timing_of-envelope : (env : Env) (numbers : List ℤ) → timing_of (envelope_sound env numbers) ≡ plain_timing env.control_rate env (envelope_end numbers)
unfolding envelope_sound
timing_of-envelope env numbers = timing_of-sound_of _ _

-- each leaf is heard by its row
pub timing_of-leaf_sound : (w : Generator) (env : Env) (ns : List ℤ) → timing_of (leaf_sound w env ns) ≡ leaf_time w env ns
timing_of-leaf_sound generator.Const env ns = timing_of-const env _ _
timing_of-leaf_sound generator.Osc env ns = timing_of-osc env _ _
timing_of-leaf_sound generator.HzOsc env ns = timing_of-hzosc env _ _
timing_of-leaf_sound generator.Lfo env ns = timing_of-lfo env _ _
timing_of-leaf_sound generator.Noise env ns = timing_of-noise env _ _
timing_of-leaf_sound generator.Rest env ns = timing_of-rest env _
timing_of-leaf_sound generator.Ramp env ns = timing_of-ramp env _
timing_of-leaf_sound generator.Pwl env ns = timing_of-envelope env ns

-- an effect is heard when its sound is heard
pub timing_of-effect : (w : Effect) (ns : List ℤ) (s : sounds.Sound) → timing_of (effect_sound w ns s) ≡ timing_of s
timing_of-effect effect.Abs ns s = timing_of-each_value sample_abs s
timing_of-effect effect.OnePole ns s = timing_of-one_pole _ s
timing_of-effect effect.Biquad ns s = timing_of-biquad _ s
timing_of-effect effect.Comb ns s = timing_of-comb (comb_delay s.rate (number_at ns 0)) (number_at ns 1) s

pub rest_none : (env : Env) (d : ℤ) → Timing.len (rest_timing env d) ≡ 0
unfolding rest_timing leaf_timing spanning
rest_none env d = omega arith

-- a leaf that is no unit has no sample
pub none_of_no_kind : (w : Generator) (env : Env) (ns : List ℤ) → kind_of_generator w ≡ None → Timing.len (leaf_time w env ns) ≡ 0
none_of_no_kind generator.Const env ns e = absurd (no_value (sym e))
none_of_no_kind generator.Osc env ns e = absurd (no_value (sym e))
none_of_no_kind generator.HzOsc env ns e = absurd (no_value (sym e))
none_of_no_kind generator.Lfo env ns e = absurd (no_value (sym e))
none_of_no_kind generator.Noise env ns e = absurd (no_value (sym e))
none_of_no_kind generator.Rest env ns e = rest_none env (number_at ns 0)
none_of_no_kind generator.Ramp env ns e = absurd (no_value (sym e))
none_of_no_kind generator.Pwl env ns e = absurd (no_value (sym e))
