-- Leaves and cues, as an environment makes them.
use Rattle.std.specs.Prelude.{ℕ, Bool, not, ◌&&◌, if◌then◌else◌, List, [], ◌∷◌, map, ℤ, pos, int_lt}
use Rattle.std.specs.Int.{int_max}
use Rattle.ny_num.specs.Numbers.{million, fix_mul, sat_sample}
use Rattle.ny_num.specs.Grid.{index_at}
use Rattle.ny_num.specs.declared.rate.Rate.{Rate}
use Rattle.ny_num.specs.declared.timing.Timing.{Timing}
use Rattle.ny_num.specs.Sound.{Sound, sound_of, cued, cued_timing}
use Rattle.ny_num.specs.Leaves.{leaf, leaf_timing, ramp_value, wave_value, increment, key_of, key_hz, seed_of, noise_value, louder_value, envelope_value}
use Rattle.ny_num.specs.Pointwise.{each_value}
use Rattle.ny_warp.specs.declared.env.Env.{Env}
use Rattle.ny_warp.specs.Environment.{global_time}

-- ---- when a leaf is heard

-- from local time 0 for d seconds times the sustain; it stops after d seconds
unfoldable pub sustained_timing : Rate → Env → ℤ → Timing
sustained_timing rate env d =
    leaf_timing rate (global_time env (pos 0)) (global_time env (fix_mul d env.sustain)) (global_time env d)

-- from local time 0 for d seconds, whatever the sustain
unfoldable pub plain_timing : Rate → Env → ℤ → Timing
plain_timing rate env d = leaf_timing rate (global_time env (pos 0)) (global_time env d) (global_time env d)

-- nothing is heard, and it stops after d seconds
unfoldable pub rest_timing : Env → ℤ → Timing
rest_timing env d =
    leaf_timing env.sound_rate (global_time env (pos 0)) (global_time env (pos 0)) (global_time env d)

-- ---- leaves at the sound rate

-- `const`
unfoldable pub const_sound : Env → ℤ → ℤ → Sound
const_sound env v d = leaf (sustained_timing env.sound_rate env d) (λ n. sat_sample v)

-- `s-rest`
unfoldable pub rest_sound : Env → ℤ → Sound
rest_sound env d = leaf (rest_timing env d) (λ n. pos 0)

-- a wave from a table with so many entries, at a frequency in millionths of Hz and at the loudness
abbrev pub tone : ℕ → Env → ℤ → ℤ → Sound
tone entries env hz d =
    leaf (sustained_timing env.sound_rate env d)
    (λ n. louder_value env.loud (wave_value entries (increment hz env.sound_rate) n))

-- `osc`: the key after transposition
unfoldable pub osc_sound : Env → ℤ → ℤ → Sound
osc_sound env key d = tone 1024 env (key_hz (key_of key env.transpose)) d

-- `hzosc`
unfoldable pub hzosc_sound : Env → ℤ → ℤ → Sound
hzosc_sound env hz d = tone 4096 env hz d

-- `noise`, at the loudness
unfoldable pub noise_sound : Env → ℤ → ℤ → Sound
noise_sound env v d =
    leaf (sustained_timing env.sound_rate env d) (λ n. louder_value env.loud (noise_value (seed_of v) n))

-- ---- leaves at the control rate

-- `lfo`, whatever the loudness
unfoldable pub lfo_sound : Env → ℤ → ℤ → Sound
lfo_sound env hz d =
    leaf (sustained_timing env.control_rate env d) (wave_value 256 (increment hz env.control_rate))

-- `ramp`
unfoldable pub ramp_sound : Env → ℤ → Sound
ramp_sound env d = let t = plain_timing env.control_rate env d in leaf t (ramp_value t.len)

-- The breakpoints after a time: local times in seconds, none before the greatest so far, each with its level. The last
-- time has no level written, and it is 0.
abbrev pub breakpoints_after : ℤ → List ℤ → List (ℤ × ℤ)
breakpoints_after time [] = []
breakpoints_after time (t ∷ []) = (int_max time t, pos 0) ∷ []
breakpoints_after time (t ∷ level ∷ more) = (int_max time t, sat_sample level) ∷ breakpoints_after (int_max time t) more

-- the breakpoints of an envelope, after the level 0 at local time 0
abbrev pub breakpoints : List ℤ → List (ℤ × ℤ)
breakpoints numbers = breakpoints_after (pos 0) numbers

-- the time of the last breakpoint
abbrev pub last_time : ℤ → List (ℤ × ℤ) → ℤ
last_time time [] = time
last_time time (p ∷ ps) = last_time p.0 ps

-- the local time at which an envelope ends: that of its last breakpoint
abbrev pub envelope_end : List ℤ → ℤ
envelope_end numbers = last_time (pos 0) (breakpoints numbers)

-- a breakpoint by the index that is nearest to its time
abbrev pub knot : Env → ℤ × ℤ → ℕ × ℤ
knot env p = (index_at (global_time env p.0) env.control_rate, p.1)

-- `pwl`: the lines through the level 0 at local time 0 and the breakpoints
unfoldable pub envelope_sound : Env → List ℤ → Sound
envelope_sound env numbers =
    sound_of (plain_timing env.control_rate env (envelope_end numbers))
    (envelope_value (knot env (pos 0, pos 0) ∷ map (knot env) (breakpoints numbers)))

-- ---- cues

-- a number is 1
abbrev pub is_one : ℤ → Bool
is_one a = not (int_lt a million) && not (int_lt million a)

-- by how many samples a cue moves a sound of this rate: the index of local time 0
abbrev pub cue_shift : Env → Rate → ℕ
cue_shift env rate = index_at (global_time env (pos 0)) rate

-- `cue`: the sound that much later, and at the loudness where that is not 1
unfoldable pub cue_sound : Env → Sound → Sound
cue_sound env s =
    let later = cued (cue_shift env s.rate) s in
    if is_one env.loud then later else each_value (louder_value env.loud) later

-- when a cue of a sound with this timing is heard
unfoldable pub cue_timing : Env → Timing → Timing
cue_timing env t = cued_timing (cue_shift env t.rate) t
