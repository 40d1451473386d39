-- The environment that a sound expression is evaluated in, its value at a local time, and its changes.
use Rattle.std.specs.Prelude.{ℕ, List, [], ◌∷◌, ◌++◌, ℤ, pos}
use Rattle.std.specs.Int.{int_max}
use Rattle.ny_num.specs.Numbers.{million, fix_add, fix_mul}
use Rattle.ny_num.specs.Grid.{ticks_of_micro}
use Rattle.ny_num.specs.declared.rate.Rate.{Rate}
use Rattle.ny_num.specs.declared.rate.Rate.TheVariants.{R2205}
use Rattle.ny_warp.specs.declared.map.Point.{Point}
use Rattle.ny_warp.specs.declared.env.Env.{Env}
use Rattle.ny_warp.specs.Warp.{placed_at, through, least_inverse}

-- the opening environment: no offset, the factor 1, no step, loudness and sustain 1, no transposition
unfoldable pub opening : Rate → Env
opening rate = record {
  d = 0;
  s = million;
  loud = million;
  sustain = million;
  transpose = pos 0;
  sound_rate = rate;
  control_rate = R2205;
  steps = [];
}

-- the global time of v millionths of a local second: its ticks times the factor, after the offset, and then through all
-- steps
unfoldable pub global_time : Env → ℤ → ℕ
global_time env v = through env.steps (placed_at env.d env.s (ticks_of_micro v))

-- the least inverse of global time t under all steps of the environment
abbrev pub least_local : Env → ℕ → ℕ
least_local env t = least_inverse env.steps t

-- `at`: the offset moves to local time t
unfoldable pub shifted : Env → ℤ → Env
shifted env t = record env { d = placed_at env.d env.s (ticks_of_micro t) }

-- `stretch`: the factor times k, or times 0 where k is below 0
unfoldable pub stretched : Env → ℤ → Env
stretched env k = record env { s = fix_mul env.s (int_max k (pos 0)) }

-- `warp`: offset, factor and map become the innermost step, and the sound begins with neither offset nor factor
unfoldable pub warped : Env → List Point → Env
warped env map =
    record env { d = 0; s = million; steps = env.steps ++ (record { d = env.d; s = env.s; map = map } ∷ []) }

-- `loud`: loudness times k
unfoldable pub louder : Env → ℤ → Env
louder env k = record env { loud = fix_mul env.loud k }

-- `sustain`: sustain times k
unfoldable pub sustained : Env → ℤ → Env
sustained env k = record env { sustain = fix_mul env.sustain k }

-- `transpose`: k keys more
unfoldable pub transposed : Env → ℤ → Env
transposed env k = record env { transpose = fix_add env.transpose k }

-- `sound-srate-abs`: another sound rate
unfoldable pub at_sound_rate : Env → Rate → Env
at_sound_rate env rate = record env { sound_rate = rate }

-- `control-srate-abs`: another control rate
unfoldable pub at_control_rate : Env → Rate → Env
at_control_rate env rate = record env { control_rate = rate }

-- what the next part of a sequence is evaluated in: the offset is the least inverse of the stop t of the part before
unfoldable pub from_stop : Env → ℕ → Env
from_stop env t = record env { d = least_local env t }
