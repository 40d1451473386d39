-- The warp: the steps that take local time to global time, all of them composed, and the least inverse of the whole.
use Rattle.std.specs.Prelude.{ℕ, zero, suc, ◌+◌, min, Bool, nat_le, if◌then◌else◌, List, [], ◌∷◌, ℤ, pos, ◌*ℤ◌}
use Rattle.ny_num.specs.Numbers.{floor_div, million}
use Rattle.ny_num.specs.Grid.{horizon, clamp_ticks}
use Rattle.ny_warp.specs.declared.step.Step.{Step}
use Rattle.ny_warp.specs.Maps.{map_value}

-- s times x ticks, rounded down, from 0 to the horizon; s is in millionths
unfoldable pub scaled : ℤ → ℕ → ℕ
scaled s x = clamp_ticks (floor_div (s *ℤ pos x) million)

-- d and s times x, up to the horizon
abbrev pub placed_at : ℕ → ℤ → ℕ → ℕ
placed_at d s x = min (d + scaled s x) horizon

-- what one step makes of a time: its map first, then its factor and its offset
abbrev pub step_value : Step → ℕ → ℕ
step_value step x = placed_at step.d step.s (map_value step.map x)

-- a time taken through all steps, from the innermost, which is the last of the list, to the outermost
abbrev pub through : List Step → ℕ → ℕ
through [] x = x
through (outer ∷ inner) x = step_value outer (through inner x)

-- the first of the numbers from `at` on that passes a test, or at + count where none of the first `count` does
unfoldable pub first_from : (ℕ → Bool) → ℕ → ℕ → ℕ
first_from test zero at = at
first_from test (suc count) at = if test at then at else first_from test count (at + 1)

-- the least time that the steps take to t or later, or the horizon where there is none
unfoldable pub least_inverse : List Step → ℕ → ℕ
least_inverse steps t = first_from (λ x. nat_le t (through steps x)) horizon 0
