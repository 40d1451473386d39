-- The knots of an envelope, their places counted from the sound's start.
use Rattle.std.specs.Prelude.{ℕ, ◌-◌, List, [], ◌∷◌, ℤ, pos}
use Rattle.ny_num.specs.Numbers.{sat_sample}
use Rattle.ny_warp.specs.declared.env.Env.{Env}
use Rattle.ny_check.specs.Behaviours.{knot}

-- a knot at an index of the grid, counted from a start
abbrev pub counted_from : ℕ → ℕ × ℤ → ℕ × ℤ
counted_from start k = (k.0 - start, k.1)

-- the knot of a breakpoint, counted from a start
abbrev pub knot_from : Env → ℕ → ℤ × ℤ → ℕ × ℤ
knot_from env start p = counted_from start (knot env p)

-- the level that is written first, 0 where none is
abbrev pub first_level : List ℤ → ℤ
first_level [] = pos 0
first_level (level ∷ more) = sat_sample level
