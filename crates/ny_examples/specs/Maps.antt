-- Maps and environments of the worked examples, in ticks.
use Rattle.std.specs.Prelude.{ℕ, List, [], ◌∷◌}
use Rattle.ny_num.specs.declared.rate.Rate.TheVariants.{R8000}
use Rattle.ny_warp.specs.declared.map.Point.{Point}
use Rattle.ny_warp.specs.declared.env.Env.{Env}
use Rattle.ny_warp.specs.Environment.{opening, warped}

abbrev pub point : ℕ → ℕ → Point
point x y = record { x = x; y = y }

-- through 0.001 s at 0.002 s and 0.002 s at 0.003 s
abbrev pub steep : List Point
steep = point 705600 1411200 ∷ point 1411200 2116800 ∷ []

-- through 0.002 s at 0.001 s
abbrev pub flat : List Point
flat = point 1411200 705600 ∷ []

-- the opening environment under the warp by the steep map
abbrev pub under_steep : Env
under_steep = warped (opening R8000) steep
