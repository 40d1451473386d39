-- A map of times: the line from (0, 0) through points that rise, and on past the last one at the slope 1.
use Rattle.std.specs.Prelude.{ℕ, zero, suc, ◌+◌, ◌-◌, ◌*◌, ◌/◌, ◌<◌, ◌≤◌, min, Bool, true, not, ◌&&◌, ◌==◌, nat_lt, if◌then◌else◌, List, [], ◌∷◌, length, slice_index_or}
use Rattle.ny_num.specs.Grid.{horizon}
use Rattle.ny_warp.specs.declared.map.Point.{Point}

-- after (x, y) the points rise strictly in both coordinates
abbrev pub rises_from : ℕ → ℕ → List Point → Bool
rises_from x y [] = true
rises_from x y (p ∷ ps) = nat_lt x p.x && nat_lt y p.y && rises_from p.x p.y ps

-- there is a point, and after (0, 0) they rise strictly in both coordinates
abbrev pub is_rising : List Point → Bool
is_rising points = not (length points == 0) && rises_from 0 0 points

-- the value at t of the line from (x, y) through the points: between two neighbours its part of the height, rounded
-- down, and past the last point as far above it as t lies after it, up to the horizon
abbrev pub value_from : ℕ → ℕ → List Point → ℕ → ℕ
value_from x y [] t = min (y + (t - x)) horizon
value_from x y (p ∷ ps) t =
    if nat_lt t p.x then y + (t - x) * (p.y - y) / (p.x - x) else value_from p.x p.y ps t

-- the value of a map at t
abbrev pub map_value : List Point → ℕ → ℕ
map_value points t = value_from 0 0 points t

-- f reaches t from x on, and nowhere before
abbrev pub IsThreshold : (ℕ → ℕ) → ℕ → ℕ → Type 0
IsThreshold f t x = (v : ℕ) → (x ≤ v → t ≤ f v) × (v < x → f v < t)

-- what a `Map` keeps of its points: after (x, y) they rise strictly, and the last lies within the horizon
abbrev pub RisesFrom : ℕ → ℕ → List Point → Type 0
RisesFrom x y [] = (x ≤ horizon) × (y ≤ horizon)
RisesFrom x y (p ∷ ps) = (x < p.x) × (y < p.y) × RisesFrom p.x p.y ps

-- where the line begins
abbrev pub origin : Point
origin = record { x = 0; y = 0 }

-- where the segment begins that ends at the point with this index
abbrev pub corner_from : Point → List Point → ℕ → Point
corner_from start points zero = start
corner_from start points (suc before) = slice_index_or points before origin
