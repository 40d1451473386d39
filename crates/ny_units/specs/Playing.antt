-- Leaves as they are heard.
use Rattle.std.specs.Prelude.{◌≡◌, ℕ, ◌<◌, ◌≤◌, length, ℤ}
use Rattle.ny_num.specs.Leaves.{ramp_value, wave_value, louder_value, noise_value, envelope_value}
use Rattle.ny_units.specs.declared.leaves.Leaf.{Leaf}
use Rattle.ny_units.specs.declared.leaves.Leaf.TheVariants.{Const, Ramp, Osc, HzOsc, Lfo, Noise, Pwl}
use Rattle.ny_units.specs.Envelopes.{corners, corner_at, last_place}

-- sample n of a leaf, counted from its start
unfoldable pub leaf_value : Leaf → ℕ → ℤ
leaf_value (Const value) n = value
leaf_value (Ramp len) n = ramp_value len n
leaf_value (Osc inc loud) n = louder_value loud (wave_value 1024 inc n)
leaf_value (HzOsc inc loud) n = louder_value loud (wave_value 4096 inc n)
leaf_value (Lfo inc) n = wave_value 256 inc n
leaf_value (Noise x loud) n = louder_value loud (noise_value x n)
leaf_value (Pwl knots) n = envelope_value (corners knots.items) n

-- a ramp has a length, and an envelope begins with a knot at 0
abbrev pub IsLeaf : Leaf → Type 0
IsLeaf (Ramp len) = 0 < len
IsLeaf (Pwl knots) = (0 < length knots.items) × ((corner_at (corners knots.items) 0).0 ≡ 0)
IsLeaf _ = Unit {0}

-- a leaf has samples up to this place: a ramp up to its length, an envelope up to its last knot
abbrev pub Reaches : Leaf → ℕ → Type 0
Reaches (Ramp len) end = end ≤ len
Reaches (Pwl knots) end = end ≤ last_place (corners knots.items)
Reaches _ end = Unit {0}

-- a leaf, and how many of its samples it has given
pub record Playing : Type 0 where
  pub leaf : Leaf
  pub given : ℕ
