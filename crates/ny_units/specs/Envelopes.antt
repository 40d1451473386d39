-- Envelopes: where one stands at a place, among its knots.
use Rattle.std.specs.Prelude.{◌≡◌, ℕ, pos, ◌+◌, ◌-◌, ◌<◌, ◌≤◌, List, map, length, drop, slice_index_or, ℤ}
use Rattle.ny_num.specs.Leaves.{envelope_value, envelope_from}
use Rattle.ny_units.specs.declared.leaves.Knot.{Knot}

-- a knot as a place and the level there
abbrev pub corner : Knot → ℕ × ℤ
corner knot = (knot.t, knot.level)

abbrev pub corners : List Knot → List (ℕ × ℤ)
corners knots = map corner knots

-- a knot of a list, by its number
abbrev pub corner_at : List (ℕ × ℤ) → ℕ → ℕ × ℤ
corner_at ks s = slice_index_or ks s (0, pos 0)

-- the place of the last knot
abbrev pub last_place : List (ℕ × ℤ) → ℕ
last_place ks = (corner_at ks (length ks - 1)).0

-- knot s is reached at place n, and from there on the envelope is what it and the later knots make
pub record StandsAt (ks : List (ℕ × ℤ)) (s n : ℕ) : Type 0 where
  pub inside : s < length ks
  pub begun : (corner_at ks s).0 ≤ n
  pub follows : (m : ℕ) → n ≤ m → envelope_value ks m ≡ envelope_from (corner_at ks s) (drop (s + 1) ks) m
