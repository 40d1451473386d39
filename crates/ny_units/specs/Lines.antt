-- A straight line in whole numbers.
use Rattle.std.specs.Prelude.{◌≡◌, ℕ, ◌^◌, ◌<◌, ◌≤◌, ℤ, pos, neg_ℤ, ◌+ℤ◌, ◌*ℤ◌, ◌≤ℤ◌}
use Rattle.std.specs.Int.{int_rem_euclid}
use Rattle.ny_num.specs.Numbers.{floor_div, sat_sample}
use Rattle.ny_units.specs.declared.line.Risen.{Risen}

-- how far a line has risen at a place, rounded down, that rises by so much over a width
abbrev pub risen_at : ℤ → ℕ → ℕ → ℤ
risen_at rise width place = floor_div (rise *ℤ pos place) (pos width)

-- the sample at a place of such a line that starts at a level
abbrev pub line_value : ℤ → ℤ → ℕ → ℕ → ℤ
line_value level rise width place = sat_sample (level +ℤ risen_at rise width place)

-- a line over some places that a place lies within; it rises or falls by no more than two samples can differ
pub record IsSlope (rise : ℤ) (width place : ℕ) : Type 0 where
  pub some : 0 < width
  pub short : width < 2 ^ 33
  pub within : place ≤ width
  pub falls : neg_ℤ (pos (2 ^ 32)) ≤ℤ rise
  pub rises : rise ≤ℤ pos (2 ^ 32)

-- less than a whole is left over, and the whole part is small
pub record IsPart (r : Risen) (width : ℕ) : Type 0 where
  pub part : r.rest < width
  pub low : neg_ℤ (pos (2 ^ 32)) ≤ℤ r.whole
  pub high : r.whole ≤ℤ pos (2 ^ 32)

-- this is how far the line has risen at a place, with what is left over
pub record IsRisen (rise : ℤ) (width place : ℕ) (r : Risen) : Type 0 where
  pub whole : r.whole ≡ risen_at rise width place
  pub rest : int_rem_euclid (rise *ℤ pos place) (pos width) ≡ pos r.rest
  pub part : IsPart r width
