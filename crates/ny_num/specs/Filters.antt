-- Filters: folds over the whole list of samples, which begin with zeros and give one sample for each. Rate, range and
-- stop of the sound stay.
use Rattle.std.specs.Prelude.{ℕ, ◌-◌, min, max, List, [], ◌∷◌, slice_index_or, ℤ, pos, ◌+ℤ◌, ◌-ℤ◌, ◌*ℤ◌}
use Rattle.ny_num.specs.Numbers.{million, floor_div, sat_sample}
use Rattle.ny_num.specs.Grid.{ticks_of_micro, index_at}
use Rattle.ny_num.specs.Sound.{Sound}
use Rattle.ny_num.specs.declared.rate.Rate.{Rate}

-- the same sound with other samples
abbrev pub with_samples : Sound → List ℤ → Sound
with_samples s samples = record { rate = s.rate; start = s.start; stop = s.stop; samples = samples }

-- ---- one pole

-- the next output after y1: it goes towards x by the share a, a number
unfoldable pub one_pole_value : ℤ → ℤ → ℤ → ℤ
one_pole_value a y1 x = sat_sample (y1 +ℤ floor_div (a *ℤ (x -ℤ y1)) million)

-- the outputs for these samples, where y1 is the output before them
abbrev pub one_pole_after : ℤ → ℤ → List ℤ → List ℤ
one_pole_after a y1 [] = []
one_pole_after a y1 (x ∷ xs) = one_pole_value a y1 x ∷ one_pole_after a (one_pole_value a y1 x) xs

unfoldable pub one_pole : ℤ → Sound → Sound
one_pole a s = with_samples s (one_pole_after a (pos 0) s.samples)

-- ---- two poles and two zeros

-- the numbers by which the newest three inputs and the last two outputs count
pub record Coefficients : Type 0 where
  pub b0 : ℤ
  pub b1 : ℤ
  pub b2 : ℤ
  pub a1 : ℤ
  pub a2 : ℤ

-- the last two inputs and outputs, the later ones first
pub record Recent : Type 0 where
  pub x1 : ℤ
  pub x2 : ℤ
  pub y1 : ℤ
  pub y2 : ℤ

-- the next output: the weighed sum of the newest inputs and outputs
unfoldable pub biquad_value : Coefficients → Recent → ℤ → ℤ
biquad_value c r x =
    sat_sample (floor_div (c.b0 *ℤ x +ℤ c.b1 *ℤ r.x1 +ℤ c.b2 *ℤ r.x2 +ℤ c.a1 *ℤ r.y1 +ℤ c.a2 *ℤ r.y2) million)

-- what is recent after one more sample
abbrev pub biquad_next : Coefficients → Recent → ℤ → Recent
biquad_next c r x = record { x1 = x; x2 = r.x1; y1 = biquad_value c r x; y2 = r.y1 }

-- the outputs for these samples
abbrev pub biquad_after : Coefficients → Recent → List ℤ → List ℤ
biquad_after c r [] = []
biquad_after c r (x ∷ xs) = biquad_value c r x ∷ biquad_after c (biquad_next c r x) xs

-- no input and no output so far
abbrev pub at_rest : Recent
at_rest = record { x1 = pos 0; x2 = pos 0; y1 = pos 0; y2 = pos 0 }

unfoldable pub biquad : Coefficients → Sound → Sound
biquad c s = with_samples s (biquad_after c at_rest s.samples)

-- ---- comb

-- how many samples a delay of v millionths of a second lasts: at least 1, at most 65,536
unfoldable pub comb_delay : Rate → ℤ → ℕ
comb_delay r v = max 1 (min (index_at (ticks_of_micro v) r) 65536)

-- the next output, where y is the output that so many samples ago was given
unfoldable pub comb_value : ℤ → ℤ → ℤ → ℤ
comb_value gain y x = sat_sample (x +ℤ floor_div (gain *ℤ y) million)

-- the output `delay` samples ago, by the outputs so far, the newest first; 0 before the first
abbrev pub delayed : ℕ → List ℤ → ℤ
delayed delay outputs = slice_index_or outputs (delay - 1) (pos 0)

-- the outputs for these samples, after these outputs
abbrev pub comb_after : ℕ → ℤ → List ℤ → List ℤ → List ℤ
comb_after delay gain outputs [] = []
comb_after delay gain outputs (x ∷ xs) =
    let y = comb_value gain (delayed delay outputs) x in y ∷ comb_after delay gain (y ∷ outputs) xs

unfoldable pub comb : ℕ → ℤ → Sound → Sound
comb delay gain s = with_samples s (comb_after delay gain [] s.samples)
