-- What filters give, slice by slice.
use Rattle.std.specs.Prelude.{◌≡◌, ℕ, ◌-◌, ◌<◌, ◌≤◌, List, [], take, Option, ℤ, pos}
use Rattle.ny_list.specs.Store.{StoreState, CursorState, mark_at}
use Rattle.ny_list.specs.Steps.{IsComputed}
use Rattle.ny_num.specs.Filters.{Recent, one_pole_value, one_pole_after, biquad_next, biquad_after, comb_after, at_rest}
use Rattle.ny_filters.specs.declared.filter.Filter.{Filter}
use Rattle.ny_filters.specs.declared.filter.Filter.TheVariants.{OnePole, Biquad, Comb}
use Rattle.ny_filters.specs.Kept.{kept_after, comb_next}

-- a comb's delay is at least 1 sample, and at most 65,536
abbrev pub IsFilter : Filter → Type 0
IsFilter (Comb delay gain) = (1 ≤ delay) × (delay ≤ 65536)
IsFilter _ = Unit {0}

abbrev pub IsComb : Filter → Type 0
IsComb (Comb delay gain) = Unit {0}
IsComb _ = ⊥

-- what a filter keeps of the samples before: one pole its last output, a biquad filter the last two inputs and outputs, a comb its
-- outputs as far back as its delay, the latest first
pub data Memory : Type 0 where
  Pole : ℤ → Memory
  Poles : Recent → Memory
  Line : List ℤ → Memory

-- a filter that has heard nothing yet keeps zeros
abbrev pub silent : Filter → Memory
silent (OnePole a) = Pole (pos 0)
silent (Biquad b0 b1 b2 a1 a2) = Poles at_rest
silent (Comb delay gain) = Line []

-- the outputs for these samples after what is kept
abbrev pub outputs_after : Filter → Memory → List ℤ → List ℤ
outputs_after (OnePole a) (Pole y1) xs = one_pole_after a y1 xs
outputs_after (Biquad b0 b1 b2 a1 a2) (Poles recent) xs = biquad_after (record { b0 = b0; b1 = b1; b2 = b2; a1 = a1; a2 = a2 }) recent xs
outputs_after (Comb delay gain) (Line outputs) xs = comb_after delay gain outputs xs
outputs_after _ _ xs = []

-- the outputs for a whole list of samples
abbrev pub filtered : Filter → List ℤ → List ℤ
filtered f xs = outputs_after f (silent f) xs

-- what is kept then
abbrev pub memory_after : Filter → Memory → List ℤ → Memory
memory_after (OnePole a) (Pole y1) xs = Pole (kept_after (one_pole_value a) y1 xs)
memory_after (Biquad b0 b1 b2 a1 a2) (Poles recent) xs = Poles (kept_after (biquad_next (record { b0 = b0; b1 = b1; b2 = b2; a1 = a1; a2 = a2 })) recent xs)
memory_after (Comb delay gain) (Line outputs) xs = Line (kept_after (comb_next delay gain) outputs xs)
memory_after _ m xs = m

-- a filter that is heard: what it is, the cursor of its input, which may be taken, and what it keeps
pub record Filtering : Type 0 where
  pub filter : Filter
  pub reader : Option CursorState
  pub memory : Memory

-- it has heard the first n of these samples, and nothing else
abbrev pub IsAfter : Filtering → List ℤ → ℕ → Type 0
IsAfter u xs n = u.memory ≡ memory_after u.filter (silent u.filter) (take n xs)

-- a cursor's list can be read from place `from` to place `end`: the cursor has not passed the first, and sees all of them, and they
-- are computed
pub record CanFilter (s : StoreState) (c : CursorState) (from end : ℕ) : Type 0 where
  pub stands : 0 < mark_at s c
  pub ahead : c.place ≤ from
  pub seen : end ≤ c.visible
  pub computed : IsComputed s c (end - c.place)
