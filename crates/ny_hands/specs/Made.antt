-- What units make of whole sounds.
use Rattle.std.specs.Prelude.{[], ◌∷◌, None, Some, pos}
use Rattle.ny_num.specs.declared.timing.Timing.{Timing}
use Rattle.ny_num.specs.Sound.{Sound, timing_of, sound_of}
use Rattle.ny_filters.specs.Filtering.{IsFilter, silent}
use Rattle.ny_heap.specs.declared.make.Make.{Make}
use Rattle.ny_heap.specs.declared.make.Make.TheVariants.{Pair, Abs, Resample, Filter}
use Rattle.ny_heap.specs.Heap.{Memory, Nothing, Neighbours, Filtered}
use Rattle.ny_heap.specs.Means.{made_value}

-- what a unit that hears this sound first keeps at its beginning
abbrev pub memory_of : Make → Sound → Memory
memory_of Resample m = Neighbours (timing_of m) (pos 0) (pos 0)
memory_of (Filter f) m = Filtered (silent f)
memory_of _ m = Nothing

-- what a unit makes of one sound, heard as `t` says
abbrev pub made_of : Make → Timing → Sound → Sound
made_of make t m = sound_of t (made_value make t (memory_of make m) t.start (Some m ∷ []))

-- the same, heard when that sound is
abbrev pub made_with : Make → Sound → Sound
made_with make m = made_of make (timing_of m) m

-- what a unit makes of two sounds, heard as `t` says
abbrev pub made_of_both : Make → Timing → Sound → Sound → Sound
made_of_both make t m n = sound_of t (made_value make t (memory_of make m) t.start (Some m ∷ Some n ∷ []))

-- what a unit over one sound computes that is heard when that sound is
abbrev pub IsSingle : Make → Type 0
IsSingle (Pair op (Some j) None) = Unit {0}
IsSingle (Pair op None (Some k)) = Unit {0}
IsSingle Abs = Unit {0}
IsSingle (Filter f) = IsFilter f
IsSingle _ = ⊥
