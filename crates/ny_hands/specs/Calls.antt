-- The calls of a heap that evaluation makes, each with all that it promises: the steps of a trace.
use Rattle.std.specs.Prelude.{◌≡◌, ◌<◌, true, false, if◌then◌else◌, nat_lt, List, [], ◌∷◌, take, None, pos}
use Rattle.ny_num.specs.declared.timing.Timing.{Timing}
use Rattle.ny_num.specs.declared.rate.Rate.{Rate}
use Rattle.ny_num.specs.Sound as sounds
use Rattle.ny_num.specs.Sound.{IsTiming, timing_of}
use Rattle.ny_num.specs.Resampling.{is_same_rate, other_rate_timing}
use Rattle.ny_units.specs.declared.leaves.Leaf.TheVariants.{Const}
use Rattle.ny_heap.specs.declared.make.Make.TheVariants.{Leaf, Resample}
use Rattle.ny_heap.specs.declared.sound.Sound.{Sound}
use Rattle.ny_heap.specs.Heap.{Kind, Made, Waiting, HeapState, list_of, place_of}
use Rattle.ny_heap.specs.Means.{KeepsMeaning}
use Rattle.ny_heap.specs.Reach.{HeapLaws, IsTrimmed}
use Rattle.ny_heap.specs.Steps.{with_sound, without_sound, Makes, MakesMeaning}

-- `s` is a sound that reads what `a` reads, from its beginning
pub record Shares {B : Type 0} (old new : HeapState B) (a s : Sound) : Type 0 where
  pub laws : HeapLaws new
  pub timing : s.timing ≡ a.timing
  pub list : list_of s ≡ list_of a
  pub begins : place_of s ≡ 0
  pub heap : new ≡ with_sound old s
  pub keeps : KeepsMeaning old new

-- `a` is spent, and what nobody reads any more is removed
pub record Releases {B : Type 0} (old new : HeapState B) (a : Sound) : Type 0 where
  pub laws : HeapLaws new
  pub trimmed : IsTrimmed (without_sound old a) new
  pub keeps : KeepsMeaning old new

-- `s` is a unit of this kind over these sounds, which are spent
pub record MakesUnit {B : Type 0} (old new : HeapState B) (kind : Kind) (t : Timing) (inputs : List Sound) (waiting : List (Waiting B)) (spent : List Sound) (s : Sound) : Type 0 where
  pub laws : HeapLaws new
  pub bounds : IsTiming t
  pub makes : Makes old new kind t inputs waiting spent s
  pub meaning : MakesMeaning old new kind t inputs waiting s

-- `s` is `a`, heard at another time, as `f` says: it reads the same list, but where nothing of it is left it is given up
pub record Places {B : Type 0} (old new : HeapState B) (f : Timing → Timing) (a s : Sound) : Type 0 where
  pub laws : HeapLaws new
  pub bounds : IsTiming s.timing
  pub timing : s.timing ≡ f a.timing
  pub begins : place_of s ≡ 0
  pub list : list_of s ≡ (if nat_lt 0 s.timing.len then list_of a else None)
  pub all : s.timing.len ≡ 0 → IsTrimmed (without_sound old a) new
  pub some : 0 < s.timing.len → new ≡ old
  pub keeps : KeepsMeaning old new

-- a whole sound, heard at another time, of which so much is left
abbrev pub retimed : (Timing → Timing) → sounds.Sound → sounds.Sound
retimed f s = record { rate = (f (timing_of s)).rate; start = (f (timing_of s)).start; stop = (f (timing_of s)).stop; samples = take (f (timing_of s)).len s.samples }

-- ---- what evaluation makes of them

-- these are spent, the first one first
abbrev pub ReleasesAll : {B : Type 0} → HeapState B → HeapState B → List Sound → Type 0
ReleasesAll old new [] = old ≡ new
ReleasesAll {B} old new (s ∷ ss) = (mid : HeapState B) × Releases old mid s × ReleasesAll mid new ss

-- a sound as it is, where it has the rate already
pub record StaysAtRate {B : Type 0} (old new : HeapState B) (r : Rate) (a s : Sound) : Type 0 where
  pub rate : is_same_rate a.timing.rate r ≡ true
  pub heap : old ≡ new
  pub same : a ≡ s

-- and else a resampling
pub record ChangesRate {B : Type 0} (old new : HeapState B) (r : Rate) (a s : Sound) : Type 0 where
  pub rate : is_same_rate a.timing.rate r ≡ false
  pub made : MakesUnit old new (Made Resample) (other_rate_timing r a.timing) (a ∷ []) [] (a ∷ []) s

pub data Brings {B : Type 0} (old new : HeapState B) (r : Rate) (a s : Sound) : Type 0 where
  Stay : StaysAtRate old new r a s → Brings old new r a s
  Change : ChangesRate old new r a s → Brings old new r a s

-- several, the first one first
abbrev pub BringsEach : {B : Type 0} → HeapState B → HeapState B → Rate → List Sound → List Sound → Type 0
BringsEach old new r [] [] = old ≡ new
BringsEach old new r [] (t ∷ ts) = ⊥
BringsEach old new r (s ∷ ss) [] = ⊥
BringsEach {B} old new r (s ∷ ss) (t ∷ ts) = (mid : HeapState B) × Brings old mid r s t × BringsEach mid new r ss ts

-- no sound: nothing is heard. It is what a leaf without a sample gives, of which no unit is made
abbrev pub IsSilent : {B : Type 0} → HeapState B → HeapState B → Rate → Sound → Type 0
IsSilent old new r s = MakesUnit old new (Made (Leaf (Const (pos 0)))) (record { rate = r; start = 0; len = 0; stop = 0 }) [] [] [] s
