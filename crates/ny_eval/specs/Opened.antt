-- The channels of a program as sounds of a heap, at their beginning.
use Rattle.std.specs.Prelude.{◌≡◌, ℕ, List, Some, None, map}
use Rattle.ny_num.specs.declared.rate.Rate.{Rate}
use Rattle.ny_num.specs.Sound as sounds
use Rattle.ny_num.specs.Sound.{timing_of}
use Rattle.ny_check.specs.Code.{Code}
use Rattle.ny_check.specs.Channels.{channels}
use Rattle.ny_heap.specs.Heap.{HeapState, node_at}
use Rattle.ny_heap.specs.Reach.{HeapLaws}
use Rattle.ny_heap.specs.declared.sound.Sound.{Sound}
use Rattle.ny_hands.specs.declared.branch.Branch.{Branch}
use Rattle.ny_eval.specs.Playing.{ArePlaying}

-- there is no unit
pub record IsEmpty {B : Type 0} (h : HeapState B) : Type 0 where
  pub laws : HeapLaws h
  pub none : (v : ℕ) → node_at h v ≡ None

-- nothing yet of each
abbrev pub zeros : List Sound → List ℕ
zeros opened = map (λ s. 0) opened

-- the channels of a program, in order, of which nothing was read and nothing is filled
pub record AreOpened (code : Code) (rate : Rate) (h : HeapState Branch) (opened : List Sound) : Type 0 where
  pub timings : map (λ (s : Sound). s.timing) opened ≡ map timing_of (channels code rate)
  pub plays : ArePlaying code h (map Some opened) (map (λ (s : sounds.Sound). s.samples) (channels code rate)) (zeros opened) (zeros opened)
