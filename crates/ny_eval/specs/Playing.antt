-- Sounds of a heap that are read a block at a time, each always as far as it is computed: the channels that are played.
use Rattle.std.specs.Prelude.{◌≡◌, ℕ, ◌*◌, ◌<◌, min, List, [], Option, length, sum, Some, slice_get, slice_index, slice_index_or, ℤ}
use Rattle.ny_check.specs.Code.{Code}
use Rattle.ny_heap.specs.Heap.{Node, HeapState, node_at, list_of, place_of}
use Rattle.ny_heap.specs.Means.{Whole, Means, sound_in}
use Rattle.ny_heap.specs.Reach.{Uses, HeapLaws}
use Rattle.ny_heap.specs.Steps.{IsHeldSound}
use Rattle.ny_heap.specs.declared.sound.Sound.{Sound}
use Rattle.ny_hands.specs.declared.branch.Branch.{Branch}
use Rattle.ny_hands.specs.Frames.{part_is}
use Rattle.ny_walk.specs.Below.{IsSettled}
use Rattle.ny_eval.specs.Ready.{IsReady}

-- the sound's unit n shows all of its list, has filled so many blocks, and is read from outside by this sound alone. No unit reads or
-- keeps it
pub record IsPulled (h : HeapState Branch) (s : Sound) (filled n : ℕ) : Type 0 where
  pub unit : Node Branch
  pub there : node_at h n ≡ Some unit
  pub shown : unit.timing.len ≡ s.timing.len
  pub done : unit.filled ≡ filled
  pub only : sum unit.outside ≡ 1
  pub top : (u : ℕ) → Uses h u n → ⊥

-- a sound of these samples after so many pulls of a block each, where its unit has filled so many
pub record IsChannel (h : HeapState Branch) (whole : Whole) (s : Sound) (xs : List ℤ) (pulls filled : ℕ) : Type 0 where
  pub held : IsHeldSound h s
  pub len : s.timing.len ≡ length xs
  pub place : place_of s ≡ min (pulls * h.block) (length xs)
  pub pulled : (n : ℕ) → list_of s ≡ Some n → IsPulled h s filled n
  pub samples : (sound_in whole.samples (list_of s) s.timing).samples ≡ xs

-- no list is read from outside the heap but by one of these sounds
abbrev pub AreAlone : {B : Type 0} → HeapState B → List (Option Sound) → Type 0
AreAlone h sounds = (v : ℕ) (x : Node _) → node_at h v ≡ Some x → 0 < sum x.outside → (c : ℕ) × (s : Sound) × (slice_get sounds c ≡ Some (Some s)) × (list_of s ≡ Some v)

-- no two of these sounds read one list
abbrev pub AreApart : List (Option Sound) → Type 0
AreApart sounds = (c d : ℕ) (s t : Sound) (n : ℕ) → slice_get sounds c ≡ Some (Some s) → slice_get sounds d ≡ Some (Some t) → list_of s ≡ Some n → list_of t ≡ Some n → c ≡ d

-- Sounds of these samples, of which some may have ended and are given up: each after so many pulls, where its unit has filled so many
-- blocks. Nobody else holds a sound of this heap, and what waits is as the program says
pub record ArePlaying (code : Code) (h : HeapState Branch) (sounds : List (Option Sound)) (xss : List (List ℤ)) (pulls filled : List ℕ) : Type 0 where
  pub laws : HeapLaws h
  pub settled : IsSettled h
  pub ready : IsReady code h
  pub whole : Whole
  pub means : Means (part_is code) h whole
  pub count : length sounds ≡ length xss
  pub count_pulls : length pulls ≡ length xss
  pub count_filled : length filled ≡ length xss
  pub each : (c : ℕ) (s : Sound) → slice_get sounds c ≡ Some (Some s) → IsChannel h whole s (slice_index_or xss c []) (slice_index pulls c) (slice_index filled c)
  pub apart : AreApart sounds
  pub alone : AreAlone h sounds
