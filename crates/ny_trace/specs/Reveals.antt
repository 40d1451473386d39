-- A part that falls due: it is handed out, evaluated as the next part of its sequence, and attached.
use Rattle.std.specs.Prelude.{◌≡◌, ◌≢◌, ℕ, ◌<◌, true, List, [], ◌∷◌, ◌++◌, drop, slice_index_or, None, Some}
use Rattle.ny_num.specs.declared.rate.Rate.{Rate}
use Rattle.ny_resolve.specs.declared.term.NameId.{NameId}
use Rattle.ny_check.specs.declared.value.Value.{Value}
use Rattle.ny_check.specs.declared.value.Value.TheVariants.{Number, Sound as SoundOf}
use Rattle.ny_heap.specs.declared.sound.Sound.{Sound}
use Rattle.ny_heap.specs.Heap.{Node, HeapState, node_at, place_of}
use Rattle.ny_heap.specs.Reach.{IsReachable, HeapLaws}
use Rattle.ny_heap.specs.Steps.{IsHeldSound, AreHeld, changed, waiting_of, reader_of}
use Rattle.ny_heap.specs.Revealing.{needs_part, with_promise, HandsOut, Promises, IsNextPart, Attaches, Delivers}
use Rattle.ny_hands.specs.declared.branch.Branch.{Branch}
use Rattle.ny_hands.specs.Calls.{ReleasesAll}
use Rattle.ny_hands.specs.Counts.{SameCounts}
use Rattle.ny_hands.specs.Frames.{Names}
use Rattle.ny_hands.specs.Hands.{marks_at}
use Rattle.ny_trace.specs.Evaluates.{Trace, NextTurn}
use Rattle.ny_trace.specs.Heights.{Ranks}

-- ---- the calls of a heap, each with all that it promises

-- the first part that waits at u is its caller's, with the sounds that it kept
pub record HandsPart {B : Type 0} (old new : HeapState B) (u : ℕ) (branch : B) (ss : List Sound) : Type 0 where
  pub laws : HeapLaws new
  pub hands : HandsOut old new u branch ss
  pub held : AreHeld new ss
  pub promises : Promises old new u (waiting_of (branch, ss))

-- the sound is the next input of u
pub record AttachesPart {B : Type 0} (old new : HeapState B) (u : ℕ) (s : Sound) : Type 0 where
  pub laws : HeapLaws new
  pub heap : Attaches old new u s
  pub delivers : Delivers old new u s

-- ---- the names of a branch

-- the sound of a place where there is none
abbrev pub no_sound : Rate → Sound
no_sound r = record { timing = record { rate = r; start = 0; len = 0; stop = 0 }; reader = None }

-- what a name of a branch stands for, over the sounds that it kept
abbrev pub framed : Rate → List Sound → Value ℕ → Value Sound
framed r ss (Number v) = Number v
framed r ss (SoundOf k) = SoundOf (slice_index_or ss k (no_sound r))

abbrev pub frame : Rate → List Sound → List (NameId × Value ℕ) → Names
frame r ss [] = []
frame r ss (b ∷ bs) = (b.0, framed r ss b.1) ∷ frame r ss bs

-- ---- the turn

-- the part that is due at u is evaluated after the stop of the part before it, and the sounds that it kept are given up. What it
-- gives is in hand
pub record PartTurn (D : Trace) (old new : HeapState Branch) (u : ℕ) (s : Sound) : Type 0 where
  pub branch : Branch
  pub captured : List Sound
  pub one : HeapState Branch
  pub two : HeapState Branch
  pub takes : HandsPart old one u branch captured
  pub due : needs_part old.block takes.hands.unit ≡ true
  pub settled : takes.hands.unit.pending ≡ 0
  pub rate : branch.env.sound_rate ≡ takes.hands.unit.timing.rate
  pub evaluates : NextTurn D branch.env takes.hands.unit.last_stop (branch.expr, frame branch.env.sound_rate captured branch.names) one two s
  pub given_up : ReleasesAll two new captured

-- and then it is attached
pub record RevealTurn (D : Trace) (old new : HeapState Branch) (u : ℕ) : Type 0 where
  pub sound : Sound
  pub mid : HeapState Branch
  pub part : PartTurn D old mid u sound
  pub attaches : AttachesPart mid new u sound

-- what can be attached to u
pub record IsReadyPart (h : HeapState Branch) (u : ℕ) (s : Sound) : Type 0 where
  pub held : IsHeldSound h s
  pub begins : place_of s ≡ 0
  pub unit : Node Branch
  pub there : node_at h u ≡ Some unit
  pub next : IsNextPart h u unit s

-- ---- what it leaves

-- the unit with one part more, of those that waited
abbrev pub revealed_node : {B : Type 0} → Sound → Node B → Node B
revealed_node s x = record x { inputs = x.inputs ++ reader_of s ∷ []; waiting = drop 1 x.waiting; last_stop = s.timing.stop }

-- u has one part more. All other units are as they were, and those that something else leads to than the sounds that the part kept
-- are still there. Who held a sound holds it
pub record IsRevealed (old new : HeapState Branch) (u : ℕ) : Type 0 where
  pub laws : HeapLaws new
  pub counts : SameCounts old new
  pub unit : Node Branch
  pub was : node_at old u ≡ Some unit
  pub part : Sound
  pub after : node_at new u ≡ Some (revealed_node part unit)
  pub others : (v : ℕ) (x y : Node Branch) → v ≢ u → node_at old v ≡ Some x → node_at new v ≡ Some y → y ≡ x
  pub stay : (v : ℕ) (x : Node Branch) → v ≢ u → node_at old v ≡ Some x → IsReachable (changed old (Some u) with_promise) v → node_at new v ≡ Some x
  pub held : (s : Sound) → IsHeldSound old s → IsHeldSound new s
  -- and no other is held
  pub marks : (v j : ℕ) → marks_at new v j ≡ marks_at old v j

-- all that was there stands as high as it did, and what is new stands below u
pub record StandsBelow (tall : ℕ → ℕ) (old new : HeapState Branch) (u : ℕ) (rank : ℕ → ℕ) : Type 0 where
  pub later : ℕ → ℕ
  pub ranks : Ranks tall new later
  pub same : (v : ℕ) (x : Node Branch) → node_at old v ≡ Some x → later v ≡ rank v
  pub low : (v : ℕ) (y : Node Branch) → node_at old v ≡ None → node_at new v ≡ Some y → later v < rank u
