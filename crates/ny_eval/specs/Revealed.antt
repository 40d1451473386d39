-- A part that falls due: its names, what is evaluated of it, and its unit once it has the part.
use Rattle.std.specs.Prelude.{◌≡◌, ℕ, ◌+◌, ◌<◌, ◌≤◌, Bool, true, false, List, [], ◌∷◌, Option, None, Some, Vec, length, vec_capacity}
use Rattle.std.specs.Global.{Global}
use Rattle.ny_resolve.specs.declared.term.NameId.{NameId}
use Rattle.ny_check.specs.declared.value.Value.{Value}
use Rattle.ny_check.specs.declared.value.Value.TheVariants.{Number, Sound as SoundOf}
use Rattle.ny_check.specs.Code.{Code}
use Rattle.ny_heap.specs.declared.sound.Sound.{Sound}
use Rattle.ny_heap.specs.Heap.{Waiting, HeapState}
use Rattle.ny_heap.specs.Revealing.{due_of}
use Rattle.ny_hands.specs.declared.branch.Branch.{Branch}
use Rattle.ny_hands.specs.Calls.{ReleasesAll}
use Rattle.ny_trace.specs.Evaluates.{NextTurn, Evaluates}
use Rattle.ny_trace.specs.Reveals.{frame}
use Rattle.ny_walk.specs.Walk.{PartTurn}

-- a sound is left for a name of a branch, where it stands for one
abbrev pub HasFirst : Value ℕ → List Sound → Type 0
HasFirst (Number v) left = Unit {0}
HasFirst (SoundOf k) left = 0 < length left

-- what a name of a branch stands for: a number, or the first of the sounds that are left
abbrev pub IsFramed : Value ℕ → List Sound → List Sound → Value Sound → Type 0
IsFramed (Number v) left rest value = (value ≡ Number v) × (rest ≡ left)
IsFramed (SoundOf k) left rest value = (s : Sound) × (value ≡ SoundOf s) × (left ≡ s ∷ rest)

-- a branch is evaluated as the part that follows one with this stop, and the sounds that it kept are given up
pub record IsDuePart (code : Code) (b : Branch) (stop : ℕ) (captured : List Sound) (old new : HeapState Branch) (s : Sound) : Type 0 where
  pub mid : HeapState Branch
  pub evaluates : NextTurn (Evaluates code (b.expr.0 + 1)) b.env stop (b.expr, frame b.env.sound_rate captured b.names) old mid s
  pub given_up : ReleasesAll mid new captured

-- room for the names of a part, where there is one
abbrev pub HasRoomFor : Option (Waiting Branch) → Option (Vec (NameId × Value Sound) Global) → Type 0
HasRoomFor None None = Unit {0}
HasRoomFor None (Some room) = ⊥
HasRoomFor (Some p) None = ⊥
HasRoomFor (Some p) (Some room) = (room.items ≡ []) × (length p.branch.names ≤ vec_capacity room)

-- the part of u that is due is revealed, or none is due
abbrev pub RevealsOne : Code → HeapState Branch → ℕ → HeapState Branch → Bool → Type 0
RevealsOne code old u new true = PartTurn code old u new
RevealsOne code old u new false = (due_of old u ≡ None) × (new ≡ old)
