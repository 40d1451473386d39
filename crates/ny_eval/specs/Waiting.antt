-- What waits of a sequence: branches, each with the sounds that its names stand for.
use Rattle.std.specs.Prelude.{◌≡◌, ℕ, List, [], ◌∷◌, ◌++◌, map, length, Option, None, Some, Vec}
use Rattle.std.specs.Global.{Global}
use Rattle.std.specs.List.{range_with_len}
use Rattle.ny_resolve.specs.declared.term.NameId.{NameId}
use Rattle.ny_warp.specs.declared.env.Env.{Env}
use Rattle.ny_check.specs.declared.value.Value.{Value}
use Rattle.ny_check.specs.declared.value.Value.TheVariants.{Number, Sound}
use Rattle.ny_check.specs.Code.{Code}
use Rattle.ny_heap.specs.declared.sound.Sound.{Sound as Handle}
use Rattle.ny_heap.specs.Heap.{HeapState}
use Rattle.ny_heap.specs.Steps.{sounds_of}
use Rattle.ny_hands.specs.declared.branch.Branch.{Branch}
use Rattle.ny_hands.specs.Calls.{Shares}
use Rattle.ny_hands.specs.Frames.{Names}
use Rattle.ny_hands.specs.Hands.{Hand}
use Rattle.ny_trace.specs.Evaluates.{Part, WaitsTurn}
use Rattle.ny_eval.specs.declared.parts.Parts.{Parts}
use Rattle.ny_eval.specs.Parts.{part_at}

-- what a branch keeps of one name: nothing of one that stands for nothing, a number, or one more reader of a sound, and its place among
-- the sounds that are kept
abbrev pub KeepsName : Option (Value Handle) → NameId → HeapState Branch → HeapState Branch → List (NameId × Value ℕ) → List (NameId × Value ℕ) → List Handle → List Handle → Type 0
KeepsName None x old new kept more ss sss = (new ≡ old) × (more ≡ kept) × (sss ≡ ss)
KeepsName (Some (Number v)) x old new kept more ss sss = (new ≡ old) × (more ≡ kept ++ (x, Number v) ∷ []) × (sss ≡ ss)
KeepsName (Some (Sound a)) x old new kept more ss sss =
    (s : Handle) × Shares old new a s × (more ≡ kept ++ (x, Sound (length ss)) ∷ []) × (sss ≡ ss ++ s ∷ [])

-- branches with the sounds that they keep
abbrev pub kept_in : List (Branch × Vec Handle Global) → List (Branch × List Handle)
kept_in qs = map (λ (q : Branch × Vec Handle Global). (q.0, q.1.items)) qs

-- the parts from a place on, so many
abbrev pub parts_between : Names → Parts → ℕ → ℕ → List Part
parts_between names parts from n = map (part_at names parts) (range_with_len from n)

-- a branch for one part
pub record WaitsAlone (code : Code) (env : Env) (p : Part) (old new : HeapState Branch) (q : Branch × List Handle) : Type 0 where
  pub turn : WaitsTurn code env (p ∷ []) old new (q ∷ [])
  pub hand : Hand old new q.1

-- a branch for each of these parts
pub record WaitAll (code : Code) (env : Env) (ps : List Part) (old new : HeapState Branch) (qs : List (Branch × List Handle)) : Type 0 where
  pub turn : WaitsTurn code env ps old new qs
  pub hand : Hand old new (sounds_of qs)
