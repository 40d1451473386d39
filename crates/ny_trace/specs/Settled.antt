-- No part is due and none is still to be attached, at each unit of a heap but some.
use Rattle.std.specs.Prelude.{◌≡◌, ℕ, Bool, false, Some}
use Rattle.ny_heap.specs.Steps.{IsSettledUnit}
use Rattle.ny_warp.specs.declared.env.Env.{Env}
use Rattle.ny_heap.specs.declared.sound.Sound.{Sound}
use Rattle.ny_heap.specs.Heap.{Node, HeapState, node_at}
use Rattle.ny_hands.specs.declared.branch.Branch.{Branch}
use Rattle.ny_hands.specs.Frames.{Names}
use Rattle.ny_trace.specs.Evaluates.{Trace}

-- so of each unit but those for whose numbers the test holds
abbrev pub SettledBut : {B : Type 0} → (ℕ → Bool) → HeapState B → Type 0
SettledBut but h = (v : ℕ) (x : Node _) → node_at h v ≡ Some x → but v ≡ false → IsSettledUnit h.block x

-- an evaluation leaves no part that is due but at units where one was
abbrev pub IsSettling : Trace → Type 0
IsSettling D =
    (e : ℕ) (env : Env) (names : Names) (old new : HeapState Branch) (s : Sound) → D e env names old new s → (but : ℕ → Bool) → SettledBut but old → SettledBut but new
