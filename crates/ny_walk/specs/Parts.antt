-- What is known of the parts that wait while a program is played.
use Rattle.std.specs.Prelude.{◌≡◌, ℕ, suc, ◌<◌, List, [], ◌∷◌, Some, slice_get, length}
use Rattle.ny_warp.specs.declared.env.Env.{Env}
use Rattle.ny_resolve.specs.declared.term.NameId.{NameId}
use Rattle.ny_check.specs.declared.value.Value.{Value}
use Rattle.ny_check.specs.declared.value.Value.TheVariants.{Number, Sound as SoundOf}
use Rattle.ny_check.specs.Code.{Code}
use Rattle.ny_heap.specs.declared.sound.Sound.{Sound}
use Rattle.ny_heap.specs.Heap.{Waiting, Node, HeapState, node_at}
use Rattle.ny_hands.specs.declared.branch.Branch.{Branch}
use Rattle.ny_hands.specs.Frames.{Names}
use Rattle.ny_trace.specs.Evaluates.{Trace}

-- what a name stands for is a number, or the sound of place k, and then the names after it have the sounds after that
abbrev pub IsKept : (ℕ → Type 0) → ℕ → Value ℕ → Type 0
IsKept rest k (Number v) = rest k
IsKept rest k (SoundOf j) = (j ≡ k) × rest (suc k)

-- the sounds of these names are those from place k on, each once and in order, and n is the place after the last
abbrev pub AreKept : ℕ → List (NameId × Value ℕ) → ℕ → Type 0
AreKept k [] n = k ≡ n
AreKept k (b ∷ bs) n = IsKept (λ j. AreKept j bs n) k b.1

-- Each part that waits at a unit is an expression of the program, evaluated at the unit's rate. Its names have each sound that it
-- kept, once and in order. A unit where a part waits has an input
abbrev pub HasPartsOf : Code → Node Branch → Type 0
HasPartsOf code x =
    (i : ℕ) (p : Waiting Branch) → slice_get x.waiting i ≡ Some p →
    (p.branch.expr.0 < length code.nodes) × (p.branch.env.sound_rate ≡ x.timing.rate) × AreKept 0 p.branch.names (length p.captured) × (0 < length x.inputs)

abbrev pub AllPartsOf : Code → HeapState Branch → Type 0
AllPartsOf code h = (v : ℕ) (x : Node Branch) → node_at h v ≡ Some x → HasPartsOf code x

-- an evaluation leaves no other part waiting
abbrev pub IsMakingParts : Code → Trace → Type 0
IsMakingParts code D =
    (e : ℕ) (env : Env) (names : Names) (old new : HeapState Branch) (s : Sound) → D e env names old new s → e < length code.nodes → AllPartsOf code old → AllPartsOf code new
