-- What a trace is to give: the sound of the meaning, and nothing else changed.
use Rattle.std.specs.Prelude.{◌≡◌, ℕ, ◌<◌, List, [], ◌∷◌, get_or, Option, None, Some, length}
use Rattle.ny_num.specs.Sound as sounds
use Rattle.ny_warp.specs.declared.env.Env.{Env}
use Rattle.ny_scope.specs.Scopes.{last_of}
use Rattle.ny_resolve.specs.declared.term.NameId.{NameId}
use Rattle.ny_resolve.specs.declared.builtin.Order.TheVariants.{InTurn}
use Rattle.ny_resolve.specs.Keys.{same_name}
use Rattle.ny_check.specs.Code.{Code, node_at as node_in}
use Rattle.ny_check.specs.declared.node.Node.{Node}
use Rattle.ny_check.specs.declared.node.Node.TheVariants as node
use Rattle.ny_check.specs.declared.node.ExprId.{ExprId}
use Rattle.ny_check.specs.declared.value.Value.{Value}
use Rattle.ny_check.specs.Meaning.{Bound, meaning}
use Rattle.ny_heap.specs.declared.sound.Sound.{Sound}
use Rattle.ny_heap.specs.Heap.{HeapState}
use Rattle.ny_heap.specs.Reach.{HeapLaws}
use Rattle.ny_hands.specs.declared.branch.Branch.{Branch}
use Rattle.ny_hands.specs.Frames.{Names, bound_in, part_is}
use Rattle.ny_hands.specs.Hands.{item, Comes, AreNamed}
use Rattle.ny_trace.specs.Evaluates.{Trace}

-- ---- parts that wait keep what they need

-- of a name that stands for something, what it stands for
abbrev pub pick : Option (Value sounds.Sound) → NameId → Bound → Bound
pick None x rest = rest
pick (Some v) x rest = (x, v) ∷ rest

abbrev pub picked : List NameId → Bound → Bound
picked [] bound = []
picked (x ∷ xs) bound = pick (last_of (same_name x) bound) x (picked xs bound)

-- each means the same where its free names alone are kept
abbrev pub KeepFree : Code → List ExprId → Type 0
KeepFree code [] = Unit {0}
KeepFree code (e ∷ es) =
    ((env : Env) (bound : Bound) → meaning code e.0 env (picked (get_or code.free e.0 []) bound) ≡ meaning code e.0 env bound) × KeepFree code es

-- the expressions whose names are kept by parts that wait: the parts of a `seq`, and what a `seqrep` counts
abbrev pub in_turn : Node → List ExprId
in_turn (node.Mix InTurn es) = es
in_turn (node.Repeat InTurn i k a) = a ∷ []
in_turn _ = []

-- the same of those of each node
abbrev pub KeepsFree : Code → Type 0
KeepsFree code = (e : ℕ) → KeepFree code (in_turn (node_in code e))

-- ---- evaluation

-- an evaluation gives the sound of the meaning
abbrev pub IsLawful : Code → Trace → Type 0
IsLawful code D =
    (e : ℕ) (env : Env) (names : Names) (old new : HeapState Branch) (s : Sound) → D e env names old new s → e < length code.nodes → HeapLaws old → AreNamed old names → Comes (part_is code) old new (item s (λ w. meaning code e env (bound_in w names)) ∷ [])
