-- A walk that stops: at the first fill that finds no block free, or at the first part for which memory is missing.
use Rattle.std.specs.Prelude.{◌≡◌, ◌⊎◌, ℕ, zero, suc, List, [], ◌++◌, None, Some}
use Rattle.ny_check.specs.Code.{Code}
use Rattle.ny_heap.specs.Heap.{Waiting, Node, HeapState, node_at, free_of}
use Rattle.ny_heap.specs.Steps.{want_of}
use Rattle.ny_heap.specs.Revealing.{due_of}
use Rattle.ny_hands.specs.declared.branch.Branch.{Branch}
use Rattle.ny_walk.specs.Walk.{PartTurn, Reveal, Walk, WalksWants, FillsThen, WalksInOrder}

-- ---- the first fill that finds no block free

-- u has all that it wants, and no block is free for u itself
pub record StopsHere (mid : HeapState Branch) (u : ℕ) (ws : List ℕ) (new : HeapState Branch) : Type 0 where
  pub ready : want_of mid u ≡ None
  pub full : free_of mid ≡ 0
  pub none : ws ≡ []
  pub same : new ≡ mid

-- the walk stops, as `S` says, at what u wants
pub record StopsBelow (S : Walk) (mid : HeapState Branch) (u : ℕ) (ws : List ℕ) (new : HeapState Branch) : Type 0 where
  pub input : ℕ
  pub wants : want_of mid u ≡ Some input
  pub stops : S mid input ws new

-- u gets some of what it wants, and then the walk stops
pub record StopsThen (D S : Walk) (old : HeapState Branch) (u : ℕ) (us : List ℕ) (new : HeapState Branch) : Type 0 where
  pub wanted : ℕ
  pub mid : HeapState Branch
  pub before : List ℕ
  pub after : List ℕ
  pub wants : WalksWants D wanted old u before mid
  pub stop : StopsHere mid u after new ⊎ StopsBelow S mid u after new
  pub order : us ≡ before ++ after

abbrev pub StopsInOrder : Reveal → ℕ → Walk
StopsInOrder R zero old u us new = ⊥
StopsInOrder R (suc n) old u us new = StopsThen (WalksInOrder R n) (StopsInOrder R n) old u us new

-- the same walk to the first fill that finds no block free. `us` has each unit that was filled before it
abbrev pub StopsAtFull : Code → ℕ → Walk
StopsAtFull code n old u us new = StopsInOrder (PartTurn code) n old u us new

-- a fill of the walk finds no block free
abbrev pub FindsNoneFree : Code → HeapState Branch → ℕ → Type 0
FindsNoneFree code old u = (deep : ℕ) × (us : List ℕ) × (stop : HeapState Branch) × StopsAtFull code deep old u us stop

-- ---- the first part for which memory is missing

-- u is filled and some of its parts are revealed, and then one more is due
pub record DueThen (D : Walk) (R : Reveal) (old : HeapState Branch) (u : ℕ) (us : List ℕ) (last : HeapState Branch) : Type 0 where
  pub fills : FillsThen D R old u us last
  pub part : Waiting Branch
  pub due : due_of last u ≡ Some part

-- u gets some of what it wants, and then a part is due at what it wants next
pub record DueBelow (D S : Walk) (old : HeapState Branch) (u : ℕ) (us : List ℕ) (last : HeapState Branch) : Type 0 where
  pub wanted : ℕ
  pub mid : HeapState Branch
  pub before : List ℕ
  pub after : List ℕ
  pub wants : WalksWants D wanted old u before mid
  pub stop : StopsBelow S mid u after last
  pub order : us ≡ before ++ after

abbrev pub DueInOrder : Reveal → ℕ → Walk
DueInOrder R zero old u us last = ⊥
DueInOrder R (suc n) old u us last = DueThen (WalksInOrder R n) R old u us last ⊎ DueBelow (WalksInOrder R n) (DueInOrder R n) old u us last

-- The same walk to a part that is due, which memory is missing for. `last` is the heap before that part is handed out: of what is left
-- of the heap afterwards nothing is known
abbrev pub RunsOut : Code → ℕ → Walk
RunsOut code n old u us last = DueInOrder (PartTurn code) n old u us last

-- no unit has a part that waits
abbrev pub NoneWaits : {B : Type 0} → HeapState B → Type 0
NoneWaits h = (v : ℕ) (x : Node _) → node_at h v ≡ Some x → x.waiting ≡ []
