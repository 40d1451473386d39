-- One block more of a unit: what it lacks is filled before it, and after each fill the parts that fall due are revealed.
use Rattle.std.specs.Prelude.{◌≡◌, ℕ, zero, suc, ◌<◌, List, [], ◌∷◌, ◌++◌, length, None, Some}
use Rattle.ny_check.specs.Code.{Code}
use Rattle.ny_heap.specs.Heap.{HeapState, free_of}
use Rattle.ny_heap.specs.Means.{KeepsMeaning}
use Rattle.ny_heap.specs.Reach.{HeapLaws}
use Rattle.ny_heap.specs.Steps.{Fills, want_of}
use Rattle.ny_heap.specs.Revealing.{due_of}
use Rattle.ny_hands.specs.declared.branch.Branch.{Branch}
use Rattle.ny_trace.specs.Evaluates.{Trace, Evaluates}
use Rattle.ny_trace.specs.Reveals.{RevealTurn}

-- ---- the steps, each with all that is known of it

-- one block more of u, which wants nothing and for which a block is free
pub record FillTurn {B : Type 0} (old new : HeapState B) (u : ℕ) : Type 0 where
  pub ready : want_of old u ≡ None
  pub room : 0 < free_of old
  pub fills : Fills old new u
  pub laws : HeapLaws new
  pub keeps : KeepsMeaning old new

-- how an expression of the program is evaluated, however deep it is
abbrev pub EvaluatesIn : Code → Trace
EvaluatesIn code e env names old new s = (n : ℕ) × Evaluates code n e env names old new s

-- the part of u that is due is revealed: an expression of the program
pub record PartTurn (code : Code) (old : HeapState Branch) (u : ℕ) (new : HeapState Branch) : Type 0 where
  pub turn : RevealTurn (EvaluatesIn code) old new u
  pub inside : turn.part.branch.expr.0 < length code.nodes

-- ---- a walk that ends

-- how a part of a unit is revealed
abbrev pub Reveal : Type 1
Reveal = HeapState Branch → ℕ → HeapState Branch → Type 0

-- how a unit gets one block more, with the list of the units that were filled, in order
abbrev pub Walk : Type 1
Walk = HeapState Branch → ℕ → List ℕ → HeapState Branch → Type 0

-- so many parts of u are revealed, the first one first
abbrev pub RevealsParts : Reveal → ℕ → HeapState Branch → ℕ → HeapState Branch → Type 0
RevealsParts R zero old u new = old ≡ new
RevealsParts R (suc k) old u new = (mid : HeapState Branch) × RevealsParts R k old u mid × R mid u new

-- what u wants gets one block more so many times, each time the first that u then wants
abbrev pub WalksWants : Walk → ℕ → HeapState Branch → ℕ → List ℕ → HeapState Branch → Type 0
WalksWants D zero old u us new = (us ≡ []) × (old ≡ new)
WalksWants D (suc k) old u us new =
    (mid : HeapState Branch) × (v : ℕ) × (before : List ℕ) × (ws : List ℕ) × WalksWants D k old u before mid × (want_of mid u ≡ Some v) × D mid v ws new × (us ≡ before ++ ws)

-- u gets all that it wants and is filled, and then so many of its parts are revealed
pub record FillsThen (D : Walk) (R : Reveal) (old : HeapState Branch) (u : ℕ) (us : List ℕ) (new : HeapState Branch) : Type 0 where
  pub wanted : ℕ
  pub mid : HeapState Branch
  pub before : List ℕ
  pub wants : WalksWants D wanted old u before mid
  pub filled : HeapState Branch
  pub fill : FillTurn mid filled u
  pub parts : ℕ
  pub reveals : RevealsParts R parts filled u new
  pub order : us ≡ before ++ u ∷ []

-- until no part of u is due
pub record WalksThen (D : Walk) (R : Reveal) (old : HeapState Branch) (u : ℕ) (us : List ℕ) (new : HeapState Branch) : Type 0 where
  pub fills : FillsThen D R old u us new
  pub over : due_of new u ≡ None

-- u gets one block more, and before it, no deeper than so many units, what it lacks
abbrev pub WalksInOrder : Reveal → ℕ → Walk
WalksInOrder R zero old u us new = ⊥
WalksInOrder R (suc n) old u us new = WalksThen (WalksInOrder R n) R old u us new

abbrev pub Walks : Code → ℕ → Walk
Walks code n old u us new = WalksInOrder (PartTurn code) n old u us new
