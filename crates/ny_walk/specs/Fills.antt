-- The walk where no part waits: units are filled alone.
use Rattle.std.specs.Prelude.{◌≡◌, ℕ, zero, suc, ◌<◌, List, [], ◌∷◌, ◌++◌, ◌⊎◌, None, Some}
use Rattle.ny_heap.specs.Heap.{HeapState, free_of}
use Rattle.ny_heap.specs.Reach.{HeapLaws}
use Rattle.ny_heap.specs.Steps.{Fills, want_of}

-- ---- a walk that ends

-- what u wants is filled so many times, each time the first that it then wants. `D` says how a unit is filled, with
-- the list of the units that this filled
abbrev pub FillsWants : {B : Type 0} → (HeapState B → ℕ → List ℕ → HeapState B → Type 0) → ℕ → HeapState B → ℕ → List ℕ → HeapState B → Type 0
FillsWants D zero old u us new = (us ≡ []) × (old ≡ new)
FillsWants {B} D (suc k) old u us new =
    (mid : HeapState B) × (v : ℕ) × (before : List ℕ) × (ws : List ℕ) × FillsWants D k old u before mid × (want_of mid u ≡ Some v) × D mid v ws new × (us ≡ before ++ ws)

-- what u wants is filled until it wants nothing, and then u, for which a block is free
pub record FillsThen {B : Type 0} (D : HeapState B → ℕ → List ℕ → HeapState B → Type 0) (old : HeapState B) (u : ℕ) (us : List ℕ) (new : HeapState B) : Type 0 where
  pub wanted : ℕ
  pub mid : HeapState B
  pub before : List ℕ
  pub wants : FillsWants D wanted old u before mid
  pub ready : want_of mid u ≡ None
  pub room : 0 < free_of mid
  pub fill : Fills mid new u
  pub laws : HeapLaws new
  pub order : us ≡ before ++ u ∷ []

-- u is filled, and before it, no deeper than so many units, what it needs. `us` has each unit that was filled, in order
abbrev pub FillsInOrder : {B : Type 0} → ℕ → HeapState B → ℕ → List ℕ → HeapState B → Type 0
FillsInOrder zero old u us new = ⊥
FillsInOrder (suc n) old u us new = FillsThen (FillsInOrder n) old u us new

-- ---- a walk that finds no free block

-- all that u wants is filled, and no block is free for u itself
pub record StopsHere {B : Type 0} (mid : HeapState B) (u : ℕ) (ws : List ℕ) (new : HeapState B) : Type 0 where
  pub ready : want_of mid u ≡ None
  pub full : free_of mid ≡ 0
  pub none : ws ≡ []
  pub same : new ≡ mid

-- the walk stops, as `S` says, at what u wants
pub record StopsBelow {B : Type 0} (S : HeapState B → ℕ → List ℕ → HeapState B → Type 0) (mid : HeapState B) (u : ℕ) (ws : List ℕ) (new : HeapState B) : Type 0 where
  pub input : ℕ
  pub wants : want_of mid u ≡ Some input
  pub stops : S mid input ws new

-- some of what u wants is filled, and then the walk stops
pub record StopsThen {B : Type 0} (D S : HeapState B → ℕ → List ℕ → HeapState B → Type 0) (old : HeapState B) (u : ℕ) (us : List ℕ) (new : HeapState B) : Type 0 where
  pub wanted : ℕ
  pub mid : HeapState B
  pub before : List ℕ
  pub after : List ℕ
  pub wants : FillsWants D wanted old u before mid
  pub stop : StopsHere mid u after new ⊎ StopsBelow S mid u after new
  pub order : us ≡ before ++ after

-- the same walk as above to the first fill that finds no free block. `us` has each unit that was filled before it
abbrev pub StopsInOrder : {B : Type 0} → ℕ → HeapState B → ℕ → List ℕ → HeapState B → Type 0
StopsInOrder zero old u us new = ⊥
StopsInOrder (suc n) old u us new = StopsThen (FillsInOrder n) (StopsInOrder n) old u us new
