-- What comes of one block more of a unit: the walk ends, or it stops at a fill that finds no block free, or at a part for which memory is
-- missing.
use Rattle.std.specs.Prelude.{ℕ, List, Result, Ok, Err}
use Rattle.ny_check.specs.Code.{Code}
use Rattle.ny_check.specs.Heights.{height_of}
use Rattle.ny_heap.specs.Heap.{HeapState}
use Rattle.ny_hands.specs.declared.branch.Branch.{Branch}
use Rattle.ny_walk.specs.Walk.{Walks}
use Rattle.ny_walk.specs.Stops.{StopsAtFull, RunsOut}
use Rattle.ny_walk.specs.Below.{IsRanked}
use Rattle.ny_eval.specs.declared.walk.DriveFault.{DriveFault}
use Rattle.ny_eval.specs.declared.walk.DriveFault.TheVariants.{PoolFull, OutOfMemory}

-- ---- each no deeper than any number that the unit stands lower than

abbrev pub HasWalked : Code → HeapState Branch → ℕ → HeapState Branch → Type 0
HasWalked code old u new = (left : ℕ) → IsRanked (height_of code) old u left → (us : List ℕ) × Walks code left old u us new

abbrev pub HasStopped : Code → HeapState Branch → ℕ → HeapState Branch → Type 0
HasStopped code old u new = (left : ℕ) → IsRanked (height_of code) old u left → (us : List ℕ) × StopsAtFull code left old u us new

abbrev pub HasRunOut : Code → HeapState Branch → ℕ → Type 0
HasRunOut code old u = (left : ℕ) → IsRanked (height_of code) old u left → (us : List ℕ) × (last : HeapState Branch) × RunsOut code left old u us last

-- ---- by the outcome

abbrev pub HasFailed : Code → HeapState Branch → ℕ → HeapState Branch → DriveFault → Type 0
HasFailed code old u new PoolFull = HasStopped code old u new
HasFailed code old u new OutOfMemory = HasRunOut code old u

abbrev pub IsDriven : {A : Type 0} → Code → HeapState Branch → ℕ → HeapState Branch → Result A DriveFault → Type 0
IsDriven code old u new (Ok x) = HasWalked code old u new
IsDriven code old u new (Err f) = HasFailed code old u new f
