-- How high units stand above one another.
use Rattle.std.specs.Prelude.{ℕ, ◌<◌}
use Rattle.ny_heap.specs.Heap.{HeapState}
use Rattle.ny_heap.specs.Reach.{Uses}

-- heights of the units at which each stands above those that it uses
abbrev pub IsRank : {B : Type 0} → HeapState B → (ℕ → ℕ) → Type 0
IsRank h rank = (u v : ℕ) → Uses h u v → rank v < rank u
