-- What evaluation leaves alone of a heap as a whole.
use Rattle.std.specs.Prelude.{◌≡◌}
use Rattle.ny_heap.specs.Heap.{HeapState}

-- the pool and the counts are as they were
pub record SameCounts {B : Type 0} (old new : HeapState B) : Type 0 where
  pub pool : new.pool ≡ old.pool
  pub block : new.block ≡ old.block
  pub fills : new.fills ≡ old.fills
  pub peak : new.peak ≡ old.peak
