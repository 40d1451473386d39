-- Which of a unit's inputs lack, place by place.
use Rattle.std.specs.Prelude.{◌≡◌, ℕ, ◌<◌, false, Some}
use Rattle.ny_heap.specs.Heap.{Node, HeapState, node_at, input_at}
use Rattle.ny_heap.specs.Steps.{lacks}

-- each input of u before this place is computed far enough for u's next block
abbrev pub NoneWanted : {B : Type 0} → HeapState B → ℕ → ℕ → Type 0
NoneWanted {B} h u place = (x : Node B) → node_at h u ≡ Some x → (k : ℕ) → k < place → lacks h x (input_at x k) ≡ false
