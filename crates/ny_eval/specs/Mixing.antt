-- Sounds in hand that come in the place of others.
use Rattle.std.specs.Prelude.{List, ◌++◌}
use Rattle.ny_heap.specs.declared.sound.Sound.{Sound}
use Rattle.ny_heap.specs.Heap.{HeapState}
use Rattle.ny_heap.specs.Reach.{HeapLaws}
use Rattle.ny_hands.specs.Hands.{Hand}

-- whatever else is in hand, instead of `ss` there are `ts` in hand
abbrev pub ComeFor : {B : Type 0} → HeapState B → HeapState B → List Sound → List Sound → Type 0
ComeFor {B} old new ss ts = (before : HeapState B) (others : List Sound) → HeapLaws before → Hand before old (ss ++ others) → Hand before new (ts ++ others)
