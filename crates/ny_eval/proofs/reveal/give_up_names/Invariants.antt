use Rattle.std.proofs.Common.{length}
use Rattle.ny_heap.specs.Heap.{HeapState}
use Rattle.ny_hands.specs.declared.branch.Branch.{Branch}
use Rattle.ny_hands.specs.Calls.{ReleasesAll}
use Rattle.ny_hands.specs.Frames.{sounds_among}
use Rattle.ny_eval.proofs.HandedLemmas.{AreCounted}
use Rattle.ny_eval.proofs.reveal.give_up_names.Given as goal

-- giving up what is left gives up all
abbrev pub invariant-loop-binding : goal.invariant-loop-binding
invariant-loop-binding l = record {
  counted : AreCounted l.heap (sounds_among l.left.items);
  released : (new : HeapState Branch) → ReleasesAll l.heap new (sounds_among l.left.items) → ReleasesAll l.fn.heap new (sounds_among l.fn.names.items);
}

abbrev pub decreases-loop-binding : goal.decreases-loop-binding
decreases-loop-binding l = length l.left.items
