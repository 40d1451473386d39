use Rattle.std.proofs.Common.{length}
use Rattle.ny_heap.specs.Heap.{HeapState}
use Rattle.ny_hands.specs.declared.branch.Branch.{Branch}
use Rattle.ny_hands.specs.Hands.{InHand, GivesUp}
use Rattle.ny_eval.proofs.mixing.give_up_all.Given as goal

-- giving up what is left gives up all
abbrev pub invariant-loop-sound : goal.invariant-loop-sound
invariant-loop-sound l = record {
  hands : InHand l.heap l.left.items;
  given : (new : HeapState Branch) → GivesUp l.heap new l.left.items → GivesUp l.fn.heap new l.fn.sounds.items;
}

abbrev pub decreases-loop-sound : goal.decreases-loop-sound
decreases-loop-sound l = length l.left.items
