use Rattle.std.proofs.Common.{length}
use Rattle.ny_heap.specs.Heap.{HeapState}
use Rattle.ny_heap.specs.Steps.{sounds_of}
use Rattle.ny_hands.specs.declared.branch.Branch.{Branch}
use Rattle.ny_hands.specs.Hands.{InHand, GivesUp}
use Rattle.ny_eval.specs.Waiting.{kept_in}
use Rattle.ny_eval.proofs.waiting.give_up_branches.Given as goal

-- what those that are left keep is in hand, and giving it up gives up all
abbrev pub invariant-loop-branch : goal.invariant-loop-branch
invariant-loop-branch l = record {
  hands : InHand l.heap (sounds_of (kept_in l.left.items));
  given_up : (new : HeapState Branch) → GivesUp l.heap new (sounds_of (kept_in l.left.items)) → GivesUp l.fn.heap new (sounds_of (kept_in l.fn.waiting.items));
}

abbrev pub decreases-loop-branch : goal.decreases-loop-branch
decreases-loop-branch l = length l.left.items
