use Rattle.std.proofs.Common.{◌≡◌, take, drop}
use Rattle.ny_heap.specs.Heap.{HeapState}
use Rattle.ny_hands.specs.declared.branch.Branch.{Branch}
use Rattle.ny_hands.specs.Calls.{ReleasesAll}
use Rattle.ny_hands.specs.Frames.{sounds_among}
use Rattle.ny_hands.specs.Hands.{InHand}
use Rattle.ny_eval.proofs.frame.give_up_after.Given as goal

-- what is left is as it was, and giving it up gives up all
abbrev pub invariant-loop-k : goal.invariant-loop-k
invariant-loop-k l = record {
  left : drop l.k l.bound ≡ drop l.k l.fn.bound;
  kept : take l.len l.bound ≡ take l.len l.fn.bound;
  hands : InHand l.heap (sounds_among (drop l.k l.fn.bound));
  released : (new : HeapState Branch) → ReleasesAll l.heap new (sounds_among (drop l.k l.fn.bound)) → ReleasesAll l.fn.heap new (sounds_among (drop l.len l.fn.bound));
}
