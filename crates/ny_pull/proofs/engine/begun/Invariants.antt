use Rattle.std.proofs.Common.{◌+◌, ◌≤◌, length, vec_len, vec_capacity}
use Rattle.ny_heap.specs.Reach.{HeapLaws}
use Rattle.ny_hands.specs.Counts.{SameCounts}
use Rattle.ny_pull.specs.Places.{HaveBegun}
use Rattle.ny_pull.proofs.engine.begun.Given as goal

-- those so far are left, and there is room for the others
abbrev pub invariant-loop-sound : goal.invariant-loop-sound
invariant-loop-sound l = record {
  begun : HaveBegun l.p l.fn.rate l.fn.sounds.items l.channels.items l.rest.items l.heap;
  laws : HeapLaws l.heap;
  counts : SameCounts l.fn.heap l.heap;
  room : vec_len l.channels + length l.rest.items ≤ vec_capacity l.channels;
}

abbrev pub decreases-loop-sound : goal.decreases-loop-sound
decreases-loop-sound l = length l.rest.items
