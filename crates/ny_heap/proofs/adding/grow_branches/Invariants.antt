use Rattle.std.proofs.Common.{◌≡◌, ◌-◌, ◌≤◌, ℕ, [], length, map, get_or, vec_capacity}
use Rattle.std.specs.VecDeque.{deque_items}
use Rattle.ny_heap.proofs.adding.grow_branches.Given as goal

abbrev pub invariant-loop-alloc : goal.invariant-loop-alloc
invariant-loop-alloc g l = record {
  same : (v : ℕ) → get_or (map deque_items l.branches.items) v [] ≡ get_or (map deque_items l.fn.branches.items) v [];
  room : l.places ≤ vec_capacity l.branches;
}

abbrev pub decreases-loop-alloc : goal.decreases-loop-alloc
decreases-loop-alloc g l = l.places - length l.branches.items
