use Rattle.std.proofs.Common.{◌≡◌, ◌+◌, ◌≤◌, ◌++◌, length, vec_capacity}
use Rattle.ny_heap.specs.Mixing.{branches_in, lists_in}
use Rattle.ny_heap.proofs.mixing.split_all.Given as goal

-- the halves so far, and then those of the rest, are those of all
abbrev pub invariant-loop-part : goal.invariant-loop-part
invariant-loop-part g l =
    (l.branches.items ++ branches_in l.queue.items ≡ l.fn.branches.items ++ branches_in l.fn.waiting.items)
    × (l.kept.items ++ lists_in l.queue.items ≡ l.fn.kept.items ++ lists_in l.fn.waiting.items)
    × (length l.branches.items + length l.queue.items ≤ vec_capacity l.branches)
    × (length l.kept.items + length l.queue.items ≤ vec_capacity l.kept)

abbrev pub decreases-loop-part : goal.decreases-loop-part
decreases-loop-part g l = length l.queue.items
