use Rattle.std.proofs.Common.{length}
use Rattle.ny_heap.specs.Tasks.{lists_of}
use Rattle.ny_heap.proofs.SpentLemmas.{Spending}
use Rattle.ny_heap.proofs.blocks.drop_waits.Given as goal

-- the lists that were taken are spent
abbrev pub invariant-loop-sounds : goal.invariant-loop-sounds
invariant-loop-sounds l = Spending l.fn.table l.table (lists_of l.fn.waits.items) (lists_of l.queue.items)

abbrev pub decreases-loop-sounds : goal.decreases-loop-sounds
decreases-loop-sounds l = length l.queue.items
