use Rattle.std.proofs.Common.{length}
use Rattle.ny_heap.specs.Mixing.{kept_by}
use Rattle.ny_heap.proofs.SpentLemmas.{Spending}
use Rattle.ny_heap.proofs.mixing.drop_waiting.Given as goal

-- the lists that were taken are spent
abbrev pub invariant-loop-part : goal.invariant-loop-part
invariant-loop-part g l = Spending l.fn.table l.table (kept_by l.fn.waiting.items) (kept_by l.queue.items)

abbrev pub decreases-loop-part : goal.decreases-loop-part
decreases-loop-part g l = length l.queue.items
