use Rattle.std.proofs.Common.{◌≡◌}
use Rattle.ny_heap.specs.Counting.{kept_below}
use Rattle.ny_heap.proofs.kinds.kept_by_kind.Given as goal

abbrev pub invariant-loop-v : goal.invariant-loop-v
invariant-loop-v l = l.counts ≡ kept_below l.table l.v
