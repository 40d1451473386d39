use Rattle.ny_heap.proofs.GoingLemmas.{Going}
use Rattle.ny_heap.proofs.settling.settle_inputs.Given as goal

-- the inputs before this one have moved on
abbrev pub invariant-loop-i : goal.invariant-loop-i
invariant-loop-i l = Going l.fn.table l.table l.u l.i-end l.i
