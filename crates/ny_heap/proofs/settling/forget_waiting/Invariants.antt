use Rattle.ny_heap.specs.Filling.{Forgetting}
use Rattle.ny_heap.proofs.ForgetLemmas.{waiting_of}
use Rattle.ny_heap.proofs.settling.forget_waiting.Given as goal

-- of what its parts keep some is dropped
abbrev pub invariant-loop-kept : goal.invariant-loop-kept
invariant-loop-kept l = Forgetting l.fn.table l.table l.u

abbrev pub decreases-loop-kept : goal.decreases-loop-kept
decreases-loop-kept l = waiting_of l.table l.u
