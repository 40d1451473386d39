use Rattle.ny_heap.proofs.WantLemmas.{NoneLacks}
use Rattle.ny_heap.proofs.wants.first_lacking.Given as goal

abbrev pub invariant-loop-i : goal.invariant-loop-i
invariant-loop-i l = NoneLacks l.table l.unit l.done l.count l.i
