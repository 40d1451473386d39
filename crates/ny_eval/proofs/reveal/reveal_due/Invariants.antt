use Rattle.ny_walk.specs.Below.{waiting_at}
use Rattle.ny_eval.proofs.RevealedLemmas.{RevealedSoFar}
use Rattle.ny_eval.proofs.reveal.reveal_due.Given as goal

abbrev pub invariant-loop : goal.invariant-loop
invariant-loop l = RevealedSoFar l.p l.fn.heap l.heap l.u.0.0

abbrev pub decreases-loop : goal.decreases-loop
decreases-loop l = waiting_at l.heap l.u.0.0
