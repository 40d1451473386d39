use Rattle.ny_filters.proofs.Combs.{CombSoFar}
use Rattle.ny_filters.proofs.comb.run.Given as goal

abbrev pub invariant-loop-k : goal.invariant-loop-k
invariant-loop-k g l = CombSoFar l.gain l.initial.line l.line l.k l.input l.out
