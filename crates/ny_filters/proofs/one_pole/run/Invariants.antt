use Rattle.ny_filters.proofs.Folds.{PoleSoFar}
use Rattle.ny_filters.proofs.one_pole.run.Given as goal

abbrev pub invariant-loop-k : goal.invariant-loop-k
invariant-loop-k g l = PoleSoFar l.a l.fn.before l.output l.k l.input l.out
