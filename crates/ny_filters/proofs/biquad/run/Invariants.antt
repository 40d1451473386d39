use Rattle.ny_filters.proofs.Folds.{BiquadSoFar}
use Rattle.ny_filters.proofs.biquad.run.Given as goal

abbrev pub invariant-loop-k : goal.invariant-loop-k
invariant-loop-k g l = BiquadSoFar l.c l.fn.before l.recent l.k l.input l.out
