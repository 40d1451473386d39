use Rattle.ny_filters.proofs.Folds.{PoleWithin}
use Rattle.ny_filters.proofs.one_pole.run_within.Given as goal

abbrev pub invariant-loop-k : goal.invariant-loop-k
invariant-loop-k l = PoleWithin l.share.micro l.fn.before l.output l.k l.input l.out
