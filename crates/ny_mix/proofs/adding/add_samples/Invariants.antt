use Rattle.ny_mix.proofs.Added.{AddedSoFar}
use Rattle.ny_mix.proofs.adding.add_samples.Given as goal

abbrev pub invariant-loop-n : goal.invariant-loop-n
invariant-loop-n l = AddedSoFar l.samples l.initial.out l.out l.n
