use Rattle.ny_units.proofs.Resampled.{begins_later}
use Rattle.ny_units.proofs.resample.ResampleUnit.of.Goals as goal

pub invariant_of-result-3 : goal.invariant_of-result-3
invariant_of-result-3 c = (c.from.ensures, begins_later c.args.from c.args.to c.requires.timing)
