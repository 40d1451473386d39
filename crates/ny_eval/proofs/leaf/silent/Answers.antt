use Rattle.ny_eval.proofs.UnitLemmas.{silent_bounds}
use Rattle.ny_eval.proofs.leaf.silent.Goals as goal

pub play-requires-clause-bounds : goal.play-requires-clause-bounds
play-requires-clause-bounds c = silent_bounds c.args.rate c.of.result c.of.ensures
