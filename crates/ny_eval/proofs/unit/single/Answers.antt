use Rattle.std.proofs.Common.{refl}
use Rattle.ny_eval.proofs.UnitLemmas.{single_made}
use Rattle.ny_eval.proofs.unit.single.Goals as goal

pub of_one-requires-clause-made : goal.of_one-requires-clause-made
of_one-requires-clause-made c = single_made c.args.make c.args.sound c.args.sound.timing c.requires.made refl c.requires.hands.hand.begin.0.bounds
