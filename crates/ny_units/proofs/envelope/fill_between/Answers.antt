use Rattle.std.proofs.Common.{length, arith}
use Rattle.std.proofs.lemmas.Int.{ints}
use Rattle.ny_units.specs.Envelopes.{corner}
use Rattle.ny_units.proofs.OnLines.{between}
use Rattle.ny_units.proofs.envelope.fill_between.Goals as goal

pub returns : goal.returns
returns c =
    between (corner c.args.from) (corner c.args.to) _ _ _ _ c.args.n (length c.args.out.now) c.fill_line.new.out c.fill_line.ensures
    (omega (arith, ints)) (omega (arith, ints)) (omega arith) (omega arith) c.requires.begun
