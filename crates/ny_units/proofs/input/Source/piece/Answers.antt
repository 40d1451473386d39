use Rattle.std.proofs.Common.{◌+◌, subst}
use Rattle.ny_units.specs.declared.input.Source.{Source}
use Rattle.ny_units.specs.Inputs.{CanRead}
use Rattle.ny_units.proofs.input.Source.piece.Goals as goal

pub heard-requires-clause-ready : goal.heard-requires-clause-ready
heard-requires-clause-ready c =
    subst (λ (s : Source). CanRead c.args.reads.now s c.args.m (c.args.m + c.args.limit)) c.in-Reader.is c.requires.ready c.in-Some.c c.in-Some.is
