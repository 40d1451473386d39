use Rattle.std.proofs.Common.{arith, ◌-◌}
use Rattle.ny_units.proofs.Pieces.{in_run}
use Rattle.ny_units.proofs.input.heard.Goals as goal

pub returns-clause-values : goal.returns-clause-values
returns-clause-values c = λ xs shows k within.
    in_run c.args.start c.args.c.now.visible c.args.m (c.args.m - c.from-start.result) c.min-2.result k xs c.run-run.result.now (omega arith) (omega (arith, c.run-run.ensures.seen)) (c.run-run.ensures.shown xs shows) within
