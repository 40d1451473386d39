use Rattle.std.proofs.Common.{arith}
use Rattle.ny_warp.proofs.PlacedThreshold.{placed-none}
use Rattle.ny_warp.proofs.step.first_placed.Goals as goal

pub returns-in-None-clause-none : goal.returns-in-None-clause-none
returns-in-None-clause-none c = λ v h. placed-none c.args.d c.args.t v c.args.s c.in-None.ensures (omega arith)
