use Rattle.std.proofs.Common.{arith}
use Rattle.ny_resolve.proofs.Rates.{rate_of_hz}
use Rattle.ny_resolve.proofs.literals.rate_at.Goals as goal

pub returns : goal.returns
returns c = rate_of_hz c.of.result c.args.micro (omega arith) c.of.ensures.is c.of.ensures.none
