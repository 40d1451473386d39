use Rattle.ny_timing.proofs.Silence.{no_time_is}
use Rattle.ny_timing.proofs.found.found_of.Goals as goal

pub returns-in-Number-clause-bounds : goal.returns-in-Number-clause-bounds
returns-in-Number-clause-bounds c = no_time_is c.args.rate

pub returns-in-Test-clause-bounds : goal.returns-in-Test-clause-bounds
returns-in-Test-clause-bounds c = no_time_is c.args.rate
