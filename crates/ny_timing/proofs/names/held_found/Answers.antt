use Rattle.ny_timing.proofs.Silence.{no_time_is}
use Rattle.ny_timing.proofs.names.held_found.Goals as goal

pub returns-in-Number-clause-bounds : goal.returns-in-Number-clause-bounds
returns-in-Number-clause-bounds c = no_time_is c.args.rate
