use Rattle.ny_laws.proofs.PlayedKinds.{kinds_hold}
use Rattle.ny_laws.proofs.kinds.kinds_law.Goals as goal

pub returns : goal.returns
returns c = kinds_hold c.args.program.now c.order_law.ensures.ordered
