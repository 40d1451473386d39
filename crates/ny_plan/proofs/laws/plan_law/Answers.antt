use Rattle.ny_plan.proofs.HeardPlays.{plan_is}
use Rattle.ny_plan.proofs.OrderLemmas.{plan_ordered}
use Rattle.ny_plan.proofs.laws.plan_law.Goals as goal

pub returns-clause-channels : goal.returns-clause-channels
returns-clause-channels c = plan_is

pub returns-clause-ordered : goal.returns-clause-ordered
returns-clause-ordered c = λ code rate. (plan_ordered code rate).0

pub returns-clause-rows : goal.returns-clause-rows
returns-clause-rows c = λ code rate. (plan_ordered code rate).1
