use Rattle.ny_plan.proofs.LiveLemmas.{live_is, kept_are_live, live_kinds_is}
use Rattle.ny_plan.proofs.NeedLemmas.{reads-earlier}
use Rattle.ny_plan.proofs.laws.live_law.Goals as goal

pub returns-clause-all : goal.returns-clause-all
returns-clause-all g c = λ rows filled row ordered m. live_is g.row.B.Denot c.args.heap.now.block rows filled c.args.heap.now row m c.free-free.ensures.laws (reads-earlier c.args.heap.now.block rows filled ordered)

pub returns-clause-by_kind : goal.returns-clause-by_kind
returns-clause-by_kind g c = λ kinds rows filled row ordered m. kept_are_live g.row.B.Denot kinds c.args.heap.now.block rows filled c.args.heap.now row m c.free-free.ensures.laws (reads-earlier c.args.heap.now.block rows filled ordered)

pub returns-clause-kinds : goal.returns-clause-kinds
returns-clause-kinds g c = λ rows filled row ordered m. live_kinds_is g.row.B.Denot c.args.heap.now.block rows filled c.args.heap.now row m c.free-free.ensures.laws (reads-earlier c.args.heap.now.block rows filled ordered)
