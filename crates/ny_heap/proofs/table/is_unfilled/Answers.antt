use Rattle.std.proofs.Common.{◌*◌, ◌∙◌, nat_lt}
use Rattle.ny_heap.proofs.OpenLemmas.{open_now}
use Rattle.ny_heap.proofs.table.is_unfilled.Goals as goal

pub returns : goal.returns
returns c =
    (λ k. nat_lt (c.from-filled.ensures k * c.from.ensures k) (c.from-2.ensures k))
    ∙ open_now c.args.table.now c.args.u c.requires.there c.unit_of-unit.result.now c.filled.result c.unit_of-unit.ensures (λ l at. c.filled.ensures.filled l at) c.requires.positive
