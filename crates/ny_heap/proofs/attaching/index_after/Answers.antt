use Rattle.std.proofs.Common.{sym, ap, ◌∙◌}
use Rattle.ny_num.specs.Grid.{index_at}
use Rattle.ny_heap.proofs.StopLemmas.{last_some, last_none, index_none}
use Rattle.ny_heap.proofs.attaching.index_after.Goals as goal

pub returns-in-Some : goal.returns-in-Some
returns-in-Some c = c.index.ensures.value ∙ ap (λ t. index_at t c.args.rate) (last_some c.args.inputs.now c.in-Some.timing.now c.in-Some.ensures.value)

pub returns-in-None : goal.returns-in-None
returns-in-None c = index_none c.args.rate ∙ ap (λ t. index_at t c.args.rate) (sym (last_none c.args.inputs.now c.in-None.ensures.value))
