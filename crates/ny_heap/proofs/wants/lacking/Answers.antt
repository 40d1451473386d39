use Rattle.ny_heap.specs.Work.{cursor_at}
use Rattle.ny_heap.proofs.WantLemmas.{list_there}
use Rattle.ny_heap.proofs.wants.lacking.Goals as goal

pub computed-requires : goal.computed-requires
computed-requires c = list_there c.args.table.now (cursor_at c.args.unit.now.work c.args.i) c.in_ok-v.v (λ k is. c.requires.there k is) c.in_ok-v.ensures
