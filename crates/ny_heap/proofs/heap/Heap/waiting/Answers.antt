use Rattle.std.proofs.Common.{◌∙◌, ap, map, deque_items}
use Rattle.ny_heap.specs.Heap.{HeapState}
use Rattle.ny_heap.specs.View.{branches_of}
use Rattle.ny_heap.specs.Revealing.{has_waiting}
use Rattle.ny_heap.proofs.DueLemmas.{any_waiting}
use Rattle.ny_heap.proofs.heap.Heap.waiting.Goals as goal

pub returns : goal.returns
returns g c =
    let i = c.self.inside in
    let bs = branches_of (map deque_items i.branches.items) in
    c.any_waits.ensures ∙ any_waiting g.row.B.Denot bs i.table i.fills i.peak c.self.invariant.heap c.self.invariant.have
    ∙ ap (λ (h : HeapState g.row.B.Denot). has_waiting h) c.self.view_is
