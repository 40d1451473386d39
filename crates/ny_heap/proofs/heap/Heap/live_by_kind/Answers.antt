use Rattle.std.proofs.Common.{◌∙◌, ap, subst, map, deque_items}
use Rattle.ny_heap.specs.Heap.{HeapState}
use Rattle.ny_heap.specs.Kinds.{live_by_kind}
use Rattle.ny_heap.specs.Reach.{HeapLaws}
use Rattle.ny_heap.specs.View.{branches_of}
use Rattle.ny_heap.proofs.LawLemmas.{heap_laws}
use Rattle.ny_heap.proofs.KindLemmas.{by_kind_is}
use Rattle.ny_heap.proofs.heap.Heap.live_by_kind.Goals as goal

pub returns-clause-kinds : goal.returns-clause-kinds
returns-clause-kinds g c =
    let i = c.self.inside in
    let bs = branches_of (map deque_items i.branches.items) in
    c.kept_by_kind.ensures ∙ by_kind_is g.row.B.Denot bs i.table c.self.invariant.heap c.self.invariant.have i.fills i.peak
    ∙ ap (λ (h : HeapState g.row.B.Denot). live_by_kind h) c.self.view_is

pub returns-clause-laws : goal.returns-clause-laws
returns-clause-laws g c =
    let i = c.self.inside in
    let bs = branches_of (map deque_items i.branches.items) in
    subst (HeapLaws {B = g.row.B.Denot}) c.self.view_is (heap_laws g.row.B.Denot bs i.table c.self.invariant.heap c.self.invariant.have i.fills i.peak)
