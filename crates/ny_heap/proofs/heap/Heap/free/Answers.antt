use Rattle.std.proofs.Common.{◌≡◌, ◌∙◌, ◌-◌, subst, sym, ap, length, map, deque_items}
use Rattle.ny_heap.specs.Heap.{free_of}
use Rattle.ny_heap.specs.Reach.{HeapLaws}
use Rattle.ny_heap.specs.View.{branches_of}
use Rattle.ny_heap.proofs.LawLemmas.{heap_laws, live_is}
use Rattle.ny_heap.proofs.heap.Heap.free.Goals as goal

pub returns-clause-free : goal.returns-clause-free
returns-clause-free g c =
    let i = c.self.inside in
    let bs = branches_of (map deque_items i.branches.items) in
    subst (λ s. c.free.result ≡ free_of {B = g.row.B.Denot} s) c.self.view_is
    (c.free.ensures.free ∙ ap (λ n. length i.table.store.loose - n) (sym (live_is g.row.B.Denot bs i.table c.self.invariant.heap c.self.invariant.have i.fills i.peak)))

pub returns-clause-laws : goal.returns-clause-laws
returns-clause-laws g c =
    let i = c.self.inside in
    let bs = branches_of (map deque_items i.branches.items) in
    subst (HeapLaws {B = g.row.B.Denot}) c.self.view_is (heap_laws g.row.B.Denot bs i.table c.self.invariant.heap c.self.invariant.have i.fills i.peak)
