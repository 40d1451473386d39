use Rattle.std.proofs.Common.{◌≡◌, Some, None, IsSomeAnd, IsTrue, sym, subst, ◌∙◌, arith, map, deque_items}
use Rattle.ny_heap.specs.Heap.{HeapState, node_at, is_open}
use Rattle.ny_heap.specs.Steps.{want_of}
use Rattle.ny_heap.specs.View.{branches_of}
use Rattle.ny_heap.proofs.FirstLemmas.{open_is, want_is}
use Rattle.ny_heap.proofs.heap.Heap.want.Goals as goal

pub first_lacking-requires-clause-there : goal.first_lacking-requires-clause-there
first_lacking-requires-clause-there g c =
    let i = c.self.inside in
    let bs = branches_of (map deque_items i.branches.items) in
    (open_is g.row.B.Denot bs i.table i.fills i.peak c.args.u.0.0 c.self.invariant.heap.table (subst (λ (h : HeapState g.row.B.Denot). IsSomeAnd (node_at h c.args.u.0.0) (λ x. IsTrue (is_open h.block x))) (sym c.self.view_is) c.requires.«open»)).2

pub first_lacking-requires-clause-before : goal.first_lacking-requires-clause-before
first_lacking-requires-clause-before g c = λ x at k before. absurd (omega (arith, before))

pub returns-in-None : goal.returns-in-None
returns-in-None g c =
    let i = c.self.inside in
    let bs = branches_of (map deque_items i.branches.items) in
    let x = open_is g.row.B.Denot bs i.table i.fills i.peak c.args.u.0.0 c.self.invariant.heap.table (subst (λ (h : HeapState g.row.B.Denot). IsSomeAnd (node_at h c.args.u.0.0) (λ x. IsTrue (is_open h.block x))) (sym c.self.view_is) c.requires.«open») in
    record { first = subst (λ h. None ≡ want_of {B = g.row.B.Denot} h c.args.u.0.0) c.self.view_is (c.in-None.ensures.first x.0 x.1 ∙ sym (want_is g.row.B.Denot bs i.table c.self.invariant.heap.table i.fills i.peak c.args.u.0.0 x.0 x.1)) }

pub returns-in-Some : goal.returns-in-Some
returns-in-Some g c =
    let i = c.self.inside in
    let bs = branches_of (map deque_items i.branches.items) in
    let x = open_is g.row.B.Denot bs i.table i.fills i.peak c.args.u.0.0 c.self.invariant.heap.table (subst (λ (h : HeapState g.row.B.Denot). IsSomeAnd (node_at h c.args.u.0.0) (λ x. IsTrue (is_open h.block x))) (sym c.self.view_is) c.requires.«open») in
    record { first = subst (λ h. Some c.in-Some.found.list ≡ want_of {B = g.row.B.Denot} h c.args.u.0.0) c.self.view_is (c.in-Some.ensures.first x.0 x.1 ∙ sym (want_is g.row.B.Denot bs i.table c.self.invariant.heap.table i.fills i.peak c.args.u.0.0 x.0 x.1)) }
