use Rattle.std.proofs.Common.{◌≡◌, Some, None, IsSomeAnd, IsTrue, sym, subst, ◌∙◌, map, deque_items}
use Rattle.ny_heap.specs.Heap.{HeapState, node_at, is_open}
use Rattle.ny_heap.specs.Steps.{want_of}
use Rattle.ny_heap.specs.Wanting.{NoneWanted}
use Rattle.ny_heap.specs.View.{branches_of}
use Rattle.ny_heap.proofs.FirstLemmas.{open_is, want_is, none_before, none_wanted}
use Rattle.ny_heap.proofs.heap.Heap.want_from.Goals as goal

pub first_lacking-requires-clause-there : goal.first_lacking-requires-clause-there
first_lacking-requires-clause-there g c =
    let i = c.self.inside in
    let bs = branches_of (map deque_items i.branches.items) in
    (open_is g.row.B.Denot bs i.table i.fills i.peak c.args.u.0.0 c.self.invariant.heap.table (subst (λ (h : HeapState g.row.B.Denot). IsSomeAnd (node_at h c.args.u.0.0) (λ x. IsTrue (is_open h.block x))) (sym c.self.view_is) c.requires.«open»)).2

pub first_lacking-requires-clause-before : goal.first_lacking-requires-clause-before
first_lacking-requires-clause-before g c = λ x at.
    let i = c.self.inside in
    let bs = branches_of (map deque_items i.branches.items) in
    none_before g.row.B.Denot bs i.table c.self.invariant.heap.table i.fills i.peak c.args.u.0.0 x at c.args.from
    (subst (λ h. NoneWanted {B = g.row.B.Denot} h c.args.u.0.0 c.args.from) (sym c.self.view_is) c.requires.before)

pub returns-in-None-clause-first : goal.returns-in-None-clause-first
returns-in-None-clause-first g c =
    let i = c.self.inside in
    let bs = branches_of (map deque_items i.branches.items) in
    let x = open_is g.row.B.Denot bs i.table i.fills i.peak c.args.u.0.0 c.self.invariant.heap.table (subst (λ (h : HeapState g.row.B.Denot). IsSomeAnd (node_at h c.args.u.0.0) (λ x. IsTrue (is_open h.block x))) (sym c.self.view_is) c.requires.«open») in
    subst (λ h. None ≡ want_of {B = g.row.B.Denot} h c.args.u.0.0) c.self.view_is (c.in-None.ensures.first x.0 x.1 ∙ sym (want_is g.row.B.Denot bs i.table c.self.invariant.heap.table i.fills i.peak c.args.u.0.0 x.0 x.1))

pub returns-in-Some-clause-first : goal.returns-in-Some-clause-first
returns-in-Some-clause-first g c =
    let i = c.self.inside in
    let bs = branches_of (map deque_items i.branches.items) in
    let x = open_is g.row.B.Denot bs i.table i.fills i.peak c.args.u.0.0 c.self.invariant.heap.table (subst (λ (h : HeapState g.row.B.Denot). IsSomeAnd (node_at h c.args.u.0.0) (λ x. IsTrue (is_open h.block x))) (sym c.self.view_is) c.requires.«open») in
    subst (λ h. Some c.in-Some.found.list ≡ want_of {B = g.row.B.Denot} h c.args.u.0.0) c.self.view_is (c.in-Some.ensures.first x.0 x.1 ∙ sym (want_is g.row.B.Denot bs i.table c.self.invariant.heap.table i.fills i.peak c.args.u.0.0 x.0 x.1))

pub returns-in-Some-clause-before : goal.returns-in-Some-clause-before
returns-in-Some-clause-before g c =
    let i = c.self.inside in
    let bs = branches_of (map deque_items i.branches.items) in
    let x = open_is g.row.B.Denot bs i.table i.fills i.peak c.args.u.0.0 c.self.invariant.heap.table (subst (λ (h : HeapState g.row.B.Denot). IsSomeAnd (node_at h c.args.u.0.0) (λ x. IsTrue (is_open h.block x))) (sym c.self.view_is) c.requires.«open») in
    subst (λ h. NoneWanted {B = g.row.B.Denot} h c.args.u.0.0 c.in-Some.found.place) c.self.view_is
    (none_wanted g.row.B.Denot bs i.table c.self.invariant.heap.table i.fills i.peak c.args.u.0.0 x.0 x.1 c.in-Some.found.place (c.in-Some.ensures.before x.0 x.1))
