use Rattle.std.proofs.Common.{◌≡◌, ◌∙◌, Some, None, IsSome, map, deque_items, sym, subst}
use Rattle.ny_heap.specs.Heap.{HeapState, node_at}
use Rattle.ny_heap.specs.Reach.{HeapLaws}
use Rattle.ny_heap.specs.Steps.{waiting_of}
use Rattle.ny_heap.specs.View.{branches_of, state_of}
use Rattle.ny_heap.specs.Revealing.{due_of, HandsOut, Promises}
use Rattle.ny_heap.specs.Work.{waits_in, without_first}
use Rattle.ny_heap.proofs.LawLemmas.{heap_laws}
use Rattle.ny_heap.proofs.DueLemmas.{unit_there, is_there, none_due, some_due, some_waits}
use Rattle.ny_heap.proofs.RevealedLemmas.{inside_handed, laws_handed, handed, handed_held, handed_promises}
use Rattle.ny_heap.proofs.heap.Heap.next_due.Goals as goal

pub is_due-requires : goal.is_due-requires
is_due-requires g c =
    let i = c.self.inside in
    let bs = branches_of (map deque_items i.branches.items) in
    is_there g.row.B.Denot bs i.table i.fills i.peak c.args.u.0.0 c.self.invariant.heap.table (subst (λ (h : HeapState g.row.B.Denot). IsSome (node_at h c.args.u.0.0)) (sym c.self.view_is) c.requires.held)

pub returns-then-not-is_due-clause-laws : goal.returns-then-not-is_due-clause-laws
returns-then-not-is_due-clause-laws g c =
    let i = c.self.inside in
    let bs = branches_of (map deque_items i.branches.items) in
    subst (HeapLaws {B = g.row.B.Denot}) c.self.view_is (heap_laws g.row.B.Denot bs i.table c.self.invariant.heap c.self.invariant.have i.fills i.peak)

pub returns-then-not-is_due-clause-due : goal.returns-then-not-is_due-clause-due
returns-then-not-is_due-clause-due g c =
    let i = c.self.inside in
    let bs = branches_of (map deque_items i.branches.items) in
    let x = unit_there g.row.B.Denot bs i.table i.fills i.peak c.args.u.0.0 (subst (λ (h : HeapState g.row.B.Denot). IsSome (node_at h c.args.u.0.0)) (sym c.self.view_is) c.requires.held) in
    subst (λ (h : HeapState g.row.B.Denot). None ≡ due_of h c.args.u.0.0) c.self.view_is
    (sym (none_due g.row.B.Denot bs i.table i.fills i.peak c.args.u.0.0 x.0 x.1 (sym (c.is_due.ensures x.0 x.1) ∙ c.if-not-is_due.true)))

pub hand_out-kept-requires-clause-waits : goal.hand_out-kept-requires-clause-waits
hand_out-kept-requires-clause-waits g c =
    let i = c.self.inside in
    let bs = branches_of (map deque_items i.branches.items) in
    let x = unit_there g.row.B.Denot bs i.table i.fills i.peak c.args.u.0.0 (subst (λ (h : HeapState g.row.B.Denot). IsSome (node_at h c.args.u.0.0)) (sym c.self.view_is) c.requires.held) in
    some_waits i.table c.args.u.0.0 x.0 x.1 (sym (c.is_due.ensures x.0 x.1) ∙ c.if-not-is_due.false)

pub invariant_of-self : goal.invariant_of-self
invariant_of-self g c =
    let i = c.self.inside in
    let bs = branches_of (map deque_items i.branches.items) in
    let later = branches_of (map deque_items c.take_branch-branch.new.branches.items) in
    inside_handed g.row.B.Denot bs later i.table c.hand_out-kept.new.table c.args.u.0.0 c.hand_out-kept.result.items c.take_branch-branch.result i.size i.fills i.peak i.out.items c.self.invariant c.hand_out-kept.ensures c.take_branch-branch.ensures.first c.take_branch-branch.ensures.others

pub returns-clause-laws : goal.returns-clause-laws
returns-clause-laws g c =
    let i = c.self.inside in
    let bs = branches_of (map deque_items i.branches.items) in
    let later = branches_of (map deque_items c.take_branch-branch.new.branches.items) in
    laws_handed g.row.B.Denot bs later i.table c.hand_out-kept.new.table c.args.u.0.0 c.hand_out-kept.result.items c.take_branch-branch.result i.size i.fills i.peak i.out.items c.self.invariant c.hand_out-kept.ensures c.take_branch-branch.ensures.first c.take_branch-branch.ensures.others

pub returns-clause-due : goal.returns-clause-due
returns-clause-due g c =
    let i = c.self.inside in
    let bs = branches_of (map deque_items i.branches.items) in
    let later = branches_of (map deque_items c.take_branch-branch.new.branches.items) in
    let p = c.hand_out-kept.ensures in
    subst (λ (h : HeapState g.row.B.Denot). Some (waiting_of (c.take_branch-branch.result, c.hand_out-kept.result.items)) ≡ due_of h c.args.u.0.0) c.self.view_is
    (sym (some_due g.row.B.Denot bs i.table i.fills i.peak c.args.u.0.0 p.unit p.was c.take_branch-branch.result (later c.args.u.0.0) c.hand_out-kept.result.items (waits_in (without_first p.unit.work)) c.take_branch-branch.ensures.first p.first (sym (c.is_due.ensures p.unit p.was) ∙ c.if-not-is_due.false)))

pub returns-clause-hands : goal.returns-clause-hands
returns-clause-hands g c =
    let i = c.self.inside in
    let bs = branches_of (map deque_items i.branches.items) in
    let later = branches_of (map deque_items c.take_branch-branch.new.branches.items) in
    subst (λ (h : HeapState g.row.B.Denot). HandsOut h (state_of later c.hand_out-kept.new.table i.fills i.peak) c.args.u.0.0 c.take_branch-branch.result c.hand_out-kept.result.items) c.self.view_is
    (handed g.row.B.Denot bs later i.table c.hand_out-kept.new.table c.args.u.0.0 c.hand_out-kept.result.items c.take_branch-branch.result i.size i.fills i.peak i.out.items c.self.invariant c.hand_out-kept.ensures c.take_branch-branch.ensures.first c.take_branch-branch.ensures.others)

pub returns-clause-sounds : goal.returns-clause-sounds
returns-clause-sounds g c =
    let i = c.self.inside in
    let bs = branches_of (map deque_items i.branches.items) in
    let later = branches_of (map deque_items c.take_branch-branch.new.branches.items) in
    handed_held g.row.B.Denot bs later i.table c.hand_out-kept.new.table c.args.u.0.0 c.hand_out-kept.result.items c.take_branch-branch.result i.size i.fills i.peak i.out.items c.self.invariant c.hand_out-kept.ensures c.take_branch-branch.ensures.first c.take_branch-branch.ensures.others

pub returns-clause-meaning : goal.returns-clause-meaning
returns-clause-meaning g c =
    let i = c.self.inside in
    let bs = branches_of (map deque_items i.branches.items) in
    let later = branches_of (map deque_items c.take_branch-branch.new.branches.items) in
    subst (λ (h : HeapState g.row.B.Denot). Promises h (state_of later c.hand_out-kept.new.table i.fills i.peak) c.args.u.0.0 (waiting_of (c.take_branch-branch.result, c.hand_out-kept.result.items))) c.self.view_is
    (handed_promises g.row.B.Denot bs later i.table c.hand_out-kept.new.table c.args.u.0.0 c.hand_out-kept.result.items c.take_branch-branch.result i.size i.fills i.peak i.out.items c.self.invariant c.hand_out-kept.ensures c.take_branch-branch.ensures.first c.take_branch-branch.ensures.others)
