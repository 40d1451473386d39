use Rattle.std.proofs.Common.{◌≡◌, ◌∙◌, None, IsSome, length, map, deque_items, get_or, [], sym, ap, subst, arith}
use Rattle.std.specs.List.{slice_get}
use Rattle.std.proofs.lemmas.List.{length-map}
use Rattle.std.specs.Option.{option_map}
use Rattle.ny_heap.specs.Heap.{HeapState, Waiting, node_at}
use Rattle.ny_heap.specs.View.{branches_of}
use Rattle.ny_heap.specs.Revealing.{due_of}
use Rattle.ny_heap.proofs.DueLemmas.{unit_there, is_there, none_due, branch_some, branch_due, branch_place}
use Rattle.ny_heap.proofs.heap.Heap.due.Goals as goal

pub is_due-requires : goal.is_due-requires
is_due-requires g c =
    let i = c.self.inside in
    let bs = branches_of (map deque_items i.branches.items) in
    is_there g.row.B.Denot bs i.table i.fills i.peak c.args.u.0.0 c.self.invariant.heap.table (subst (λ (h : HeapState g.row.B.Denot). IsSome (node_at h c.args.u.0.0)) (sym c.self.view_is) c.requires.held)

pub returns-then-not-is_due : goal.returns-then-not-is_due
returns-then-not-is_due g c =
    let i = c.self.inside in
    let bs = branches_of (map deque_items i.branches.items) in
    let x = unit_there g.row.B.Denot bs i.table i.fills i.peak c.args.u.0.0 (subst (λ (h : HeapState g.row.B.Denot). IsSome (node_at h c.args.u.0.0)) (sym c.self.view_is) c.requires.held) in
    record {
      due = subst (λ (h : HeapState g.row.B.Denot). None ≡ option_map (λ (p : Waiting g.row.B.Denot). p.branch) (due_of h c.args.u.0.0)) c.self.view_is
          (sym (ap (option_map (λ (p : Waiting g.row.B.Denot). p.branch)) (none_due g.row.B.Denot bs i.table i.fills i.peak c.args.u.0.0 x.0 x.1 (sym (c.is_due.ensures x.0 x.1) ∙ c.if-not-is_due.true))));
    }

pub first_branch-requires : goal.first_branch-requires
first_branch-requires g c =
    let i = c.self.inside in
    let bs = branches_of (map deque_items i.branches.items) in
    let x = unit_there g.row.B.Denot bs i.table i.fills i.peak c.args.u.0.0 (subst (λ (h : HeapState g.row.B.Denot). IsSome (node_at h c.args.u.0.0)) (sym c.self.view_is) c.requires.held) in
    let some = branch_some g.row.B.Denot bs i.table i.fills i.peak c.args.u.0.0 x.0 x.1 c.self.invariant.have (sym (c.is_due.ensures x.0 x.1) ∙ c.if-not-is_due.false) in
    omega (arith, branch_place (map deque_items i.branches.items) c.args.u.0.0 some, length-map i.branches.items deque_items, ap length c.as_slice.ensures.value)

pub returns : goal.returns
returns g c =
    let i = c.self.inside in
    let bs = branches_of (map deque_items i.branches.items) in
    let x = unit_there g.row.B.Denot bs i.table i.fills i.peak c.args.u.0.0 (subst (λ (h : HeapState g.row.B.Denot). IsSome (node_at h c.args.u.0.0)) (sym c.self.view_is) c.requires.held) in
    record {
      due = c.first_branch.ensures
          ∙ ap (λ xs. slice_get (get_or (map deque_items xs) c.args.u.0.0 []) 0) c.as_slice.ensures.value
          ∙ branch_due g.row.B.Denot bs i.table i.fills i.peak c.args.u.0.0 x.0 x.1 c.self.invariant.have (sym (c.is_due.ensures x.0 x.1) ∙ c.if-not-is_due.false)
          ∙ ap (λ (h : HeapState g.row.B.Denot). option_map (λ (p : Waiting g.row.B.Denot). p.branch) (due_of h c.args.u.0.0)) c.self.view_is;
    }
