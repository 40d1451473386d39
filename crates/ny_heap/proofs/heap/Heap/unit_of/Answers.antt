use Rattle.std.proofs.Common.{◌≡◌, Some, None, sym, subst, ◌∙◌, true, false, map, deque_items}
use Rattle.ny_heap.specs.Heap.{list_of, open_unit}
use Rattle.ny_heap.specs.Steps.{IsHeldSound}
use Rattle.ny_heap.specs.View.{branches_of}
use Rattle.ny_heap.proofs.WantLemmas.{held_there, open_sound}
use Rattle.ny_heap.proofs.heap.Heap.unit_of.Goals as goal

pub is_unfilled-requires-clause-there : goal.is_unfilled-requires-clause-there
is_unfilled-requires-clause-there g c =
    let i = c.self.inside in
    let bs = branches_of (map deque_items i.branches.items) in
    held_there g.row.B.Denot bs i.table c.self.invariant.heap.table i.fills i.peak c.args.s.now c.in_ok-v.v c.in_ok-v.ensures (subst (λ h. IsHeldSound {B = g.row.B.Denot} h c.args.s.now) (sym c.self.view_is) c.requires.held)

pub returns-then-not-is_unfilled : goal.returns-then-not-is_unfilled
returns-then-not-is_unfilled g c =
    let i = c.self.inside in
    let bs = branches_of (map deque_items i.branches.items) in
    record {
      unit = subst (λ h. None ≡ open_unit {B = g.row.B.Denot} h (list_of c.args.s.now)) c.self.view_is
          (sym (open_sound g.row.B.Denot bs i.table c.self.invariant.heap.table i.fills i.peak c.args.s.now c.in_ok-v.v false c.in_ok-v.ensures (subst (λ h. IsHeldSound {B = g.row.B.Denot} h c.args.s.now) (sym c.self.view_is) c.requires.held) (sym c.if-not-is_unfilled.true ∙ c.is_unfilled.ensures)));
    }

pub returns : goal.returns
returns g c =
    let i = c.self.inside in
    let bs = branches_of (map deque_items i.branches.items) in
    record {
      unit = subst (λ h. Some c.in_ok-v.v ≡ open_unit {B = g.row.B.Denot} h (list_of c.args.s.now)) c.self.view_is
          (sym (open_sound g.row.B.Denot bs i.table c.self.invariant.heap.table i.fills i.peak c.args.s.now c.in_ok-v.v true c.in_ok-v.ensures (subst (λ h. IsHeldSound {B = g.row.B.Denot} h c.args.s.now) (sym c.self.view_is) c.requires.held) (sym c.if-not-is_unfilled.false ∙ c.is_unfilled.ensures)));
    }
