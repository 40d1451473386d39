use Rattle.std.proofs.Common.{◌<◌, IsSomeAnd, sym, subst, map, deque_items}
use Rattle.ny_heap.specs.declared.table.Unit.{Unit as UnitData}
use Rattle.ny_heap.specs.Heap.{HeapState, node_at}
use Rattle.ny_heap.specs.Steps.{IsHeldSound}
use Rattle.ny_heap.specs.View.{branches_of, state_of}
use Rattle.ny_heap.specs.Revealing.{IsNextPart, Attaches, Delivers}
use Rattle.ny_heap.proofs.FirstLemmas.{some_and}
use Rattle.ny_heap.proofs.ViewLemmas.{unit_of_node}
use Rattle.ny_heap.proofs.RevealedLemmas.{table_in_hand, promised_unit, inside_attached, laws_attached, attaches, delivers}
use Rattle.ny_heap.proofs.heap.Heap.attach.Goals as goal

pub attach_part-requires : goal.attach_part-requires
attach_part-requires g c =
    let i = c.self.inside in
    let bs = branches_of (map deque_items i.branches.items) in
    let u = c.args.u.0.0 in
    let s = c.args.part in
    let held = subst (λ (h : HeapState g.row.B.Denot). IsHeldSound h s) (sym c.self.view_is) c.requires.held in
    let y = some_and _ _ (subst (λ (h : HeapState g.row.B.Denot). IsSomeAnd (node_at h u) (λ x. IsNextPart h u x s)) (sym c.self.view_is) c.requires.next) in
    let x = unit_of_node g.row.B.Denot bs i.table i.fills i.peak u y.0 y.1 in
    record {
      table = table_in_hand g.row.B.Denot bs i.table u s i.size i.fills i.peak i.out.items c.self.invariant held c.requires.begins y.0 y.1 y.2;
      promised = subst (λ o. IsSomeAnd o (λ (z : UnitData). 0 < z.pending)) (sym x.1) (promised_unit g.row.B.Denot bs i.table u s i.size i.fills i.peak i.out.items c.self.invariant held c.requires.begins y.0 y.1 y.2 x.0 x.1);
    }

pub invariant_of-self : goal.invariant_of-self
invariant_of-self g c =
    let i = c.self.inside in
    let bs = branches_of (map deque_items i.branches.items) in
    let u = c.args.u.0.0 in
    let s = c.args.part in
    let held = subst (λ (h : HeapState g.row.B.Denot). IsHeldSound h s) (sym c.self.view_is) c.requires.held in
    let y = some_and _ _ (subst (λ (h : HeapState g.row.B.Denot). IsSomeAnd (node_at h u) (λ x. IsNextPart h u x s)) (sym c.self.view_is) c.requires.next) in
    inside_attached g.row.B.Denot bs i.table u s i.size i.fills i.peak i.out.items c.self.invariant held c.requires.begins y.0 y.1 y.2 c.attach_part.new.table c.attach_part.ensures

pub returns-clause-laws : goal.returns-clause-laws
returns-clause-laws g c =
    let i = c.self.inside in
    let bs = branches_of (map deque_items i.branches.items) in
    let u = c.args.u.0.0 in
    let s = c.args.part in
    let held = subst (λ (h : HeapState g.row.B.Denot). IsHeldSound h s) (sym c.self.view_is) c.requires.held in
    let y = some_and _ _ (subst (λ (h : HeapState g.row.B.Denot). IsSomeAnd (node_at h u) (λ x. IsNextPart h u x s)) (sym c.self.view_is) c.requires.next) in
    laws_attached g.row.B.Denot bs i.table u s i.size i.fills i.peak i.out.items c.self.invariant held c.requires.begins y.0 y.1 y.2 c.attach_part.new.table c.attach_part.ensures

pub returns-clause-attaches : goal.returns-clause-attaches
returns-clause-attaches g c =
    let i = c.self.inside in
    let bs = branches_of (map deque_items i.branches.items) in
    let u = c.args.u.0.0 in
    let s = c.args.part in
    let held = subst (λ (h : HeapState g.row.B.Denot). IsHeldSound h s) (sym c.self.view_is) c.requires.held in
    let y = some_and _ _ (subst (λ (h : HeapState g.row.B.Denot). IsSomeAnd (node_at h u) (λ x. IsNextPart h u x s)) (sym c.self.view_is) c.requires.next) in
    subst (λ (h : HeapState g.row.B.Denot). Attaches h (state_of bs c.attach_part.new.table i.fills i.peak) u s) c.self.view_is (attaches g.row.B.Denot bs i.table u s i.size i.fills i.peak i.out.items c.self.invariant held c.requires.begins y.0 y.1 y.2 c.attach_part.new.table c.attach_part.ensures)

pub returns-clause-meaning : goal.returns-clause-meaning
returns-clause-meaning g c =
    let i = c.self.inside in
    let bs = branches_of (map deque_items i.branches.items) in
    let u = c.args.u.0.0 in
    let s = c.args.part in
    let held = subst (λ (h : HeapState g.row.B.Denot). IsHeldSound h s) (sym c.self.view_is) c.requires.held in
    let y = some_and _ _ (subst (λ (h : HeapState g.row.B.Denot). IsSomeAnd (node_at h u) (λ x. IsNextPart h u x s)) (sym c.self.view_is) c.requires.next) in
    subst (λ (h : HeapState g.row.B.Denot). Delivers h (state_of bs c.attach_part.new.table i.fills i.peak) u s) c.self.view_is (delivers g.row.B.Denot bs i.table u s i.size i.fills i.peak i.out.items c.self.invariant held c.requires.begins y.0 y.1 y.2 c.attach_part.new.table c.attach_part.ensures)
