use Rattle.std.proofs.Common.{◌<◌, IsSomeAnd, Some, length, sym, ap, subst, ◌∙◌, map, deque_items, arith}
use Rattle.std.specs.Option.{option_map}
use Rattle.std.proofs.lemmas.List.FromFn.{length-map-range_with_len}
use Rattle.ny_heap.specs.declared.table.Unit.{Unit as UnitData}
use Rattle.ny_heap.specs.Heap.{Node, HeapState, node_at}
use Rattle.ny_heap.specs.Table.{input_of}
use Rattle.ny_heap.specs.View.{branches_of}
use Rattle.ny_heap.proofs.FirstLemmas.{some_and}
use Rattle.ny_heap.proofs.ViewLemmas.{unit_of_node, node_of_unit}
use Rattle.ny_heap.proofs.heap.Heap.last_stop.Goals as goal

pub last_stop_of-requires : goal.last_stop_of-requires
last_stop_of-requires g c =
    let i = c.self.inside in
    let bs = branches_of (map deque_items i.branches.items) in
    let y = some_and _ _ (subst (λ (h : HeapState g.row.B.Denot). IsSomeAnd (node_at h c.args.u.0.0) (λ x. 0 < length x.inputs)) (sym c.self.view_is) c.requires.given) in
    let x = unit_of_node g.row.B.Denot bs i.table i.fills i.peak c.args.u.0.0 y.0 y.1 in
    subst (λ o. IsSomeAnd o (λ (z : UnitData). 0 < length z.inputs.items)) (sym x.1)
    (omega (arith, y.2, ap (λ (q : Node g.row.B.Denot). length q.inputs) x.2, length-map-range_with_len (input_of x.0) 0 (length x.0.inputs.items)))

pub returns : goal.returns
returns g c =
    let i = c.self.inside in
    let bs = branches_of (map deque_items i.branches.items) in
    let y = some_and _ _ (subst (λ (h : HeapState g.row.B.Denot). IsSomeAnd (node_at h c.args.u.0.0) (λ x. 0 < length x.inputs)) (sym c.self.view_is) c.requires.given) in
    let x = unit_of_node g.row.B.Denot bs i.table i.fills i.peak c.args.u.0.0 y.0 y.1 in
    ap (λ (h : HeapState g.row.B.Denot). option_map (λ z. z.last_stop) (node_at h c.args.u.0.0)) (sym c.self.view_is)
    ∙ ap (option_map (λ (z : Node g.row.B.Denot). z.last_stop)) (node_of_unit g.row.B.Denot bs i.table i.fills i.peak c.args.u.0.0 x.0 x.1)
    ∙ ap Some (sym (c.last_stop_of.ensures x.0 x.1))
