use Rattle.std.proofs.Common.{[], length, map, sym, ap, ◌∙◌, deque_items}
use Rattle.std.specs.Option.{option_map}
use Rattle.std.proofs.lemmas.List.FromFn.{length-map-range_with_len}
use Rattle.ny_heap.specs.Heap.{HeapState}
use Rattle.ny_heap.specs.Table.{unit_at}
use Rattle.ny_heap.specs.View.{branches_of, node_of}
use Rattle.ny_heap.proofs.heap.Heap.places.Goals as goal

pub returns : goal.returns
returns g c =
    let i = c.self.inside in
    let bs = branches_of (map deque_items i.branches.items) in
    ap length c.as_slice.ensures.value
    ∙ sym (length-map-range_with_len (λ v. option_map (node_of {B = g.row.B.Denot} bs i.table [] v) (unit_at i.table v)) 0 (length i.table.units.items))
    ∙ ap (λ (h : HeapState g.row.B.Denot). length h.nodes) c.self.view_is
