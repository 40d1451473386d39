use Rattle.std.proofs.Common.{rules, ◌≡◌, ◌-◌, length, take, drop, Some, refl, sym, ap, ◌∙◌}
use Rattle.std.proofs.lemmas.List.{length-take}
use Rattle.ny_list.proofs.IndexLemmas.{same_some}
use Rattle.ny_heap.specs.Table.{unit_at}
use Rattle.ny_heap.proofs.TableLemmas.{found_there}
use Rattle.ny_heap.proofs.CanLemmas.{ready_for, given_for, taken_count, computed_block}
use Rattle.ny_heap.proofs.filling.compute.Goals as goal

pub fill-requires-clause-ready : goal.fill-requires-clause-ready
fill-requires-clause-ready c =
    let f = c.requires.ready in
    let there : unit_at c.args.table.now c.args.u ≡ Some c.unwrap-unit.result.now = found_there c.args.table.now.units.items c.args.u f.there.unit c.unwrap-unit.result.now c.index_mut.result.now f.there.there c.index_mut.ensures.value (search rules) in
    let n = taken_count c.args.table.now c.args.u f c.computed-from.result c.computed_next-end.result (length c.args.out.now) (length (take (c.computed_next-end.result - c.computed-from.result) c.args.out.now)) c.computed-from.ensures c.computed_next-end.ensures c.requires.whole (length-take (c.computed_next-end.result - c.computed-from.result) c.args.out.now) in
    ready_for c.args.table.now c.args.u f c.unwrap-unit.result.now.work c.computed-from.result (length (take (c.computed_next-end.result - c.computed-from.result) c.args.out.now)) (ap (λ x. x.work) (same_some (sym there ∙ f.there.there))) c.computed-from.ensures n.0 c.reads-reads.result c.reads-reads.ensures.same

pub fill-requires-clause-given : goal.fill-requires-clause-given
fill-requires-clause-given c =
    let f = c.requires.ready in
    let there : unit_at c.args.table.now c.args.u ≡ Some c.unwrap-unit.result.now = found_there c.args.table.now.units.items c.args.u f.there.unit c.unwrap-unit.result.now c.index_mut.result.now f.there.there c.index_mut.ensures.value (search rules) in
    let n = taken_count c.args.table.now c.args.u f c.computed-from.result c.computed_next-end.result (length c.args.out.now) (length (take (c.computed_next-end.result - c.computed-from.result) c.args.out.now)) c.computed-from.ensures c.computed_next-end.ensures c.requires.whole (length-take (c.computed_next-end.result - c.computed-from.result) c.args.out.now) in
    given_for c.args.table.now c.args.u f c.unwrap-unit.result.now.work c.computed-from.result (length (take (c.computed_next-end.result - c.computed-from.result) c.args.out.now)) (ap (λ x. x.work) (same_some (sym there ∙ f.there.there))) c.computed-from.ensures n.0

pub returns-clause-computes : goal.returns-clause-computes
returns-clause-computes c =
    let f = c.requires.ready in
    let there : unit_at c.args.table.now c.args.u ≡ Some c.unwrap-unit.result.now = found_there c.args.table.now.units.items c.args.u f.there.unit c.unwrap-unit.result.now c.index_mut.result.now f.there.there c.index_mut.ensures.value (search rules) in
    let n = taken_count c.args.table.now c.args.u f c.computed-from.result c.computed_next-end.result (length c.args.out.now) (length (take (c.computed_next-end.result - c.computed-from.result) c.args.out.now)) c.computed-from.ensures c.computed_next-end.ensures c.requires.whole (length-take (c.computed_next-end.result - c.computed-from.result) c.args.out.now) in
    computed_block c.args.table.now _ c.args.u f c.unwrap-unit.result.now c.fill.new.self c.reads-reads.result c.computed-from.result (length (take (c.computed_next-end.result - c.computed-from.result) c.args.out.now)) _ c.fill.new.out (drop (c.computed_next-end.result - c.computed-from.result) c.args.out.now)
    there c.reads-reads.ensures.same c.computed-from.ensures n c.fill.ensures.len refl c.fill.ensures.moves c.fill.ensures.recalls c.fill.ensures.samples refl refl refl
