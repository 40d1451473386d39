use Rattle.std.proofs.Common.{◌≡◌, None, Some, sym, ◌∙◌}
use Rattle.std.proofs.lemmas.List.{get_or_default}
use Rattle.ny_heap.specs.Table.{unit_at}
use Rattle.ny_heap.proofs.KindLemmas.{count_fits, counts_now, counted_none}
use Rattle.ny_heap.proofs.kinds.count_kept.Goals as goal

pub overflow_add-counts : goal.overflow_add-counts
overflow_add-counts c =
    let t = c.args.table.now in
    let there : unit_at t c.args.v ≡ Some c.in-Some.unit = get_or_default t.units.items c.args.v None c.index.result.now c.requires.inside ∙ sym c.index.ensures ∙ c.in-Some.is in
    record { fits = count_fits t c.requires.table c.args.v c.in-Some.unit there c.place_of_work-place.result c.place_of_work-place.ensures c.args.counts.now c.requires.counts c.kept.result c.kept.ensures.kept }

pub returns-in-Some : goal.returns-in-Some
returns-in-Some c =
    let t = c.args.table.now in
    let there : unit_at t c.args.v ≡ Some c.in-Some.unit = get_or_default t.units.items c.args.v None c.index.result.now c.requires.inside ∙ sym c.index.ensures ∙ c.in-Some.is in
    counts_now t c.requires.table c.args.v c.in-Some.unit there c.place_of_work-place.result c.place_of_work-place.ensures c.args.counts.now c.requires.counts c.kept.result c.kept.ensures.kept

pub returns-in_default : goal.returns-in_default
returns-in_default c =
    let t = c.args.table.now in
    let none : unit_at t c.args.v ≡ None = get_or_default t.units.items c.args.v None c.index.result.now c.requires.inside ∙ sym c.index.ensures ∙ c.in_default.is in
    c.requires.counts ∙ counted_none t c.args.v none
