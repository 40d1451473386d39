use Rattle.std.proofs.Common.{rules, ◌≡◌, max, Some, arith, sym, subst, ◌∙◌}
use Rattle.ny_list.proofs.IndexLemmas.{same_some}
use Rattle.ny_heap.specs.declared.table.Unit.{Unit as UnitData}
use Rattle.ny_heap.specs.Work.{inputs_in}
use Rattle.ny_heap.specs.Table.{NoneBefore, computed_next_in, lacking_from}
use Rattle.ny_heap.proofs.WantLemmas.{inputs_there, NoneBefore-over, NoneLacks-begun, NoneLacks-more, NoneLacks-found}
use Rattle.ny_heap.proofs.wants.first_lacking.Goals as goal

pub loop-i-init : goal.loop-i-init
loop-i-init c =
    let x = c.unit_of-unit.result.now in
    let from = subst (λ d. NoneBefore c.args.table.now x d c.args.from) (sym c.computed_next-done.ensures) (c.requires.before x c.unit_of-unit.ensures) in
    NoneLacks-begun c.args.table.now x c.computed_next-done.result c.inputs-count.result (max c.args.from c.over.result) c.min-begin.result c.inputs-count.ensures (omega (arith, c.min-begin.ensures, c.max.ensures))
    (NoneBefore-over c.args.table.now x c.computed_next-done.result c.args.from c.over.result from c.over.ensures.gone)

pub lacking-requires-clause-there : goal.lacking-requires-clause-there
lacking-requires-clause-there c = λ k is. inputs_there c.args.table.now c.args.u c.loop-i.i c.unit_of-unit.result.now c.requires.table c.unit_of-unit.ensures (omega (arith, c.loop-i.invariant.counts)) k is

pub loop-i-preserved : goal.loop-i-preserved
loop-i-preserved c =
    NoneLacks-more c.args.table.now c.unit_of-unit.result.now c.computed_next-done.result c.inputs-count.result c.loop-i.i (omega arith) c.loop-i.invariant (search rules)

pub returns-in-Some-clause-first : goal.returns-in-Some-clause-first
returns-in-Some-clause-first c = λ x at.
    let t = c.args.table.now in
    let unit = c.unit_of-unit.result.now in
    subst (λ (y : UnitData). Some c.in-Some.list ≡ lacking_from t y (computed_next_in t c.args.u) 0 (inputs_in y.work)) (same_some (sym c.unit_of-unit.ensures ∙ at))
    (subst (λ d. Some c.in-Some.list ≡ lacking_from t unit d 0 (inputs_in unit.work)) c.computed_next-done.ensures
    (NoneLacks-found t unit c.computed_next-done.result c.inputs-count.result c.loop-i.i c.in-Some.list (omega arith) c.loop-i.invariant c.in-Some.ensures))
