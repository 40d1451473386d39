use Rattle.std.proofs.Common.{◌≡◌, ℕ, ◌<◌, None, sym, subst, ◌∙◌, arith}
use Rattle.ny_list.proofs.IndexLemmas.{same_some}
use Rattle.ny_heap.specs.declared.table.Unit.{Unit as UnitData}
use Rattle.ny_heap.specs.Work.{cursor_at}
use Rattle.ny_heap.proofs.GoingLemmas.{Going-begun, going_input, Going-more, Going-done}
use Rattle.ny_heap.proofs.settling.settle_inputs.Goals as goal

pub loop-i-init : goal.loop-i-init
loop-i-init c =
    Going-begun c.args.table.now c.args.u c.inputs_of-i-end.result c.over-first.result c.requires.settling c.inputs_of-i-end.ensures
    (λ x at. subst (λ (y : UnitData). (k : ℕ) → k < c.over-first.result → cursor_at y.work k ≡ None) (same_some (sym c.unit_of.ensures ∙ at)) c.over-first.ensures.gone)

pub settle-requires-clause-inside : goal.settle-requires-clause-inside
settle-requires-clause-inside c = going_input c.args.table.now c.loop-i.table c.args.u c.inputs_of-i-end.result c.loop-i.i c.loop-i.invariant c.loop-i-test.true

pub loop-i-preserved : goal.loop-i-preserved
loop-i-preserved c =
    Going-more c.args.table.now c.loop-i.table c.args.u c.inputs_of-i-end.result c.loop-i.i c.loop-i.invariant c.settle.new.table c.settle.ensures.settling c.settle.ensures.settles

pub returns-clause-settles : goal.returns-clause-settles
returns-clause-settles c = λ x at.
    Going-done c.args.table.now c.loop-i.table c.args.u c.inputs_of-i-end.result c.loop-i.i c.loop-i.invariant x at c.loop-i-test.false (c.loop-i.auto.i-end (omega (arith, c.over-first.ensures.inside, c.inputs_of-i-end.ensures c.unit_of.result.now c.unit_of.ensures)))
