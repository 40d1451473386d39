use Rattle.std.proofs.Common.{◌≡◌, ◌-◌, length, sym, ap, ◌∙◌, arith}
use Rattle.ny_list.proofs.IndexLemmas.{same_some}
use Rattle.ny_heap.specs.declared.table.Unit.{Unit as UnitData}
use Rattle.ny_heap.specs.View.{last_stop_in}
use Rattle.ny_heap.proofs.FirstLemmas.{some_and}
use Rattle.ny_heap.proofs.StopLemmas.{last_stop_at}
use Rattle.ny_heap.proofs.attaching.last_stop_of.Goals as goal

pub returns : goal.returns
returns c = λ x at.
    let some = some_and _ _ c.requires in
    let y = c.unit_of.result.now in
    let read : c.as_slice-inputs.result.now ≡ y.inputs.items = c.as_slice-inputs.ensures.value in
    let was = ap (λ (z : UnitData). length z.inputs.items) (same_some (sym some.1 ∙ c.unit_of.ensures)) in
    last_stop_at c.as_slice-inputs.result.now (length c.as_slice-inputs.result.now - 1) _ 0 (omega (arith, some.2, was, ap length read))
    ∙ ap (last_stop_in 0) (read ∙ ap (λ (z : UnitData). z.inputs.items) (same_some (sym c.unit_of.ensures ∙ at)))
