use Rattle.std.proofs.Common.{◌∙◌, sym, subst}
use Rattle.ny_list.proofs.IndexLemmas.{same_some}
use Rattle.ny_heap.specs.declared.table.Unit.{Unit as UnitData}
use Rattle.ny_heap.specs.Work.{inputs_in}
use Rattle.ny_heap.specs.Filling.{Settles}
use Rattle.ny_heap.proofs.ForgetLemmas.{settled_there, WaitsStill-open, Forgetting-begun, Settles-forgot, WaitsStill-forgot}
use Rattle.ny_heap.proofs.settling.settle_all.Goals as goal

pub is_unfilled-requires-clause-there : goal.is_unfilled-requires-clause-there
is_unfilled-requires-clause-there c =
    let s = c.requires.settling in
    settled_there c.args.table.now c.settle_inputs.new.table c.args.u (inputs_in s.unit.work) c.settle_inputs.ensures.table c.settle_inputs.ensures.read (c.settle_inputs.ensures.settles s.unit s.there)

pub returns-then-is_unfilled-clause-waits : goal.returns-then-is_unfilled-clause-waits
returns-then-is_unfilled-clause-waits c =
    let s = c.requires.settling in
    WaitsStill-open c.args.table.now c.settle_inputs.new.table c.args.u (inputs_in s.unit.work) c.settle_inputs.ensures.table c.settle_inputs.ensures.read (c.settle_inputs.ensures.settles s.unit s.there)
    (sym c.is_unfilled.ensures ∙ c.if-is_unfilled.true)

pub forget_waiting-requires : goal.forget_waiting-requires
forget_waiting-requires c =
    let s = c.requires.settling in
    record {
      forgetting = Forgetting-begun c.args.table.now c.settle_inputs.new.table c.args.u (inputs_in s.unit.work) c.settle_inputs.ensures.table c.settle_inputs.ensures.read (c.settle_inputs.ensures.settles s.unit s.there)
          (sym c.is_unfilled.ensures ∙ c.if-is_unfilled.false);
    }

pub returns-clause-settles : goal.returns-clause-settles
returns-clause-settles c = λ x at.
    let s = c.requires.settling in
    subst (λ (y : UnitData). Settles c.args.table.now c.forget_waiting.new.table c.args.u 0 (inputs_in y.work)) (same_some (sym s.there ∙ at))
    (Settles-forgot c.args.table.now c.settle_inputs.new.table c.args.u (inputs_in s.unit.work) c.settle_inputs.ensures.table c.settle_inputs.ensures.read (c.settle_inputs.ensures.settles s.unit s.there)
    (sym c.is_unfilled.ensures ∙ c.if-is_unfilled.false) c.forget_waiting.new.table c.forget_waiting.ensures.forgetting)

pub returns-clause-waits : goal.returns-clause-waits
returns-clause-waits c =
    let s = c.requires.settling in
    WaitsStill-forgot c.args.table.now c.settle_inputs.new.table c.args.u (inputs_in s.unit.work) c.settle_inputs.ensures.table c.settle_inputs.ensures.read (c.settle_inputs.ensures.settles s.unit s.there)
    (sym c.is_unfilled.ensures ∙ c.if-is_unfilled.false) c.forget_waiting.new.table c.forget_waiting.ensures.forgetting c.forget_waiting.ensures.none
