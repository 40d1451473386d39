use Rattle.std.proofs.Common.{◌∙◌, ap, arith}
use Rattle.ny_resolve.specs.declared.term.NameId.{NameId}
use Rattle.ny_check.specs.declared.value.Value.{Value}
use Rattle.ny_check.specs.Values.{scalar_in}
use Rattle.ny_heap.specs.declared.sound.Sound.{Sound}
use Rattle.ny_eval.proofs.FrameLemmas.{same_default, scalars_next}
use Rattle.ny_eval.proofs.frame.scalars_of.Goals as goal

pub loop-i-preserved : goal.loop-i-preserved
loop-i-preserved c =
    scalars_next c.args.names.now c.loop-i.i c.index-names-i.result (omega arith) c.loop-i.scalars c.bind.new.self c.scalar_in.result c.loop-i.invariant
    (c.scalar_in.ensures ∙ ap (λ (b : NameId × Value Sound). scalar_in b.1) (same_default c.args.names.now c.loop-i.i c.index-names-i-in-loop-i.result c.index-names-i.result (omega arith)))
    c.in_ok-bind.ensures.bound
