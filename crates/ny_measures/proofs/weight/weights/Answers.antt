use Rattle.std.proofs.Common.{◌<◌, ◌∙◌, length, arith}
use Rattle.ny_measures.proofs.Depths.{weights_step}
use Rattle.ny_measures.proofs.weight.weights.Goals as goal

pub loop-d-preserved : goal.loop-d-preserved
loop-d-preserved c =
    let within : c.loop-d.d-index < length c.args.ds.now = omega arith in
    weights_step c.args.ds.now c.loop-d.d-index c.d-item.result c.loop-d.known.items c.push.new.self.items c.weight-weight.result within c.d-item.is c.loop-d.invariant
    (λ ns h. c.weight-weight.ensures.value ns (c.as_slice.ensures.value ∙ h)) c.in_ok-push.ensures.items
