use Rattle.std.proofs.Common.{◌<◌, ◌∙◌, length, arith}
use Rattle.ny_measures.proofs.Depths.{depths_step}
use Rattle.ny_measures.proofs.depth.depths.Goals as goal

pub loop-d-preserved : goal.loop-d-preserved
loop-d-preserved c =
    let within : c.loop-d.d-index < length c.args.ds.now = omega arith in record {
      known =
          depths_step c.args.ds.now c.loop-d.d-index c.d-item.result c.loop-d.known.items c.push.new.self.items c.in_ok-depth.depth within c.d-item.is c.loop-d.invariant.known
          (λ ns h. c.in_ok-depth.ensures.value _ ns c.loop-d.invariant.values (c.as_slice.ensures.value ∙ h)) c.in_ok-push.ensures.items;
      values = c.in_ok-depth.ensures.same ∙ c.loop-d.invariant.values;
    }
