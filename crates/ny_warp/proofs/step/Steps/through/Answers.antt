use Rattle.std.proofs.Common.{◌-◌, arith, ◌∙◌}
use Rattle.ny_warp.proofs.StepLists.{through-take_less}
use Rattle.ny_warp.proofs.step.Steps.through.Goals as goal

pub loop-i-preserved : goal.loop-i-preserved
loop-i-preserved c = record {
  within = omega arith;
  rest =
      through-take_less c.steps-steps.result.now c.loop-i.i (c.loop-i.i - 1) c.index-steps-i.result c.loop-i.at c.value-at.result
      (omega arith) (omega arith) c.index-steps-i.is c.value-at.ensures
      ∙ c.loop-i.invariant.rest;
}
