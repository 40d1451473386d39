use Rattle.std.proofs.Common.{◌≡◌, take}
use Rattle.ny_warp.proofs.step.Steps.own.Given as goal

abbrev pub invariant-loop-step : goal.invariant-loop-step
invariant-loop-step l = l.items.items ≡ take l.step-index l.steps
