use Rattle.std.proofs.Common.{◌≡◌, take, ◌≤◌, length}
use Rattle.ny_warp.specs.Warp.{through}
use Rattle.ny_warp.proofs.step.Steps.through.Given as goal

abbrev pub invariant-loop-i : goal.invariant-loop-i
invariant-loop-i l = record {
  within : l.i ≤ length l.steps;
  rest : through (take l.i l.steps) l.at ≡ through l.steps l.fn.x;
}
