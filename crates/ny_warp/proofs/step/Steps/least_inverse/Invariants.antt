use Rattle.std.proofs.Common.{ℕ, ◌<◌, ◌≤◌, drop}
use Rattle.ny_num.specs.Grid.{horizon}
use Rattle.ny_warp.specs.Warp.{through}
use Rattle.ny_warp.proofs.step.Steps.least_inverse.Given as goal

abbrev pub invariant-loop-step : goal.invariant-loop-step
invariant-loop-step l = record {
  within : l.least ≤ horizon;
  reaches : (v : ℕ) → v ≤ horizon → l.least ≤ through (drop l.step-index l.step-items) v → l.fn.t ≤ through l.step-items v;
  before : (v : ℕ) → v ≤ horizon → through (drop l.step-index l.step-items) v < l.least → through l.step-items v < l.fn.t;
}
