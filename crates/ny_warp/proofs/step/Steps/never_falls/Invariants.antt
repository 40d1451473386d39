use Rattle.std.proofs.Common.{ℕ, ◌≤◌, drop}
use Rattle.ny_warp.specs.Warp.{through}
use Rattle.ny_warp.proofs.step.Steps.never_falls.Given as goal

abbrev pub invariant-loop-step : goal.invariant-loop-step
invariant-loop-step l = (v w : ℕ) → through (drop l.step-index l.step-items) v ≤ through (drop l.step-index l.step-items) w → through l.step-items v ≤ through l.step-items w
