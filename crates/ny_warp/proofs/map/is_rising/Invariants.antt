use Rattle.std.proofs.Common.{◌≡◌, ◌≤◌, drop}
use Rattle.ny_num.specs.Grid.{horizon}
use Rattle.ny_warp.specs.Maps.{rises_from, RisesFrom}
use Rattle.ny_warp.proofs.map.is_rising.Given as goal

abbrev pub invariant-loop-point : goal.invariant-loop-point
invariant-loop-point l = record {
  rest : rises_from l.last.x l.last.y (drop l.point-index l.points) ≡ rises_from 0 0 l.points;
  kept : RisesFrom l.last.x l.last.y (drop l.point-index l.points) → RisesFrom 0 0 l.points;
  x_within : l.last.x ≤ horizon;
  y_within : l.last.y ≤ horizon;
}
