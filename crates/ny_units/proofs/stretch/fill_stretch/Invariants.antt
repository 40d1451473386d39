use Rattle.std.proofs.Common.{length, ◌-◌}
use Rattle.ny_units.proofs.Stretches.{StretchSoFar}
use Rattle.ny_units.proofs.stretch.fill_stretch.Given as goal

abbrev pub invariant-loop-written : goal.invariant-loop-written
invariant-loop-written l = StretchSoFar l.course l.first l.fn.from l.ahead l.written l.at l.window l.initial.out l.out

abbrev pub decreases-loop-written : goal.decreases-loop-written
decreases-loop-written l = length l.initial.out - l.written
