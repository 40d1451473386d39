use Rattle.std.proofs.Common.{length, ◌-◌, ◌+◌}
use Rattle.ny_units.specs.Courses.{place_at}
use Rattle.ny_units.proofs.Resampled.{RunsSoFar}
use Rattle.ny_units.proofs.resample.fill_runs.Given as goal

abbrev pub invariant-loop-done : goal.invariant-loop-done
invariant-loop-done l = RunsSoFar l.course l.reads l.reader l.from l.fn.first l.m l.done l.at l.window l.initial.out l.out

abbrev pub decreases-loop-done : goal.decreases-loop-done
decreases-loop-done l = (length l.initial.out - l.done) + (place_at l.course (l.m + length l.initial.out - 1) + 2 - l.window.next)
