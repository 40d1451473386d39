use Rattle.std.proofs.Common.{length, ◌-◌}
use Rattle.ny_filters.proofs.Fillings.{FilterSoFar}
use Rattle.ny_filters.proofs.stage.Stage.fill.Given as goal

abbrev pub invariant-loop-done : goal.invariant-loop-done
invariant-loop-done l = FilterSoFar l.reads l.c.list l.from l.done l.initial.self l.self l.initial.out l.out

abbrev pub decreases-loop-done : goal.decreases-loop-done
decreases-loop-done l = length l.initial.out - l.done
