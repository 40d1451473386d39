use Rattle.std.proofs.Common.{◌-◌, length}
use Rattle.ny_heap.specs.Making.{More}
use Rattle.ny_heap.proofs.adding.grow.Given as goal

abbrev pub invariant-loop-units : goal.invariant-loop-units
invariant-loop-units l = More l.fn.units.items l.units.items

abbrev pub decreases-loop-units : goal.decreases-loop-units
decreases-loop-units l = l.places - length l.units.items
