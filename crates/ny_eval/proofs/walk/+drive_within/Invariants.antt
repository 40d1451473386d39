use Rattle.ny_check.specs.Heights.{height_of}
use Rattle.ny_walk.specs.Below.{missing}
use Rattle.ny_eval.proofs.TowerLemmas.{tower}
use Rattle.ny_eval.proofs.DrivenLemmas.{Underway}
use Rattle.ny_eval.proofs.walk.+drive_within.Given as goal

abbrev pub decreases-drive_within : goal.decreases-drive_within
decreases-drive_within l = tower (height_of l.p.now) l.heap.now l.u.0.0

abbrev pub invariant-loop-v : goal.invariant-loop-v
invariant-loop-v l = Underway l.p l.fn.heap l.heap l.u.0.0 l.place

abbrev pub decreases-loop-v : goal.decreases-loop-v
decreases-loop-v l = missing l.heap l.u.0.0
