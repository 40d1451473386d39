use Rattle.std.proofs.Common.{◌≡◌, take}
use Rattle.ny_eval.specs.Framed.{places_from}
use Rattle.ny_eval.proofs.frame.places_of.Given as goal

abbrev pub invariant-loop-i : goal.invariant-loop-i
invariant-loop-i l = l.places ≡ places_from 0 (take l.i l.names)
