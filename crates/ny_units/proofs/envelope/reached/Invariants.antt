use Rattle.std.proofs.Common.{◌-◌, length}
use Rattle.ny_units.specs.Envelopes.{corners, StandsAt}
use Rattle.ny_units.proofs.envelope.reached.Given as goal

abbrev pub invariant-loop-at : goal.invariant-loop-at
invariant-loop-at l = StandsAt (corners l.knots) l.at l.n

abbrev pub decreases-loop-at : goal.decreases-loop-at
decreases-loop-at l = length l.knots - l.at
