use Rattle.std.proofs.Common.{subst}
use Rattle.ny_units.specs.Playing.{IsLeaf}
use Rattle.ny_units.proofs.Corners.{stands_first}
use Rattle.ny_units.proofs.Noises.{state_first}
use Rattle.ny_units.proofs.voice.Voice.of.Goals as goal

pub returns-in-Noise-clause-begins : goal.returns-in-Noise-clause-begins
returns-in-Noise-clause-begins c = state_first c.in-Noise.x

pub returns-in-Pwl-clause-begins : goal.returns-in-Pwl-clause-begins
returns-in-Pwl-clause-begins c =
    let is = subst IsLeaf c.in-Pwl.is c.requires in
    stands_first c.in-Pwl.knots.items is.0 is.1
