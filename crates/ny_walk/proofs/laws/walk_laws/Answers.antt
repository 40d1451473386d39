use Rattle.std.proofs.Common.{inl, inr}
use Rattle.ny_walk.proofs.PartsLemmas.{evaluates_parts}
use Rattle.ny_walk.proofs.PlaysLemmas.{plays_parts}
use Rattle.ny_walk.proofs.TurnLemmas.{walked, stopped, walked_heard, stopped_heard, stopped_full, none_waits, never_out, ends_only}
use Rattle.ny_walk.proofs.laws.walk_laws.Goals as goal

pub returns-clause-walks : goal.returns-clause-walks
returns-clause-walks c = λ code n old new u us walk ordered free tall is left there laws settled ranked. walked code n old new u us ordered free tall is left there laws settled ranked walk

pub returns-clause-stops : goal.returns-clause-stops
returns-clause-stops c = λ code n old new u us walk ordered free tall is left there laws settled ranked. stopped code n old new u us ordered free tall is left there laws settled ranked walk

pub returns-clause-makes : goal.returns-clause-makes
returns-clause-makes c = λ code n e env names old new s t ordered inside all. evaluates_parts code ordered n e env names old new s t inside all

pub returns-clause-plays_makes : goal.returns-clause-plays_makes
returns-clause-plays_makes c = λ code n e env names old new ss t ordered inside all. plays_parts code ordered n e env names old new ss t inside all

pub returns-clause-full : goal.returns-clause-full
returns-clause-full c = λ code n old new u us walk. stopped_full code n old new u us walk

pub returns-clause-quiet : goal.returns-clause-quiet
returns-clause-quiet c = λ code n old new u us walk none. none_waits code n old new u us walk none

pub returns-clause-enough : goal.returns-clause-enough
returns-clause-enough c = λ code n old last u us walk none. never_out code n old last u us walk none

pub returns-clause-heard : goal.returns-clause-heard
returns-clause-heard c = λ code n old new u us walk ordered free tall is left there laws settled ranked. elim walk [
  | inl ends ↦ walked_heard code n old new u us ordered free tall is left there laws settled ranked ends
  | inr stops ↦ stopped_heard code n old new u us ordered free tall is left there laws settled ranked stops
]

pub returns-clause-only : goal.returns-clause-only
returns-clause-only c = λ code n m old new stop u us ws none ends stops. ends_only code n m old new stop u us ws none ends stops
