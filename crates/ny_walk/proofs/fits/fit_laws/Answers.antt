use Rattle.ny_trace.specs.Evaluates.{Evaluates}
use Rattle.ny_walk.proofs.ToldLemmas.{evaluates_told}
use Rattle.ny_walk.proofs.FitLemmas.{evaluates_fit}
use Rattle.ny_walk.proofs.PlaysLemmas.{plays_fit}
use Rattle.ny_walk.proofs.FitRevealLemmas.{fill_fits, part_ends}
use Rattle.ny_walk.proofs.TurnLemmas.{part_turn_fits}
use Rattle.ny_walk.proofs.fits.fit_laws.Goals as goal

pub returns-clause-told : goal.returns-clause-told
returns-clause-told c = λ code n e env names old new s t ordered inside. evaluates_told code ordered n e env names old new s t inside

pub returns-clause-evaluates : goal.returns-clause-evaluates
returns-clause-evaluates c = λ code n e env names old new s t ordered free inside all. evaluates_fit code ordered free n e env names old new s t inside all

pub returns-clause-plays : goal.returns-clause-plays
returns-clause-plays c = λ code n e env names old new ss t ordered free inside all. plays_fit code ordered free n e env names old new ss t inside all

pub returns-clause-fills : goal.returns-clause-fills
returns-clause-fills c = λ code old new u turn all. fill_fits code old new u turn.fills all

pub returns-clause-reveals : goal.returns-clause-reveals
returns-clause-reveals c = λ code old new u part ordered free laws all. part_turn_fits code ordered free old new u laws part all

pub returns-clause-ends : goal.returns-clause-ends
returns-clause-ends c = λ code n old mid u s turn ordered inside all. part_ends code (Evaluates code n) (evaluates_told code ordered n) old mid u s turn inside all
