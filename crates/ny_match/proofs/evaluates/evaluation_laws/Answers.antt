use Rattle.ny_match.proofs.KindLemmas.{has_kinds}
use Rattle.ny_match.proofs.OpenLemmas.{opened_matching}
use Rattle.ny_match.proofs.TurnLemmas.{evaluates_match, any_match}
use Rattle.ny_match.proofs.evaluates.evaluation_laws.Goals as goal

pub returns-clause-evaluates : goal.returns-clause-evaluates
returns-clause-evaluates c = λ code n ordered free keeps. evaluates_match code ordered free keeps (λ m. has_kinds code m) n

pub returns-clause-opens : goal.returns-clause-opens
returns-clause-opens c = λ code n rate old mid new ps ss ordered free keeps laws empty plays channels.
    opened_matching code ordered free (any_match code ordered free keeps (λ m. has_kinds code m)) n rate old mid new ps ss laws empty plays channels
