use Rattle.ny_trace.specs.Evaluates.{Evaluates}
use Rattle.ny_trace.proofs.EvaluationLemmas.{evaluates_lawful}
use Rattle.ny_trace.proofs.RisingEvaluationLemmas.{evaluates_rising}
use Rattle.ny_trace.proofs.SettlingLemmas.{evaluates_settling}
use Rattle.ny_trace.proofs.RevealHandLemmas.{revealed}
use Rattle.ny_trace.proofs.RevealLemmas.{reveal_later}
use Rattle.ny_trace.proofs.RisingRevealLemmas.{revealed_stands}
use Rattle.ny_trace.proofs.SettlingRevealLemmas.{revealed_settled}
use Rattle.ny_trace.proofs.ReadyPartLemmas.{part_ready}
use Rattle.ny_trace.proofs.reveals.reveal_laws.Goals as goal

pub returns-clause-revealed : goal.returns-clause-revealed
returns-clause-revealed c = λ code n ordered free old new u turn laws inside. revealed code (Evaluates code n) (evaluates_lawful code ordered free n) old turn.mid u turn.sound turn.part laws inside new turn.attaches

pub returns-clause-means : goal.returns-clause-means
returns-clause-means c = λ code n ordered free old new u turn laws inside w means. reveal_later code (Evaluates code n) (evaluates_lawful code ordered free n) old new u turn laws inside w means

pub returns-clause-rising : goal.returns-clause-rising
returns-clause-rising c = λ code tall n ordered free is old new u turn laws inside rank ranks.
    revealed_stands code (Evaluates code n) (evaluates_lawful code ordered free n) tall (evaluates_rising code ordered free tall is n) old turn.mid u turn.sound turn.part laws inside rank ranks new turn.attaches

pub returns-clause-settling : goal.returns-clause-settling
returns-clause-settling c = λ code n ordered free old new u turn laws inside but here all. revealed_settled code (Evaluates code n) (evaluates_lawful code ordered free n) (evaluates_settling code n) old new u turn laws inside but here all

pub returns-clause-ready : goal.returns-clause-ready
returns-clause-ready c = λ code tall n ordered free is old mid u s turn laws inside rank ranks ends.
    part_ready code (Evaluates code n) (evaluates_lawful code ordered free n) tall (evaluates_rising code ordered free tall is n) old mid u s turn laws inside rank ranks ends
