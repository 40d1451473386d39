use Rattle.ny_trace.proofs.EvaluationLemmas.{evaluates_lawful}
use Rattle.ny_trace.proofs.RisingEvaluationLemmas.{evaluates_rising}
use Rattle.ny_trace.proofs.SettlingLemmas.{evaluates_settling}
use Rattle.ny_trace.proofs.laws.trace_laws.Goals as goal

pub returns-clause-lawful : goal.returns-clause-lawful
returns-clause-lawful c = λ code n ordered free. evaluates_lawful code ordered free n

pub returns-clause-rising : goal.returns-clause-rising
returns-clause-rising c = λ code tall n ordered free is. evaluates_rising code ordered free tall is n

pub returns-clause-settling : goal.returns-clause-settling
returns-clause-settling c = λ code n. evaluates_settling code n
