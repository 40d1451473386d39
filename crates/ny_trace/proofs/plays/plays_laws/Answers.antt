use Rattle.ny_trace.proofs.PlaysLemmas.{plays_lawful}
use Rattle.ny_trace.proofs.PlaysSettlingLemmas.{plays_settling}
use Rattle.ny_trace.proofs.plays.plays_laws.Goals as goal

pub returns-clause-lawful : goal.returns-clause-lawful
returns-clause-lawful c = λ code n ordered free. plays_lawful code ordered free n

pub returns-clause-settling : goal.returns-clause-settling
returns-clause-settling c = λ code n. plays_settling code n
