-- The status is that of the run, and the engine the one that it left.
use Rattle.ny_process.proofs.ended.exit_code.Goals as goal

pub returns-clause-code : goal.returns-clause-code
returns-clause-code g c = (c.run.result, c.run.new.left, c.code.ensures, c.run.ensures.whole)
