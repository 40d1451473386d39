use Rattle.ny_top.proofs.FileLemmas.{still_a_fault}
use Rattle.ny_top.proofs.ends.end_at.Goals as goal

pub returns-clause-failed : goal.returns-clause-failed
returns-clause-failed g c = still_a_fault c.finish.result c.args.status c.finish.ensures.status c.requires.fault
