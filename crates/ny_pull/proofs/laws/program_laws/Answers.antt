use Rattle.ny_eval.proofs.ProgramLemmas.{keeps_free}
use Rattle.ny_pull.proofs.laws.program_laws.Goals as goal

pub returns-clause-free : goal.returns-clause-free
returns-clause-free c = keeps_free c.args.program.now c.kept_name_laws.ensures.sequences c.kept_name_laws.ensures.repeats
