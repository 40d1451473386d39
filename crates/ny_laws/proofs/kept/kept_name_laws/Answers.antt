use Rattle.ny_laws.proofs.KeptNames.{keeps_free, repeats_keep_free, have_free}
use Rattle.ny_laws.proofs.OfText.{text_of}
use Rattle.ny_laws.proofs.KeptOnly.{keeps_only_used}
use Rattle.ny_laws.proofs.kept.kept_name_laws.Goals as goal

pub returns-clause-sequences : goal.returns-clause-sequences
returns-clause-sequences c = keeps_free c.args.program.now c.order_law.ensures.ordered (text_of c.args.program.now c.text_law.ensures.accepted)

pub returns-clause-repeats : goal.returns-clause-repeats
returns-clause-repeats c = repeats_keep_free c.args.program.now c.order_law.ensures.ordered (text_of c.args.program.now c.text_law.ensures.accepted)

pub returns-clause-all : goal.returns-clause-all
returns-clause-all c = have_free c.args.program.now c.order_law.ensures.ordered (text_of c.args.program.now c.text_law.ensures.accepted)

pub returns-clause-only : goal.returns-clause-only
returns-clause-only c = keeps_only_used c.args.program.now c.text_law.ensures.accepted
