use Rattle.ny_laws.proofs.WholeTexts.{nodes_whole, whole_text}
use Rattle.ny_laws.proofs.accepted.whole_law.Goals as goal

pub returns-clause-nodes : goal.returns-clause-nodes
returns-clause-nodes c = nodes_whole c.args.program.now c.order_law.ensures.ordered c.text_law.ensures.accepted

pub returns-clause-text : goal.returns-clause-text
returns-clause-text c = whole_text c.args.program.now c.text_law.ensures.accepted
