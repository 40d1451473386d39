use Rattle.ny_laws.proofs.Measured.{measured, weight_within}
use Rattle.ny_laws.proofs.LowHeights.{heights_within, played_height}
use Rattle.ny_laws.proofs.WholeTexts.{nodes_whole}
use Rattle.ny_laws.proofs.measures.measure_law.Goals as goal

pub returns-clause-depth : goal.returns-clause-depth
returns-clause-depth c = (measured c.args.program.now c.order_law.ensures.ordered c.text_law.ensures.accepted).played

pub returns-clause-weight : goal.returns-clause-weight
returns-clause-weight c = weight_within c.args.program.now (measured c.args.program.now c.order_law.ensures.ordered c.text_law.ensures.accepted)

pub returns-clause-text : goal.returns-clause-text
returns-clause-text c = measured c.args.program.now c.order_law.ensures.ordered c.text_law.ensures.accepted

pub returns-clause-heights : goal.returns-clause-heights
returns-clause-heights c =
    heights_within c.args.program.now c.order_law.ensures.ordered (nodes_whole c.args.program.now c.order_law.ensures.ordered c.text_law.ensures.accepted)

pub returns-clause-height : goal.returns-clause-height
returns-clause-height c =
    played_height c.args.program.now c.args.program.now.play.0
    (heights_within c.args.program.now c.order_law.ensures.ordered (nodes_whole c.args.program.now c.order_law.ensures.ordered c.text_law.ensures.accepted)
    c.args.program.now.play.0 c.order_law.ensures.ordered.play)
    (weight_within c.args.program.now (measured c.args.program.now c.order_law.ensures.ordered c.text_law.ensures.accepted))
