use Rattle.ny_laws.proofs.OfText.{text_of}
use Rattle.ny_match.proofs.AskedLemmas.{keeps_made}
use Rattle.ny_match.proofs.reveals.keep_law.Goals as goal

pub returns : goal.returns
returns c = record { made = keeps_made c.args.program.now c.order_law.ensures.ordered (text_of c.args.program.now c.text_law.ensures.accepted) }
