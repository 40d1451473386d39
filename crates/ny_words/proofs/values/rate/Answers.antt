use Rattle.ny_words.proofs.Rates.{rate_found}
use Rattle.ny_words.proofs.values.rate.Goals as goal

pub returns : goal.returns
returns c = rate_found c.of.result c.args.number c.of.ensures.is c.of.ensures.none
