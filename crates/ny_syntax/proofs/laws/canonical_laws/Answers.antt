use Rattle.ny_syntax.proofs.RoundTrip.{canonical_height-limit, canonical-has_tree, canonical_text-same, canonical-fewest}
use Rattle.ny_syntax.proofs.SpelledTokens.{canonical-spelled}
use Rattle.ny_syntax.proofs.laws.canonical_laws.Goals as goal

pub returns-clause-within : goal.returns-clause-within
returns-clause-within c = canonical_height-limit

pub returns-clause-again : goal.returns-clause-again
returns-clause-again c = canonical-has_tree

pub returns-clause-one_text : goal.returns-clause-one_text
returns-clause-one_text c = canonical_text-same

pub returns-clause-fewest : goal.returns-clause-fewest
returns-clause-fewest c = canonical-fewest

pub returns-clause-spelled : goal.returns-clause-spelled
returns-clause-spelled c = canonical-spelled
