use Rattle.ny_syntax.proofs.SizesInTokens.{size-text, declared-size}
use Rattle.ny_syntax.proofs.laws.size_laws.Goals as goal

pub returns-clause-few : goal.returns-clause-few
returns-clause-few c = size-text

pub returns-clause-declared : goal.returns-clause-declared
returns-clause-declared c = declared-size
