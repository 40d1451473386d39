use Rattle.ny_resolve.proofs.AgainLaws.{names_again}
use Rattle.ny_resolve.proofs.laws.name_laws.Goals as goal

pub returns : goal.returns
returns c = record { again = names_again }
