use Rattle.ny_kinds.proofs.RefusalLaws.{told, none_told}
use Rattle.ny_kinds.proofs.laws.refusal_laws.Goals as goal

pub returns : goal.returns
returns c = record { told = told; none = none_told }
