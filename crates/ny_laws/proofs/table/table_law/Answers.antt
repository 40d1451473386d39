use Rattle.ny_laws.proofs.Tables.{is_table}
use Rattle.ny_laws.proofs.table.table_law.Goals as goal

pub returns : goal.returns
returns c = λ ds play channels. is_table ds play channels
