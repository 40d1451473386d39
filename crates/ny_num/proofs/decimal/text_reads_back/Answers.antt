use Rattle.ny_num.proofs.DecimalText.{decimal_text-run}
use Rattle.ny_num.proofs.decimal.text_reads_back.Goals as goal

pub returns-clause-bytes : goal.returns-clause-bytes
returns-clause-bytes c = decimal_text-run
