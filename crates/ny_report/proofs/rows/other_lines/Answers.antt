use Rattle.std.proofs.Common.{refl}
use Rattle.std.specs.Fmt.{digits}
use Rattle.ny_report.specs.Lines.{peak_line_of, sum_lines_of}
use Rattle.ny_report.proofs.rows.other_lines.Goals as goal

pub returns-clause-peak : goal.returns-clause-peak
unfolding peak_line_of digits
returns-clause-peak c = refl

pub returns-clause-none_live : goal.returns-clause-none_live
unfolding peak_line_of digits
returns-clause-none_live c = refl

pub returns-clause-sums : goal.returns-clause-sums
unfolding sum_lines_of digits
returns-clause-sums c = refl
