use Rattle.std.proofs.Common.{refl}
use Rattle.std.specs.Fmt.{digits}
use Rattle.ny_report.specs.Lines.{pull_line_of}
use Rattle.ny_report.proofs.rows.pull_lines.Goals as goal

pub returns-clause-plain : goal.returns-clause-plain
unfolding pull_line_of digits
returns-clause-plain c = refl

pub returns-clause-one : goal.returns-clause-one
unfolding pull_line_of digits
returns-clause-one c = refl

pub returns-clause-none : goal.returns-clause-none
unfolding pull_line_of digits
returns-clause-none c = refl

pub returns-clause-ends : goal.returns-clause-ends
unfolding pull_line_of digits
returns-clause-ends c = refl

pub returns-clause-every : goal.returns-clause-every
unfolding pull_line_of digits
returns-clause-every c = refl
