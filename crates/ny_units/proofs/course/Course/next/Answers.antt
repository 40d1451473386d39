use Rattle.std.proofs.Common.{arith}
use Rattle.ny_units.proofs.Positions.{next_kept, next_carried}
use Rattle.ny_units.proofs.course.Course.next.Goals as goal

pub returns-then-part-self-clause-position : goal.returns-then-part-self-clause-position
returns-then-part-self-clause-position c = next_kept c.args.self.now c.args.at c.requires.course c.requires.position (omega arith)

pub returns-else-part-self-clause-position : goal.returns-else-part-self-clause-position
returns-else-part-self-clause-position c = next_carried c.args.self.now c.args.at c.requires.course c.requires.position (omega arith)
