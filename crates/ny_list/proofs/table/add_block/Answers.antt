use Rattle.std.proofs.Common.{ap, is_some}
use Rattle.ny_list.proofs.MoveLemmas.{added}
use Rattle.ny_list.proofs.table.add_block.Goals as goal

pub settle-requires-clause-table : goal.settle-requires-clause-table
settle-requires-clause-table c = let a = c.append.ensures c.requires.can.samples c.requires.can.holds in a.2.table

pub settle-requires-clause-there : goal.settle-requires-clause-there
settle-requires-clause-there c = let a = c.append.ensures c.requires.can.samples c.requires.can.holds in ap is_some a.2.after

pub returns : goal.returns
returns c = λ samples holds. let a = c.append.ensures samples holds in added c.args.table.now c.append.new.table c.settle.new.table c.args.list c.args.b samples a.0 a.1 a.2 c.settle.ensures
