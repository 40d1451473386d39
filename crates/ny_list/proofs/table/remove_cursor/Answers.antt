use Rattle.std.proofs.Common.{ap, is_some}
use Rattle.ny_list.proofs.MoveLemmas.{dropped}
use Rattle.ny_list.proofs.table.remove_cursor.Goals as goal

pub settle-requires-clause-table : goal.settle-requires-clause-table
settle-requires-clause-table c = c.leave.ensures.changes.table

pub settle-requires-clause-there : goal.settle-requires-clause-there
settle-requires-clause-there c = ap is_some c.leave.ensures.changes.after

pub returns : goal.returns
returns c = dropped c.args.table.now c.leave.new.table c.settle.new.table c.args.list c.args.from c.leave.ensures c.settle.ensures
