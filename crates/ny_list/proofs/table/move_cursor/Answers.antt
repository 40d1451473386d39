use Rattle.std.proofs.Common.{ap, is_some}
use Rattle.ny_list.proofs.MoveLemmas.{stands_after, few_after, moved}
use Rattle.ny_list.proofs.table.move_cursor.Goals as goal

pub enter-near-requires-clause-table : goal.enter-near-requires-clause-table
enter-near-requires-clause-table c = c.leave.ensures.changes.table

pub enter-near-requires-clause-can : goal.enter-near-requires-clause-can
enter-near-requires-clause-can c = stands_after c.args.table.now c.leave.new.table c.args.list c.args.from c.args.to c.leave.ensures c.requires.to

pub enter-near-requires-clause-few : goal.enter-near-requires-clause-few
enter-near-requires-clause-few c = few_after c.args.table.now c.leave.new.table c.args.list c.args.from c.requires.table c.leave.ensures

pub settle-requires-clause-table : goal.settle-requires-clause-table
settle-requires-clause-table c = c.enter-near.ensures.changes.table

pub settle-requires-clause-there : goal.settle-requires-clause-there
settle-requires-clause-there c = ap is_some c.enter-near.ensures.changes.after

pub returns : goal.returns
returns c = moved c.args.table.now c.leave.new.table c.enter-near.new.table c.settle.new.table c.args.list c.args.from c.args.to c.leave.ensures c.enter-near.ensures c.settle.ensures
