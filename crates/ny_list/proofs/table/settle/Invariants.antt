use Rattle.std.proofs.Common.{ℕ}
use Rattle.ny_list.specs.Table.{GivesTo, entry_at, kept_in}
use Rattle.ny_list.proofs.table.settle.Given as goal

abbrev pub invariant-loop-table : goal.invariant-loop-table
invariant-loop-table l = (n : ℕ) × GivesTo l.initial.table l.table l.list n

abbrev pub decreases-loop-table : goal.decreases-loop-table
decreases-loop-table l = kept_in (entry_at l.table l.list)
