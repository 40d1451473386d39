use Rattle.std.proofs.Common.{◌-◌, ◌^◌, All, vec_len}
use Rattle.ny_kinds.specs.Table.{IsRight}
use Rattle.ny_kinds.proofs.resolve.root_kind.Given as goal

abbrev pub invariant-loop-found : goal.invariant-loop-found
invariant-loop-found l = All (IsRight l.ds) l.table.entries.items

abbrev pub decreases-loop-found : goal.decreases-loop-found
decreases-loop-found l = 2 ^ 63 - vec_len l.table.entries
