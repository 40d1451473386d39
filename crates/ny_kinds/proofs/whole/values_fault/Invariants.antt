use Rattle.std.proofs.Common.{◌≡◌, drop, All}
use Rattle.ny_kinds.specs.Table.{IsRight}
use Rattle.ny_kinds.specs.Kinds.{least}
use Rattle.ny_kinds.specs.Whole.{values_fault}
use Rattle.ny_kinds.proofs.whole.values_fault.Given as goal

abbrev pub invariant-loop-i : goal.invariant-loop-i
invariant-loop-i l = record {
  known : All (IsRight l.ds) l.table.entries.items;
  fault : least l.fault (values_fault l.ds l.i (drop l.i l.ds)) ≡ values_fault l.ds 0 l.ds;
}
