use Rattle.std.proofs.Common.{◌≡◌, ◌≤◌, ◌+◌, drop, map, length}
use Rattle.ny_syntax.specs.Sizes.{total}
use Rattle.ny_resolve.specs.Sizes.{declared_size}
use Rattle.ny_check.specs.Writing.{write_declared}
use Rattle.ny_check.proofs.write.write_declared.Given as goal

abbrev pub invariant-loop-d : goal.invariant-loop-d
invariant-loop-d l = record {
  written : write_declared (drop l.d-index l.ds) l.draft ≡ write_declared l.ds l.fn.draft;
  counted : length l.draft.table.nodes + total (map declared_size (drop l.d-index l.ds)) ≤ length l.fn.draft.table.nodes + total (map declared_size l.ds);
}
