use Rattle.std.proofs.Common.{◌≡◌, ◌++◌}
use Rattle.std.specs.Iterator.Adapters.{zip_first, zip_second}
use Rattle.std.specs.Slice.Iter.{iter_rest}
use Rattle.ny_report.specs.Lines.{kind_parts}
use Rattle.ny_report.proofs.KindsLeft.{kinds_left}
use Rattle.ny_report.proofs.pull.push_kinds.Given as goal

-- the line so far, with the kinds that are still to be told, is the whole
abbrev pub invariant-loop-name : goal.invariant-loop-name
invariant-loop-name l =
    l.line.items ++ kinds_left (iter_rest (zip_first l.name-iterator)) (iter_rest (zip_second l.name-iterator))
    ≡ l.fn.line.items ++ kind_parts l.fn.counts
