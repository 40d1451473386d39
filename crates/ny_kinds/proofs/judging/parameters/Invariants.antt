use Rattle.std.proofs.Common.{◌≡◌, ◌++◌, drop}
use Rattle.std.specs.Prelude.{zip}
use Rattle.ny_kinds.specs.Kinds.{some_kinds}
use Rattle.ny_kinds.proofs.judging.parameters.Given as goal

abbrev pub invariant-loop-i : goal.invariant-loop-i
invariant-loop-i l = l.all ++ zip (drop l.i l.params) (some_kinds (drop l.i l.kinds)) ≡ zip l.params (some_kinds l.kinds)
