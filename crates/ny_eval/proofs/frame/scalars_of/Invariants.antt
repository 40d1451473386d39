use Rattle.std.proofs.Common.{◌≡◌, take}
use Rattle.ny_check.specs.Values.{scalars_of}
use Rattle.ny_eval.proofs.frame.scalars_of.Given as goal

abbrev pub invariant-loop-i : goal.invariant-loop-i
invariant-loop-i l = l.scalars ≡ scalars_of (take l.i l.names)
