use Rattle.std.proofs.Common.{◌≡◌, ◌++◌, drop}
use Rattle.ny_check.specs.Values.{scalars_of}
use Rattle.ny_check.proofs.scalar.scalars.Given as goal

abbrev pub invariant-loop-name : goal.invariant-loop-name
invariant-loop-name g l = l.scalars ++ scalars_of (drop l.name-index l.names) ≡ scalars_of l.names
