use Rattle.std.proofs.Common.{◌≡◌, take}
use Rattle.ny_timing.specs.Held.{values_of_held}
use Rattle.ny_timing.proofs.names.Names.of.Given as goal

abbrev pub invariant-loop-i : goal.invariant-loop-i
invariant-loop-i l = values_of_held l.scope ≡ take l.i l.names
