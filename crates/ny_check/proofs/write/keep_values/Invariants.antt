use Rattle.std.proofs.Common.{◌≡◌}
use Rattle.ny_check.proofs.write.keep_values.Given as goal

abbrev pub invariant-loop-number : goal.invariant-loop-number
invariant-loop-number l = l.p ≡ l.fn.p
