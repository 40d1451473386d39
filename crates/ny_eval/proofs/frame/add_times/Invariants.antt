use Rattle.std.proofs.Common.{◌≡◌, ◌++◌, take}
use Rattle.ny_trace.specs.Evaluates.{times_in}
use Rattle.ny_eval.proofs.frame.add_times.Given as goal

abbrev pub invariant-loop-i : goal.invariant-loop-i
invariant-loop-i l = l.times.items ≡ l.fn.times.items ++ times_in (take l.i l.names)
