use Rattle.std.proofs.Common.{◌≡◌, ◌++◌, drop, None}
use Rattle.ny_check.specs.Writing.{points_from}
use Rattle.ny_check.proofs.form.points_of.Given as goal

abbrev pub invariant-loop-v : goal.invariant-loop-v
invariant-loop-v l = l.points.items ++ points_from l.waiting (drop l.v-index l.literals) ≡ points_from None l.literals
