use Rattle.std.proofs.Common.{ℕ, length}
use Rattle.ny_kinds.specs.Table.{AreBefore}
use Rattle.ny_kinds.proofs.resolve.put_off.Given as goal

abbrev pub invariant-loop-function : goal.invariant-loop-function
invariant-loop-function l = (n : ℕ) → AreBefore n l.fn.stack → AreBefore n l.fn.functions → (AreBefore n l.stack) × (AreBefore n l.rest)

abbrev pub decreases-loop-function : goal.decreases-loop-function
decreases-loop-function l = length l.rest
