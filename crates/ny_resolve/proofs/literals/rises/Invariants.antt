use Rattle.std.proofs.Common.{◌≡◌, drop}
use Rattle.ny_resolve.specs.Literals.{rises}
use Rattle.ny_resolve.proofs.literals.rises.Given as goal

abbrev pub invariant-loop-v : goal.invariant-loop-v
invariant-loop-v l = rises l.x l.y (drop l.v-index l.numbers) ≡ rises 0 0 l.numbers
