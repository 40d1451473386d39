use Rattle.std.proofs.Common.{◌-◌, ◌≡◌, ◌≤◌}
use Rattle.ny_list.specs.Chain.{home_at, nth}
use Rattle.ny_list.proofs.chain.find.Given as goal

abbrev pub invariant-loop-reached : goal.invariant-loop-reached
invariant-loop-reached l = (home_at l.table.links.items l.at ≡ nth l.list l.reached) × (l.reached ≤ l.number)

abbrev pub decreases-loop-reached : goal.decreases-loop-reached
decreases-loop-reached l = l.number - l.reached
