use Rattle.std.proofs.Common.{◌≡◌, ℕ, ◌-◌, ◌<◌, ◌≤◌, List, None, length}
use Rattle.ny_mix.specs.declared.part.Part.{Part}
use Rattle.ny_mix.specs.Mixes.{cursor_at}
use Rattle.ny_mix.proofs.adding.over_after.Given as goal

-- the parts so far have no cursor
pub record OverSoFar (parts : List Part) (end : ℕ) : Type 0 where
  pub inside : end ≤ length parts
  pub gone : (i : ℕ) → i < end → cursor_at parts i ≡ None

abbrev pub invariant-loop-end : goal.invariant-loop-end
invariant-loop-end l = OverSoFar l.parts l.end

abbrev pub decreases-loop-end : goal.decreases-loop-end
decreases-loop-end l = length l.parts - l.end
