use Rattle.std.proofs.Common.{◌≡◌, ℕ, ◌+◌, ◌-◌, ◌≤◌, ◌++◌, List, ℤ, length, map, drop}
use Rattle.std.specs.List.{range_with_len}
use Rattle.ny_num.specs.Leaves.{envelope_value}
use Rattle.ny_units.specs.Envelopes.{corners, StandsAt}
use Rattle.ny_units.proofs.envelope.fill_envelope.Given as goal

-- the samples so far and then those that were there, and where the envelope stands
pub record EnvelopeSoFar (ks : List (ℕ × ℤ)) (at from done : ℕ) (first out : List ℤ) : Type 0 where
  pub stands : StandsAt ks at (from + done)
  pub within : done ≤ length first
  pub written : out ≡ map (envelope_value ks) (range_with_len from done) ++ drop done first

abbrev pub invariant-loop-done : goal.invariant-loop-done
invariant-loop-done l = EnvelopeSoFar (corners l.knots) l.at l.from l.done l.initial.out l.out

abbrev pub decreases-loop-done : goal.decreases-loop-done
decreases-loop-done l = length l.initial.out - l.done
