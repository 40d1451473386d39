use Rattle.std.proofs.Common.{◌≡◌, ℕ, ◌<◌, List, ℤ, pos, slice_index_or}
use Rattle.ny_num.specs.Leaves.{noise_state, noise_value}
use Rattle.ny_units.proofs.noise.fill_noise.Given as goal

-- the samples so far, and the state after them
pub record NoiseSoFar (x now k : ℕ) (out : List ℤ) : Type 0 where
  pub state : now ≡ noise_state x k
  pub done : (i : ℕ) → i < k → slice_index_or out i (pos 0) ≡ noise_value x i

abbrev pub invariant-loop-k : goal.invariant-loop-k
invariant-loop-k l = NoiseSoFar l.x l.state l.k l.out
