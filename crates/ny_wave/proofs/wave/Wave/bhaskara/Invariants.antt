use Rattle.std.proofs.Common.{◌≡◌, ℕ, ◌<◌, pos, length, slice_index_or}
use Rattle.ny_num.specs.Leaves.{wave_entry}
use Rattle.ny_wave.proofs.wave.Wave.bhaskara.Given as goal

-- the entries so far
pub record EntriesSoFar (n k : ℕ) (samples : Rattle.std.proofs.Common.List Rattle.std.proofs.Common.ℤ) : Type 0 where
  pub len : length samples ≡ n
  pub done : (i : ℕ) → i < k → slice_index_or samples i (pos 0) ≡ wave_entry n i

abbrev pub invariant-loop-k : goal.invariant-loop-k
invariant-loop-k g l = EntriesSoFar g.row.N l.k l.samples
