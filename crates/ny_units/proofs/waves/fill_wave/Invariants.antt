use Rattle.std.proofs.Common.{◌≡◌, ℕ, ◌+◌, ◌*◌, ◌%◌, ◌^◌, ◌<◌, List, ℤ, pos, slice_index_or}
use Rattle.ny_num.specs.Leaves.{wave_value}
use Rattle.ny_units.proofs.waves.fill_wave.Given as goal

-- the samples so far, and the phase of the next
pub record WaveSoFar (entries inc from now k : ℕ) (out : List ℤ) : Type 0 where
  pub phase : now ≡ (from + k) * inc % 2 ^ 32
  pub done : (i : ℕ) → i < k → slice_index_or out i (pos 0) ≡ wave_value entries inc (from + i)

abbrev pub invariant-loop-k : goal.invariant-loop-k
invariant-loop-k g l = WaveSoFar g.row.N l.inc l.from l.phase l.k l.out
