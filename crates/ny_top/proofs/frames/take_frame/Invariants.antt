use Rattle.std.proofs.Common.{◌≡◌, ℕ, ◌<◌, ◌+◌, ◌*◌, pos, slice_index_or}
use Rattle.ny_top.proofs.frames.take_frame.Given as goal

-- the samples so far
abbrev pub invariant-loop-c : goal.invariant-loop-c
invariant-loop-c l = (k : ℕ) → k < l.c → slice_index_or l.frame k (pos 0) ≡ slice_index_or l.samples (k * l.block + l.n) (pos 0)
