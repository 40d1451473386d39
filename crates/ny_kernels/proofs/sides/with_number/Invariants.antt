use Rattle.std.proofs.Common.{◌≡◌, ℕ, ◌<◌, pos, slice_index_or}
use Rattle.ny_kernels.proofs.sides.with_number.Given as goal

-- the places so far
abbrev pub invariant-loop-n : goal.invariant-loop-n
invariant-loop-n g l = (k : ℕ) → k < l.n → slice_index_or l.out k (pos 0) ≡ g.O.Operation.gives (slice_index_or l.a k (pos 0)) l.b
