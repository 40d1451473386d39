use Rattle.std.proofs.Common.{◌≡◌, ℕ, ◌+◌, ◌<◌, pos, slice_index_or}
use Rattle.ny_units.specs.Lines.{line_value, IsRisen}
use Rattle.ny_units.specs.declared.line.Risen.{Risen}
use Rattle.ny_units.proofs.line.fill_line.Given as goal

-- the places so far, and how far the line has risen at the next
pub record LineSoFar (level rise : Rattle.std.proofs.Common.ℤ) (width place : ℕ) (here : Risen) (k : ℕ) (out : Rattle.std.proofs.Common.List Rattle.std.proofs.Common.ℤ) : Type 0 where
  pub risen : IsRisen rise width (place + k) here
  pub done : (i : ℕ) → i < k → slice_index_or out i (pos 0) ≡ line_value level rise width (place + i)

abbrev pub invariant-loop-k : goal.invariant-loop-k
invariant-loop-k l = LineSoFar l.level l.rise l.width l.place l.here l.k l.out
