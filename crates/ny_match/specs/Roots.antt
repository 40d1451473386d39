-- Who reads a heap from outside while a program is played: its channels.
use Rattle.std.specs.Prelude.{◌≡◌, ℕ, ◌<◌, List, slice_index}
use Rattle.ny_heap.specs.Heap.{HeapState}
use Rattle.ny_hands.specs.declared.branch.Branch.{Branch}
use Rattle.ny_hands.specs.Hands.{marks_at}
use Rattle.ny_plan.specs.Rows.{Row, row_at}
use Rattle.ny_plan.specs.Need.{Filled}
use Rattle.ny_plan.specs.StandsFor.{IsRoot}
use Rattle.ny_match.specs.Matched.{Seats}

-- Only an open channel is read from outside, where its next block begins, and each open channel is
pub record Roots (all : List Row) (filled : Filled) (h : HeapState Branch) (seats : Seats) : Type 0 where
  pub outside : (v j : ℕ) → 0 < marks_at h v j → IsRoot h.block (row_at all (seats.row v)) (slice_index filled (seats.row v))
      × (j ≡ slice_index filled (seats.row v))
  pub there : (c : ℕ) → IsRoot h.block (row_at all c) (slice_index filled c) → (v : ℕ) × (0 < marks_at h v (slice_index filled c)) × (seats.row v ≡ c)
