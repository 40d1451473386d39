-- A walk of a heap, and what the plan fills for it.
use Rattle.std.specs.Prelude.{◌≡◌, ℕ, ◌<◌, ◌≤◌, true, List, length, Some, slice_get}
use Rattle.ny_check.specs.Code.{Code}
use Rattle.ny_heap.specs.Heap.{Node, HeapState, node_at}
use Rattle.ny_heap.specs.Reach.{HeapLaws}
use Rattle.ny_hands.specs.declared.branch.Branch.{Branch}
use Rattle.ny_hands.specs.Hands.{marks_at}
use Rattle.ny_plan.specs.Rows.{Input, Row, row_at}
use Rattle.ny_plan.specs.Need.{Filled}
use Rattle.ny_plan.specs.Liveness.{is_channel}
use Rattle.ny_plan.specs.Fills.{Fills}
use Rattle.ny_plan.specs.Demand.{IsEnough}
use Rattle.ny_trace.specs.Heights.{Ranks}
use Rattle.ny_walk.specs.Parts.{AllPartsOf}
use Rattle.ny_walk.specs.Below.{IsSettled}
use Rattle.ny_match.specs.Matched.{Seats, Matched}
use Rattle.ny_match.specs.Roots.{Roots}
use Rattle.ny_match.specs.Counting.{Counts}

-- channels are the rows from this number on, and no row names one
pub record ChannelsFrom (top : ℕ) (rows : List Row) : Type 0 where
  pub names : (x k y : ℕ) (i : Input) → slice_get (row_at rows x).inputs k ≡ Some i → i.sound.row ≡ Some y → y < top
  pub channels : (c : ℕ) → is_channel (row_at rows c).kind ≡ true → top ≤ c

-- between two walks
pub record Rests (code : Code) (rows : List Row) (f : Filled) (h : HeapState Branch) (seats : Seats) : Type 0 where
  pub laws : HeapLaws h
  pub settled : IsSettled h
  pub parts : AllPartsOf code h
  pub matched : Matched code rows f h seats
  pub roots : Roots rows f h seats
  pub size : length f ≡ length rows
  pub enough : IsEnough h.block rows f

-- What a walk leaves that begins at unit u: it filled these rows, and each channel, and each unit that stands higher than u, is the row that it was
pub record WalksAs (code : Code) (tall : ℕ → ℕ) (rows : List Row) (f : Filled) (old new : HeapState Branch) (seats : Seats)
    (u : ℕ) (fills : Fills) : Type 0 where
  pub later : Seats
  pub matched : Matched code rows fills.filled new later
  pub counts : Counts rows f fills.order old new
  pub outside : (v j : ℕ) → 0 < marks_at old v j → later.row v ≡ seats.row v
  pub higher : (rank : ℕ → ℕ) → Ranks tall old rank → (v : ℕ) (x : Node Branch) → node_at old v ≡ Some x → rank u < rank v → later.row v ≡ seats.row v
