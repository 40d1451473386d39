-- What an evaluation leaves: the units that it makes are the rows that the plan makes.
use Rattle.std.specs.Prelude.{◌≡◌, ℕ, ◌<◌, ◌≤◌, List, [], ◌∷◌, length, None, Some}
use Rattle.ny_warp.specs.declared.env.Env.{Env}
use Rattle.ny_check.specs.Code.{Code}
use Rattle.ny_heap.specs.declared.sound.Sound.{Sound}
use Rattle.ny_heap.specs.Heap.{Node, HeapState, node_at}
use Rattle.ny_heap.specs.Reach.{HeapLaws}
use Rattle.ny_hands.specs.declared.branch.Branch.{Branch}
use Rattle.ny_hands.specs.Frames as frames
use Rattle.ny_hands.specs.Hands.{AreNamed}
use Rattle.ny_plan.specs.Rows.{RowSound, Row, After}
use Rattle.ny_plan.specs.Need.{Filled}
use Rattle.ny_plan.specs.Plan as plans
use Rattle.ny_plan.specs.Plan.{made}
use Rattle.ny_trace.specs.Evaluates.{Trace}
use Rattle.ny_match.specs.Matched.{IsFirst, Seats, IsSound, AreNames, IsFree, Matched}

-- These sounds in hand are those of the table.
abbrev pub AreSounds : (ℕ → ℕ) → List Sound → List RowSound → Type 0
AreSounds row [] [] = Unit {0}
AreSounds row (s ∷ ss) (r ∷ rs) = IsSound row s r × AreSounds row ss rs
AreSounds row _ _ = ⊥

-- Each unit that was there is the row that it was, and each new one is one of these rows, as are those that its waiting parts will make
pub record Born (code : Code) (all : List Row) (filled : Filled) (old new : HeapState Branch) (seats : Seats) (from upto : ℕ) : Type 0 where
  pub later : Seats
  pub matched : Matched code all filled new later
  pub row : (v : ℕ) (x : Node Branch) → node_at old v ≡ Some x → later.row v ≡ seats.row v
  pub parts : (v : ℕ) (x : Node Branch) → node_at old v ≡ Some x → (later.from v ≡ seats.from v) × (later.upto v ≡ seats.upto v)
  pub fresh : (v : ℕ) (y : Node Branch) → node_at old v ≡ None → node_at new v ≡ Some y → (from ≤ later.row v) × (later.row v < upto)
  pub fresh_parts : (v : ℕ) (y : Node Branch) → node_at old v ≡ None → node_at new v ≡ Some y → (from ≤ later.from v) × (later.upto v ≤ upto)

-- an evaluation makes what the plan makes, of rows that are still free, and gives the plan's sound
abbrev pub IsMatching : Code → Trace → Type 0
IsMatching code D =
    (e : ℕ) (env : Env) (names : frames.Names) (old new : HeapState Branch) (s : Sound) → D e env names old new s →
    e < length code.nodes → HeapLaws old → AreNamed old names →
    (all : List Row) (filled : Filled) (seats : Seats) (given : plans.Names) (rows : List Row) →
    Matched code all filled old seats → AreNames seats.row names given →
    IsFirst (After.rows (made code e env given rows)) all → IsFree filled old seats (length rows) (length (After.rows (made code e env given rows))) →
    (b : Born code all filled old new seats (length rows) (length (After.rows (made code e env given rows)))) ×
    IsSound b.later.row s (After.gives (made code e env given rows))
