-- What a walk is to who has sounds in hand: each is still there, and what it is to give is the same.
use Rattle.std.specs.Prelude.{◌≡◌, ℕ, ◌<◌, sum, Some}
use Rattle.ny_check.specs.Code.{Code}
use Rattle.ny_heap.specs.declared.sound.Sound.{Sound}
use Rattle.ny_heap.specs.Heap.{Node, HeapState, node_at}
use Rattle.ny_heap.specs.Means.{Whole, Means}
use Rattle.ny_heap.specs.Steps.{IsHeldSound}
use Rattle.ny_hands.specs.declared.branch.Branch.{Branch}
use Rattle.ny_hands.specs.Frames.{part_is}
use Rattle.ny_walk.specs.Below.{Continues}

-- what the lists hold afterwards: those that sounds in hand read, what they held
pub record HeardWhole (code : Code) (old new : HeapState Branch) (w : Whole) : Type 0 where
  pub later : Whole
  pub means : Means (part_is code) new later
  pub extends : (v : ℕ) (x : Node Branch) → node_at old v ≡ Some x → 0 < sum x.outside → later.samples v ≡ w.samples v

pub record StaysHeard (code : Code) (old new : HeapState Branch) : Type 0 where
  pub pool : new.pool ≡ old.pool
  pub block : new.block ≡ old.block
  -- what is read from outside is the same unit later
  pub held : (v : ℕ) (x : Node Branch) → node_at old v ≡ Some x → 0 < sum x.outside → (y : Node Branch) × (node_at new v ≡ Some y) × Continues x y
  -- and no other is read
  pub only : (v : ℕ) (y : Node Branch) → node_at new v ≡ Some y → 0 < sum y.outside → (x : Node Branch) × (node_at old v ≡ Some x) × (sum y.outside ≡ sum x.outside)
  pub sounds : (s : Sound) → IsHeldSound old s → IsHeldSound new s
  pub means : (w : Whole) → Means (part_is code) old w → HeardWhole code old new w
