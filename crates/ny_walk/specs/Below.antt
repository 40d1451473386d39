-- What a walk leaves alone: all that stands higher than some height, what that reads, and what callers read.
use Rattle.std.specs.Prelude.{◌≡◌, ℕ, ◌+◌, ◌-◌, ◌<◌, ◌≤◌, ◌⊎◌, ◌==◌, Option, Some, length, sum, sum_by}
use Rattle.std.specs.Option.{option_map_or}
use Rattle.ny_check.specs.Code.{Code}
use Rattle.ny_heap.specs.Heap.{Reader, Node, HeapState, node_at, taken_after, computed_of}
use Rattle.ny_heap.specs.Means.{Whole, Means}
use Rattle.ny_heap.specs.Reach.{Uses, ReadOutside, HeapLaws}
use Rattle.ny_heap.specs.Steps.{IsSettledUnit}
use Rattle.ny_hands.specs.declared.branch.Branch.{Branch}
use Rattle.ny_hands.specs.Frames.{part_is}
use Rattle.ny_hands.specs.Hands.{marks_at}
use Rattle.ny_trace.specs.Heights.{Ranks}
use Rattle.ny_trace.specs.Settled.{SettledBut}
use Rattle.ny_walk.specs.Parts.{AllPartsOf}
use Rattle.ny_walk.specs.Fits.{Fits}

-- no part of any unit is due, and none is still to be attached
abbrev pub IsSettled : {B : Type 0} → HeapState B → Type 0
IsSettled h = (v : ℕ) (x : Node _) → node_at h v ≡ Some x → IsSettledUnit h.block x

-- so of each unit but u
abbrev pub SettledButOne : {B : Type 0} → ℕ → HeapState B → Type 0
SettledButOne u h = SettledBut (λ v. v == u) h

-- ---- heights

-- u stands lower than `left`, where parts that wait have room
pub record IsRanked (tall : ℕ → ℕ) (h : HeapState Branch) (u left : ℕ) : Type 0 where
  pub rank : ℕ → ℕ
  pub ranks : Ranks tall h rank
  pub within : rank u < left

-- a sound in a caller's hands reads v, or a unit that stands at n or higher uses it
pub record UsedAbove {B : Type 0} (h : HeapState B) (rank : ℕ → ℕ) (n v : ℕ) : Type 0 where
  pub user : ℕ
  pub higher : n ≤ rank user
  pub uses : Uses h user v

abbrev pub IsHeldAbove : {B : Type 0} → HeapState B → (ℕ → ℕ) → ℕ → ℕ → Type 0
IsHeldAbove h rank n v = ReadOutside h v ⊎ UsedAbove h rank n v

-- ---- changes

-- the same unit later
pub record Continues {B : Type 0} (x y : Node B) : Type 0 where
  pub timing : y.timing ≡ x.timing
  pub filled : x.filled ≤ y.filled
  pub outside : sum y.outside ≡ sum x.outside

-- what the lists hold afterwards: those that are held from height n or from outside, what they held
pub record StaysWhole (code : Code) (old new : HeapState Branch) (rank : ℕ → ℕ) (n : ℕ) (w : Whole) : Type 0 where
  pub later : Whole
  pub means : Means (part_is code) new later
  pub extends : (v : ℕ) (x : Node Branch) → node_at old v ≡ Some x → IsHeldAbove old rank n v → later.samples v ≡ w.samples v

-- A change below height n. What stands at n or higher is as it was, what is held from there or from outside is still there, and what is
-- new stands lower. As many sounds in callers' hands stand in each block as before
pub record Below (code : Code) (tall : ℕ → ℕ) (old new : HeapState Branch) (rank : ℕ → ℕ) (n : ℕ) : Type 0 where
  pub later : ℕ → ℕ
  pub ranks : Ranks tall new later
  pub pool : new.pool ≡ old.pool
  pub block : new.block ≡ old.block
  pub same : (v : ℕ) (x : Node Branch) → node_at old v ≡ Some x → n ≤ rank v → (node_at new v ≡ Some x) × (later v ≡ rank v)
  pub held : (v : ℕ) (x : Node Branch) → node_at old v ≡ Some x → IsHeldAbove old rank n v → (y : Node Branch) × (node_at new v ≡ Some y) × (later v ≡ rank v) × Continues x y
  pub high : (v : ℕ) (y : Node Branch) → node_at new v ≡ Some y → n ≤ later v + 1 → (x : Node Branch) × (node_at old v ≡ Some x) × (later v ≡ rank v)
  pub marks : (v j : ℕ) → marks_at new v j ≡ marks_at old v j
  pub means : (w : Whole) → Means (part_is code) old w → StaysWhole code old new rank n w

-- u has one block more, and all that stands higher is as it was
pub record Drives (code : Code) (tall : ℕ → ℕ) (old new : HeapState Branch) (u : ℕ) (rank : ℕ → ℕ) : Type 0 where
  pub below : Below code tall old new rank (rank u + 1)
  pub more : (x y : Node Branch) → node_at old u ≡ Some x → node_at new u ≡ Some y → y.filled ≡ x.filled + 1

-- what a whole walk leaves
pub record Walked (code : Code) (tall : ℕ → ℕ) (old new : HeapState Branch) (u : ℕ) : Type 0 where
  pub laws : HeapLaws new
  pub settled : IsSettled new
  pub parts : AllPartsOf code old → AllPartsOf code new
  pub fits : Fits code old → Fits code new
  pub drives : (rank : ℕ → ℕ) → Ranks tall old rank → Drives code tall old new u rank

-- what one that stops leaves: u has no block more
pub record Stopped (code : Code) (tall : ℕ → ℕ) (old new : HeapState Branch) (u : ℕ) : Type 0 where
  pub laws : HeapLaws new
  pub settled : IsSettled new
  pub parts : AllPartsOf code old → AllPartsOf code new
  pub fits : Fits code old → Fits code new
  pub below : (rank : ℕ → ℕ) → Ranks tall old rank → Below code tall old new rank (rank u)

-- what a part that is revealed leaves: its unit has one fewer that waits
pub record Revealed (code : Code) (tall : ℕ → ℕ) (old new : HeapState Branch) (u : ℕ) : Type 0 where
  pub laws : HeapLaws new
  pub settled : SettledButOne u old → SettledButOne u new
  pub parts : AllPartsOf code old → AllPartsOf code new
  pub fits : Fits code old → Fits code new
  pub unit : Node Branch
  pub was : node_at old u ≡ Some unit
  pub later : Node Branch
  pub after : node_at new u ≡ Some later
  pub filled : later.filled ≡ unit.filled
  pub pending : later.pending ≡ unit.pending
  pub fewer : length later.waiting < length unit.waiting
  pub below : (rank : ℕ → ℕ) → Ranks tall old rank → Below code tall old new rank (rank u + 1)

-- ---- in the midst of a walk

-- while u's inputs get what they lack
pub record WantsSoFar (code : Code) (tall : ℕ → ℕ) (old new : HeapState Branch) (u left : ℕ) : Type 0 where
  pub laws : HeapLaws new
  pub start : IsRanked tall old u left
  pub settled : IsSettled new
  pub parts : AllPartsOf code old → AllPartsOf code new
  pub fits : Fits code old → Fits code new
  pub ranked : IsRanked tall new u left
  pub same : node_at new u ≡ node_at old u
  pub below : (rank : ℕ → ℕ) → Ranks tall old rank → Below code tall old new rank (rank u)

-- while u's parts are revealed
pub record RevealsSoFar (code : Code) (tall : ℕ → ℕ) (old new : HeapState Branch) (u : ℕ) : Type 0 where
  pub laws : HeapLaws new
  pub settled : SettledButOne u new
  pub parts : AllPartsOf code old → AllPartsOf code new
  pub fits : Fits code old → Fits code new
  pub unit : Node Branch
  pub there : node_at new u ≡ Some unit
  pub pending : unit.pending ≡ 0
  pub drives : (rank : ℕ → ℕ) → Ranks tall old rank → Drives code tall old new u rank

-- how many samples of a list are computed
abbrev pub computed_at : {B : Type 0} → HeapState B → ℕ → ℕ
computed_at h v = option_map_or (computed_of h.block) (node_at h v) 0

-- how many samples an input lacks for the next block of x
abbrev pub lack_of : {B : Type 0} → HeapState B → Node B → Option Reader → ℕ
lack_of h x o = option_map_or (λ r. taken_after h.block x.kind x.timing r.timing (x.filled + 1) - computed_at h r.node) o 0

-- how many samples of its inputs u still lacks for its next block
abbrev pub missing : {B : Type 0} → HeapState B → ℕ → ℕ
missing h u = option_map_or (λ x. sum_by (lack_of h x) x.inputs) (node_at h u) 0

-- how many parts wait at u
abbrev pub waiting_at : {B : Type 0} → HeapState B → ℕ → ℕ
waiting_at h u = option_map_or (λ x. length x.waiting) (node_at h u) 0
