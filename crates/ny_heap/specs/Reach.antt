-- Which units can be reached from the sounds in callers' hands, and what holds of each heap between two calls.
use Rattle.std.specs.Prelude.{◌≡◌, ℕ, zero, suc, ◌+◌, ◌<◌, ◌≤◌, false, [], None, Some, IsSome, slice_get, slice_index_or, length, sum}
use Rattle.ny_heap.specs.Heap.{Reader, Captured, Waiting, Node, HeapState, node_at, block_at, input_at, is_open, blocks_of, taken_after, computed_of, first_kept}

-- ---- readers

-- an input of u reads v
pub record Reads {B : Type 0} (h : HeapState B) (u v : ℕ) : Type 0 where
  pub unit : Node B
  pub there : node_at h u ≡ Some unit
  pub place : ℕ
  pub reader : Reader
  pub input : input_at unit place ≡ Some reader
  pub of : reader.node ≡ v

-- a waiting part of u has captured v
pub record Holds {B : Type 0} (h : HeapState B) (u v : ℕ) : Type 0 where
  pub unit : Node B
  pub there : node_at h u ≡ Some unit
  pub place : ℕ
  pub part : Waiting B
  pub waits : slice_get unit.waiting place ≡ Some part
  pub position : ℕ
  pub captured : Captured
  pub one : slice_get part.captured position ≡ Some captured
  pub of : captured.node ≡ Some v

pub data Uses {B : Type 0} (h : HeapState B) (u v : ℕ) : Type 0 where
  Read : Reads h u v → Uses h u v
  Hold : Holds h u v → Uses h u v

-- a sound in a caller's hands reads v
pub record ReadOutside {B : Type 0} (h : HeapState B) (v : ℕ) : Type 0 where
  pub unit : Node B
  pub there : node_at h v ≡ Some unit
  pub some : 0 < sum unit.outside

-- from u to v in n steps, each from a unit to one that it uses
abbrev pub LeadsIn : {B : Type 0} → HeapState B → ℕ → ℕ → ℕ → Type 0
LeadsIn h zero u v = u ≡ v
LeadsIn h (suc n) u v = (w : ℕ) × Uses h u w × LeadsIn h n w v

abbrev pub LeadsTo : {B : Type 0} → HeapState B → ℕ → ℕ → Type 0
LeadsTo h u v = (n : ℕ) × LeadsIn h n u v

-- some sound in a caller's hands leads to v
abbrev pub IsReachable : {B : Type 0} → HeapState B → ℕ → Type 0
IsReachable h v = (u : ℕ) × ReadOutside h u × LeadsTo h u v

-- ---- between two calls

-- what holds of each unit and its list
pub record NodeLaws {B : Type 0} (h : HeapState B) (v : ℕ) (x : Node B) : Type 0 where
  pub reached : IsReachable h v
  pub some : 0 < x.timing.len
  pub filled : x.filled ≤ blocks_of h.block x.timing.len
  pub marks : length x.outside ≡ x.filled + 1
  -- a block is there exactly from the least reader's on
  pub kept : (j : ℕ) → first_kept h v x ≤ j → j < x.filled → IsSome (block_at h v j)
  pub given_back : (j : ℕ) → j < first_kept h v x → block_at h v j ≡ None
  pub unfilled : (j : ℕ) → x.filled ≤ j → block_at h v j ≡ None
  -- once its last block is filled it reads nothing and waits for nothing
  pub reads_nothing : is_open h.block x ≡ false → (i : ℕ) → input_at x i ≡ None
  pub waits_for_nothing : is_open h.block x ≡ false → (x.waiting ≡ []) × (x.pending ≡ 0)

-- what holds of a unit's input, and of the unit that it reads
pub record ReaderLaws {B : Type 0} (h : HeapState B) (x : Node B) (r : Reader) (y : Node B) : Type 0 where
  pub sees : r.timing.len ≤ y.timing.len
  -- it stands at the unit's need, has not passed all that it sees, and passed what is computed
  pub at_need : r.place ≡ taken_after h.block x.kind x.timing r.timing x.filled
  pub more : r.place < r.timing.len
  pub computed : r.place ≤ computed_of h.block y

pub record HeapLaws {B : Type 0} (h : HeapState B) : Type 0 where
  pub positive : 0 < h.block
  pub nodes : (v : ℕ) (x : Node B) → node_at h v ≡ Some x → NodeLaws h v x
  -- a number without a unit has no list, and so no block
  pub no_list : (v : ℕ) → node_at h v ≡ None → slice_index_or h.blocks v [] ≡ []
  -- what is used is there
  pub finds : (u v : ℕ) → Uses h u v → IsSome (node_at h v)
  pub readers : (u i : ℕ) (x y : Node B) (r : Reader) → node_at h u ≡ Some x → input_at x i ≡ Some r → node_at h r.node ≡ Some y → ReaderLaws h x r y
  -- the units stand in an order in which each uses lower ones, so none leads to itself
  pub rank : ℕ → ℕ
  pub bound : ℕ
  pub below : (u : ℕ) (x : Node B) → node_at h u ≡ Some x → rank u < bound
  pub falls : (u v : ℕ) → Uses h u v → rank v < rank u

-- ---- removal

pub record SameSize {B : Type 0} (old new : HeapState B) : Type 0 where
  pub pool : new.pool ≡ old.pool
  pub block : new.block ≡ old.block

-- what is left of the units is as it was, and no other was reachable
pub record IsTrimmed {B : Type 0} (old new : HeapState B) : Type 0 where
  pub size : SameSize old new
  pub fills : new.fills ≡ old.fills
  pub peak : new.peak ≡ old.peak
  pub kept : (v : ℕ) (y : Node B) → node_at new v ≡ Some y → node_at old v ≡ Some y
  pub gone : (v : ℕ) (x : Node B) → node_at old v ≡ Some x → node_at new v ≡ None → IsReachable old v → ⊥
