-- What a contract sees of the table. No public clause cites this module.
use Rattle.std.specs.Prelude.{◌≡◌, ℕ, ◌+◌, ◌-◌, ◌*◌, ◌^◌, ◌<◌, ◌≤◌, List, [], ◌∷◌, map, length, Option, None, Some, slice_index_or, ℤ}
use Rattle.std.specs.List.{range_with_len}
use Rattle.std.specs.Option.{option_map, option_map_or}
use Rattle.ny_num.specs.declared.timing.Timing.{Timing}
use Rattle.ny_list.specs.Store.{StoreState, CursorState, list_at}
use Rattle.ny_heap.specs.declared.table.Unit.{Unit as UnitData}
use Rattle.ny_heap.specs.declared.table.Table.{Table}
use Rattle.ny_units.specs.Inputs.{IsReader}
use Rattle.ny_heap.specs.Heap.{Waiting, Node, HeapState, blocks_of, taken_after}
use Rattle.ny_heap.specs.Steps.{captured_of}
use Rattle.ny_heap.specs.declared.sound.Sound.{Sound}
use Rattle.ny_heap.specs.Work.{kind_of, source_at, cursor_at, memory_in, waits_in}
use Rattle.ny_heap.specs.Table.{unit_at, readers_of, mark_in, own_in, held_in, timing_at, IsTable, IsRead}
use Rattle.ny_num.specs.Grid.{index_at}

-- the stop of the last of these
abbrev pub last_stop_in : ℕ → List Timing → ℕ
last_stop_in stop [] = stop
last_stop_in stop (t ∷ ts) = last_stop_in t.stop ts

-- how many samples' blocks of list v are filled
abbrev pub filled_in : StoreState → ℕ → ℕ
filled_in s v = option_map_or (λ l. length l.values) (list_at s v) 0

-- how many others than the units and these cursors stand in block j of list v: sounds in callers' hands
abbrev pub outside_in : Table → List (Option CursorState) → ℕ → ℕ → ℕ
outside_in t cs v j = mark_in t.store v j - (own_in t v j + held_in t cs v j)

-- what the parts that wait are evaluated from, by the number of their unit
abbrev pub branches_of : {B : Type 0} → List (List B) → ℕ → List B
branches_of bss v = slice_index_or bss v []

-- parts that wait: what each is evaluated from, with the sounds that it keeps
abbrev pub waiting_with : {B : Type 0} → List B → List (List Sound) → List (Waiting B)
waiting_with [] kept = []
waiting_with (b ∷ bs) [] = []
waiting_with (b ∷ bs) (ss ∷ kept) = record { branch = b; captured = map captured_of ss } ∷ waiting_with bs kept

-- `branches` has for each unit what its parts that wait are evaluated from
abbrev pub node_of : {B : Type 0} → (ℕ → List B) → Table → List (Option CursorState) → ℕ → UnitData → Node B
node_of branches t cs v x = record {
  kind = kind_of x.work;
  timing = x.timing;
  filled = filled_in t.store v;
  inputs = readers_of x;
  memory = memory_in x.work;
  last_stop = last_stop_in 0 x.inputs.items;
  waiting = waiting_with (branches v) (waits_in x.work);
  pending = x.pending;
  outside = map (outside_in t cs v) (range_with_len 0 (filled_in t.store v + 1));
}

-- what a contract sees where these cursors are in hand
abbrev pub state_with : {B : Type 0} → (ℕ → List B) → Table → List (Option CursorState) → ℕ → ℕ → HeapState B
state_with branches t cs fills peak = record {
  nodes = map (λ v. option_map (node_of branches t cs v) (unit_at t v)) (range_with_len 0 (length t.units.items));
  blocks = map (λ o. option_map_or (λ l. l.values) o []) t.store.lists;
  pool = length t.store.loose;
  block = t.block;
  fills = fills;
  peak = peak;
}

abbrev pub state_of : {B : Type 0} → (ℕ → List B) → Table → ℕ → ℕ → HeapState B
state_of branches t fills peak = state_with branches t [] fills peak

-- each part that waits has something that it is evaluated from
abbrev pub HaveBranches : {B : Type 0} → (ℕ → List B) → Table → Type 0
HaveBranches branches t = (v : ℕ) (x : UnitData) → unit_at t v ≡ Some x → length (waits_in x.work) ≤ length (branches v)

-- a unit that has filled its last block waits for nothing
abbrev pub WaitsForNothing : Table → Type 0
WaitsForNothing t = (v : ℕ) (x : UnitData) → unit_at t v ≡ Some x → blocks_of t.block x.timing.len ≤ filled_in t.store v → (waits_in x.work ≡ []) × (x.pending ≡ 0)

-- each input has something left to read, and its unit a block left to fill
abbrev pub IsClean : Table → Type 0
IsClean t = (v i : ℕ) (x : UnitData) (c : CursorState) → unit_at t v ≡ Some x → i < length x.inputs.items → cursor_at x.work i ≡ Some c → (c.place < c.visible) × (filled_in t.store v < blocks_of t.block x.timing.len)

-- each input stands at its unit's need
abbrev pub IsAtNeed : Table → Type 0
IsAtNeed t = (v i : ℕ) (x : UnitData) (c : CursorState) → unit_at t v ≡ Some x → i < length x.inputs.items → cursor_at x.work i ≡ Some c → c.place ≡ taken_after t.block (kind_of x.work) x.timing (timing_at x i) (filled_in t.store v)

-- an input whose cursor was dropped has nothing more to give: its unit has taken all of it, or has filled its last block
abbrev pub IsExhausted : Table → Type 0
IsExhausted t = (v i : ℕ) (x : UnitData) → unit_at t v ≡ Some x → i < length x.inputs.items → IsReader (source_at x.work i) → cursor_at x.work i ≡ None → filled_in t.store v < blocks_of t.block x.timing.len → (timing_at x i).len ≤ taken_after t.block (kind_of x.work) x.timing (timing_at x i) (filled_in t.store v)

-- a unit in which a part waits, or to which one is still to be attached, is filled no further than to the stop that this part follows
abbrev pub IsTimely : Table → Type 0
IsTimely t = (v : ℕ) (x : UnitData) → unit_at t v ≡ Some x → 0 < length (waits_in x.work) + x.pending → x.timing.start + filled_in t.store v * t.block ≤ index_at (last_stop_in 0 x.inputs.items) x.timing.rate

-- between two calls: somebody reads each list
pub record IsHeap (t : Table) : Type 0 where
  pub table : IsTable t []
  pub read : IsRead t
  pub clean : IsClean t
  pub needs : IsAtNeed t
  pub exhausted : IsExhausted t
  pub waits : WaitsForNothing t
  pub timely : IsTimely t

-- the fields of a heap between two calls
pub record IsHeapInside {B : Type 0} (branches : ℕ → List B) (t : Table) (size fills peak : ℕ) (out : List ℤ) : Type 0 where
  pub heap : IsHeap t
  pub have : HaveBranches branches t
  pub counted : size ≡ length t.store.loose
  pub reached : peak ≤ size
  pub few : fills < 2 ^ 64
  pub whole : length out ≡ t.block
