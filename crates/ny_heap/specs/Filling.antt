-- How a unit fills a block. No public clause cites this module.
use Rattle.std.specs.Prelude.{◌≡◌, ◌≢◌, ◌⊎◌, ℕ, ◌+◌, ◌-◌, ◌<◌, ◌≤◌, ◌&&◌, nat_lt, if◌then◌else◌, IsTrue, slice_set, List, [], length, Option, None, Some, slice_index_or, ℤ, pos}
use Rattle.ny_list.specs.Store.{ListState, CursorState, list_at}
use Rattle.ny_list.specs.Steps.{settled, filled_with, with_list}
use Rattle.ny_list.specs.Laws.{StoreLaws}
use Rattle.ny_units.specs.Inputs.{IsReader}
use Rattle.ny_heap.specs.declared.table.Unit.{Unit as UnitData}
use Rattle.ny_heap.specs.declared.table.Table.{Table}
use Rattle.ny_heap.specs.declared.settling.Next.{Next}
use Rattle.ny_heap.specs.declared.settling.Next.TheVariants.{Stay, Drop, Pass}
use Rattle.ny_heap.specs.declared.work.Work.{Work}
use Rattle.ny_heap.specs.Heap.{Reader, blocks_of, taken_after}
use Rattle.ny_heap.specs.Work.{kind_of, inputs_in, source_at, cursor_at, memory_in, waits_in, ShowsAll, work_value, MovesOn, Recalls}
use Rattle.ny_heap.specs.Table.{unit_at, timing_at, input_of, mark_in, own_in, IsTable, IsRead, IsThere, KeepsList, computed_in, computed_next_in, is_open_in, lacking_from}
use Rattle.ny_heap.specs.View.{filled_in, IsHeap}

-- ---- the block

-- unit u has a block left to fill, and what it reads is computed far enough for that
pub record CanFill (t : Table) (u : ℕ) : Type 0 where
  pub heap : IsHeap t
  pub there : IsThere t u
  pub opened : IsTrue (is_open_in t u)
  pub computed : lacking_from t there.unit (computed_next_in t u) 0 (inputs_in there.unit.work) ≡ None

-- unit u, which was x, does this work, and nothing else is changed
pub record Reworks (old new : Table) (u : ℕ) (x : UnitData) (work : Work) : Type 0 where
  pub units : new.units.items ≡ slice_set old.units.items u (Some (record x { work = work }))
  pub store : new.store ≡ old.store
  pub block : new.block ≡ old.block

-- the samples of unit u's next block are computed, at the front of `out`. Its work has moved on
pub record Computes (old new : Table) (u : ℕ) (out : List ℤ) : Type 0 where
  pub unit : UnitData
  pub was : unit_at old u ≡ Some unit
  pub work : Work
  pub moves : MovesOn unit.work work (computed_next_in old u)
  pub recalls : (whole : ℕ → List ℤ) → ShowsAll old.store whole → Recalls unit.work work whole (computed_in old u) (computed_next_in old u - computed_in old u)
  pub samples : (whole : ℕ → List ℤ) → ShowsAll old.store whole → (k : ℕ) → k < computed_next_in old u - computed_in old u → slice_index_or out k (pos 0) ≡ work_value unit.work whole (computed_in old u) (computed_in old u + k)
  pub reworks : Reworks old new u unit work

-- list u has one block more, with these samples
pub record Appends (old new : Table) (u : ℕ) (samples : List ℤ) : Type 0 where
  pub list : ListState
  pub was : list_at old.store u ≡ Some list
  pub store : new.store ≡ with_list old.store u (Some (settled (filled_with old.store.block samples list)))
  pub laws : StoreLaws new.store
  pub units : new.units.items ≡ old.units.items
  pub block : new.block ≡ old.block

-- ---- what its inputs have passed

-- an input of a unit that has so many blocks: at the unit's need, or none where it has passed all that it sees, or the unit has filled its
-- last block
abbrev pub moved_in : ℕ → UnitData → ℕ → Option Reader → Option Reader
moved_in block x filled None = None
moved_in block x filled (Some r) =
    if nat_lt filled (blocks_of block x.timing.len) && nat_lt (taken_after block (kind_of x.work) x.timing r.timing filled) r.timing.len
    then Some (record r { place = taken_after block (kind_of x.work) x.timing r.timing filled })
    else None

-- input i, which reads nothing, or is dropped, or passes so many samples
abbrev pub IsNextOf : Table → ℕ → ℕ → UnitData → Next → Type 0
IsNextOf t u i x Stay = cursor_at x.work i ≡ None
IsNextOf t u i x Drop = (c : CursorState) × (cursor_at x.work i ≡ Some c) × (moved_in t.block x (filled_in t.store u) (input_of x i) ≡ None)
IsNextOf t u i x (Pass n) = (c : CursorState) × (cursor_at x.work i ≡ Some c) × (moved_in t.block x (filled_in t.store u) (input_of x i) ≡ Some (record { node = c.list; place = c.place + n; timing = timing_at x i }))

-- input i of unit u is there
pub record HasInput (t : Table) (u i : ℕ) : Type 0 where
  pub unit : UnitData
  pub there : unit_at t u ≡ Some unit
  pub inside : i < inputs_in unit.work

-- unit u has one block more than its inputs know of, from input i on: these stand at its need before, and what it needs now is computed
pub record Settling (t : Table) (u i : ℕ) : Type 0 where
  pub table : IsTable t []
  pub read : IsRead t
  pub unit : UnitData
  pub there : unit_at t u ≡ Some unit
  pub before : ℕ
  pub filled : filled_in t.store u ≡ before + 1
  pub places : (k : ℕ) (c : CursorState) → i ≤ k → k < length unit.inputs.items → cursor_at unit.work k ≡ Some c → c.place ≡ taken_after t.block (kind_of unit.work) unit.timing (timing_at unit k) before
  pub computed : (k : ℕ) (c : CursorState) → i ≤ k → k < length unit.inputs.items → cursor_at unit.work k ≡ Some c → taken_after t.block (kind_of unit.work) unit.timing (timing_at unit k) (before + 1) ≤ computed_in t c.list

-- the inputs of unit u from `from` to before `to` moved on to its need, or were dropped, and what only they read is gone. Once it has filled
-- its last block what its parts that wait keep may be dropped too
pub record Settles (old new : Table) (u from to : ℕ) : Type 0 where
  pub was : UnitData
  pub there : unit_at old u ≡ Some was
  pub now : UnitData
  pub after : unit_at new u ≡ Some now
  pub is : now ≡ record was { work = now.work }
  pub kind : kind_of now.work ≡ kind_of was.work
  pub memory : memory_in now.work ≡ memory_in was.work
  pub inside : (k : ℕ) → from ≤ k → k < to → k < length was.inputs.items → input_of now k ≡ moved_in old.block was (filled_in old.store u) (input_of was k)
  pub outside : (k : ℕ) → (k < from) ⊎ (to ≤ k) → k < length was.inputs.items → cursor_at now.work k ≡ cursor_at was.work k
  pub sources : (k : ℕ) → k < length was.inputs.items → IsReader (source_at now.work k) → IsReader (source_at was.work k)
  pub waits : (waits_in now.work ≡ waits_in was.work) ⊎ (blocks_of old.block was.timing.len ≤ filled_in old.store u)
  pub block : new.block ≡ old.block
  pub pool : length new.store.loose ≡ length old.store.loose
  pub slots : length new.units.items ≡ length old.units.items
  -- all other units that are left are as they were, and of their lists at most some blocks were given back
  pub others : (w : ℕ) (y : UnitData) → w ≢ u → unit_at new w ≡ Some y → unit_at old w ≡ Some y
  pub lists : (w : ℕ) (l : ListState) → list_at new.store w ≡ Some l → (k : ListState) × (list_at old.store w ≡ Some k) × KeepsList k l
  -- who else reads what is left reads it still
  pub marks : (w j : ℕ) (l : ListState) → list_at new.store w ≡ Some l → mark_in new.store w j + own_in old w j ≡ mark_in old.store w j + own_in new w j
  -- nobody else read what is gone
  pub gone : (w j : ℕ) (k : ListState) → list_at old.store w ≡ Some k → list_at new.store w ≡ None → mark_in old.store w j ≡ own_in old w j

-- ---- both

-- unit u has filled its last block, and of what its parts that wait keep some was dropped since
pub record Forgetting (start now : Table) (u : ℕ) : Type 0 where
  pub table : IsTable now []
  pub read : IsRead now
  pub settles : Settles start now u 0 0
  pub filled : (x : UnitData) → unit_at start u ≡ Some x → blocks_of start.block x.timing.len ≤ filled_in start.store u

-- what the parts of unit u that wait keep: what they kept, until it has filled its last block
abbrev pub WaitsStill : Table → Table → ℕ → Type 0
WaitsStill old new u =
    (x y : UnitData) → unit_at old u ≡ Some x → unit_at new u ≡ Some y → waits_in y.work ≡ (if nat_lt (filled_in old.store u) (blocks_of old.block x.timing.len) then waits_in x.work else [])

-- unit u has one block more, of these samples, and its inputs moved on to what it needs then
pub record FillsBlock (old new : Table) (u : ℕ) (out : List ℤ) : Type 0 where
  pub computed : Table
  pub computes : Computes old computed u out
  pub longer : Table
  pub appends : Appends computed longer u out
  pub settles : Settles longer new u 0 (inputs_in computes.work)
  pub waits : waits_in settles.now.work ≡ (if nat_lt (filled_in old.store u + 1) (blocks_of old.block computes.unit.timing.len) then waits_in computes.unit.work else [])
  pub table : IsTable new []
  pub read : IsRead new
