-- How the heap keeps its units and their lists. No public clause cites this module.
use Rattle.std.specs.Prelude.{◌≡◌, ℕ, zero, suc, ◌+◌, ◌-◌, ◌*◌, ◌^◌, ◌<◌, ◌≤◌, ◌==◌, ◌&&◌, if◌then◌else◌, min, nat_lt, Bool, false, slice_set, List, ◌++◌, map, length, Option, None, Some, IsSome, is_some, count_by, sum_by, slice_index_or, slice_get, vec_capacity, ℤ}
use Rattle.std.specs.List.{range_with_len}
use Rattle.std.specs.Option.{option_map_or, option_map}
use Rattle.ny_num.specs.declared.timing.Timing.{Timing}
use Rattle.ny_num.specs.Sound.{IsTiming}
use Rattle.ny_list.specs.Store.{ListState, StoreState, CursorState, list_at, cursors_of}
use Rattle.ny_list.specs.Steps.{with_list}
use Rattle.ny_list.specs.Laws.{StoreLaws}
use Rattle.ny_units.specs.Inputs.{start_of}
use Rattle.ny_heap.specs.declared.table.Unit.{Unit as UnitData}
use Rattle.ny_heap.specs.declared.table.Table.{Table}
use Rattle.ny_heap.specs.declared.work.Work.{Work}
use Rattle.ny_heap.specs.declared.sound.Sound.{Sound}
use Rattle.ny_heap.specs.Heap.{Reader, blocks_of, stands_in, is_reader}
use Rattle.ny_heap.specs.Work.{inputs_in, source_at, cursor_at, need_in, HasGiven, waits_in, kept_in, cursors_of_sounds, HasPlaces}
use Rattle.ny_heap.specs.Tasks.{HasSides, BeginsAt, BringsFrom, Hears}

abbrev pub unit_at : Table → ℕ → Option UnitData
unit_at t v = slice_index_or t.units.items v None

-- when input i of a unit is heard
abbrev pub timing_at : UnitData → ℕ → Timing
timing_at x i = slice_index_or x.inputs.items i x.timing

-- where input i of a unit reads, as the heap's contracts see it
abbrev pub input_of : UnitData → ℕ → Option Reader
input_of x i = option_map (λ c. record { node = c.list; place = c.place; timing = timing_at x i }) (cursor_at x.work i)

abbrev pub readers_of : UnitData → List (Option Reader)
readers_of x = map (input_of x) (range_with_len 0 (length x.inputs.items))

-- ---- how many cursors stand in a block

-- all that list v has in block j
abbrev pub mark_in : StoreState → ℕ → ℕ → ℕ
mark_in s v j = option_map_or (λ l. slice_index_or l.marks j 0) (list_at s v) 0

-- the length of list v
abbrev pub len_of : StoreState → ℕ → ℕ
len_of s v = option_map_or (λ l. l.len) (list_at s v) 0

-- those among some cursors in hand
abbrev pub stands_at : ℕ → ℕ → ℕ → ℕ → Option CursorState → ℕ
stands_at block len v j None = 0
stands_at block len v j (Some c) = if (c.list == v) && (stands_in block len c.place == j) then 1 else 0

-- those of a unit: of what it reads, and of what its parts that wait keep
abbrev pub own_of : ℕ → ℕ → ℕ → ℕ → UnitData → ℕ
own_of block len v j x = sum_by (is_reader block len v j) (readers_of x) + sum_by (stands_at block len v j) (cursors_of_sounds (kept_in x.work))

-- those of all units
abbrev pub own_in : Table → ℕ → ℕ → ℕ
own_in t v j = sum_by (λ o. option_map_or (own_of t.block (len_of t.store v) v j) o 0) t.units.items

abbrev pub held_in : Table → List (Option CursorState) → ℕ → ℕ → ℕ
held_in t cs v j = sum_by (stands_at t.block (len_of t.store v) v j) cs

-- the cursors of work, from input i on, and those that its parts that wait keep
abbrev pub rest_of : Work → ℕ → List (Option CursorState)
rest_of w i = map (cursor_at w) (range_with_len i (inputs_in w - i)) ++ cursors_of_sounds (kept_in w)

-- ---- what holds of units

-- what holds of unit v, which is x, and its list
pub record IsUnit (t : Table) (v : ℕ) (x : UnitData) (l : ListState) : Type 0 where
  pub end : x.list ≡ v
  pub len : l.len ≡ x.timing.len
  pub some : 0 < x.timing.len
  pub early : x.timing.start + x.timing.len < 2 ^ 32
  pub count : length x.inputs.items ≡ inputs_in x.work
  pub sides : HasSides x.work
  pub begins : BeginsAt x.work x.timing
  pub brings : BringsFrom x.work x.inputs.items
  pub hears : Hears x.work x.timing x.inputs.items
  pub given : HasGiven x.work x.timing.len (min (length l.values * t.block) x.timing.len)
  -- parts that wait, or that were handed out, can be attached
  pub places : HasPlaces x.work x.pending
  pub timings : length x.inputs.items + length (waits_in x.work) + x.pending ≤ vec_capacity x.inputs

-- what holds of the cursor of input i of x, which reads this list
pub record IsInput (t : Table) (x : UnitData) (i : ℕ) (c : CursorState) (l : ListState) : Type 0 where
  pub starts : start_of (source_at x.work i) ≡ (timing_at x i).start
  pub sees : c.visible ≡ (timing_at x i).len
  pub visible : c.visible ≤ l.len
  pub computed : c.place ≤ min (length l.values * t.block) l.len

-- a sound at the beginning of its list, of which it shows no more than there is
pub record ShowsFirst (t : Table) (s : Sound) (c : CursorState) : Type 0 where
  pub begins : c.place ≡ 0
  pub some : 0 < s.timing.len
  pub visible : s.timing.len ≤ len_of t.store c.list

-- a sound that a part keeps: it is at the beginning of a list that is there, or has no sample
pub record IsKept (t : Table) (s : Sound) : Type 0 where
  pub bounds : IsTiming s.timing
  pub none : s.reader ≡ None → s.timing.len ≡ 0
  pub some : (c : CursorState) → s.reader ≡ Some c → IsSome (list_at t.store c.list) × ShowsFirst t s c

-- also in the midst of a call, where these cursors are in hand: they and those of the units are counted. Each list is a
-- unit's, each input's list is there, and the units stand in an order in which each reads lower ones
pub record IsTable (t : Table) (cs : List (Option CursorState)) : Type 0 where
  pub store : StoreLaws t.store
  pub block : t.store.block ≡ t.block
  pub loose : count_by is_some t.store.loose ≡ 0
  pub units : (v : ℕ) (x : UnitData) → unit_at t v ≡ Some x → (l : ListState) × (list_at t.store v ≡ Some l) × IsUnit t v x l
  pub lists : (v : ℕ) → IsSome (list_at t.store v) → IsSome (unit_at t v)
  pub inputs : (v i : ℕ) (x : UnitData) (k : ListState) (c : CursorState) → unit_at t v ≡ Some x → list_at t.store v ≡ Some k → i < length x.inputs.items → cursor_at x.work i ≡ Some c → (l : ListState) × (list_at t.store c.list ≡ Some l) × IsInput t x i c l
  pub kept : (v i : ℕ) (x : UnitData) (s : Sound) → unit_at t v ≡ Some x → slice_get (kept_in x.work) i ≡ Some s → IsKept t s
  pub held : (i : ℕ) (c : CursorState) → slice_index_or cs i None ≡ Some c → IsSome (list_at t.store c.list)
  pub counted : (v j : ℕ) (l : ListState) → list_at t.store v ≡ Some l → own_in t v j + held_in t cs v j ≤ mark_in t.store v j
  pub rank : ℕ → ℕ
  pub bound : ℕ
  pub below : (v : ℕ) (x : UnitData) → unit_at t v ≡ Some x → rank v < bound
  pub falls : (v i : ℕ) (x : UnitData) (c : CursorState) → unit_at t v ≡ Some x → i < length x.inputs.items → cursor_at x.work i ≡ Some c → rank c.list < rank v
  pub keeps_lower : (v i : ℕ) (x : UnitData) (s : Sound) (c : CursorState) → unit_at t v ≡ Some x → slice_get (kept_in x.work) i ≡ Some s → s.reader ≡ Some c → rank c.list < rank v

-- ---- removal

-- of list w at most some blocks were given back
pub record KeepsList (old new : ListState) : Type 0 where
  pub len : new.len ≡ old.len
  pub filled : length new.values ≡ length old.values
  pub kept : (j : ℕ) (samples : List ℤ) → slice_index_or new.values j None ≡ Some samples → slice_index_or old.values j None ≡ Some samples

-- the number of units
abbrev pub present : Table → ℕ
present t = count_by is_some t.units.items

-- somebody reads each list
abbrev pub IsRead : Table → Type 0
IsRead t = (v : ℕ) (l : ListState) → list_at t.store v ≡ Some l → 0 < cursors_of l

-- cursors `spent` were spent, and with them the units that nobody reads any more. What these read and is not yet spent is
-- in hand
pub record Drops (old new : Table) (spent left : List (Option CursorState)) : Type 0 where
  pub table : (cs : List (Option CursorState)) → IsTable old (spent ++ cs) → IsTable new (left ++ cs)
  pub read : IsRead old → IsRead new
  pub fewer : present new ≤ present old
  pub block : new.block ≡ old.block
  pub pool : length new.store.loose ≡ length old.store.loose
  pub slots : length new.units.items ≡ length old.units.items
  pub kept : (w : ℕ) (y : UnitData) → unit_at new w ≡ Some y → unit_at old w ≡ Some y
  pub lists : (w : ℕ) (l : ListState) → list_at new.store w ≡ Some l → (k : ListState) × (list_at old.store w ≡ Some k) × KeepsList k l
  -- who else reads what is left reads it still
  pub others : (w j : ℕ) (l : ListState) → list_at new.store w ≡ Some l → mark_in new.store w j + (own_in old w j + held_in old spent w j) ≡ mark_in old.store w j + (own_in new w j + held_in new left w j)
  -- nobody else read what is gone
  pub gone : (w j : ℕ) (k : ListState) → list_at old.store w ≡ Some k → list_at new.store w ≡ None → mark_in old.store w j ≡ own_in old w j + held_in old spent w j

-- unit v, which nobody reads, is gone, and its list
pub record Removes (old new : Table) (v : ℕ) (work : Work) : Type 0 where
  pub was : UnitData
  pub there : unit_at old v ≡ Some was
  pub does : was.work ≡ work
  pub units : new.units.items ≡ slice_set old.units.items v None
  pub store : new.store ≡ with_list old.store v None
  pub laws : StoreLaws new.store
  pub block : new.block ≡ old.block

-- unit v is there, with its list
pub record IsThere (t : Table) (v : ℕ) : Type 0 where
  pub unit : UnitData
  pub there : unit_at t v ≡ Some unit
  pub list : ListState
  pub listed : list_at t.store v ≡ Some list
  pub end : unit.list ≡ v
  pub len : list.len ≡ unit.timing.len

-- how many samples of list v are computed, and how many once its next block is
abbrev pub computed_in : Table → ℕ → ℕ
computed_in t v = option_map_or (λ l. min (length l.values * t.block) l.len) (list_at t.store v) 0

abbrev pub computed_next_in : Table → ℕ → ℕ
computed_next_in t v = option_map_or (λ l. min ((length l.values + 1) * t.block) l.len) (list_at t.store v) 0

-- a block of list v is not filled
abbrev pub is_open_in : Table → ℕ → Bool
is_open_in t v = option_map_or (λ l. nat_lt (length l.values) (blocks_of t.block l.len)) (list_at t.store v) false

-- ---- what a unit wants

abbrev pub or_else : Option ℕ → Option ℕ → Option ℕ
or_else None p = p
or_else (Some n) p = Some n

-- whether what an input reads is computed less far than its unit needs that is to have `done` samples
abbrev pub lacks_in : Table → UnitData → ℕ → Option CursorState → ℕ → Option ℕ
lacks_in t x done None i = None
lacks_in t x done (Some c) i = if nat_lt (computed_in t c.list) (need_in x.work i done) then Some c.list else None

-- the list of the first of n inputs, from input i on, that lacks
abbrev pub lacking_from : Table → UnitData → ℕ → ℕ → ℕ → Option ℕ
lacking_from t x done i zero = None
lacking_from t x done i (suc n) = or_else (lacks_in t x done (cursor_at x.work i) i) (lacking_from t x done (i + 1) n)

-- no input before place n lacks
abbrev pub NoneBefore : Table → UnitData → ℕ → ℕ → Type 0
NoneBefore t x done n = (k : ℕ) → k < n → k < inputs_in x.work → lacks_in t x done (cursor_at x.work k) k ≡ None
