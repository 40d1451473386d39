-- How a unit is made. No public clause cites this module.
use Rattle.std.specs.Prelude.{◌≡◌, ℕ, ◌+◌, ◌<◌, ◌≤◌, ◌^◌, List, [], ◌++◌, map, All, length, replicate, slice_set, slice_index_or, vec_capacity, Vec, Option, None, Some, Result, Ok, Err}
use Rattle.std.specs.Global.{Global}
use Rattle.std.specs.Option.{ForSome}
use Rattle.std.specs.declared.alloc.AllocError.{AllocError}
use Rattle.ny_num.specs.declared.timing.Timing.{Timing}
use Rattle.ny_list.specs.Store.{CursorState, list_at, spare_of}
use Rattle.ny_list.specs.Steps.{begun, with_list}
use Rattle.ny_list.specs.Laws.{StoreLaws}
use Rattle.ny_heap.specs.declared.sound.Sound.{Sound}
use Rattle.ny_heap.specs.declared.table.Unit.{Unit as UnitData}
use Rattle.ny_heap.specs.declared.table.Table.{Table}
use Rattle.ny_heap.specs.declared.work.Work.{Work}
use Rattle.ny_heap.specs.Heap.{Kind}
use Rattle.ny_heap.specs.Steps.{first_memory}
use Rattle.ny_heap.specs.Work.{kind_of, inputs_in, source_at, memory_in, waits_in, flat, cursors_of_sounds, HasPlaces, HasGiven}
use Rattle.ny_heap.specs.Tasks.{ReadsSound, HasSides, BeginsAt, BringsFrom, Hears}
use Rattle.ny_heap.specs.Table.{Drops, ShowsFirst}

-- some places more, with nothing in them
abbrev pub More : {A : Type 0} → List (Option A) → List (Option A) → Type 0
More old new = (more : ℕ) × (new ≡ old ++ replicate more None)

-- there are some places more for units and for lists, and all else is as it was
pub record Grows (old new : Table) : Type 0 where
  pub units : More old.units.items new.units.items
  pub lists : More old.store.lists new.store.lists
  pub store : new.store ≡ record old.store { lists = new.store.lists }
  pub laws : StoreLaws new.store
  pub block : new.block ≡ old.block

-- one more list can be made, and there is a place for its unit
pub record HasRoom (t : Table) : Type 0 where
  pub list : 0 < spare_of t.store
  pub unit : length t.store.lists ≤ length t.units.items

-- ---- a unit more

-- list n is new, and its unit, which does this work and is heard so, as are its inputs
pub record Places (old new : Table) (n : ℕ) (work : Work) (timing : Timing) (inputs : Vec Timing Global) : Type 0 where
  pub unit : UnitData
  pub does : unit.work ≡ work
  pub heard : unit.timing ≡ timing
  pub reads : unit.inputs ≡ inputs
  pub pending : unit.pending ≡ 0
  pub end : unit.list ≡ n
  pub place : n < length old.units.items
  pub within : n < length old.store.lists
  pub vacant : list_at old.store n ≡ None
  pub units : new.units.items ≡ slice_set old.units.items n (Some unit)
  pub store : new.store ≡ with_list old.store n (Some (begun timing.len 0))
  pub laws : StoreLaws new.store
  pub block : new.block ≡ old.block

-- a cursor at the beginning of list n, of which it sees so much
abbrev pub first_cursor : ℕ → ℕ → CursorState
first_cursor n len = record { list = n; place = 0; visible = len; tag = 0 }

-- unit n, which is x, is new, has given nothing, and reads these sounds. Its parts that wait keep such
pub record Adds (old new : Table) (n : ℕ) (x : UnitData) (sounds : List Sound) (kept : List (List Sound)) : Type 0 where
  pub place : n < length old.units.items
  pub within : n < length old.store.lists
  pub vacant : list_at old.store n ≡ None
  pub units : new.units.items ≡ slice_set old.units.items n (Some x)
  pub store : new.store ≡ with_list old.store n (Some (begun x.timing.len 0))
  pub laws : StoreLaws new.store
  pub block : new.block ≡ old.block
  pub end : x.list ≡ n
  pub some : 0 < x.timing.len
  pub early : x.timing.start + x.timing.len < 2 ^ 32
  pub inputs : x.inputs.items ≡ map (λ (s : Sound). s.timing) sounds
  pub count : length sounds ≡ inputs_in x.work
  pub sides : HasSides x.work
  pub begins : BeginsAt x.work x.timing
  pub brings : BringsFrom x.work x.inputs.items
  pub hears : Hears x.work x.timing x.inputs.items
  pub memory : memory_in x.work ≡ first_memory (kind_of x.work) sounds
  pub given : HasGiven x.work x.timing.len 0
  pub waits : waits_in x.work ≡ kept
  pub pending : x.pending ≡ 0
  pub places : HasPlaces x.work x.pending
  pub timings : length x.inputs.items + length (waits_in x.work) + x.pending ≤ vec_capacity x.inputs
  pub sources : (i : ℕ) (s : Sound) → i < length sounds → s ≡ slice_index_or sounds i s → ReadsSound (source_at x.work i) s

-- each is at the beginning of its list, of which it shows no more than there is: so of each of these sounds that has a sample; the others are of length 0
abbrev pub ShowFirst : Table → List Sound → Type 0
ShowFirst t sounds = All (λ s. ForSome s.reader (ShowsFirst t s) × (s.reader ≡ None → s.timing.len ≡ 0)) sounds

-- ---- what comes of making one

-- these sounds are spent, with those that parts were to keep, and no unit is made. There may be more places
pub record Loses (old new : Table) (sounds : List Sound) (waits : List (List Sound)) : Type 0 where
  pub grown : Table
  pub grows : Grows old grown
  pub drops : Drops grown new (cursors_of_sounds (sounds ++ flat waits)) []

-- a unit of this kind over these sounds is made, in which parts wait that keep such, and this cursor stands at the beginning of its list
pub record Gains (old new : Table) (kind : Kind) (timing : Timing) (sounds : List Sound) (waits : List (List Sound)) (c : CursorState) : Type 0 where
  pub grown : Table
  pub grows : Grows old grown
  pub number : ℕ
  pub unit : UnitData
  pub does : kind_of unit.work ≡ kind
  pub heard : unit.timing ≡ timing
  pub adds : Adds grown new number unit sounds waits
  pub cursor : c ≡ first_cursor number timing.len

-- a unit is made where it has a sample, and memory is there
abbrev pub IsMade : Table → Table → Kind → Timing → List Sound → List (List Sound) → Result (Option CursorState) AllocError → Type 0
IsMade old new kind timing sounds waits (Err e) = Loses old new sounds waits
IsMade old new kind timing sounds waits (Ok None) = (timing.len ≡ 0) × Loses old new sounds waits
IsMade old new kind timing sounds waits (Ok (Some c)) = (0 < timing.len) × Gains old new kind timing sounds waits c
