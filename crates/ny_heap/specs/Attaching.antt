-- How a part that waits is handed out, and attached once it is evaluated. No public clause cites this module.
use Rattle.std.specs.Prelude.{◌≡◌, ℕ, ◌+◌, ◌-◌, ◌<◌, nat_lt, Bool, false, List, [], ◌∷◌, ◌++◌, length, slice_set, vec_capacity, Option, Some}
use Rattle.std.specs.Option.{option_map_or}
use Rattle.ny_heap.specs.declared.sound.Sound.{Sound}
use Rattle.ny_heap.specs.declared.table.Unit.{Unit as UnitData}
use Rattle.ny_heap.specs.declared.table.Table.{Table}
use Rattle.ny_heap.specs.declared.work.Work.{Work}
use Rattle.ny_heap.specs.declared.work.Work.TheVariants.{Mix as MixWork}
use Rattle.ny_heap.specs.Work.{waits_in, without_first}
use Rattle.ny_heap.specs.Tasks.{part_of}
use Rattle.ny_heap.specs.Table.{unit_at}

-- a part waits in a place for a unit
abbrev pub has_waits : Option UnitData → Bool
has_waits o = option_map_or (λ x. nat_lt 0 (length (waits_in x.work))) o false

-- a mix has room for one part more
abbrev pub HasRoomIn : Work → Type 0
HasRoomIn (MixWork m) = length m.parts + length m.waiting < m.room
HasRoomIn _ = Unit {0}

-- the work with this sound as one more part, where it is a mix
abbrev pub with_part_in : Work → Sound → Work
with_part_in (MixWork m) s = MixWork (record m { parts = m.parts ++ part_of s ∷ [] })
with_part_in w s = w

-- the first part of unit u that waited is its caller's, with these sounds that it kept, and is still to be attached
pub record TakesPart (old new : Table) (u : ℕ) (kept : List Sound) : Type 0 where
  pub unit : UnitData
  pub was : unit_at old u ≡ Some unit
  pub first : waits_in unit.work ≡ kept ∷ waits_in (without_first unit.work)
  pub units : new.units.items ≡ slice_set old.units.items u (Some (record unit { work = without_first unit.work; pending = unit.pending + 1 }))
  pub store : new.store ≡ old.store
  pub block : new.block ≡ old.block

-- unit u has this sound as one more input, and one part less is to be attached
pub record GetsPart (old new : Table) (u : ℕ) (s : Sound) : Type 0 where
  pub unit : UnitData
  pub was : unit_at old u ≡ Some unit
  pub now : UnitData
  pub is : now ≡ record unit { work = with_part_in unit.work s; inputs = now.inputs; pending = unit.pending - 1 }
  pub inputs : now.inputs.items ≡ unit.inputs.items ++ s.timing ∷ []
  pub capacity : vec_capacity now.inputs ≡ vec_capacity unit.inputs
  pub units : new.units.items ≡ slice_set old.units.items u (Some now)
  pub store : new.store ≡ old.store
  pub block : new.block ≡ old.block
