-- Mixes: parts that are heard together, each from its own start on, and parts that wait.
use Rattle.std.specs.Prelude.{◌≡◌, ℕ, ◌+◌, ◌-◌, ◌*◌, ◌<◌, ◌≤◌, ◌==◌, ◌^◌, nat_lt, if◌then◌else◌, Bool, List, [], length, map, take, Option, None, Some, slice_index_or, slice_set, ℤ}
use Rattle.std.specs.Option.{option_map_or}
use Rattle.ny_list.specs.Store.{StoreState, CursorState}
use Rattle.ny_list.specs.Reading.{Shows}
use Rattle.ny_num.specs.Grid.{index_at}
use Rattle.ny_num.specs.Sound.{Sound}
use Rattle.ny_num.specs.declared.rate.Rate.{Rate}
use Rattle.ny_num.specs.declared.timing.Timing.{Timing}
use Rattle.ny_units.specs.Inputs.{taken_by, CanHear}
use Rattle.ny_mix.specs.declared.part.Part.{Part}

-- when a mix is heard, its parts in order, and what its waiting parts are evaluated from, also in order. There is room for so many
-- of both together
pub record MixState (B : Type 0) : Type 0 where
  pub timing : Timing
  pub parts : List Part
  pub waiting : List B
  pub room : ℕ

-- a part that is heard nowhere
abbrev pub no_part : Part
no_part = record { start = 0; stop = 0; cursor = None }

abbrev pub part_at : List Part → ℕ → Part
part_at parts i = slice_index_or parts i no_part

-- the cursor of a part: none where it had no sample, or the cursor was taken
abbrev pub cursor_at : List Part → ℕ → Option CursorState
cursor_at parts i = (part_at parts i).cursor

-- with this cursor of part i, or none
abbrev pub with_cursor : List Part → ℕ → Option CursorState → List Part
with_cursor parts i c = slice_set parts i (record (part_at parts i) { cursor = c })

-- ---- waiting parts

-- the stop of the part that came last
abbrev pub last_stop : List Part → ℕ
last_stop parts = (part_at parts (length parts - 1)).stop

-- how many samples after its start a mix needs the next part: at the index of the stop of the part before, and at once where
-- there is none
abbrev pub offset_of : {B : Type 0} → MixState B → ℕ
offset_of m = if length m.parts == 0 then 0 else index_at (last_stop m.parts) m.timing.rate - m.timing.start

-- the next part is needed in the block after so many
abbrev pub is_due : {B : Type 0} → MixState B → ℕ → ℕ → Bool
is_due m filled block = nat_lt (offset_of m) ((filled + 1) * block)

-- ---- samples

-- a part as a sound, where the lists have these samples: what its cursor sees of its list, and nothing without one
abbrev pub part_sound : Rate → (ℕ → List ℤ) → Part → Sound
part_sound r whole p =
    record { rate = r; start = p.start; stop = p.stop; samples = option_map_or (λ c. take c.visible (whole c.list)) p.cursor [] }

-- so of all parts
abbrev pub sounds_of : Rate → (ℕ → List ℤ) → List Part → List Sound
sounds_of r whole parts = map (part_sound r whole) parts

-- what is kept of each part's list is what these samples have there
abbrev pub ShowsParts : StoreState → List Part → (ℕ → List ℤ) → Type 0
ShowsParts s parts whole = (i : ℕ) (c : CursorState) → i < length parts → cursor_at parts i ≡ Some c → Shows s c.list (whole c.list)

-- each part with a cursor can be read from index `from` to index `end`
abbrev pub CanReadParts : StoreState → List Part → ℕ → ℕ → Type 0
CanReadParts s parts from end = (i : ℕ) (c : CursorState) → i < length parts → cursor_at parts i ≡ Some c → CanHear s c (part_at parts i).start from end

-- how many samples a mix that begins at an index has taken of part i once it has `done` samples
abbrev pub need_of : ℕ → List Part → ℕ → ℕ → ℕ
need_of begins parts i done = option_map_or (λ c. taken_by begins (part_at parts i).start c.visible done) (cursor_at parts i) 0

-- ---- what a mix keeps

-- there is memory for as many parts as there is room for, and the first `over` parts have no cursor
pub record IsMix (parts : List Part) (waiting room capacity over : ℕ) : Type 0 where
  pub within : length parts + waiting ≤ room
  pub small : room < 2 ^ 32
  pub memory : room ≤ capacity
  pub inside : over ≤ length parts
  pub gone : (i : ℕ) → i < over → cursor_at parts i ≡ None
