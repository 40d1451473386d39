-- What units read of their inputs.
use Rattle.std.specs.Prelude.{◌≡◌, ℕ, ◌+◌, ◌-◌, ◌<◌, ◌≤◌, ◌==◌, min, nat_le, if◌then◌else◌, List, length, take, Option, None, Some, slice_index_or, ℤ, pos}
use Rattle.std.specs.Option.{option_map_or}
use Rattle.ny_list.specs.Store.{StoreState, CursorState, mark_at}
use Rattle.ny_list.specs.Steps.{IsComputed}
use Rattle.ny_list.specs.Reading.{Shows}
use Rattle.ny_units.specs.declared.input.Input.{Input}
use Rattle.ny_units.specs.declared.input.Input.TheVariants.{List as Heard, Number as Fixed}
use Rattle.ny_units.specs.declared.input.Source.{Source}
use Rattle.ny_units.specs.declared.input.Source.TheVariants.{Reader, Number}
use Rattle.ny_units.specs.declared.input.Piece.{Piece}
use Rattle.ny_units.specs.declared.input.Piece.TheVariants.{Samples, Same}

-- an input of which nothing was taken
abbrev pub source_of : Input → Source
source_of (Heard cursor start) = Reader (Some cursor) start
source_of (Fixed value) = Number value

-- the index where an input begins
abbrev pub start_of : Source → ℕ
start_of (Reader cursor start) = start
start_of (Number value) = 0

-- the cursor of an input: none where it is a number, or its cursor was taken
abbrev pub reader_of : Source → Option CursorState
reader_of (Reader cursor start) = cursor
reader_of (Number value) = None

-- the input without its cursor
abbrev pub taken_of : Source → Source
taken_of (Reader cursor start) = Reader None start
taken_of (Number value) = Number value

-- the input with this cursor
abbrev pub with_reader : Source → CursorState → Source
with_reader (Reader cursor start) c = Reader (Some c) start
with_reader (Number value) c = Number value

-- the input is a list, whose cursor may be taken
abbrev pub IsReader : Source → Type 0
IsReader (Reader cursor start) = Unit {0}
IsReader (Number value) = ⊥

-- how many samples a unit that begins at an index has taken of an input once it has `done` samples: those before the index where
-- it ends then
abbrev pub taken_by : ℕ → ℕ → ℕ → ℕ → ℕ
taken_by begins start visible done = if done == 0 then 0 else min (begins + done - start) visible

-- so of an input; nothing is taken of a number
abbrev pub need_of : ℕ → Source → ℕ → ℕ
need_of begins (Reader cursor start) done = option_map_or (λ c. taken_by begins start c.visible done) cursor 0
need_of begins (Number value) done = 0

-- ---- values

-- the value at index m of samples that begin at an index: 0 outside them
abbrev pub heard_at : ℕ → List ℤ → ℕ → ℤ
heard_at start samples m = if nat_le start m then slice_index_or samples (m - start) (pos 0) else pos 0

-- the value at index m of an input whose whole list is xs: what the cursor sees of it, and 0 once the cursor was taken
abbrev pub input_at : Source → List ℤ → ℕ → ℤ
input_at (Reader cursor start) xs m = option_map_or (λ c. heard_at start (take c.visible xs) m) cursor (pos 0)
input_at (Number value) xs m = value

-- what is kept of the input's list is what these samples have there
abbrev pub ShowsInput : StoreState → Source → List ℤ → Type 0
ShowsInput s (Reader cursor start) xs = (c : CursorState) → cursor ≡ Some c → Shows s c.list xs
ShowsInput s (Number value) xs = Unit {0}

-- a cursor's list, which begins at an index, can be read from index `from` to index `end`: the cursor has not passed what is read, and
-- all that it sees of it is computed
pub record CanHear (s : StoreState) (c : CursorState) (start from end : ℕ) : Type 0 where
  pub stands : 0 < mark_at s c
  pub ahead : c.place ≤ from - start
  pub computed : IsComputed s c (min c.visible (end - start) - c.place)

-- so of an input; a number can be read, and so can one whose cursor was taken
abbrev pub CanRead : StoreState → Source → ℕ → ℕ → Type 0
CanRead s (Reader cursor start) from end = (c : CursorState) → cursor ≡ Some c → CanHear s c start from end
CanRead s (Number value) from end = Unit {0}

-- ---- pieces

abbrev pub piece_len : Piece → ℕ
piece_len (Samples samples) = length samples.now
piece_len (Same value len) = len

-- what stands at a place of a piece
abbrev pub piece_at : Piece → ℕ → ℤ
piece_at (Samples samples) k = slice_index_or samples.now k (pos 0)
piece_at (Same value len) k = value
