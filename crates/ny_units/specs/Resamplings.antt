-- Lists that are brought to another rate, slice by slice.
use Rattle.std.specs.Prelude.{◌≡◌, ℕ, ◌+◌, ◌-◌, ◌*◌, ◌/◌, ◌==◌, ◌<◌, ◌≤◌, min, if◌then◌else◌, List, take, Option, None, Some, ℤ}
use Rattle.ny_list.specs.Store.{StoreState, CursorState, mark_at}
use Rattle.ny_list.specs.Steps.{IsComputed}
use Rattle.ny_num.specs.Grid.{grid_of}
use Rattle.ny_num.specs.Sound.{Sound}
use Rattle.ny_num.specs.declared.timing.Timing.{Timing}
use Rattle.ny_units.specs.declared.input.Input.{Input}
use Rattle.ny_units.specs.declared.input.Input.TheVariants.{List as Heard, Number as Fixed}
use Rattle.ny_units.specs.Inputs.{heard_at}
use Rattle.ny_units.specs.Neighbours.{known_at}

-- a list that is heard at these times, as a sound
abbrev pub heard_sound : Timing → List ℤ → Sound
heard_sound t xs = record { rate = t.rate; start = t.start; stop = t.stop; samples = take t.len xs }

-- a unit that brings a list to another rate: when its input and its outputs are heard, the cursor of the input, which may be taken,
-- the last two samples that it took, and how many outputs it has given
pub record Resampling : Type 0 where
  pub from : Timing
  pub to : Timing
  pub reader : Option CursorState
  pub before : ℤ
  pub after : ℤ
  pub given : ℕ

-- the input is a list that is heard at these times
abbrev pub IsHeardAt : Input → Timing → Type 0
IsHeardAt (Heard cursor start) t = (start ≡ t.start) × (cursor.visible ≡ t.len)
IsHeardAt (Fixed value) t = ⊥

abbrev pub cursor_of : Input → Option CursorState
cursor_of (Heard cursor start) = Some cursor
cursor_of (Fixed value) = None

-- the index of the input's sample at or before the output at index m
abbrev pub index_before : Timing → Timing → ℕ → ℕ
index_before from to m = m * grid_of to.rate / grid_of from.rate

-- the index of the next sample that is taken, once there are n outputs: past both neighbours of the last one
abbrev pub next_after : Timing → Timing → ℕ → ℕ
next_after from to n = if n == 0 then from.start else index_before from to (to.start + n - 1) + 2

-- how many samples are taken by then: no more than there are
abbrev pub taken_after : Timing → Timing → ℕ → ℕ
taken_after from to n = min (next_after from to n - from.start) from.len

-- the value two places before index p of the input: 0 before its start, and past its end
abbrev pub two_before : Timing → List ℤ → ℕ → ℤ
two_before from xs p = heard_at (from.start + 2) (take from.len xs) p

-- the value of the input at an index as a resampling knows it, where the input's list has these samples: of what it has passed it keeps
-- the last two
abbrev pub known : Resampling → List ℤ → ℕ → ℤ
known u xs p = known_at (next_after u.from u.to u.given) u.before u.after (heard_at u.from.start (take u.from.len xs)) p

-- what it keeps are the last two samples that it took of this list
pub record Remembers (u : Resampling) (xs : List ℤ) : Type 0 where
  pub before : u.before ≡ two_before u.from xs (next_after u.from u.to u.given)
  pub after : u.after ≡ two_before u.from xs (next_after u.from u.to u.given + 1)

-- the outputs begin no earlier than the input
abbrev pub BeginsLater : Timing → Timing → Type 0
BeginsLater from to = from.start ≤ index_before from to to.start

-- a cursor has not passed the sample at an index, and sees as much as is heard
pub record CanTake (s : StoreState) (t : Timing) (c : CursorState) (next : ℕ) : Type 0 where
  pub stands : 0 < mark_at s c
  pub ahead : c.place ≤ next - t.start
  pub seen : c.visible ≡ t.len

-- a cursor's list can be read as far as the outputs up to the n-th ask of it: it has not passed what is read, it sees as much as is
-- heard, and that is computed
pub record CanResample (s : StoreState) (u : Resampling) (c : CursorState) (n : ℕ) : Type 0 where
  pub stands : 0 < mark_at s c
  pub ahead : c.place ≤ taken_after u.from u.to u.given
  pub seen : c.visible ≡ u.from.len
  pub computed : IsComputed s c (taken_after u.from u.to n - c.place)
