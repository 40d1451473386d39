-- How a resampling goes over its input. No public clause cites this module.
use Rattle.std.specs.Prelude.{◌≡◌, ℕ, ◌+◌, ◌-◌, ◌*◌, ◌/◌, ◌%◌, ◌<◌, ◌≤◌, List, ◌∷◌, length, slice_index_or, ℤ, pos, ◌+ℤ◌, ◌-ℤ◌, ◌*ℤ◌}
use Rattle.ny_num.specs.Numbers.{floor_div}
use Rattle.ny_units.specs.declared.course.Course.{Course}
use Rattle.ny_units.specs.declared.course.Position.{Position}
use Rattle.ny_units.specs.declared.course.Window.{Window}
use Rattle.ny_units.specs.declared.stretch.Stretch.{Stretch}

-- the value on the way from one sample to the next
abbrev pub on_way : ℤ → ℤ → ℕ → ℕ → ℤ
on_way before after part whole = before +ℤ floor_div ((after -ℤ before) *ℤ pos part) (pos whole)

-- a course from grid to grid
pub record IsCourse (c : Course) : Type 0 where
  pub some : 0 < c.grid
  pub short : c.grid ≤ 320000
  pub fine : c.step ≤ 320000
  pub whole : c.whole ≡ c.step / c.grid
  pub part : c.part ≡ c.step % c.grid
  -- parts of 2^71
  pub enough : 2361183241434822606848 ≤ c.parts * c.grid
  pub few : c.parts * c.grid < 2361183241434822606848 + c.grid

-- where the output at its index lies
pub record IsPosition (c : Course) (p : Position) : Type 0 where
  pub place : p.place ≡ p.index * c.step / c.grid
  pub part : p.part ≡ p.index * c.step % c.grid

-- the two samples before and those ahead
abbrev pub window_list : Window → List ℤ → List ℤ
window_list w ahead = w.before ∷ w.after ∷ ahead

-- the window further on by so many samples
abbrev pub window_at : Window → List ℤ → ℕ → Window
window_at w ahead k = record {
  before = slice_index_or (window_list w ahead) k (pos 0);
  after = slice_index_or (window_list w ahead) (k + 1) (pos 0);
  next = w.next + k;
}

-- the values of g stand in a window: g has the value two places before each index
pub record IsWindow (g : ℕ → ℤ) (w : Window) : Type 0 where
  pub before : w.before ≡ g w.next
  pub after : w.after ≡ g (w.next + 1)

-- and ahead of it
pub record Continues (g : ℕ → ℤ) (w : Window) (ahead : List ℤ) : Type 0 where
  pub window : IsWindow g w
  pub rest : (k : ℕ) → k < length ahead → slice_index_or ahead k (pos 0) ≡ g (w.next + 2 + k)

-- where the output at an index lies in the input
abbrev pub place_at : Course → ℕ → ℕ
place_at c m = m * c.step / c.grid

-- the output at an index
abbrev pub course_value : Course → (ℕ → ℤ) → ℕ → ℤ
course_value c g m = on_way (g (place_at c m + 2)) (g (place_at c m + 3)) (m * c.step % c.grid) c.grid

-- so many of `len` outputs were written from a position on, as far as a window and the samples ahead suffice: the window that is left has
-- passed the neighbours of the last one, or all that is ahead where more are wanted
pub record IsStretch (c : Course) (w : Window) (from : Position) (ahead len : ℕ) (r : Stretch) : Type 0 where
  pub within : r.written ≤ len
  pub position : IsPosition c r.at
  pub index : r.at.index ≡ from.index + r.written
  pub later : w.next ≤ r.window.next
  pub upto : r.window.next ≤ w.next + ahead
  pub forward : r.window.next ≤ r.at.place + 2
  pub last : r.written ≡ len → 0 < len → r.window.next ≡ place_at c (from.index + len - 1) + 2
  pub rest : r.written < len → (r.window.next ≡ w.next + ahead) × (r.window.next < r.at.place + 2)
