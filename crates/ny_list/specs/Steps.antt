-- How the calls of a store change it.
use Rattle.std.specs.Prelude.{◌≡◌, ℕ, zero, suc, ◌+◌, ◌-◌, ◌*◌, ◌<◌, ◌≤◌, List, [], ◌∷◌, ◌++◌, length, take, Option, None, Some, slice_index_or, slice_set, ℤ}
use Rattle.std.specs.Option.{option_map}
use Rattle.ny_list.specs.Store.{ListState, StoreState, CursorState, list_at, loose_at, stands_in, blocks_of, computed_of, least, free_of}

-- ---- one list

-- nothing in the places before n
abbrev pub blank_below : ℕ → List (Option (List ℤ)) → List (Option (List ℤ))
blank_below n [] = []
blank_below zero (o ∷ os) = o ∷ os
blank_below (suc n) (o ∷ os) = None ∷ blank_below n os

-- the blocks before the least cursor are given back, all of them where nobody reads the list
abbrev pub settled : ListState → ListState
settled x = record x { values = blank_below (least x.marks) x.values }

-- one cursor more in block j, and one less
abbrev pub entered : ℕ → ListState → ListState
entered j x = record x { marks = slice_set x.marks j (slice_index_or x.marks j 0 + 1) }

abbrev pub left : ℕ → ListState → ListState
left j x = record x { marks = slice_set x.marks j (slice_index_or x.marks j 0 - 1) }

-- a new list with one cursor, at its beginning
abbrev pub begun : ℕ → ℕ → ListState
begun len tag = record { len = len; tag = tag; values = []; marks = 1 ∷ [] }

-- one block more is filled, with those of these samples that the list has a place for. Cursors that stood at the end
-- stand in it
abbrev pub filled_with : ℕ → List ℤ → ListState → ListState
filled_with block samples x = record x {
  values = x.values ++ Some (take (x.len - length x.values * block) samples) ∷ [];
  marks = x.marks ++ 0 ∷ [];
}

-- ---- the store

abbrev pub with_list : StoreState → ℕ → Option ListState → StoreState
with_list s l o = record s { lists = slice_set s.lists l o }

abbrev pub with_loose : StoreState → ℕ → Option (List ℤ) → StoreState
with_loose s b o = record s { loose = slice_set s.loose b o }

-- list l is changed so, and no other
abbrev pub with_change : StoreState → ℕ → (ListState → ListState) → StoreState
with_change s l change = with_list s l (option_map change (list_at s l))

-- one more cursor stands where this one does
abbrev pub with_cursor : StoreState → CursorState → StoreState
with_cursor s c = with_change s c.list (λ x. entered (stands_in s.block x.len c.place) x)

-- this cursor left, and what lies before every other is given back
abbrev pub without_cursor : StoreState → CursorState → StoreState
without_cursor s c = with_change s c.list (λ x. settled (left (stands_in s.block x.len c.place) x))

-- this cursor went on to another place of its list, and what lies before every cursor is given back
abbrev pub with_move : StoreState → CursorState → ℕ → StoreState
with_move s c to = with_change s c.list (λ x. settled (entered (stands_in s.block x.len to) (left (stands_in s.block x.len c.place) x)))

-- block b, with these samples, is the next block of list l
abbrev pub with_block : StoreState → ℕ → ℕ → List ℤ → StoreState
with_block s l b samples = with_loose (with_change s l (λ x. settled (filled_with s.block samples x))) b None

-- block b was free and is taken now, with some samples
pub record Takes (old new : StoreState) (b : ℕ) : Type 0 where
  pub within : b < length old.loose
  pub was_free : loose_at old b ≡ None
  pub samples : List ℤ
  pub whole : length samples ≡ old.block
  pub after : new ≡ with_loose old b (Some samples)
  pub free : free_of new + 1 ≡ free_of old

-- list l, of this length, is new, and this cursor stands at its beginning
pub record Begins (old new : StoreState) (l len tag : ℕ) (c : CursorState) : Type 0 where
  pub within : l < length old.lists
  pub vacant : list_at old l ≡ None
  pub after : new ≡ with_list old l (Some (begun len tag))
  pub cursor : c ≡ record { list = l; place = 0; visible = len; tag = tag }

-- n samples are computed past the place of the cursor
pub record IsComputed (s : StoreState) (c : CursorState) (n : ℕ) : Type 0 where
  pub list : ListState
  pub there : list_at s c.list ≡ Some list
  pub computed : c.place + n ≤ computed_of s.block list

-- list l has a block that is not filled
pub record IsUnfilled (s : StoreState) (l : ℕ) : Type 0 where
  pub list : ListState
  pub there : list_at s l ≡ Some list
  pub unfilled : length list.values < blocks_of s.block list.len
