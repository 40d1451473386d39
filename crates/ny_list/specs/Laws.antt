-- What holds of every store.
use Rattle.std.specs.Prelude.{◌≡◌, ℕ, ◌+◌, ◌-◌, ◌*◌, ◌^◌, ◌<◌, ◌≤◌, ◌↔◌, min, List, length, None, Some, IsSome, slice_index_or, ℤ}
use Rattle.ny_list.specs.Store.{ListState, StoreState, list_at, loose_at, blocks_of, cursors_of, least, taken_of}

-- a block that is filled is kept exactly where it lies at or after the least cursor. It has a block's samples, the last
-- one of the list no more than the list has
pub record ListLaws (block : ℕ) (x : ListState) : Type 0 where
  pub short : x.len < 2 ^ 32
  pub tagged : x.tag < 2 ^ 32
  pub filled : length x.values ≤ blocks_of block x.len
  pub marks : length x.marks ≡ length x.values + 1
  pub few : cursors_of x < 2 ^ 32
  pub kept : (j : ℕ) → j < length x.values → IsSome (slice_index_or x.values j None) ↔ (least x.marks ≤ j)
  pub whole : (j : ℕ) (samples : List ℤ) → slice_index_or x.values j None ≡ Some samples → length samples ≡ min (x.len - j * block) block

-- so of each list. No more blocks are taken than there are, and one that is in no list has a block's samples
pub record StoreLaws (s : StoreState) : Type 0 where
  pub some : 0 < s.block
  pub small : s.block < 2 ^ 32
  pub few : length s.loose < 2 ^ 32
  pub taken : taken_of s ≤ length s.loose
  pub lists : (l : ℕ) (x : ListState) → list_at s l ≡ Some x → ListLaws s.block x
  pub loose : (b : ℕ) (samples : List ℤ) → loose_at s b ≡ Some samples → length samples ≡ s.block
