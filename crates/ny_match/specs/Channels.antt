-- The channels of a plan among its rows.
use Rattle.std.specs.Prelude.{◌≡◌, ℕ, ◌<◌, true, false, List, Option, None, Some, length, slice_get, slice_index}
use Rattle.std.specs.Option.{option_map}
use Rattle.ny_heap.specs.declared.sound.Sound.{Sound}
use Rattle.ny_heap.specs.Heap.{HeapState, list_of}
use Rattle.ny_hands.specs.declared.branch.Branch.{Branch}
use Rattle.ny_hands.specs.Hands.{marks_at}
use Rattle.ny_plan.specs.Rows.{RowSound, Row, Plan, row_at}
use Rattle.ny_plan.specs.Need.{Filled, is_open}
use Rattle.ny_plan.specs.Liveness.{is_channel}
use Rattle.ny_match.specs.Walking.{ChannelsFrom}

-- row y is a channel that is heard so, and has a sample
pub record IsChannelRow (rows : List Row) (y : ℕ) (s : RowSound) : Type 0 where
  pub inside : y < length rows
  pub kind : is_channel (row_at rows y).kind ≡ true
  pub timing : (row_at rows y).timing ≡ s.timing
  pub some : 0 < s.timing.len

-- The channels are the last rows of a plan. Each that has a sample is one of them, and each of them is one that is played
pub record HasChannels (p : Plan) : Type 0 where
  pub top : ℕ
  pub last : ChannelsFrom top p.rows
  pub rows : (k y : ℕ) (s : RowSound) → slice_get p.channels k ≡ Some s → s.row ≡ Some y → IsChannelRow p.rows y s
  pub played : (c : ℕ) → is_channel (row_at p.rows c).kind ≡ true → (k : ℕ) × (s : RowSound) × (slice_get p.channels k ≡ Some s) × (s.row ≡ Some c)

-- Sounds that read the channels of a plan: of each that is open one, which stands where its next block begins. Nobody else reads from outside
pub record AreReading (p : Plan) (f : Filled) (h : HeapState Branch) (row : ℕ → ℕ) (sounds : List (Option Sound)) : Type 0 where
  pub count : length sounds ≡ length p.channels
  -- it reads the channel's own row, which is open
  pub names : (k : ℕ) (s : Sound) (r : RowSound) → slice_get sounds k ≡ Some (Some s) → slice_get p.channels k ≡ Some r → r.row ≡ option_map row (list_of s)
  pub opens : (k n : ℕ) (s : Sound) → slice_get sounds k ≡ Some (Some s) → list_of s ≡ Some n →
      is_open h.block (row_at p.rows (row n)) (slice_index f (row n)) ≡ true
  pub marks : (k n : ℕ) (s : Sound) → slice_get sounds k ≡ Some (Some s) → list_of s ≡ Some n → 0 < marks_at h n (slice_index f (row n))
  pub stands : (k n j : ℕ) (s : Sound) → slice_get sounds k ≡ Some (Some s) → list_of s ≡ Some n → 0 < marks_at h n j → j ≡ slice_index f (row n)
  -- one that has ended is read no more
  pub ended : (k y : ℕ) (r : RowSound) → slice_get sounds k ≡ Some None → slice_get p.channels k ≡ Some r → r.row ≡ Some y →
      is_open h.block (row_at p.rows y) (slice_index f y) ≡ false
  pub alone : (v j : ℕ) → 0 < marks_at h v j → (k : ℕ) × (s : Sound) × (slice_get sounds k ≡ Some (Some s)) × (list_of s ≡ Some v)
