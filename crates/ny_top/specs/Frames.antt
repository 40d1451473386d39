-- How the blocks of several channels become frames.
use Rattle.std.specs.Prelude.{◌≡◌, ℕ, ◌+◌, ◌*◌, ◌<◌, ◌≤◌, List, take, map, length, slice_index_or, ℤ, pos}
use Rattle.std.specs.List.{range_with_len}
use Rattle.ny_num.specs.Sound.{value_at, silence}
use Rattle.ny_check.specs.Channels.{channels}
use Rattle.ny_pull.specs.Engine.{EngineState}
use Rattle.ny_top.specs.declared.frames.Buffers.{Buffers}

-- the buffers hold a block of so many samples of each of so many channels, and the bytes of at least one round
pub record HasRoom (channels size : ℕ) (b : Buffers) : Type 0 where
  pub block : b.block ≡ size
  pub samples : length b.samples.items ≡ channels * size
  pub frames : length b.frames.items ≡ channels * size
  pub bytes : 2 * (channels * size) ≤ length b.bytes.items
  pub gathered : b.gathered ≤ length b.bytes.items

-- the bytes that are gathered and still to be written: so many at the front
abbrev pub gathered_in : Buffers → List ℕ
gathered_in b = take b.gathered b.bytes.items

-- frame n of the blocks of channels that stand one after another
abbrev pub row : ℕ → ℕ → List ℤ → ℕ → List ℤ
row channels block samples n = map (λ c. slice_index_or samples (c * block + n) (pos 0)) (range_with_len 0 channels)

-- what channel c of an engine has at an index, 0 from its end on
abbrev pub heard_at : EngineState → ℕ → ℕ → ℤ
heard_at e c m = value_at (slice_index_or (channels e.code e.rate) c (silence e.rate)) m

-- these samples are the block of channel c behind so many, and 0 from its end on
abbrev pub IsBlock : EngineState → ℕ → ℕ → List ℤ → Type 0
IsBlock e rounds c xs = (n : ℕ) → n < e.heap.block → slice_index_or xs n (pos 0) ≡ heard_at e c (rounds * e.heap.block + n)

-- the same of each channel, where their blocks stand one after another
abbrev pub AreBlocks : EngineState → ℕ → List ℤ → Type 0
AreBlocks e rounds xs =
    (c n : ℕ) → c < length e.channels → n < e.heap.block
    → slice_index_or xs (c * e.heap.block + n) (pos 0) ≡ heard_at e c (rounds * e.heap.block + n)
