-- What a contract sees of an engine: what it plays, how much of each channel was pulled, and its heap.
use Rattle.std.specs.Prelude.{◌≡◌, ℕ, ◌+◌, ◌*◌, ◌<◌, ◌≤◌, List, Option, None, Some, IsSome, slice_index, slice_index_or, slice_get, slice_set, length, take, drop, sum, ℤ}
use Rattle.ny_num.specs.declared.rate.Rate.{Rate}
use Rattle.ny_num.specs.Sound.{silence}
use Rattle.ny_heap.specs.Heap.{Node, HeapState, node_at, list_of, open_unit}
use Rattle.ny_heap.specs.Means.{Whole, Means, sound_in}
use Rattle.ny_heap.specs.Reach.{IsTrimmed}
use Rattle.ny_heap.specs.Steps.{Passes, without_sound, advanced}
use Rattle.ny_heap.specs.declared.sound.Sound.{Sound}
use Rattle.ny_hands.specs.Frames.{part_is}
use Rattle.ny_hands.specs.declared.branch.Branch.{Branch}
use Rattle.ny_pull.specs.declared.fault.PullFault.{PullFault}
use Rattle.ny_pull.specs.declared.fault.PullFault.TheVariants.{PoolFull}
use Rattle.ny_check.specs.Code.{Code}
use Rattle.ny_check.specs.Channels.{channels}
use Rattle.ny_walk.specs.Walk.{Walks}
use Rattle.ny_walk.specs.Stops.{StopsAtFull as WalkStops, FindsNoneFree, RunsOut}

-- `channels` has for each channel what is still to be pulled of it, and none once all of it was given. `pulled` has how many pulls of it gave samples. `spent`
-- is the fault that ended the engine
pub record EngineState : Type 0 where
  pub code : Code
  pub rate : Rate
  pub channels : List (Option Sound)
  pub pulled : List ℕ
  pub spent : Option PullFault
  pub heap : HeapState Branch

-- the samples of a channel, from its first on, as the strict meaning has them
abbrev pub channel_at : EngineState → ℕ → List ℤ
channel_at e c = (slice_index_or (channels e.code e.rate) c (silence e.rate)).samples

-- how many samples the whole blocks have that were pulled of a channel
abbrev pub passed_of : EngineState → ℕ → ℕ
passed_of e c = slice_index e.pulled c * e.heap.block

-- the next samples of a channel: a block of them, or what is left
abbrev pub next_block : EngineState → ℕ → List ℤ
next_block e c = take e.heap.block (drop (passed_of e c) (channel_at e c))

-- all samples of a channel were given
abbrev pub HasEnded : EngineState → ℕ → Type 0
HasEnded e c = length (channel_at e c) ≤ passed_of e c

-- no list is read from outside the heap but by what is still to be pulled of a channel
abbrev pub IsReadByChannels : EngineState → Type 0
IsReadByChannels e =
    (v : ℕ) (x : Node Branch) → node_at e.heap v ≡ Some x → 0 < sum x.outside → (c : ℕ) × (s : Sound) × (slice_get e.channels c ≡ Some (Some s)) × (list_of s ≡ Some v)

-- A part that waits is what the program says. So the heap holds parts of whole lists, and each channel that is still to be pulled is
-- that of the strict meaning
pub record MeansItsChannels (e : EngineState) : Type 0 where
  pub whole : Whole
  pub means : Means (part_is e.code) e.heap whole
  pub each : (c : ℕ) (s : Sound) → slice_get e.channels c ≡ Some (Some s) → (sound_in whole.samples (list_of s) s.timing).samples ≡ channel_at e c

-- one pull more of channel c that gave samples
abbrev pub with_pull : List ℕ → ℕ → List ℕ
with_pull pulled c = slice_set pulled c (slice_index pulled c + 1)

-- what no pull changes
pub record SamePiece (old new : EngineState) : Type 0 where
  pub code : new.code ≡ old.code
  pub rate : new.rate ≡ old.rate
  pub channels : length new.channels ≡ length old.channels
  pub pool : new.heap.pool ≡ old.heap.pool
  pub block : new.heap.block ≡ old.heap.block

-- what is left of a sound: the sound while some of it is to be read, and then nothing, since it is given up
abbrev pub Leaves : {B : Type 0} → HeapState B → HeapState B → Sound → Option Sound → Type 0
Leaves old new s None = (open_unit old (list_of s) ≡ None) × IsTrimmed (without_sound old s) new
Leaves old new s (Some rest) = IsSome (open_unit old (list_of s)) × (rest ≡ s) × (new ≡ old)

-- A pull of channel c gives n samples. What its next block needs is filled, in order, each time in a block that is free, and the parts
-- that fall due are revealed. Then the block is read. With its last block the sound is given up
pub record GivesBlock (old new : EngineState) (c n : ℕ) : Type 0 where
  pub before : Sound
  pub was : slice_get old.channels c ≡ Some (Some before)
  pub unit : ℕ
  pub «open» : open_unit old.heap (list_of before) ≡ Some unit
  pub deep : ℕ
  pub order : List ℕ
  pub filled : HeapState Branch
  pub walks : Walks old.code deep old.heap unit order filled
  pub after : Sound
  pub passes : Passes before after n
  pub read : HeapState Branch
  pub reads : IsTrimmed (advanced filled before after) read
  pub left : Option Sound
  pub leaves : Leaves read new.heap after left
  pub now : new.channels ≡ slice_set old.channels c left

-- a pull of channel c stops: what its next block needs is filled and revealed, in order, to the first fill that finds no free block
pub record StopsAtFull (old new : EngineState) (c : ℕ) : Type 0 where
  pub before : Sound
  pub was : slice_get old.channels c ≡ Some (Some before)
  pub unit : ℕ
  pub «open» : open_unit old.heap (list_of before) ≡ Some unit
  pub deep : ℕ
  pub order : List ℕ
  pub stops : WalkStops old.code deep old.heap unit order new.heap
  pub now : new.channels ≡ old.channels

-- what the next block of channel c needs can't be filled: a fill of it finds no block free
pub record NeedsMore (e : EngineState) (c : ℕ) : Type 0 where
  pub before : Sound
  pub was : slice_get e.channels c ≡ Some (Some before)
  pub unit : ℕ
  pub «open» : open_unit e.heap (list_of before) ≡ Some unit
  pub full : FindsNoneFree e.code e.heap unit

-- The next block of channel c can't be filled for want of memory: what it needs is filled and revealed, in order, to a part that is due.
-- Of the heap that is left nothing is told but its laws and its size
pub record LacksMemory (e : EngineState) (c : ℕ) : Type 0 where
  pub before : Sound
  pub was : slice_get e.channels c ≡ Some (Some before)
  pub unit : ℕ
  pub «open» : open_unit e.heap (list_of before) ≡ Some unit
  pub deep : ℕ
  pub order : List ℕ
  pub last : HeapState Branch
  pub runs : RunsOut e.code deep e.heap unit order last

-- the fault of an engine whose pool is full
abbrev pub full_of : EngineState → PullFault
full_of e = PoolFull (sum e.pulled) e.heap.pool
