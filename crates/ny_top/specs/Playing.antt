-- The engine that a run leaves: whether it played a piece to its end, found its pool full, or found memory missing.
use Rattle.std.specs.Prelude.{◌≡◌, ℕ, ◌+◌, ◌<◌, ◌≤◌, true, List, [], ◌++◌, take, drop, map, length, min, sum, slice_index_or, Option, Some, None}
use Rattle.std.specs.Int.{div_ceil}
use Rattle.std.specs.List.{range_with_len}
use Rattle.ny_num.specs.Grid.{last_index}
use Rattle.ny_num.specs.declared.rate.Rate.{Rate}
use Rattle.ny_heap.specs.Heap.{live_of}
use Rattle.ny_heap.specs.Reach.{HeapLaws}
use Rattle.ny_heap.specs.Revealing.{has_waiting}
use Rattle.ny_num.specs.Sound as sounds
use Rattle.ny_num.specs.Sound.{silence}
use Rattle.ny_check.specs.Code.{Code}
use Rattle.ny_check.specs.Channels.{channels}
use Rattle.ny_pull.specs.declared.fault.PullFault.TheVariants.{PoolFull, OutOfMemory}
use Rattle.ny_plan.specs.Plan.{plan}
use Rattle.ny_plan.specs.Lines.{sequence}
use Rattle.ny_plan.specs.Peak.{peak_of, first_full}
use Rattle.ny_pull.specs.Engine.{EngineState, channel_at, HasEnded, SamePiece, StopsAtFull, LacksMemory}
use Rattle.ny_pull.specs.Planned.{FollowsPlan}
use Rattle.ny_pull.specs.Ordered.{HasPulled}
use Rattle.ny_words.specs.Commands.{Render}

-- the engine has the rate, the pool and the block length that are asked for
pub record IsAsked (r : Render) (e : EngineState) : Type 0 where
  pub rate : e.rate ≡ r.rate
  pub pool : e.heap.pool ≡ r.pool
  pub block : e.heap.block ≡ r.block

-- how many pulls a channel takes: one for each of its blocks
abbrev pub pulls_of : ℕ → sounds.Sound → ℕ
pulls_of block channel = div_ceil (length channel.samples) block

-- how many pulls of a channel give samples in so many rounds: one in each, until it has ended
abbrev pub pulls_in : ℕ → ℕ → sounds.Sound → ℕ
pulls_in block rounds channel = min rounds (pulls_of block channel)

-- how many pulls of each channel gave samples: so many rounds are whole, and in the next one the channels before c were pulled
abbrev pub pulled_after : ℕ → ℕ → ℕ → List sounds.Sound → List ℕ
pulled_after block rounds c channels = map (pulls_in block (rounds + 1)) (take c channels) ++ map (pulls_in block rounds) (drop c channels)

-- the engine made so many whole rounds, and pulled the channels before c once more; channel c takes a further pull
pub record IsInRound (rounds c : ℕ) (e : EngineState) : Type 0 where
  pub pulls : e.pulled ≡ pulled_after e.heap.block rounds c (channels e.code e.rate)
  pub more : rounds < pulls_of e.heap.block (slice_index_or (channels e.code e.rate) c (silence e.rate))

-- the channels, each once, upwards
abbrev pub upwards : Code → Rate → List ℕ
upwards code rate = range_with_len 0 (length (channels code rate))

-- the order in which the blocks of a piece are pulled: its channels upwards, again and again, until all have ended
abbrev pub order_of : ℕ → Code → Rate → List ℕ
order_of block code rate = sequence block (plan code rate) (upwards code rate)

-- how many of these pulls are whole before the first that finds all blocks of the pool live at a fill, and none where no pull does
abbrev pub first_full_of : Render → Code → Option ℕ
first_full_of r code = first_full r.block (plan code r.rate) r.pool (order_of r.block code r.rate)

-- The engine has given all samples of this program, by a pull for each block of each channel, in order. No fill found all blocks of the pool
-- live, and the peak is that of the order
pub record HasPlayed (r : Render) (code : Code) (e : EngineState) : Type 0 where
  pub asked : IsAsked r e
  pub piece : e.code ≡ code
  pub pulls : e.pulled ≡ map (pulls_of r.block) (channels code r.rate)
  pub ended : (c : ℕ) → c < length e.channels → HasEnded e c
  pub unspent : e.spent ≡ None
  pub room : first_full_of r code ≡ None
  pub peak : e.heap.peak ≡ peak_of r.block (plan code r.rate) (order_of r.block code r.rate)

-- The engine has played so many whole rounds of this program, and its pool was full at a pull of the round after them, the first of the order
-- at which a fill finds all blocks of the pool live
pub record IsFullAfter (r : Render) (code : Code) (rounds : ℕ) (e : EngineState) : Type 0 where
  pub asked : IsAsked r e
  pub piece : e.code ≡ code
  pub at : ℕ
  pub pulls : IsInRound rounds at e
  pub spent : e.spent ≡ Some (PoolFull (sum e.pulled) r.pool)
  pub first : first_full_of r code ≡ Some (sum e.pulled)

-- All blocks of the pool are taken, each by somebody who has still to read it. The pull of channel c that found them so began when the
-- engine had made these pulls since it was opened, in this order, and was not spent, and a fill that its next block needed found no free block.
pub record IsStopped (c : ℕ) (e : EngineState) : Type 0 where
  pub laws : HeapLaws e.heap
  pub taken : live_of e.heap ≡ e.heap.pool
  pub before : EngineState
  pub same : SamePiece before e
  pub pulls : before.pulled ≡ e.pulled
  pub unspent : before.spent ≡ None
  pub earlier : HeapLaws before.heap
  pub order : List ℕ
  pub so : HasPulled order before
  pub stops : StopsAtFull before e c

-- Memory was missing for a part that fell due. The pull of channel c that found it so began when the engine had made these pulls and was
-- not spent, and some part waited.
pub record IsShort (c : ℕ) (e : EngineState) : Type 0 where
  pub spent : e.spent ≡ Some OutOfMemory
  pub before : EngineState
  pub same : SamePiece before e
  pub pulls : before.pulled ≡ e.pulled
  pub unspent : before.spent ≡ None
  pub earlier : HeapLaws before.heap
  pub waits : has_waiting before.heap ≡ true
  pub lacks : LacksMemory before c

-- the engine has played so many whole rounds of this program, and memory was missing at a pull of the round after them
pub record IsShortAfter (r : Render) (code : Code) (rounds : ℕ) (e : EngineState) : Type 0 where
  pub asked : IsAsked r e
  pub piece : e.code ≡ code
  pub at : ℕ
  pub pulls : IsInRound rounds at e
  pub short : IsShort at e

-- the pool that was asked for is full, at a pull of some round
abbrev pub IsPoolFull : Render → EngineState → Type 0
IsPoolFull r e = IsAsked r e × ((rounds : ℕ) × (c : ℕ) × IsInRound rounds c e × IsStopped c e)

-- the engine was just opened
pub record IsNew (r : Render) (e : EngineState) : Type 0 where
  pub asked : IsAsked r e
  pub count : length e.channels ≡ length (channels e.code e.rate)
  pub some : 1 ≤ length e.channels
  pub most : length e.channels ≤ 8
  pub pulls : e.pulled ≡ map (λ s. 0) (channels e.code e.rate)
  pub unspent : e.spent ≡ None
  pub laws : HeapLaws e.heap
  pub hour : (c : ℕ) → length (channel_at e c) ≤ last_index r.rate
  pub follows : FollowsPlan e
  pub order : HasPulled [] e
