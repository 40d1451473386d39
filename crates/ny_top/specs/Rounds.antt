-- Rounds over an engine: each pulls the next block of each channel that has not ended, channel 0 first. The bytes of their frames are
-- gathered, and what is gathered is written where no room is left, at the end, and before a pull's fault is told.
use Rattle.std.specs.Prelude.{◌≡◌, ℕ, ◌-◌, ◌*◌, ◌<◌, ◌≤◌, List, [], ◌++◌, take, drop, map, length, sum, Some, None, ℤ}
use Rattle.std.specs.List.{flat_map, range_with_len}
use Rattle.ny_io.specs.Faults.{Rose}
use Rattle.ny_io.specs.Host.{HostState, SameCounts, written}
use Rattle.ny_heap.specs.Reach.{HeapLaws}
use Rattle.ny_check.specs.Channels.{channels, frames}
use Rattle.ny_plan.specs.Plan.{plan}
use Rattle.ny_plan.specs.Peak.{first_full}
use Rattle.ny_pull.specs.Engine.{EngineState, HasEnded, SamePiece}
use Rattle.ny_pull.specs.Planned.{FollowsPlan}
use Rattle.ny_pull.specs.Ordered.{HasPulled, IsInOrder}
use Rattle.ny_pull.specs.declared.fault.PullFault.TheVariants as faults
use Rattle.ny_wav.specs.WavFile.{frame_of}
use Rattle.ny_top.specs.Channel.{first_frames}
use Rattle.ny_top.specs.Playing.{pulls_of, pulled_after, upwards, order_of, IsInRound, IsStopped, IsShort}
use Rattle.ny_top.specs.Frames.{gathered_in}
use Rattle.ny_top.specs.declared.frames.Buffers.{Buffers}
use Rattle.ny_top.specs.declared.rounds.RoundFault.{RoundFault}
use Rattle.ny_top.specs.declared.rounds.RoundFault.TheVariants.{Write, PoolFull, OutOfMemory}

-- an engine between two pulls: so many rounds are whole, and in the next one the channels before c were pulled
pub record IsUnderway (rounds c : ℕ) (e : EngineState) : Type 0 where
  pub count : length e.channels ≡ length (channels e.code e.rate)
  pub pulls : e.pulled ≡ pulled_after e.heap.block rounds c (channels e.code e.rate)
  pub unspent : e.spent ≡ None
  pub laws : HeapLaws e.heap
  pub follows : FollowsPlan e

-- the order of the pulls, where a round is whole and n rounds are still to come
abbrev pub IsAtRound : ℕ → EngineState → Type 0
IsAtRound n e = IsInOrder (upwards e.code e.rate) [] n e

-- the same where in a round the channels from c on are still to be pulled, and n rounds after it
abbrev pub IsAtTurn : ℕ → ℕ → EngineState → Type 0
IsAtTurn c n e = IsInOrder (upwards e.code e.rate) (range_with_len c (length (channels e.code e.rate) - c)) n e

-- these bytes were written to the output, and nothing else
abbrev pub Wrote : List ℕ → HostState → HostState → Type 0
Wrote bytes old new = new.created ≡ written bytes old.created

-- a first part of these bytes was written
abbrev pub WrotePart : List ℕ → HostState → HostState → Type 0
WrotePart bytes old new = (done : ℕ) × (done ≤ length bytes) × Wrote (take done bytes) old new

-- of these bytes a first part was written to the output, and all that follows it is gathered
abbrev pub Gathered : List ℕ → Buffers → HostState → HostState → Type 0
Gathered bytes b old new = (first : List ℕ) × Wrote first old new × (bytes ≡ first ++ gathered_in b)

-- the frames that an engine's channels have together
abbrev pub frames_at : EngineState → List (List ℤ)
frames_at e = frames (channels e.code e.rate)

-- the bytes of all of them
abbrev pub all_bytes : EngineState → List ℕ
all_bytes e = flat_map frame_of (frames_at e)

-- the bytes of the frames of so many rounds
abbrev pub bytes_after : EngineState → ℕ → List ℕ
bytes_after e rounds = flat_map frame_of (take (rounds * e.heap.block) (frames_at e))

-- the bytes of the frames of the round after so many: a block of them, or what is left
abbrev pub bytes_of_round : EngineState → ℕ → List ℕ
bytes_of_round e rounds = flat_map frame_of (take e.heap.block (drop (rounds * e.heap.block) (frames_at e)))

-- each channel of the engine was pulled to its end, in order
pub record IsPulledOut (start e : EngineState) : Type 0 where
  pub same : SamePiece start e
  pub pulls : e.pulled ≡ map (pulls_of start.heap.block) (channels start.code start.rate)
  pub ended : (c : ℕ) → c < length e.channels → HasEnded e c
  pub unspent : e.spent ≡ None
  pub order : HasPulled (order_of start.heap.block start.code start.rate) e

-- the engine's pool was full at a pull of the round after so many, the first of the order at which a fill finds all its blocks live
pub record IsSpentAfter (start e : EngineState) (rounds : ℕ) : Type 0 where
  pub same : SamePiece start e
  pub at : ℕ
  pub pulls : IsInRound rounds at e
  pub spent : e.spent ≡ Some (faults.PoolFull (sum e.pulled) start.heap.pool)
  pub stopped : IsStopped at e
  pub first : first_full start.heap.block (plan start.code start.rate) start.heap.pool (order_of start.heap.block start.code start.rate) ≡ Some (sum e.pulled)

-- memory was missing at a pull of the round after so many
pub record IsShortOf (start e : EngineState) (rounds : ℕ) : Type 0 where
  pub same : SamePiece start e
  pub at : ℕ
  pub pulls : IsInRound rounds at e
  pub short : IsShort at e

-- why a pull of the round after so many gave no samples
abbrev pub IsPullFault : EngineState → EngineState → ℕ → RoundFault → Type 0
IsPullFault start e rounds Write = ⊥
IsPullFault start e rounds (PoolFull pulls) = (pulls ≡ sum e.pulled) × IsSpentAfter start e rounds
IsPullFault start e rounds OutOfMemory = IsShortOf start e rounds

-- why the round after so many ended early. At a full pool, and where memory was missing, what was gathered before was written, nothing of
-- this round, and no count changed
abbrev pub IsRoundFault : EngineState → EngineState → ℕ → Buffers → HostState → HostState → RoundFault → Type 0
IsRoundFault start e rounds b old new Write = Rose old.writes new.writes
IsRoundFault start e rounds b old new (PoolFull pulls) =
    IsPullFault start e rounds (PoolFull pulls) × Wrote (gathered_in b) old new × SameCounts old new
IsRoundFault start e rounds b old new OutOfMemory = IsPullFault start e rounds OutOfMemory × Wrote (gathered_in b) old new × SameCounts old new

-- why the rounds ended early. At a full pool, and where memory was missing, the frames of all rounds before were written, and no count
-- changed
abbrev pub EndsRounds : EngineState → EngineState → HostState → HostState → RoundFault → Type 0
EndsRounds start e old new Write = Rose old.writes new.writes
EndsRounds start e old new (PoolFull pulls) =
    (rounds : ℕ) × IsPullFault start e rounds (PoolFull pulls) × Wrote (bytes_after start rounds) old new × SameCounts old new
EndsRounds start e old new OutOfMemory =
    (rounds : ℕ) × IsPullFault start e rounds OutOfMemory × Wrote (bytes_after start rounds) old new × SameCounts old new

-- why the file's parts ended early. At a full pool, and where memory was missing, its header and the frames of all rounds before were
-- written, and no count changed
abbrev pub EndsFile : EngineState → EngineState → HostState → HostState → RoundFault → Type 0
EndsFile start e old new Write = Rose old.writes new.writes
EndsFile start e old new (PoolFull pulls) =
    (rounds : ℕ) × IsPullFault start e rounds (PoolFull pulls)
    × Wrote (first_frames start.rate start.code (rounds * start.heap.block)) old new × SameCounts old new
EndsFile start e old new OutOfMemory =
    (rounds : ℕ) × IsPullFault start e rounds OutOfMemory
    × Wrote (first_frames start.rate start.code (rounds * start.heap.block)) old new × SameCounts old new
