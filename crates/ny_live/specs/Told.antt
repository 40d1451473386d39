-- What is printed of an engine that is pulled in turns.
use Rattle.std.specs.Prelude.{◌≡◌, ℕ, ◌≤◌, ◌-◌, ◌^◌, min, sum, Bool, if◌then◌else◌, List, take, length, flat_map, Option, None, Some}
use Rattle.std.specs.Io.KnownBytes.{append_known}
use Rattle.ny_io.specs.Faults.{Rose}
use Rattle.ny_io.specs.Host.{HostState, SameCounts}
use Rattle.ny_heap.specs.Reach.{HeapLaws}
use Rattle.ny_check.specs.Channels.{channels}
use Rattle.ny_plan.specs.Plan.{plan}
use Rattle.ny_plan.specs.Peak.{first_full}
use Rattle.ny_plan.specs.Lines.{Line, no_pulls, sequence, line_of, lines_after}
use Rattle.ny_plan.specs.Lines.Line.{Pull, Peak, PoolFull}
use Rattle.ny_pull.specs.Engine.{EngineState, SamePiece}
use Rattle.ny_pull.specs.Planned.{FollowsPlan}
use Rattle.ny_pull.specs.Ordered.{pulls_along, IsInOrder}
use Rattle.ny_report.specs.Lines.{pull_line_of, peak_line_of, full_line_of}
use Rattle.ny_live.specs.declared.fault.LiveFault.{LiveFault}
use Rattle.ny_live.specs.declared.fault.LiveFault.TheVariants as faults

-- ---- the bytes of lines

-- how many blocks are live of each kind, where a line tells it
abbrev pub kinds_told : Bool → List ℕ → Option (List ℕ)
kinds_told kinds by_kind = if kinds then Some by_kind else None

-- the bytes of a line; fills are counted up to the end of their count
abbrev pub text_of : Bool → Line → List ℕ
text_of kinds (Pull n c live fills by_kind) = pull_line_of n c live (min fills (2 ^ 64 - 1)) (kinds_told kinds by_kind)
text_of kinds (Peak n) = peak_line_of n
text_of kinds (PoolFull k) = full_line_of k

abbrev pub texts_of : Bool → List Line → List ℕ
texts_of kinds lines = flat_map (text_of kinds) lines

-- the lines of the pulls of an order
abbrev pub pull_lines : EngineState → List ℕ → List Line
pull_lines e order = lines_after e.heap.block (plan e.code e.rate) 0 (no_pulls (plan e.code e.rate)) order

-- the line of the last pull, which was one of channel c
abbrev pub last_line : EngineState → ℕ → Line
last_line e c = line_of e.heap.block (plan e.code e.rate) (sum e.pulled) c e.pulled

-- ---- an engine in turns

-- an engine that can be pulled
pub record IsReady (e : EngineState) : Type 0 where
  pub follows : FollowsPlan e
  pub unspent : e.spent ≡ None
  pub laws : HeapLaws e.heap
  pub count : length e.channels ≡ length (channels e.code e.rate)
  pub count_pulled : length e.pulled ≡ length (channels e.code e.rate)

-- the pulls of the turns, which come again until all channels have ended
abbrev pub order_in : List ℕ → EngineState → List ℕ
order_in turns e = sequence e.heap.block (plan e.code e.rate) turns

-- the engine that was opened as `start` is pulled in turns, and the lines of its pulls so far were printed
pub record IsTold (kinds : Bool) (turns rest : List ℕ) (n : ℕ) (start e : EngineState) (old now : HostState) : Type 0 where
  pub same : SamePiece start e
  pub order : IsInOrder turns rest n e
  pub printed : now.printed ≡ append_known old.printed (texts_of kinds (pull_lines start order.done))

-- a first part of the lines of all pulls was printed
abbrev pub PrintedPart : Bool → List ℕ → EngineState → HostState → HostState → Type 0
PrintedPart kinds turns start old now =
    (count : ℕ) × (now.printed ≡ append_known old.printed (take count (texts_of kinds (pull_lines start (order_in turns start)))))

-- the lines of the first pulls were printed
abbrev pub PrintedLines : Bool → List ℕ → EngineState → ℕ → HostState → HostState → Type 0
PrintedLines kinds turns start count old now = now.printed ≡ append_known old.printed (texts_of kinds (take count (pull_lines start (order_in turns start))))

-- why a line was not printed: it could not be, and a first part of it was; or memory was missing for it, and nothing was
abbrev pub EndsLine : List ℕ → HostState → HostState → LiveFault → Type 0
EndsLine line old now faults.Write = Rose old.writes now.writes × ((count : ℕ) × (count ≤ length line) × (now.printed ≡ append_known old.printed (take count line)))
EndsLine line old now (faults.PoolFull pulls) = ⊥
EndsLine line old now faults.OutOfMemory = SameCounts old now × (now.printed ≡ old.printed)

-- Why the turns ended early, where this engine is left. A full pool comes at the first pull of the order that finds all its blocks live; the
-- pulls before were made, and their lines were printed. No count of faults changed but where a line could not be printed
abbrev pub EndsTurns : Bool → List ℕ → EngineState → EngineState → HostState → HostState → LiveFault → Type 0
EndsTurns kinds turns start e old now faults.Write = Rose old.writes now.writes × PrintedPart kinds turns start old now
EndsTurns kinds turns start e old now (faults.PoolFull pulls) =
    (first_full start.heap.block (plan start.code start.rate) start.heap.pool (order_in turns start) ≡ Some pulls)
    × (e.pulled ≡ pulls_along (take pulls (order_in turns start)) (no_pulls (plan start.code start.rate)))
    × PrintedLines kinds turns start pulls old now
    × SameCounts old now
EndsTurns kinds turns start e old now faults.OutOfMemory = ((count : ℕ) × PrintedLines kinds turns start count old now) × SameCounts old now
