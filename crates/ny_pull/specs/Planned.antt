-- What an engine does by the plan of its program: how many blocks are filled and live after its pulls, and which rows a pull fills.
use Rattle.std.specs.Prelude.{◌≡◌, ℕ, ◌-◌, ◌^◌, ◌<◌, ◌==◌, min, sum, Bool, true, List, length, Some, slice_get}
use Rattle.std.specs.List.{AllByRecursion, list_any}
use Rattle.ny_heap.specs.Heap.{live_of}
use Rattle.ny_heap.specs.Kinds.{UnitKind, kept_of_kinds}
use Rattle.ny_plan.specs.Rows.{RowSound}
use Rattle.ny_plan.specs.Plan.{plan}
use Rattle.ny_plan.specs.Need.{Filled}
use Rattle.ny_plan.specs.Fills.{Fills, counts, fills}
use Rattle.ny_plan.specs.Liveness.{live, live_of_kinds}
use Rattle.ny_plan.specs.Peak.{live_before}
use Rattle.ny_match.specs.Counting.{more_fills, higher_peak}
use Rattle.ny_pull.specs.Engine.{EngineState, channel_at}

-- ---- what holds between two pulls

-- how many blocks of each row are filled after so many pulls of each channel
abbrev pub filled_of : EngineState → Filled
filled_of e = counts e.heap.block (plan e.code e.rate) e.pulled

-- as many blocks are taken as are live by the plan, and as many of the units of some kinds as of the rows of these kinds; as many fills are
-- counted as there are blocks filled, up to the end of the count; and the channels are as many and as long as the plan says
pub record FollowsPlan (e : EngineState) : Type 0 where
  pub live : live_of e.heap ≡ live e.heap.block (plan e.code e.rate).rows (filled_of e)
  pub by_kind : (kinds : UnitKind → Bool) → kept_of_kinds kinds e.heap 0 e.heap.nodes ≡ live_of_kinds kinds e.heap.block (plan e.code e.rate).rows (filled_of e)
  pub fills : e.heap.fills ≡ min (sum (filled_of e)) (2 ^ 64 - 1)
  pub count : length e.pulled ≡ length (plan e.code e.rate).channels
  pub lens : (c : ℕ) (r : RowSound) → slice_get (plan e.code e.rate).channels c ≡ Some r → r.timing.len ≡ length (channel_at e c)

-- ---- a pull

-- which rows the plan fills for the next pull of channel c, in order
abbrev pub next_fills : EngineState → ℕ → List ℕ
next_fills e c = Fills.order (fills e.heap.block (plan e.code e.rate) (filled_of e) c)

-- how many blocks are live before each of them
abbrev pub next_live : EngineState → ℕ → List ℕ
next_live e c = live_before e.heap.block (plan e.code e.rate).rows (next_fills e c) (filled_of e)

-- A pull of channel c that gives samples fills these rows: what is filled then is what they lead to, so many fills more are counted, the peak is
-- the most that was live at one of them, and at each a block was free
pub record FillsAsPlanned (old new : EngineState) (c : ℕ) : Type 0 where
  pub leads : filled_of new ≡ Fills.filled (fills old.heap.block (plan old.code old.rate) (filled_of old) c)
  pub fills : new.heap.fills ≡ more_fills old.heap.fills (next_fills old c)
  pub peak : new.heap.peak ≡ higher_peak old.heap.peak (next_live old c)
  pub room : AllByRecursion (λ n. n < old.heap.pool) (next_live old c)

-- before one of these fills all blocks of the pool are live
abbrev pub FindsAllLive : EngineState → ℕ → Type 0
FindsAllLive e c = list_any (λ n. n == e.heap.pool) (next_live e c) ≡ true
