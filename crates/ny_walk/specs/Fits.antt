-- The parts that wait end no later than their unit. When they are heard follows from timings alone.
use Rattle.std.specs.Prelude.{◌≡◌, ℕ, ◌+◌, ◌<◌, ◌≤◌, List, [], ◌∷◌, Some, length, slice_index_or}
use Rattle.ny_num.specs.declared.rate.Rate.{Rate}
use Rattle.ny_num.specs.declared.timing.Timing.{Timing}
use Rattle.ny_warp.specs.declared.env.Env.{Env}
use Rattle.ny_resolve.specs.declared.term.NameId.{NameId}
use Rattle.ny_check.specs.declared.value.Value.{Value}
use Rattle.ny_check.specs.declared.value.Value.TheVariants.{Number, Sound as SoundOf}
use Rattle.ny_check.specs.Code.{Code}
use Rattle.ny_timing.specs.Timings.{Timed, no_time, next_time, timing_at}
use Rattle.ny_heap.specs.declared.sound.Sound.{Sound}
use Rattle.ny_heap.specs.Heap.{Captured, Waiting, Node, HeapState, node_at}
use Rattle.ny_hands.specs.declared.branch.Branch.{Branch}
use Rattle.ny_hands.specs.Frames.{Names}
use Rattle.ny_trace.specs.Evaluates.{Trace, times_in}

-- ---- when parts are heard

-- a sound that a part kept, or a number
abbrev pub kept_time : Rate → List Timing → Value ℕ → Value Timing
kept_time r ts (Number v) = Number v
kept_time r ts (SoundOf k) = SoundOf (slice_index_or ts k (no_time r))

-- what the names of a part stand for, by when the sounds that it kept are heard
abbrev pub kept_times : Rate → List Timing → List (NameId × Value ℕ) → Timed
kept_times r ts [] = []
kept_times r ts (b ∷ bs) = (b.0, kept_time r ts b.1) ∷ kept_times r ts bs

abbrev pub times_of : List Captured → List Timing
times_of [] = []
times_of (c ∷ cs) = c.timing ∷ times_of cs

-- when a part that waits is heard, once the part before it has stopped
abbrev pub part_time : Code → ℕ → Waiting Branch → Timing
part_time code stop p =
    next_time p.branch.env stop (λ from. timing_at code p.branch.expr.0 from (kept_times p.branch.env.sound_rate (times_of p.captured) p.branch.names))

-- all that wait, in turn from this stop
abbrev pub part_times : Code → ℕ → List (Waiting Branch) → List Timing
part_times code stop [] = []
part_times code stop (p ∷ ps) = let t = part_time code stop p in t ∷ part_times code t.stop ps

-- ---- what fits

-- each of these ends no later than this index
abbrev pub EndBy : ℕ → List Timing → Type 0
EndBy end [] = Unit {0}
EndBy end (t ∷ ts) = (t.start + t.len ≤ end) × EndBy end ts

-- Where no part of a unit is still to be attached, those that wait end within it, in turn from the stop of the part that it was given last
abbrev pub FitsUnit : Code → Node Branch → Type 0
FitsUnit code x = x.pending ≡ 0 → EndBy (x.timing.start + x.timing.len) (part_times code x.last_stop x.waiting)

abbrev pub Fits : Code → HeapState Branch → Type 0
Fits code h = (v : ℕ) (x : Node Branch) → node_at h v ≡ Some x → FitsUnit code x

-- ---- evaluation

-- what is evaluated is heard when the timings of its names tell
abbrev pub IsTold : Code → Trace → Type 0
IsTold code D =
    (e : ℕ) (env : Env) (names : Names) (old new : HeapState Branch) (s : Sound) → D e env names old new s → e < length code.nodes → s.timing ≡ timing_at code e env (times_in names)

-- an evaluation leaves parts that fit
abbrev pub IsFitting : Code → Trace → Type 0
IsFitting code D =
    (e : ℕ) (env : Env) (names : Names) (old new : HeapState Branch) (s : Sound) → D e env names old new s → e < length code.nodes → Fits code old → Fits code new
