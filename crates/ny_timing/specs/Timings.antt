-- When the sound of an expression is heard, from when the sounds are heard that its names stand for: the meaning, with
-- timings in place of sounds.
use Rattle.std.specs.Prelude.{◌≡◌, ℕ, ◌*◌, List, [], ◌∷◌, ◌++◌, map, zip, if◌then◌else◌, ℤ, pos, unwrap_or}
use Rattle.std.specs.List.{All, range_with_len}
use Rattle.ny_num.specs.Grid.{index_at}
use Rattle.ny_num.specs.declared.rate.Rate.{Rate}
use Rattle.ny_num.specs.declared.timing.Timing.{Timing}
use Rattle.ny_num.specs.Sound as sounds
use Rattle.ny_num.specs.Sound.{IsTiming, timing_of, placed_timing}
use Rattle.ny_num.specs.Resampling.{resampled_timing}
use Rattle.ny_num.specs.Mix.{mix_timing}
use Rattle.ny_warp.specs.declared.env.Env.{Env}
use Rattle.ny_warp.specs.Environment.{from_stop}
use Rattle.ny_scope.specs.Scopes.{last_of}
use Rattle.ny_resolve.specs.declared.term.NameId.{NameId}
use Rattle.ny_resolve.specs.declared.builtin.Order.{Order}
use Rattle.ny_resolve.specs.declared.builtin.Order.TheVariants as order
use Rattle.ny_resolve.specs.Keys.{same_name}
use Rattle.ny_check.specs.declared.node.Node.{Node}
use Rattle.ny_check.specs.declared.node.Node.TheVariants as node
use Rattle.ny_check.specs.declared.node.ExprId.{ExprId}
use Rattle.ny_check.specs.declared.value.Scalar.{Scalar}
use Rattle.ny_check.specs.declared.value.Scalar.TheVariants as scalar
use Rattle.ny_check.specs.declared.value.Value.{Value}
use Rattle.ny_check.specs.declared.value.Value.TheVariants.{Number, Sound}
use Rattle.ny_check.specs.Code.{Code, node_at, function_at}
use Rattle.ny_check.specs.Recursion.{by_smaller}
use Rattle.ny_check.specs.Values.{scalars_of, scalar_of, number_of, test_of}
use Rattle.ny_check.specs.Behaviours.{cue_timing}
use Rattle.ny_check.specs.Families.{pair_timing, leaf_time, changed_env}
use Rattle.ny_check.specs.Meaning.{Bound}

-- ---- names

-- what names stand for: numbers, and when sounds are heard
abbrev pub Timed : Type 0
Timed = List (NameId × Value Timing)

-- a number as it is, and of a sound when it is heard
abbrev pub timed_value : Value sounds.Sound → Value Timing
timed_value (Number v) = Number v
timed_value (Sound s) = Sound (timing_of s)

-- the numbers, and when the bound sounds are heard
abbrev pub timed : Bound → Timed
timed [] = []
timed (b ∷ bs) = (b.0, timed_value b.1) ∷ timed bs

-- a timing within the bounds, or a number
abbrev pub IsTimedValue : Value Timing → Type 0
IsTimedValue (Number v) = Unit {0}
IsTimedValue (Sound t) = IsTiming t

abbrev pub IsTimedName : NameId × Value Timing → Type 0
IsTimedName b = IsTimedValue b.1

-- every timing is within the bounds
abbrev pub AllTimed : Timed → Type 0
AllTimed names = All IsTimedName names

-- all are within the bounds and have this rate
abbrev pub IsTimingAt : Rate → Timing → Type 0
IsTimingAt rate t = IsTiming t × (t.rate ≡ rate)

-- when an expression is heard, in an environment and under what its names stand for
abbrev pub Times : Type 0
Times = Env → Timed → Timing

-- no sound: nothing is heard, from 0 on
abbrev pub no_time : Rate → Timing
no_time rate = record { rate = rate; start = 0; len = 0; stop = 0 }

-- when a bare name is heard; no sound where it stands for a number
abbrev pub timing_in : Rate → Value Timing → Timing
timing_in rate (Number v) = no_time rate
timing_in rate (Sound t) = t

-- a number where the expression is one, and else when it is heard
abbrev pub timed_by : Scalar → Timing → Value Timing
timed_by (scalar.Number v) t = Number v
timed_by _ t = Sound t

-- what an argument or a bind is for the body that sees it
abbrev pub timed_value_of : Code → (ℕ → Times) → Env → Timed → ExprId → Value Timing
timed_value_of code rec env bound e = timed_by (scalar_of code e.0 (scalars_of bound)) (rec e.0 env bound)

-- each bind of a block sees those before it
abbrev pub timed_after : Code → (ℕ → Times) → Env → List (NameId × ExprId) → Timed → Timed
timed_after code rec env [] bound = bound
timed_after code rec env (b ∷ bs) bound =
    timed_after code rec env bs (bound ++ (b.0, timed_value_of code rec env bound b.1) ∷ [])

-- the number that an expression is
abbrev pub number : Code → Timed → ExprId → ℤ
number code bound e = number_of code e (scalars_of bound)

-- ---- pointwise sounds

-- two sounds at the rate, together; beside a number a sound is heard as it is
abbrev pub combined_times : (Timing → Timing → Timing) → Rate → Value Timing → Value Timing → Timing
combined_times timing rate (Number j) (Number k) = no_time rate
combined_times timing rate (Number k) (Sound b) = resampled_timing rate b
combined_times timing rate (Sound a) (Number k) = resampled_timing rate a
combined_times timing rate (Sound a) (Sound b) = timing (resampled_timing rate a) (resampled_timing rate b)

-- a sound with the other sign, at the rate
abbrev pub negated_time : Rate → Value Timing → Timing
negated_time rate (Number k) = no_time rate
negated_time rate (Sound t) = resampled_timing rate t

-- ---- parts

-- a part in the environment, brought to the sound rate
abbrev pub brought_time : Env → (Env → Timing) → Timing
brought_time env part = resampled_timing env.sound_rate (part env)

-- `sim`, `simrep`: all parts in the same environment
abbrev pub times_together : Env → List (Env → Timing) → List Timing
times_together env parts = map (brought_time env) parts

-- the part that follows one with this stop: from that stop on, brought to the sound rate, and placed there
abbrev pub next_time : Env → ℕ → (Env → Timing) → Timing
next_time env stop part =
    placed_timing (index_at stop env.sound_rate) (resampled_timing env.sound_rate (part (from_stop env stop)))

-- the parts that follow one with this stop
abbrev pub times_after : Env → ℕ → List (Env → Timing) → List Timing
times_after env stop [] = []
times_after env stop (part ∷ parts) = let t = next_time env stop part in t ∷ times_after env t.stop parts

-- `seq`, `seqrep`: the first part in the environment, and the others after it
abbrev pub times_in_turn : Env → List (Env → Timing) → List Timing
times_in_turn env [] = []
times_in_turn env (part ∷ parts) = let t = brought_time env part in t ∷ times_after env t.stop parts

-- all parts together, or one after the other
abbrev pub times_in : Order → Env → List (Env → Timing) → List Timing
times_in order.Together env parts = times_together env parts
times_in order.InTurn env parts = times_in_turn env parts

-- a part of `sim` or `seq`, from an environment
abbrev pub time_of_part : (ℕ → Times) → Timed → ExprId → Env → Timing
time_of_part rec bound e from = rec e.0 from bound

-- part k of `simrep` or `seqrep`: the name stands for the number k
abbrev pub time_of_repeat : (ℕ → Times) → Timed → NameId → ExprId → ℕ → Env → Timing
time_of_repeat rec bound i e k from = rec e.0 from (bound ++ (i, Number (pos (k * 1000000))) ∷ [])

-- the parts 0, 1, .. up to so many
abbrev pub times_of_repeats : (ℕ → Times) → Timed → NameId → ℕ → ExprId → List (Env → Timing)
times_of_repeats rec bound i count e = map (time_of_repeat rec bound i e) (range_with_len 0 count)

-- ---- expressions

-- expressions that are always a sound: leaves, effects, cues, mixes and changes
abbrev pub sounding_time : Code → Node → (ℕ → Times) → Times
sounding_time code (node.Leaf w es) rec env bound = leaf_time w env (map (number code bound) es)
sounding_time code (node.Effect w e es) rec env bound = rec e.0 env bound
sounding_time code (node.Cue e) rec env bound = cue_timing env (rec e.0 env bound)
sounding_time code (node.Mix o es) rec env bound =
    mix_timing env.sound_rate (times_in o env (map (time_of_part rec bound) es))
sounding_time code (node.Repeat o i n e) rec env bound =
    mix_timing env.sound_rate (times_in o env (times_of_repeats rec bound i n e))
sounding_time code (node.Change c e) rec env bound = rec e.0 (changed_env c (number code bound) env) bound
sounding_time code _ rec env bound = no_time env.sound_rate

-- when a node is heard, by when the nodes before it are heard
abbrev pub timing_node : Code → Node → (ℕ → Times) → Times
timing_node code (node.Number v) rec env bound = no_time env.sound_rate
timing_node code (node.Local x) rec env bound =
    timing_in env.sound_rate (unwrap_or (last_of (same_name x) bound) (Sound (no_time env.sound_rate)))
timing_node code (node.Global e) rec env bound = no_time env.sound_rate
timing_node code (node.Call f es) rec env bound =
    rec (function_at code f.0).body.0 env
    (zip (function_at code f.0).params (map (timed_value_of code rec env bound) es))
timing_node code (node.Block bs e) rec env bound = rec e.0 env (timed_after code rec env bs bound)
timing_node code (node.If c a b) rec env bound =
    if test_of code c (scalars_of bound) then rec a.0 env bound else rec b.0 env bound
timing_node code (node.Pair op a b) rec env bound =
    combined_times (pair_timing op) env.sound_rate
    (timed_value_of code rec env bound a) (timed_value_of code rec env bound b)
timing_node code (node.Neg a) rec env bound = negated_time env.sound_rate (timed_value_of code rec env bound a)
timing_node code at rec env bound = sounding_time code at rec env bound

-- when an expression is heard, by recursion on the nodes before it
unfoldable pub timing_at : Code → ℕ → Times
timing_at code = by_smaller (λ env bound. no_time env.sound_rate) (λ e rec. timing_node code (node_at code e) rec)
