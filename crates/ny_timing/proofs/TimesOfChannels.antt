-- When the channels of a program are heard.
use Rattle.std.proofs.Common.{◌≡◌, ℕ, zero, suc, ◌+◌, Bool, true, false, List, [], ◌∷◌, map, refl, sym, ap, ◌∙◌}
use Rattle.std.specs.Prelude.{if◌then◌else◌, zip, nat_lt}
use Rattle.ny_num.specs.declared.rate.Rate.{Rate}
use Rattle.ny_num.specs.declared.timing.Timing.{Timing}
use Rattle.ny_num.specs.Sound.{Sound, timing_of}
use Rattle.ny_num.specs.Resampling.{resampled}
use Rattle.ny_num.specs.Mix.{channel_timing}
use Rattle.ny_num.proofs.SoundTimings.{timing_of-resampled, timing_of-channel}
use Rattle.ny_warp.specs.declared.env.Env.{Env}
use Rattle.ny_warp.specs.Environment.{opening}
use Rattle.ny_check.specs.declared.node.Node.{Node}
use Rattle.ny_check.specs.declared.node.Node.TheVariants as node
use Rattle.ny_check.specs.declared.node.ExprId.{ExprId}
use Rattle.ny_check.specs.Code.{Code, node_at, function_at}
use Rattle.ny_check.specs.Recursion.{below, turns, by_smaller}
use Rattle.ny_check.specs.Values.{scalars_of, test_of}
use Rattle.ny_check.specs.Meaning.{Bound, meaning, value_of, bound_after}
use Rattle.ny_check.specs.Channels.{Plays, plays_node, played, operand, channel_at, channels}
use Rattle.ny_timing.specs.Timings.{timed, timing_at}
use Rattle.ny_timing.specs.Played.{PlayedTimes, played_node, played_at, operand_time, channel_time, channel_times}
use Rattle.ny_timing.proofs.TimesOfSounds.{Agrees, scalars_of-timed, arguments-timed, bound_after-timed, timing_of-meaning}

-- at each number the one is when the others are heard
record PlaysAgree (f : ℕ → Plays) (g : ℕ → PlayedTimes) : Type 0 where
  at : (m : ℕ) (env : Env) (bound : Bound) → map timing_of (f m env bound) ≡ g m env (timed bound)

meanings-agree : (code : Code) → Agrees (meaning code) (timing_at code)
meanings-agree code = record { at = timing_of-meaning code }

operands-timed : (code : Code) (env : Env) (bound : Bound) (es : List ExprId) → map timing_of (map (operand code env bound) es) ≡ map (operand_time code env (timed bound)) es
operands-timed code env bound [] = refl
operands-timed code env bound (e ∷ es) =
    let first : timing_of (operand code env bound e) ≡ operand_time code env (timed bound) e = timing_of-meaning code e.0 env bound in
    let rest = operands-timed code env bound es in
    cc

times_of-if : (b : Bool) (s t : List Sound) (u v : List Timing) → map timing_of s ≡ u → map timing_of t ≡ v → map timing_of (if b then s else t) ≡ (if b then u else v)
times_of-if true s t u v h k = h
times_of-if false s t u v h k = k

plays_node-timed : (code : Code) (e : ℕ) (f : ℕ → Plays) (g : ℕ → PlayedTimes) → PlaysAgree f g → (at : Node) (env : Env) (bound : Bound) → map timing_of (plays_node code e at f env bound) ≡ played_node code e at g env (timed bound)
plays_node-timed code e f g h (node.Vector es) env bound = operands-timed code env bound es
plays_node-timed code e f g h (node.Call k es) env bound =
    h.at (function_at code k.0).body.0 env (zip (function_at code k.0).params (map (value_of code (meaning code) env bound) es))
    ∙ ap (g (function_at code k.0).body.0 env) (arguments-timed code (meaning code) (timing_at code) (meanings-agree code) env bound (function_at code k.0).params es)
plays_node-timed code e f g h (node.Block bs v) env bound =
    h.at v.0 env (bound_after code (meaning code) env bs bound)
    ∙ ap (g v.0 env) (bound_after-timed code (meaning code) (timing_at code) (meanings-agree code) env bs bound)
plays_node-timed code e f g h (node.If c a b) env bound =
    rw (scalars_of-timed bound) (times_of-if (test_of code c (scalars_of bound)) (f a.0 env bound) (f b.0 env bound) (g a.0 env (timed bound)) (g b.0 env (timed bound)) (h.at a.0 env bound) (h.at b.0 env bound))
plays_node-timed code e f g h _ env bound = ap (λ (t : Timing). t ∷ []) (timing_of-meaning code e env bound)

by_case : (b : Bool) (f : Plays) (g : PlayedTimes) (env : Env) (bound : Bound) → map timing_of (f env bound) ≡ g env (timed bound) → map timing_of ((if b then f else (λ from names. [])) env bound) ≡ (if b then g else (λ from names. [])) env (timed bound)
by_case true f g env bound h = h
by_case false f g env bound h = refl

below-agree : (n : ℕ) (f : ℕ → Plays) (g : ℕ → PlayedTimes) → PlaysAgree f g → PlaysAgree (below n (λ env bound. []) f) (below n (λ env bound. []) g)
below-agree n f g h = record { at = λ m env bound. by_case (nat_lt m n) (f m) (g m) env bound (h.at m env bound) }

turns-agree : (code : Code) (k : ℕ) → PlaysAgree (turns (λ env bound. []) (λ e rec. plays_node code e (node_at code e) rec) k) (turns (λ env bound. []) (λ e rec. played_node code e (node_at code e) rec) k)
turns-agree code zero = record { at = λ m env bound. refl }
turns-agree code (suc k) = record {
  at = λ m env bound.
      plays_node-timed code m _ _ (below-agree m _ _ (turns-agree code k)) (node_at code m) env bound;
}

times_of-played : (code : Code) (e : ℕ) (env : Env) (bound : Bound) → map timing_of (played code e env bound) ≡ played_at code e env (timed bound)
unfolding played played_at by_smaller
times_of-played code e env bound = (turns-agree code (e + 1)).at e env bound

channels-timed : (rate : Rate) (ss : List Sound) → map timing_of (map (channel_at rate) ss) ≡ map (channel_time rate) (map timing_of ss)
channels-timed rate [] = refl
channels-timed rate (s ∷ ss) =
    let first : timing_of (channel_at rate s) ≡ channel_time rate (timing_of s) = timing_of-channel (resampled rate s) ∙ ap channel_timing (timing_of-resampled rate s) in
    let rest = channels-timed rate ss in
    cc

times_of-channels : (code : Code) (rate : Rate) → map timing_of (channels code rate) ≡ channel_times code rate
unfolding channels channel_times
times_of-channels code rate =
    channels-timed rate (played code code.play.0 (opening rate) [])
    ∙ ap (map (channel_time rate)) (times_of-played code code.play.0 (opening rate) [])

-- the same, for whoever has the timings
pub played_times : (code : Code) (rate : Rate) (ts : List Timing) → ts ≡ channel_times code rate → ts ≡ map timing_of (channels code rate)
played_times code rate ts h = h ∙ sym (times_of-channels code rate)

pub ruleset by_meaning = (played_times)
