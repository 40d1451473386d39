-- When the sounds are heard that a program plays.
use Rattle.std.specs.Prelude.{ℕ, if◌then◌else◌, List, [], ◌∷◌, map, zip}
use Rattle.ny_num.specs.declared.rate.Rate.{Rate}
use Rattle.ny_num.specs.declared.timing.Timing.{Timing}
use Rattle.ny_num.specs.Resampling.{resampled_timing}
use Rattle.ny_num.specs.Mix.{channel_timing}
use Rattle.ny_warp.specs.declared.env.Env.{Env}
use Rattle.ny_warp.specs.Environment.{opening}
use Rattle.ny_check.specs.declared.node.Node.{Node}
use Rattle.ny_check.specs.declared.node.Node.TheVariants as node
use Rattle.ny_check.specs.declared.node.ExprId.{ExprId}
use Rattle.ny_check.specs.Code.{Code, node_at, function_at}
use Rattle.ny_check.specs.Recursion.{by_smaller}
use Rattle.ny_check.specs.Values.{scalars_of, test_of}
use Rattle.ny_timing.specs.Timings.{Timed, timing_at, timed_value_of, timed_after}

-- when the sounds are heard that an expression plays, in an environment and under what its names stand for
abbrev pub PlayedTimes : Type 0
PlayedTimes = Env → Timed → List Timing

-- an operand of `vector`
abbrev pub operand_time : Code → Env → Timed → ExprId → Timing
operand_time code env bound e = timing_at code e.0 env bound

-- when the sounds of a node are heard, by those of the nodes before it
abbrev pub played_node : Code → ℕ → Node → (ℕ → PlayedTimes) → PlayedTimes
played_node code e (node.Vector es) rec env bound = map (operand_time code env bound) es
played_node code e (node.Call f es) rec env bound =
    rec (function_at code f.0).body.0 env
    (zip (function_at code f.0).params (map (timed_value_of code (timing_at code) env bound) es))
played_node code e (node.Block bs value) rec env bound =
    rec value.0 env (timed_after code (timing_at code) env bs bound)
played_node code e (node.If c a b) rec env bound =
    if test_of code c (scalars_of bound) then rec a.0 env bound else rec b.0 env bound
played_node code e _ rec env bound = timing_at code e env bound ∷ []

-- when the sounds are heard that an expression plays, by recursion on the nodes before it
unfoldable pub played_at : Code → ℕ → PlayedTimes
played_at code = by_smaller (λ env bound. []) (λ e rec. played_node code e (node_at code e) rec)

-- a sound as a channel at a rate
abbrev pub channel_time : Rate → Timing → Timing
channel_time rate t = channel_timing (resampled_timing rate t)

-- the channels of a program at the rate of a command
unfoldable pub channel_times : Code → Rate → List Timing
channel_times code rate = map (channel_time rate) (played_at code code.play.0 (opening rate) [])
