-- What a program plays: its channels, as whole sounds from index 0 on, and its frames.
use Rattle.std.specs.Prelude.{ℕ, max, if◌then◌else◌, List, [], ◌∷◌, length, map, zip, ℤ}
use Rattle.std.specs.List.{range_with_len}
use Rattle.ny_num.specs.declared.rate.Rate.{Rate}
use Rattle.ny_num.specs.Sound.{Sound, value_at}
use Rattle.ny_num.specs.Resampling.{resampled}
use Rattle.ny_num.specs.Mix.{channel}
use Rattle.ny_warp.specs.declared.env.Env.{Env}
use Rattle.ny_warp.specs.Environment.{opening}
use Rattle.ny_check.specs.declared.node.Node.{Node}
use Rattle.ny_check.specs.declared.node.Node.TheVariants as node
use Rattle.ny_check.specs.declared.node.ExprId.{ExprId}
use Rattle.ny_check.specs.Code.{Code, node_at, function_at}
use Rattle.ny_check.specs.Recursion.{by_smaller}
use Rattle.ny_check.specs.Values.{scalars_of, test_of}
use Rattle.ny_check.specs.Meaning.{Bound, meaning, value_of, bound_after}

-- the sounds that an expression plays, in an environment and under what its names stand for
abbrev pub Plays : Type 0
Plays = Env → Bound → List Sound

-- an operand of `vector`
abbrev pub operand : Code → Env → Bound → ExprId → Sound
operand code env bound e = meaning code e.0 env bound

-- What a node plays, of what the nodes before it play: `vector` its operands, and calls, blocks and `#if` what is played
-- below them. Each other expression plays its one sound.
abbrev pub plays_node : Code → ℕ → Node → (ℕ → Plays) → Plays
plays_node code e (node.Vector es) rec env bound = map (operand code env bound) es
plays_node code e (node.Call f es) rec env bound =
    rec (function_at code f.0).body.0 env
    (zip (function_at code f.0).params (map (value_of code (meaning code) env bound) es))
plays_node code e (node.Block bs value) rec env bound =
    rec value.0 env (bound_after code (meaning code) env bs bound)
plays_node code e (node.If c a b) rec env bound =
    if test_of code c (scalars_of bound) then rec a.0 env bound else rec b.0 env bound
plays_node code e _ rec env bound = meaning code e env bound ∷ []

-- the sounds that an expression plays, by recursion on the nodes before it
unfoldable pub played : Code → ℕ → Plays
played code = by_smaller (λ env bound. []) (λ e rec. plays_node code e (node_at code e) rec)

-- a sound as a channel at a rate
abbrev pub channel_at : Rate → Sound → Sound
channel_at rate s = channel (resampled rate s)

-- the channels of a program at the rate of a command: what is played in the opening environment
unfoldable pub channels : Code → Rate → List Sound
channels code rate = map (channel_at rate) (played code code.play.0 (opening rate) [])

-- how many samples the longest channel has
abbrev pub longest : List Sound → ℕ
longest [] = 0
longest (s ∷ ss) = max (length s.samples) (longest ss)

-- frame n: the sample of each channel, and 0 of one that has ended
abbrev pub frame : List Sound → ℕ → List ℤ
frame channels n = map (λ (s : Sound). value_at s n) channels

-- as many frames as the longest channel has samples
unfoldable pub frames : List Sound → List (List ℤ)
frames channels = map (frame channels) (range_with_len 0 (longest channels))
