-- When a node is heard, where the nodes that it names stand before it.
use Rattle.std.proofs.Common.{◌≡◌, ℕ, ◌<◌, List, [], ◌∷◌, ◌++◌, map, refl, sym, ap, ◌∙◌, subst}
use Rattle.ny_num.specs.declared.timing.Timing.{Timing}
use Rattle.ny_num.specs.Mix.{mix_timing}
use Rattle.ny_warp.specs.declared.env.Env.{Env}
use Rattle.ny_resolve.specs.declared.term.NameId.{NameId}
use Rattle.ny_check.specs.declared.node.Node.{Node}
use Rattle.ny_check.specs.declared.node.Node.TheVariants as node
use Rattle.ny_check.specs.declared.node.ExprId.{ExprId}
use Rattle.ny_check.specs.declared.value.Value.{Value}
use Rattle.ny_check.specs.Code.{Code, node_at, function_at, IsBelow, AllBelow, BindsBelow}
use Rattle.ny_check.specs.Recursion.{below}
use Rattle.ny_check.specs.Values.{scalars_of, scalar_of}
use Rattle.ny_check.proofs.Smaller.{below-at, by_smaller-is}
use Rattle.ny_timing.specs.Timings.{Timed, Times, timing_at, timing_node, timed_value_of, timed_by, timed_after, times_in, time_of_part, times_of_repeats, no_time}

timed_value_of-below : (code : Code) (n : ℕ) (other : Times) (f : ℕ → Times) (env : Env) (bound : Timed) (e : ExprId) → e.0 < n → timed_value_of code (below n other f) env bound e ≡ timed_value_of code f env bound e
timed_value_of-below code n other f env bound e h =
    ap (λ (g : Times). timed_by (scalar_of code e.0 (scalars_of bound)) (g env bound)) (below-at n e.0 other f h)

timed_values-below : (code : Code) (n : ℕ) (other : Times) (f : ℕ → Times) (env : Env) (bound : Timed) (es : List ExprId) → AllBelow n es → map (timed_value_of code (below n other f) env bound) es ≡ map (timed_value_of code f env bound) es
timed_values-below code n other f env bound [] h = refl
timed_values-below code n other f env bound (e ∷ es) h =
    let first = timed_value_of-below code n other f env bound e h.0 in
    let rest = timed_values-below code n other f env bound es h.1 in
    cc

timed_after-below : (code : Code) (n : ℕ) (other : Times) (f : ℕ → Times) (env : Env) (bs : List (NameId × ExprId)) (bound : Timed) → BindsBelow n bs → timed_after code (below n other f) env bs bound ≡ timed_after code f env bs bound
timed_after-below code n other f env [] bound h = refl
timed_after-below code n other f env (b ∷ bs) bound h =
    ap (λ (v : Value Timing). timed_after code (below n other f) env bs (bound ++ (b.0, v) ∷ [])) (timed_value_of-below code n other f env bound b.1 h.0)
    ∙ timed_after-below code n other f env bs (bound ++ (b.0, timed_value_of code f env bound b.1) ∷ []) h.1

times-below : (n : ℕ) (other : Times) (f : ℕ → Times) (bound : Timed) (es : List ExprId) → AllBelow n es → map (time_of_part (below n other f) bound) es ≡ map (time_of_part f bound) es
times-below n other f bound [] h = refl
times-below n other f bound (e ∷ es) h =
    let first : time_of_part (below n other f) bound e ≡ time_of_part f bound e = ap (λ (g : Times). time_of_part (λ _. g) bound e) (below-at n e.0 other f h.0) in
    let rest = times-below n other f bound es h.1 in
    cc

repeats-below : (n : ℕ) (other : Times) (f : ℕ → Times) (bound : Timed) (i : NameId) (count : ℕ) (e : ExprId) → e.0 < n → times_of_repeats (below n other f) bound i count e ≡ times_of_repeats f bound i count e
repeats-below n other f bound i count e h = ap (λ (g : Times). times_of_repeats (λ _. g) bound i count e) (below-at n e.0 other f h)

pub timing_node-below : (code : Code) (n : ℕ) (other : Times) (f : ℕ → Times) (at : Node) (env : Env) (bound : Timed) → IsBelow code.functions n at → timing_node code at (below n other f) env bound ≡ timing_node code at f env bound
timing_node-below code n other f (node.Call g es) env bound h = rw (timed_values-below code n other f env bound es h.0, below-at n (function_at code g.0).body.0 other f h.2)
timing_node-below code n other f (node.Block bs e) env bound h = rw (timed_after-below code n other f env bs bound h.0, below-at n e.0 other f h.1)
timing_node-below code n other f (node.If c a b) env bound h = rw (below-at n a.0 other f h.1, below-at n b.0 other f h.2)
timing_node-below code n other f (node.Pair op a b) env bound h = rw (timed_value_of-below code n other f env bound a h.0, timed_value_of-below code n other f env bound b h.1)
timing_node-below code n other f (node.Neg a) env bound h = rw (timed_value_of-below code n other f env bound a h)
timing_node-below code n other f (node.Effect w e es) env bound h = rw (below-at n e.0 other f h.0)
timing_node-below code n other f (node.Cue e) env bound h = rw (below-at n e.0 other f h)
timing_node-below code n other f (node.Mix o es) env bound h = ap (λ ps. mix_timing env.sound_rate (times_in o env ps)) (times-below n other f bound es h)
timing_node-below code n other f (node.Repeat o i k e) env bound h = ap (λ ps. mix_timing env.sound_rate (times_in o env ps)) (repeats-below n other f bound i k e h)
timing_node-below code n other f (node.Change c e) env bound h = rw (below-at n e.0 other f h.1)
timing_node-below code n other f _ env bound h = refl

pub timing_at-is : (code : Code) (e : ℕ) (env : Env) (bound : Timed) → IsBelow code.functions e (node_at code e) → timing_at code e env bound ≡ timing_node code (node_at code e) (timing_at code) env bound
unfolding timing_at
timing_at-is code e env bound h =
    ap (λ (g : Times). g env bound) (by_smaller-is (λ (from : Env) (names : Timed). no_time from.sound_rate) (λ m rec. timing_node code (node_at code m) rec) e)
    ∙ timing_node-below code e (λ from names. no_time from.sound_rate) (timing_at code) (node_at code e) env bound h

-- the same, where the node is known
pub timing_at-at : (code : Code) (e : ℕ) (at here : Node) (env : Env) (bound : Timed) → here ≡ node_at code e → here ≡ at → IsBelow code.functions e here → timing_at code e env bound ≡ timing_node code at (timing_at code) env bound
timing_at-at code e at here env bound found is h =
    let P : Node → Type 0 = λ n. IsBelow code.functions e n in
    timing_at-is code e env bound (subst P found h) ∙ ap (λ (n : Node). timing_node code n (timing_at code) env bound) (sym found ∙ is)

pub ruleset by_node = (timing_at-at)
