-- When the sounds of a node are heard, where the nodes that it names stand before it.
use Rattle.std.proofs.Common.{◌≡◌, ℕ, [], refl, sym, ap, ◌∙◌, subst}
use Rattle.ny_warp.specs.declared.env.Env.{Env}
use Rattle.ny_check.specs.declared.node.Node.{Node}
use Rattle.ny_check.specs.declared.node.Node.TheVariants as node
use Rattle.ny_check.specs.Code.{Code, node_at, function_at, IsBelow}
use Rattle.ny_check.specs.Recursion.{below}
use Rattle.ny_check.proofs.Smaller.{below-at, by_smaller-is}
use Rattle.ny_timing.specs.Timings.{Timed}
use Rattle.ny_timing.specs.Played.{PlayedTimes, played_node, played_at}

played_node-below : (code : Code) (n e : ℕ) (other : PlayedTimes) (f : ℕ → PlayedTimes) (at : Node) (env : Env) (bound : Timed) → IsBelow code.functions n at → played_node code e at (below n other f) env bound ≡ played_node code e at f env bound
played_node-below code n e other f (node.Call g es) env bound h = rw (below-at n (function_at code g.0).body.0 other f h.2)
played_node-below code n e other f (node.Block bs v) env bound h = rw (below-at n v.0 other f h.1)
played_node-below code n e other f (node.If c a b) env bound h = rw (below-at n a.0 other f h.1, below-at n b.0 other f h.2)
played_node-below code n e other f _ env bound h = refl

played_at-is : (code : Code) (e : ℕ) (env : Env) (bound : Timed) → IsBelow code.functions e (node_at code e) → played_at code e env bound ≡ played_node code e (node_at code e) (played_at code) env bound
unfolding played_at
played_at-is code e env bound h =
    ap (λ (g : PlayedTimes). g env bound) (by_smaller-is (λ (from : Env) (names : Timed). []) (λ m rec. played_node code m (node_at code m) rec) e)
    ∙ played_node-below code e e (λ from names. []) (played_at code) (node_at code e) env bound h

-- the same, where the node is known
pub played_at-at : (code : Code) (e : ℕ) (at here : Node) (env : Env) (bound : Timed) → here ≡ node_at code e → here ≡ at → IsBelow code.functions e here → played_at code e env bound ≡ played_node code e at (played_at code) env bound
played_at-at code e at here env bound found is h =
    let P : Node → Type 0 = λ n. IsBelow code.functions e n in
    played_at-is code e env bound (subst P found h) ∙ ap (λ (n : Node). played_node code e n (played_at code) env bound) (sym found ∙ is)

pub ruleset by_node = (played_at-at)
