-- What an expression means at each kind of node, where the nodes named stand before it.
use Rattle.std.proofs.Common.{◌≡◌, ℕ, ◌<◌, List, [], ◌∷◌, ◌++◌, map, refl, sym, ap, ◌∙◌, subst}
use Rattle.ny_num.specs.Sound as sounds
use Rattle.ny_num.specs.Sound.{silence}
use Rattle.ny_num.specs.Mix.{mix}
use Rattle.ny_warp.specs.declared.env.Env.{Env}
use Rattle.ny_resolve.specs.declared.term.NameId.{NameId}
use Rattle.ny_check.specs.declared.node.Node.{Node}
use Rattle.ny_check.specs.declared.node.Node.TheVariants as node
use Rattle.ny_check.specs.declared.node.ExprId.{ExprId}
use Rattle.ny_check.specs.declared.value.Value.{Value}
use Rattle.ny_check.specs.Code.{Code, node_at, function_at, IsBelow, AllBelow, BindsBelow}
use Rattle.ny_check.specs.Recursion.{below}
use Rattle.ny_check.specs.Values.{scalar_of, scalars_of}
use Rattle.ny_check.specs.Parts.{parts_in}
use Rattle.ny_check.specs.Meaning.{Bound, Means, meaning, sound_node, value_of, value_by, bound_after, part_of, repeated_parts}
use Rattle.ny_check.proofs.Smaller.{below-at, by_smaller-is}

value_of-below : (code : Code) (n : ℕ) (other : Means) (f : ℕ → Means) (env : Env) (bound : Bound) (e : ExprId) → e.0 < n → value_of code (below n other f) env bound e ≡ value_of code f env bound e
value_of-below code n other f env bound e h =
    ap (λ (g : Means). value_by (scalar_of code e.0 (scalars_of bound)) (g env bound)) (below-at n e.0 other f h)

values-below : (code : Code) (n : ℕ) (other : Means) (f : ℕ → Means) (env : Env) (bound : Bound) (es : List ExprId) → AllBelow n es → map (value_of code (below n other f) env bound) es ≡ map (value_of code f env bound) es
values-below code n other f env bound [] h = refl
values-below code n other f env bound (e ∷ es) h =
    let first = value_of-below code n other f env bound e h.0 in
    let rest = values-below code n other f env bound es h.1 in
    cc

bound_after-below : (code : Code) (n : ℕ) (other : Means) (f : ℕ → Means) (env : Env) (bs : List (NameId × ExprId)) (bound : Bound) → BindsBelow n bs → bound_after code (below n other f) env bs bound ≡ bound_after code f env bs bound
bound_after-below code n other f env [] bound h = refl
bound_after-below code n other f env (b ∷ bs) bound h =
    ap (λ (v : Value sounds.Sound). bound_after code (below n other f) env bs (bound ++ (b.0, v) ∷ [])) (value_of-below code n other f env bound b.1 h.0)
    ∙ bound_after-below code n other f env bs (bound ++ (b.0, value_of code f env bound b.1) ∷ []) h.1

parts-below : (n : ℕ) (other : Means) (f : ℕ → Means) (bound : Bound) (es : List ExprId) → AllBelow n es → map (part_of (below n other f) bound) es ≡ map (part_of f bound) es
parts-below n other f bound [] h = refl
parts-below n other f bound (e ∷ es) h =
    let first : part_of (below n other f) bound e ≡ part_of f bound e = ap (λ (g : Means). part_of (λ _. g) bound e) (below-at n e.0 other f h.0) in
    let rest = parts-below n other f bound es h.1 in
    cc

repeats-below : (n : ℕ) (other : Means) (f : ℕ → Means) (bound : Bound) (i : NameId) (count : ℕ) (e : ExprId) → e.0 < n → repeated_parts (below n other f) bound i count e ≡ repeated_parts f bound i count e
repeats-below n other f bound i count e h = ap (λ (g : Means). repeated_parts (λ _. g) bound i count e) (below-at n e.0 other f h)

pub sound_node-below : (code : Code) (n : ℕ) (other : Means) (f : ℕ → Means) (at : Node) (env : Env) (bound : Bound) → IsBelow code.functions n at → sound_node code at (below n other f) env bound ≡ sound_node code at f env bound
sound_node-below code n other f (node.Call g es) env bound h = rw (values-below code n other f env bound es h.0, below-at n (function_at code g.0).body.0 other f h.2)
sound_node-below code n other f (node.Block bs e) env bound h = rw (bound_after-below code n other f env bs bound h.0, below-at n e.0 other f h.1)
sound_node-below code n other f (node.If c a b) env bound h = rw (below-at n a.0 other f h.1, below-at n b.0 other f h.2)
sound_node-below code n other f (node.Pair op a b) env bound h = rw (value_of-below code n other f env bound a h.0, value_of-below code n other f env bound b h.1)
sound_node-below code n other f (node.Neg a) env bound h = rw (value_of-below code n other f env bound a h)
sound_node-below code n other f (node.Effect w e es) env bound h = rw (below-at n e.0 other f h.0)
sound_node-below code n other f (node.Cue e) env bound h = rw (below-at n e.0 other f h)
sound_node-below code n other f (node.Mix o es) env bound h = ap (λ ps. mix env.sound_rate (parts_in o env ps)) (parts-below n other f bound es h)
sound_node-below code n other f (node.Repeat o i k e) env bound h = ap (λ ps. mix env.sound_rate (parts_in o env ps)) (repeats-below n other f bound i k e h)
sound_node-below code n other f (node.Change c e) env bound h = rw (below-at n e.0 other f h.1)
sound_node-below code n other f _ env bound h = refl

-- the meaning at a node, with the meaning itself in place of what the nodes before it mean
pub meaning-is : (code : Code) (e : ℕ) (env : Env) (bound : Bound) → IsBelow code.functions e (node_at code e) → meaning code e env bound ≡ sound_node code (node_at code e) (meaning code) env bound
unfolding meaning
meaning-is code e env bound h =
    ap (λ (g : Means). g env bound) (by_smaller-is (λ (from : Env) (names : Bound). silence from.sound_rate) (λ m rec. sound_node code (node_at code m) rec) e)
    ∙ sound_node-below code e (λ from names. silence from.sound_rate) (meaning code) (node_at code e) env bound h

-- the same, where the node is known
pub meaning-at : (code : Code) (e : ℕ) (at here : Node) (env : Env) (bound : Bound) → here ≡ node_at code e → here ≡ at → IsBelow code.functions e here → meaning code e env bound ≡ sound_node code at (meaning code) env bound
meaning-at code e at here env bound found is h =
    let P : Node → Type 0 = λ n. IsBelow code.functions e n in
    meaning-is code e env bound (subst P found h) ∙ ap (λ (n : Node). sound_node code n (meaning code) env bound) (sym found ∙ is)
