-- What a scalar is at each kind of node, where the nodes named stand before it.
use Rattle.std.proofs.Common.{◌≡◌, ℕ, List, [], ◌∷◌, ◌++◌, map, refl, sym, ap, ◌∙◌, subst}
use Rattle.std.specs.Prelude.{zip}
use Rattle.ny_resolve.specs.declared.term.NameId.{NameId}
use Rattle.ny_check.specs.declared.node.Node.{Node}
use Rattle.ny_check.specs.declared.node.Node.TheVariants as node
use Rattle.ny_check.specs.declared.node.ExprId.{ExprId}
use Rattle.ny_check.specs.declared.node.FunctionId.{FunctionId}
use Rattle.ny_check.specs.declared.value.Scalar.{Scalar}
use Rattle.ny_check.specs.declared.value.Scalar.TheVariants as scalar
use Rattle.ny_check.specs.Code.{Code, node_at, function_at, IsBelow, AllBelow, BindsBelow}
use Rattle.ny_check.specs.Recursion.{below}
use Rattle.ny_check.specs.Values.{Scalars, scalar_of, scalar_node, scalars_after, argument, passed}
use Rattle.ny_check.proofs.Smaller.{below-at, by_smaller-is}

map-below : (n : ℕ) (other : Scalars → Scalar) (f : ℕ → Scalars → Scalar) (names : Scalars) (es : List ExprId) → AllBelow n es → map (argument (below n other f) names) es ≡ map (argument f names) es
map-below n other f names [] h = refl
map-below n other f names (e ∷ es) h =
    let first : argument (below n other f) names e ≡ argument f names e = ap (λ (g : Scalars → Scalar). passed (g names)) (below-at n e.0 other f h.0) in
    let rest = map-below n other f names es h.1 in
    cc

scalars_after-below : (n : ℕ) (other : Scalars → Scalar) (f : ℕ → Scalars → Scalar) (bs : List (NameId × ExprId)) (names : Scalars) → BindsBelow n bs → scalars_after (below n other f) bs names ≡ scalars_after f bs names
scalars_after-below n other f [] names h = refl
scalars_after-below n other f (b ∷ bs) names h =
    ap (λ (g : Scalars → Scalar). scalars_after (below n other f) bs (names ++ (b.0, passed (g names)) ∷ [])) (below-at n b.1.0 other f h.0)
    ∙ scalars_after-below n other f bs (names ++ (b.0, passed (f b.1.0 names)) ∷ []) h.1

pub scalar_node-below : (code : Code) (n : ℕ) (other : Scalars → Scalar) (f : ℕ → Scalars → Scalar) (at : Node) (names : Scalars) → IsBelow code.functions n at → scalar_node code at (below n other f) names ≡ scalar_node code at f names
scalar_node-below code n other f (node.Global e) names h = ap (λ (g : Scalars → Scalar). g []) (below-at n e.0 other f h)
scalar_node-below code n other f (node.Call g es) names h = rw (map-below n other f names es h.0, below-at n (function_at code g.0).body.0 other f h.2)
scalar_node-below code n other f (node.Block bs e) names h = rw (scalars_after-below n other f bs names h.0, below-at n e.0 other f h.1)
scalar_node-below code n other f (node.Pair op a b) names h = rw (below-at n a.0 other f h.0, below-at n b.0 other f h.1)
scalar_node-below code n other f (node.Div a v) names h = rw (below-at n a.0 other f h.0)
scalar_node-below code n other f (node.Neg a) names h = rw (below-at n a.0 other f h)
scalar_node-below code n other f (node.Compare r a b) names h = rw (below-at n a.0 other f h.0, below-at n b.0 other f h.1)
scalar_node-below code n other f (node.And a b) names h = rw (below-at n a.0 other f h.0, below-at n b.0 other f h.1)
scalar_node-below code n other f (node.Or a b) names h = rw (below-at n a.0 other f h.0, below-at n b.0 other f h.1)
scalar_node-below code n other f (node.Not a) names h = rw (below-at n a.0 other f h)
scalar_node-below code n other f (node.If c a b) names h = rw (below-at n c.0 other f h.0, below-at n a.0 other f h.1, below-at n b.0 other f h.2)
scalar_node-below code n other f _ names h = refl

pub scalar_of-is : (code : Code) (e : ℕ) (names : Scalars) → IsBelow code.functions e (node_at code e) → scalar_of code e names ≡ scalar_node code (node_at code e) (scalar_of code) names
unfolding scalar_of
scalar_of-is code e names h =
    ap (λ (g : Scalars → Scalar). g names) (by_smaller-is (λ n. scalar.Sound) (λ m rec. scalar_node code (node_at code m) rec) e)
    ∙ scalar_node-below code e (λ n. scalar.Sound) (scalar_of code) (node_at code e) names h

-- the same, where the node is known
pub scalar_of-at : (code : Code) (e : ℕ) (at here : Node) (names : Scalars) → here ≡ node_at code e → here ≡ at → IsBelow code.functions e here → scalar_of code e names ≡ scalar_node code at (scalar_of code) names
scalar_of-at code e at here names found is h =
    let P : Node → Type 0 = λ n. IsBelow code.functions e n in
    scalar_of-is code e names (subst P found h) ∙ ap (λ (n : Node). scalar_node code n (scalar_of code) names) (sym found ∙ is)

pub ruleset by_node = (scalar_of-at)

-- a call, by the steps of one: the arguments, the names in the body, the body
pub scalar_of-call : (code : Code) (e : ℕ) (f : FunctionId) (es : List ExprId) (here : Node) (names inner : Scalars) (params : List NameId) (arguments : List Scalar) (body : ExprId) (s : Scalar) → here ≡ node_at code e → here ≡ node.Call f es → IsBelow code.functions e here → arguments ≡ map (argument (scalar_of code) names) es → params ≡ (function_at code f.0).params → inner ≡ zip params arguments → body ≡ (function_at code f.0).body → s ≡ scalar_of code body.0 inner → s ≡ scalar_of code e names
scalar_of-call code e f es here names inner params arguments body s found is below args ps pairs b value =
    let eq = scalar_of-at code e (node.Call f es) here names found is below in
    value ∙ rw (b, pairs, ps, args) (sym eq)
