-- The height of an expression leaves room for what its node makes.
use Rattle.std.proofs.Common.{◌≡◌, ℕ, ◌<◌, ◌≤◌, ◌+◌, List, [], ◌∷◌, max, refl, sym, ap, ◌∙◌, arith}
use Rattle.ny_resolve.specs.declared.term.NameId.{NameId}
use Rattle.ny_check.specs.declared.node.Node.{Node}
use Rattle.ny_check.specs.declared.node.Node.TheVariants as node
use Rattle.ny_check.specs.declared.node.ExprId.{ExprId}
use Rattle.ny_check.specs.Code.{Code, node_at, function_at, IsBelow, AllBelow, BindsBelow, IsOrdered}
use Rattle.ny_check.specs.Recursion.{below}
use Rattle.ny_check.specs.Heights.{greatest, one_on_another, height_node, height_of, IsTall}
use Rattle.ny_check.proofs.Smaller.{below-at, by_smaller-is}

greatest-below : (n other : ℕ) (f : ℕ → ℕ) (es : List ExprId) → AllBelow n es → greatest (below n other f) es ≡ greatest f es
greatest-below n other f [] h = refl
greatest-below n other f (e ∷ es) h = rw (below-at n e.0 other f h.0, greatest-below n other f es h.1)

binds-below : (n other : ℕ) (f : ℕ → ℕ) (bs : List (NameId × ExprId)) → BindsBelow n bs → one_on_another (below n other f) bs ≡ one_on_another f bs
binds-below n other f [] h = refl
binds-below n other f (b ∷ bs) h = rw (below-at n b.1.0 other f h.0, binds-below n other f bs h.1)

height_node-below : (code : Code) (n other : ℕ) (f : ℕ → ℕ) (at : Node) → IsBelow code.functions n at → height_node code at (below n other f) ≡ height_node code at f
height_node-below code n other f (node.Call g es) h = rw (greatest-below n other f es h.0, below-at n (function_at code g.0).body.0 other f h.2)
height_node-below code n other f (node.Block bs e) h = rw (binds-below n other f bs h.0, below-at n e.0 other f h.1)
height_node-below code n other f (node.If c a b) h = rw (below-at n a.0 other f h.1, below-at n b.0 other f h.2)
height_node-below code n other f (node.Pair op a b) h = rw (below-at n a.0 other f h.0, below-at n b.0 other f h.1)
height_node-below code n other f (node.Neg a) h = rw (below-at n a.0 other f h)
height_node-below code n other f (node.Effect w e es) h = rw (below-at n e.0 other f h.0)
height_node-below code n other f (node.Cue e) h = rw (below-at n e.0 other f h)
height_node-below code n other f (node.Mix o es) h = rw (greatest-below n other f es h)
height_node-below code n other f (node.Repeat o i k e) h = rw (below-at n e.0 other f h)
height_node-below code n other f (node.Change c e) h = rw (below-at n e.0 other f h.1)
height_node-below code n other f (node.Vector es) h = rw (greatest-below n other f es h)
height_node-below code n other f _ h = refl

height_of-is : (code : Code) (e : ℕ) → IsBelow code.functions e (node_at code e) → height_of code e ≡ height_node code (node_at code e) (height_of code)
unfolding height_of
height_of-is code e h =
    by_smaller-is 0 (λ m rec. height_node code (node_at code m) rec) e ∙ height_node-below code e 0 (height_of code) (node_at code e) h

pub height_of-tall : (code : Code) → IsOrdered code → IsTall code (height_of code)
height_of-tall code ordered e h = let is = height_of-is code e (ordered.each e h) in omega (arith, is)

pub ruleset height_laws = (height_of-tall)
