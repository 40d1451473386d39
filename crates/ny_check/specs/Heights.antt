-- How many units an expression can make that stand one on another, through calls.
use Rattle.std.specs.Prelude.{ℕ, ◌+◌, ◌<◌, ◌≤◌, max, List, [], ◌∷◌, length}
use Rattle.ny_resolve.specs.declared.term.NameId.{NameId}
use Rattle.ny_check.specs.declared.node.Node.{Node}
use Rattle.ny_check.specs.declared.node.Node.TheVariants as node
use Rattle.ny_check.specs.declared.node.ExprId.{ExprId}
use Rattle.ny_check.specs.Code.{Code, node_at, function_at}
use Rattle.ny_check.specs.Recursion.{by_smaller}

-- the greatest of some expressions
abbrev pub greatest : (ℕ → ℕ) → List ExprId → ℕ
greatest height [] = 0
greatest height (e ∷ es) = max (height e.0) (greatest height es)

-- binds, each of which may stand on those before it
abbrev pub one_on_another : (ℕ → ℕ) → List (NameId × ExprId) → ℕ
one_on_another height [] = 0
one_on_another height (b ∷ bs) = height b.1.0 + one_on_another height bs

-- A name, a number and a test make no unit. An operand or a part may be brought to a rate first. A body may stand on its binds or
-- arguments.
abbrev pub height_node : Code → Node → (ℕ → ℕ) → ℕ
height_node code (node.Call f es) height = greatest height es + height (function_at code f.0).body.0
height_node code (node.Block bs e) height = one_on_another height bs + height e.0
height_node code (node.If c a b) height = max (height a.0) (height b.0)
height_node code (node.Pair op a b) height = max (height a.0) (height b.0) + 2
height_node code (node.Neg a) height = height a.0 + 2
height_node code (node.Leaf w es) height = 1
height_node code (node.Effect w e es) height = height e.0 + 1
height_node code (node.Cue e) height = height e.0 + 1
height_node code (node.Mix o es) height = greatest height es + 2
height_node code (node.Repeat o x k e) height = height e.0 + 2
height_node code (node.Change c e) height = height e.0
height_node code (node.Vector es) height = greatest height es
height_node code _ height = 0

-- how high an expression can stand
unfoldable pub height_of : Code → ℕ → ℕ
height_of code = by_smaller 0 (λ e height. height_node code (node_at code e) height)

-- numbers that leave room for what each node makes
abbrev pub IsTall : Code → (ℕ → ℕ) → Type 0
IsTall code height = (e : ℕ) → e < length code.nodes → height_node code (node_at code e) height ≤ height e
