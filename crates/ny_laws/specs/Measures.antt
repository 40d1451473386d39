-- How deep an expression of a table is, and how many nodes it has, where each call is replaced by the function's body.
use Rattle.std.specs.Prelude.{◌≡◌, ◌<◌, ◌≤◌, ◌+◌, ◌*◌, ℕ, max, true, if◌then◌else◌, List, [], ◌∷◌, ◌++◌, length, get_or, Some, None}
use Rattle.ny_syntax.specs.declared.tree.Tree.{Tree}
use Rattle.ny_resolve.specs.declared.term.NameId.{NameId}
use Rattle.ny_resolve.specs.declared.term.Part.{Part}
use Rattle.ny_resolve.specs.declared.term.Declared.{Declared}
use Rattle.ny_resolve.specs.Declarations.{tree_read}
use Rattle.ny_kinds.specs.Kinds.{no_declared}
use Rattle.ny_measures.specs.Depth.{value_of}
use Rattle.ny_check.specs.declared.node.Change.{Change}
use Rattle.ny_check.specs.declared.node.Change.TheVariants as change
use Rattle.ny_check.specs.declared.node.Node.{Node}
use Rattle.ny_check.specs.declared.node.Node.TheVariants as node
use Rattle.ny_check.specs.declared.node.ExprId.{ExprId}
use Rattle.ny_check.specs.Code.{Code, node_at, function_at}
use Rattle.ny_check.specs.Recursion.{by_smaller}
use Rattle.ny_check.specs.Heights.{height_of}
use Rattle.ny_check.specs.Acceptance.{fault_of}
use Rattle.ny_laws.specs.Standing.{IsTableOf}
use Rattle.ny_laws.specs.Reached.{operands}

-- ---- depth

-- the depths of what names stand for, the nearest last
abbrev pub Depths : Type 0
Depths = List (NameId × ℕ)

abbrev pub deepest : (ℕ → Depths → ℕ) → List ExprId → Depths → ℕ
deepest depth [] vs = 0
deepest depth (e ∷ es) vs = max (depth e.0 vs) (deepest depth es vs)

-- each bind gives its name its depth, for those after it
abbrev pub depths_after : (ℕ → Depths → ℕ) → List (NameId × ExprId) → Depths → Depths
depths_after depth [] vs = vs
depths_after depth (b ∷ bs) vs = depths_after depth bs (vs ++ (b.0, depth b.1.0 vs) ∷ [])

abbrev pub deepest_bind : (ℕ → Depths → ℕ) → List (NameId × ExprId) → Depths → ℕ
deepest_bind depth [] vs = 0
deepest_bind depth (b ∷ bs) vs = max (depth b.1.0 vs) (deepest_bind depth bs (vs ++ (b.0, depth b.1.0 vs) ∷ []))

-- A node is one deeper than the deepest of its operands; a call is by the body deeper than its deepest argument, a block by one than its
-- binds and its value, and a name is as deep as what it stands for.
abbrev pub depth_node : Code → Node → (ℕ → Depths → ℕ) → Depths → ℕ
depth_node code (node.Local x) depth vs = max 1 (value_of x vs)
depth_node code (node.Call f es) depth vs = 1 + deepest depth es vs + depth (function_at code f.0).body.0 []
depth_node code (node.Block bs v) depth vs = 1 + max (deepest_bind depth bs vs) (depth v.0 (depths_after depth bs vs))
depth_node code (node.Repeat o x n a) depth vs = 1 + depth a.0 (vs ++ (x, 0) ∷ [])
depth_node code n depth vs = 1 + deepest depth (operands n) vs

unfoldable pub depth_at : Code → ℕ → Depths → ℕ
depth_at code = by_smaller (λ vs. 0) (λ e depth. depth_node code (node_at code e) depth)

-- ---- weight

abbrev pub total : (ℕ → ℕ) → List ExprId → ℕ
total weight [] = 0
total weight (e ∷ es) = weight e.0 + total weight es

abbrev pub total_binds : (ℕ → ℕ) → List (NameId × ExprId) → ℕ
total_binds weight [] = 0
total_binds weight (b ∷ bs) = weight b.1.0 + total_binds weight bs

-- a number is a node, and so is each literal of a map and of a rate
abbrev pub change_weight : Change → (ℕ → ℕ) → ℕ
change_weight (change.By t k) weight = weight k.0
change_weight (change.Warp ps) weight = 2 * length ps
change_weight (change.Rate a r) weight = 1

-- a node is one more than its operands, a call than its arguments and the body, and a repeat than its part so many times
abbrev pub weight_node : Code → Node → (ℕ → ℕ) → ℕ
weight_node code (node.Call f es) weight = 1 + total weight es + weight (function_at code f.0).body.0
weight_node code (node.Block bs v) weight = 1 + total_binds weight bs + weight v.0
weight_node code (node.Div a v) weight = 1 + weight a.0 + 1
weight_node code (node.Repeat o x n a) weight = 1 + n * weight a.0
weight_node code (node.Change c a) weight = 1 + change_weight c weight + weight a.0
weight_node code n weight = 1 + total weight (operands n)

unfoldable pub weight_at : Code → ℕ → ℕ
weight_at code = by_smaller 0 (λ e weight. weight_node code (node_at code e) weight)

-- no expression makes units that stand higher one on another than two for each of its nodes
abbrev pub HeightsAreWithin : Code → Type 0
HeightsAreWithin code = (e : ℕ) → e < length code.nodes → height_of code e ≤ 2 * weight_at code e

-- ---- the bounds

-- the weights of the global variables from number i on
abbrev pub values_weight : Code → ℕ → List Declared → ℕ
values_weight code i [] = 0
values_weight code i (d ∷ ds) = (if d.is_variable then weight_at code (function_at code i).body.0 else 0) + values_weight code (i + 1) ds

-- A program is the table of a text without a fault, in which what is played and the value of each global variable is at most 256 deep, and
-- all these together weigh 1,000,000 at most.
pub record IsMeasured (code : Code) : Type 0 where
  pub tree : Tree
  pub play : Part
  pub accepted : fault_of tree ≡ None
  pub plays : (tree_read tree).play ≡ Some play
  pub table : IsTableOf (tree_read tree).declared play code
  pub played : depth_at code code.play.0 [] ≤ 256
  pub values : (n : ℕ) → n < length (tree_read tree).declared → (get_or (tree_read tree).declared n no_declared).is_variable ≡ true
      → depth_at code (function_at code n).body.0 [] ≤ 256
  pub weight : values_weight code 0 (tree_read tree).declared + weight_at code code.play.0 ≤ 1000000
