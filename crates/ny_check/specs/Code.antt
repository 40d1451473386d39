-- A program as a table of nodes, each naming only nodes before it.
use Rattle.std.specs.Prelude.{ℕ, ◌<◌, ◌≤◌, List, [], ◌∷◌, length, get_or, pos, ◌<ℤ◌}
use Rattle.ny_check.specs.declared.node.Node.{Node}
use Rattle.ny_check.specs.declared.node.Node.TheVariants as node
use Rattle.ny_check.specs.declared.node.Change.{Change}
use Rattle.ny_check.specs.declared.node.Change.TheVariants as change
use Rattle.ny_check.specs.declared.node.ExprId.{ExprId}
use Rattle.ny_check.specs.declared.node.Function.{Function}
use Rattle.ny_resolve.specs.declared.term.NameId.{NameId}

-- the nodes, the declarations by their numbers, what is played, how many channels it has, and for each node the free names that
-- are kept of it: those of a part of a sequence, in the order of their first use
pub record Code : Type 0 where
  pub nodes : List Node
  pub functions : List Function
  pub play : ExprId
  pub channels : ℕ
  pub free : List (List NameId)

abbrev pub no_node : Node
no_node = node.Number (pos 0)

abbrev pub node_at : Code → ℕ → Node
node_at code e = get_or code.nodes e no_node

abbrev pub no_function : Function
no_function = record { params = []; body = record { 0 = 0 } }

abbrev pub function_at : Code → ℕ → Function
function_at code f = get_or code.functions f no_function

abbrev pub AllBelow : ℕ → List ExprId → Type 0
AllBelow n [] = Unit {0}
AllBelow n (e ∷ es) = (e.0 < n) × AllBelow n es

abbrev pub BindsBelow : ℕ → List (NameId × ExprId) → Type 0
BindsBelow n [] = Unit {0}
BindsBelow n (b ∷ bs) = (b.1.0 < n) × BindsBelow n bs

-- the number by which a change goes stands before n
abbrev pub IsChangeBelow : ℕ → Change → Type 0
IsChangeBelow n (change.By t k) = k.0 < n
IsChangeBelow n (change.Warp m) = Unit {0}
IsChangeBelow n (change.Rate rated r) = Unit {0}

-- The nodes that a node names, and the body of the function that it calls, stand before n; a divisor is above 0.
abbrev pub IsBelow : List Function → ℕ → Node → Type 0
IsBelow fs n (node.Number v) = Unit {0}
IsBelow fs n (node.Local x) = Unit {0}
IsBelow fs n (node.Global e) = e.0 < n
IsBelow fs n (node.Call f es) = AllBelow n es × (f.0 < length fs) × ((get_or fs f.0 no_function).body.0 < n)
IsBelow fs n (node.Block bs e) = BindsBelow n bs × (e.0 < n)
IsBelow fs n (node.Pair op a b) = (a.0 < n) × (b.0 < n)
IsBelow fs n (node.Div a v) = (a.0 < n) × (pos 0 <ℤ v)
IsBelow fs n (node.Neg a) = a.0 < n
IsBelow fs n (node.Compare r a b) = (a.0 < n) × (b.0 < n)
IsBelow fs n (node.And a b) = (a.0 < n) × (b.0 < n)
IsBelow fs n (node.Or a b) = (a.0 < n) × (b.0 < n)
IsBelow fs n (node.Not a) = a.0 < n
IsBelow fs n (node.If c a b) = (c.0 < n) × (a.0 < n) × (b.0 < n)
IsBelow fs n (node.Leaf w es) = AllBelow n es
IsBelow fs n (node.Effect w e es) = (e.0 < n) × AllBelow n es
IsBelow fs n (node.Cue e) = e.0 < n
IsBelow fs n (node.Mix o es) = AllBelow n es
IsBelow fs n (node.Repeat o x k e) = e.0 < n
IsBelow fs n (node.Change c e) = IsChangeBelow n c × (e.0 < n)
IsBelow fs n (node.Vector es) = AllBelow n es

-- the same of each node of a table
abbrev pub AllOrdered : List Node → List Function → Type 0
AllOrdered ns fs = (e : ℕ) → e < length ns → IsBelow fs e (get_or ns e no_node)

-- each body stands in the table
abbrev pub HasBodies : List Node → List Function → Type 0
HasBodies ns fs = (f : ℕ) → f < length fs → (get_or fs f no_function).body.0 < length ns

pub record IsOrdered (code : Code) : Type 0 where
  pub each : AllOrdered code.nodes code.functions
  pub bodies : HasBodies code.nodes code.functions
  pub play : code.play.0 < length code.nodes
  pub channels : (1 ≤ code.channels) × (code.channels ≤ 8)
  pub free : length code.nodes ≤ length code.free
