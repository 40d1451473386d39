-- Tables that leave nothing out: what a node names is there, it has as many operands as it takes, and it stands in the place of nothing
-- that is missing.
use Rattle.std.specs.Prelude.{◌≡◌, ◌<◌, ◌≤◌, ◌⊎◌, ℕ, true, List, [], length, Some, None, ℤ, pos, int_lt}
use Rattle.std.specs.List.{list_any}
use Rattle.ny_syntax.specs.declared.tree.Tree.{Tree}
use Rattle.ny_warp.specs.Maps.{is_rising}
use Rattle.ny_resolve.specs.declared.builtin.Arity.{Arity}
use Rattle.ny_resolve.specs.declared.builtin.Arity.TheVariants as arity
use Rattle.ny_resolve.specs.declared.term.NameId.{NameId}
use Rattle.ny_resolve.specs.declared.term.Term.TheVariants as term
use Rattle.ny_resolve.specs.declared.term.Part.{Part}
use Rattle.ny_resolve.specs.declared.term.Declared.{Declared}
use Rattle.ny_resolve.specs.Builtins.{fits}
use Rattle.ny_resolve.specs.Declarations.{tree_read}
use Rattle.ny_resolve.specs.Keys.{same_name}
use Rattle.ny_check.specs.declared.node.Generator.{Generator}
use Rattle.ny_check.specs.declared.node.Generator.TheVariants as generator
use Rattle.ny_check.specs.declared.node.Effect.{Effect}
use Rattle.ny_check.specs.declared.node.Effect.TheVariants as effect
use Rattle.ny_check.specs.declared.node.Change.{Change}
use Rattle.ny_check.specs.declared.node.Change.TheVariants as change
use Rattle.ny_check.specs.declared.node.Node.{Node}
use Rattle.ny_check.specs.declared.node.Node.TheVariants as node
use Rattle.ny_check.specs.declared.node.ExprId.{ExprId}
use Rattle.ny_check.specs.Code.{Code, node_at, function_at, IsBelow}
use Rattle.ny_check.specs.Acceptance.{fault_of}
use Rattle.ny_laws.specs.TextParts.{IsInText}
use Rattle.ny_laws.specs.Standing.{Stands, IsTableOf}

-- of how many numbers a leaf is made
abbrev pub leaf_arity : Generator → Arity
leaf_arity generator.Const = arity.Exactly 2
leaf_arity generator.Osc = arity.Exactly 2
leaf_arity generator.HzOsc = arity.Exactly 2
leaf_arity generator.Lfo = arity.Exactly 2
leaf_arity generator.Noise = arity.Exactly 2
leaf_arity generator.Rest = arity.Exactly 1
leaf_arity generator.Ramp = arity.Exactly 1
leaf_arity generator.Pwl = arity.Odd

-- how many numbers an effect takes beside its sound
abbrev pub effect_numbers : Effect → ℕ
effect_numbers effect.Abs = 0
effect_numbers effect.OnePole = 1
effect_numbers effect.Biquad = 5
effect_numbers effect.Comb = 2

-- a global variable of the text has its value at this place
pub record IsGlobalAt (code : Code) (g : ExprId) : Type 0 where
  pub number : ℕ
  pub within : number < length code.functions
  pub no_names : (function_at code number).params ≡ []
  pub value : (function_at code number).body ≡ g

-- a map has a point, and its points rise
abbrev pub HasPoints : Change → Type 0
HasPoints (change.By t k) = Unit {0}
HasPoints (change.Warp ps) = is_rising ps ≡ true
HasPoints (change.Rate a r) = Unit {0}

-- Where a node sees these names: a local name is one of them; a global value and a function are there, and a call has as many arguments as
-- the function has parameters; leaves and effects have as many numbers as their operator takes, a mix has a part, a repeat 1 to 100,000, and
-- a vector 1 to 8 operands.
abbrev pub HasOperands : Code → List NameId → Node → Type 0
HasOperands code seen (node.Local x) = list_any (same_name x) seen ≡ true
HasOperands code seen (node.Global g) = IsGlobalAt code g
HasOperands code seen (node.Call f es) = (f.0 < length code.functions) × (length es ≡ length (function_at code f.0).params)
HasOperands code seen (node.Leaf w es) = fits (leaf_arity w) (length es) ≡ true
HasOperands code seen (node.Effect w e es) = length es ≡ effect_numbers w
HasOperands code seen (node.Mix o es) = 1 ≤ length es
HasOperands code seen (node.Repeat o x n e) = (1 ≤ n) × (n ≤ 100000)
HasOperands code seen (node.Change c e) = HasPoints c
HasOperands code seen (node.Vector es) = (1 ≤ length es) × (length es ≤ 8)
HasOperands code seen _ = Unit {0}

-- each node names nodes before it, and has its operands
abbrev pub NodesAreWhole : Code → Type 0
NodesAreWhole code = (e : ℕ) → e < length code.nodes → IsBelow code.functions e (node_at code e) × ((seen : List NameId) × HasOperands code seen (node_at code e))

-- a division by a literal below 0, which no text has
pub record IsNegative (p : Part) : Type 0 where
  pub divided : Part
  pub divisor : ℤ
  pub is : p.term ≡ term.Over divided divisor
  pub negative : int_lt divisor (pos 0) ≡ true

-- A node stands for a part of the text, and for nothing that is missing: it sees the names that the part sees and has its operands, and it
-- is a number only where the part is this literal.
pub record StandsWhole (ds : List Declared) (play : Part) (code : Code) (id : ℕ) : Type 0 where
  pub here : ℕ
  pub seen : List NameId
  pub names : List NameId
  pub part : Part
  pub is_in : IsInText ds play here seen part
  pub stands : Stands code here names part id
  pub operands : HasOperands code seen (node_at code id)
  pub literal : (v : ℤ) → node_at code id ≡ node.Number v → (part.term ≡ term.Number v) ⊎ IsNegative part

-- A program is the table of a text without a fault, and each of its nodes stands for a part of this text and for nothing that is missing.
pub record IsWholeText (code : Code) : Type 0 where
  pub tree : Tree
  pub play : Part
  pub accepted : fault_of tree ≡ None
  pub plays : (tree_read tree).play ≡ Some play
  pub table : IsTableOf (tree_read tree).declared play code
  pub each : (id : ℕ) → id < length code.nodes → StandsWhole (tree_read tree).declared play code id
