-- What the evaluation of a program reaches: expressions, each under what its names stand for there.
use Rattle.std.specs.Prelude.{◌≡◌, ◌⊎◌, ℕ, List, [], ◌∷◌, ◌++◌, map, zip, length, ℤ}
use Rattle.ny_num.specs.declared.rate.Rate.{Rate}
use Rattle.ny_warp.specs.declared.env.Env.{Env}
use Rattle.ny_resolve.specs.declared.builtin.Order.{Order}
use Rattle.ny_resolve.specs.declared.term.NameId.{NameId}
use Rattle.ny_kinds.specs.declared.kind.Kind.{Kind}
use Rattle.ny_check.specs.declared.node.Change.TheVariants as change
use Rattle.ny_check.specs.declared.node.Node.{Node}
use Rattle.ny_check.specs.declared.node.Node.TheVariants as node
use Rattle.ny_check.specs.declared.node.ExprId.{ExprId}
use Rattle.ny_check.specs.declared.node.FunctionId.{FunctionId}
use Rattle.ny_check.specs.declared.value.Value.TheVariants as value
use Rattle.ny_check.specs.Code.{Code, node_at, function_at}
use Rattle.ny_check.specs.Meaning.{Bound, meaning, value_of, bound_after}
use Rattle.ny_check.specs.Channels.{played, channels}
use Rattle.ny_laws.specs.Kinds.{Kinds, IsOf, Fits, IsMade}

-- what a node evaluates under the same names as it stands itself
abbrev pub operands : Node → List ExprId
operands (node.Number v) = []
operands (node.Local x) = []
operands (node.Global g) = []
operands (node.Call f es) = es
operands (node.Block bs v) = []
operands (node.Pair op a b) = a ∷ b ∷ []
operands (node.Div a v) = a ∷ []
operands (node.Neg a) = a ∷ []
operands (node.Compare r a b) = a ∷ b ∷ []
operands (node.And a b) = a ∷ b ∷ []
operands (node.Or a b) = a ∷ b ∷ []
operands (node.Not a) = a ∷ []
operands (node.If c a b) = c ∷ a ∷ b ∷ []
operands (node.Leaf w es) = es
operands (node.Effect w a es) = a ∷ es
operands (node.Cue a) = a ∷ []
operands (node.Mix o es) = es
operands (node.Repeat o x n a) = []
operands (node.Change (change.By t n) a) = n ∷ a ∷ []
operands (node.Change (change.Warp ps) a) = a ∷ []
operands (node.Change (change.Rate w r) a) = a ∷ []
operands (node.Vector es) = es

-- one of these
abbrev pub IsOneOf : ℕ → List ExprId → Type 0
IsOneOf e [] = ⊥
IsOneOf e (i ∷ is) = (i.0 ≡ e) ⊎ IsOneOf e is

-- a bind of a block, under the names that it sees: those of the block, and the binds before it
abbrev pub IsBindAt : Code → Env → List (NameId × ExprId) → Bound → ℕ → Bound → Type 0
IsBindAt code env [] bound e inner = ⊥
IsBindAt code env (b ∷ bs) bound e inner =
    ((b.1.0 ≡ e) × (bound ≡ inner)) ⊎ IsBindAt code env bs (bound ++ (b.0, value_of code (meaning code) env bound b.1) ∷ []) e inner

-- An evaluation goes on, in whatever environment, from an expression to its operands, to a global value, to the body of what it calls, to
-- the binds and the value of a block, and to the body of a repeat under each number.
pub data Leads (code : Code) : ℕ → Bound → ℕ → Bound → Type 0 where
  operand : (e : ℕ) (bound : Bound) (i : ℕ) → IsOneOf i (operands (node_at code e)) → Leads code e bound i bound
  global : (e : ℕ) (bound : Bound) (g : ExprId) → node_at code e ≡ node.Global g → Leads code e bound g.0 []
  called : (e : ℕ) (bound : Bound) (f : FunctionId) (es : List ExprId) (env : Env) → node_at code e ≡ node.Call f es
      → Leads code e bound (function_at code f.0).body.0 (zip (function_at code f.0).params (map (value_of code (meaning code) env bound) es))
  bind : (e : ℕ) (bound : Bound) (bs : List (NameId × ExprId)) (v : ExprId) (env : Env) (i : ℕ) (inner : Bound) → node_at code e ≡ node.Block bs v
      → IsBindAt code env bs bound i inner → Leads code e bound i inner
  block : (e : ℕ) (bound : Bound) (bs : List (NameId × ExprId)) (v : ExprId) (env : Env) → node_at code e ≡ node.Block bs v
      → Leads code e bound v.0 (bound_after code (meaning code) env bs bound)
  repeated : (e : ℕ) (bound : Bound) (o : Order) (x : NameId) (n : ℕ) (a : ExprId) (k : ℤ) → node_at code e ≡ node.Repeat o x n a
      → Leads code e bound a.0 (bound ++ (x, value.Number k) ∷ [])

-- what is reached from `play`, which sees no name
pub data Reaches (code : Code) : ℕ → Bound → Type 0 where
  at_play : Reaches code code.play.0 []
  further : (e : ℕ) (bound : Bound) (i : ℕ) (inner : Bound) → Reaches code e bound → Leads code e bound i inner → Reaches code i inner

-- An expression has a meaning under these names: it is of a kind by the rule of its node, under kinds that fit the names, and is made so
-- in every environment.
pub record HasMeaning (code : Code) (e : ℕ) (bound : Bound) : Type 0 where
  pub values : Kinds
  pub kind : Kind
  pub fits : Fits values bound
  pub is : IsOf code values e kind
  pub made : (env : Env) → IsMade code e env bound kind

-- whatever is reached has a meaning
abbrev pub ReachedHaveMeaning : Code → Type 0
ReachedHaveMeaning code = (e : ℕ) (bound : Bound) → Reaches code e bound → HasMeaning code e bound

-- as many sounds are played as the program has channels, in every environment
abbrev pub PlaysItsChannels : Code → Type 0
PlaysItsChannels code = (env : Env) → length (played code code.play.0 env []) ≡ code.channels

-- and so many channels does its meaning have, at each rate
abbrev pub HasItsChannels : Code → Type 0
HasItsChannels code = (rate : Rate) → length (channels code rate) ≡ code.channels
