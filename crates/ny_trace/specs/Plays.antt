-- What is played as one trace of calls of a heap: the sounds of all channels. What they are, and what it leaves alone, follows from it.
use Rattle.std.specs.Prelude.{◌≡◌, ◌⊎◌, ◌<◌, ℕ, zero, suc, Bool, if◌then◌else◌, List, [], ◌∷◌, ◌++◌, map, zip, take, length}
use Rattle.ny_warp.specs.declared.env.Env.{Env}
use Rattle.ny_resolve.specs.declared.term.NameId.{NameId}
use Rattle.ny_check.specs.declared.node.Node.{Node}
use Rattle.ny_check.specs.declared.node.Node.TheVariants as node
use Rattle.ny_check.specs.declared.node.ExprId.{ExprId}
use Rattle.ny_check.specs.declared.value.Value.{Value}
use Rattle.ny_check.specs.Code.{Code, node_at, function_at}
use Rattle.ny_check.specs.Values.{scalars_of, test_of}
use Rattle.ny_check.specs.Channels.{played}
use Rattle.ny_heap.specs.declared.sound.Sound.{Sound}
use Rattle.ny_heap.specs.Heap.{HeapState}
use Rattle.ny_heap.specs.Means.{Whole}
use Rattle.ny_heap.specs.Reach.{HeapLaws}
use Rattle.ny_hands.specs.declared.branch.Branch.{Branch}
use Rattle.ny_hands.specs.Calls.{ReleasesAll}
use Rattle.ny_hands.specs.Frames.{Names, bound_in, sounds_among, part_is}
use Rattle.ny_hands.specs.Hands.{Item, sounds_in, Comes, AreNamed}
use Rattle.ny_trace.specs.Evaluates.{Trace, BindsTurn, ValuesTurn, sounds_of_values, parts_of, PartsTurn, Evaluates}
use Rattle.ny_trace.specs.Settled.{SettledBut}

-- how what an expression plays is evaluated: from one heap to another, with the sounds of all channels
abbrev pub PlaysTrace : Type 1
PlaysTrace = ℕ → Env → Names → HeapState Branch → HeapState Branch → List Sound → Type 0

-- an evaluation of any depth
abbrev pub EvaluatesAny : Code → Trace
EvaluatesAny code e env names old new s = (n : ℕ) × Evaluates code n e env names old new s

-- ---- nodes

-- the arguments of the parameters, in the caller's names, and then what the body plays in theirs alone. Then all arguments are given up
pub record PlaysCall (D : Trace) (P : PlaysTrace) (code : Code) (params : List NameId) (body : ℕ) (es : List ExprId) (env : Env) (names : Names) (old new : HeapState Branch) (ss : List Sound) : Type 0 where
  pub values : List (Value Sound)
  pub mid : HeapState Branch
  pub end : HeapState Branch
  pub arguments : ValuesTurn D code env names (take (length params) es) old mid values
  pub inside : P body env (zip params values) mid end ss
  pub given_up : ReleasesAll end new (sounds_of_values values)

-- what the body plays shares what it takes, and then all binds are given up
pub record PlaysBlock (D : Trace) (P : PlaysTrace) (code : Code) (bs : List (NameId × ExprId)) (e : ExprId) (env : Env) (names : Names) (old new : HeapState Branch) (ss : List Sound) : Type 0 where
  pub added : Names
  pub mid : HeapState Branch
  pub end : HeapState Branch
  pub binds : BindsTurn D code env bs names old mid added
  pub body : P e.0 env (names ++ added) mid end ss
  pub given_up : ReleasesAll end new (sounds_among added)

-- one channel
abbrev pub PlaysOne : Trace → PlaysTrace
PlaysOne D e env names old new ss = (s : Sound) × D e env names old new s × (ss ≡ s ∷ [])

-- What is played at a node, where `D` evaluates an expression and `P` plays the nodes before it: `vector` its operands, the first one
-- first, and calls, blocks and `#if` what is played below them. Each other expression plays its one sound.
abbrev pub PlaysNode : Trace → PlaysTrace → Code → ℕ → Node → Env → Names → HeapState Branch → HeapState Branch → List Sound → Type 0
PlaysNode D P code e (node.Vector es) env names old new ss = PartsTurn D env (parts_of names es) old new ss
PlaysNode D P code e (node.Call f es) env names old new ss = PlaysCall D P code (function_at code f.0).params (function_at code f.0).body.0 es env names old new ss
PlaysNode D P code e (node.Block bs a) env names old new ss = PlaysBlock D P code bs a env names old new ss
PlaysNode D P code e (node.If c a b) env names old new ss = P (if test_of code c (scalars_of names) then a.0 else b.0) env names old new ss
PlaysNode D P code e _ env names old new ss = PlaysOne D e env names old new ss

-- No deeper than so many nodes, where each evaluation is of any depth. What is no deeper than n is no deeper than n + 1.
abbrev pub Plays : Code → ℕ → PlaysTrace
Plays code zero e env names old new ss = ⊥
Plays code (suc n) e env names old new ss = Plays code n e env names old new ss ⊎ PlaysNode (EvaluatesAny code) (Plays code n) code e (node_at code e) env names old new ss

-- ---- what it gives

-- the sounds in hand, each with what it is: what the expression plays, in order
pub record PlaysItems (code : Code) (e : ℕ) (env : Env) (names : Names) (old new : HeapState Branch) (ss : List Sound) : Type 0 where
  pub items : List Item
  pub in_hand : sounds_in items ≡ ss
  pub are : (w : Whole) → map (λ (i : Item). i.is w) items ≡ played code e env (bound_in w names)
  pub comes : Comes (part_is code) old new items

-- it gives the sounds that are played, and nothing else changed
abbrev pub PlaysLawfully : Code → PlaysTrace → Type 0
PlaysLawfully code P =
    (e : ℕ) (env : Env) (names : Names) (old new : HeapState Branch) (ss : List Sound) → P e env names old new ss → e < length code.nodes → HeapLaws old → AreNamed old names → PlaysItems code e env names old new ss

-- it leaves no part that is due but at units where one was
abbrev pub PlaysSettling : PlaysTrace → Type 0
PlaysSettling P =
    (e : ℕ) (env : Env) (names : Names) (old new : HeapState Branch) (ss : List Sound) → P e env names old new ss → (but : ℕ → Bool) → SettledBut but old → SettledBut but new
