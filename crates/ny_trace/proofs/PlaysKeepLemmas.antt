-- What each evaluation and each sound given up keeps, what is played keeps.
use Rattle.std.proofs.Common.{inl, inr, ℕ, zero, suc, ◌<◌, Bool, true, false, if◌then◌else◌, List, [], ◌∷◌, ◌++◌, length, subst, arith, take}
use Rattle.std.specs.Prelude.{zip}
use Rattle.ny_warp.specs.declared.env.Env.{Env}
use Rattle.ny_resolve.specs.declared.term.NameId.{NameId}
use Rattle.ny_check.specs.declared.node.Node.{Node}
use Rattle.ny_check.specs.declared.node.Node.TheVariants as node
use Rattle.ny_check.specs.declared.node.ExprId.{ExprId}
use Rattle.ny_check.specs.declared.value.Value.{Value}
use Rattle.ny_check.specs.declared.value.Value.TheVariants.{Number, Sound as SoundOf}
use Rattle.ny_check.specs.Code.{Code, node_at, function_at, AllBelow, BindsBelow, IsBelow, IsOrdered}
use Rattle.ny_check.specs.Values.{scalars_of, test_of}
use Rattle.ny_heap.specs.declared.sound.Sound.{Sound}
use Rattle.ny_heap.specs.Heap.{HeapState}
use Rattle.ny_hands.specs.declared.branch.Branch.{Branch}
use Rattle.ny_hands.specs.Calls.{ReleasesAll}
use Rattle.ny_hands.specs.Frames.{Names, sounds_among}
use Rattle.ny_trace.specs.Evaluates.{Trace, parts_of, ValueTurn, BindsTurn, ValuesTurn, PartsTurn, sounds_of_values}
use Rattle.ny_trace.specs.Plays.{PlaysTrace, EvaluatesAny, PlaysOne, PlaysNode, Plays}
use Rattle.ny_trace.proofs.BlockLemmas.{below_first}
use Rattle.ny_trace.proofs.EvaluationLemmas.{below_all, below_binds}

module _ (code : Code) (holds : HeapState Branch → Type 0) where
  -- each evaluation of an expression of the table keeps it
  abbrev pub KeptBy : Trace → Type 0
  KeptBy D = (e : ℕ) (env : Env) (names : Names) (old new : HeapState Branch) (s : Sound) → D e env names old new s → e < length code.nodes → holds old → holds new

  abbrev pub KeptByPlay : PlaysTrace → Type 0
  KeptByPlay P = (e : ℕ) (env : Env) (names : Names) (old new : HeapState Branch) (ss : List Sound) → P e env names old new ss → e < length code.nodes → holds old → holds new

  module _ (D : Trace) (law : KeptBy D) where
    value_kept : (env : Env) (names : Names) (e : ExprId) (old new : HeapState Branch) (v : Value Sound) → e.0 < length code.nodes → ValueTurn D code env names e old new v → holds old → holds new
    value_kept env names e old new (Number k) inside step all = subst holds step.1 all
    value_kept env names e old new (SoundOf s) inside step all = law e.0 env names old new s step.1 inside all

    binds_kept : (env : Env) (bs : List (NameId × ExprId)) (names : Names) (old new : HeapState Branch) (added : Names) → BindsBelow (length code.nodes) bs → BindsTurn D code env bs names old new added → holds old → holds new
    binds_kept env [] names old new [] below step all = subst holds step all
    binds_kept env [] names old new (a ∷ added) below step all = absurd step
    binds_kept env (b ∷ bs) names old new [] below step all = absurd step
    binds_kept env (b ∷ bs) names old new (a ∷ added) below step all = binds_kept env bs (names ++ a ∷ []) step.0 new added below.1 step.3 (value_kept env names b.1 old step.0 a.1 below.0 step.2 all)

    values_kept : (env : Env) (names : Names) (es : List ExprId) (old new : HeapState Branch) (vs : List (Value Sound)) → AllBelow (length code.nodes) es → ValuesTurn D code env names es old new vs → holds old → holds new
    values_kept env names [] old new [] below step all = subst holds step all
    values_kept env names [] old new (v ∷ vs) below step all = absurd step
    values_kept env names (e ∷ es) old new [] below step all = absurd step
    values_kept env names (e ∷ es) old new (v ∷ vs) below step all = values_kept env names es step.0 new vs below.1 step.2 (value_kept env names e old step.0 v below.0 step.1 all)

    vector_kept : (env : Env) (names : Names) (es : List ExprId) (old new : HeapState Branch) (ss : List Sound) → AllBelow (length code.nodes) es → PartsTurn D env (parts_of names es) old new ss → holds old → holds new
    vector_kept env names [] old new [] below step all = subst holds step all
    vector_kept env names [] old new (s ∷ ss) below step all = absurd step
    vector_kept env names (e ∷ es) old new [] below step all = absurd step
    vector_kept env names (e ∷ es) old new (s ∷ ss) below step all = vector_kept env names es step.0 new ss below.1 step.2 (law e.0 env names old step.0 s step.1 below.0 all)

    module _ (released : (old new : HeapState Branch) (ss : List Sound) → ReleasesAll old new ss → holds old → holds new) (P : PlaysTrace) (plays : KeptByPlay P) (e : ℕ) (inside : e < length code.nodes) (env : Env) (names : Names) (old new : HeapState Branch) (ss : List Sound) (all : holds old) where
      one_kept : PlaysOne D e env names old new ss → holds new
      one_kept step = law e env names old new step.0 step.1 inside all

      node_kept : (at : Node) → IsBelow code.functions e at → PlaysNode D P code e at env names old new ss → holds new
      node_kept (node.Vector es) below step = vector_kept env names es old new ss (below_all e (length code.nodes) es (omega (arith, inside)) below) step all
      node_kept (node.Call f es) below step =
          let params = (function_at code f.0).params in
          released step.end new (sounds_of_values step.values) step.given_up
          (plays (function_at code f.0).body.0 env (zip params step.values) step.mid step.end ss step.inside (omega (arith, below.2, inside))
          (values_kept env names (take (length params) es) old step.mid step.values (below_first (length params) (length code.nodes) es (below_all e (length code.nodes) es (omega (arith, inside)) below.0)) step.arguments all))
      node_kept (node.Block bs a) below step =
          released step.end new (sounds_among step.added) step.given_up
          (plays a.0 env (names ++ step.added) step.mid step.end ss step.body (omega (arith, below.1, inside))
          (binds_kept env bs names old step.mid step.added (below_binds e (length code.nodes) bs (omega (arith, inside)) below.0) step.binds all))
      node_kept (node.If c a b) below step = plays (if test_of code c (scalars_of names) then a.0 else b.0) env names old new ss step (chosen (test_of code c (scalars_of names))) all
        where
          chosen : (t : Bool) → (if t then a.0 else b.0) < length code.nodes
          chosen true = omega (arith, below.1, inside)
          chosen false = omega (arith, below.2, inside)
      node_kept (node.Number v) below step = one_kept step
      node_kept (node.Local x) below step = one_kept step
      node_kept (node.Global a) below step = one_kept step
      node_kept (node.Pair op a b) below step = one_kept step
      node_kept (node.Div a v) below step = one_kept step
      node_kept (node.Neg a) below step = one_kept step
      node_kept (node.Compare r a b) below step = one_kept step
      node_kept (node.And a b) below step = one_kept step
      node_kept (node.Or a b) below step = one_kept step
      node_kept (node.Not a) below step = one_kept step
      node_kept (node.Leaf g es) below step = one_kept step
      node_kept (node.Effect fx a es) below step = one_kept step
      node_kept (node.Cue a) below step = one_kept step
      node_kept (node.Mix o es) below step = one_kept step
      node_kept (node.Repeat o i k a) below step = one_kept step
      node_kept (node.Change c a) below step = one_kept step

  pub plays_keeps : IsOrdered code → KeptBy (EvaluatesAny code) → ((old new : HeapState Branch) (ss : List Sound) → ReleasesAll old new ss → holds old → holds new) → (n : ℕ) → KeptByPlay (Plays code n)
  plays_keeps ordered law released zero e env names old new ss t inside all = absurd t
  plays_keeps ordered law released (suc n) e env names old new ss (inl t) inside all = plays_keeps ordered law released n e env names old new ss t inside all
  plays_keeps ordered law released (suc n) e env names old new ss (inr t) inside all =
      node_kept (EvaluatesAny code) law released (Plays code n) (plays_keeps ordered law released n) e inside env names old new ss all (node_at code e) (ordered.each e inside) t
