-- What is played leaves no part that is due.
use Rattle.std.proofs.Common.{inl, inr, ℕ, zero, suc, Bool, if◌then◌else◌, List, ◌++◌, length, take}
use Rattle.std.specs.Prelude.{zip}
use Rattle.ny_warp.specs.declared.env.Env.{Env}
use Rattle.ny_check.specs.declared.node.Node.{Node}
use Rattle.ny_check.specs.declared.node.Node.TheVariants as node
use Rattle.ny_check.specs.Code.{Code, node_at, function_at}
use Rattle.ny_check.specs.Values.{scalars_of, test_of}
use Rattle.ny_heap.specs.declared.sound.Sound.{Sound}
use Rattle.ny_heap.specs.Heap.{HeapState}
use Rattle.ny_hands.specs.declared.branch.Branch.{Branch}
use Rattle.ny_hands.specs.Frames.{Names, sounds_among}
use Rattle.ny_trace.specs.Evaluates.{Trace, parts_of, sounds_of_values}
use Rattle.ny_trace.specs.Settled.{SettledBut, IsSettling}
use Rattle.ny_trace.specs.Plays.{PlaysTrace, EvaluatesAny, PlaysOne, PlaysNode, Plays, PlaysSettling}
use Rattle.ny_trace.proofs.SettlingLemmas.{settled_released, settled_binds, settled_values, settled_parts, evaluates_settling}

module _ (code : Code) (D : Trace) (settles : IsSettling D) (P : PlaysTrace) (law : PlaysSettling P) (e : ℕ) (env : Env) (names : Names) (old new : HeapState Branch) (ss : List Sound) (but : ℕ → Bool) (all : SettledBut but old) where
  one_settled : PlaysOne D e env names old new ss → SettledBut but new
  one_settled step = settles e env names old new step.0 step.1 but all

  node_settled : (at : Node) → PlaysNode D P code e at env names old new ss → SettledBut but new
  node_settled (node.Vector es) step = settled_parts but code D settles env (parts_of names es) old new ss step all
  node_settled (node.Call f es) step =
      let params = (function_at code f.0).params in
      settled_released but step.end new (sounds_of_values step.values) step.given_up
      (law (function_at code f.0).body.0 env (zip params step.values) step.mid step.end ss step.inside but (settled_values but code D settles env names (take (length params) es) old step.mid step.values step.arguments all))
  node_settled (node.Block bs a) step =
      settled_released but step.end new (sounds_among step.added) step.given_up
      (law a.0 env (names ++ step.added) step.mid step.end ss step.body but (settled_binds but code D settles env bs names old step.mid step.added step.binds all))
  node_settled (node.If c a b) step = law (if test_of code c (scalars_of names) then a.0 else b.0) env names old new ss step but all
  node_settled (node.Number v) step = one_settled step
  node_settled (node.Local x) step = one_settled step
  node_settled (node.Global a) step = one_settled step
  node_settled (node.Pair op a b) step = one_settled step
  node_settled (node.Div a v) step = one_settled step
  node_settled (node.Neg a) step = one_settled step
  node_settled (node.Compare r a b) step = one_settled step
  node_settled (node.And a b) step = one_settled step
  node_settled (node.Or a b) step = one_settled step
  node_settled (node.Not a) step = one_settled step
  node_settled (node.Leaf g es) step = one_settled step
  node_settled (node.Effect fx a es) step = one_settled step
  node_settled (node.Cue a) step = one_settled step
  node_settled (node.Mix o es) step = one_settled step
  node_settled (node.Repeat o i k a) step = one_settled step
  node_settled (node.Change c a) step = one_settled step

any_settling : (code : Code) → IsSettling (EvaluatesAny code)
any_settling code e env names old new s t but all = evaluates_settling code t.0 e env names old new s t.1 but all

pub plays_settling : (code : Code) (n : ℕ) → PlaysSettling (Plays code n)
plays_settling code zero e env names old new ss t but all = absurd t
plays_settling code (suc n) e env names old new ss (inl t) but all = plays_settling code n e env names old new ss t but all
plays_settling code (suc n) e env names old new ss (inr t) but all = node_settled code (EvaluatesAny code) (any_settling code) (Plays code n) (plays_settling code n) e env names old new ss but all (node_at code e) t
