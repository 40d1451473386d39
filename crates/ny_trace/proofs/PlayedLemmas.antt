-- What an expression plays: at each kind of node, and how many channels there are.
use Rattle.std.proofs.Common.{◌≡◌, inl, inr, ℕ, zero, suc, ◌<◌, Bool, true, false, if◌then◌else◌, List, [], ◌∷◌, ◌++◌, length, map, take, refl, sym, ap, ◌∙◌, arith}
use Rattle.std.specs.Prelude.{zip}
use Rattle.std.proofs.lemmas.List.{append_assoc, append-nil}
use Rattle.ny_num.specs.Sound as sounds
use Rattle.ny_warp.specs.declared.env.Env.{Env}
use Rattle.ny_resolve.specs.declared.term.NameId.{NameId}
use Rattle.ny_check.specs.declared.node.Node.{Node}
use Rattle.ny_check.specs.declared.node.Node.TheVariants as node
use Rattle.ny_check.specs.declared.node.ExprId.{ExprId}
use Rattle.ny_check.specs.declared.value.Value.{Value}
use Rattle.ny_check.specs.declared.value.Value.TheVariants.{Number, Sound as SoundOf}
use Rattle.ny_check.specs.Code.{Code, node_at, function_at, IsBelow, IsOrdered}
use Rattle.ny_check.specs.Recursion.{below}
use Rattle.ny_check.specs.Values.{Scalars, scalars_of, scalar_in, test_of}
use Rattle.ny_check.specs.Meaning.{Bound, meaning, value_of, bound_after}
use Rattle.ny_check.specs.Channels.{Plays as PlaysSounds, operand, plays_node, played}
use Rattle.ny_check.proofs.Smaller.{below-at, by_smaller-is}
use Rattle.ny_heap.specs.declared.sound.Sound.{Sound}
use Rattle.ny_heap.specs.Heap.{HeapState}
use Rattle.ny_hands.specs.declared.branch.Branch.{Branch}
use Rattle.ny_hands.specs.Frames.{Names}
use Rattle.ny_trace.specs.Evaluates.{Trace, parts_of, ValueTurn, BindsTurn, ValuesTurn, PartsTurn}
use Rattle.ny_trace.specs.Plays.{PlaysTrace, EvaluatesAny, PlaysOne, PlaysNode, Plays}
use Rattle.ny_trace.proofs.ValueLemmas.{meant, value_meant}

-- ---- the equation at a node

plays_node-below : (code : Code) (n : ℕ) (other : PlaysSounds) (f : ℕ → PlaysSounds) (e : ℕ) (at : Node) (env : Env) (bound : Bound) → IsBelow code.functions n at → plays_node code e at (below n other f) env bound ≡ plays_node code e at f env bound
plays_node-below code n other f e (node.Call g es) env bound h = rw (below-at n (function_at code g.0).body.0 other f h.2)
plays_node-below code n other f e (node.Block bs a) env bound h = rw (below-at n a.0 other f h.1)
plays_node-below code n other f e (node.If c a b) env bound h = rw (below-at n a.0 other f h.1, below-at n b.0 other f h.2)
plays_node-below code n other f e _ env bound h = refl

-- with what is played itself in place of what the nodes before it play
pub played-is : (code : Code) (e : ℕ) (env : Env) (bound : Bound) → IsBelow code.functions e (node_at code e) → played code e env bound ≡ plays_node code e (node_at code e) (played code) env bound
unfolding played
played-is code e env bound h =
    ap (λ (g : PlaysSounds). g env bound) (by_smaller-is (λ (from : Env) (names : Bound). []) (λ m rec. plays_node code m (node_at code m) rec) e)
    ∙ plays_node-below code e (λ from names. []) (played code) e (node_at code e) env bound h

-- ---- how many there are

-- names in an environment, as numbers and sounds alone
scalars_append : {S : Type 0} (xs ys : List (NameId × Value S)) → scalars_of (xs ++ ys) ≡ scalars_of xs ++ scalars_of ys
scalars_append [] ys = refl
scalars_append (x ∷ xs) ys = ap (λ (rest : Scalars). (x.0, scalar_in x.1) ∷ rest) (scalars_append xs ys)

scalar_meant : (v : Value Sound) (m : sounds.Sound) → scalar_in (meant v m) ≡ scalar_in v
scalar_meant (Number k) m = refl
scalar_meant (SoundOf s) m = refl

module _ (code : Code) (D : Trace) where
  value_scalar : (env : Env) (names : Names) (e : ExprId) (old new : HeapState Branch) (v : Value Sound) → ValueTurn D code env names e old new v → (bound : Bound) → scalars_of bound ≡ scalars_of names → scalar_in (value_of code (meaning code) env bound e) ≡ scalar_in v
  value_scalar env names e old new v step bound same = ap scalar_in (value_meant code D env names e old new v step bound same) ∙ scalar_meant v (meaning code e.0 env bound)

  binds_scalars : (env : Env) (bs : List (NameId × ExprId)) (names : Names) (old new : HeapState Branch) (added : Names) → BindsTurn D code env bs names old new added → (bound : Bound) → scalars_of bound ≡ scalars_of names → scalars_of (bound_after code (meaning code) env bs bound) ≡ scalars_of (names ++ added)
  binds_scalars env [] names old new [] step bound same = same ∙ ap scalars_of (sym (append-nil names))
  binds_scalars env [] names old new (a ∷ added) step bound same = absurd step
  binds_scalars env (b ∷ bs) names old new [] step bound same = absurd step
  binds_scalars env (b ∷ bs) names old new (a ∷ added) step bound same =
      let value : Value sounds.Sound = value_of code (meaning code) env bound b.1 in
      let one : scalar_in value ≡ scalar_in a.1 = value_scalar env names b.1 old step.0 a.1 step.2 bound same in
      let grown : scalars_of (bound ++ (b.0, value) ∷ []) ≡ scalars_of (names ++ a ∷ []) = scalars_append bound ((b.0, value) ∷ []) ∙ ((λ i. same i ++ (sym step.1 i, one i) ∷ []) ∙ sym (scalars_append names (a ∷ []))) in
      binds_scalars env bs (names ++ a ∷ []) step.0 new added step.3 (bound ++ (b.0, value) ∷ []) grown ∙ ap scalars_of (append_assoc names (a ∷ []) added)

  values_scalars : (params : List NameId) (es : List ExprId) (env : Env) (names : Names) (old new : HeapState Branch) (vs : List (Value Sound)) → ValuesTurn D code env names (take (length params) es) old new vs → (bound : Bound) → scalars_of bound ≡ scalars_of names → scalars_of (zip params (map (value_of code (meaning code) env bound) es)) ≡ scalars_of (zip params vs)
  values_scalars [] es env names old new vs step bound same = refl
  values_scalars (x ∷ xs) [] env names old new [] step bound same = refl
  values_scalars (x ∷ xs) [] env names old new (v ∷ vs) step bound same = absurd step
  values_scalars (x ∷ xs) (e ∷ es) env names old new [] step bound same = absurd step
  values_scalars (x ∷ xs) (e ∷ es) env names old new (v ∷ vs) step bound same =
      let one = value_scalar env names e old step.0 v step.1 bound same in
      let rest = values_scalars xs es env names step.0 new vs step.2 bound same in
      λ i. (x, one i) ∷ rest i

  parts_count : (env : Env) (names : Names) (es : List ExprId) (old new : HeapState Branch) (ss : List Sound) → PartsTurn D env (parts_of names es) old new ss → (bound : Bound) → length (map (operand code env bound) es) ≡ length ss
  parts_count env names [] old new [] step bound = refl
  parts_count env names [] old new (s ∷ ss) step bound = absurd step
  parts_count env names (e ∷ es) old new [] step bound = absurd step
  parts_count env names (e ∷ es) old new (s ∷ ss) step bound = ap suc (parts_count env names es step.0 new ss step.2 bound)

-- so many are played whatever the names stand for, where they are the same numbers
abbrev pub Counts : Code → PlaysTrace → Type 0
Counts code P =
    (e : ℕ) (env : Env) (names : Names) (old new : HeapState Branch) (ss : List Sound) → P e env names old new ss → e < length code.nodes → (bound : Bound) → scalars_of bound ≡ scalars_of names → length (played code e env bound) ≡ length ss

module _ (code : Code) (D : Trace) (P : PlaysTrace) (law : Counts code P) (e : ℕ) (inside : e < length code.nodes) (env : Env) (names : Names) (old new : HeapState Branch) (ss : List Sound) (bound : Bound) (same : scalars_of bound ≡ scalars_of names) where
  abbrev Counted : Node → Type 0
  Counted at = length (plays_node code e at (played code) env bound) ≡ length ss

  one_count : PlaysOne D e env names old new ss → length (meaning code e env bound ∷ []) ≡ length ss
  one_count step = ap length (sym step.2)

  node_count : (at : Node) → IsBelow code.functions e at → PlaysNode D P code e at env names old new ss → Counted at
  node_count (node.Vector es) under step = parts_count code D env names es old new ss step bound
  node_count (node.Call f es) under step =
      law (function_at code f.0).body.0 env (zip (function_at code f.0).params step.values) step.mid step.end ss step.inside (omega (arith, under.2, inside)) (zip (function_at code f.0).params (map (value_of code (meaning code) env bound) es))
      (values_scalars code D (function_at code f.0).params es env names old step.mid step.values step.arguments bound same)
  node_count (node.Block bs a) under step =
      law a.0 env (names ++ step.added) step.mid step.end ss step.body (omega (arith, under.1, inside)) (bound_after code (meaning code) env bs bound)
      (binds_scalars code D env bs names old step.mid step.added step.binds bound same)
  node_count (node.If c a b) under step = chosen (test_of code c (scalars_of names)) refl step
    where
      chosen : (t : Bool) → test_of code c (scalars_of names) ≡ t → P (if t then a.0 else b.0) env names old new ss → Counted (node.If c a b)
      chosen true is step = ap (λ t. length (if t then played code a.0 env bound else played code b.0 env bound)) (ap (test_of code c) same ∙ is) ∙ law a.0 env names old new ss step (omega (arith, under.1, inside)) bound same
      chosen false is step = ap (λ t. length (if t then played code a.0 env bound else played code b.0 env bound)) (ap (test_of code c) same ∙ is) ∙ law b.0 env names old new ss step (omega (arith, under.2, inside)) bound same
  node_count (node.Number v) under step = one_count step
  node_count (node.Local x) under step = one_count step
  node_count (node.Global a) under step = one_count step
  node_count (node.Pair op a b) under step = one_count step
  node_count (node.Div a v) under step = one_count step
  node_count (node.Neg a) under step = one_count step
  node_count (node.Compare r a b) under step = one_count step
  node_count (node.And a b) under step = one_count step
  node_count (node.Or a b) under step = one_count step
  node_count (node.Not a) under step = one_count step
  node_count (node.Leaf g es) under step = one_count step
  node_count (node.Effect fx a es) under step = one_count step
  node_count (node.Cue a) under step = one_count step
  node_count (node.Mix o es) under step = one_count step
  node_count (node.Repeat o i k a) under step = one_count step
  node_count (node.Change c a) under step = one_count step

pub plays_count : (code : Code) → IsOrdered code → (n : ℕ) → Counts code (Plays code n)
plays_count code ordered zero e env names old new ss t inside bound same = absurd t
plays_count code ordered (suc n) e env names old new ss (inl t) inside bound same = plays_count code ordered n e env names old new ss t inside bound same
plays_count code ordered (suc n) e env names old new ss (inr t) inside bound same =
    let under = ordered.each e inside in
    ap length (played-is code e env bound under) ∙ node_count code (EvaluatesAny code) (Plays code n) (plays_count code ordered n) e inside env names old new ss bound same (node_at code e) under t
