-- Evaluation leaves parts that wait within their units.
use Rattle.std.proofs.Common.{◌≡◌, inl, inr, ℕ, zero, suc, List, [], ◌∷◌, ◌++◌, map, Option, None, Some, sym, ap, subst, ◌∙◌, arith, length, ◌<◌, take}
use Rattle.std.specs.Prelude.{zip, if◌then◌else◌, Bool, true, false, pos}
use Rattle.ny_num.specs.Grid.{index_at}
use Rattle.ny_num.specs.declared.rate.Rate.{Rate}
use Rattle.ny_warp.specs.declared.env.Env.{Env}
use Rattle.ny_num.specs.Sound.{placed_timing}
use Rattle.ny_resolve.specs.declared.builtin.Order.TheVariants as order
use Rattle.ny_warp.specs.Environment.{from_stop}
use Rattle.ny_scope.specs.Scopes.{last_of}
use Rattle.ny_resolve.specs.declared.term.NameId.{NameId}
use Rattle.ny_resolve.specs.Keys.{same_name}
use Rattle.ny_kernels.specs.declared.operation.Op.{Op}
use Rattle.ny_kernels.specs.declared.operation.Op.TheVariants.{Sub}
use Rattle.ny_check.specs.declared.node.Node.{Node as NodeOf}
use Rattle.ny_check.specs.declared.node.Node.TheVariants as node
use Rattle.ny_check.specs.declared.node.ExprId.{ExprId}
use Rattle.ny_check.specs.declared.value.Value.{Value}
use Rattle.ny_check.specs.declared.value.Value.TheVariants.{Number, Sound as SoundOf}
use Rattle.ny_check.specs.Code.{Code, node_at as node_in, function_at, AllBelow, BindsBelow, IsBelow, IsOrdered}
use Rattle.ny_check.specs.Values.{scalars_of, number_of, test_of}
use Rattle.ny_check.specs.Behaviours.{is_one, cue_timing}
use Rattle.ny_check.specs.Families.{changed_env}
use Rattle.ny_heap.specs.declared.sound.Sound.{Sound}
use Rattle.ny_heap.specs.Heap.{HeapState}
use Rattle.ny_heap.specs.Steps.{waiting_of}
use Rattle.ny_trace.proofs.EvaluationLemmas.{below_all, below_binds}
use Rattle.ny_hands.specs.declared.branch.Branch.{Branch}
use Rattle.ny_hands.specs.Frames.{Names, sounds_among}
use Rattle.ny_trace.specs.Evaluates.{Trace, Part, parts_of, counted_parts, NameTurn, ValueTurn, BindsTurn, ValuesTurn, JoinTurn, PartsTurn, SimTurn, NextTurn, NextsTurn, times_in, sounds_of_values, SeqTurn, NodeTurn, Evaluates}
use Rattle.ny_walk.specs.Fits.{Fits, IsTold, IsFitting}
use Rattle.ny_num.specs.Mix.{mix_timing}
use Rattle.ny_timing.specs.Timings.{times_in_turn, timing_node, timing_at}
use Rattle.ny_timing.proofs.TimingEquation.{timing_at-is}
use Rattle.ny_trace.specs.Laws.{KeepFree, KeepsFree, in_turn}
use Rattle.ny_trace.proofs.WaitLemmas.{PartsKeepFree, parts_free, counted_free}
use Rattle.ny_walk.proofs.ToldLemmas.{AreInside, inside_parts, inside_counted, inside_first, part_when, parts_when, counted_when, evaluates_told}
use Rattle.ny_walk.proofs.FitSeqLemmas.{seq_ends}
use Rattle.ny_walk.proofs.FitStepLemmas.{fit_released, fit_shared, fit_made, fit_plain, fit_brought, fit_brings, fit_placed, fit_silent, fit_waits, fit_louder}

module _ (code : Code) (D : Trace) (told : IsTold code D) (law : IsFitting code D) where
  value_fit : (env : Env) (names : Names) (e : ExprId) (old new : HeapState Branch) (v : Value Sound) → e.0 < length code.nodes → ValueTurn D code env names e old new v → Fits code old → Fits code new
  value_fit env names e old new (Number k) inside step all = subst (λ (h : HeapState Branch). Fits code h) step.1 all
  value_fit env names e old new (SoundOf s) inside step all = law e.0 env names old new s step.1 inside all

  binds_fit : (env : Env) (bs : List (NameId × ExprId)) (names : Names) (old new : HeapState Branch) (added : Names) → BindsBelow (length code.nodes) bs → BindsTurn D code env bs names old new added → Fits code old → Fits code new
  binds_fit env [] names old new [] below step all = subst (λ (h : HeapState Branch). Fits code h) step all
  binds_fit env [] names old new (a ∷ added) below step all = absurd step
  binds_fit env (b ∷ bs) names old new [] below step all = absurd step
  binds_fit env (b ∷ bs) names old new (a ∷ added) below step all = binds_fit env bs (names ++ a ∷ []) step.0 new added below.1 step.3 (value_fit env names b.1 old step.0 a.1 below.0 step.2 all)

  values_fit : (env : Env) (names : Names) (k : ℕ) (es : List ExprId) (old new : HeapState Branch) (vs : List (Value Sound)) → AllBelow (length code.nodes) es → ValuesTurn D code env names (take k es) old new vs → Fits code old → Fits code new
  values_fit env names zero es old new [] below step all = subst (λ (h : HeapState Branch). Fits code h) step all
  values_fit env names zero es old new (v ∷ vs) below step all = absurd step
  values_fit env names (suc k) [] old new [] below step all = subst (λ (h : HeapState Branch). Fits code h) step all
  values_fit env names (suc k) [] old new (v ∷ vs) below step all = absurd step
  values_fit env names (suc k) (e ∷ es) old new [] below step all = absurd step
  values_fit env names (suc k) (e ∷ es) old new (v ∷ vs) below step all = values_fit env names k es step.0 new vs below.1 step.2 (value_fit env names e old step.0 v below.0 step.1 all)

  join_fit : (op : Op) (r : Rate) (x y : Value Sound) (old new : HeapState Branch) (s : Sound) → JoinTurn op r x y old new s → Fits code old → Fits code new
  join_fit op r (Number j) (Number k) old new s step all = fit_silent code old new r s step all
  join_fit op r (Number j) (SoundOf b) old new s step all = fit_plain code step.mid new _ _ (step.brought ∷ []) (step.brought ∷ []) s step.made (fit_brought code old step.mid r b step.brought step.brings all)
  join_fit op r (SoundOf a) (Number k) old new s step all = fit_plain code step.mid new _ _ (step.brought ∷ []) (step.brought ∷ []) s step.made (fit_brought code old step.mid r a step.brought step.brings all)
  join_fit op r (SoundOf a) (SoundOf b) old new s step all =
      fit_plain code step.end new _ _ (step.first ∷ step.second ∷ []) (step.first ∷ step.second ∷ []) s step.made
      (fit_brought code step.mid step.end r b step.second step.brings_second (fit_brought code old step.mid r a step.first step.brings_first all))

  -- ---- mixes

  each_fit : (env : Env) (ps : List Part) (old new : HeapState Branch) (ss : List Sound) → AreInside code ps → PartsTurn D env ps old new ss → Fits code old → Fits code new
  each_fit env [] old new [] are step all = subst (λ (h : HeapState Branch). Fits code h) step all
  each_fit env [] old new (s ∷ ss) are step all = absurd step
  each_fit env (p ∷ ps) old new [] are step all = absurd step
  each_fit env (p ∷ ps) old new (s ∷ ss) are step all = each_fit env ps step.0 new ss are.1 step.2 (law p.0.0 env p.1 old step.0 s step.1 are.0 all)

  pub next_fit : (env : Env) (stop : ℕ) (p : Part) (old new : HeapState Branch) (s : Sound) → p.0.0 < length code.nodes → NextTurn D env stop p old new s → Fits code old → Fits code new
  next_fit env stop p old new s inside next all =
      fit_placed code next.end new (placed_timing (index_at stop env.sound_rate)) next.brought s next.places
      (fit_brought code next.mid next.end env.sound_rate next.part next.brought next.brings
      (law p.0.0 (from_stop env stop) p.1 old next.mid next.part next.evaluates inside all))

  nexts_fit : (env : Env) (stop : ℕ) (ps : List Part) (old new : HeapState Branch) (ss : List Sound) → AreInside code ps → NextsTurn D env stop ps old new ss → Fits code old → Fits code new
  nexts_fit env stop [] old new [] are step all = subst (λ (h : HeapState Branch). Fits code h) step all
  nexts_fit env stop [] old new (s ∷ ss) are step all = absurd step
  nexts_fit env stop (p ∷ ps) old new [] are step all = absurd step
  nexts_fit env stop (p ∷ ps) old new (s ∷ ss) are step all = nexts_fit env s.timing.stop ps step.0 new ss are.1 step.2 (next_fit env stop p old step.0 s are.0 step.1 all)

  sim_fit : (ps : List Part) (env : Env) (old new : HeapState Branch) (s : Sound) → AreInside code ps → SimTurn D ps env old new s → Fits code old → Fits code new
  sim_fit ps env old new s are step all =
      fit_plain code step.mixed.mid new _ _ step.mixed.brought step.mixed.brought s step.mixed.made (fit_brings code step.mid step.mixed.mid env.sound_rate step.parts step.mixed.brought step.mixed.brings (each_fit env ps old step.mid step.parts are step.each all))

  seq_fit : (e : ℕ) (ps : List Part) (env : Env) (names : Names) (old new : HeapState Branch) (s : Sound) → timing_at code e env (times_in names) ≡ mix_timing env.sound_rate (times_in_turn env (map (part_when code) ps)) → PartsKeepFree code ps → AreInside code ps → SeqTurn D code e ps env names old new s → Fits code old → Fits code new
  seq_fit e ps env names old new s mean free are step all =
      fit_made code step.four new _ step.t (step.brought ∷ step.others) (map waiting_of step.waiting) _ s (λ none. seq_ends code D told e ps env names old new s mean free are step) step.made
      (fit_waits code env step.later step.three step.four step.waiting step.waits
      (nexts_fit env step.brought.timing.stop step.now step.two step.three step.others (inside_first code step.now step.later these.1) step.nexts
      (fit_brought code step.one step.two env.sound_rate step.part step.brought step.brings
      (law step.first.0.0 env step.first.1 old step.one step.part step.evaluates these.0 all))))
    where
      these : AreInside code (step.first ∷ (step.now ++ step.later))
      these = subst (AreInside code) step.all are

  -- ---- each node

  module _ (e : ℕ) (inside : e < length code.nodes) (env : Env) (names : Names) (old new : HeapState Branch) (s : Sound) (all : Fits code old) where
    named_fit : (o : Option (Value Sound)) → NameTurn env.sound_rate o old new s → Fits code new
    named_fit None step = fit_silent code old new env.sound_rate s step all
    named_fit (Some (Number v)) step = fit_silent code old new env.sound_rate s step all
    named_fit (Some (SoundOf a)) step = fit_shared code old new a s step all

    node_fit : (at : NodeOf) → IsBelow code.functions e at → KeepFree code (in_turn at) → timing_at code e env (times_in names) ≡ timing_node code at (timing_at code) env (times_in names) → NodeTurn D code e at env names old new s → Fits code new
    node_fit (node.Local x) below free mean step = named_fit (last_of (same_name x) names) step
    node_fit (node.If c a b) below free mean step = law (if test_of code c (scalars_of names) then a.0 else b.0) env names old new s step (chosen (test_of code c (scalars_of names))) all
      where
        chosen : (t : Bool) → (if t then a.0 else b.0) < length code.nodes
        chosen true = omega (arith, below.1, inside)
        chosen false = omega (arith, below.2, inside)
    node_fit (node.Pair op a b) below free mean step =
        join_fit op env.sound_rate step.left step.right step.end new s step.joined (value_fit env names b step.mid step.end step.right (omega (arith, below.1, inside)) step.second (value_fit env names a old step.mid step.left (omega (arith, below.0, inside)) step.first all))
    node_fit (node.Neg a) below free mean step = join_fit Sub env.sound_rate (Number (pos 0)) step.value step.mid new s step.joined (value_fit env names a old step.mid step.value (omega (arith, below, inside)) step.operand all)
    node_fit (node.Leaf g es) below free mean step = fit_plain code old new _ _ [] [] s step.made all
    node_fit (node.Effect fx a es) below free mean step = fit_plain code step.mid new _ _ (step.part ∷ []) (step.part ∷ []) s step.made (law a.0 env names old step.mid step.part step.evaluates (omega (arith, below.0, inside)) all)
    node_fit (node.Change c a) below free mean step = law a.0 (changed_env c (λ k. number_of code k (scalars_of names)) env) names old new s step (omega (arith, below.1, inside)) all
    node_fit (node.Block bs a) below free mean step =
        fit_released code step.end new (sounds_among step.added) step.given_up
        (law a.0 env (names ++ step.added) step.mid step.end s step.body (omega (arith, below.1, inside)) (binds_fit env bs names old step.mid step.added (below_binds e (length code.nodes) bs (omega (arith, inside)) below.0) step.binds all))
    node_fit (node.Call f es) below free mean step =
        fit_released code step.end new (sounds_of_values step.values) step.given_up
        (law (function_at code f.0).body.0 env (zip (function_at code f.0).params step.values) step.mid step.end s step.inside (omega (arith, below.2, inside))
        (values_fit env names (length (function_at code f.0).params) es old step.mid step.values (below_all e (length code.nodes) es (omega (arith, inside)) below.0) step.arguments all))
    node_fit (node.Cue a) below free mean step =
        fit_louder code step.cued.mid new (is_one env.loud) env.loud step.cued.later s step.cued.louder (fit_placed code step.mid step.cued.mid (cue_timing env) step.part step.cued.later step.cued.places (law a.0 env names old step.mid step.part step.evaluates (omega (arith, below, inside)) all))
    node_fit (node.Mix order.Together es) below free mean step = sim_fit (parts_of names es) env old new s (inside_parts code names es (below_all e (length code.nodes) es (omega (arith, inside)) below)) step all
    node_fit (node.Mix order.InTurn es) below free mean step =
        seq_fit e (parts_of names es) env names old new s (mean ∙ ap (λ ts. mix_timing env.sound_rate (times_in_turn env ts)) (sym (parts_when code names es))) (parts_free code names es free) (inside_parts code names es (below_all e (length code.nodes) es (omega (arith, inside)) below)) step all
    node_fit (node.Repeat order.Together i k a) below free mean step = sim_fit (counted_parts names i k a) env old new s (inside_counted code names i k a (omega (arith, below, inside))) step all
    node_fit (node.Repeat order.InTurn i k a) below free mean step =
        seq_fit e (counted_parts names i k a) env names old new s (mean ∙ ap (λ ts. mix_timing env.sound_rate (times_in_turn env ts)) (sym (counted_when code names i k a))) (counted_free code names i k a free) (inside_counted code names i k a (omega (arith, below, inside))) step all
    node_fit (node.Number v) below free mean step = fit_silent code old new env.sound_rate s step all
    node_fit (node.Global a) below free mean step = fit_silent code old new env.sound_rate s step all
    node_fit (node.Div a v) below free mean step = fit_silent code old new env.sound_rate s step all
    node_fit (node.Compare r a b) below free mean step = fit_silent code old new env.sound_rate s step all
    node_fit (node.And a b) below free mean step = fit_silent code old new env.sound_rate s step all
    node_fit (node.Or a b) below free mean step = fit_silent code old new env.sound_rate s step all
    node_fit (node.Not a) below free mean step = fit_silent code old new env.sound_rate s step all
    node_fit (node.Vector es) below free mean step = fit_silent code old new env.sound_rate s step all

pub evaluates_fit : (code : Code) → IsOrdered code → KeepsFree code → (n : ℕ) → IsFitting code (Evaluates code n)
evaluates_fit code ordered free zero e env names old new s t inside all = absurd t
evaluates_fit code ordered free (suc n) e env names old new s (inl t) inside all = evaluates_fit code ordered free n e env names old new s t inside all
evaluates_fit code ordered free (suc n) e env names old new s (inr t) inside all =
    let under = ordered.each e inside in
    node_fit code (Evaluates code n) (evaluates_told code ordered n) (evaluates_fit code ordered free n) e inside env names old new s all (node_in code e) under (free e) (timing_at-is code e env (times_in names) under) t
