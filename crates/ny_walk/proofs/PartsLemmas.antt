-- Evaluation leaves no part waiting but expressions of the program.
use Rattle.std.proofs.Common.{◌≡◌, inl, inr, ℕ, zero, suc, List, [], ◌∷◌, ◌++◌, map, Option, None, Some, refl, sym, ap, subst, ◌∙◌, arith, length, replicate, ◌<◌, take}
use Rattle.std.specs.Prelude.{zip, get_or, slice_get, if◌then◌else◌, Bool, true, false, pos}
use Rattle.std.proofs.lemmas.List.{length-replicate, length-map}
use Rattle.ny_num.specs.Grid.{index_at}
use Rattle.ny_num.specs.declared.rate.Rate.{Rate}
use Rattle.ny_num.specs.declared.timing.Timing.{Timing}
use Rattle.ny_warp.specs.declared.env.Env.{Env}
use Rattle.ny_num.specs.Sound.{placed_timing}
use Rattle.ny_resolve.specs.declared.builtin.Order.TheVariants as order
use Rattle.ny_warp.specs.Environment.{from_stop}
use Rattle.ny_scope.specs.Scopes.{last_of}
use Rattle.ny_resolve.specs.declared.term.NameId.{NameId}
use Rattle.ny_resolve.specs.Keys.{same_name}
use Rattle.ny_kernels.specs.declared.operation.Op.{Op}
use Rattle.ny_kernels.specs.declared.operation.Op.TheVariants.{Sub}
use Rattle.ny_check.specs.declared.node.Node.{Node as NodeOf}
use Rattle.ny_check.specs.declared.node.Node.TheVariants as node
use Rattle.ny_check.specs.declared.node.ExprId.{ExprId}
use Rattle.ny_check.specs.declared.value.Value.{Value}
use Rattle.ny_check.specs.declared.value.Value.TheVariants.{Number, Sound as SoundOf}
use Rattle.ny_check.specs.Code.{Code, node_at as node_in, function_at, AllBelow, BindsBelow, IsBelow, IsOrdered}
use Rattle.ny_check.specs.Values.{scalars_of, number_of, test_of}
use Rattle.ny_check.specs.Behaviours.{is_one, cue_timing}
use Rattle.ny_check.specs.Families.{changed_env}
use Rattle.ny_heap.specs.declared.sound.Sound.{Sound}
use Rattle.ny_heap.specs.Heap.{Waiting, HeapState}
use Rattle.ny_heap.specs.Steps.{captured_of, reader_of, waiting_of}
use Rattle.ny_hands.proofs.OptionLemmas.{same_at}
use Rattle.std.specs.List.{range_with_len}
use Rattle.ny_num.specs.Sound.{spanning, timing_of}
use Rattle.ny_num.specs.Sound as sounds
use Rattle.ny_num.specs.Mix.{mix, mix_timing}
use Rattle.ny_num.proofs.SoundTimings.{timing_of-mix}
use Rattle.ny_check.specs.Parts.{parts_in_turn}
use Rattle.ny_check.specs.Meaning.{Bound, meaning, part_of, repeated_parts, sound_node}
use Rattle.ny_check.proofs.MeaningEquation.{meaning-is}
use Rattle.ny_timing.specs.Timings.{timed, timed_value}
use Rattle.ny_trace.proofs.EvaluationLemmas.{below_all, below_binds}
use Rattle.ny_hands.specs.declared.branch.Branch.{Branch}
use Rattle.ny_hands.specs.Frames.{Names, sounds_among}
use Rattle.ny_trace.specs.Evaluates.{Trace, Part, parts_of, counted_parts, NameTurn, ValueTurn, BindsTurn, ValuesTurn, JoinTurn, PartsTurn, SimTurn, NextTurn, NextsTurn, counted_names, timed_in, times_in, sounds_of_values, WaitsTurn, SeqTurn, NodeTurn, Evaluates}
use Rattle.ny_walk.specs.Parts.{AreKept, AllPartsOf, IsMakingParts}
use Rattle.ny_walk.proofs.PartsStepLemmas.{kept_in_order, parts_released, parts_shared, parts_made, parts_plain, parts_brought, parts_brings, parts_placed, parts_silent, parts_waits, parts_louder}

mix_timing-rate : (r : Rate) (ts : List Timing) → (mix_timing r ts).rate ≡ r
unfolding mix_timing spanning
mix_timing-rate r [] = refl
mix_timing-rate r (t ∷ ts) = refl

module _ (code : Code) (D : Trace) (law : IsMakingParts code D) where
  value_parts : (env : Env) (names : Names) (e : ExprId) (old new : HeapState Branch) (v : Value Sound) → e.0 < length code.nodes → ValueTurn D code env names e old new v → AllPartsOf code old → AllPartsOf code new
  value_parts env names e old new (Number k) inside step all = subst (λ (h : HeapState Branch). AllPartsOf code h) step.1 all
  value_parts env names e old new (SoundOf s) inside step all = law e.0 env names old new s step.1 inside all

  binds_parts : (env : Env) (bs : List (NameId × ExprId)) (names : Names) (old new : HeapState Branch) (added : Names) → BindsBelow (length code.nodes) bs → BindsTurn D code env bs names old new added → AllPartsOf code old → AllPartsOf code new
  binds_parts env [] names old new [] below step all = subst (λ (h : HeapState Branch). AllPartsOf code h) step all
  binds_parts env [] names old new (a ∷ added) below step all = absurd step
  binds_parts env (b ∷ bs) names old new [] below step all = absurd step
  binds_parts env (b ∷ bs) names old new (a ∷ added) below step all = binds_parts env bs (names ++ a ∷ []) step.0 new added below.1 step.3 (value_parts env names b.1 old step.0 a.1 below.0 step.2 all)

  values_parts : (env : Env) (names : Names) (k : ℕ) (es : List ExprId) (old new : HeapState Branch) (vs : List (Value Sound)) → AllBelow (length code.nodes) es → ValuesTurn D code env names (take k es) old new vs → AllPartsOf code old → AllPartsOf code new
  values_parts env names zero es old new [] below step all = subst (λ (h : HeapState Branch). AllPartsOf code h) step all
  values_parts env names zero es old new (v ∷ vs) below step all = absurd step
  values_parts env names (suc k) [] old new [] below step all = subst (λ (h : HeapState Branch). AllPartsOf code h) step all
  values_parts env names (suc k) [] old new (v ∷ vs) below step all = absurd step
  values_parts env names (suc k) (e ∷ es) old new [] below step all = absurd step
  values_parts env names (suc k) (e ∷ es) old new (v ∷ vs) below step all = values_parts env names k es step.0 new vs below.1 step.2 (value_parts env names e old step.0 v below.0 step.1 all)

  join_parts : (op : Op) (r : Rate) (x y : Value Sound) (old new : HeapState Branch) (s : Sound) → JoinTurn op r x y old new s → AllPartsOf code old → AllPartsOf code new
  join_parts op r (Number j) (Number k) old new s step all = parts_silent code old new r s step all
  join_parts op r (Number j) (SoundOf b) old new s step all = parts_plain code step.mid new _ _ (step.brought ∷ []) (step.brought ∷ []) s step.made (parts_brought code old step.mid r b step.brought step.brings all)
  join_parts op r (SoundOf a) (Number k) old new s step all = parts_plain code step.mid new _ _ (step.brought ∷ []) (step.brought ∷ []) s step.made (parts_brought code old step.mid r a step.brought step.brings all)
  join_parts op r (SoundOf a) (SoundOf b) old new s step all =
      parts_plain code step.end new _ _ (step.first ∷ step.second ∷ []) (step.first ∷ step.second ∷ []) s step.made
      (parts_brought code step.mid step.end r b step.second step.brings_second (parts_brought code old step.mid r a step.first step.brings_first all))

  -- ---- mixes

  abbrev Inside : List Part → Type 0
  Inside [] = Unit {0}
  Inside (p ∷ ps) = (p.0.0 < length code.nodes) × Inside ps

  inside_parts : (names : Names) (es : List ExprId) → AllBelow (length code.nodes) es → Inside (parts_of names es)
  inside_parts names [] below = tt
  inside_parts names (e ∷ es) below = (below.0, inside_parts names es below.1)

  inside_counted : (names : Names) (i : NameId) (count : ℕ) (e : ExprId) → e.0 < length code.nodes → Inside (counted_parts names i count e)
  inside_counted names i count e inside = each (range_with_len 0 count)
    where
      each : (ks : List ℕ) → Inside (map (λ k. let p : Part = (e, counted_names names i k) in p) ks)
      each [] = tt
      each (k ∷ ks) = (inside, each ks)

  inside_first : (ps qs : List Part) → Inside (ps ++ qs) → Inside ps
  inside_first [] qs are = tt
  inside_first (p ∷ ps) qs are = (are.0, inside_first ps qs are.1)

  inside_last : (ps qs : List Part) → Inside (ps ++ qs) → Inside qs
  inside_last [] qs are = are
  inside_last (p ∷ ps) qs are = inside_last ps qs are.1

  each_parts : (env : Env) (ps : List Part) (old new : HeapState Branch) (ss : List Sound) → Inside ps → PartsTurn D env ps old new ss → AllPartsOf code old → AllPartsOf code new
  each_parts env [] old new [] are step all = subst (λ (h : HeapState Branch). AllPartsOf code h) step all
  each_parts env [] old new (s ∷ ss) are step all = absurd step
  each_parts env (p ∷ ps) old new [] are step all = absurd step
  each_parts env (p ∷ ps) old new (s ∷ ss) are step all = each_parts env ps step.0 new ss are.1 step.2 (law p.0.0 env p.1 old step.0 s step.1 are.0 all)

  pub next_parts : (env : Env) (stop : ℕ) (p : Part) (old new : HeapState Branch) (s : Sound) → p.0.0 < length code.nodes → NextTurn D env stop p old new s → AllPartsOf code old → AllPartsOf code new
  next_parts env stop p old new s inside next all =
      parts_placed code next.end new (placed_timing (index_at stop env.sound_rate)) next.brought s next.places
      (parts_brought code next.mid next.end env.sound_rate next.part next.brought next.brings
      (law p.0.0 (from_stop env stop) p.1 old next.mid next.part next.evaluates inside all))

  nexts_parts : (env : Env) (stop : ℕ) (ps : List Part) (old new : HeapState Branch) (ss : List Sound) → Inside ps → NextsTurn D env stop ps old new ss → AllPartsOf code old → AllPartsOf code new
  nexts_parts env stop [] old new [] are step all = subst (λ (h : HeapState Branch). AllPartsOf code h) step all
  nexts_parts env stop [] old new (s ∷ ss) are step all = absurd step
  nexts_parts env stop (p ∷ ps) old new [] are step all = absurd step
  nexts_parts env stop (p ∷ ps) old new (s ∷ ss) are step all = nexts_parts env s.timing.stop ps step.0 new ss are.1 step.2 (next_parts env stop p old step.0 s are.0 step.1 all)

  sim_parts : (ps : List Part) (env : Env) (old new : HeapState Branch) (s : Sound) → Inside ps → SimTurn D ps env old new s → AllPartsOf code old → AllPartsOf code new
  sim_parts ps env old new s are step all =
      parts_plain code step.mixed.mid new _ _ step.mixed.brought step.mixed.brought s step.mixed.made (parts_brings code step.mid step.mixed.mid env.sound_rate step.parts step.mixed.brought step.mixed.brings (each_parts env ps old step.mid step.parts are step.each all))

  -- the branches that wait are of the program, in the environment of the whole, and their names have the sounds that they kept
  waits_inside : (env : Env) (ps : List Part) (old new : HeapState Branch) (qs : List (Branch × List Sound)) → Inside ps → WaitsTurn code env ps old new qs → (i : ℕ) (p : Waiting Branch) → slice_get (map waiting_of qs) i ≡ Some p → (p.branch.expr.0 < length code.nodes) × (p.branch.env.sound_rate ≡ env.sound_rate) × AreKept 0 p.branch.names (length p.captured)
  waits_inside env [] old new [] are step i p e = cc
  waits_inside env [] old new (q ∷ qs) are step i p e = absurd step
  waits_inside env (w ∷ ws) old new [] are step i p e = absurd step
  waits_inside env (w ∷ ws) old new (q ∷ qs) are step zero p e =
      let is : waiting_of q ≡ p = same_at (Some p) (waiting_of q) p (sym e) refl in (
        subst (λ (x : Waiting Branch). x.branch.expr.0 < length code.nodes) is (subst (λ (k : ExprId). k.0 < length code.nodes) (sym step.1) are.0),
        sym (ap (λ (x : Waiting Branch). x.branch.env.sound_rate) is) ∙ ap (λ (v : Env). v.sound_rate) step.2,
        subst (λ (x : Waiting Branch). AreKept 0 x.branch.names (length x.captured)) is (kept_in_order w.1 (get_or code.free w.0.0 []) 0 old step.0 q.0.names q.1 (length (map captured_of q.1)) step.3 (omega (arith, length-map q.1 captured_of))),
      )
  waits_inside env (w ∷ ws) old new (q ∷ qs) are step (suc i) p e = waits_inside env ws step.0 new qs are.1 step.4 i p e

  -- whatever timings the names have
  value_from : Value Sound → Value sounds.Sound
  value_from (Number v) = Number v
  value_from (SoundOf s) = SoundOf (record { rate = s.timing.rate; start = s.timing.start; stop = s.timing.stop; samples = replicate s.timing.len (pos 0) })

  bound_from : Names → Bound
  bound_from [] = []
  bound_from (b ∷ bs) = (b.0, value_from b.1) ∷ bound_from bs

  value_timed : (v : Value Sound) → timed_value (value_from v) ≡ timed_in v
  unfolding value_from timing_of
  value_timed (Number v) = refl
  value_timed (SoundOf s) = ap (λ k. let t : Timing = record s.timing { len = k } in SoundOf t) (length-replicate s.timing.len (pos 0))

  bound_timed : (names : Names) → timed (bound_from names) ≡ times_in names
  unfolding bound_from
  bound_timed [] = refl
  bound_timed (b ∷ bs) = λ i. (b.0, value_timed b.1 i) ∷ bound_timed bs i

  seq_parts : (e : ℕ) (ps : List Part) (env : Env) (names : Names) (old new : HeapState Branch) (s : Sound) (heard : Bound → List (Env → sounds.Sound)) → ((bound : Bound) → meaning code e env bound ≡ mix env.sound_rate (parts_in_turn env (heard bound))) → Inside ps → SeqTurn D code e ps env names old new s → AllPartsOf code old → AllPartsOf code new
  seq_parts e ps env names old new s heard mean are step all =
      parts_made code step.four new _ step.t (step.brought ∷ step.others) (map waiting_of step.waiting) _ s made_inside step.made
      (parts_waits code env step.later step.three step.four step.waiting step.waits
      (nexts_parts env step.brought.timing.stop step.now step.two step.three step.others now_are step.nexts
      (parts_brought code step.one step.two env.sound_rate step.part step.brought step.brings
      (law step.first.0.0 env step.first.1 old step.one step.part step.evaluates these.0 all))))
    where
      these : Inside (step.first ∷ (step.now ++ step.later))
      these = subst Inside step.all are

      now_are : Inside step.now
      now_are = inside_first step.now step.later these.1

      rate : step.t.rate ≡ env.sound_rate
      rate =
          ap (λ (t : Timing). t.rate)
          (step.when (bound_from names) (bound_timed names) ∙ (ap timing_of (mean (bound_from names)) ∙ timing_of-mix env.sound_rate (parts_in_turn env (heard (bound_from names)))))
          ∙ mix_timing-rate env.sound_rate (map timing_of (parts_in_turn env (heard (bound_from names))))

      made_inside : (i : ℕ) (p : Waiting Branch) → slice_get (map waiting_of step.waiting) i ≡ Some p → (p.branch.expr.0 < length code.nodes) × (p.branch.env.sound_rate ≡ step.t.rate) × AreKept 0 p.branch.names (length p.captured) × (0 < length (map reader_of (step.brought ∷ step.others)))
      made_inside i p at = let is = waits_inside env step.later step.three step.four step.waiting (inside_last step.now step.later these.1) step.waits i p at in (is.0, is.1 ∙ sym rate, is.2, omega (arith, length-map (step.brought ∷ step.others) reader_of))

  -- ---- each node

  module _ (e : ℕ) (inside : e < length code.nodes) (env : Env) (names : Names) (old new : HeapState Branch) (s : Sound) (all : AllPartsOf code old) where
    named_parts : (o : Option (Value Sound)) → NameTurn env.sound_rate o old new s → AllPartsOf code new
    named_parts None step = parts_silent code old new env.sound_rate s step all
    named_parts (Some (Number v)) step = parts_silent code old new env.sound_rate s step all
    named_parts (Some (SoundOf a)) step = parts_shared code old new a s step all

    node_parts : (at : NodeOf) → IsBelow code.functions e at → ((bound : Bound) → meaning code e env bound ≡ sound_node code at (meaning code) env bound) → NodeTurn D code e at env names old new s → AllPartsOf code new
    node_parts (node.Local x) below mean step = named_parts (last_of (same_name x) names) step
    node_parts (node.If c a b) below mean step = law (if test_of code c (scalars_of names) then a.0 else b.0) env names old new s step (chosen (test_of code c (scalars_of names))) all
      where
        chosen : (t : Bool) → (if t then a.0 else b.0) < length code.nodes
        chosen true = omega (arith, below.1, inside)
        chosen false = omega (arith, below.2, inside)
    node_parts (node.Pair op a b) below mean step =
        join_parts op env.sound_rate step.left step.right step.end new s step.joined (value_parts env names b step.mid step.end step.right (omega (arith, below.1, inside)) step.second (value_parts env names a old step.mid step.left (omega (arith, below.0, inside)) step.first all))
    node_parts (node.Neg a) below mean step = join_parts Sub env.sound_rate (Number (pos 0)) step.value step.mid new s step.joined (value_parts env names a old step.mid step.value (omega (arith, below, inside)) step.operand all)
    node_parts (node.Leaf g es) below mean step = parts_plain code old new _ _ [] [] s step.made all
    node_parts (node.Effect fx a es) below mean step = parts_plain code step.mid new _ _ (step.part ∷ []) (step.part ∷ []) s step.made (law a.0 env names old step.mid step.part step.evaluates (omega (arith, below.0, inside)) all)
    node_parts (node.Change c a) below mean step = law a.0 (changed_env c (λ k. number_of code k (scalars_of names)) env) names old new s step (omega (arith, below.1, inside)) all
    node_parts (node.Block bs a) below mean step =
        parts_released code step.end new (sounds_among step.added) step.given_up
        (law a.0 env (names ++ step.added) step.mid step.end s step.body (omega (arith, below.1, inside)) (binds_parts env bs names old step.mid step.added (below_binds e (length code.nodes) bs (omega (arith, inside)) below.0) step.binds all))
    node_parts (node.Call f es) below mean step =
        parts_released code step.end new (sounds_of_values step.values) step.given_up
        (law (function_at code f.0).body.0 env (zip (function_at code f.0).params step.values) step.mid step.end s step.inside (omega (arith, below.2, inside))
        (values_parts env names (length (function_at code f.0).params) es old step.mid step.values (below_all e (length code.nodes) es (omega (arith, inside)) below.0) step.arguments all))
    node_parts (node.Cue a) below mean step =
        parts_louder code step.cued.mid new (is_one env.loud) env.loud step.cued.later s step.cued.louder (parts_placed code step.mid step.cued.mid (cue_timing env) step.part step.cued.later step.cued.places (law a.0 env names old step.mid step.part step.evaluates (omega (arith, below, inside)) all))
    node_parts (node.Mix order.Together es) below mean step = sim_parts (parts_of names es) env old new s (inside_parts names es (below_all e (length code.nodes) es (omega (arith, inside)) below)) step all
    node_parts (node.Mix order.InTurn es) below mean step =
        seq_parts e (parts_of names es) env names old new s (λ bound. map (part_of (meaning code) bound) es) mean (inside_parts names es (below_all e (length code.nodes) es (omega (arith, inside)) below)) step all
    node_parts (node.Repeat order.Together i k a) below mean step = sim_parts (counted_parts names i k a) env old new s (inside_counted names i k a (omega (arith, below, inside))) step all
    node_parts (node.Repeat order.InTurn i k a) below mean step =
        seq_parts e (counted_parts names i k a) env names old new s (λ bound. repeated_parts (meaning code) bound i k a) mean (inside_counted names i k a (omega (arith, below, inside))) step all
    node_parts (node.Number v) below mean step = parts_silent code old new env.sound_rate s step all
    node_parts (node.Global a) below mean step = parts_silent code old new env.sound_rate s step all
    node_parts (node.Div a v) below mean step = parts_silent code old new env.sound_rate s step all
    node_parts (node.Compare r a b) below mean step = parts_silent code old new env.sound_rate s step all
    node_parts (node.And a b) below mean step = parts_silent code old new env.sound_rate s step all
    node_parts (node.Or a b) below mean step = parts_silent code old new env.sound_rate s step all
    node_parts (node.Not a) below mean step = parts_silent code old new env.sound_rate s step all
    node_parts (node.Vector es) below mean step = parts_silent code old new env.sound_rate s step all

pub evaluates_parts : (code : Code) → IsOrdered code → (n : ℕ) → IsMakingParts code (Evaluates code n)
evaluates_parts code ordered zero e env names old new s t inside all = absurd t
evaluates_parts code ordered (suc n) e env names old new s (inl t) inside all = evaluates_parts code ordered n e env names old new s t inside all
evaluates_parts code ordered (suc n) e env names old new s (inr t) inside all =
    let under = ordered.each e inside in
    node_parts code (Evaluates code n) (evaluates_parts code ordered n) e inside env names old new s all (node_in code e) under (λ bound. meaning-is code e env bound under) t
