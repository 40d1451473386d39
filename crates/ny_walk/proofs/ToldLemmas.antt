-- When a sound is heard that is evaluated: as the timings of its names tell.
use Rattle.std.proofs.Common.{◌≡◌, inl, inr, ℕ, zero, suc, ◌*◌, ◌<◌, List, [], ◌∷◌, ◌++◌, map, Option, None, Some, refl, sym, ap, subst, ◌∙◌, arith, length, replicate, take}
use Rattle.std.specs.Prelude.{zip, if◌then◌else◌, cond, Bool, true, false, ℤ, pos, unwrap_or}
use Rattle.std.specs.List.{range_with_len}
use Rattle.std.proofs.lemmas.List.{length-replicate, append-nil, append_assoc}
use Rattle.ny_num.specs.declared.rate.Rate.{Rate}
use Rattle.ny_num.specs.declared.timing.Timing.{Timing}
use Rattle.ny_num.specs.Grid.{index_at}
use Rattle.ny_num.specs.Sound as sounds
use Rattle.ny_num.specs.Sound.{timing_of, placed_timing}
use Rattle.ny_num.specs.Mix.{mix_timing}
use Rattle.ny_num.specs.Resampling.{resampled_timing, other_rate_timing}
use Rattle.ny_warp.specs.declared.env.Env.{Env}
use Rattle.ny_warp.specs.Environment.{from_stop}
use Rattle.ny_scope.specs.Scopes.{last_of}
use Rattle.ny_scope.proofs.Mapped.{with_value, last_of-with}
use Rattle.ny_resolve.specs.declared.term.NameId.{NameId}
use Rattle.ny_resolve.specs.declared.builtin.Order.TheVariants as order
use Rattle.ny_resolve.specs.Keys.{same_name}
use Rattle.ny_kernels.specs.declared.operation.Op.{Op}
use Rattle.ny_kernels.specs.declared.operation.Op.TheVariants.{Sub}
use Rattle.ny_check.specs.declared.node.Node.{Node as NodeOf}
use Rattle.ny_check.specs.declared.node.Node.TheVariants as node
use Rattle.ny_check.specs.declared.node.ExprId.{ExprId}
use Rattle.ny_check.specs.declared.value.Scalar.{Scalar}
use Rattle.ny_check.specs.declared.value.Scalar.TheVariants as scalar
use Rattle.ny_check.specs.declared.value.Value.{Value}
use Rattle.ny_check.specs.declared.value.Value.TheVariants.{Number, Sound as SoundOf}
use Rattle.ny_check.specs.Code.{Code, node_at as node_in, function_at, AllBelow, BindsBelow, IsBelow, IsOrdered}
use Rattle.ny_check.specs.Values.{Scalars, scalars_of, scalar_of, scalar_in, number_of, test_of}
use Rattle.ny_check.specs.Behaviours.{is_one, cue_timing}
use Rattle.ny_check.specs.Families.{pair_timing, leaf_time, changed_env}
use Rattle.ny_check.specs.Meaning.{Bound}
use Rattle.ny_timing.specs.Timings.{Timed, timed, timed_value, timing_in, timed_by, timed_value_of, timed_after, combined_times, negated_time, times_together, time_of_part, time_of_repeat, times_of_repeats, next_time, no_time, timing_node, timing_at}
use Rattle.ny_timing.proofs.TimesOfSounds.{timing_of-meaning}
use Rattle.ny_timing.proofs.TimingEquation.{timing_at-is}
use Rattle.ny_heap.specs.declared.sound.Sound.{Sound}
use Rattle.ny_heap.specs.Heap.{HeapState}
use Rattle.ny_hands.specs.declared.branch.Branch.{Branch}
use Rattle.ny_hands.specs.Calls.{Brings, Stay, Change, BringsEach, IsSilent}
use Rattle.ny_hands.specs.Frames.{Names}
use Rattle.ny_trace.proofs.EvaluationLemmas.{below_all, below_binds}
use Rattle.ny_trace.proofs.FamilyLemmas.{same_timing}
use Rattle.ny_trace.specs.Evaluates.{Trace, Part, parts_of, counted_parts, counted_names, NameTurn, IsNoNumber, ValueTurn, BindsTurn, ValuesTurn, JoinTurn, PartsTurn, SimTurn, NextTurn, SeqTurn, LouderTurn, timed_in, times_in, NodeTurn, Evaluates}
use Rattle.ny_trace.specs.Reveals.{no_sound}
use Rattle.ny_walk.specs.Fits.{IsTold}

-- ---- names

scalar_told : (v : Value Sound) → scalar_in (timed_in v) ≡ scalar_in v
scalar_told (Number v) = refl
scalar_told (SoundOf s) = refl

pub scalars_told : (names : Names) → scalars_of (times_in names) ≡ scalars_of names
scalars_told [] = refl
scalars_told (b ∷ bs) = λ i. (b.0, scalar_told b.1 i) ∷ scalars_told bs i

times_append : (names added : Names) → times_in (names ++ added) ≡ times_in names ++ times_in added
times_append [] added = refl
times_append (b ∷ bs) added = ap (λ (rest : Timed). (b.0, timed_in b.1) ∷ rest) (times_append bs added)

times_zip : (xs : List NameId) (vs : List (Value Sound)) → times_in (zip xs vs) ≡ zip xs (map timed_in vs)
times_zip [] vs = refl
times_zip (x ∷ xs) [] = refl
times_zip (x ∷ xs) (v ∷ vs) = ap (λ (rest : Timed). (x, timed_in v) ∷ rest) (times_zip xs vs)

times_are : (names : Names) → times_in names ≡ map (with_value timed_in) names
times_are [] = refl
times_are (b ∷ bs) = ap (λ (rest : Timed). (b.0, timed_in b.1) ∷ rest) (times_are bs)

zip_first : {A B C : Type 0} (f : B → C) (xs : List A) (es : List B) → zip xs (map f (take (length xs) es)) ≡ zip xs (map f es)
zip_first f [] es = refl
zip_first f (x ∷ xs) [] = refl
zip_first {A} {B} {C} f (x ∷ xs) (e ∷ es) = ap (λ (rest : List (A × C)). (x, f e) ∷ rest) (zip_first f xs es)

-- ---- steps

silent_time : {B : Type 0} (old new : HeapState B) (r : Rate) (s : Sound) → IsSilent old new r s → s.timing ≡ no_time r
silent_time old new r s step = step.makes.result.timing

pub brought_told : {B : Type 0} (old new : HeapState B) (r : Rate) (a s : Sound) → Brings old new r a s → s.timing ≡ resampled_timing r a.timing
unfolding resampled_timing
brought_told old new r a s (Stay step) = ap (λ (q : Sound). q.timing) (sym step.same) ∙ sym (ap (λ b. cond b a.timing (other_rate_timing r a.timing)) step.rate)
brought_told old new r a s (Change step) = step.made.makes.result.timing ∙ sym (ap (λ b. cond b a.timing (other_rate_timing r a.timing)) step.rate)

each_told : {B : Type 0} (old new : HeapState B) (r : Rate) (ss ts : List Sound) → BringsEach old new r ss ts → map (λ (s : Sound). s.timing) ts ≡ map (λ (s : Sound). resampled_timing r s.timing) ss
each_told old new r [] [] step = refl
each_told old new r [] (t ∷ ts) step = absurd step
each_told old new r (s ∷ ss) [] step = absurd step
each_told old new r (s ∷ ss) (t ∷ ts) step = λ i. brought_told old step.0 r s t step.1 i ∷ each_told step.0 new r ss ts step.2 i

louder_told : (old new : HeapState Branch) (is : Bool) (loud : ℤ) (a s : Sound) → LouderTurn is loud a old new s → s.timing ≡ a.timing
louder_told old new true loud a s step = ap (λ (q : Sound). q.timing) (sym step.1)
louder_told old new false loud a s step = step.makes.result.timing

join_told : (op : Op) (r : Rate) (x y : Value Sound) (old new : HeapState Branch) (s : Sound) → JoinTurn op r x y old new s → s.timing ≡ combined_times (pair_timing op) r (timed_in x) (timed_in y)
join_told op r (Number j) (Number k) old new s step = silent_time old new r s step
join_told op r (Number j) (SoundOf b) old new s step = step.made.makes.result.timing ∙ brought_told old step.mid r b step.brought step.brings
join_told op r (SoundOf a) (Number k) old new s step = step.made.makes.result.timing ∙ brought_told old step.mid r a step.brought step.brings
join_told op r (SoundOf a) (SoundOf b) old new s step =
    step.made.makes.result.timing
    ∙ (λ i. same_timing op i (brought_told old step.mid r a step.first step.brings_first i) (brought_told step.mid step.end r b step.second step.brings_second i))

negated_told : (op : Op) (r : Rate) (v : Value Timing) → combined_times (pair_timing op) r (Number (pos 0)) v ≡ negated_time r v
negated_told op r (Number k) = refl
negated_told op r (SoundOf t) = refl

by_number : (sc : Scalar) (t : Timing) → IsNoNumber sc → timed_by sc t ≡ SoundOf t
by_number (scalar.Number v) t is = absurd is
by_number (scalar.Test b) t is = refl
by_number scalar.Sound t is = refl

-- ---- whatever timings the names have

abbrev pub value_from : Value Sound → Value sounds.Sound
value_from (Number v) = Number v
value_from (SoundOf s) = SoundOf (record { rate = s.timing.rate; start = s.timing.start; stop = s.timing.stop; samples = replicate s.timing.len (pos 0) })

abbrev pub bound_from : Names → Bound
bound_from [] = []
bound_from (b ∷ bs) = (b.0, value_from b.1) ∷ bound_from bs

pub value_timed : (v : Value Sound) → timed_value (value_from v) ≡ timed_in v
unfolding timing_of
value_timed (Number v) = refl
value_timed (SoundOf s) = ap (λ k. let t : Timing = record s.timing { len = k } in SoundOf t) (length-replicate s.timing.len (pos 0))

pub bound_timed : (names : Names) → timed (bound_from names) ≡ times_in names
bound_timed [] = refl
bound_timed (b ∷ bs) = λ i. (b.0, value_timed b.1 i) ∷ bound_timed bs i

-- ---- families

module _ (code : Code) where
  -- each part is an expression of the program
  abbrev pub AreInside : List Part → Type 0
  AreInside [] = Unit {0}
  AreInside (p ∷ ps) = (p.0.0 < length code.nodes) × AreInside ps

  pub inside_parts : (names : Names) (es : List ExprId) → AllBelow (length code.nodes) es → AreInside (parts_of names es)
  inside_parts names [] below = tt
  inside_parts names (e ∷ es) below = (below.0, inside_parts names es below.1)

  pub inside_counted : (names : Names) (i : NameId) (count : ℕ) (e : ExprId) → e.0 < length code.nodes → AreInside (counted_parts names i count e)
  inside_counted names i count e inside = each (range_with_len 0 count)
    where
      each : (ks : List ℕ) → AreInside (map (λ k. let p : Part = (e, counted_names names i k) in p) ks)
      each [] = tt
      each (k ∷ ks) = (inside, each ks)

  pub inside_first : (ps qs : List Part) → AreInside (ps ++ qs) → AreInside ps
  inside_first [] qs are = tt
  inside_first (p ∷ ps) qs are = (are.0, inside_first ps qs are.1)

  -- when a part is heard, from an environment
  abbrev pub part_when : Part → Env → Timing
  part_when p from = timing_at code p.0.0 from (times_in p.1)

  pub parts_when : (names : Names) (es : List ExprId) → map part_when (parts_of names es) ≡ map (time_of_part (timing_at code) (times_in names)) es
  parts_when names [] = refl
  parts_when names (e ∷ es) = ap (λ (ts : List (Env → Timing)). part_when (e, names) ∷ ts) (parts_when names es)

  pub counted_when : (names : Names) (i : NameId) (count : ℕ) (e : ExprId) → map part_when (counted_parts names i count e) ≡ times_of_repeats (timing_at code) (times_in names) i count e
  counted_when names i count e = each (range_with_len 0 count)
    where
      each : (ks : List ℕ) → map part_when (map (λ k. let p : Part = (e, counted_names names i k) in p) ks) ≡ map (time_of_repeat (timing_at code) (times_in names) i e) ks
      each [] = refl
      each (k ∷ ks) = λ j. (λ from. timing_at code e.0 from (times_append names ((i, Number (pos (k * 1000000))) ∷ []) j)) ∷ each ks j

module _ (code : Code) (D : Trace) (law : IsTold code D) where
  value_told : (env : Env) (names : Names) (e : ExprId) (old new : HeapState Branch) (v : Value Sound) → e.0 < length code.nodes → ValueTurn D code env names e old new v → timed_in v ≡ timed_value_of code (timing_at code) env (times_in names) e
  value_told env names e old new (Number k) inside step =
      sym (ap (λ sc. timed_by sc (timing_at code e.0 env (times_in names))) (ap (scalar_of code e.0) (scalars_told names) ∙ step.0))
  value_told env names e old new (SoundOf s) inside step =
      ap (λ (t : Timing). SoundOf t) (law e.0 env names old new s step.1 inside)
      ∙ sym (by_number (scalar_of code e.0 (scalars_of (times_in names))) (timing_at code e.0 env (times_in names)) (subst (λ q. IsNoNumber (scalar_of code e.0 q)) (sym (scalars_told names)) step.0))

  binds_told : (env : Env) (bs : List (NameId × ExprId)) (names : Names) (old new : HeapState Branch) (added : Names) → BindsBelow (length code.nodes) bs → BindsTurn D code env bs names old new added → times_in (names ++ added) ≡ timed_after code (timing_at code) env bs (times_in names)
  binds_told env [] names old new [] below step = ap times_in (append-nil names)
  binds_told env [] names old new (a ∷ added) below step = absurd step
  binds_told env (b ∷ bs) names old new [] below step = absurd step
  binds_told env (b ∷ bs) names old new (a ∷ added) below step =
      ap times_in (sym (append_assoc names (a ∷ []) added))
      ∙ (binds_told env bs (names ++ a ∷ []) step.0 new added below.1 step.3
      ∙ ap (timed_after code (timing_at code) env bs)
      (times_append names (a ∷ [])
      ∙ (λ i. times_in names ++ (step.1 i, value_told env names b.1 old step.0 a.1 below.0 step.2 i) ∷ [])))

  values_told : (env : Env) (names : Names) (k : ℕ) (es : List ExprId) (old new : HeapState Branch) (vs : List (Value Sound)) → AllBelow (length code.nodes) es → ValuesTurn D code env names (take k es) old new vs → map timed_in vs ≡ map (timed_value_of code (timing_at code) env (times_in names)) (take k es)
  values_told env names zero es old new [] below step = refl
  values_told env names zero es old new (v ∷ vs) below step = absurd step
  values_told env names (suc k) [] old new [] below step = refl
  values_told env names (suc k) [] old new (v ∷ vs) below step = absurd step
  values_told env names (suc k) (e ∷ es) old new [] below step = absurd step
  values_told env names (suc k) (e ∷ es) old new (v ∷ vs) below step = λ i. value_told env names e old step.0 v below.0 step.1 i ∷ values_told env names k es step.0 new vs below.1 step.2 i

  -- parts together
  abbrev part_at_rate : Env → Part → Timing
  part_at_rate env p = resampled_timing env.sound_rate (timing_at code p.0.0 env (times_in p.1))

  each_part : (env : Env) (ps : List Part) (old new : HeapState Branch) (ss : List Sound) → AreInside code ps → PartsTurn D env ps old new ss → map (λ (s : Sound). resampled_timing env.sound_rate s.timing) ss ≡ map (part_at_rate env) ps
  each_part env [] old new [] are step = refl
  each_part env [] old new (s ∷ ss) are step = absurd step
  each_part env (p ∷ ps) old new [] are step = absurd step
  each_part env (p ∷ ps) old new (s ∷ ss) are step =
      λ i. resampled_timing env.sound_rate (law p.0.0 env p.1 old step.0 s step.1 are.0 i) ∷ each_part env ps step.0 new ss are.1 step.2 i

  sim_told : (ps : List Part) (env : Env) (old new : HeapState Branch) (s : Sound) → AreInside code ps → SimTurn D ps env old new s → s.timing ≡ mix_timing env.sound_rate (map (part_at_rate env) ps)
  sim_told ps env old new s are step =
      step.mixed.made.makes.result.timing
      ∙ ap (mix_timing env.sound_rate) (each_told step.mid step.mixed.mid env.sound_rate step.parts step.mixed.brought step.mixed.brings ∙ each_part env ps old step.mid step.parts are step.each)

  parts_together : (env : Env) (names : Names) (es : List ExprId) → map (part_at_rate env) (parts_of names es) ≡ times_together env (map (time_of_part (timing_at code) (times_in names)) es)
  parts_together env names [] = refl
  parts_together env names (e ∷ es) = ap (λ (ts : List Timing). part_at_rate env (e, names) ∷ ts) (parts_together env names es)

  counted_together : (env : Env) (names : Names) (i : NameId) (count : ℕ) (e : ExprId) → map (part_at_rate env) (counted_parts names i count e) ≡ times_together env (times_of_repeats (timing_at code) (times_in names) i count e)
  counted_together env names i count e = each (range_with_len 0 count)
    where
      each : (ks : List ℕ) → map (part_at_rate env) (map (λ k. let p : Part = (e, counted_names names i k) in p) ks) ≡ times_together env (map (time_of_repeat (timing_at code) (times_in names) i e) ks)
      each [] = refl
      each (k ∷ ks) = λ j. resampled_timing env.sound_rate (timing_at code e.0 env (times_append names ((i, Number (pos (k * 1000000))) ∷ []) j)) ∷ each ks j

  -- the part that follows one with this stop
  pub next_told : (env : Env) (stop : ℕ) (p : Part) (old new : HeapState Branch) (s : Sound) → p.0.0 < length code.nodes → NextTurn D env stop p old new s → s.timing ≡ next_time env stop (λ from. timing_at code p.0.0 from (times_in p.1))
  next_told env stop p old new s inside step =
      step.places.timing
      ∙ ap (placed_timing (index_at stop env.sound_rate)) (brought_told step.mid step.end env.sound_rate step.part step.brought step.brings
      ∙ ap (resampled_timing env.sound_rate) (law p.0.0 (from_stop env stop) p.1 old step.mid step.part step.evaluates inside))

  pub seq_time : (e : ℕ) (ps : List Part) (env : Env) (names : Names) (old new : HeapState Branch) (s : Sound) (step : SeqTurn D code e ps env names old new s) → step.t ≡ timing_at code e env (times_in names)
  seq_time e ps env names old new s step =
      step.when (bound_from names) (bound_timed names)
      ∙ (timing_of-meaning code e env (bound_from names) ∙ ap (timing_at code e env) (bound_timed names))

  -- ---- each node

  module _ (e : ℕ) (inside : e < length code.nodes) (env : Env) (names : Names) (old new : HeapState Branch) (s : Sound) where
    named_told : (x : NameId) → NameTurn env.sound_rate (last_of (same_name x) names) old new s → s.timing ≡ timing_in env.sound_rate (unwrap_or (last_of (same_name x) (times_in names)) (SoundOf (no_time env.sound_rate)))
    named_told x step =
        by_found (last_of (same_name x) names) step
        ∙ (ap (timing_in env.sound_rate) (sym (last_of-with timed_in (same_name x) names (SoundOf (no_sound env.sound_rate))))
        ∙ ap (λ (w : Timed). timing_in env.sound_rate (unwrap_or (last_of (same_name x) w) (SoundOf (no_time env.sound_rate)))) (sym (times_are names)))
      where
        by_found : (o : Option (Value Sound)) → NameTurn env.sound_rate o old new s → s.timing ≡ timing_in env.sound_rate (timed_in (unwrap_or o (SoundOf (no_sound env.sound_rate))))
        by_found None step = silent_time old new env.sound_rate s step
        by_found (Some (Number v)) step = silent_time old new env.sound_rate s step
        by_found (Some (SoundOf a)) step = step.timing

    if_told : (c a b : ExprId) → a.0 < length code.nodes → b.0 < length code.nodes → D (if test_of code c (scalars_of names) then a.0 else b.0) env names old new s → s.timing ≡ (if test_of code c (scalars_of (times_in names)) then timing_at code a.0 env (times_in names) else timing_at code b.0 env (times_in names))
    if_told c a b first second step =
        by_test (test_of code c (scalars_of names)) step
        ∙ ap (λ (q : Scalars). if test_of code c q then timing_at code a.0 env (times_in names) else timing_at code b.0 env (times_in names)) (sym (scalars_told names))
      where
        by_test : (t : Bool) → D (if t then a.0 else b.0) env names old new s → s.timing ≡ (if t then timing_at code a.0 env (times_in names) else timing_at code b.0 env (times_in names))
        by_test true step = law a.0 env names old new s step first
        by_test false step = law b.0 env names old new s step second

    node_told : (at : NodeOf) → IsBelow code.functions e at → timing_at code e env (times_in names) ≡ timing_node code at (timing_at code) env (times_in names) → NodeTurn D code e at env names old new s → s.timing ≡ timing_at code e env (times_in names)
    node_told (node.Local x) below mean step = named_told x step ∙ sym mean
    node_told (node.If c a b) below mean step = if_told c a b (omega (arith, below.1, inside)) (omega (arith, below.2, inside)) step ∙ sym mean
    node_told (node.Pair op a b) below mean step =
        join_told op env.sound_rate step.left step.right step.end new s step.joined
        ∙ ((λ i. combined_times (pair_timing op) env.sound_rate (value_told env names a old step.mid step.left (omega (arith, below.0, inside)) step.first i) (value_told env names b step.mid step.end step.right (omega (arith, below.1, inside)) step.second i))
        ∙ sym mean)
    node_told (node.Neg a) below mean step =
        join_told Sub env.sound_rate (Number (pos 0)) step.value step.mid new s step.joined
        ∙ (negated_told Sub env.sound_rate (timed_in step.value)
        ∙ (ap (negated_time env.sound_rate) (value_told env names a old step.mid step.value (omega (arith, below, inside)) step.operand)
        ∙ sym mean))
    node_told (node.Leaf g es) below mean step =
        step.made.makes.result.timing
        ∙ (ap (λ (q : Scalars). leaf_time g env (map (λ (a : ExprId). number_of code a q) es)) (sym (scalars_told names))
        ∙ sym mean)
    node_told (node.Effect fx a es) below mean step = step.made.makes.result.timing ∙ (law a.0 env names old step.mid step.part step.evaluates (omega (arith, below.0, inside)) ∙ sym mean)
    node_told (node.Change c a) below mean step =
        law a.0 (changed_env c (λ k. number_of code k (scalars_of names)) env) names old new s step (omega (arith, below.1, inside))
        ∙ (ap (λ (q : Scalars). timing_at code a.0 (changed_env c (λ (k : ExprId). number_of code k q) env) (times_in names)) (sym (scalars_told names))
        ∙ sym mean)
    node_told (node.Block bs a) below mean step =
        law a.0 env (names ++ step.added) step.mid step.end s step.body (omega (arith, below.1, inside))
        ∙ (ap (timing_at code a.0 env) (binds_told env bs names old step.mid step.added (below_binds e (length code.nodes) bs (omega (arith, inside)) below.0) step.binds)
        ∙ sym mean)
    node_told (node.Call f es) below mean step =
        law (function_at code f.0).body.0 env (zip (function_at code f.0).params step.values) step.mid step.end s step.inside (omega (arith, below.2, inside))
        ∙ (ap (timing_at code (function_at code f.0).body.0 env)
        (times_zip (function_at code f.0).params step.values
        ∙ (ap (zip (function_at code f.0).params) (values_told env names (length (function_at code f.0).params) es old step.mid step.values (below_all e (length code.nodes) es (omega (arith, inside)) below.0) step.arguments)
        ∙ zip_first (timed_value_of code (timing_at code) env (times_in names)) (function_at code f.0).params es))
        ∙ sym mean)
    node_told (node.Cue a) below mean step =
        louder_told step.cued.mid new (is_one env.loud) env.loud step.cued.later s step.cued.louder
        ∙ (step.cued.places.timing
        ∙ (ap (cue_timing env) (law a.0 env names old step.mid step.part step.evaluates (omega (arith, below, inside)))
        ∙ sym mean))
    node_told (node.Mix order.Together es) below mean step =
        sim_told (parts_of names es) env old new s (inside_parts code names es (below_all e (length code.nodes) es (omega (arith, inside)) below)) step
        ∙ (ap (mix_timing env.sound_rate) (parts_together env names es) ∙ sym mean)
    node_told (node.Mix order.InTurn es) below mean step = step.made.makes.result.timing ∙ seq_time e (parts_of names es) env names old new s step
    node_told (node.Repeat order.Together i k a) below mean step =
        sim_told (counted_parts names i k a) env old new s (inside_counted code names i k a (omega (arith, below, inside))) step
        ∙ (ap (mix_timing env.sound_rate) (counted_together env names i k a) ∙ sym mean)
    node_told (node.Repeat order.InTurn i k a) below mean step = step.made.makes.result.timing ∙ seq_time e (counted_parts names i k a) env names old new s step
    node_told (node.Number v) below mean step = silent_time old new env.sound_rate s step ∙ sym mean
    node_told (node.Global a) below mean step = silent_time old new env.sound_rate s step ∙ sym mean
    node_told (node.Div a v) below mean step = silent_time old new env.sound_rate s step ∙ sym mean
    node_told (node.Compare r a b) below mean step = silent_time old new env.sound_rate s step ∙ sym mean
    node_told (node.And a b) below mean step = silent_time old new env.sound_rate s step ∙ sym mean
    node_told (node.Or a b) below mean step = silent_time old new env.sound_rate s step ∙ sym mean
    node_told (node.Not a) below mean step = silent_time old new env.sound_rate s step ∙ sym mean
    node_told (node.Vector es) below mean step = silent_time old new env.sound_rate s step ∙ sym mean

pub evaluates_told : (code : Code) → IsOrdered code → (n : ℕ) → IsTold code (Evaluates code n)
evaluates_told code ordered zero e env names old new s t inside = absurd t
evaluates_told code ordered (suc n) e env names old new s (inl t) inside = evaluates_told code ordered n e env names old new s t inside
evaluates_told code ordered (suc n) e env names old new s (inr t) inside =
    let under = ordered.each e inside in
    node_told code (Evaluates code n) (evaluates_told code ordered n) e inside env names old new s (node_in code e) under (timing_at-is code e env (times_in names) under) t
