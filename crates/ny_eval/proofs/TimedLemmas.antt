-- When the sound of an evaluation is heard: as the rules of timing say, whatever the heap is.
use Rattle.std.proofs.Common.{◌≡◌, inl, inr, ℕ, zero, suc, ◌+◌, ◌*◌, ◌<◌, Bool, true, false, if◌then◌else◌, List, [], ◌∷◌, ◌++◌, map, length, take, get_or, reverse, Option, None, Some, refl, sym, ap, subst, ◌∙◌, arith, pos, ℤ}
use Rattle.std.specs.Prelude.{zip, replicate, unwrap_or}
use Rattle.std.specs.List.{range_with_len}
use Rattle.std.specs.Map.{lookup}
use Rattle.std.specs.Option.{option_map}
use Rattle.std.proofs.lemmas.List.{append_assoc, length-replicate, take_more}
use Rattle.indexmap.proofs.ReorderLemmas.{map-reverse}
use Rattle.ny_num.specs.Resampling.{resampled_timing, other_rate_timing}
use Rattle.ny_num.specs.Mix.{mix_timing}
use Rattle.ny_num.specs.Sound as sounds
use Rattle.ny_num.specs.Sound.{timing_of}
use Rattle.ny_num.specs.declared.rate.Rate.{Rate}
use Rattle.ny_num.specs.declared.timing.Timing.{Timing}
use Rattle.ny_kernels.specs.declared.operation.Op.{Op}
use Rattle.ny_kernels.specs.declared.operation.Op.TheVariants.{Sub}
use Rattle.ny_warp.specs.declared.env.Env.{Env}
use Rattle.ny_scope.specs.Scopes.{last_of}
use Rattle.ny_scope.proofs.Mapped.{with_value}
use Rattle.ny_resolve.specs.declared.term.NameId.{NameId}
use Rattle.ny_resolve.specs.declared.builtin.Order.TheVariants as order
use Rattle.ny_resolve.specs.Keys.{same_name}
use Rattle.ny_check.specs.declared.node.Node.{Node}
use Rattle.ny_check.specs.declared.node.Node.TheVariants as node
use Rattle.ny_check.specs.declared.node.ExprId.{ExprId}
use Rattle.ny_check.specs.declared.value.Value.{Value}
use Rattle.ny_check.specs.declared.value.Value.TheVariants.{Number, Sound as SoundOf}
use Rattle.ny_check.specs.declared.value.Scalar.{Scalar}
use Rattle.ny_check.specs.declared.value.Scalar.TheVariants as scalar
use Rattle.ny_check.specs.Code.{Code, node_at, function_at, IsBelow, AllBelow, BindsBelow, IsOrdered}
use Rattle.ny_check.specs.Behaviours.{is_one, cue_timing}
use Rattle.ny_check.specs.Families.{pair_timing, leaf_time, changed_env}
use Rattle.ny_check.specs.Values.{scalars_of, scalar_in, scalar_of, number_of, test_of}
use Rattle.ny_check.specs.Meaning.{Bound, meaning}
use Rattle.ny_timing.specs.Timings.{Timed, timed, timed_value, timing_in, timed_by, timed_value_of, timed_after, combined_times, negated_time, times_together, time_of_part, time_of_repeat, times_of_repeats, timing_node, timing_at, no_time, number}
use Rattle.ny_timing.proofs.TimesOfSounds.{timing_of-meaning}
use Rattle.ny_timing.proofs.TimingEquation.{timing_at-is}
use Rattle.ny_heap.specs.declared.sound.Sound.{Sound}
use Rattle.ny_heap.specs.Heap.{HeapState}
use Rattle.ny_hands.specs.declared.branch.Branch.{Branch}
use Rattle.ny_hands.specs.Calls.{Brings, Stay, Change, BringsEach}
use Rattle.ny_hands.specs.Frames.{Names}
use Rattle.ny_trace.specs.Evaluates.{Trace, NameTurn, IsNoNumber, ValueTurn, BindsTurn, ValuesTurn, JoinTurn, Part, parts_of, counted_names, counted_parts, PartsTurn, SimTurn, LouderTurn, NodeTurn, Evaluates, numbers_in, timed_in, times_in}
use Rattle.ny_eval.specs.Framed.{FrameState, names_in}
use Rattle.ny_trace.proofs.FamilyLemmas.{same_timing}
use Rattle.ny_trace.proofs.EvaluationLemmas.{below_all, below_binds}

-- ---- names

scalar_timed : (v : Value Sound) → scalar_in (timed_in v) ≡ scalar_in v
scalar_timed (Number v) = refl
scalar_timed (SoundOf s) = refl

pub scalars_times : (names : Names) → scalars_of (times_in names) ≡ scalars_of names
scalars_times [] = refl
scalars_times (b ∷ bs) = λ i. (b.0, scalar_timed b.1 i) ∷ scalars_times bs i

pub times_append : (ns ms : Names) → times_in (ns ++ ms) ≡ times_in ns ++ times_in ms
times_append [] ms = refl
times_append (n ∷ ns) ms = ap (λ (rest : Timed). (n.0, timed_in n.1) ∷ rest) (times_append ns ms)

-- the first i, and one more
pub times_next : (names : Names) (i : ℕ) (other : NameId × Value Sound) → i < length names → (first times new : Timed) (v : Value Timing) → times ≡ first ++ times_in (take i names) → v ≡ timed_in (get_or names i other).1 → new ≡ times ++ ((get_or names i other).0, v) ∷ [] → new ≡ first ++ times_in (take (i + 1) names)
times_next names i other within first times new v same told grown =
    grown
    ∙ ((λ j. same j ++ ((get_or names i other).0, told j) ∷ [])
    ∙ (append_assoc first (times_in (take i names)) (times_in (get_or names i other ∷ []))
    ∙ ap (λ (ts : Timed). first ++ ts) (sym (times_append (take i names) (get_or names i other ∷ [])) ∙ ap times_in (sym (take_more names i other within)))))

-- those of a frame
pub frame_times : (lent bound shown : Names) (none one two all : Timed) (f : FrameState) → none ≡ [] → one ≡ none ++ times_in lent → two ≡ one ++ times_in shown → shown ≡ bound → all ≡ two → ◌≡◌ {A = FrameState} (record { lent = lent; bound = bound }) f → all ≡ times_in (names_in f)
frame_times lent bound shown none one two all f empty first second same is view =
    is
    ∙ (second
    ∙ ((λ i. (first ∙ ap (λ (ts : Timed). ts ++ times_in lent) empty) i ++ times_in (same i))
    ∙ (sym (times_append lent bound) ∙ ap (λ (g : FrameState). times_in (names_in g)) view)))

times_zip : (xs : List NameId) (vs : List (Value Sound)) → times_in (zip xs vs) ≡ zip xs (map timed_in vs)
times_zip [] vs = refl
times_zip (x ∷ xs) [] = refl
times_zip (x ∷ xs) (v ∷ vs) = ap (λ (rest : Timed). (x, timed_in v) ∷ rest) (times_zip xs vs)

times_are : (names : Names) → times_in names ≡ map (with_value timed_in) names
times_are [] = refl
times_are (b ∷ bs) = ap (λ (rest : Timed). (b.0, timed_in b.1) ∷ rest) (times_are bs)

lookup_timed : (is : NameId → Bool) (ps : Names) → lookup is (map (with_value timed_in) ps) ≡ option_map timed_in (lookup is ps)
lookup_timed is [] = refl
lookup_timed is (p ∷ ps) = by (is p.0) (lookup_timed is ps)
  where
    by : (b : Bool) → lookup is (map (with_value timed_in) ps) ≡ option_map timed_in (lookup is ps) → (if b then Some (timed_in p.1) else lookup is (map (with_value timed_in) ps)) ≡ option_map timed_in (if b then Some p.1 else lookup is ps)
    by true h = refl
    by false h = h

last_timed : (is : NameId → Bool) (names : Names) → last_of is (times_in names) ≡ option_map timed_in (last_of is names)
last_timed is names =
    ap (last_of is) (times_are names)
    ∙ (ap (λ (ps : Timed). lookup is ps) (sym (map-reverse (with_value timed_in) names))
    ∙ lookup_timed is (reverse names))

-- sounds that are heard so
abbrev sound_like : Timing → sounds.Sound
sound_like t = record { rate = t.rate; start = t.start; stop = t.stop; samples = replicate t.len (pos 0) }

like_times : (t : Timing) → timing_of (sound_like t) ≡ t
unfolding timing_of
like_times t = ap (λ n. let u : Timing = record { rate = t.rate; start = t.start; len = n; stop = t.stop } in u) (length-replicate t.len (pos 0))

abbrev value_like : Value Sound → Value sounds.Sound
value_like (Number v) = Number v
value_like (SoundOf s) = SoundOf (sound_like s.timing)

value_times : (v : Value Sound) → timed_value (value_like v) ≡ timed_in v
value_times (Number v) = refl
value_times (SoundOf s) = ap (λ (t : Timing). let u : Value Timing = SoundOf t in u) (like_times s.timing)

abbrev bound_like : Names → Bound
bound_like [] = []
bound_like (b ∷ bs) = (b.0, value_like b.1) ∷ bound_like bs

bound_times : (names : Names) → timed (bound_like names) ≡ times_in names
bound_times [] = refl
bound_times (b ∷ bs) = λ i. (b.0, value_times b.1 i) ∷ bound_times bs i

pub equation : (code : Code) (e : ℕ) (at : Node) (env : Env) (names : Names) → node_at code e ≡ at → IsBelow code.functions e at → timing_at code e env (times_in names) ≡ timing_node code at (timing_at code) env (times_in names)
equation code e at env names here below =
    timing_at-is code e env (times_in names) (subst (λ n. IsBelow code.functions e n) (sym here) below)
    ∙ ap (λ (n : Node). timing_node code n (timing_at code) env (times_in names)) here

-- what the meaning says of all sounds that are heard so
pub whole_time : (code : Code) (e : ℕ) (env : Env) (names : Names) (t : Timing) → ((bound : Bound) → timed bound ≡ times_in names → t ≡ timing_of (meaning code e env bound)) → t ≡ timing_at code e env (times_in names)
whole_time code e env names t when =
    when (bound_like names) (bound_times names)
    ∙ (timing_of-meaning code e env (bound_like names)
    ∙ ap (λ (b : Timed). timing_at code e env b) (bound_times names))

-- ---- steps

pub brings_time : {B : Type 0} (old new : HeapState B) (r : Rate) (a s : Sound) → Brings old new r a s → s.timing ≡ resampled_timing r a.timing
unfolding resampled_timing
brings_time old new r a s (Stay step) = ap (λ (q : Sound). q.timing) (sym step.same) ∙ sym (ap (λ b. if b then a.timing else other_rate_timing r a.timing) step.rate)
brings_time old new r a s (Change step) = step.made.makes.result.timing ∙ sym (ap (λ b. if b then a.timing else other_rate_timing r a.timing) step.rate)

each_time : {B : Type 0} (old new : HeapState B) (r : Rate) (ss ts : List Sound) → BringsEach old new r ss ts → map (λ (s : Sound). s.timing) ts ≡ map (λ (s : Sound). resampled_timing r s.timing) ss
each_time old new r [] [] step = refl
each_time old new r [] (t ∷ ts) step = absurd step
each_time old new r (s ∷ ss) [] step = absurd step
each_time old new r (s ∷ ss) (t ∷ ts) step = λ i. brings_time old step.0 r s t step.1 i ∷ each_time step.0 new r ss ts step.2 i

join_time : (op : Op) (r : Rate) (x y : Value Sound) (old new : HeapState Branch) (s : Sound) → JoinTurn op r x y old new s → s.timing ≡ combined_times (pair_timing op) r (timed_in x) (timed_in y)
join_time op r (Number j) (Number k) old new s step = step.makes.result.timing
join_time op r (Number k) (SoundOf b) old new s step = step.made.makes.result.timing ∙ brings_time old step.mid r b step.brought step.brings
join_time op r (SoundOf a) (Number k) old new s step = step.made.makes.result.timing ∙ brings_time old step.mid r a step.brought step.brings
join_time op r (SoundOf a) (SoundOf b) old new s step =
    step.made.makes.result.timing
    ∙ ((λ i. same_timing op i step.first.timing step.second.timing)
    ∙ (λ i. pair_timing op (brings_time old step.mid r a step.first step.brings_first i) (brings_time step.mid step.end r b step.second step.brings_second i)))

sign_time : (r : Rate) (v : Value Sound) → combined_times (pair_timing Sub) r (Number (pos 0)) (timed_in v) ≡ negated_time r (timed_in v)
sign_time r (Number k) = refl
sign_time r (SoundOf s) = refl

name_time : (r : Rate) (o : Option (Value Sound)) (old new : HeapState Branch) (s : Sound) → NameTurn r o old new s → s.timing ≡ timing_in r (unwrap_or (option_map timed_in o) (SoundOf (no_time r)))
name_time r None old new s step = step.makes.result.timing
name_time r (Some (Number v)) old new s step = step.makes.result.timing
name_time r (Some (SoundOf a)) old new s step = step.timing

louder_time : (b : Bool) (loud : ℤ) (a s : Sound) (old new : HeapState Branch) → LouderTurn b loud a old new s → s.timing ≡ a.timing
louder_time true loud a s old new step = ap (λ (q : Sound). q.timing) (sym step.1)
louder_time false loud a s old new step = step.makes.result.timing

-- ---- by family

-- when a part is heard, from an environment
abbrev pub time_of : Code → Part → Env → Timing
time_of code p from = timing_at code p.0.0 from (times_in p.1)

-- a trace whose sounds are heard as the rules say
abbrev pub IsTimed : Code → Trace → Type 0
IsTimed code D = (e : ℕ) (env : Env) (names : Names) (old new : HeapState Branch) (s : Sound) → D e env names old new s → e < length code.nodes → s.timing ≡ timing_at code e env (times_in names)

timed_sound : (c : Scalar) (t : Timing) → IsNoNumber c → timed_by c t ≡ SoundOf t
timed_sound (scalar.Number v) t none = absurd none
timed_sound (scalar.Test b) t none = refl
timed_sound scalar.Sound t none = refl

pub parts_times : (code : Code) (names : Names) (es : List ExprId) → map (time_of_part (timing_at code) (times_in names)) es ≡ map (time_of code) (parts_of names es)
parts_times code names [] = refl
parts_times code names (e ∷ es) = ap (λ (rest : List (Env → Timing)). time_of code (e, names) ∷ rest) (parts_times code names es)

pub counted_times : (code : Code) (names : Names) (i : NameId) (count : ℕ) (e : ExprId) → times_of_repeats (timing_at code) (times_in names) i count e ≡ map (time_of code) (counted_parts names i count e)
counted_times code names i count e = each (range_with_len 0 count)
  where
    one : (k : ℕ) → time_of_repeat (timing_at code) (times_in names) i e k ≡ time_of code (e, counted_names names i k)
    one k = λ j from. timing_at code e.0 from (sym (times_append names ((i, Number (pos (k * 1000000))) ∷ [])) j)

    each : (ks : List ℕ) → map (time_of_repeat (timing_at code) (times_in names) i e) ks ≡ map (time_of code) (map (λ k. let p : Part = (e, counted_names names i k) in p) ks)
    each [] = refl
    each (k ∷ ks) = λ j. one k j ∷ each ks j

module _ (code : Code) (D : Trace) (law : IsTimed code D) where
  value_time : (env : Env) (names : Names) (e : ExprId) (old new : HeapState Branch) (v : Value Sound) → e.0 < length code.nodes → ValueTurn D code env names e old new v → timed_in v ≡ timed_value_of code (timing_at code) env (times_in names) e
  value_time env names e old new (Number v) inside step =
      ap (λ (c : Scalar). timed_by c (timing_at code e.0 env (times_in names))) (sym (ap (scalar_of code e.0) (scalars_times names) ∙ step.0))
  value_time env names e old new (SoundOf s) inside step =
      ap (λ (t : Timing). let u : Value Timing = SoundOf t in u) (law e.0 env names old new s step.1 inside)
      ∙ (sym (timed_sound (scalar_of code e.0 (scalars_of names)) (timing_at code e.0 env (times_in names)) step.0)
      ∙ ap (λ (c : Scalar). timed_by c (timing_at code e.0 env (times_in names))) (sym (ap (scalar_of code e.0) (scalars_times names))))

  binds_time : (env : Env) (bs : List (NameId × ExprId)) (names : Names) (old new : HeapState Branch) (added : Names) → BindsBelow (length code.nodes) bs → BindsTurn D code env bs names old new added → times_in (names ++ added) ≡ timed_after code (timing_at code) env bs (times_in names)
  binds_time env [] names old new [] inside step = ap times_in (nothing names)
    where
      nothing : (ns : Names) → ns ++ [] ≡ ns
      nothing [] = refl
      nothing (n ∷ ns) = ap (λ (rest : Names). n ∷ rest) (nothing ns)
  binds_time env [] names old new (a ∷ added) inside step = absurd step
  binds_time env (b ∷ bs) names old new [] inside step = absurd step
  binds_time env (b ∷ bs) names old new (a ∷ added) inside step =
      ap times_in (between names)
      ∙ (binds_time env bs (names ++ a ∷ []) step.0 new added inside.1 step.3
      ∙ ap (λ (q : Timed). timed_after code (timing_at code) env bs q) (times_append names (a ∷ []) ∙ ap (λ (q : NameId × Value Timing). times_in names ++ q ∷ []) now))
    where
      between : (ns : Names) → ns ++ a ∷ added ≡ (ns ++ a ∷ []) ++ added
      between [] = refl
      between (n ∷ ns) = ap (λ (rest : Names). n ∷ rest) (between ns)

      now : ◌≡◌ {A = NameId × Value Timing} (a.0, timed_in a.1) (b.0, timed_value_of code (timing_at code) env (times_in names) b.1)
      now = λ i. (step.1 i, value_time env names b.1 old step.0 a.1 inside.0 step.2 i)

  values_time : (env : Env) (names : Names) (es : List ExprId) (old new : HeapState Branch) (vs : List (Value Sound)) → AllBelow (length code.nodes) es → ValuesTurn D code env names es old new vs → map timed_in vs ≡ map (timed_value_of code (timing_at code) env (times_in names)) es
  values_time env names [] old new [] inside step = refl
  values_time env names [] old new (v ∷ vs) inside step = absurd step
  values_time env names (e ∷ es) old new [] inside step = absurd step
  values_time env names (e ∷ es) old new (v ∷ vs) inside step = λ i. value_time env names e old step.0 v inside.0 step.1 i ∷ values_time env names es step.0 new vs inside.1 step.2 i

  -- parts, each of which stands in the table
  abbrev pub AreInside : List Part → Type 0
  AreInside [] = Unit {0}
  AreInside (p ∷ ps) = (p.0.0 < length code.nodes) × AreInside ps

  listed_inside : (names : Names) (es : List ExprId) → AllBelow (length code.nodes) es → AreInside (parts_of names es)
  listed_inside names [] inside = tt
  listed_inside names (e ∷ es) inside = (inside.0, listed_inside names es inside.1)

  counted_inside : (names : Names) (i : NameId) (count : ℕ) (e : ExprId) → e.0 < length code.nodes → AreInside (counted_parts names i count e)
  counted_inside names i count e inside = each (range_with_len 0 count)
    where
      each : (ks : List ℕ) → AreInside (map (λ k. let p : Part = (e, counted_names names i k) in p) ks)
      each [] = tt
      each (k ∷ ks) = (inside, each ks)

  each_part : (env : Env) (r : Rate) (ps : List Part) (old new : HeapState Branch) (ss : List Sound) → AreInside ps → PartsTurn D env ps old new ss → map (λ (s : Sound). resampled_timing r s.timing) ss ≡ map (λ (p : Part). resampled_timing r (time_of code p env)) ps
  each_part env r [] old new [] inside step = refl
  each_part env r [] old new (s ∷ ss) inside step = absurd step
  each_part env r (p ∷ ps) old new [] inside step = absurd step
  each_part env r (p ∷ ps) old new (s ∷ ss) inside step = λ i. resampled_timing r (law p.0.0 env p.1 old step.0 s step.1 inside.0 i) ∷ each_part env r ps step.0 new ss inside.1 step.2 i

  together : (env : Env) (ps : List Part) → times_together env (map (time_of code) ps) ≡ map (λ (p : Part). resampled_timing env.sound_rate (time_of code p env)) ps
  together env [] = refl
  together env (p ∷ ps) = ap (λ rest. resampled_timing env.sound_rate (time_of code p env) ∷ rest) (together env ps)

  sim_time : (ps : List Part) (env : Env) (old new : HeapState Branch) (s : Sound) → AreInside ps → SimTurn D ps env old new s → s.timing ≡ mix_timing env.sound_rate (times_together env (map (time_of code) ps))
  sim_time ps env old new s inside step =
      step.mixed.made.makes.result.timing
      ∙ ap (mix_timing env.sound_rate)
      (each_time step.mid step.mixed.mid env.sound_rate step.parts step.mixed.brought step.mixed.brings
      ∙ (each_part env env.sound_rate ps old step.mid step.parts inside step.each ∙ sym (together env ps)))

  numbers_time : (names : Names) (es : List ExprId) → numbers_in code names es ≡ map (number code (times_in names)) es
  numbers_time names es = ap (λ q. map (λ a. number_of code a q) es) (sym (scalars_times names))

  zip_first : {A B C : Type 0} (f : B → C) (xs : List A) (es : List B) → zip xs (map f (take (length xs) es)) ≡ zip xs (map f es)
  zip_first f [] es = refl
  zip_first f (x ∷ xs) [] = refl
  zip_first {A} {B} {C} f (x ∷ xs) (e ∷ es) = ap (λ (rest : List (A × C)). (x, f e) ∷ rest) (zip_first f xs es)

  taken_below : (n m : ℕ) (es : List ExprId) → AllBelow m es → AllBelow m (take n es)
  taken_below zero m es below = tt
  taken_below (suc n) m [] below = tt
  taken_below (suc n) m (e ∷ es) below = (below.0, taken_below n m es below.1)

  node_time : (e : ℕ) (at : Node) (env : Env) (names : Names) (old new : HeapState Branch) (s : Sound) → e < length code.nodes → node_at code e ≡ at → IsBelow code.functions e at → NodeTurn D code e at env names old new s → s.timing ≡ timing_node code at (timing_at code) env (times_in names)
  node_time e (node.Number v) env names old new s inside here below step = step.makes.result.timing
  node_time e (node.Local x) env names old new s inside here below step =
      name_time env.sound_rate (last_of (same_name x) names) old new s step
      ∙ ap (λ (o : Option (Value Timing)). timing_in env.sound_rate (unwrap_or o (SoundOf (no_time env.sound_rate)))) (sym (last_timed (same_name x) names))
  node_time e (node.Global a) env names old new s inside here below step = step.makes.result.timing
  node_time e (node.Call f es) env names old new s inside here below step =
      law (function_at code f.0).body.0 env (zip (function_at code f.0).params step.values) step.mid step.end s step.inside (omega (arith, below.2, inside))
      ∙ ap (λ (q : Timed). timing_at code (function_at code f.0).body.0 env q)
      (times_zip (function_at code f.0).params step.values
      ∙ (ap (λ (vs : List (Value Timing)). zip (function_at code f.0).params vs) (values_time env names (take (length (function_at code f.0).params) es) old step.mid step.values (taken_below (length (function_at code f.0).params) (length code.nodes) es (below_all e (length code.nodes) es (omega (arith, inside)) below.0)) step.arguments)
      ∙ zip_first (timed_value_of code (timing_at code) env (times_in names)) (function_at code f.0).params es))
  node_time e (node.Block bs a) env names old new s inside here below step =
      law a.0 env (names ++ step.added) step.mid step.end s step.body (omega (arith, below.1, inside))
      ∙ ap (λ (q : Timed). timing_at code a.0 env q) (binds_time env bs names old step.mid step.added (below_binds e (length code.nodes) bs (omega (arith, inside)) below.0) step.binds)
  node_time e (node.Pair op a b) env names old new s inside here below step =
      join_time op env.sound_rate step.left step.right step.end new s step.joined
      ∙ (λ i. combined_times (pair_timing op) env.sound_rate (value_time env names a old step.mid step.left (omega (arith, below.0, inside)) step.first i) (value_time env names b step.mid step.end step.right (omega (arith, below.1, inside)) step.second i))
  node_time e (node.Div a v) env names old new s inside here below step = step.makes.result.timing
  node_time e (node.Neg a) env names old new s inside here below step =
      join_time Sub env.sound_rate (Number (pos 0)) step.value step.mid new s step.joined
      ∙ (sign_time env.sound_rate step.value
      ∙ ap (negated_time env.sound_rate) (value_time env names a old step.mid step.value (omega (arith, below, inside)) step.operand))
  node_time e (node.Compare r a b) env names old new s inside here below step = step.makes.result.timing
  node_time e (node.And a b) env names old new s inside here below step = step.makes.result.timing
  node_time e (node.Or a b) env names old new s inside here below step = step.makes.result.timing
  node_time e (node.Not a) env names old new s inside here below step = step.makes.result.timing
  node_time e (node.If c a b) env names old new s inside here below step = chosen (test_of code c (scalars_of names)) refl step
    where
      told : (t : Bool) → test_of code c (scalars_of names) ≡ t → t ≡ test_of code c (scalars_of (times_in names))
      told t is = sym is ∙ ap (test_of code c) (sym (scalars_times names))

      chosen : (t : Bool) → test_of code c (scalars_of names) ≡ t → D (if t then a.0 else b.0) env names old new s → s.timing ≡ (if test_of code c (scalars_of (times_in names)) then timing_at code a.0 env (times_in names) else timing_at code b.0 env (times_in names))
      chosen true is step =
          law a.0 env names old new s step (omega (arith, below.1, inside))
          ∙ ap (λ (t : Bool). if t then timing_at code a.0 env (times_in names) else timing_at code b.0 env (times_in names)) (told true is)
      chosen false is step =
          law b.0 env names old new s step (omega (arith, below.2, inside))
          ∙ ap (λ (t : Bool). if t then timing_at code a.0 env (times_in names) else timing_at code b.0 env (times_in names)) (told false is)
  node_time e (node.Leaf g es) env names old new s inside here below step = step.made.makes.result.timing ∙ ap (leaf_time g env) (numbers_time names es)
  node_time e (node.Effect fx a es) env names old new s inside here below step =
      step.made.makes.result.timing ∙ law a.0 env names old step.mid step.part step.evaluates (omega (arith, below.0, inside))
  node_time e (node.Cue a) env names old new s inside here below step =
      louder_time (is_one env.loud) env.loud step.cued.later s step.cued.mid new step.cued.louder
      ∙ (step.cued.places.timing
      ∙ ap (cue_timing env) (law a.0 env names old step.mid step.part step.evaluates (omega (arith, below, inside))))
  node_time e (node.Mix order.Together es) env names old new s inside here below step =
      sim_time (parts_of names es) env old new s (listed_inside names es (below_all e (length code.nodes) es (omega (arith, inside)) below)) step
      ∙ ap (λ ts. mix_timing env.sound_rate (times_together env ts)) (sym (parts_times code names es))
  node_time e (node.Repeat order.Together i k a) env names old new s inside here below step =
      sim_time (counted_parts names i k a) env old new s (counted_inside names i k a (omega (arith, below, inside))) step
      ∙ ap (λ ts. mix_timing env.sound_rate (times_together env ts)) (sym (counted_times code names i k a))
  node_time e (node.Mix order.InTurn es) env names old new s inside here below step = step.made.makes.result.timing ∙ (whole_time code e env names step.t step.when ∙ equation code e (node.Mix order.InTurn es) env names here below)
  node_time e (node.Repeat order.InTurn i k a) env names old new s inside here below step = step.made.makes.result.timing ∙ (whole_time code e env names step.t step.when ∙ equation code e (node.Repeat order.InTurn i k a) env names here below)
  node_time e (node.Change c a) env names old new s inside here below step =
      law a.0 (changed_env c (λ k. number_of code k (scalars_of names)) env) names old new s step (omega (arith, below.1, inside))
      ∙ ap (λ q. timing_at code a.0 (changed_env c (λ k. number_of code k q) env) (times_in names)) (sym (scalars_times names))
  node_time e (node.Vector es) env names old new s inside here below step = step.makes.result.timing

-- the law, by induction on the depth of the trace
pub evaluates_timed : (code : Code) → IsOrdered code → (n : ℕ) → IsTimed code (Evaluates code n)
evaluates_timed code ordered zero e env names old new s t inside = absurd t
evaluates_timed code ordered (suc n) e env names old new s (inl t) inside = evaluates_timed code ordered n e env names old new s t inside
evaluates_timed code ordered (suc n) e env names old new s (inr t) inside =
    node_time code (Evaluates code n) (evaluates_timed code ordered n) e (node_at code e) env names old new s inside refl (ordered.each e inside) t
    ∙ sym (timing_at-is code e env (times_in names) (ordered.each e inside))
