-- What the plan makes is heard as the timings of its names tell.
use Rattle.std.proofs.Common.{◌≡◌, ℕ, ◌*◌, Bool, true, false, cond, if◌then◌else◌, List, [], ◌∷◌, ◌++◌, map, zip, Option, None, Some, unwrap_or, refl, sym, ap, ◌∙◌, pos}
use Rattle.std.specs.List.{range_with_len}
use Rattle.ny_num.specs.Grid.{index_at}
use Rattle.ny_num.specs.declared.rate.Rate.{Rate}
use Rattle.ny_num.specs.declared.timing.Timing.{Timing}
use Rattle.ny_num.specs.Sound as sounds
use Rattle.ny_num.specs.Sound.{placed_timing}
use Rattle.ny_num.specs.Mix.{mix_timing}
use Rattle.ny_num.specs.Leaves.{louder_value}
use Rattle.ny_num.specs.Pointwise.{each_value}
use Rattle.ny_num.specs.Resampling.{is_same_rate, resampled, resampled_timing, other_rate_timing}
use Rattle.ny_kernels.specs.declared.operation.Op.{Op}
use Rattle.ny_warp.specs.declared.env.Env.{Env}
use Rattle.ny_warp.specs.Environment.{from_stop}
use Rattle.ny_scope.specs.Scopes.{last_of}
use Rattle.ny_scope.proofs.Mapped.{with_value, last_of-with}
use Rattle.ny_resolve.specs.declared.term.NameId.{NameId}
use Rattle.ny_resolve.specs.declared.builtin.Order.{Order}
use Rattle.ny_resolve.specs.declared.builtin.Order.TheVariants as order
use Rattle.ny_resolve.specs.Keys.{same_name}
use Rattle.ny_check.specs.declared.node.Node.{Node}
use Rattle.ny_check.specs.declared.node.Node.TheVariants as node
use Rattle.ny_check.specs.declared.node.ExprId.{ExprId}
use Rattle.ny_check.specs.declared.value.Scalar.{Scalar}
use Rattle.ny_check.specs.declared.value.Scalar.TheVariants as scalar
use Rattle.ny_check.specs.declared.value.Value.{Value}
use Rattle.ny_check.specs.declared.value.Value.TheVariants.{Number, Sound}
use Rattle.ny_check.specs.Code.{Code, node_at, function_at}
use Rattle.ny_check.specs.Values.{scalar_in, scalars_of, scalar_of, number_of, test_of}
use Rattle.ny_check.specs.Behaviours.{is_one, cue_timing}
use Rattle.ny_check.specs.Families.{pair_timing, leaf_time, leaf_sound, changed_env}
use Rattle.ny_timing.specs.Timings.{number as timed_number, Timed, Times, no_time, timing_in, timed_by, timed_value_of, timed_after, combined_times, negated_time, brought_time, times_together, next_time, times_after, times_in_turn, times_in, time_of_part, time_of_repeat, times_of_repeats, timing_node, timing_at}
use Rattle.ny_heap.specs.Kinds.{UnitKind, Resample, Mul}
use Rattle.ny_hands.specs.Kinds.{kind_of_generator}
use Rattle.ny_plan.specs.Rows.{RowSound, Input, Row, After, Step, given, each, shown, silent, input, unit}
use Rattle.ny_plan.specs.Units.{first, leaf_by, row_over, brought, paired, negated, cued, Part, parts_together, next_part, parts_after, parts_in_turn, parts_in}
use Rattle.ny_plan.specs.Plan.{Names, Makes, sound_in, value_by, value_of, names_after, part_of, repeated_parts, number, made_at, made}
use Rattle.ny_plan.proofs.BothRecursions.{by_smaller-both}

-- ---- names

abbrev pub value_time : Value RowSound → Value Timing
value_time (Number v) = Number v
value_time (Sound s) = Sound s.timing

abbrev pub times : Names → Timed
times [] = []
times (b ∷ bs) = (b.0, value_time b.1) ∷ times bs

times_append : (names more : Names) → times (names ++ more) ≡ times names ++ times more
times_append [] more = refl
times_append (b ∷ bs) more = ap (λ (rest : Timed). (b.0, value_time b.1) ∷ rest) (times_append bs more)

times_are : (names : Names) → times names ≡ map (with_value value_time) names
times_are [] = refl
times_are (b ∷ bs) = ap (λ (rest : Timed). (b.0, value_time b.1) ∷ rest) (times_are bs)

times_zip : (xs : List NameId) (vs : List (Value RowSound)) → times (zip xs vs) ≡ zip xs (map value_time vs)
times_zip [] vs = refl
times_zip (x ∷ xs) [] = refl
times_zip (x ∷ xs) (v ∷ vs) = ap (λ (rest : Timed). (x, value_time v) ∷ rest) (times_zip xs vs)

same_scalar : (v : Value RowSound) → scalar_in (value_time v) ≡ scalar_in v
same_scalar (Number v) = refl
same_scalar (Sound s) = refl

same_scalars : (names : Names) → scalars_of (times names) ≡ scalars_of names
same_scalars [] = refl
same_scalars (b ∷ bs) = λ i. (b.0, same_scalar b.1 i) ∷ same_scalars bs i

-- ---- units

brought_is : (rate : Rate) (s : RowSound) (rows : List Row) → (After.gives (brought rate s rows)).timing ≡ resampled_timing rate s.timing
unfolding resampled_timing
brought_is rate s rows = by_test (is_same_rate s.timing.rate rate)
  where
    by_test : (b : Bool) → (After.gives (cond b (given s) (unit Resample (other_rate_timing rate s.timing) (input s ∷ []) (λ ss. (resampled rate (first ss)).samples)) rows)).timing ≡ cond b s.timing (other_rate_timing rate s.timing)
    by_test true = refl
    by_test false = refl

paired_is : (o : Op) (rate : Rate) (a b : Value RowSound) (rows : List Row) → (After.gives (paired o rate a b rows)).timing ≡ combined_times (pair_timing o) rate (value_time a) (value_time b)
paired_is o rate (Number j) (Number k) rows = refl
paired_is o rate (Number k) (Sound b) rows = brought_is rate b rows
paired_is o rate (Sound a) (Number k) rows = brought_is rate a rows
paired_is o rate (Sound a) (Sound b) rows = λ i. pair_timing o (brought_is rate a rows i) (brought_is rate b (After.rows (brought rate a rows)) i)

negated_is : (rate : Rate) (v : Value RowSound) (rows : List Row) → (After.gives (negated rate v rows)).timing ≡ negated_time rate (value_time v)
negated_is rate (Number k) rows = refl
negated_is rate (Sound s) rows = brought_is rate s rows

cued_is : (env : Env) (s : RowSound) (rows : List Row) → (After.gives (cued env s rows)).timing ≡ cue_timing env s.timing
cued_is env s rows = by_test (is_one env.loud)
  where
    by_test : (b : Bool) → (After.gives (cond b (given (shown s.row (cue_timing env s.timing))) (row_over Mul (each_value (louder_value env.loud)) (shown s.row (cue_timing env s.timing))) rows)).timing ≡ cue_timing env s.timing
    by_test true = refl
    by_test false = refl

leaf_is : (o : Option UnitKind) (t : Timing) (m : sounds.Sound) (rows : List Row) → (After.gives (leaf_by o t m rows)).timing ≡ t
leaf_is None t m rows = refl
leaf_is (Some k) t m rows = refl

-- ---- parts

-- each part is heard so, whatever rows are there
abbrev PartsHeard : List Part → List (Env → Timing) → Type 0
PartsHeard [] [] = Unit {0}
PartsHeard (p ∷ ps) (t ∷ ts) = ((from : Env) (rows : List Row) → (After.gives (p.sound from rows)).timing ≡ t from) × PartsHeard ps ts
PartsHeard _ _ = ⊥

abbrev pub inputs_times : List Input → List Timing
inputs_times is = map (λ (i : Input). i.sound.timing) is

together_are : (env : Env) (ps : List Part) (ts : List (Env → Timing)) (rows : List Row) → PartsHeard ps ts → inputs_times (After.gives (parts_together env ps rows)) ≡ times_together env ts
together_are env ps ts rows h = broughts (After.gives (each (λ (p : Part). p.sound env) ps rows)) (After.rows (each (λ (p : Part). p.sound env) ps rows)) ∙ from ps ts rows h
  where
    broughts : (ss : List RowSound) (rows : List Row) → inputs_times (map input (After.gives (each (brought env.sound_rate) ss rows))) ≡ map (λ (s : RowSound). resampled_timing env.sound_rate s.timing) ss
    broughts [] rows = refl
    broughts (s ∷ ss) rows = λ i. brought_is env.sound_rate s rows i ∷ broughts ss (After.rows (brought env.sound_rate s rows)) i

    from : (ps : List Part) (ts : List (Env → Timing)) (rows : List Row) → PartsHeard ps ts → map (λ (s : RowSound). resampled_timing env.sound_rate s.timing) (After.gives (each (λ (p : Part). p.sound env) ps rows)) ≡ times_together env ts
    from [] [] rows h = refl
    from [] (t ∷ ts) rows h = absurd h
    from (p ∷ ps) [] rows h = absurd h
    from (p ∷ ps) (t ∷ ts) rows h = λ i. resampled_timing env.sound_rate (h.0 env rows i) ∷ from ps ts (After.rows (p.sound env rows)) h.1 i

next_is : (env : Env) (stop : ℕ) (p : Part) (t : Env → Timing) (rows : List Row) → ((from : Env) (rows : List Row) → (After.gives (p.sound from rows)).timing ≡ t from) → (After.gives (next_part env stop p rows)).timing ≡ next_time env stop t
next_is env stop p t rows h =
    let a = p.sound (from_stop env stop) rows in
    ap (placed_timing (index_at stop env.sound_rate)) (brought_is env.sound_rate a.gives a.rows ∙ ap (resampled_timing env.sound_rate) (h (from_stop env stop) rows))

after_are : (env : Env) (stop : ℕ) (ps : List Part) (ts : List (Env → Timing)) (rows : List Row) → PartsHeard ps ts → inputs_times (After.gives (parts_after env stop ps rows)) ≡ times_after env stop ts
after_are env stop [] [] rows h = refl
after_are env stop [] (t ∷ ts) rows h = absurd h
after_are env stop (p ∷ ps) [] rows h = absurd h
after_are env stop (p ∷ ps) (t ∷ ts) rows h =
    let x = next_part env stop p rows in
    let is = next_is env stop p t rows h.0 in
    (λ i. is i ∷ inputs_times (After.gives (parts_after env x.gives.timing.stop ps x.rows)))
    ∙ ap (λ (rest : List Timing). next_time env stop t ∷ rest) (after_are env x.gives.timing.stop ps ts x.rows h.1 ∙ ap (λ (u : Timing). times_after env u.stop ts) is)

in_turn_are : (env : Env) (ps : List Part) (ts : List (Env → Timing)) (rows : List Row) → PartsHeard ps ts → inputs_times (After.gives (parts_in_turn env ps rows)) ≡ times_in_turn env ts
in_turn_are env [] [] rows h = refl
in_turn_are env [] (t ∷ ts) rows h = absurd h
in_turn_are env (p ∷ ps) [] rows h = absurd h
in_turn_are env (p ∷ ps) (t ∷ ts) rows h =
    let a = p.sound env rows in
    let x = brought env.sound_rate a.gives a.rows in
    let is = brought_is env.sound_rate a.gives a.rows ∙ ap (resampled_timing env.sound_rate) (h.0 env rows) in
    (λ i. is i ∷ inputs_times (After.gives (parts_after env x.gives.timing.stop ps x.rows)))
    ∙ ap (λ (rest : List Timing). brought_time env t ∷ rest) (after_are env x.gives.timing.stop ps ts x.rows h.1 ∙ ap (λ (u : Timing). times_after env u.stop ts) is)

parts_are : (o : Order) (env : Env) (ps : List Part) (ts : List (Env → Timing)) (rows : List Row) → PartsHeard ps ts → inputs_times (After.gives (parts_in o env ps rows)) ≡ times_in o env ts
parts_are order.Together env ps ts rows h = together_are env ps ts rows h
parts_are order.InTurn env ps ts rows h = in_turn_are env ps ts rows h

-- ---- expressions

abbrev Heard : Makes → Times → Type 0
Heard f g = (env : Env) (names : Names) (rows : List Row) → (After.gives (f env names rows)).timing ≡ g env (times names)

module _ (code : Code) (rec : ℕ → Makes) (when : ℕ → Times) (same : (e : ℕ) → Heard (rec e) (when e)) where
  by_scalar : (sc : Scalar) (sound : Step RowSound) (t : Timing) (rows : List Row) → (After.gives (sound rows)).timing ≡ t → value_time (After.gives (value_by sc sound rows)) ≡ timed_by sc t
  by_scalar (scalar.Number v) sound t rows is = refl
  by_scalar (scalar.Test b) sound t rows is = ap (λ (u : Timing). Sound u) is
  by_scalar scalar.Sound sound t rows is = ap (λ (u : Timing). Sound u) is

  value_is : (env : Env) (names : Names) (e : ExprId) (rows : List Row) → value_time (After.gives (value_of code rec env names e rows)) ≡ timed_value_of code when env (times names) e
  value_is env names e rows =
      by_scalar (scalar_of code e.0 (scalars_of names)) (rec e.0 env names) (when e.0 env (times names)) rows (same e.0 env names rows)
      ∙ ap (λ q. timed_by (scalar_of code e.0 q) (when e.0 env (times names))) (sym (same_scalars names))

  names_are : (env : Env) (bs : List (NameId × ExprId)) (names : Names) (rows : List Row) → times (After.gives (names_after code rec env bs names rows)) ≡ timed_after code when env bs (times names)
  names_are env [] names rows = refl
  names_are env (b ∷ bs) names rows =
      let v = value_of code rec env names b.1 rows in
      names_are env bs (names ++ (b.0, v.gives) ∷ []) v.rows
      ∙ ap (timed_after code when env bs) (times_append names ((b.0, v.gives) ∷ []) ∙ (λ i. times names ++ (b.0, value_is env names b.1 rows i) ∷ []))

  values_are : (env : Env) (names : Names) (es : List ExprId) (rows : List Row) → map value_time (After.gives (each (value_of code rec env names) es rows)) ≡ map (timed_value_of code when env (times names)) es
  values_are env names [] rows = refl
  values_are env names (e ∷ es) rows = λ i. value_is env names e rows i ∷ values_are env names es (After.rows (value_of code rec env names e rows)) i

  parts_heard : (names : Names) (es : List ExprId) → PartsHeard (map (part_of code rec names) es) (map (time_of_part when (times names)) es)
  parts_heard names [] = tt
  parts_heard names (e ∷ es) = ((λ from rows. same e.0 from names rows), parts_heard names es)

  repeats_heard : (names : Names) (i : NameId) (e : ExprId) (ks : List ℕ) → PartsHeard (map (λ k. part_of code rec (names ++ (i, Number (pos (k * 1000000))) ∷ []) e) ks) (map (time_of_repeat when (times names) i e) ks)
  repeats_heard names i e [] = tt
  repeats_heard names i e (k ∷ ks) = (
    (λ from rows. same e.0 from (names ++ (i, Number (pos (k * 1000000))) ∷ []) rows ∙ ap (when e.0 from) (times_append names ((i, Number (pos (k * 1000000))) ∷ []))),
    repeats_heard names i e ks,
  )

  numbers_are : (names : Names) (es : List ExprId) → map (number code names) es ≡ map (timed_number code (times names)) es
  numbers_are names es = ap (λ q. map (λ e. number_of code e q) es) (sym (same_scalars names))

  node_heard : (at : Node) → Heard (made_at code at rec) (timing_node code at when)
  node_heard (node.Local x) env names rows =
      by_value (unwrap_or (last_of (same_name x) names) (Sound (silent env.sound_rate)))
      ∙ ap (timing_in env.sound_rate) (sym (last_of-with value_time (same_name x) names (Sound (silent env.sound_rate))) ∙ ap (λ (q : Timed). unwrap_or (last_of (same_name x) q) (Sound (no_time env.sound_rate))) (sym (times_are names)))
    where
      by_value : (v : Value RowSound) → (sound_in env.sound_rate v).timing ≡ timing_in env.sound_rate (value_time v)
      by_value (Number v) = refl
      by_value (Sound s) = refl
  node_heard (node.Call f es) env names rows =
      let vs = each (value_of code rec env names) es rows in
      same (function_at code f.0).body.0 env (zip (function_at code f.0).params vs.gives) vs.rows
      ∙ ap (when (function_at code f.0).body.0 env) (times_zip (function_at code f.0).params vs.gives ∙ ap (zip (function_at code f.0).params) (values_are env names es rows))
  node_heard (node.Block bs e) env names rows =
      let inner = names_after code rec env bs names rows in
      same e.0 env inner.gives inner.rows ∙ ap (when e.0 env) (names_are env bs names rows)
  node_heard (node.If c a b) env names rows =
      by_test (test_of code c (scalars_of names)) ∙ ap (λ q. if test_of code c q then when a.0 env (times names) else when b.0 env (times names)) (sym (same_scalars names))
    where
      by_test : (t : Bool) → (After.gives ((if t then rec a.0 env names else rec b.0 env names) rows)).timing ≡ (if t then when a.0 env (times names) else when b.0 env (times names))
      by_test true = same a.0 env names rows
      by_test false = same b.0 env names rows
  node_heard (node.Pair o a b) env names rows =
      let v = value_of code rec env names a rows in
      let w = value_of code rec env names b v.rows in
      paired_is o env.sound_rate v.gives w.gives w.rows
      ∙ (λ i. combined_times (pair_timing o) env.sound_rate (value_is env names a rows i) (value_is env names b v.rows i))
  node_heard (node.Neg a) env names rows =
      let v = value_of code rec env names a rows in
      negated_is env.sound_rate v.gives v.rows ∙ ap (negated_time env.sound_rate) (value_is env names a rows)
  node_heard (node.Leaf w es) env names rows =
      leaf_is (kind_of_generator w) (leaf_time w env (map (number code names) es)) (leaf_sound w env (map (number code names) es)) rows ∙ ap (leaf_time w env) (numbers_are names es)
  node_heard (node.Effect w e es) env names rows = same e.0 env names rows
  node_heard (node.Cue e) env names rows =
      let s = rec e.0 env names rows in cued_is env s.gives s.rows ∙ ap (cue_timing env) (same e.0 env names rows)
  node_heard (node.Mix o es) env names rows = ap (mix_timing env.sound_rate) (parts_are o env (map (part_of code rec names) es) (map (time_of_part when (times names)) es) rows (parts_heard names es))
  node_heard (node.Repeat o i n e) env names rows = ap (mix_timing env.sound_rate) (parts_are o env (repeated_parts code rec names i n e) (times_of_repeats when (times names) i n e) rows (repeats_heard names i e (range_with_len 0 n)))
  node_heard (node.Change c e) env names rows =
      same e.0 (changed_env c (number code names) env) names rows ∙ ap (λ q. when e.0 (changed_env c (λ k. number_of code k q) env) (times names)) (sym (same_scalars names))
  node_heard (node.Number v) env names rows = refl
  node_heard (node.Global a) env names rows = refl
  node_heard (node.Div a v) env names rows = refl
  node_heard (node.Compare r a b) env names rows = refl
  node_heard (node.And a b) env names rows = refl
  node_heard (node.Or a b) env names rows = refl
  node_heard (node.Not a) env names rows = refl
  node_heard (node.Vector es) env names rows = refl

-- whatever rows are there
pub made_heard : (code : Code) (e : ℕ) (env : Env) (names : Names) (rows : List Row) → (After.gives (made code e env names rows)).timing ≡ timing_at code e env (times names)
unfolding made timing_at
made_heard code e =
    by_smaller-both Heard (λ env names. given (silent env.sound_rate)) (λ env bound. no_time env.sound_rate) (λ e rec. made_at code (node_at code e) rec) (λ e rec. timing_node code (node_at code e) rec)
    (λ env names rows. refl) (λ n f g same. node_heard code f g same (node_at code n)) e
