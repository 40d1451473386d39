-- What a node makes is what it means.
use Rattle.std.proofs.Common.{◌≡◌, ℕ, ◌*◌, ◌<◌, ◌≤◌, Bool, true, false, cond, List, [], ◌∷◌, ◌++◌, map, zip, length, Option, None, Some, unwrap_or, refl, sym, ap, subst, ◌∙◌, arith, ℤ, pos}
use Rattle.std.specs.List.{AllByRecursion, range_with_len}
use Rattle.ny_num.specs.declared.rate.Rate.{Rate}
use Rattle.ny_num.specs.declared.timing.Timing.{Timing}
use Rattle.ny_num.specs.Sound as sounds
use Rattle.ny_num.specs.Sound.{silence, timing_of, placed, placed_timing}
use Rattle.ny_num.specs.Resampling.{resampled}
use Rattle.ny_kernels.specs.declared.operation.Op.{Op}
use Rattle.ny_kernels.specs.Operations.{operation}
use Rattle.ny_warp.specs.declared.env.Env.{Env}
use Rattle.ny_check.specs.Families.{pair_timing, leaf_time, leaf_sound, effect_sound, changed_env}
use Rattle.ny_check.specs.declared.node.Generator.{Generator}
use Rattle.ny_resolve.specs.declared.builtin.Order.{Order}
use Rattle.ny_resolve.specs.declared.builtin.Order.TheVariants as order
use Rattle.ny_check.specs.declared.value.Value.{Value}
use Rattle.ny_check.specs.declared.value.Value.TheVariants.{Number, Sound}
use Rattle.ny_check.specs.Behaviours.{cue_sound}
use Rattle.ny_check.specs.Meaning.{Bound, Means, value_by, value_of, bound_after, combined_values, negated_value, part_of as meant_part, repeated_part, number as meant_number, sound_in as meant_in, sound_node, meaning}
use Rattle.ny_check.specs.declared.node.ExprId.{ExprId}
use Rattle.ny_check.specs.Code.{Code, node_at, function_at}
use Rattle.ny_check.specs.Values.{scalars_of, scalar_of, number_of, test_of}
use Rattle.ny_resolve.specs.declared.term.NameId.{NameId}
use Rattle.ny_plan.specs.Plan.{Names, Makes, names_after, number, sound_in, part_of, repeated_parts, made_at, made}
use Rattle.ny_num.specs.Grid.{index_at}
use Rattle.ny_num.specs.Mix.{mix, mix_timing}
use Rattle.ny_num.proofs.SoundTimings.{timing_of-mix}
use Rattle.ny_warp.specs.Environment.{from_stop}
use Rattle.ny_check.specs.Parts as meant
use Rattle.ny_plan.proofs.BothRecursions.{by_smaller-both}
use Rattle.ny_plan.proofs.OrderLemmas.{made_keeps, AllKeep, Keeps, is_part, leaves_given, leaves_leaf_by, silent_below, AreBelow, AreComing, IsPart, part_later, coming_of, counted_inputs, inputs_coming, placed_start}
use Rattle.ny_check.specs.declared.node.Node.{Node}
use Rattle.ny_check.specs.declared.node.Node.TheVariants as node
use Rattle.ny_scope.specs.Scopes.{last_of}
use Rattle.ny_scope.proofs.Mapped.{last_of-with, last_of-has}
use Rattle.ny_resolve.specs.Keys.{same_name}
use Rattle.std.proofs.lemmas.List.Elements.{All-from_recursion}
use Rattle.ny_heap.specs.Kinds.{UnitKind, Mix}
use Rattle.ny_hands.specs.Kinds.{kind_of_generator, kind_of_effect}
use Rattle.ny_plan.specs.Rows.{RowSound, Input, Row, After, Step, row_at, given, and_then, each, shown, silent, input}
use Rattle.ny_plan.specs.Units.{leaf_by, leaf_made, row_over, brought, paired, negated, cued, Part, parts_together, coming, next_part, parts_after, parts_in_turn, parts_in, counted_from, mixed}
use Rattle.ny_plan.specs.Order.{IsBelow, IsValueBelow, AreNamesBelow, AllRows, Leaves}
use Rattle.ny_plan.proofs.SoundLemmas.{stop_is, timing_of-leaf_sound, timing_of-effect, none_of_no_kind}
use Rattle.ny_plan.proofs.HeardLemmas.{heard, IsShown, heard-kept, shown-kept, Hears, hears_shown, hears_as, hears_given, join, hears_then, hears_none, hears_unit, hears_single, hears_brought, hears_placed, hears_cued, Plays, plays_cons, plays_each, whole_value, IsShownValue, hears_silent, hears_paired, hears_negated, HearsValue, hears_value_by, value-kept, wholes, AreShown, names-kept, value_low, names_low, push_shown, same_scalars}

module _ (r : Rate) where
  -- ---- expressions

  abbrev pub SameSounds : Makes → Means → Type 0
  SameSounds f g = (env : Env) (names : Names) (rows : List Row) → AllRows rows → AreShown r rows names → Hears r rows (f env names rows) (g env (wholes r rows names))

  module _ (code : Code) (rec : ℕ → Makes) (means : ℕ → Means) (same : (e : ℕ) → SameSounds (rec e) (means e)) where
    pub hears_value : (env : Env) (names : Names) (e : ExprId) (rows : List Row) → AllRows rows → AreShown r rows names → HearsValue r rows (Rattle.ny_plan.specs.Plan.value_of code rec env names e rows) (value_of code means env (wholes r rows names) e)
    hears_value env names e rows all h =
        subst (λ w. HearsValue r rows (Rattle.ny_plan.specs.Plan.value_of code rec env names e rows) (value_by (scalar_of code e.0 w) (means e.0 env (wholes r rows names)))) (same_scalars r rows names)
        (hears_value_by r (scalar_of code e.0 (scalars_of names)) (rec e.0 env names) rows (means e.0 env (wholes r rows names)) all (same e.0 env names rows all h))

    pub hears_pair : (o : Op) (env : Env) (names : Names) (a b : ExprId) (rows : List Row) → AllRows rows → AreShown r rows names → Hears r rows (and_then (Rattle.ny_plan.specs.Plan.value_of code rec env names a) (λ v. and_then (Rattle.ny_plan.specs.Plan.value_of code rec env names b) (λ w. paired o env.sound_rate v w)) rows) (combined_values (pair_timing o) (operation o) env.sound_rate (value_of code means env (wholes r rows names) a) (value_of code means env (wholes r rows names) b))
    hears_pair o env names a b rows all h =
        let x = Rattle.ny_plan.specs.Plan.value_of code rec env names a rows in
        let hx = hears_value env names a rows all h in
        let now = names-kept r IsValueBelow rows x names all hx.leaves h in
        let y = Rattle.ny_plan.specs.Plan.value_of code rec env names b x.rows in
        let hy = hears_value env names b x.rows hx.leaves.all now.0 in
        let x_now = value-kept r IsValueBelow x.rows y x.gives hx.leaves.all hy.leaves hx.shows in
        hears_then r IsValueBelow rows x (paired o env.sound_rate x.gives y.gives y.rows) _ hx.leaves
        (hears_then r IsValueBelow x.rows y (paired o env.sound_rate x.gives y.gives y.rows) _ hy.leaves
        (hears_as r y.rows (paired o env.sound_rate x.gives y.gives y.rows) _ _
        (λ i. combined_values (pair_timing o) (operation o) env.sound_rate ((x_now.1 ∙ hx.is) i) ((hy.is ∙ ap (λ w. value_of code means env w b) now.1) i))
        (hears_paired r o env.sound_rate x.gives y.gives y.rows hy.leaves.all x_now.0 hy.shows)))

    pub record HearsNames (rows : List Row) (a : After Names) (bound : Bound) : Type 0 where
      pub leaves : Leaves AreNamesBelow rows a
      pub is : wholes r a.rows a.gives ≡ bound
      pub shows : AreShown r a.rows a.gives

    pub hears_names : (env : Env) (bs : List (NameId × ExprId)) (names : Names) (rows : List Row) → AllRows rows → AreShown r rows names → HearsNames rows (names_after code rec env bs names rows) (bound_after code means env bs (wholes r rows names))
    hears_names env [] names rows all h = record { leaves = leaves_given AreNamesBelow rows names all (names_low r rows names h); is = refl; shows = h }
    hears_names env (b ∷ bs) names rows all h =
        let v = Rattle.ny_plan.specs.Plan.value_of code rec env names b.1 rows in
        let hv = hears_value env names b.1 rows all h in
        let now = names-kept r IsValueBelow rows v names all hv.leaves h in
        let pushed = push_shown r v.rows names b.0 v.gives now.0 hv.shows in
        let rest = hears_names env bs (names ++ (b.0, v.gives) ∷ []) v.rows hv.leaves.all pushed.0 in
        record {
          leaves = join r IsValueBelow AreNamesBelow rows v (names_after code rec env bs (names ++ (b.0, v.gives) ∷ []) v.rows) hv.leaves rest.leaves;
          is = rest.is ∙ ap (bound_after code means env bs) (pushed.1 ∙ (λ i. now.1 i ++ (b.0, hv.is i) ∷ []));
          shows = rest.shows;
        }

    abbrev pub ValuesBelow : ℕ → List (Value RowSound) → Type 0
    ValuesBelow n vs = AllByRecursion (IsValueBelow n) vs

    abbrev pub ShownValues : List Row → List (Value RowSound) → Type 0
    ShownValues rows vs = AllByRecursion (IsShownValue r rows) vs

    pub record HearsValues (rows : List Row) (a : After (List (Value RowSound))) (vs : List (Value sounds.Sound)) : Type 0 where
      pub leaves : Leaves ValuesBelow rows a
      pub is : map (whole_value r a.rows) a.gives ≡ vs
      pub shows : ShownValues a.rows a.gives

    pub hears_values : (env : Env) (names : Names) (es : List ExprId) (rows : List Row) → AllRows rows → AreShown r rows names → HearsValues rows (each (Rattle.ny_plan.specs.Plan.value_of code rec env names) es rows) (map (value_of code means env (wholes r rows names)) es)
    hears_values env names [] rows all h = record { leaves = leaves_given ValuesBelow rows [] all tt; is = refl; shows = tt }
    hears_values env names (e ∷ es) rows all h =
        let v = Rattle.ny_plan.specs.Plan.value_of code rec env names e rows in
        let hv = hears_value env names e rows all h in
        let now = names-kept r IsValueBelow rows v names all hv.leaves h in
        let vs = each (Rattle.ny_plan.specs.Plan.value_of code rec env names) es v.rows in
        let hvs = hears_values env names es v.rows hv.leaves.all now.0 in
        let v_now = value-kept r ValuesBelow v.rows vs v.gives hv.leaves.all hvs.leaves hv.shows in
        record {
          leaves = record { all = hvs.leaves.all; longer = omega (arith, hv.leaves.longer, hvs.leaves.longer); kept = λ n inside. hvs.leaves.kept n (omega (arith, inside, hv.leaves.longer)) ∙ hv.leaves.kept n inside; gives = (value_low r vs.rows v.gives v_now.0, hvs.leaves.gives) };
          is = λ i. (v_now.1 ∙ hv.is) i ∷ (hvs.is ∙ ap (λ w. map (value_of code means env w) es) now.1) i;
          shows = (v_now.0, hvs.shows);
        }

    pub zip_shown : (rows : List Row) (ps : List NameId) (vs : List (Value RowSound)) → ShownValues rows vs → AreShown r rows (zip ps vs) × (wholes r rows (zip ps vs) ≡ zip ps (map (whole_value r rows) vs))
    zip_shown rows [] vs h = (tt, refl)
    zip_shown rows (p ∷ ps) [] h = (tt, refl)
    zip_shown rows (p ∷ ps) (v ∷ vs) h = let rest = zip_shown rows ps vs h.1 in ((h.0, rest.0), λ i. (p, whole_value r rows v) ∷ rest.1 i)

    -- ---- parts

    -- some rows are there later, too
    pub record Extends (rows later : List Row) : Type 0 where
      pub all : AllRows rows
      pub longer : length rows ≤ length later
      pub kept : (k : ℕ) → k < length rows → row_at later k ≡ row_at rows k

    pub extends_to : {A : Type 0} (P : ℕ → A → Type 0) (old rows : List Row) (a : After A) → Extends old rows → Leaves P rows a → Extends old a.rows
    extends_to P old rows a e l = record { all = e.all; longer = omega (arith, e.longer, l.longer); kept = λ k inside. l.kept k (omega (arith, inside, e.longer)) ∙ e.kept k inside }

    -- a part is this sound, whenever it is evaluated
    abbrev pub IsPartSound : List Row → Part → (Env → sounds.Sound) → Type 0
    IsPartSound old part m = (from : Env) (rows : List Row) → Extends old rows → AllRows rows → Hears r rows (part.sound from rows) (m from)

    abbrev pub ArePartSounds : List Row → List Part → List (Env → sounds.Sound) → Type 0
    ArePartSounds old [] [] = Unit {0}
    ArePartSounds old [] (m ∷ ms) = ⊥
    ArePartSounds old (p ∷ ps) [] = ⊥
    ArePartSounds old (p ∷ ps) (m ∷ ms) = IsPartSound old p m × IsPart (length old) p × ArePartSounds old ps ms

    pub record HearsInputs (rows : List Row) (a : After (List Input)) (ms : List sounds.Sound) : Type 0 where
      pub leaves : Leaves AreComing rows a
      pub is : map (λ (i : Input). heard r a.rows i.sound) a.gives ≡ ms
      pub shows : AllByRecursion (λ (i : Input). IsShown r a.rows i.sound) a.gives

    pub hears_parts : (env : Env) (old : List Row) (ps : List Part) (ms : List (Env → sounds.Sound)) (rows : List Row) → Extends old rows → AllRows rows → ArePartSounds old ps ms → Plays r rows (each (λ (part : Part). part.sound env) ps rows) (map (λ m. m env) ms)
    hears_parts env old [] [] rows e all h = record { leaves = leaves_given AreBelow rows [] all tt; is = refl; shows = tt }
    hears_parts env old [] (m ∷ ms) rows e all h = absurd h
    hears_parts env old (p ∷ ps) [] rows e all h = absurd h
    hears_parts env old (p ∷ ps) (m ∷ ms) rows e all h =
        let first = h.0 env rows e all in
        let a = p.sound env rows in
        plays_cons r rows a (m env) (each (λ (part : Part). part.sound env) ps a.rows) (map (λ m. m env) ms) first
        (hears_parts env old ps ms a.rows (extends_to IsBelow old rows a e first.leaves) first.leaves.all h.2)

    pub inputs_heard : (rows : List Row) (ss : List RowSound) → map (λ (i : Input). heard r rows i.sound) (map input ss) ≡ map (heard r rows) ss
    inputs_heard rows [] = refl
    inputs_heard rows (s ∷ ss) = λ i. heard r rows s ∷ inputs_heard rows ss i

    pub inputs_shown : (rows : List Row) (ss : List RowSound) → AllByRecursion (IsShown r rows) ss → AllByRecursion (λ (i : Input). IsShown r rows i.sound) (map input ss)
    inputs_shown rows [] h = tt
    inputs_shown rows (s ∷ ss) h = (h.0, inputs_shown rows ss h.1)

    pub together_is : (env : Env) (ms : List (Env → sounds.Sound)) → map (resampled env.sound_rate) (map (λ m. m env) ms) ≡ meant.parts_together env ms
    together_is env [] = refl
    together_is env (m ∷ ms) = λ i. resampled env.sound_rate (m env) ∷ together_is env ms i

    pub hears_together : (env : Env) (ps : List Part) (ms : List (Env → sounds.Sound)) (rows : List Row) → AllRows rows → ArePartSounds rows ps ms → HearsInputs rows (parts_together env ps rows) (meant.parts_together env ms)
    hears_together env ps ms rows all h =
        let here : Extends rows rows = record { all = all; longer = omega arith; kept = λ k inside. refl } in
        let first = hears_parts env rows ps ms rows here all h in
        let a = each (λ (part : Part). part.sound env) ps rows in
        let rest = plays_each r (brought env.sound_rate) (resampled env.sound_rate) (λ s now all h. hears_brought r env.sound_rate s now all h) a.gives a.rows first.leaves.all first.shows in
        let b = each (brought env.sound_rate) a.gives a.rows in
        record {
          leaves = record { all = rest.leaves.all; longer = omega (arith, first.leaves.longer, rest.leaves.longer); kept = λ n inside. rest.leaves.kept n (omega (arith, inside, first.leaves.longer)) ∙ first.leaves.kept n inside; gives = inputs_coming (length b.rows) b.gives rest.leaves.gives };
          is = inputs_heard b.rows b.gives ∙ rest.is ∙ ap (map (resampled env.sound_rate)) first.is ∙ together_is env ms;
          shows = inputs_shown b.rows b.gives rest.shows;
        }

    -- ---- mixes

    pub counted_heard : (rows : List Row) (k : ℕ) (is : List Input) → map (λ (i : Input). heard r rows i.sound) (map (counted_from k) is) ≡ map (λ (i : Input). heard r rows i.sound) is
    counted_heard rows k [] = refl
    counted_heard rows k (i ∷ is) = λ j. heard r rows i.sound ∷ counted_heard rows k is j

    pub shown_times : (rows : List Row) (is : List Input) → AllByRecursion (λ (i : Input). IsShown r rows i.sound) is → map timing_of (map (λ (i : Input). heard r rows i.sound) is) ≡ map (λ (i : Input). i.sound.timing) is
    shown_times rows [] h = refl
    shown_times rows (i ∷ is) h = λ j. h.0.1 j ∷ shown_times rows is h.1 j

    pub hears_mixed : (rate : Rate) (is : List Input) (rows : List Row) → AllRows rows → AreComing (length rows) is → AllByRecursion (λ (i : Input). IsShown r rows i.sound) is → Hears r rows (mixed rate is rows) (mix rate (map (λ (i : Input). heard r rows i.sound) is))
    hears_mixed rate is rows all coming h =
        let t = mix_timing rate (map (λ (i : Input). i.sound.timing) is) in
        hears_unit r Mix t (map (counted_from t.start) is) (λ ss. (mix rate ss).samples) rows (mix rate (map (λ (i : Input). heard r rows i.sound) is)) all
        (counted_inputs (length rows) t.start _ is refl refl coming)
        (ap (λ ss. sounds.Sound.samples (mix rate ss)) (counted_heard rows t.start is))
        (timing_of-mix rate (map (λ (i : Input). heard r rows i.sound) is) ∙ ap (mix_timing rate) (shown_times rows is h))

    pub hears_mix : (rate : Rate) (rows : List Row) (a : After (List Input)) (ms : List sounds.Sound) → HearsInputs rows a ms → Hears r rows (mixed rate a.gives a.rows) (mix rate ms)
    hears_mix rate rows a ms h =
        hears_then r AreComing rows a (mixed rate a.gives a.rows) (mix rate ms) h.leaves
        (hears_as r a.rows (mixed rate a.gives a.rows) (mix rate (map (λ (i : Input). heard r a.rows i.sound) a.gives)) (mix rate ms) (ap (mix rate) h.is) (hears_mixed rate a.gives a.rows h.leaves.all h.leaves.gives h.shows))

    -- ---- parts in turn

    pub hears_next : (env : Env) (stop : ℕ) (old rows : List Row) (p : Part) (m : Env → sounds.Sound) → Extends old rows → AllRows rows → IsPartSound old p m → Hears r rows (next_part env stop p rows) (meant.next_part env stop m)
    hears_next env stop old rows p m e all h =
        let first = h (from_stop env stop) rows e all in
        let a = p.sound (from_stop env stop) rows in
        let mid = hears_as r a.rows (brought env.sound_rate a.gives a.rows) (resampled env.sound_rate (heard r a.rows a.gives)) (resampled env.sound_rate (m (from_stop env stop))) (ap (resampled env.sound_rate) first.is) (hears_brought r env.sound_rate a.gives a.rows first.leaves.all (hears_shown r rows a (m (from_stop env stop)) first)) in
        let b = brought env.sound_rate a.gives a.rows in
        let last = hears_placed r (index_at stop env.sound_rate) b.gives b.rows mid.leaves.all (hears_shown r a.rows b (resampled env.sound_rate (m (from_stop env stop))) mid) in
        let c = given (shown b.gives.row (placed_timing (index_at stop env.sound_rate) b.gives.timing)) b.rows in
        hears_then r IsBelow rows a c (meant.next_part env stop m) first.leaves
        (hears_then r IsBelow a.rows b c (meant.next_part env stop m) mid.leaves
        (hears_as r b.rows c (placed (index_at stop env.sound_rate) (heard r b.rows b.gives)) (meant.next_part env stop m) (ap (placed (index_at stop env.sound_rate)) mid.is) last))

    -- an input and those that follow
    pub hears_input : (rows : List Row) (a : After RowSound) (m : sounds.Sound) (at : ℕ) (p : Part) (bs : After (List Input)) (ms : List sounds.Sound) → Hears r rows a m → at ≤ a.gives.timing.start → IsPart (length rows) p → HearsInputs a.rows bs ms
        → HearsInputs rows (record { gives = coming at p a.gives ∷ bs.gives; rows = bs.rows }) (m ∷ ms)
    hears_input rows a m at p bs ms h from part hs = record {
      leaves = record {
        all = hs.leaves.all;
        longer = omega (arith, h.leaves.longer, hs.leaves.longer);
        kept = λ n inside. hs.leaves.kept n (omega (arith, inside, h.leaves.longer)) ∙ h.leaves.kept n inside;
        gives = (coming_of (length rows) (length bs.rows) at p a.gives (omega (arith, h.leaves.longer, hs.leaves.longer)) part (λ y e. omega (arith, h.leaves.gives y e, hs.leaves.longer)) from, hs.leaves.gives);
      };
      is = λ i. (heard-kept r AreComing a.rows bs a.gives h.leaves.all hs.leaves h.leaves.gives ∙ h.is) i ∷ hs.is i;
      shows = (shown-kept r AreComing a.rows bs a.gives h.leaves.all hs.leaves (hears_shown r rows a m h), hs.shows);
    }

    pub hears_after : (env : Env) (stop : ℕ) (old : List Row) (ps : List Part) (ms : List (Env → sounds.Sound)) (rows : List Row) → Extends old rows → AllRows rows → ArePartSounds old ps ms → HearsInputs rows (parts_after env stop ps rows) (meant.parts_after env stop ms)
    hears_after env stop old [] [] rows e all h = record { leaves = leaves_given AreComing rows [] all tt; is = refl; shows = tt }
    hears_after env stop old [] (m ∷ ms) rows e all h = absurd h
    hears_after env stop old (p ∷ ps) [] rows e all h = absurd h
    hears_after env stop old (p ∷ ps) (m ∷ ms) rows e all h =
        let first = hears_next env stop old rows p m e all h.0 in
        let a = next_part env stop p rows in
        let rest = hears_after env a.gives.timing.stop old ps ms a.rows (extends_to IsBelow old rows a e first.leaves) first.leaves.all h.2 in
        hears_input rows a (meant.next_part env stop m) (index_at stop env.sound_rate) p (parts_after env a.gives.timing.stop ps a.rows) (meant.parts_after env (sounds.Sound.stop (meant.next_part env stop m)) ms) first
        (placed_start (index_at stop env.sound_rate) _) (part_later (length old) (length rows) p e.longer h.1)
        (subst (λ t. HearsInputs a.rows (parts_after env a.gives.timing.stop ps a.rows) (meant.parts_after env t ms)) (sym (stop_is (meant.next_part env stop m) a.gives.timing first.when)) rest)

    pub hears_in_turn : (env : Env) (ps : List Part) (ms : List (Env → sounds.Sound)) (rows : List Row) → AllRows rows → ArePartSounds rows ps ms → HearsInputs rows (parts_in_turn env ps rows) (meant.parts_in_turn env ms)
    hears_in_turn env [] [] rows all h = record { leaves = leaves_given AreComing rows [] all tt; is = refl; shows = tt }
    hears_in_turn env [] (m ∷ ms) rows all h = absurd h
    hears_in_turn env (p ∷ ps) [] rows all h = absurd h
    hears_in_turn env (p ∷ ps) (m ∷ ms) rows all h =
        let here : Extends rows rows = record { all = all; longer = omega arith; kept = λ k inside. refl } in
        let first = h.0 env rows here all in
        let a = p.sound env rows in
        let mid = hears_as r a.rows (brought env.sound_rate a.gives a.rows) (resampled env.sound_rate (heard r a.rows a.gives)) (resampled env.sound_rate (m env)) (ap (resampled env.sound_rate) first.is) (hears_brought r env.sound_rate a.gives a.rows first.leaves.all (hears_shown r rows a (m env) first)) in
        let b = brought env.sound_rate a.gives a.rows in
        let both = hears_then r IsBelow rows a b (resampled env.sound_rate (m env)) first.leaves mid in
        let rest = hears_after env b.gives.timing.stop rows ps ms b.rows (extends_to IsBelow rows rows b here both.leaves) both.leaves.all h.2 in
        hears_input rows b (resampled env.sound_rate (m env)) 0 p (parts_after env b.gives.timing.stop ps b.rows) (meant.parts_after env (sounds.Sound.stop (resampled env.sound_rate (m env))) ms) both
        (omega arith) h.1
        (subst (λ t. HearsInputs b.rows (parts_after env b.gives.timing.stop ps b.rows) (meant.parts_after env t ms)) (sym (stop_is (resampled env.sound_rate (m env)) b.gives.timing both.when)) rest)

    pub hears_parts_in : (o : Order) (env : Env) (ps : List Part) (ms : List (Env → sounds.Sound)) (rows : List Row) → AllRows rows → ArePartSounds rows ps ms → HearsInputs rows (parts_in o env ps rows) (meant.parts_in o env ms)
    hears_parts_in order.Together env ps ms rows all h = hears_together env ps ms rows all h
    hears_parts_in order.InTurn env ps ms rows all h = hears_in_turn env ps ms rows all h

    -- ---- parts of an expression

    pub names_later : (old rows : List Row) (names : Names) → Extends old rows → AllRows rows → AreShown r old names → AreShown r rows names × (wholes r rows names ≡ wholes r old names)
    names_later old rows names e all h =
        names-kept r (λ n u. Unit {0}) old (record { gives = tt {0}; rows = rows }) names e.all (record { all = all; longer = e.longer; kept = e.kept; gives = tt }) h

    pub part_sound : (old : List Row) (names : Names) (e : ExprId) → AreShown r old names → IsPartSound old (part_of code rec names e) (meant_part means (wholes r old names) e)
    part_sound old names e h from rows ext all =
        let now = names_later old rows names ext all h in
        hears_as r rows (rec e.0 from names rows) (means e.0 from (wholes r rows names)) (means e.0 from (wholes r old names)) (ap (means e.0 from) now.1) (same e.0 from names rows all now.0)

    module _ (keeps : AllKeep rec) where
      pub part_sounds : (old : List Row) (names : Names) (es : List ExprId) → AreShown r old names → ArePartSounds old (map (part_of code rec names) es) (map (meant_part means (wholes r old names)) es)
      part_sounds old names [] h = tt
      part_sounds old names (e ∷ es) h = (part_sound old names e h, is_part code rec keeps (length old) names e (names_low r old names h), part_sounds old names es h)

      pub repeat_sounds : (old : List Row) (names : Names) (n : NameId) (e : ExprId) (ks : List ℕ) → AreShown r old names
          → ArePartSounds old (map (λ k. part_of code rec (names ++ (n, Number (pos (k * 1000000))) ∷ []) e) ks) (map (repeated_part means (wholes r old names) n e) ks)
      repeat_sounds old names n e [] h = tt
      repeat_sounds old names n e (k ∷ ks) h =
          let pushed = push_shown r old names n (Number (pos (k * 1000000))) h tt in (
            (λ from rows ext all. hears_as r rows (rec e.0 from (names ++ (n, Number (pos (k * 1000000))) ∷ []) rows) _ _ (ap (means e.0 from) pushed.1) (part_sound old (names ++ (n, Number (pos (k * 1000000))) ∷ []) e pushed.0 from rows ext all)),
            is_part code rec keeps (length old) (names ++ (n, Number (pos (k * 1000000))) ∷ []) e (names_low r old (names ++ (n, Number (pos (k * 1000000))) ∷ []) pushed.0),
            repeat_sounds old names n e ks h,
          )

      -- ---- nodes

      pub number_is : (rows : List Row) (names : Names) (e : ExprId) → number code names e ≡ meant_number code (wholes r rows names) e
      number_is rows names e = ap (number_of code e) (same_scalars r rows names)

      pub numbers_is : (rows : List Row) (names : Names) (es : List ExprId) → map (number code names) es ≡ map (meant_number code (wholes r rows names)) es
      numbers_is rows names [] = refl
      numbers_is rows names (e ∷ es) = λ i. number_is rows names e i ∷ numbers_is rows names es i

      pub hears_leaf_by : (o : Option UnitKind) (t : Timing) (m : sounds.Sound) (rows : List Row) → AllRows rows → timing_of m ≡ t → (o ≡ None → t.len ≡ 0) → Hears r rows (leaf_by o t m rows) m
      hears_leaf_by None t m rows all when none = record {
        leaves = leaves_leaf_by None t m rows all;
        is = hears_none r t m rows when (none refl);
        when = when;
      }
      hears_leaf_by (Some kind) t m rows all when none = hears_unit r kind t [] (λ ss. m.samples) rows m all tt refl when

      pub hears_leaf : (w : Generator) (env : Env) (ns ms : List ℤ) (rows : List Row) → AllRows rows → ns ≡ ms → Hears r rows (leaf_made w env ns rows) (leaf_sound w env ms)
      hears_leaf w env ns ms rows all e =
          hears_as r rows (leaf_made w env ns rows) (leaf_sound w env ns) (leaf_sound w env ms) (ap (leaf_sound w env) e)
          (hears_leaf_by (kind_of_generator w) (leaf_time w env ns) (leaf_sound w env ns) rows all (timing_of-leaf_sound w env ns) (none_of_no_kind w env ns))

      pub hears_made_of : (e : ExprId) (env : Env) (names : Names) (rows : List Row) (kind : UnitKind) (f g : sounds.Sound → sounds.Sound) → f ≡ g → ((n : sounds.Sound) → timing_of (f n) ≡ timing_of n) → AllRows rows → AreShown r rows names
          → Hears r rows (and_then (rec e.0 env names) (row_over kind f) rows) (g (means e.0 env (wholes r rows names)))
      hears_made_of e env names rows kind f g same_f when all h =
          let a = rec e.0 env names rows in
          subst (λ k. Hears r rows (row_over kind f a.gives a.rows) (k (means e.0 env (wholes r rows names)))) same_f
          (hears_single r a rows (means e.0 env (wholes r rows names)) kind f when (same e.0 env names rows all h))

      pub hears_if : (b : Bool) (s t : Step RowSound) (m n : sounds.Sound) (rows : List Row) → Hears r rows (s rows) m → Hears r rows (t rows) n → Hears r rows (cond b s t rows) (cond b m n)
      hears_if true s t m n rows h k = h
      hears_if false s t m n rows h k = k

      pub hears_name : (env : Env) (names : Names) (x : NameId) (rows : List Row) → AllRows rows → AreShown r rows names
          → Hears r rows (given (sound_in env.sound_rate (unwrap_or (last_of (same_name x) names) (Sound (silent env.sound_rate)))) rows) (meant_in env.sound_rate (unwrap_or (last_of (same_name x) (wholes r rows names)) (Sound (silence env.sound_rate))))
      hears_name env names x rows all h = by_value (unwrap_or (last_of (same_name x) names) (Sound (silent env.sound_rate))) shows ((whole ∙ ap (λ (m : sounds.Sound). unwrap_or (last_of (same_name x) (wholes r rows names)) (Sound m)) none))
        where
          none : heard r rows (silent env.sound_rate) ≡ silence env.sound_rate
          none = (hears_silent r env.sound_rate rows all).is

          whole : whole_value r rows (unwrap_or (last_of (same_name x) names) (Sound (silent env.sound_rate))) ≡ unwrap_or (last_of (same_name x) (wholes r rows names)) (Sound (heard r rows (silent env.sound_rate)))
          whole = sym (last_of-with (whole_value r rows) (same_name x) names (Sound (silent env.sound_rate)))

          shows : IsShownValue r rows (unwrap_or (last_of (same_name x) names) (Sound (silent env.sound_rate)))
          shows = last_of-has (IsShownValue r rows) (same_name x) names (Sound (silent env.sound_rate)) (All-from_recursion (λ (b : NameId × Value RowSound). IsShownValue r rows b.1) names h) (hears_shown r rows (given (silent env.sound_rate) rows) (silence env.sound_rate) (hears_silent r env.sound_rate rows all))

          by_value : (v : Value RowSound) → IsShownValue r rows v → {w : Value sounds.Sound} → whole_value r rows v ≡ w → Hears r rows (given (sound_in env.sound_rate v) rows) (meant_in env.sound_rate w)
          by_value (Number v) shown e = subst (λ w. Hears r rows (given (silent env.sound_rate) rows) (meant_in env.sound_rate w)) e (hears_silent r env.sound_rate rows all)
          by_value (Sound s) shown e = subst (λ w. Hears r rows (given s rows) (meant_in env.sound_rate w)) e (hears_given r rows s all shown)

      pub hears_node : (at : Node) → SameSounds (made_at code at rec) (sound_node code at means)
      hears_node (node.Local x) env names rows all h = hears_name env names x rows all h
      hears_node (node.Call f es) env names rows all h =
          let vs = each (Rattle.ny_plan.specs.Plan.value_of code rec env names) es rows in
          let hv = hears_values env names es rows all h in
          let zipped = zip_shown vs.rows (function_at code f.0).params vs.gives hv.shows in
          hears_then r ValuesBelow rows vs (rec (function_at code f.0).body.0 env (zip (function_at code f.0).params vs.gives) vs.rows) _ hv.leaves
          (hears_as r vs.rows (rec (function_at code f.0).body.0 env (zip (function_at code f.0).params vs.gives) vs.rows) _ _ (ap (means (function_at code f.0).body.0 env) (zipped.1 ∙ ap (zip (function_at code f.0).params) hv.is))
          (same (function_at code f.0).body.0 env (zip (function_at code f.0).params vs.gives) vs.rows hv.leaves.all zipped.0))
      hears_node (node.Block bs e) env names rows all h =
          let inner = names_after code rec env bs names rows in
          let hn = hears_names env bs names rows all h in
          hears_then r AreNamesBelow rows inner (rec e.0 env inner.gives inner.rows) _ hn.leaves
          (hears_as r inner.rows (rec e.0 env inner.gives inner.rows) _ _ (ap (means e.0 env) hn.is) (same e.0 env inner.gives inner.rows hn.leaves.all hn.shows))
      hears_node (node.If c a b) env names rows all h =
          subst (λ w. Hears r rows (cond (test_of code c (scalars_of names)) (rec a.0 env names) (rec b.0 env names) rows) (cond (test_of code c w) (means a.0 env (wholes r rows names)) (means b.0 env (wholes r rows names)))) (same_scalars r rows names)
          (hears_if (test_of code c (scalars_of names)) (rec a.0 env names) (rec b.0 env names) _ _ rows (same a.0 env names rows all h) (same b.0 env names rows all h))
      hears_node (node.Pair o a b) env names rows all h = hears_pair o env names a b rows all h
      hears_node (node.Neg a) env names rows all h =
          let x = Rattle.ny_plan.specs.Plan.value_of code rec env names a rows in
          let hx = hears_value env names a rows all h in
          hears_then r IsValueBelow rows x (negated env.sound_rate x.gives x.rows) _ hx.leaves
          (hears_as r x.rows (negated env.sound_rate x.gives x.rows) _ _ (ap (negated_value env.sound_rate) hx.is) (hears_negated r env.sound_rate x.gives x.rows hx.leaves.all hx.shows))
      hears_node (node.Leaf w es) env names rows all h = hears_leaf w env _ _ rows all (numbers_is rows names es)
      hears_node (node.Effect w e es) env names rows all h =
          hears_made_of e env names rows (kind_of_effect w) (effect_sound w (map (number code names) es)) (effect_sound w (map (meant_number code (wholes r rows names)) es)) (ap (effect_sound w) (numbers_is rows names es)) (λ n. timing_of-effect w (map (number code names) es) n) all h
      hears_node (node.Cue e) env names rows all h =
          let a = rec e.0 env names rows in
          let ha = same e.0 env names rows all h in
          hears_then r IsBelow rows a (cued env a.gives a.rows) _ ha.leaves
          (hears_as r a.rows (cued env a.gives a.rows) _ _ (ap (cue_sound env) ha.is) (hears_cued r env a.gives a.rows ha.leaves.all (hears_shown r rows a _ ha)))
      hears_node (node.Mix o es) env names rows all h = hears_mix env.sound_rate rows (parts_in o env (map (part_of code rec names) es) rows) _ (hears_parts_in o env (map (part_of code rec names) es) _ rows all (part_sounds rows names es h))
      hears_node (node.Repeat o n k e) env names rows all h = hears_mix env.sound_rate rows (parts_in o env (repeated_parts code rec names n k e) rows) _ (hears_parts_in o env (repeated_parts code rec names n k e) _ rows all (repeat_sounds rows names n e (range_with_len 0 k) h))
      hears_node (node.Change c e) env names rows all h =
          hears_as r rows (rec e.0 (changed_env c (number code names) env) names rows) _ _ (ap (λ w. means e.0 (changed_env c (λ k. number_of code k w) env) (wholes r rows names)) (same_scalars r rows names))
          (same e.0 (changed_env c (number code names) env) names rows all h)
      hears_node _ env names rows all h = hears_silent r env.sound_rate rows all

  -- what an expression makes is what it means
  pub all_heard : (code : Code) (e : ℕ) → SameSounds (made code e) (meaning code e)
  unfolding made meaning
  all_heard code e =
      let both = by_smaller-both (λ (f : Makes) (g : Means). Keeps f × SameSounds f g) (λ env names. given (silent env.sound_rate)) (λ env bound. silence env.sound_rate)
      (λ e rec. made_at code (node_at code e) rec) (λ e rec. sound_node code (node_at code e) rec)
      ((λ env names rows all h. leaves_given IsBelow rows (silent env.sound_rate) all (silent_below (length rows) env.sound_rate)), (λ env names rows all h. hears_silent r env.sound_rate rows all))
      (λ n f g h. (made_keeps code f (λ k. (h k).0) (node_at code n), hears_node code f g (λ k. (h k).1) (λ k. (h k).0) (node_at code n))) e in
      both.1
