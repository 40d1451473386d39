-- What evaluation makes: rows that name earlier rows.
use Rattle.std.proofs.Common.{◌≡◌, ◌⊎◌, inl, inr, ℕ, zero, suc, ◌+◌, ◌-◌, ◌*◌, ◌<◌, ◌≤◌, Bool, true, false, cond, nat_eq, nat_lt, List, [], ◌∷◌, ◌++◌, map, zip, length, get_or, Option, None, Some, unwrap_or, refl, sym, ap, subst, ◌∙◌, arith, ℤ, pos}
use Rattle.std.specs.Prelude.{flat_map}
use Rattle.std.specs.List.{AllByRecursion, range_with_len}
use Rattle.std.proofs.lemmas.Bool.{cases_lt}
use Rattle.std.proofs.lemmas.List.{get_or_append_left}
use Rattle.std.proofs.Math.Seq.{get_or-append_seam}
use Rattle.std.proofs.Math.ListN.{length-append}
use Rattle.ny_list.proofs.IndexLemmas.{same_some}
use Rattle.std.proofs.lemmas.List.Elements.{All-nil, All-cons, All-push, All-weaker}
use Rattle.ny_num.specs.Grid.{index_at}
use Rattle.ny_num.specs.declared.rate.Rate.{Rate}
use Rattle.ny_num.specs.declared.timing.Timing.{Timing}
use Rattle.ny_num.specs.Sound as sounds
use Rattle.ny_num.specs.Sound.{placed_timing}
use Rattle.ny_num.specs.Resampling.{is_same_rate}
use Rattle.ny_num.specs.Mix.{mix_timing}
use Rattle.ny_kernels.specs.declared.operation.Op.{Op}
use Rattle.ny_warp.specs.declared.env.Env.{Env}
use Rattle.ny_warp.specs.Environment.{from_stop, opening}
use Rattle.ny_resolve.specs.declared.builtin.Order.{Order}
use Rattle.ny_resolve.specs.declared.builtin.Order.TheVariants as order
use Rattle.ny_check.specs.Values.{scalars_of, scalar_of, test_of}
use Rattle.ny_scope.specs.Scopes.{last_of}
use Rattle.ny_scope.proofs.Mapped.{last_of-has}
use Rattle.ny_resolve.specs.declared.term.NameId.{NameId}
use Rattle.ny_resolve.specs.Keys.{same_name}
use Rattle.ny_timing.specs.Timings.{no_time}
use Rattle.ny_check.specs.declared.node.Node.{Node}
use Rattle.ny_check.specs.declared.node.Node.TheVariants as node
use Rattle.ny_check.specs.declared.node.ExprId.{ExprId}
use Rattle.ny_check.specs.declared.value.Scalar.{Scalar}
use Rattle.ny_check.specs.declared.value.Scalar.TheVariants as scalar
use Rattle.ny_check.specs.declared.value.Value.{Value}
use Rattle.ny_check.specs.declared.value.Value.TheVariants.{Number, Sound}
use Rattle.ny_check.specs.Code.{Code, node_at, function_at}
use Rattle.ny_check.specs.Recursion.{below, turns, by_smaller}
use Rattle.ny_check.specs.Behaviours.{is_one, cue_timing}
use Rattle.ny_heap.specs.Heap as heap
use Rattle.ny_num.specs.Numbers.{sat_sample, sample_sub}
use Rattle.ny_num.specs.Leaves.{louder_value}
use Rattle.ny_num.specs.Pointwise.{combined, each_value}
use Rattle.ny_kernels.specs.Operations.{operation}
use Rattle.ny_check.specs.Families.{pair_timing, leaf_time, leaf_sound, effect_sound, changed_env}
use Rattle.ny_heap.specs.Kinds.{UnitKind, Mix, Sub, Mul, kind_of_op}
use Rattle.ny_hands.specs.Kinds.{kind_of_generator, kind_of_effect}
use Rattle.ny_plan.specs.Need.{takes_as}
use Rattle.ny_plan.specs.Rows.{RowSound, Input, Row, Step, row_at, no_row, given, and_then, each, shown, silent, input, unit}
use Rattle.ny_plan.specs.Units.{first, second, leaf_by, row_over, brought, paired, negated, cued, Part, parts_together, coming, next_part, parts_after, parts_in_turn, parts_in, counted_from, mixed, channel_row}
use Rattle.ny_plan.specs.Plan.{Names, Makes, sound_in, value_by, value_of, names_after, sounds_of, part_of, repeated_parts, number, made_at, made, operand, played_at, played, plan}
use Rattle.ny_plan.specs.Order.{IsBelow, IsValueBelow, AreNamesBelow, IsInputOf, AllRows, Leaves}

-- ---- a recursion on smaller numbers

-- what each step keeps holds of the whole
pub by_smaller-all : {A : Type 0} (P : A → Type 0) (other : A) (step : ℕ → (ℕ → A) → A) → P other → ((n : ℕ) (f : ℕ → A) → ((k : ℕ) → P (f k)) → P (step n f)) → (n : ℕ) → P (by_smaller other step n)
unfolding by_smaller
by_smaller-all P other step here further n = in_turns (n + 1) n
  where
    by_test : (b : Bool) (x : _) → P x → P (cond b x other)
    by_test true x h = h
    by_test false x h = here

    in_turns : (left n : ℕ) → P (turns other step left n)
    in_turns zero n = here
    in_turns (suc left) n = further n (below n other (turns other step left)) (λ k. by_test (nat_lt k n) (turns other step left k) (in_turns left k))

pub no_value : {A : Type 0} {a : A} → None ≡ Some a → ⊥
no_value e = cc

-- ---- later

pub below_later : (n k : ℕ) (s : RowSound) → n ≤ k → IsBelow n s → IsBelow k s
below_later n k s le h y e = omega (arith, h y e)

value_later : (n k : ℕ) (v : Value RowSound) → n ≤ k → IsValueBelow n v → IsValueBelow k v
value_later n k (Number v) le h = tt
value_later n k (Sound s) le h = below_later n k s le h

names_later : (n k : ℕ) (names : Names) → n ≤ k → AreNamesBelow n names → AreNamesBelow k names
names_later n k names le h = All-weaker (λ b. IsValueBelow n b.1) (λ b. IsValueBelow k b.1) (λ b. value_later n k b.1 le) names h

pub all_later : {A : Type 0} (P Q : A → Type 0) (xs : List A) → ((a : A) → P a → Q a) → AllByRecursion P xs → AllByRecursion Q xs
all_later P Q [] f h = tt
all_later P Q (x ∷ xs) f h = (f x h.0, all_later P Q xs f h.1)

-- ---- steps

pub leaves_given : {A : Type 0} (P : ℕ → A → Type 0) (rows : List Row) (a : A) → AllRows rows → P (length rows) a → Leaves P rows (given a rows)
leaves_given P rows a all h = record { all = all; longer = omega arith; kept = λ k below. refl; gives = h }

pub leaves_then : {A C : Type 0} (P : ℕ → A → Type 0) (Q : ℕ → C → Type 0) (s : Step A) (next : A → Step C) (rows : List Row) → Leaves P rows (s rows)
    → ((a : A) (later : List Row) → AllRows later → length rows ≤ length later → P (length later) a → Leaves Q later (next a later))
    → Leaves Q rows (and_then s next rows)
leaves_then P Q s next rows l further =
    let a = s rows in
    let r = further a.gives a.rows l.all l.longer l.gives in
    record {
      all = r.all;
      longer = omega (arith, l.longer, r.longer);
      kept = λ k inside. r.kept k (omega (arith, inside, l.longer)) ∙ l.kept k inside;
      gives = r.gives;
    }

-- a step for each of these, where what holds of them goes on to hold
pub leaves_each : {A C : Type 0} (P : ℕ → A → Type 0) (Q : ℕ → C → Type 0) (step : A → Step C)
    → ((n k : ℕ) (a : A) → n ≤ k → P n a → P k a) → ((n k : ℕ) (c : C) → n ≤ k → Q n c → Q k c)
    → ((a : A) (rows : List Row) → AllRows rows → P (length rows) a → Leaves Q rows (step a rows))
    → (xs : List A) (rows : List Row) → AllRows rows → AllByRecursion (P (length rows)) xs → Leaves (λ n cs. AllByRecursion (Q n) cs) rows (each step xs rows)
leaves_each P Q step later_p later_q one [] rows all h = leaves_given (λ n cs. AllByRecursion (Q n) cs) rows [] all tt
leaves_each P Q step later_p later_q one (x ∷ xs) rows all h =
    leaves_then Q (λ n cs. AllByRecursion (Q n) cs) (step x) (λ b. and_then (each step xs) (λ bs. given (b ∷ bs))) rows (one x rows all h.0)
    (λ b more all_more le hb.
    leaves_then (λ n cs. AllByRecursion (Q n) cs) (λ n cs. AllByRecursion (Q n) cs) (each step xs) (λ bs. given (b ∷ bs)) more
    (leaves_each P Q step later_p later_q one xs more all_more (all_later (P (length rows)) (P (length more)) xs (λ a. later_p (length rows) (length more) a le) h.1))
    (λ bs last all_last le_last hbs. leaves_given (λ n cs. AllByRecursion (Q n) cs) last (b ∷ bs) all_last (later_q (length more) (length last) b le_last hb, hbs)))

pub leaves_choice : {A : Type 0} (P : ℕ → A → Type 0) (b : Bool) (s t : Step A) (rows : List Row) → Leaves P rows (s rows) → Leaves P rows (t rows) → Leaves P rows (cond b s t rows)
leaves_choice P true s t rows h k = h
leaves_choice P false s t rows h k = k

-- ---- rows

pub shown_below : (n : ℕ) (row : Option ℕ) (t : Timing) → ((y : ℕ) → row ≡ Some y → y < n) → IsBelow n (shown row t)
shown_below n row t h = by_test (nat_eq t.len 0)
  where
    by_test : (b : Bool) → (y : ℕ) → cond b None row ≡ Some y → y < n
    by_test true y e = absurd (no_row e)
      where
        no_row : {y : ℕ} → None ≡ Some y → ⊥
        no_row e = cc
    by_test false y e = h y e

pub input_of : (n : ℕ) (x : Row) (s : RowSound) → IsBelow n s → IsInputOf n x (input s)
input_of n x s h = record { earlier = h; keeps_earlier = tt; in_time = inl refl }

-- one row more
pub leaves_unit : (kind : UnitKind) (t : Timing) (inputs : List Input) (samples : List sounds.Sound → List ℤ) (rows : List Row) → AllRows rows
    → AllByRecursion (IsInputOf (length rows) (record { kind = kind; timing = t; inputs = inputs; samples = samples })) inputs
    → Leaves IsBelow rows (unit kind t inputs samples rows)
leaves_unit kind t inputs samples rows all h = by_test (nat_eq t.len 0)
  where
    by_test : (b : Bool) → Leaves IsBelow rows (record { gives = record { row = cond b None (Some (length rows)); timing = t }; rows = cond b rows (rows ++ (record { kind = kind; timing = t; inputs = inputs; samples = samples } ∷ [])) })
    by_test true = record { all = all; longer = omega arith; kept = λ k inside. refl; gives = λ y e. absurd (none e) }
      where
        none : {y : ℕ} → None ≡ Some y → ⊥
        none e = cc
    by_test false = record {
      all = λ n inside. elim (cases_lt n (length rows)) [
        | inl before ↦ subst (λ (w : Row). AllByRecursion (IsInputOf n w) w.inputs) (sym (get_or_append_left rows (record { kind = kind; timing = t; inputs = inputs; samples = samples } ∷ []) no_row n before)) (all n before)
        | inr past ↦ last n (omega (arith, past, inside, size))
      ];
      longer = omega (arith, size);
      kept = λ k inside. get_or_append_left rows (record { kind = kind; timing = t; inputs = inputs; samples = samples } ∷ []) no_row k inside;
      gives = λ y e. omega (arith, size, same_some e);
    }
      where
        size : length (rows ++ (record { kind = kind; timing = t; inputs = inputs; samples = samples } ∷ [])) ≡ length rows + 1
        size = length-append rows (record { kind = kind; timing = t; inputs = inputs; samples = samples } ∷ [])

        last : (n : ℕ) → n ≡ length rows → AllByRecursion (IsInputOf n (row_at (rows ++ (record { kind = kind; timing = t; inputs = inputs; samples = samples } ∷ [])) n)) (row_at (rows ++ (record { kind = kind; timing = t; inputs = inputs; samples = samples } ∷ [])) n).inputs
        last n e =
            let is : row_at (rows ++ (record { kind = kind; timing = t; inputs = inputs; samples = samples } ∷ [])) n ≡ record { kind = kind; timing = t; inputs = inputs; samples = samples } =
            ap (row_at (rows ++ (record { kind = kind; timing = t; inputs = inputs; samples = samples } ∷ []))) e ∙ get_or-append_seam rows (record { kind = kind; timing = t; inputs = inputs; samples = samples }) [] no_row in
            subst (λ (w : Row). AllByRecursion (IsInputOf n w) w.inputs) (sym is) (subst (λ k. AllByRecursion (IsInputOf k (record { kind = kind; timing = t; inputs = inputs; samples = samples })) inputs) (sym e) h)

pub leaves_over : (kind : UnitKind) (f : sounds.Sound → sounds.Sound) (s : RowSound) (rows : List Row) → AllRows rows → IsBelow (length rows) s → Leaves IsBelow rows (row_over kind f s rows)
leaves_over kind f s rows all h = leaves_unit kind s.timing (input s ∷ []) _ rows all (input_of (length rows) _ s h, tt)

pub leaves_brought : (rate : Rate) (s : RowSound) (rows : List Row) → AllRows rows → IsBelow (length rows) s → Leaves IsBelow rows (brought rate s rows)
leaves_brought rate s rows all h =
    leaves_choice IsBelow (is_same_rate s.timing.rate rate) (given s) _ rows (leaves_given IsBelow rows s all h)
    (leaves_unit _ _ (input s ∷ []) _ rows all (input_of (length rows) _ s h, tt))

pub silent_below : (n : ℕ) (rate : Rate) → IsBelow n (silent rate)
silent_below n rate = shown_below n None (no_time rate) (λ y e. absurd (none e))
  where
    none : {y : ℕ} → None ≡ Some y → ⊥
    none e = cc

pub leaves_paired : (op : Op) (rate : Rate) (a b : Value RowSound) (rows : List Row) → AllRows rows → IsValueBelow (length rows) a → IsValueBelow (length rows) b → Leaves IsBelow rows (paired op rate a b rows)
leaves_paired op rate (Number j) (Number k) rows all ha hb = leaves_given IsBelow rows (silent rate) all (silent_below (length rows) rate)
leaves_paired op rate (Number k) (Sound b) rows all ha hb =
    leaves_then IsBelow IsBelow (brought rate b) (row_over (kind_of_op op) (each_value (operation op (sat_sample k)))) rows (leaves_brought rate b rows all hb)
    (λ s later al le hs. leaves_over (kind_of_op op) (each_value (operation op (sat_sample k))) s later al hs)
leaves_paired op rate (Sound a) (Number k) rows all ha hb =
    leaves_then IsBelow IsBelow (brought rate a) (row_over (kind_of_op op) (each_value (λ x. operation op x (sat_sample k)))) rows (leaves_brought rate a rows all ha)
    (λ s later al le hs. leaves_over (kind_of_op op) (each_value (λ x. operation op x (sat_sample k))) s later al hs)
leaves_paired op rate (Sound a) (Sound b) rows all ha hb =
    leaves_then IsBelow IsBelow (brought rate a) (λ s. and_then (brought rate b) (both s)) rows (leaves_brought rate a rows all ha) (λ s later al le hs.
    leaves_then IsBelow IsBelow (brought rate b) (both s) later (leaves_brought rate b later al (below_later (length rows) (length later) b le hb)) (λ t last al_last le_last ht.
    leaves_unit (kind_of_op op) (pair_timing op s.timing t.timing) (input s ∷ input t ∷ []) (λ ss. (combined (pair_timing op) (operation op) (first ss) (second ss)).samples) last al_last
    (input_of (length last) _ s (below_later (length later) (length last) s le_last hs), (input_of (length last) _ t ht, tt))))
  where
    both : RowSound → RowSound → Step RowSound
    both s t = unit (kind_of_op op) (pair_timing op s.timing t.timing) (input s ∷ input t ∷ []) (λ ss. (combined (pair_timing op) (operation op) (first ss) (second ss)).samples)

pub leaves_negated : (rate : Rate) (a : Value RowSound) (rows : List Row) → AllRows rows → IsValueBelow (length rows) a → Leaves IsBelow rows (negated rate a rows)
leaves_negated rate (Number k) rows all h = leaves_given IsBelow rows (silent rate) all (silent_below (length rows) rate)
leaves_negated rate (Sound s) rows all h =
    leaves_then IsBelow IsBelow (brought rate s) (row_over Sub (each_value (sample_sub (pos 0)))) rows (leaves_brought rate s rows all h) (λ s later al le hs. leaves_over Sub (each_value (sample_sub (pos 0))) s later al hs)

pub leaves_cued : (env : Env) (s : RowSound) (rows : List Row) → AllRows rows → IsBelow (length rows) s → Leaves IsBelow rows (cued env s rows)
leaves_cued env s rows all h =
    let moved = shown_below (length rows) s.row (cue_timing env s.timing) h in
    leaves_choice IsBelow (is_one env.loud) (given (shown s.row (cue_timing env s.timing))) (row_over Mul (each_value (louder_value env.loud)) (shown s.row (cue_timing env s.timing))) rows (leaves_given IsBelow rows (shown s.row (cue_timing env s.timing)) all moved)
    (leaves_over Mul (each_value (louder_value env.loud)) (shown s.row (cue_timing env s.timing)) rows all moved)

pub leaves_leaf_by : (o : Option UnitKind) (t : Timing) (m : sounds.Sound) (rows : List Row) → AllRows rows → Leaves IsBelow rows (leaf_by o t m rows)
leaves_leaf_by None t m rows all = leaves_given IsBelow rows (shown None t) all (shown_below (length rows) None t (λ y e. absurd (no_value e)))
leaves_leaf_by (Some kind) t m rows all = leaves_unit kind t [] (λ ss. m.samples) rows all tt

-- ---- mixes

-- an input of a mix whose start is not known yet: it comes no later than it is heard
pub record IsComing (n : ℕ) (i : Input) : Type 0 where
  pub earlier : IsBelow n i.sound
  keeps_earlier : AllByRecursion (IsBelow n) i.captured
  in_time : i.offset ≤ i.sound.timing.start

coming_later : (n k : ℕ) (i : Input) → n ≤ k → IsComing n i → IsComing k i
coming_later n k i le h = record {
  earlier = below_later n k i.sound le h.earlier;
  keeps_earlier = all_later (IsBelow n) (IsBelow k) i.captured (λ s. below_later n k s le) h.keeps_earlier;
  in_time = h.in_time;
}

abbrev pub AreComing : ℕ → List Input → Type 0
AreComing n is = AllByRecursion (IsComing n) is

-- a part that adds rows that name earlier rows
pub record IsPart (n : ℕ) (part : Part) : Type 0 where
  sound : (from : Env) (rows : List Row) → n ≤ length rows → AllRows rows → Leaves IsBelow rows (part.sound from rows)
  keeps_earlier : AllByRecursion (IsBelow n) part.captured

pub part_later : (n k : ℕ) (part : Part) → n ≤ k → IsPart n part → IsPart k part
part_later n k part le h = record {
  sound = λ from rows more all. h.sound from rows (omega (arith, le, more)) all;
  keeps_earlier = all_later (IsBelow n) (IsBelow k) part.captured (λ s. below_later n k s le) h.keeps_earlier;
}

pub inputs_coming : (n : ℕ) (ss : List RowSound) → AllByRecursion (IsBelow n) ss → AreComing n (map input ss)
inputs_coming n [] h = tt
inputs_coming n (s ∷ ss) h = (record { earlier = h.0; keeps_earlier = tt; in_time = omega arith }, inputs_coming n ss h.1)

pub leaves_together : (env : Env) (parts : List Part) (rows : List Row) → AllRows rows → AllByRecursion (IsPart (length rows)) parts → Leaves AreComing rows (parts_together env parts rows)
leaves_together env parts rows all h =
    leaves_then (λ n ss. AllByRecursion (IsBelow n) ss) AreComing (each (λ (part : Part). part.sound env) parts) _ rows
    (leaves_each IsPart IsBelow (λ (part : Part). part.sound env) (λ n k p le. part_later n k p le) (λ n k s le. below_later n k s le) (λ p now al hp. hp.sound env now (omega arith) al) parts rows all h)
    (λ ss later al le hs.
    leaves_then (λ n ss. AllByRecursion (IsBelow n) ss) AreComing (each (brought env.sound_rate) ss) _ later
    (leaves_each IsBelow IsBelow (brought env.sound_rate) (λ n k s le. below_later n k s le) (λ n k s le. below_later n k s le) (λ s now al hp. leaves_brought env.sound_rate s now al hp) ss later al hs)
    (λ ts last al_last le_last ht. leaves_given AreComing last (map input ts) al_last (inputs_coming (length last) ts ht)))

pub placed_start : (at : ℕ) (t : Timing) → at ≤ Timing.start (placed_timing at t)
unfolding placed_timing
placed_start at t = omega arith

-- a part's sound that begins no earlier than it comes
abbrev pub IsFrom : ℕ → ℕ → RowSound → Type 0
IsFrom at n s = IsBelow n s × (at ≤ s.timing.start)

pub leaves_next : (env : Env) (stop : ℕ) (part : Part) (rows : List Row) → AllRows rows → IsPart (length rows) part → Leaves (IsFrom (index_at stop env.sound_rate)) rows (next_part env stop part rows)
leaves_next env stop part rows all h =
    leaves_then IsBelow (IsFrom (index_at stop env.sound_rate)) (part.sound (from_stop env stop)) _ rows (h.sound (from_stop env stop) rows (omega arith) all) (λ s later al le hs.
    leaves_then IsBelow (IsFrom (index_at stop env.sound_rate)) (brought env.sound_rate s) _ later (leaves_brought env.sound_rate s later al hs) (λ t last al_last le_last ht.
    leaves_given (IsFrom (index_at stop env.sound_rate)) last (shown t.row (placed_timing (index_at stop env.sound_rate) t.timing)) al_last
    (shown_below (length last) t.row (placed_timing (index_at stop env.sound_rate) t.timing) ht, placed_start (index_at stop env.sound_rate) t.timing)))

pub coming_of : (n k at : ℕ) (part : Part) (s : RowSound) → n ≤ k → IsPart n part → IsBelow k s → at ≤ s.timing.start → IsComing k (coming at part s)
coming_of n k at part s le h below from = record {
  earlier = below;
  keeps_earlier = all_later (IsBelow n) (IsBelow k) part.captured (λ s. below_later n k s le) h.keeps_earlier;
  in_time = from;
}

pub leaves_after : (env : Env) (stop : ℕ) (parts : List Part) (rows : List Row) → AllRows rows → AllByRecursion (IsPart (length rows)) parts → Leaves AreComing rows (parts_after env stop parts rows)
leaves_after env stop [] rows all h = leaves_given AreComing rows [] all tt
leaves_after env stop (part ∷ parts) rows all h =
    leaves_then (IsFrom (index_at stop env.sound_rate)) AreComing (next_part env stop part) _ rows (leaves_next env stop part rows all h.0) (λ s later al le hs.
    leaves_then AreComing AreComing (parts_after env s.timing.stop parts) _ later
    (leaves_after env s.timing.stop parts later al (all_later (IsPart (length rows)) (IsPart (length later)) parts (λ p. part_later (length rows) (length later) p le) h.1)) (λ is last al_last le_last hi.
    leaves_given AreComing last (coming (index_at stop env.sound_rate) part s ∷ is) al_last
    (coming_of (length rows) (length last) (index_at stop env.sound_rate) part s (omega (arith, le, le_last)) h.0 (below_later (length later) (length last) s le_last hs.0) hs.1, hi)))

pub leaves_in_turn : (env : Env) (parts : List Part) (rows : List Row) → AllRows rows → AllByRecursion (IsPart (length rows)) parts → Leaves AreComing rows (parts_in_turn env parts rows)
leaves_in_turn env [] rows all h = leaves_given AreComing rows [] all tt
leaves_in_turn env (part ∷ parts) rows all h =
    leaves_then IsBelow AreComing (part.sound env) _ rows (h.0.sound env rows (omega arith) all) (λ s later al le hs.
    leaves_then IsBelow AreComing (brought env.sound_rate s) _ later (leaves_brought env.sound_rate s later al hs) (λ t more al_more le_more ht.
    leaves_then AreComing AreComing (parts_after env t.timing.stop parts) _ more
    (leaves_after env t.timing.stop parts more al_more (all_later (IsPart (length rows)) (IsPart (length more)) parts (λ p. part_later (length rows) (length more) p (omega (arith, le, le_more))) h.1)) (λ is last al_last le_last hi.
    leaves_given AreComing last (coming 0 part t ∷ is) al_last
    (coming_of (length rows) (length last) 0 part t (omega (arith, le, le_more, le_last)) h.0 (below_later (length more) (length last) t le_last ht) (omega arith), hi))))

pub leaves_parts : (o : Order) (env : Env) (parts : List Part) (rows : List Row) → AllRows rows → AllByRecursion (IsPart (length rows)) parts → Leaves AreComing rows (parts_in o env parts rows)
leaves_parts order.Together env parts rows all h = leaves_together env parts rows all h
leaves_parts order.InTurn env parts rows all h = leaves_in_turn env parts rows all h

pub counted_inputs : (n start : ℕ) (x : Row) (is : List Input) → x.kind ≡ Mix → x.timing.start ≡ start → AreComing n is → AllByRecursion (IsInputOf n x) (map (counted_from start) is)
counted_inputs n start x [] kind begins h = tt
counted_inputs n start x (i ∷ is) kind begins h =
    (record { earlier = h.0.earlier; keeps_earlier = h.0.keeps_earlier; in_time = in_time (cases_lt start i.offset) }, counted_inputs n start x is kind begins h.1)
  where
    in_time : (start < i.offset) ⊎ (i.offset ≤ start) → (i.offset - start ≡ 0) ⊎ ((takes_as x.kind ≡ heap.Mix) × (x.timing.start + (i.offset - start) ≤ i.sound.timing.start))
    in_time (inl less) = inr (ap takes_as kind, omega (arith, less, begins, h.0.in_time))
    in_time (inr more) = inl (omega (arith, more))

pub leaves_mixed : (rate : Rate) (is : List Input) (rows : List Row) → AllRows rows → AreComing (length rows) is → Leaves IsBelow rows (mixed rate is rows)
leaves_mixed rate is rows all h =
    leaves_unit Mix _ (map (counted_from (Timing.start (mix_timing rate (map (λ (i : Input). i.sound.timing) is)))) is) _ rows all
    (counted_inputs (length rows) (Timing.start (mix_timing rate (map (λ (i : Input). i.sound.timing) is))) _ is refl refl h)

-- ---- names

abbrev pub Keeps : Makes → Type 0
Keeps f = (env : Env) (names : Names) (rows : List Row) → AllRows rows → AreNamesBelow (length rows) names → Leaves IsBelow rows (f env names rows)

abbrev pub AllKeep : (ℕ → Makes) → Type 0
AllKeep rec = (e : ℕ) → Keeps (rec e)

pub leaves_value_by : (s : Scalar) (sound : Step RowSound) (rows : List Row) → AllRows rows → Leaves IsBelow rows (sound rows) → Leaves IsValueBelow rows (value_by s sound rows)
leaves_value_by (scalar.Number v) sound rows all h = leaves_given IsValueBelow rows (Number v) all tt
leaves_value_by (scalar.Test b) sound rows all h = leaves_then IsBelow IsValueBelow sound (λ s. given (Sound s)) rows h (λ s later al le hs. leaves_given IsValueBelow later (Sound s) al hs)
leaves_value_by scalar.Sound sound rows all h = leaves_then IsBelow IsValueBelow sound (λ s. given (Sound s)) rows h (λ s later al le hs. leaves_given IsValueBelow later (Sound s) al hs)

module _ (code : Code) (rec : ℕ → Makes) (keeps : AllKeep rec) where
  leaves_value : (env : Env) (names : Names) (e : ExprId) (rows : List Row) → AllRows rows → AreNamesBelow (length rows) names → Leaves IsValueBelow rows (value_of code rec env names e rows)
  leaves_value env names e rows all h = leaves_value_by (scalar_of code e.0 (scalars_of names)) (rec e.0 env names) rows all (keeps e.0 env names rows all h)

  leaves_names : (env : Env) (bs : List (NameId × ExprId)) (names : Names) (rows : List Row) → AllRows rows → AreNamesBelow (length rows) names → Leaves AreNamesBelow rows (names_after code rec env bs names rows)
  leaves_names env [] names rows all h = leaves_given AreNamesBelow rows names all h
  leaves_names env (b ∷ bs) names rows all h =
      leaves_then IsValueBelow AreNamesBelow (value_of code rec env names b.1) (λ v. names_after code rec env bs (names ++ (b.0, v) ∷ [])) rows (leaves_value env names b.1 rows all h) (λ v later al le hv.
      leaves_names env bs (names ++ (b.0, v) ∷ []) later al (All-push (λ (p : NameId × Value RowSound). IsValueBelow (length later) p.1) names (b.0, v) (names_later (length rows) (length later) names le h) hv))

  same_for_all : (P : Type 0) (es : List ExprId) → P → AllByRecursion (λ e. P) es
  same_for_all P [] p = tt
  same_for_all P (e ∷ es) p = (p, same_for_all P es p)

  leaves_values : (env : Env) (names : Names) (es : List ExprId) (rows : List Row) → AllRows rows → AreNamesBelow (length rows) names → Leaves (λ n vs. AllByRecursion (IsValueBelow n) vs) rows (each (value_of code rec env names) es rows)
  leaves_values env names es rows all h =
      leaves_each (λ n e. AreNamesBelow n names) IsValueBelow (value_of code rec env names) (λ n k e le. names_later n k names le) (λ n k v le. value_later n k v le) (λ e now al hn. leaves_value env names e now al hn) es rows all
      (same_for_all (AreNamesBelow (length rows) names) es h)

  -- ---- parts

  sounds_below : (n : ℕ) (o : Option (Value RowSound)) → ((other : Value RowSound) → IsValueBelow n other → IsValueBelow n (unwrap_or o other)) → AllByRecursion (IsBelow n) (sounds_of o)
  sounds_below n None h = tt
  sounds_below n (Some (Number v)) h = tt
  sounds_below n (Some (Sound s)) h = (h (Number (pos 0)) tt, tt)

  all_append : (n : ℕ) (xs ys : List RowSound) → AllByRecursion (IsBelow n) xs → AllByRecursion (IsBelow n) ys → AllByRecursion (IsBelow n) (xs ++ ys)
  all_append n [] ys h k = k
  all_append n (x ∷ xs) ys h k = (h.0, all_append n xs ys h.1 k)

  captured_below : (n : ℕ) (names : Names) (xs : List NameId) → AreNamesBelow n names → AllByRecursion (IsBelow n) (flat_map (λ x. sounds_of (last_of (same_name x) names)) xs)
  captured_below n names [] h = tt
  captured_below n names (x ∷ xs) h =
      all_append n (sounds_of (last_of (same_name x) names)) _ (sounds_below n (last_of (same_name x) names) (λ other o. last_of-has (IsValueBelow n) (same_name x) names other h o)) (captured_below n names xs h)

  pub is_part : (n : ℕ) (names : Names) (e : ExprId) → AreNamesBelow n names → IsPart n (part_of code rec names e)
  is_part n names e h = record {
    sound = λ from rows le all. keeps e.0 from names rows all (names_later n (length rows) names le h);
    keeps_earlier = captured_below n names (get_or code.free e.0 []) h;
  }

  are_parts : (n : ℕ) (names : Names) (es : List ExprId) → AreNamesBelow n names → AllByRecursion (IsPart n) (map (part_of code rec names) es)
  are_parts n names [] h = tt
  are_parts n names (e ∷ es) h = (is_part n names e h, are_parts n names es h)

  are_repeats : (n : ℕ) (names : Names) (i : NameId) (e : ExprId) (ks : List ℕ) → AreNamesBelow n names → AllByRecursion (IsPart n) (map (λ k. part_of code rec (names ++ (i, Number (pos (k * 1000000))) ∷ []) e) ks)
  are_repeats n names i e [] h = tt
  are_repeats n names i e (k ∷ ks) h =
      (is_part n (names ++ (i, Number (pos (k * 1000000))) ∷ []) e (All-push (λ (p : NameId × Value RowSound). IsValueBelow n p.1) names (i, Number (pos (k * 1000000))) h tt), are_repeats n names i e ks h)

  -- ---- expressions

  leaves_pair : (op : Op) (a b : ExprId) → Keeps (λ env names. and_then (value_of code rec env names a) (λ v. and_then (value_of code rec env names b) (λ w. paired op env.sound_rate v w)))
  leaves_pair op a b env names rows all h =
      leaves_then IsValueBelow IsBelow (value_of code rec env names a) (λ v. and_then (value_of code rec env names b) (λ w. paired op env.sound_rate v w)) rows (leaves_value env names a rows all h) (λ v later al le hv.
      leaves_then IsValueBelow IsBelow (value_of code rec env names b) (λ w. paired op env.sound_rate v w) later (leaves_value env names b later al (names_later (length rows) (length later) names le h)) (λ w last al_last le_last hw.
      leaves_paired op env.sound_rate v w last al_last (value_later (length later) (length last) v le_last hv) hw))

  leaves_mix : (rate : Rate) (parts : Step (List Input)) (rows : List Row) → Leaves AreComing rows (parts rows) → Leaves IsBelow rows (and_then parts (mixed rate) rows)
  leaves_mix rate parts rows l = leaves_then AreComing IsBelow parts (mixed rate) rows l (λ is later al le hi. leaves_mixed rate is later al hi)

  leaves_single : (e : ExprId) (env : Env) (names : Names) (next : RowSound → Step RowSound) (rows : List Row) → AllRows rows → AreNamesBelow (length rows) names
      → ((s : RowSound) (later : List Row) → AllRows later → IsBelow (length later) s → Leaves IsBelow later (next s later)) → Leaves IsBelow rows (and_then (rec e.0 env names) next rows)
  leaves_single e env names next rows all h further = leaves_then IsBelow IsBelow (rec e.0 env names) next rows (keeps e.0 env names rows all h) (λ s later al le hs. further s later al hs)

  below_sound_in : (n : ℕ) (rate : Rate) (v : Value RowSound) → IsValueBelow n v → IsBelow n (sound_in rate v)
  below_sound_in n rate (Number v) h = silent_below n rate
  below_sound_in n rate (Sound s) h = h

  zip_below : (n : ℕ) (ps : List NameId) (vs : List (Value RowSound)) → AllByRecursion (IsValueBelow n) vs → AreNamesBelow n (zip ps vs)
  zip_below n [] vs h = All-nil (λ b. IsValueBelow n b.1)
  zip_below n (p ∷ ps) [] h = All-nil (λ b. IsValueBelow n b.1)
  zip_below n (p ∷ ps) (v ∷ vs) h = All-cons (λ (b : NameId × Value RowSound). IsValueBelow n b.1) (p, v) (zip ps vs) h.0 (zip_below n ps vs h.1)

  pub made_keeps : (at : Node) → Keeps (made_at code at rec)
  made_keeps (node.Local x) env names rows all h =
      leaves_given IsBelow rows (sound_in env.sound_rate (unwrap_or (last_of (same_name x) names) (Sound (silent env.sound_rate)))) all (below_sound_in (length rows) env.sound_rate (unwrap_or (last_of (same_name x) names) (Sound (silent env.sound_rate))) (last_of-has (IsValueBelow (length rows)) (same_name x) names (Sound (silent env.sound_rate)) h (silent_below (length rows) env.sound_rate)))
  made_keeps (node.Call f es) env names rows all h =
      leaves_then (λ n vs. AllByRecursion (IsValueBelow n) vs) IsBelow (each (value_of code rec env names) es) (λ vs. rec (function_at code f.0).body.0 env (zip (function_at code f.0).params vs)) rows (leaves_values env names es rows all h) (λ vs later al le hv.
      keeps (function_at code f.0).body.0 env (zip (function_at code f.0).params vs) later al (zip_below (length later) (function_at code f.0).params vs hv))
  made_keeps (node.Block bs e) env names rows all h =
      leaves_then AreNamesBelow IsBelow (names_after code rec env bs names) (λ inner. rec e.0 env inner) rows (leaves_names env bs names rows all h) (λ inner later al le hi. keeps e.0 env inner later al hi)
  made_keeps (node.If c a b) env names rows all h = leaves_choice IsBelow (test_of code c (scalars_of names)) (rec a.0 env names) (rec b.0 env names) rows (keeps a.0 env names rows all h) (keeps b.0 env names rows all h)
  made_keeps (node.Pair op a b) env names rows all h = leaves_pair op a b env names rows all h
  made_keeps (node.Neg a) env names rows all h =
      leaves_then IsValueBelow IsBelow (value_of code rec env names a) (negated env.sound_rate) rows (leaves_value env names a rows all h) (λ v later al le hv. leaves_negated env.sound_rate v later al hv)
  made_keeps (node.Leaf w es) env names rows all h = leaves_leaf_by (kind_of_generator w) (leaf_time w env (map (number code names) es)) (leaf_sound w env (map (number code names) es)) rows all
  made_keeps (node.Effect w e es) env names rows all h = leaves_single e env names (row_over (kind_of_effect w) (effect_sound w (map (number code names) es))) rows all h (λ s later al hs. leaves_over (kind_of_effect w) (effect_sound w (map (number code names) es)) s later al hs)
  made_keeps (node.Cue e) env names rows all h = leaves_single e env names (cued env) rows all h (λ s later al hs. leaves_cued env s later al hs)
  made_keeps (node.Mix o es) env names rows all h = leaves_mix env.sound_rate (parts_in o env (map (part_of code rec names) es)) rows (leaves_parts o env (map (part_of code rec names) es) rows all (are_parts (length rows) names es h))
  made_keeps (node.Repeat o i n e) env names rows all h = leaves_mix env.sound_rate (parts_in o env (repeated_parts code rec names i n e)) rows (leaves_parts o env (repeated_parts code rec names i n e) rows all (are_repeats (length rows) names i e (range_with_len 0 n) h))
  made_keeps (node.Change c e) env names rows all h = keeps e.0 (changed_env c (number code names) env) names rows all h
  made_keeps _ env names rows all h = leaves_given IsBelow rows (silent env.sound_rate) all (silent_below (length rows) env.sound_rate)

pub all_made : (code : Code) (e : ℕ) → Keeps (made code e)
unfolding made
all_made code e = by_smaller-all Keeps (λ env names. given (silent env.sound_rate)) (λ e rec. made_at code (node_at code e) rec)
    (λ env names rows all h. leaves_given IsBelow rows (silent env.sound_rate) all (silent_below (length rows) env.sound_rate))
    (λ n f keeps. made_keeps code f keeps (node_at code n)) e

-- ---- what is played

abbrev pub AreBelow : ℕ → List RowSound → Type 0
AreBelow n ss = AllByRecursion (IsBelow n) ss

abbrev pub PlayKeeps : (Env → Names → Step (List RowSound)) → Type 0
PlayKeeps f = (env : Env) (names : Names) (rows : List Row) → AllRows rows → AreNamesBelow (length rows) names → Leaves AreBelow rows (f env names rows)

pub leaves_one : (code : Code) (e : ℕ) → PlayKeeps (λ env names. and_then (made code e env names) (λ s. given (s ∷ [])))
leaves_one code e env names rows all h = leaves_then IsBelow AreBelow (made code e env names) (λ s. given (s ∷ [])) rows (all_made code e env names rows all h) (λ s later al le hs. leaves_given AreBelow later (s ∷ []) al (hs, tt))

module _ (code : Code) (rec : ℕ → Env → Names → Step (List RowSound)) (keeps : (e : ℕ) → PlayKeeps (rec e)) where
  played_keeps : (e : ℕ) (at : Node) → PlayKeeps (played_at code e at rec)
  played_keeps e (node.Vector es) env names rows all h =
      leaves_each (λ n e. AreNamesBelow n names) IsBelow (operand code env names) (λ n k e le. names_later n k names le) (λ n k s le. below_later n k s le) (λ e now al hn. all_made code e.0 env names now al hn) es rows all
      (same_for_all code (made code) (all_made code) (AreNamesBelow (length rows) names) es h)
  played_keeps e (node.Call f es) env names rows all h =
      leaves_then (λ n vs. AllByRecursion (IsValueBelow n) vs) AreBelow (each (value_of code (made code) env names) es) (λ vs. rec (function_at code f.0).body.0 env (zip (function_at code f.0).params vs)) rows (leaves_values code (made code) (all_made code) env names es rows all h) (λ vs later al le hv.
      keeps (function_at code f.0).body.0 env (zip (function_at code f.0).params vs) later al (zip_below code (made code) (all_made code) (length later) (function_at code f.0).params vs hv))
  played_keeps e (node.Block bs value) env names rows all h =
      leaves_then AreNamesBelow AreBelow (names_after code (made code) env bs names) (λ inner. rec value.0 env inner) rows (leaves_names code (made code) (all_made code) env bs names rows all h) (λ inner later al le hi. keeps value.0 env inner later al hi)
  played_keeps e (node.If c a b) env names rows all h = leaves_choice AreBelow (test_of code c (scalars_of names)) (rec a.0 env names) (rec b.0 env names) rows (keeps a.0 env names rows all h) (keeps b.0 env names rows all h)
  played_keeps e _ env names rows all h = leaves_one code e env names rows all h

pub all_played : (code : Code) (e : ℕ) → PlayKeeps (played code e)
unfolding played
all_played code e = by_smaller-all PlayKeeps (λ env names. given []) (λ e rec. played_at code e (node_at code e) rec)
    (λ env names rows all h. leaves_given AreBelow rows [] all tt)
    (λ n f keeps. played_keeps code f keeps n (node_at code n)) e

pub leaves_channel : (s : RowSound) (rows : List Row) → AllRows rows → IsBelow (length rows) s → Leaves IsBelow rows (channel_row s rows)
leaves_channel s rows all h = leaves_unit _ _ (input s ∷ []) _ rows all (input_of (length rows) _ s h, tt)

pub no_rows : AllRows []
no_rows n inside = absurd (omega (arith, inside))

-- each row of a plan names earlier rows, and its parts come in time; and each channel is a row or has no sample
pub plan_ordered : (code : Code) (rate : Rate) → AllRows (plan code rate).rows × AreBelow (length (plan code rate).rows) (plan code rate).channels
unfolding plan
plan_ordered code rate =
    let l = leaves_then AreBelow AreBelow (played code code.play.0 (opening rate) []) (λ ss. and_then (each (brought rate) ss) (λ ss. each channel_row ss)) [] (all_played code code.play.0 (opening rate) [] [] no_rows (All-nil (λ (b : NameId × Value RowSound). IsValueBelow 0 b.1))) (λ ss later al le hs.
    leaves_then AreBelow AreBelow (each (brought rate) ss) (λ ss. each channel_row ss) later (leaves_each IsBelow IsBelow (brought rate) (λ n k s le. below_later n k s le) (λ n k s le. below_later n k s le) (λ s now al hp. leaves_brought rate s now al hp) ss later al hs) (λ ts last al_last le_last ht.
    leaves_each IsBelow IsBelow channel_row (λ n k s le. below_later n k s le) (λ n k s le. below_later n k s le) (λ s now al hp. leaves_channel s now al hp) ts last al_last ht)) in
    (l.all, l.gives)
