-- The whole sounds of rows, as steps of evaluation add them: those of units, of values and of names.
use Rattle.std.proofs.Common.{◌≡◌, ℕ, zero, suc, ◌+◌, ◌<◌, ◌≤◌, Bool, true, false, cond, nat_eq, List, [], ◌∷◌, ◌++◌, map, take, length, Option, None, Some, refl, sym, ap, subst, ◌∙◌, arith, ℤ, pos}
use Rattle.std.specs.List.{AllByRecursion}
use Rattle.std.proofs.lemmas.Bool.{eqb-true}
use Rattle.std.proofs.lemmas.List.{take_all, take-take}
use Rattle.std.proofs.Math.Seq.{get_or-append_seam}
use Rattle.std.proofs.Math.ListN.{length-append}
use Rattle.ny_num.specs.declared.rate.Rate.{Rate}
use Rattle.ny_num.specs.declared.timing.Timing.{Timing}
use Rattle.ny_num.specs.Sound as sounds
use Rattle.ny_num.specs.Sound.{silence, timing_of, placed, placed_timing, cued_timing}
use Rattle.ny_num.specs.Resampling.{is_same_rate, other_rate_timing, resampled, resampled_timing}
use Rattle.ny_num.proofs.SoundTimings.{timing_of-silence, timing_of-resampled, timing_of-each_value, timing_of-combined, timing_of-placed, timing_of-cued}
use Rattle.ny_check.specs.Recursion.{below}
use Rattle.ny_check.proofs.Smaller.{below-at, by_smaller-is}
use Rattle.ny_num.specs.Numbers.{sat_sample, sample_sub}
use Rattle.ny_num.specs.Leaves.{louder_value}
use Rattle.ny_num.specs.Pointwise.{each_value, combined}
use Rattle.ny_kernels.specs.declared.operation.Op.{Op}
use Rattle.ny_kernels.specs.Operations.{operation}
use Rattle.ny_warp.specs.declared.env.Env.{Env}
use Rattle.ny_check.specs.Families.{pair_timing}
use Rattle.ny_check.specs.declared.value.Value.{Value}
use Rattle.ny_check.specs.declared.value.Value.TheVariants.{Number, Sound}
use Rattle.ny_check.specs.Behaviours.{is_one, cue_shift, cue_timing, cue_sound}
use Rattle.ny_check.specs.Meaning.{Bound, value_by, combined_values, negated_value}
use Rattle.ny_check.specs.declared.value.Scalar.{Scalar}
use Rattle.ny_check.specs.declared.value.Scalar.TheVariants as scalar
use Rattle.ny_check.specs.Values.{scalars_of, scalar_in}
use Rattle.ny_resolve.specs.declared.term.NameId.{NameId}
use Rattle.ny_scope.proofs.Mapped.{with_value}
use Rattle.std.proofs.lemmas.List.Elements.{All-nil, All-cons}
use Rattle.ny_plan.specs.Plan.{Names}
use Rattle.ny_heap.specs.Kinds.{UnitKind, Resample, Sub, Mul, kind_of_op}
use Rattle.ny_plan.specs.Rows.{RowSound, Input, Row, After, Step, row_at, no_row, first_samples, beginning, whole_row, whole_at, given, each, shown, silent, input, unit}
use Rattle.ny_plan.specs.Units.{first, second, row_over, brought, paired, negated, cued}
use Rattle.ny_plan.specs.Order.{IsBelow, IsValueBelow, AreNamesBelow, IsInputOf, AllRows, Leaves}
use Rattle.ny_plan.proofs.OrderLemmas.{leaves_given, leaves_unit, input_of, shown_below, silent_below, leaves_value_by, AreBelow}
use Rattle.ny_plan.proofs.SoundLemmas.{resampled_same, resampled_other, cued_samples, cued_short, placed_samples, placed_short}

module _ (r : Rate) where
  -- ---- whole rows

  abbrev pub W : List Row → ℕ → sounds.Sound
  W rows = whole_at r rows

  pub beginning-same : (f g : ℕ → sounds.Sound) (n : ℕ) (s : RowSound) → IsBelow n s → ((y : ℕ) → y < n → f y ≡ g y) → beginning f s ≡ beginning g s
  beginning-same f g n s low same = by_row s.row refl
    where
      by_row : (o : Option ℕ) → s.row ≡ o → beginning f s ≡ beginning g s
      by_row None e = ap (λ xs. record { rate = s.timing.rate; start = s.timing.start; stop = s.timing.stop; samples = xs }) (ap (λ o. first_samples f o s.timing.len) e ∙ sym (ap (λ o. first_samples g o s.timing.len) e))
      by_row (Some y) e = ap (λ xs. record { rate = s.timing.rate; start = s.timing.start; stop = s.timing.stop; samples = xs }) (ap (λ o. first_samples f o s.timing.len) e ∙ ap (λ (m : sounds.Sound). take s.timing.len m.samples) (same y (low y e)) ∙ sym (ap (λ o. first_samples g o s.timing.len) e))

  pub inputs-same : (f g : ℕ → sounds.Sound) (n : ℕ) (x : Row) (is : List Input) → AllByRecursion (IsInputOf n x) is → ((y : ℕ) → y < n → f y ≡ g y) → map (λ (i : Input). beginning f i.sound) is ≡ map (λ (i : Input). beginning g i.sound) is
  inputs-same f g n x [] all same = refl
  inputs-same f g n x (i ∷ is) all same = λ j. beginning-same f g n i.sound all.0.earlier same j ∷ inputs-same f g n x is all.1 same j

  pub whole-same : (f g : ℕ → sounds.Sound) (n : ℕ) (x : Row) → AllByRecursion (IsInputOf n x) x.inputs → ((y : ℕ) → y < n → f y ≡ g y) → whole_row x f ≡ whole_row x g
  whole-same f g n x all same = ap (λ ss. record { rate = x.timing.rate; start = x.timing.start; stop = x.timing.stop; samples = x.samples ss }) (inputs-same f g n x x.inputs all same)

  pub whole-is : (rows : List Row) → AllRows rows → (x : ℕ) → x < length rows → whole_at r rows x ≡ whole_row (row_at rows x) (whole_at r rows)
  unfolding whole_at
  whole-is rows all x inside =
      by_smaller-is (silence r) (λ x whole. whole_row (row_at rows x) whole) x
      ∙ whole-same (below x (silence r) (whole_at r rows)) (whole_at r rows) x (row_at rows x) (all x inside) (λ y low. below-at x y (silence r) (whole_at r rows) low)

  -- rows that were there stay what they are
  pub whole-kept : (rows later : List Row) → AllRows rows → AllRows later → length rows ≤ length later → ((k : ℕ) → k < length rows → row_at later k ≡ row_at rows k) → (n x : ℕ) → x < n → x < length rows → whole_at r later x ≡ whole_at r rows x
  whole-kept rows later all all_later more kept zero x low inside = absurd (omega (arith, low))
  whole-kept rows later all all_later more kept (suc n) x low inside =
      whole-is later all_later x (omega (arith, inside, more))
      ∙ ap (λ (w : Row). whole_row w (whole_at r later)) (kept x inside)
      ∙ whole-same (whole_at r later) (whole_at r rows) x (row_at rows x) (all x inside) (λ y before. whole-kept rows later all all_later more kept n y (omega (arith, low, before)) (omega (arith, inside, before)))
      ∙ sym (whole-is rows all x inside)

  -- ---- sounds of a table

  abbrev pub heard : List Row → RowSound → sounds.Sound
  heard rows s = beginning (whole_at r rows) s

  -- a sound of these rows, which shows no more than there is
  abbrev pub IsShown : List Row → RowSound → Type 0
  IsShown rows s = IsBelow (length rows) s × (timing_of (heard rows s) ≡ s.timing)

  pub heard-kept : {A : Type 0} (P : ℕ → A → Type 0) (rows : List Row) (a : After A) (s : RowSound) → AllRows rows → Leaves P rows a → IsBelow (length rows) s → heard a.rows s ≡ heard rows s
  heard-kept P rows a s all l low = beginning-same (whole_at r a.rows) (whole_at r rows) (length rows) s low (λ y inside. whole-kept rows a.rows all l.all l.longer l.kept (suc y) y (omega arith) inside)

  pub shown-kept : {A : Type 0} (P : ℕ → A → Type 0) (rows : List Row) (a : After A) (s : RowSound) → AllRows rows → Leaves P rows a → IsShown rows s → IsShown a.rows s
  shown-kept P rows a s all l h = ((λ y e. omega (arith, h.0 y e, l.longer)), ap timing_of (heard-kept P rows a s all l h.0) ∙ h.1)

  -- what a step gives is this whole sound
  pub record Hears (rows : List Row) (a : After RowSound) (m : sounds.Sound) : Type 0 where
    pub leaves : Leaves IsBelow rows a
    pub is : heard a.rows a.gives ≡ m
    pub when : timing_of m ≡ a.gives.timing

  pub hears_shown : (rows : List Row) (a : After RowSound) (m : sounds.Sound) → Hears rows a m → IsShown a.rows a.gives
  hears_shown rows a m h = (h.leaves.gives, ap timing_of h.is ∙ h.when)

  pub hears_as : (rows : List Row) (a : After RowSound) (m n : sounds.Sound) → m ≡ n → Hears rows a m → Hears rows a n
  hears_as rows a m n e h = subst (Hears rows a) e h

  pub hears_given : (rows : List Row) (s : RowSound) → AllRows rows → IsShown rows s → Hears rows (given s rows) (heard rows s)
  hears_given rows s all h = record { leaves = leaves_given IsBelow rows s all h.0; is = refl; when = h.1 }

  pub join : {A C : Type 0} (P : ℕ → A → Type 0) (Q : ℕ → C → Type 0) (rows : List Row) (a : After A) (c : After C) → Leaves P rows a → Leaves Q a.rows c → Leaves Q rows c
  join P Q rows a c l k = record {
    all = k.all;
    longer = omega (arith, l.longer, k.longer);
    kept = λ n inside. k.kept n (omega (arith, inside, l.longer)) ∙ l.kept n inside;
    gives = k.gives;
  }

  pub hears_then : {A : Type 0} (P : ℕ → A → Type 0) (rows : List Row) (a : After A) (c : After RowSound) (m : sounds.Sound) → Leaves P rows a → Hears a.rows c m → Hears rows c m
  hears_then P rows a c m l h = record { leaves = join P IsBelow rows a c l h.leaves; is = h.is; when = h.when }

  pub sound_is : (m : sounds.Sound) (t : Timing) (xs : List ℤ) → timing_of m ≡ t → xs ≡ m.samples → record { rate = t.rate; start = t.start; stop = t.stop; samples = xs } ≡ m
  unfolding timing_of
  sound_is m t xs e same = λ i. record { rate = Timing.rate (sym e i); start = Timing.start (sym e i); stop = Timing.stop (sym e i); samples = same i }

  pub length_is : (m : sounds.Sound) (t : Timing) → timing_of m ≡ t → length m.samples ≡ t.len
  unfolding timing_of
  length_is m t e = ap (λ (w : Timing). w.len) e

  pub no_samples : {A : Type 0} (xs : List A) → length xs ≡ 0 → [] ≡ xs
  no_samples [] e = refl
  no_samples (x ∷ xs) e = absurd (omega (arith, e))

  pub hears_none : (t : Timing) (m : sounds.Sound) (rows : List Row) → timing_of m ≡ t → t.len ≡ 0 → heard rows (shown None t) ≡ m
  hears_none t m rows when none = sound_is m t (first_samples (whole_at r rows) (cond (nat_eq t.len 0) None None) t.len) when (by_test (nat_eq t.len 0) ∙ no_samples m.samples (length_is m t when ∙ none))
    where
      by_test : (b : Bool) → first_samples (whole_at r rows) (cond b None None) t.len ≡ []
      by_test true = refl
      by_test false = refl

  pub hears_unit : (kind : UnitKind) (t : Timing) (inputs : List Input) (samples : List sounds.Sound → List ℤ) (rows : List Row) (m : sounds.Sound) → AllRows rows
      → AllByRecursion (IsInputOf (length rows) (record { kind = kind; timing = t; inputs = inputs; samples = samples })) inputs
      → samples (map (λ (i : Input). heard rows i.sound) inputs) ≡ m.samples → timing_of m ≡ t → Hears rows (unit kind t inputs samples rows) m
  hears_unit kind t inputs samples rows m all ok same when = record {
    leaves = leaves_unit kind t inputs samples rows all ok;
    is = by_test (nat_eq t.len 0) refl (leaves_unit kind t inputs samples rows all ok);
    when = when;
  }
    where
      by_test : (b : Bool) → nat_eq t.len 0 ≡ b
          → Leaves IsBelow rows (record { gives = record { row = cond b None (Some (length rows)); timing = t }; rows = cond b rows (rows ++ (record { kind = kind; timing = t; inputs = inputs; samples = samples } ∷ [])) })
          → heard (cond b rows (rows ++ (record { kind = kind; timing = t; inputs = inputs; samples = samples } ∷ []))) (record { row = cond b None (Some (length rows)); timing = t }) ≡ m
      by_test true e l = sound_is m t [] when (no_samples m.samples (length_is m t when ∙ eqb-true t.len 0 e))
      by_test false e l =
          let x : Row = record { kind = kind; timing = t; inputs = inputs; samples = samples } in
          let all_now = l.all in
          let size : length (rows ++ x ∷ []) ≡ length rows + 1 = length-append rows (x ∷ []) in
          let whole : whole_at r (rows ++ x ∷ []) (length rows) ≡ whole_row x (whole_at r rows) =
          whole-is (rows ++ x ∷ []) all_now (length rows) (omega (arith, size))
          ∙ ap (λ (w : Row). whole_row w (whole_at r (rows ++ x ∷ []))) (get_or-append_seam rows x [] no_row)
          ∙ whole-same (whole_at r (rows ++ x ∷ [])) (whole_at r rows) (length rows) x ok (λ y inside. whole-kept rows (rows ++ x ∷ []) all all_now l.longer l.kept (suc y) y (omega arith) inside) in
          sound_is m t (take t.len (sounds.Sound.samples (whole_at r (rows ++ x ∷ []) (length rows)))) when
          (ap (λ (w : sounds.Sound). take t.len w.samples) whole ∙ ap (take t.len) same ∙ take_all t.len m.samples (omega (arith, length_is m t when)))

  -- ---- units over sounds

  pub hears_over : (kind : UnitKind) (f : sounds.Sound → sounds.Sound) (s : RowSound) (rows : List Row) → AllRows rows → IsShown rows s → timing_of (f (heard rows s)) ≡ timing_of (heard rows s) → Hears rows (row_over kind f s rows) (f (heard rows s))
  hears_over kind f s rows all h e = hears_unit kind s.timing (input s ∷ []) (λ ss. (f (first ss)).samples) rows (f (heard rows s)) all (input_of (length rows) _ s h.0, tt) refl (e ∙ h.1)

  -- a unit over what a step gives
  pub hears_single : (a : After RowSound) (rows : List Row) (m : sounds.Sound) (kind : UnitKind) (f : sounds.Sound → sounds.Sound) → ((n : sounds.Sound) → timing_of (f n) ≡ timing_of n) → Hears rows a m → Hears rows (row_over kind f a.gives a.rows) (f m)
  hears_single a rows m kind f e h =
      hears_then IsBelow rows a (row_over kind f a.gives a.rows) (f m) h.leaves
      (hears_as a.rows (row_over kind f a.gives a.rows) (f (heard a.rows a.gives)) (f m) (ap f h.is) (hears_over kind f a.gives a.rows h.leaves.all (hears_shown rows a m h) (e (heard a.rows a.gives))))

  pub hears_brought : (rate : Rate) (s : RowSound) (rows : List Row) → AllRows rows → IsShown rows s → Hears rows (brought rate s rows) (resampled rate (heard rows s))
  hears_brought rate s rows all h = by_test (is_same_rate s.timing.rate rate) refl
    where
      by_test : (b : Bool) → is_same_rate s.timing.rate rate ≡ b → Hears rows (cond b (given s) (unit Resample (other_rate_timing rate s.timing) (input s ∷ []) (λ ss. (resampled rate (first ss)).samples)) rows) (resampled rate (heard rows s))
      by_test true e = hears_as rows (given s rows) (heard rows s) (resampled rate (heard rows s)) (sym (resampled_same rate (heard rows s) e)) (hears_given rows s all h)
      by_test false e = hears_unit Resample (other_rate_timing rate s.timing) (input s ∷ []) (λ ss. (resampled rate (first ss)).samples) rows (resampled rate (heard rows s)) all (input_of (length rows) _ s h.0, tt) refl
          (timing_of-resampled rate (heard rows s) ∙ ap (resampled_timing rate) h.1 ∙ resampled_other rate s.timing e)

  -- a sound moved and cut
  pub moved_is : (rows : List Row) (s : RowSound) (t : Timing) (m : sounds.Sound) → timing_of m ≡ t → m.samples ≡ take t.len (sounds.Sound.samples (heard rows s)) → t.len ≤ s.timing.len → heard rows (shown s.row t) ≡ m
  moved_is rows s t m when same short = sound_is m t (first_samples (whole_at r rows) (cond (nat_eq t.len 0) None s.row) t.len) when (by_row s.row (nat_eq t.len 0) refl ∙ sym same)
    where
      by_row : (o : Option ℕ) (b : Bool) → nat_eq t.len 0 ≡ b → first_samples (whole_at r rows) (cond b None o) t.len ≡ take t.len (first_samples (whole_at r rows) o s.timing.len)
      by_row None true e = sym (take_all t.len [] (omega arith))
      by_row None false e = sym (take_all t.len [] (omega arith))
      by_row (Some y) true e = ap (λ n. take n (take s.timing.len (sounds.Sound.samples (whole_at r rows y)))) (sym (eqb-true t.len 0 e))
      by_row (Some y) false e = sym (take-take t.len s.timing.len (sounds.Sound.samples (whole_at r rows y)) short)

  pub hears_moved : (rows : List Row) (s : RowSound) (t : Timing) (m : sounds.Sound) → AllRows rows → IsBelow (length rows) s → timing_of m ≡ t → m.samples ≡ take t.len (sounds.Sound.samples (heard rows s)) → t.len ≤ s.timing.len → Hears rows (given (shown s.row t) rows) m
  hears_moved rows s t m all low when same short = record {
    leaves = leaves_given IsBelow rows (shown s.row t) all (shown_below (length rows) s.row t low);
    is = moved_is rows s t m when same short;
    when = when;
  }

  pub hears_placed : (at : ℕ) (s : RowSound) (rows : List Row) → AllRows rows → IsShown rows s → Hears rows (given (shown s.row (placed_timing at s.timing)) rows) (placed at (heard rows s))
  hears_placed at s rows all h =
      let when : timing_of (placed at (heard rows s)) ≡ placed_timing at s.timing = timing_of-placed at (heard rows s) ∙ ap (placed_timing at) h.1 in
      hears_moved rows s (placed_timing at s.timing) (placed at (heard rows s)) all h.0 when
      (placed_samples at (heard rows s) ∙ ap (λ (t : Timing). take (Timing.len (placed_timing at t)) (sounds.Sound.samples (heard rows s))) h.1) (placed_short at s.timing)

  pub hears_cued : (env : Env) (s : RowSound) (rows : List Row) → AllRows rows → IsShown rows s → Hears rows (cued env s rows) (cue_sound env (heard rows s))
  unfolding cue_sound cue_timing
  hears_cued env s rows all h = by_test (is_one env.loud)
    where
      k : ℕ
      k = cue_shift env s.timing.rate

      moved : Hears rows (given (shown s.row (cued_timing (cue_shift env s.timing.rate) s.timing)) rows) (sounds.cued (cue_shift env s.timing.rate) (heard rows s))
      moved = hears_moved rows s (cued_timing (cue_shift env s.timing.rate) s.timing) (sounds.cued (cue_shift env s.timing.rate) (heard rows s)) all h.0
          (timing_of-cued (cue_shift env s.timing.rate) (heard rows s) ∙ ap (cued_timing (cue_shift env s.timing.rate)) h.1)
          (cued_samples (cue_shift env s.timing.rate) (heard rows s) ∙ ap (λ (t : Timing). take (Timing.len (cued_timing (cue_shift env s.timing.rate) t)) (sounds.Sound.samples (heard rows s))) h.1) (cued_short (cue_shift env s.timing.rate) s.timing)

      by_test : (b : Bool) → Hears rows (cond b (given (shown s.row (cued_timing (cue_shift env s.timing.rate) s.timing))) (row_over Mul (each_value (louder_value env.loud)) (shown s.row (cued_timing (cue_shift env s.timing.rate) s.timing))) rows)
          (cond b (sounds.cued (cue_shift env s.timing.rate) (heard rows s)) (each_value (louder_value env.loud) (sounds.cued (cue_shift env s.timing.rate) (heard rows s))))
      by_test true = moved
      by_test false =
          hears_as rows (row_over Mul (each_value (louder_value env.loud)) (shown s.row (cued_timing (cue_shift env s.timing.rate) s.timing)) rows) _ _ (ap (each_value (louder_value env.loud)) moved.is)
          (hears_over Mul (each_value (louder_value env.loud)) (shown s.row (cued_timing (cue_shift env s.timing.rate) s.timing)) rows all (hears_shown rows (given (shown s.row (cued_timing (cue_shift env s.timing.rate) s.timing)) rows) _ moved) (timing_of-each_value (louder_value env.loud) (heard rows (shown s.row (cued_timing (cue_shift env s.timing.rate) s.timing)))))

  -- several sounds that a step gives
  pub record Plays (rows : List Row) (a : After (List RowSound)) (ms : List sounds.Sound) : Type 0 where
    pub leaves : Leaves AreBelow rows a
    pub is : map (heard a.rows) a.gives ≡ ms
    pub shows : AllByRecursion (IsShown a.rows) a.gives

  pub plays_cons : (rows : List Row) (a : After RowSound) (m : sounds.Sound) (bs : After (List RowSound)) (ms : List sounds.Sound) → Hears rows a m → Plays a.rows bs ms → Plays rows (record { gives = a.gives ∷ bs.gives; rows = bs.rows }) (m ∷ ms)
  plays_cons rows a m bs ms h hs = record {
    leaves = record { all = hs.leaves.all; longer = omega (arith, h.leaves.longer, hs.leaves.longer); kept = λ n inside. hs.leaves.kept n (omega (arith, inside, h.leaves.longer)) ∙ h.leaves.kept n inside; gives = ((λ y e. omega (arith, h.leaves.gives y e, hs.leaves.longer)), hs.leaves.gives) };
    is = λ i. (heard-kept AreBelow a.rows bs a.gives h.leaves.all hs.leaves h.leaves.gives ∙ h.is) i ∷ hs.is i;
    shows = (shown-kept AreBelow a.rows bs a.gives h.leaves.all hs.leaves (hears_shown rows a m h), hs.shows);
  }

  pub shown_all : {A : Type 0} (P : ℕ → A → Type 0) (rows : List Row) (a : After A) (ss : List RowSound) → AllRows rows → Leaves P rows a → AllByRecursion (IsShown rows) ss → AllByRecursion (IsShown a.rows) ss × (map (heard a.rows) ss ≡ map (heard rows) ss)
  shown_all P rows a [] all l h = (tt, refl)
  shown_all P rows a (s ∷ ss) all l h =
      let rest = shown_all P rows a ss all l h.1 in
      ((shown-kept P rows a s all l h.0, rest.0), λ i. heard-kept P rows a s all l h.0.0 i ∷ rest.1 i)

  -- a step for each of some sounds
  pub plays_each : (step : RowSound → Step RowSound) (f : sounds.Sound → sounds.Sound) → ((s : RowSound) (rows : List Row) → AllRows rows → IsShown rows s → Hears rows (step s rows) (f (heard rows s)))
      → (ss : List RowSound) (rows : List Row) → AllRows rows → AllByRecursion (IsShown rows) ss → Plays rows (each step ss rows) (map f (map (heard rows) ss))
  plays_each step f one [] rows all h = record { leaves = leaves_given AreBelow rows [] all tt; is = refl; shows = tt }
  plays_each step f one (s ∷ ss) rows all h =
      let first = one s rows all h.0 in
      let b = step s rows in
      let now = shown_all IsBelow rows b ss all first.leaves h.1 in
      plays_cons rows b (f (heard rows s)) (each step ss b.rows) (map f (map (heard rows) ss)) first
      (subst (λ ms. Plays b.rows (each step ss b.rows) (map f ms)) now.1 (plays_each step f one ss b.rows first.leaves.all now.0))

  -- ---- values

  abbrev pub whole_value : List Row → Value RowSound → Value sounds.Sound
  whole_value rows (Number v) = Number v
  whole_value rows (Sound s) = Sound (heard rows s)

  abbrev pub IsShownValue : List Row → Value RowSound → Type 0
  IsShownValue rows (Number v) = Unit {0}
  IsShownValue rows (Sound s) = IsShown rows s

  pub hears_silent : (rate : Rate) (rows : List Row) → AllRows rows → Hears rows (given (silent rate) rows) (silence rate)
  unfolding silence
  hears_silent rate rows all = record { leaves = leaves_given IsBelow rows (silent rate) all (silent_below (length rows) rate); is = refl; when = timing_of-silence rate }

  pub hears_paired : (o : Op) (rate : Rate) (a b : Value RowSound) (rows : List Row) → AllRows rows → IsShownValue rows a → IsShownValue rows b → Hears rows (paired o rate a b rows) (combined_values (pair_timing o) (operation o) rate (whole_value rows a) (whole_value rows b))
  hears_paired o rate (Number j) (Number k) rows all ha hb = hears_silent rate rows all
  hears_paired o rate (Number k) (Sound b) rows all ha hb = hears_single (brought rate b rows) rows (resampled rate (heard rows b)) (kind_of_op o) (each_value (operation o (sat_sample k))) (λ m. timing_of-each_value (operation o (sat_sample k)) m) (hears_brought rate b rows all hb)
  hears_paired o rate (Sound a) (Number k) rows all ha hb = hears_single (brought rate a rows) rows (resampled rate (heard rows a)) (kind_of_op o) (each_value (λ x. operation o x (sat_sample k))) (λ m. timing_of-each_value (λ x. operation o x (sat_sample k)) m) (hears_brought rate a rows all ha)
  hears_paired o rate (Sound a) (Sound b) rows all ha hb =
      let x = brought rate a rows in
      let hx = hears_brought rate a rows all ha in
      let hb_now = shown-kept IsBelow rows x b all hx.leaves hb in
      let y = brought rate b x.rows in
      let hy = hears_as x.rows y (resampled rate (heard x.rows b)) (resampled rate (heard rows b)) (ap (resampled rate) (heard-kept IsBelow rows x b all hx.leaves hb.0)) (hears_brought rate b x.rows hx.leaves.all hb_now) in
      let x_now = shown-kept IsBelow x.rows y x.gives hx.leaves.all hy.leaves (hears_shown rows x (resampled rate (heard rows a)) hx) in
      hears_then IsBelow rows x (unit (kind_of_op o) (pair_timing o x.gives.timing y.gives.timing) (input x.gives ∷ input y.gives ∷ []) (λ ss. (combined (pair_timing o) (operation o) (first ss) (second ss)).samples) y.rows) (combined (pair_timing o) (operation o) (resampled rate (heard rows a)) (resampled rate (heard rows b))) hx.leaves
      (hears_then IsBelow x.rows y (unit (kind_of_op o) (pair_timing o x.gives.timing y.gives.timing) (input x.gives ∷ input y.gives ∷ []) (λ ss. (combined (pair_timing o) (operation o) (first ss) (second ss)).samples) y.rows) (combined (pair_timing o) (operation o) (resampled rate (heard rows a)) (resampled rate (heard rows b))) hy.leaves
      (hears_unit (kind_of_op o) (pair_timing o x.gives.timing y.gives.timing) (input x.gives ∷ input y.gives ∷ []) (λ ss. (combined (pair_timing o) (operation o) (first ss) (second ss)).samples) y.rows (combined (pair_timing o) (operation o) (resampled rate (heard rows a)) (resampled rate (heard rows b))) hy.leaves.all
      (input_of (length y.rows) _ x.gives x_now.0, (input_of (length y.rows) _ y.gives hy.leaves.gives, tt))
      (λ i. sounds.Sound.samples (combined (pair_timing o) (operation o) ((heard-kept IsBelow x.rows y x.gives hx.leaves.all hy.leaves hx.leaves.gives ∙ hx.is) i) (hy.is i)))
      (timing_of-combined (pair_timing o) (operation o) (resampled rate (heard rows a)) (resampled rate (heard rows b)) ∙ (λ i. pair_timing o (hx.when i) (hy.when i)))))

  pub hears_negated : (rate : Rate) (a : Value RowSound) (rows : List Row) → AllRows rows → IsShownValue rows a → Hears rows (negated rate a rows) (negated_value rate (whole_value rows a))
  hears_negated rate (Number k) rows all h = hears_silent rate rows all
  hears_negated rate (Sound s) rows all h = hears_single (brought rate s rows) rows (resampled rate (heard rows s)) Sub (each_value (sample_sub (pos 0))) (λ m. timing_of-each_value (sample_sub (pos 0)) m) (hears_brought rate s rows all h)

  -- a value that a step gives
  pub record HearsValue (rows : List Row) (a : After (Value RowSound)) (v : Value sounds.Sound) : Type 0 where
    pub leaves : Leaves IsValueBelow rows a
    pub is : whole_value a.rows a.gives ≡ v
    pub shows : IsShownValue a.rows a.gives

  pub hears_value_by : (s : Scalar) (sound : Step RowSound) (rows : List Row) (m : sounds.Sound) → AllRows rows → Hears rows (sound rows) m → HearsValue rows (Rattle.ny_plan.specs.Plan.value_by s sound rows) (value_by s m)
  hears_value_by (scalar.Number v) sound rows m all h = record { leaves = leaves_given IsValueBelow rows (Number v) all tt; is = refl; shows = tt }
  hears_value_by (scalar.Test b) sound rows m all h = record { leaves = leaves_value_by (scalar.Test b) sound rows all h.leaves; is = ap Sound h.is; shows = hears_shown rows (sound rows) m h }
  hears_value_by scalar.Sound sound rows m all h = record { leaves = leaves_value_by scalar.Sound sound rows all h.leaves; is = ap Sound h.is; shows = hears_shown rows (sound rows) m h }

  pub value-kept : {A : Type 0} (P : ℕ → A → Type 0) (rows : List Row) (a : After A) (v : Value RowSound) → AllRows rows → Leaves P rows a → IsShownValue rows v → IsShownValue a.rows v × (whole_value a.rows v ≡ whole_value rows v)
  value-kept P rows a (Number v) all l h = (tt, refl)
  value-kept P rows a (Sound s) all l h = (shown-kept P rows a s all l h, ap Sound (heard-kept P rows a s all l h.0))

  -- ---- names

  abbrev pub wholes : List Row → Names → Bound
  wholes rows names = map (with_value (whole_value rows)) names

  abbrev pub AreShown : List Row → Names → Type 0
  AreShown rows names = AllByRecursion (λ b. IsShownValue rows b.1) names

  pub names-kept : {A : Type 0} (P : ℕ → A → Type 0) (rows : List Row) (a : After A) (names : Names) → AllRows rows → Leaves P rows a → AreShown rows names → AreShown a.rows names × (wholes a.rows names ≡ wholes rows names)
  names-kept P rows a [] all l h = (tt, refl)
  names-kept P rows a (b ∷ bs) all l h =
      let first = value-kept P rows a b.1 all l h.0 in
      let rest = names-kept P rows a bs all l h.1 in
      ((first.0, rest.0), λ i. (b.0, first.1 i) ∷ rest.1 i)

  pub value_low : (rows : List Row) (v : Value RowSound) → IsShownValue rows v → IsValueBelow (length rows) v
  value_low rows (Number v) h = tt
  value_low rows (Sound s) h = h.0

  pub names_low : (rows : List Row) (names : Names) → AreShown rows names → AreNamesBelow (length rows) names
  names_low rows [] h = All-nil (λ (b : NameId × Value RowSound). IsValueBelow (length rows) b.1)
  names_low rows (b ∷ bs) h = All-cons (λ (b : NameId × Value RowSound). IsValueBelow (length rows) b.1) b bs (value_low rows b.1 h.0) (names_low rows bs h.1)

  pub push_shown : (rows : List Row) (names : Names) (n : NameId) (v : Value RowSound) → AreShown rows names → IsShownValue rows v → AreShown rows (names ++ (n, v) ∷ []) × (wholes rows (names ++ (n, v) ∷ []) ≡ wholes rows names ++ (n, whole_value rows v) ∷ [])
  push_shown rows [] n v h hv = ((hv, tt), refl)
  push_shown rows (b ∷ bs) n v h hv = let rest = push_shown rows bs n v h.1 hv in ((h.0, rest.0), λ i. (b.0, whole_value rows b.1) ∷ rest.1 i)

  pub same_scalars : (rows : List Row) (names : Names) → scalars_of names ≡ scalars_of (wholes rows names)
  same_scalars rows [] = refl
  same_scalars rows (b ∷ bs) = λ i. (b.0, by_value b.1 i) ∷ same_scalars rows bs i
    where
      by_value : (v : Value RowSound) → scalar_in v ≡ scalar_in (whole_value rows v)
      by_value (Number v) = refl
      by_value (Sound s) = refl
