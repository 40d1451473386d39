-- Evaluation makes no channel: all rows before those of the channels are of other kinds.
use Rattle.std.proofs.Common.{◌≡◌, ◌≢◌, ◌⊎◌, inl, inr, ℕ, ◌*◌, ◌≤◌, Bool, true, false, cond, nat_eq, List, [], ◌∷◌, ◌++◌, map, zip, length, None, refl, ap, ◌∙◌, arith, ℤ, pos}
use Rattle.std.specs.List.{AllByRecursion, range_with_len}
use Rattle.std.proofs.lemmas.Bool.{cases_lt, cases_eq}
use Rattle.std.proofs.lemmas.List.{get_or_append_left, get_or_past}
use Rattle.std.proofs.Math.Seq.{get_or-append_seam}
use Rattle.std.proofs.Math.ListN.{length-append}
use Rattle.ny_num.specs.declared.rate.Rate.{Rate}
use Rattle.ny_num.specs.declared.timing.Timing.{Timing}
use Rattle.ny_num.specs.Sound as sounds
use Rattle.ny_num.specs.Numbers.{sat_sample, sample_sub}
use Rattle.ny_num.specs.Leaves.{louder_value}
use Rattle.ny_num.specs.Pointwise.{combined, each_value}
use Rattle.ny_num.specs.Resampling.{is_same_rate, other_rate_timing, resampled}
use Rattle.ny_num.specs.Grid.{index_at}
use Rattle.ny_num.specs.Sound.{placed_timing}
use Rattle.ny_num.specs.Mix.{mix_timing, mix}
use Rattle.ny_kernels.specs.declared.operation.Op.{Op}
use Rattle.ny_kernels.specs.declared.operation.Op.TheVariants as op
use Rattle.ny_kernels.specs.Operations.{operation}
use Rattle.ny_warp.specs.declared.env.Env.{Env}
use Rattle.ny_warp.specs.Environment.{from_stop}
use Rattle.ny_resolve.specs.declared.builtin.Order.{Order}
use Rattle.ny_resolve.specs.declared.builtin.Order.TheVariants as order
use Rattle.ny_resolve.specs.declared.term.NameId.{NameId}
use Rattle.ny_check.specs.Values.{scalars_of, scalar_of, test_of}
use Rattle.ny_check.specs.declared.node.Node.{Node}
use Rattle.ny_check.specs.declared.node.Node.TheVariants as node
use Rattle.ny_check.specs.declared.node.ExprId.{ExprId}
use Rattle.ny_check.specs.declared.node.Generator.{Generator}
use Rattle.ny_check.specs.declared.node.Generator.TheVariants as generator
use Rattle.ny_check.specs.declared.node.Effect.{Effect}
use Rattle.ny_check.specs.declared.node.Effect.TheVariants as effect
use Rattle.ny_check.specs.declared.value.Scalar.{Scalar}
use Rattle.ny_check.specs.declared.value.Scalar.TheVariants as scalar
use Rattle.ny_check.specs.declared.value.Value.{Value}
use Rattle.ny_check.specs.declared.value.Value.TheVariants.{Number, Sound}
use Rattle.ny_check.specs.Code.{Code, node_at, function_at}
use Rattle.ny_check.specs.Behaviours.{is_one, cue_timing}
use Rattle.ny_check.specs.Families.{pair_timing, leaf_time, leaf_sound, effect_sound, changed_env}
use Rattle.ny_heap.specs.Kinds.{UnitKind, Mix, Sub, Mul, Resample, kind_of_op}
use Rattle.ny_hands.specs.Kinds.{kind_of_generator, kind_of_effect}
use Rattle.ny_plan.specs.Rows.{RowSound, Input, Row, Step, After, row_at, no_row, given, and_then, each, shown, silent, input, unit}
use Rattle.ny_plan.specs.Units.{first, second, leaf_by, row_over, brought, paired, negated, cued, Part, parts_together, coming, next_part, parts_after, parts_in_turn, parts_in, counted_from, mixed}
use Rattle.ny_plan.specs.Plan.{Names, Makes, value_by, value_of, names_after, part_of, repeated_parts, number, made_at, made, operand, played_at, played}
use Rattle.ny_plan.specs.Liveness.{is_channel}
use Rattle.ny_plan.proofs.OrderLemmas.{by_smaller-all}

-- ---- steps that make no channel

abbrev pub NoChannels : List Row → Type 0
NoChannels rows = (k : ℕ) → is_channel (row_at rows k).kind ≡ false

abbrev pub IsQuiet : {A : Type 0} → Step A → Type 0
IsQuiet s = (rows : List Row) → NoChannels rows → NoChannels (After.rows (s rows))

pub quiet_none : NoChannels []
quiet_none k = refl

pub quiet_given : {A : Type 0} (a : A) → IsQuiet (given a)
quiet_given a rows h = h

pub quiet_then : {A C : Type 0} (s : Step A) (next : A → Step C) → IsQuiet s → ((a : A) → IsQuiet (next a)) → IsQuiet (and_then s next)
quiet_then s next q f rows h = f (After.gives (s rows)) (After.rows (s rows)) (q rows h)

pub quiet_each : {A C : Type 0} (step : A → Step C) (xs : List A) → AllByRecursion (λ x. IsQuiet (step x)) xs → IsQuiet (each step xs)
quiet_each {A} {C} step [] q = quiet_given {A = List C} []
quiet_each {A} {C} step (x ∷ xs) q = quiet_then (step x) (λ b. and_then (each step xs) (λ bs. given (b ∷ bs))) q.0 (λ b. quiet_then (each step xs) (λ bs. given (b ∷ bs)) (quiet_each step xs q.1) (λ bs. quiet_given (b ∷ bs)))

pub quiet_all : {A C : Type 0} (step : A → Step C) (xs : List A) → ((x : A) → IsQuiet (step x)) → AllByRecursion (λ x. IsQuiet (step x)) xs
quiet_all step [] q = tt
quiet_all step (x ∷ xs) q = (q x, quiet_all step xs q)

pub quiet_choice : {A : Type 0} (b : Bool) (s t : Step A) → IsQuiet s → IsQuiet t → IsQuiet (cond b s t)
quiet_choice true s t p q = p
quiet_choice false s t p q = q

-- one row more
pub row_more : (rows : List Row) (x : Row) → NoChannels rows → is_channel x.kind ≡ false → NoChannels (rows ++ x ∷ [])
row_more rows x h is k = elim (cases_lt k (length rows)) [
  | inl before ↦ ap (λ (w : Row). is_channel w.kind) (get_or_append_left rows (x ∷ []) no_row k before) ∙ h k
  | inr past ↦ last past (cases_eq k (length rows))
]
  where
    last : length rows ≤ k → (k ≡ length rows) ⊎ (k ≢ length rows) → is_channel (row_at (rows ++ x ∷ []) k).kind ≡ false
    last past (inl same) = ap (λ (w : Row). is_channel w.kind) (ap (row_at (rows ++ x ∷ [])) same ∙ get_or-append_seam rows x [] no_row) ∙ is
    last past (inr other) = ap (λ (w : Row). is_channel w.kind) (get_or_past (rows ++ x ∷ []) k no_row (omega (arith, past, other, length-append rows (x ∷ []))))

pub quiet_unit : (kind : UnitKind) (t : Timing) (inputs : List Input) (samples : List sounds.Sound → List ℤ) → is_channel kind ≡ false → IsQuiet (unit kind t inputs samples)
quiet_unit kind t inputs samples is rows h = by_test (nat_eq t.len 0)
  where
    by_test : (b : Bool) → NoChannels (cond b rows (rows ++ (record { kind = kind; timing = t; inputs = inputs; samples = samples } ∷ [])))
    by_test true = h
    by_test false = row_more rows (record { kind = kind; timing = t; inputs = inputs; samples = samples }) h is

-- ---- units

op_quiet : (o : Op) → is_channel (kind_of_op o) ≡ false
op_quiet op.Add = refl
op_quiet op.Sub = refl
op_quiet op.Mul = refl
op_quiet op.Max = refl
op_quiet op.Min = refl

effect_quiet : (w : Effect) → is_channel (kind_of_effect w) ≡ false
effect_quiet effect.Abs = refl
effect_quiet effect.OnePole = refl
effect_quiet effect.Biquad = refl
effect_quiet effect.Comb = refl

quiet_over : (kind : UnitKind) (f : sounds.Sound → sounds.Sound) (s : RowSound) → is_channel kind ≡ false → IsQuiet (row_over kind f s)
quiet_over kind f s is = quiet_unit kind s.timing (input s ∷ []) (λ ss. sounds.Sound.samples (f (first ss))) is

pub quiet_brought : (rate : Rate) (s : RowSound) → IsQuiet (brought rate s)
quiet_brought rate s =
    quiet_choice (is_same_rate s.timing.rate rate) (given s) (unit Resample (other_rate_timing rate s.timing) (input s ∷ []) (λ ss. sounds.Sound.samples (resampled rate (first ss)))) (quiet_given s)
    (quiet_unit Resample (other_rate_timing rate s.timing) (input s ∷ []) (λ ss. sounds.Sound.samples (resampled rate (first ss))) refl)

quiet_paired : (o : Op) (rate : Rate) (a b : Value RowSound) → IsQuiet (paired o rate a b)
quiet_paired o rate (Number j) (Number k) = quiet_given (silent rate)
quiet_paired o rate (Number k) (Sound b) = quiet_then (brought rate b) (row_over (kind_of_op o) (each_value (operation o (sat_sample k)))) (quiet_brought rate b) (λ s. quiet_over (kind_of_op o) (each_value (operation o (sat_sample k))) s (op_quiet o))
quiet_paired o rate (Sound a) (Number k) = quiet_then (brought rate a) (row_over (kind_of_op o) (each_value (λ x. operation o x (sat_sample k)))) (quiet_brought rate a) (λ s. quiet_over (kind_of_op o) (each_value (λ x. operation o x (sat_sample k))) s (op_quiet o))
quiet_paired o rate (Sound a) (Sound b) =
    quiet_then (brought rate a) (λ s. and_then (brought rate b) (both s)) (quiet_brought rate a) (λ s. quiet_then (brought rate b) (both s) (quiet_brought rate b) (λ t.
    quiet_unit (kind_of_op o) (pair_timing o s.timing t.timing) (input s ∷ input t ∷ []) (λ ss. sounds.Sound.samples (combined (pair_timing o) (operation o) (first ss) (second ss))) (op_quiet o)))
  where
    both : RowSound → RowSound → Step RowSound
    both s t = unit (kind_of_op o) (pair_timing o s.timing t.timing) (input s ∷ input t ∷ []) (λ ss. sounds.Sound.samples (combined (pair_timing o) (operation o) (first ss) (second ss)))

quiet_negated : (rate : Rate) (a : Value RowSound) → IsQuiet (negated rate a)
quiet_negated rate (Number k) = quiet_given (silent rate)
quiet_negated rate (Sound s) = quiet_then (brought rate s) (row_over Sub (each_value (sample_sub (pos 0)))) (quiet_brought rate s) (λ t. quiet_over Sub (each_value (sample_sub (pos 0))) t refl)

quiet_cued : (env : Env) (s : RowSound) → IsQuiet (cued env s)
quiet_cued env s =
    quiet_choice (is_one env.loud) (given (shown s.row (cue_timing env s.timing))) (row_over Mul (each_value (louder_value env.loud)) (shown s.row (cue_timing env s.timing))) (quiet_given (shown s.row (cue_timing env s.timing)))
    (quiet_over Mul (each_value (louder_value env.loud)) (shown s.row (cue_timing env s.timing)) refl)

quiet_leaf : (w : Generator) (t : Timing) (m : sounds.Sound) → IsQuiet (leaf_by (kind_of_generator w) t m)
quiet_leaf generator.Const t m = quiet_unit _ t [] (λ ss. m.samples) refl
quiet_leaf generator.Osc t m = quiet_unit _ t [] (λ ss. m.samples) refl
quiet_leaf generator.HzOsc t m = quiet_unit _ t [] (λ ss. m.samples) refl
quiet_leaf generator.Lfo t m = quiet_unit _ t [] (λ ss. m.samples) refl
quiet_leaf generator.Noise t m = quiet_unit _ t [] (λ ss. m.samples) refl
quiet_leaf generator.Rest t m = quiet_given (shown None t)
quiet_leaf generator.Ramp t m = quiet_unit _ t [] (λ ss. m.samples) refl
quiet_leaf generator.Pwl t m = quiet_unit _ t [] (λ ss. m.samples) refl

-- ---- mixes

abbrev AreQuiet : List Part → Type 0
AreQuiet parts = AllByRecursion (λ (p : Part). (env : Env) → IsQuiet (p.sound env)) parts

sounds_quiet : (env : Env) (parts : List Part) → AreQuiet parts → AllByRecursion (λ (p : Part). IsQuiet (p.sound env)) parts
sounds_quiet env [] q = tt
sounds_quiet env (p ∷ parts) q = (q.0 env, sounds_quiet env parts q.1)

quiet_together : (env : Env) (parts : List Part) → AreQuiet parts → IsQuiet (parts_together env parts)
quiet_together env parts q =
    quiet_then (each (λ (part : Part). part.sound env) parts) (λ ss. and_then (each (brought env.sound_rate) ss) (λ ts. given (map input ts))) (quiet_each (λ (part : Part). part.sound env) parts (sounds_quiet env parts q)) (λ ss.
    quiet_then (each (brought env.sound_rate) ss) (λ ts. given (map input ts)) (quiet_each (brought env.sound_rate) ss (quiet_all (brought env.sound_rate) ss (quiet_brought env.sound_rate))) (λ ts. quiet_given (map input ts)))

quiet_next : (env : Env) (stop : ℕ) (part : Part) → ((from : Env) → IsQuiet (part.sound from)) → IsQuiet (next_part env stop part)
quiet_next env stop part q =
    quiet_then (part.sound (from_stop env stop)) (λ s. and_then (brought env.sound_rate s) (λ t. given (shown t.row (placed_timing (index_at stop env.sound_rate) t.timing)))) (q (from_stop env stop)) (λ s.
    quiet_then (brought env.sound_rate s) (λ t. given (shown t.row (placed_timing (index_at stop env.sound_rate) t.timing))) (quiet_brought env.sound_rate s) (λ t. quiet_given (shown t.row (placed_timing (index_at stop env.sound_rate) t.timing))))

quiet_after : (env : Env) (stop : ℕ) (parts : List Part) → AreQuiet parts → IsQuiet (parts_after env stop parts)
quiet_after env stop [] q = quiet_given {A = List Input} []
quiet_after env stop (part ∷ parts) q =
    quiet_then (next_part env stop part) (λ s. and_then (parts_after env s.timing.stop parts) (λ is. given (coming (index_at stop env.sound_rate) part s ∷ is))) (quiet_next env stop part q.0) (λ s.
    quiet_then (parts_after env s.timing.stop parts) (λ is. given (coming (index_at stop env.sound_rate) part s ∷ is)) (quiet_after env s.timing.stop parts q.1) (λ is. quiet_given (coming (index_at stop env.sound_rate) part s ∷ is)))

quiet_in_turn : (env : Env) (parts : List Part) → AreQuiet parts → IsQuiet (parts_in_turn env parts)
quiet_in_turn env [] q = quiet_given {A = List Input} []
quiet_in_turn env (part ∷ parts) q =
    quiet_then (part.sound env) (λ s. and_then (brought env.sound_rate s) (λ t. and_then (parts_after env t.timing.stop parts) (λ is. given (coming 0 part t ∷ is)))) (q.0 env) (λ s.
    quiet_then (brought env.sound_rate s) (λ t. and_then (parts_after env t.timing.stop parts) (λ is. given (coming 0 part t ∷ is))) (quiet_brought env.sound_rate s) (λ t.
    quiet_then (parts_after env t.timing.stop parts) (λ is. given (coming 0 part t ∷ is)) (quiet_after env t.timing.stop parts q.1) (λ is. quiet_given (coming 0 part t ∷ is))))

quiet_parts : (o : Order) (env : Env) (parts : List Part) → AreQuiet parts → IsQuiet (parts_in o env parts)
quiet_parts order.Together env parts q = quiet_together env parts q
quiet_parts order.InTurn env parts q = quiet_in_turn env parts q

quiet_mixed : (rate : Rate) (is : List Input) → IsQuiet (mixed rate is)
quiet_mixed rate is =
    let t = mix_timing rate (map (λ (i : Input). i.sound.timing) is) in
    quiet_unit Mix t (map (counted_from t.start) is) (λ ss. sounds.Sound.samples (mix rate ss)) refl

-- ---- expressions

abbrev AllQuiet : (ℕ → Makes) → Type 0
AllQuiet rec = (e : ℕ) (env : Env) (names : Names) → IsQuiet (rec e env names)

module _ (code : Code) (rec : ℕ → Makes) (quiet : AllQuiet rec) where
  quiet_value : (env : Env) (names : Names) (e : ExprId) → IsQuiet (value_of code rec env names e)
  quiet_value env names e = by_scalar (scalar_of code e.0 (scalars_of names))
    where
      by_scalar : (s : Scalar) → IsQuiet (value_by s (rec e.0 env names))
      by_scalar (scalar.Number v) = quiet_given {A = Value RowSound} (Number v)
      by_scalar (scalar.Test b) = quiet_then (rec e.0 env names) (λ s. given (Sound s)) (quiet e.0 env names) (λ s. quiet_given {A = Value RowSound} (Sound s))
      by_scalar scalar.Sound = quiet_then (rec e.0 env names) (λ s. given (Sound s)) (quiet e.0 env names) (λ s. quiet_given {A = Value RowSound} (Sound s))

  quiet_names : (env : Env) (bs : List (NameId × ExprId)) (names : Names) → IsQuiet (names_after code rec env bs names)
  quiet_names env [] names = quiet_given names
  quiet_names env (b ∷ bs) names = quiet_then (value_of code rec env names b.1) (λ v. names_after code rec env bs (names ++ (b.0, v) ∷ [])) (quiet_value env names b.1) (λ v. quiet_names env bs (names ++ (b.0, v) ∷ []))

  quiet_values : (env : Env) (names : Names) (es : List ExprId) → IsQuiet (each (value_of code rec env names) es)
  quiet_values env names es = quiet_each (value_of code rec env names) es (quiet_all (value_of code rec env names) es (quiet_value env names))

  parts_quiet : (names : Names) (es : List ExprId) → AreQuiet (map (part_of code rec names) es)
  parts_quiet names [] = tt
  parts_quiet names (e ∷ es) = ((λ env. quiet e.0 env names), parts_quiet names es)

  repeats_quiet : (names : Names) (i : NameId) (e : ExprId) (ks : List ℕ) → AreQuiet (map (λ k. part_of code rec (names ++ (i, Number (pos (k * 1000000))) ∷ []) e) ks)
  repeats_quiet names i e [] = tt
  repeats_quiet names i e (k ∷ ks) = ((λ env. quiet e.0 env (names ++ (i, Number (pos (k * 1000000))) ∷ [])), repeats_quiet names i e ks)

  quiet_mix : (rate : Rate) (parts : Step (List Input)) → IsQuiet parts → IsQuiet (and_then parts (mixed rate))
  quiet_mix rate parts q = quiet_then parts (mixed rate) q (quiet_mixed rate)

  made_quiet : (at : Node) (env : Env) (names : Names) → IsQuiet (made_at code at rec env names)
  made_quiet (node.Local x) env names = λ rows h. h
  made_quiet (node.Call f es) env names = quiet_then (each (value_of code rec env names) es) (λ vs. rec (function_at code f.0).body.0 env (zip (function_at code f.0).params vs)) (quiet_values env names es) (λ vs. quiet (function_at code f.0).body.0 env (zip (function_at code f.0).params vs))
  made_quiet (node.Block bs e) env names = quiet_then (names_after code rec env bs names) (λ inner. rec e.0 env inner) (quiet_names env bs names) (λ inner. quiet e.0 env inner)
  made_quiet (node.If c a b) env names = quiet_choice (test_of code c (scalars_of names)) (rec a.0 env names) (rec b.0 env names) (quiet a.0 env names) (quiet b.0 env names)
  made_quiet (node.Pair o a b) env names =
      quiet_then (value_of code rec env names a) (λ v. and_then (value_of code rec env names b) (λ w. paired o env.sound_rate v w)) (quiet_value env names a) (λ v.
      quiet_then (value_of code rec env names b) (λ w. paired o env.sound_rate v w) (quiet_value env names b) (λ w. quiet_paired o env.sound_rate v w))
  made_quiet (node.Neg a) env names = quiet_then (value_of code rec env names a) (negated env.sound_rate) (quiet_value env names a) (quiet_negated env.sound_rate)
  made_quiet (node.Leaf w es) env names = quiet_leaf w (leaf_time w env (map (number code names) es)) (leaf_sound w env (map (number code names) es))
  made_quiet (node.Effect w e es) env names =
      quiet_then (rec e.0 env names) (row_over (kind_of_effect w) (effect_sound w (map (number code names) es))) (quiet e.0 env names) (λ s. quiet_over (kind_of_effect w) (effect_sound w (map (number code names) es)) s (effect_quiet w))
  made_quiet (node.Cue e) env names = quiet_then (rec e.0 env names) (cued env) (quiet e.0 env names) (quiet_cued env)
  made_quiet (node.Mix o es) env names = quiet_mix env.sound_rate (parts_in o env (map (part_of code rec names) es)) (quiet_parts o env (map (part_of code rec names) es) (parts_quiet names es))
  made_quiet (node.Repeat o i n e) env names = quiet_mix env.sound_rate (parts_in o env (repeated_parts code rec names i n e)) (quiet_parts o env (repeated_parts code rec names i n e) (repeats_quiet names i e (range_with_len 0 n)))
  made_quiet (node.Change c e) env names = quiet e.0 (changed_env c (number code names) env) names
  made_quiet _ env names = λ rows h. h

pub all_made_quiet : (code : Code) (e : ℕ) (env : Env) (names : Names) → IsQuiet (made code e env names)
unfolding made
all_made_quiet code e = by_smaller-all (λ (f : Makes). (env : Env) (names : Names) → IsQuiet (f env names)) (λ env names. given (silent env.sound_rate)) (λ e rec. made_at code (node_at code e) rec)
    (λ env names rows h. h)
    (λ n f quiet. made_quiet code f quiet (node_at code n)) e

-- ---- what is played

abbrev PlayQuiet : (Env → Names → Step (List RowSound)) → Type 0
PlayQuiet f = (env : Env) (names : Names) → IsQuiet (f env names)

quiet_one : (code : Code) (e : ℕ) → PlayQuiet (λ env names. and_then (made code e env names) (λ s. given (s ∷ [])))
quiet_one code e env names = quiet_then (made code e env names) (λ s. given (s ∷ [])) (all_made_quiet code e env names) (λ s. quiet_given (s ∷ []))

module _ (code : Code) (rec : ℕ → Env → Names → Step (List RowSound)) (quiet : (e : ℕ) → PlayQuiet (rec e)) where
  played_quiet : (e : ℕ) (at : Node) → PlayQuiet (played_at code e at rec)
  played_quiet e (node.Vector es) env names = quiet_each (operand code env names) es (quiet_all (operand code env names) es (λ x. all_made_quiet code x.0 env names))
  played_quiet e (node.Call f es) env names =
      quiet_then (each (value_of code (made code) env names) es) (λ vs. rec (function_at code f.0).body.0 env (zip (function_at code f.0).params vs)) (quiet_values code (made code) (all_made_quiet code) env names es) (λ vs.
      quiet (function_at code f.0).body.0 env (zip (function_at code f.0).params vs))
  played_quiet e (node.Block bs value) env names = quiet_then (names_after code (made code) env bs names) (λ inner. rec value.0 env inner) (quiet_names code (made code) (all_made_quiet code) env bs names) (λ inner. quiet value.0 env inner)
  played_quiet e (node.If c a b) env names = quiet_choice (test_of code c (scalars_of names)) (rec a.0 env names) (rec b.0 env names) (quiet a.0 env names) (quiet b.0 env names)
  played_quiet e _ env names = quiet_one code e env names

pub all_played_quiet : (code : Code) (e : ℕ) → PlayQuiet (played code e)
unfolding played
all_played_quiet code e = by_smaller-all PlayQuiet (λ env names. given []) (λ e rec. played_at code e (node_at code e) rec)
    (λ env names rows h. h)
    (λ n f quiet. played_quiet code f quiet n (node_at code n)) e
