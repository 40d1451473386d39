-- Evaluation by the plan only adds rows to those that are there.
use Rattle.std.proofs.Common.{ℕ, ◌*◌, Bool, true, false, cond, nat_eq, List, [], ◌∷◌, ◌++◌, map, zip, Option, None, Some, unwrap_or, refl, ◌∙◌, arith, ℤ, pos}
use Rattle.std.specs.List.{AllByRecursion, range_with_len}
use Rattle.std.proofs.lemmas.List.{get_or_append_left}
use Rattle.std.proofs.Math.ListN.{length-append}
use Rattle.ny_num.specs.declared.rate.Rate.{Rate}
use Rattle.ny_num.specs.declared.timing.Timing.{Timing}
use Rattle.ny_num.specs.Sound as sounds
use Rattle.ny_num.specs.Sound.{placed_timing}
use Rattle.ny_num.specs.Resampling.{is_same_rate}
use Rattle.ny_kernels.specs.declared.operation.Op.{Op}
use Rattle.ny_warp.specs.declared.env.Env.{Env}
use Rattle.ny_warp.specs.Environment.{from_stop}
use Rattle.ny_resolve.specs.declared.builtin.Order.{Order}
use Rattle.ny_resolve.specs.declared.builtin.Order.TheVariants as order
use Rattle.ny_resolve.specs.declared.term.NameId.{NameId}
use Rattle.ny_resolve.specs.Keys.{same_name}
use Rattle.ny_scope.specs.Scopes.{last_of}
use Rattle.ny_check.specs.declared.node.Node.{Node}
use Rattle.ny_check.specs.declared.node.Node.TheVariants as node
use Rattle.ny_check.specs.declared.node.ExprId.{ExprId}
use Rattle.ny_check.specs.declared.value.Scalar.{Scalar}
use Rattle.ny_check.specs.declared.value.Scalar.TheVariants as scalar
use Rattle.ny_check.specs.declared.value.Value.{Value}
use Rattle.ny_check.specs.declared.value.Value.TheVariants.{Number, Sound}
use Rattle.ny_check.specs.Code.{Code, node_at, function_at}
use Rattle.ny_check.specs.Values.{scalars_of, scalar_of, test_of}
use Rattle.ny_check.specs.Behaviours.{is_one, cue_timing}
use Rattle.ny_check.specs.Families.{pair_timing, leaf_time, leaf_sound, effect_sound, changed_env}
use Rattle.ny_num.specs.Numbers.{sat_sample, sample_sub}
use Rattle.ny_num.specs.Leaves.{louder_value}
use Rattle.ny_num.specs.Mix.{mix_timing}
use Rattle.ny_num.specs.Pointwise.{combined, each_value}
use Rattle.ny_kernels.specs.Operations.{operation}
use Rattle.ny_heap.specs.Kinds.{UnitKind, Mix, Sub, Mul, kind_of_op}
use Rattle.ny_hands.specs.Kinds.{kind_of_generator, kind_of_effect}
use Rattle.ny_plan.specs.Rows.{RowSound, Input, Row, After, Step, no_row, given, and_then, each, shown, silent, input, unit}
use Rattle.ny_plan.specs.Units.{first, second, leaf_by, row_over, brought, paired, negated, cued, Part, parts_together, next_part, parts_after, parts_in_turn, parts_in, mixed, channel_row}
use Rattle.ny_plan.specs.Plan.{Names, Makes, sound_in, value_by, value_of, names_after, part_of, repeated_parts, number, made_at, made, operand, played_at, played}
use Rattle.ny_plan.proofs.OrderLemmas.{by_smaller-all}
use Rattle.ny_match.specs.Matched.{IsFirst}

-- ---- the beginning of a table

pub first_self : (rows : List Row) → IsFirst rows rows
first_self rows = record { short = omega arith; same = λ k less. refl }

pub first_then : (a b c : List Row) → IsFirst a b → IsFirst b c → IsFirst a c
first_then a b c p q = record {
  short = omega (arith, p.short, q.short);
  same = λ k less. q.same k (omega (arith, less, p.short)) ∙ p.same k less;
}

-- ---- steps

-- a step keeps the rows that are there
abbrev pub Grows : {A : Type 0} → Step A → Type 0
Grows {A} s = (rows : List Row) → IsFirst rows (After.rows (s rows))

pub grows_given : {A : Type 0} (a : A) → Grows (given a)
grows_given a rows = first_self rows

pub grows_then : {A C : Type 0} (s : Step A) (next : A → Step C) → Grows s → ((a : A) → Grows (next a)) → Grows (and_then s next)
grows_then s next g h rows = let a = s rows in first_then rows a.rows (After.rows (next a.gives a.rows)) (g rows) (h a.gives a.rows)

pub grows_each : {A C : Type 0} (step : A → Step C) → ((a : A) → Grows (step a)) → (xs : List A) → Grows (each step xs)
grows_each step g [] rows = first_self rows
grows_each step g (x ∷ xs) rows = let a = step x rows in first_then rows a.rows _ (g x rows) (grows_each step g xs a.rows)

grows_choice : {A : Type 0} (b : Bool) (s t : Step A) → Grows s → Grows t → (rows : List Row) → IsFirst rows (After.rows (cond b s t rows))
grows_choice true s t g h rows = g rows
grows_choice false s t g h rows = h rows

-- ---- rows

pub grows_unit : (kind : UnitKind) (t : Timing) (inputs : List Input) (samples : List sounds.Sound → List ℤ) → Grows (unit kind t inputs samples)
grows_unit kind t inputs samples rows = by_test (nat_eq t.len 0)
  where
    by_test : (b : Bool) → IsFirst rows (cond b rows (rows ++ (record { kind = kind; timing = t; inputs = inputs; samples = samples } ∷ [])))
    by_test true = first_self rows
    by_test false = record {
      short = omega (arith, length-append rows (record { kind = kind; timing = t; inputs = inputs; samples = samples } ∷ []));
      same = λ k less. get_or_append_left rows (record { kind = kind; timing = t; inputs = inputs; samples = samples } ∷ []) no_row k less;
    }

pub grows_over : (kind : UnitKind) (f : sounds.Sound → sounds.Sound) (s : RowSound) → Grows (row_over kind f s)
grows_over kind f s = grows_unit kind s.timing (input s ∷ []) _

pub grows_brought : (rate : Rate) (s : RowSound) → Grows (brought rate s)
grows_brought rate s = grows_choice (is_same_rate s.timing.rate rate) (given s) _ (grows_given s) (grows_unit _ _ (input s ∷ []) _)

pub grows_paired : (op : Op) (rate : Rate) (a b : Value RowSound) → Grows (paired op rate a b)
grows_paired op rate (Number j) (Number k) rows = first_self rows
grows_paired op rate (Number k) (Sound b) rows = let x = brought rate b rows in first_then rows x.rows _ (grows_brought rate b rows) (grows_over (kind_of_op op) (each_value (operation op (sat_sample k))) x.gives x.rows)
grows_paired op rate (Sound a) (Number k) rows = let x = brought rate a rows in first_then rows x.rows _ (grows_brought rate a rows) (grows_over (kind_of_op op) (each_value (λ x. operation op x (sat_sample k))) x.gives x.rows)
grows_paired op rate (Sound a) (Sound b) rows =
    let x = brought rate a rows in
    let y = brought rate b x.rows in
    first_then rows x.rows _ (grows_brought rate a rows) (first_then x.rows y.rows _ (grows_brought rate b x.rows)
    (grows_unit (kind_of_op op) (pair_timing op x.gives.timing y.gives.timing) (input x.gives ∷ input y.gives ∷ []) (λ ss. (combined (pair_timing op) (operation op) (first ss) (second ss)).samples) y.rows))

pub grows_negated : (rate : Rate) (a : Value RowSound) → Grows (negated rate a)
grows_negated rate (Number k) rows = first_self rows
grows_negated rate (Sound s) rows = let x = brought rate s rows in first_then rows x.rows _ (grows_brought rate s rows) (grows_over Sub (each_value (sample_sub (pos 0))) x.gives x.rows)

pub grows_cued : (env : Env) (s : RowSound) → Grows (cued env s)
grows_cued env s = grows_choice (is_one env.loud) (given (shown s.row (cue_timing env s.timing))) (row_over Mul (each_value (louder_value env.loud)) (shown s.row (cue_timing env s.timing))) (grows_given (shown s.row (cue_timing env s.timing)))
    (grows_over Mul (each_value (louder_value env.loud)) (shown s.row (cue_timing env s.timing)))

pub grows_leaf_by : (o : Option UnitKind) (t : Timing) (m : sounds.Sound) → Grows (leaf_by o t m)
grows_leaf_by None t m = grows_given (shown None t)
grows_leaf_by (Some kind) t m = grows_unit kind t [] _

pub grows_mixed : (rate : Rate) (is : List Input) → Grows (mixed rate is)
grows_mixed rate is = grows_unit Mix (mix_timing rate (map (λ (i : Input). i.sound.timing) is)) _ _

pub grows_channel : (s : RowSound) → Grows (channel_row s)
grows_channel s = grows_unit _ _ (input s ∷ []) _

-- ---- mixes

-- a part that only adds rows
abbrev pub PartGrows : Part → Type 0
PartGrows part = (from : Env) → Grows (part.sound from)

pub grows_sounds : (env : Env) (parts : List Part) → AllByRecursion PartGrows parts → Grows (each (λ (part : Part). part.sound env) parts)
grows_sounds env [] h rows = first_self rows
grows_sounds env (p ∷ ps) h rows = let a = p.sound env rows in first_then rows a.rows _ (h.0 env rows) (grows_sounds env ps h.1 a.rows)

pub grows_together : (env : Env) (parts : List Part) → AllByRecursion PartGrows parts → Grows (parts_together env parts)
grows_together env parts h rows =
    let a = each (λ (part : Part). part.sound env) parts rows in
    first_then rows a.rows _ (grows_sounds env parts h rows) (grows_each (brought env.sound_rate) (grows_brought env.sound_rate) a.gives a.rows)

pub grows_next : (env : Env) (stop : ℕ) (part : Part) → PartGrows part → Grows (next_part env stop part)
grows_next env stop part h rows =
    let a = part.sound (from_stop env stop) rows in first_then rows a.rows _ (h (from_stop env stop) rows) (grows_brought env.sound_rate a.gives a.rows)

pub grows_after : (env : Env) (stop : ℕ) (parts : List Part) → AllByRecursion PartGrows parts → Grows (parts_after env stop parts)
grows_after env stop [] h rows = first_self rows
grows_after env stop (part ∷ parts) h rows =
    let a = next_part env stop part rows in first_then rows a.rows _ (grows_next env stop part h.0 rows) (grows_after env a.gives.timing.stop parts h.1 a.rows)

pub grows_in_turn : (env : Env) (parts : List Part) → AllByRecursion PartGrows parts → Grows (parts_in_turn env parts)
grows_in_turn env [] h rows = first_self rows
grows_in_turn env (part ∷ parts) h rows =
    let a = part.sound env rows in
    let b = brought env.sound_rate a.gives a.rows in
    first_then rows a.rows _ (h.0 env rows) (first_then a.rows b.rows _ (grows_brought env.sound_rate a.gives a.rows) (grows_after env b.gives.timing.stop parts h.1 b.rows))

grows_parts : (o : Order) (env : Env) (parts : List Part) → AllByRecursion PartGrows parts → Grows (parts_in o env parts)
grows_parts order.Together env parts h = grows_together env parts h
grows_parts order.InTurn env parts h = grows_in_turn env parts h

-- ---- expressions

-- so it is in each environment and under all names
abbrev pub MakesGrow : Makes → Type 0
MakesGrow f = (env : Env) (names : Names) → Grows (f env names)

pub grows_value_by : (s : Scalar) (sound : Step RowSound) → Grows sound → Grows (value_by s sound)
grows_value_by (scalar.Number v) sound g rows = first_self rows
grows_value_by (scalar.Test b) sound g rows = g rows
grows_value_by scalar.Sound sound g rows = g rows

module _ (code : Code) (rec : ℕ → Makes) (grow : (e : ℕ) → MakesGrow (rec e)) where
  pub grows_value : (env : Env) (names : Names) (e : ExprId) → Grows (value_of code rec env names e)
  grows_value env names e = grows_value_by (scalar_of code e.0 (scalars_of names)) (rec e.0 env names) (grow e.0 env names)

  pub grows_names : (env : Env) (bs : List (NameId × ExprId)) (names : Names) → Grows (names_after code rec env bs names)
  grows_names env [] names rows = first_self rows
  grows_names env (b ∷ bs) names rows = let a = value_of code rec env names b.1 rows in first_then rows a.rows _ (grows_value env names b.1 rows) (grows_names env bs (names ++ (b.0, a.gives) ∷ []) a.rows)

  pub part_grows : (names : Names) (e : ExprId) → PartGrows (part_of code rec names e)
  part_grows names e from = grow e.0 from names

  pub parts_grow : (names : Names) (es : List ExprId) → AllByRecursion PartGrows (map (part_of code rec names) es)
  parts_grow names [] = tt
  parts_grow names (e ∷ es) = (part_grows names e, parts_grow names es)

  pub repeats_grow : (names : Names) (i : NameId) (e : ExprId) (ks : List ℕ) → AllByRecursion PartGrows (map (λ k. part_of code rec (names ++ (i, Number (pos (k * 1000000))) ∷ []) e) ks)
  repeats_grow names i e [] = tt
  repeats_grow names i e (k ∷ ks) = (part_grows (names ++ (i, Number (pos (k * 1000000))) ∷ []) e, repeats_grow names i e ks)

  node_grows : (at : Node) → MakesGrow (made_at code at rec)
  node_grows (node.Call f es) env names =
      grows_then (each (value_of code rec env names) es) (λ vs. rec (function_at code f.0).body.0 env (zip (function_at code f.0).params vs)) (grows_each (value_of code rec env names) (grows_value env names) es)
      (λ vs. grow (function_at code f.0).body.0 env (zip (function_at code f.0).params vs))
  node_grows (node.Block bs e) env names = grows_then (names_after code rec env bs names) (λ inner. rec e.0 env inner) (grows_names env bs names) (λ inner. grow e.0 env inner)
  node_grows (node.If c a b) env names = grows_choice (test_of code c (scalars_of names)) (rec a.0 env names) (rec b.0 env names) (grow a.0 env names) (grow b.0 env names)
  node_grows (node.Pair op a b) env names =
      grows_then (value_of code rec env names a) (λ v. and_then (value_of code rec env names b) (λ w. paired op env.sound_rate v w)) (grows_value env names a)
      (λ v. grows_then (value_of code rec env names b) (λ w. paired op env.sound_rate v w) (grows_value env names b) (λ w. grows_paired op env.sound_rate v w))
  node_grows (node.Neg a) env names = grows_then (value_of code rec env names a) (negated env.sound_rate) (grows_value env names a) (grows_negated env.sound_rate)
  node_grows (node.Leaf w es) env names = grows_leaf_by (kind_of_generator w) (leaf_time w env (map (number code names) es)) (leaf_sound w env (map (number code names) es))
  node_grows (node.Effect w e es) env names = grows_then (rec e.0 env names) (row_over (kind_of_effect w) (effect_sound w (map (number code names) es))) (grow e.0 env names) (grows_over (kind_of_effect w) (effect_sound w (map (number code names) es)))
  node_grows (node.Cue e) env names = grows_then (rec e.0 env names) (cued env) (grow e.0 env names) (grows_cued env)
  node_grows (node.Mix o es) env names = grows_then (parts_in o env (map (part_of code rec names) es)) (mixed env.sound_rate) (grows_parts o env (map (part_of code rec names) es) (parts_grow names es)) (grows_mixed env.sound_rate)
  node_grows (node.Repeat o i n e) env names = grows_then (parts_in o env (repeated_parts code rec names i n e)) (mixed env.sound_rate) (grows_parts o env (repeated_parts code rec names i n e) (repeats_grow names i e (range_with_len 0 n))) (grows_mixed env.sound_rate)
  node_grows (node.Change c e) env names = grow e.0 (changed_env c (number code names) env) names
  node_grows (node.Local x) env names = grows_given (sound_in env.sound_rate (unwrap_or (last_of (same_name x) names) (Sound (silent env.sound_rate))))
  node_grows _ env names = grows_given (silent env.sound_rate)

pub made_grows : (code : Code) (e : ℕ) → MakesGrow (made code e)
unfolding made
made_grows code e = by_smaller-all MakesGrow (λ env names. given (silent env.sound_rate)) (λ e rec. made_at code (node_at code e) rec)
    (λ env names. grows_given (silent env.sound_rate)) (λ n f grow. node_grows code f grow (node_at code n)) e

-- ---- what is played

abbrev pub PlaysGrow : (Env → Names → Step (List RowSound)) → Type 0
PlaysGrow f = (env : Env) (names : Names) → Grows (f env names)

module _ (code : Code) (rec : ℕ → Env → Names → Step (List RowSound)) (grow : (e : ℕ) → PlaysGrow (rec e)) where
  grows_one : (e : ℕ) → PlaysGrow (λ env names. and_then (made code e env names) (λ s. given (s ∷ [])))
  grows_one e env names = grows_then (made code e env names) (λ s. given (s ∷ [])) (made_grows code e env names) (λ s. grows_given (s ∷ []))

  played_node : (e : ℕ) (at : Node) → PlaysGrow (played_at code e at rec)
  played_node e (node.Vector es) env names = grows_each (operand code env names) (λ a. made_grows code a.0 env names) es
  played_node e (node.Call f es) env names =
      grows_then (each (value_of code (made code) env names) es) (λ vs. rec (function_at code f.0).body.0 env (zip (function_at code f.0).params vs)) (grows_each (value_of code (made code) env names) (grows_value code (made code) (made_grows code) env names) es)
      (λ vs. grow (function_at code f.0).body.0 env (zip (function_at code f.0).params vs))
  played_node e (node.Block bs value) env names = grows_then (names_after code (made code) env bs names) (λ inner. rec value.0 env inner) (grows_names code (made code) (made_grows code) env bs names) (λ inner. grow value.0 env inner)
  played_node e (node.If c a b) env names = grows_choice (test_of code c (scalars_of names)) (rec a.0 env names) (rec b.0 env names) (grow a.0 env names) (grow b.0 env names)
  played_node e _ env names = grows_one e env names

pub played_grows : (code : Code) (e : ℕ) → PlaysGrow (played code e)
unfolding played
played_grows code e = by_smaller-all PlaysGrow (λ env names. given []) (λ e rec. played_at code e (node_at code e) rec)
    (λ env names. grows_given {A = List RowSound} []) (λ n f grow. played_node code f grow n (node_at code n)) e
