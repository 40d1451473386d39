-- When the sound is heard that an expression means.
use Rattle.std.proofs.Common.{◌≡◌, ℕ, zero, suc, ◌+◌, ◌*◌, Bool, true, false, List, [], ◌∷◌, ◌++◌, map, refl, sym, ap, ◌∙◌, pos, ℤ}
use Rattle.std.specs.Prelude.{if◌then◌else◌, zip, nat_lt, unwrap_or}
use Rattle.std.specs.List.{range_with_len}
use Rattle.ny_num.specs.Grid.{index_at}
use Rattle.ny_num.specs.Numbers.{sample_abs}
use Rattle.ny_num.specs.declared.rate.Rate.{Rate}
use Rattle.ny_num.specs.declared.timing.Timing.{Timing}
use Rattle.ny_num.specs.Sound as sounds
use Rattle.ny_num.specs.Sound.{timing_of, silence, placed, placed_timing, cued}
use Rattle.ny_num.specs.Leaves.{louder_value}
use Rattle.ny_num.specs.Pointwise.{each_value}
use Rattle.ny_num.specs.Resampling.{resampled, resampled_timing}
use Rattle.ny_num.specs.Filters.{comb_delay}
use Rattle.ny_num.specs.Mix.{mix, mix_timing}
use Rattle.ny_num.proofs.SoundTimings.{timing_of-sound_of, timing_of-leaf, timing_of-silence, timing_of-placed, timing_of-cued, timing_of-combined, timing_of-each_value, timing_of-resampled, timing_of-one_pole, timing_of-biquad, timing_of-comb, timing_of-mix}
use Rattle.ny_warp.specs.declared.env.Env.{Env}
use Rattle.ny_warp.specs.Environment.{from_stop}
use Rattle.ny_kernels.specs.Operations.{operation}
use Rattle.ny_resolve.specs.declared.term.NameId.{NameId}
use Rattle.ny_scope.specs.Scopes.{last_of}
use Rattle.ny_scope.proofs.Mapped.{with_value, last_of-with}
use Rattle.ny_resolve.specs.Keys.{same_name}
use Rattle.ny_check.specs.declared.node.Node.{Node}
use Rattle.ny_check.specs.declared.node.Node.TheVariants as node
use Rattle.ny_check.specs.declared.node.ExprId.{ExprId}
use Rattle.ny_check.specs.declared.node.Generator.{Generator}
use Rattle.ny_check.specs.declared.node.Generator.TheVariants as generator
use Rattle.ny_check.specs.declared.node.Effect.{Effect}
use Rattle.ny_check.specs.declared.node.Effect.TheVariants as effect
use Rattle.ny_resolve.specs.declared.builtin.Order.{Order}
use Rattle.ny_resolve.specs.declared.builtin.Order.TheVariants as order
use Rattle.ny_check.specs.declared.value.Scalar.{Scalar}
use Rattle.ny_check.specs.declared.value.Scalar.TheVariants as scalar
use Rattle.ny_check.specs.declared.value.Value.{Value}
use Rattle.ny_check.specs.declared.value.Value.TheVariants.{Number, Sound}
use Rattle.ny_check.specs.Code.{Code, node_at, function_at}
use Rattle.ny_check.specs.Recursion.{below, turns, by_smaller}
use Rattle.ny_check.specs.Values.{Scalars, scalars_of, scalar_of, number_of, test_of, scalar_in}
use Rattle.ny_check.specs.Behaviours.{const_sound, rest_sound, ramp_sound, osc_sound, hzosc_sound, lfo_sound, noise_sound, envelope_sound, cue_sound, cue_timing, cue_shift, is_one, sustained_timing, plain_timing, rest_timing, envelope_end}
use Rattle.ny_check.specs.Families.{number_at, pair_timing, leaf_sound, leaf_time, effect_sound, changed_env}
use Rattle.ny_check.specs.Parts.{parts_together, parts_in_turn, parts_in, parts_after, brought, next_part}
use Rattle.ny_check.specs.Meaning as meant
use Rattle.ny_check.specs.Meaning.{Bound, Means, meaning, sound_node, value_of, value_by, bound_after, combined_values, negated_value, part_of, repeated_part, repeated_parts, sound_in}
use Rattle.ny_timing.specs.Timings.{Timed, Times, timed, timed_value, timing_in, timed_by, timed_value_of, timed_after, combined_times, negated_time, times_after, times_in_turn, times_together, times_in, brought_time, next_time, time_of_part, time_of_repeat, times_of_repeats, timing_node, timing_at, no_time}

-- ---- names

scalar_in-timed : (v : Value sounds.Sound) → scalar_in (timed_value v) ≡ scalar_in v
scalar_in-timed (Number v) = refl
scalar_in-timed (Sound s) = refl

pub scalars_of-timed : (bound : Bound) → scalars_of (timed bound) ≡ scalars_of bound
scalars_of-timed [] = refl
scalars_of-timed (b ∷ bs) =
    let first = scalar_in-timed b.1 in
    let rest = scalars_of-timed bs in
    cc

timed-push : (bound : Bound) (x : NameId) (v : Value sounds.Sound) → timed (bound ++ (x, v) ∷ []) ≡ timed bound ++ (x, timed_value v) ∷ []
timed-push [] x v = refl
timed-push (b ∷ bs) x v = ap (λ (rest : Timed). (b.0, timed_value b.1) ∷ rest) (timed-push bs x v)

pub timed-zip : (xs : List NameId) (vs : List (Value sounds.Sound)) → timed (zip xs vs) ≡ zip xs (map timed_value vs)
timed-zip [] vs = refl
timed-zip (x ∷ xs) [] = refl
timed-zip (x ∷ xs) (v ∷ vs) = ap (λ (rest : Timed). (x, timed_value v) ∷ rest) (timed-zip xs vs)

timed-is : (bound : Bound) → timed bound ≡ map (with_value timed_value) bound
timed-is [] = refl
timed-is (b ∷ bs) = ap (λ (rest : Timed). (b.0, timed_value b.1) ∷ rest) (timed-is bs)

-- what a name stands for
abbrev named : {S : Type 0} → NameId → List (NameId × Value S) → Value S → Value S
named x names other = unwrap_or (last_of (same_name x) names) other

named-timed : (bound : Bound) (x : NameId) (other : Value sounds.Sound) → timed_value (named x bound other) ≡ named x (timed bound) (timed_value other)
named-timed bound x other =
    sym (last_of-with timed_value (same_name x) bound other)
    ∙ ap (λ (w : Timed). named x w (timed_value other)) (sym (timed-is bound))

timing_of-sound_in : (rate : Rate) (v : Value sounds.Sound) → timing_of (sound_in rate v) ≡ timing_in rate (timed_value v)
timing_of-sound_in rate (Number v) = timing_of-silence rate
timing_of-sound_in rate (Sound s) = refl

-- ---- leaves and cues

timing_of-const : (env : Env) (v d : ℤ) → timing_of (const_sound env v d) ≡ sustained_timing env.sound_rate env d
unfolding const_sound
timing_of-const env v d = timing_of-leaf _ _

timing_of-osc : (env : Env) (key d : ℤ) → timing_of (osc_sound env key d) ≡ sustained_timing env.sound_rate env d
unfolding osc_sound
timing_of-osc env key d = timing_of-leaf _ _

timing_of-hzosc : (env : Env) (hz d : ℤ) → timing_of (hzosc_sound env hz d) ≡ sustained_timing env.sound_rate env d
unfolding hzosc_sound
timing_of-hzosc env hz d = timing_of-leaf _ _

timing_of-noise : (env : Env) (v d : ℤ) → timing_of (noise_sound env v d) ≡ sustained_timing env.sound_rate env d
unfolding noise_sound
timing_of-noise env v d = timing_of-leaf _ _

timing_of-lfo : (env : Env) (hz d : ℤ) → timing_of (lfo_sound env hz d) ≡ sustained_timing env.control_rate env d
unfolding lfo_sound
timing_of-lfo env hz d = timing_of-leaf _ _

timing_of-rest : (env : Env) (d : ℤ) → timing_of (rest_sound env d) ≡ rest_timing env d
unfolding rest_sound
timing_of-rest env d = timing_of-leaf _ _

timing_of-ramp : (env : Env) (d : ℤ) → timing_of (ramp_sound env d) ≡ plain_timing env.control_rate env d
unfolding ramp_sound
timing_of-ramp env d = timing_of-leaf _ _

timing_of-envelope : (env : Env) (numbers : List ℤ) → timing_of (envelope_sound env numbers) ≡ plain_timing env.control_rate env (envelope_end numbers)
unfolding envelope_sound
timing_of-envelope env numbers = timing_of-sound_of _ _

-- each leaf is heard by its row
timing_of-leaf_sound : (w : Generator) (env : Env) (ns : List ℤ) → timing_of (leaf_sound w env ns) ≡ leaf_time w env ns
timing_of-leaf_sound generator.Const env ns = timing_of-const env _ _
timing_of-leaf_sound generator.Osc env ns = timing_of-osc env _ _
timing_of-leaf_sound generator.HzOsc env ns = timing_of-hzosc env _ _
timing_of-leaf_sound generator.Lfo env ns = timing_of-lfo env _ _
timing_of-leaf_sound generator.Noise env ns = timing_of-noise env _ _
timing_of-leaf_sound generator.Rest env ns = timing_of-rest env _
timing_of-leaf_sound generator.Ramp env ns = timing_of-ramp env _
timing_of-leaf_sound generator.Pwl env ns = timing_of-envelope env ns

-- an effect is heard when its sound is heard
timing_of-effect : (w : Effect) (ns : List ℤ) (s : sounds.Sound) → timing_of (effect_sound w ns s) ≡ timing_of s
timing_of-effect effect.Abs ns s = timing_of-each_value sample_abs s
timing_of-effect effect.OnePole ns s = timing_of-one_pole _ s
timing_of-effect effect.Biquad ns s = timing_of-biquad _ s
timing_of-effect effect.Comb ns s = timing_of-comb (comb_delay s.rate (number_at ns 0)) (number_at ns 1) s

rate_of : (s : sounds.Sound) → (timing_of s).rate ≡ s.rate
unfolding timing_of
rate_of s = refl

stop_of : (s : sounds.Sound) → (timing_of s).stop ≡ s.stop
unfolding timing_of
stop_of s = refl

by_loudness : (one : Bool) (f : ℤ → ℤ) (s : sounds.Sound) → timing_of (if one then s else each_value f s) ≡ timing_of s
by_loudness true f s = refl
by_loudness false f s = timing_of-each_value f s

timing_of-cue : (env : Env) (s : sounds.Sound) → timing_of (cue_sound env s) ≡ cue_timing env (timing_of s)
unfolding cue_sound cue_timing
timing_of-cue env s =
    by_loudness (is_one env.loud) (louder_value env.loud) (cued (cue_shift env s.rate) s)
    ∙ timing_of-cued (cue_shift env s.rate) s
    ∙ ap (λ (r : Rate). sounds.cued_timing (cue_shift env r) (timing_of s)) (sym (rate_of s))

-- ---- pointwise sounds

timing_of-combined_values : (timing : Timing → Timing → Timing) (operation : ℤ → ℤ → ℤ) (rate : Rate) (v w : Value sounds.Sound) → timing_of (combined_values timing operation rate v w) ≡ combined_times timing rate (timed_value v) (timed_value w)
timing_of-combined_values timing operation rate (Number j) (Number k) = timing_of-silence rate
timing_of-combined_values timing operation rate (Number k) (Sound b) = timing_of-each_value _ (resampled rate b) ∙ timing_of-resampled rate b
timing_of-combined_values timing operation rate (Sound a) (Number k) = timing_of-each_value _ (resampled rate a) ∙ timing_of-resampled rate a
timing_of-combined_values timing operation rate (Sound a) (Sound b) =
    timing_of-combined timing operation (resampled rate a) (resampled rate b)
    ∙ ap (λ (t : Timing). timing t (timing_of (resampled rate b))) (timing_of-resampled rate a)
    ∙ ap (λ (t : Timing). timing (resampled_timing rate (timing_of a)) t) (timing_of-resampled rate b)

timing_of-negated : (rate : Rate) (v : Value sounds.Sound) → timing_of (negated_value rate v) ≡ negated_time rate (timed_value v)
timing_of-negated rate (Number k) = timing_of-silence rate
timing_of-negated rate (Sound s) = timing_of-each_value _ (resampled rate s) ∙ timing_of-resampled rate s

-- ---- values

-- at each number the one is when the other is heard
pub record Agrees (f : ℕ → Means) (g : ℕ → Times) : Type 0 where
  pub at : (m : ℕ) (env : Env) (bound : Bound) → timing_of (f m env bound) ≡ g m env (timed bound)

value_by-timed : (c : Scalar) (s : sounds.Sound) → timed_value (value_by c s) ≡ timed_by c (timing_of s)
value_by-timed (scalar.Number v) s = refl
value_by-timed (scalar.Test b) s = refl
value_by-timed scalar.Sound s = refl

pub value_of-timed : (code : Code) (f : ℕ → Means) (g : ℕ → Times) → Agrees f g → (env : Env) (bound : Bound) (e : ExprId) → timed_value (value_of code f env bound e) ≡ timed_value_of code g env (timed bound) e
value_of-timed code f g h env bound e =
    value_by-timed (scalar_of code e.0 (scalars_of bound)) (f e.0 env bound)
    ∙ rw (h.at e.0 env bound, scalars_of-timed bound)

pub values-timed : (code : Code) (f : ℕ → Means) (g : ℕ → Times) → Agrees f g → (env : Env) (bound : Bound) (es : List ExprId) → map timed_value (map (value_of code f env bound) es) ≡ map (timed_value_of code g env (timed bound)) es
values-timed code f g h env bound [] = refl
values-timed code f g h env bound (e ∷ es) =
    let first = value_of-timed code f g h env bound e in
    let rest = values-timed code f g h env bound es in
    cc

-- the names of a called body
pub arguments-timed : (code : Code) (f : ℕ → Means) (g : ℕ → Times) → Agrees f g → (env : Env) (bound : Bound) (xs : List NameId) (es : List ExprId) → timed (zip xs (map (value_of code f env bound) es)) ≡ zip xs (map (timed_value_of code g env (timed bound)) es)
arguments-timed code f g h env bound xs es =
    timed-zip xs (map (value_of code f env bound) es) ∙ ap (zip xs) (values-timed code f g h env bound es)

pub bound_after-timed : (code : Code) (f : ℕ → Means) (g : ℕ → Times) → Agrees f g → (env : Env) (bs : List (NameId × ExprId)) (bound : Bound) → timed (bound_after code f env bs bound) ≡ timed_after code g env bs (timed bound)
bound_after-timed code f g h env [] bound = refl
bound_after-timed code f g h env (b ∷ bs) bound =
    bound_after-timed code f g h env bs (bound ++ (b.0, value_of code f env bound b.1) ∷ [])
    ∙ ap (timed_after code g env bs)
    (timed-push bound b.0 (value_of code f env bound b.1)
    ∙ ap (λ (v : Value Timing). timed bound ++ (b.0, v) ∷ []) (value_of-timed code f g h env bound b.1))

-- ---- parts

abbrev SameTimes : List (Env → sounds.Sound) → List (Env → Timing) → Type 0
SameTimes [] [] = Unit {0}
SameTimes [] (t ∷ ts) = ⊥
SameTimes (p ∷ ps) [] = ⊥
SameTimes (p ∷ ps) (t ∷ ts) = ((env : Env) → timing_of (p env) ≡ t env) × SameTimes ps ts

brought-timed : (env : Env) (p : Env → sounds.Sound) (t : Env → Timing) → ((from : Env) → timing_of (p from) ≡ t from) → timing_of (brought env p) ≡ brought_time env t
brought-timed env p t h = timing_of-resampled env.sound_rate (p env) ∙ ap (resampled_timing env.sound_rate) (h env)

next-timed : (env : Env) (stop : ℕ) (p : Env → sounds.Sound) (t : Env → Timing) → ((from : Env) → timing_of (p from) ≡ t from) → timing_of (next_part env stop p) ≡ next_time env stop t
next-timed env stop p t h =
    timing_of-placed (index_at stop env.sound_rate) (resampled env.sound_rate (p (from_stop env stop)))
    ∙ ap (placed_timing (index_at stop env.sound_rate))
    (timing_of-resampled env.sound_rate (p (from_stop env stop)) ∙ ap (resampled_timing env.sound_rate) (h (from_stop env stop)))

together-timed : (env : Env) (ps : List (Env → sounds.Sound)) (ts : List (Env → Timing)) → SameTimes ps ts → map timing_of (parts_together env ps) ≡ times_together env ts
together-timed env [] [] h = refl
together-timed env [] (t ∷ ts) h = absurd h
together-timed env (p ∷ ps) [] h = absurd h
together-timed env (p ∷ ps) (t ∷ ts) h =
    let first : timing_of (brought env p) ≡ brought_time env t = brought-timed env p t h.0 in
    let rest : map timing_of (parts_together env ps) ≡ times_together env ts = together-timed env ps ts h.1 in
    cc

after-timed : (env : Env) (stop : ℕ) (ps : List (Env → sounds.Sound)) (ts : List (Env → Timing)) → SameTimes ps ts → map timing_of (parts_after env stop ps) ≡ times_after env stop ts
after-timed env stop [] [] h = refl
after-timed env stop [] (t ∷ ts) h = absurd h
after-timed env stop (p ∷ ps) [] h = absurd h
after-timed env stop (p ∷ ps) (t ∷ ts) h =
    let s = next_part env stop p in
    let u = next_time env stop t in
    let first : timing_of s ≡ u = next-timed env stop p t h.0 in
    let same : s.stop ≡ u.stop = sym (stop_of s) ∙ ap (λ (v : Timing). v.stop) first in
    let rest : map timing_of (parts_after env s.stop ps) ≡ times_after env u.stop ts = after-timed env s.stop ps ts h.1 ∙ ap (λ n. times_after env n ts) same in
    cc

in_turn-timed : (env : Env) (ps : List (Env → sounds.Sound)) (ts : List (Env → Timing)) → SameTimes ps ts → map timing_of (parts_in_turn env ps) ≡ times_in_turn env ts
in_turn-timed env [] [] h = refl
in_turn-timed env [] (t ∷ ts) h = absurd h
in_turn-timed env (p ∷ ps) [] h = absurd h
in_turn-timed env (p ∷ ps) (t ∷ ts) h =
    let s = brought env p in
    let u = brought_time env t in
    let first : timing_of s ≡ u = brought-timed env p t h.0 in
    let same : s.stop ≡ u.stop = sym (stop_of s) ∙ ap (λ (v : Timing). v.stop) first in
    let rest : map timing_of (parts_after env s.stop ps) ≡ times_after env u.stop ts = after-timed env s.stop ps ts h.1 ∙ ap (λ n. times_after env n ts) same in
    cc

same_parts : (f : ℕ → Means) (g : ℕ → Times) → Agrees f g → (bound : Bound) (es : List ExprId) → SameTimes (map (part_of f bound) es) (map (time_of_part g (timed bound)) es)
same_parts f g h bound [] = tt
same_parts f g h bound (e ∷ es) = (λ env. h.at e.0 env bound, same_parts f g h bound es)

same_repeats : (f : ℕ → Means) (g : ℕ → Times) → Agrees f g → (bound : Bound) (i : NameId) (e : ExprId) (ks : List ℕ) → SameTimes (map (repeated_part f bound i e) ks) (map (time_of_repeat g (timed bound) i e) ks)
same_repeats f g h bound i e [] = tt
same_repeats f g h bound i e (k ∷ ks) =
    (λ env. h.at e.0 env (bound ++ (i, Number (pos (k * 1000000))) ∷ []) ∙ ap (g e.0 env) (timed-push bound i (Number (pos (k * 1000000)))), same_repeats f g h bound i e ks)

mix_together-timed : (env : Env) (ps : List (Env → sounds.Sound)) (ts : List (Env → Timing)) → SameTimes ps ts → timing_of (mix env.sound_rate (parts_together env ps)) ≡ mix_timing env.sound_rate (times_together env ts)
mix_together-timed env ps ts h = timing_of-mix env.sound_rate (parts_together env ps) ∙ ap (mix_timing env.sound_rate) (together-timed env ps ts h)

mix_in_turn-timed : (env : Env) (ps : List (Env → sounds.Sound)) (ts : List (Env → Timing)) → SameTimes ps ts → timing_of (mix env.sound_rate (parts_in_turn env ps)) ≡ mix_timing env.sound_rate (times_in_turn env ts)
mix_in_turn-timed env ps ts h = timing_of-mix env.sound_rate (parts_in_turn env ps) ∙ ap (mix_timing env.sound_rate) (in_turn-timed env ps ts h)

mix_in-timed : (o : Order) (env : Env) (ps : List (Env → sounds.Sound)) (ts : List (Env → Timing)) → SameTimes ps ts → timing_of (mix env.sound_rate (parts_in o env ps)) ≡ mix_timing env.sound_rate (times_in o env ts)
mix_in-timed order.Together env ps ts h = mix_together-timed env ps ts h
mix_in-timed order.InTurn env ps ts h = mix_in_turn-timed env ps ts h

-- ---- nodes

timing_of-if : (b : Bool) (s t : sounds.Sound) (u v : Timing) → timing_of s ≡ u → timing_of t ≡ v → timing_of (if b then s else t) ≡ (if b then u else v)
timing_of-if true s t u v h k = h
timing_of-if false s t u v h k = k

pair-timed : (code : Code) (f : ℕ → Means) (g : ℕ → Times) → Agrees f g → (timing : Timing → Timing → Timing) (operation : ℤ → ℤ → ℤ) (env : Env) (bound : Bound) (a b : ExprId) → timing_of (combined_values timing operation env.sound_rate (value_of code f env bound a) (value_of code f env bound b)) ≡ combined_times timing env.sound_rate (timed_value_of code g env (timed bound) a) (timed_value_of code g env (timed bound) b)
pair-timed code f g h timing operation env bound a b =
    timing_of-combined_values timing operation env.sound_rate (value_of code f env bound a) (value_of code f env bound b)
    ∙ ap (λ (v : Value Timing). combined_times timing env.sound_rate v (timed_value (value_of code f env bound b))) (value_of-timed code f g h env bound a)
    ∙ ap (λ (v : Value Timing). combined_times timing env.sound_rate (timed_value_of code g env (timed bound) a) v) (value_of-timed code f g h env bound b)

pub sound_node-timed : (code : Code) (f : ℕ → Means) (g : ℕ → Times) → Agrees f g → (at : Node) (env : Env) (bound : Bound) → timing_of (sound_node code at f env bound) ≡ timing_node code at g env (timed bound)
sound_node-timed code f g h (node.Local x) env bound =
    timing_of-sound_in env.sound_rate (named x bound (Sound (silence env.sound_rate)))
    ∙ ap (timing_in env.sound_rate) (named-timed bound x (Sound (silence env.sound_rate)))
    ∙ ap (λ (t : Timing). timing_in env.sound_rate (named x (timed bound) (Sound t))) (timing_of-silence env.sound_rate)
sound_node-timed code f g h (node.Call k es) env bound =
    h.at (function_at code k.0).body.0 env (zip (function_at code k.0).params (map (value_of code f env bound) es))
    ∙ ap (g (function_at code k.0).body.0 env) (arguments-timed code f g h env bound (function_at code k.0).params es)
sound_node-timed code f g h (node.Block bs e) env bound =
    h.at e.0 env (bound_after code f env bs bound) ∙ ap (g e.0 env) (bound_after-timed code f g h env bs bound)
sound_node-timed code f g h (node.If c a b) env bound =
    rw (scalars_of-timed bound) (timing_of-if (test_of code c (scalars_of bound)) (f a.0 env bound) (f b.0 env bound) (g a.0 env (timed bound)) (g b.0 env (timed bound)) (h.at a.0 env bound) (h.at b.0 env bound))
sound_node-timed code f g h (node.Pair op a b) env bound = pair-timed code f g h (pair_timing op) (operation op) env bound a b
sound_node-timed code f g h (node.Neg a) env bound =
    timing_of-negated env.sound_rate (value_of code f env bound a)
    ∙ ap (negated_time env.sound_rate) (value_of-timed code f g h env bound a)
sound_node-timed code f g h (node.Leaf w es) env bound =
    timing_of-leaf_sound w env (map (meant.number code bound) es)
    ∙ ap (λ (names : Scalars). leaf_time w env (map (λ (e : ExprId). number_of code e names) es)) (sym (scalars_of-timed bound))
sound_node-timed code f g h (node.Effect w e es) env bound = timing_of-effect w (map (meant.number code bound) es) (f e.0 env bound) ∙ h.at e.0 env bound
sound_node-timed code f g h (node.Cue e) env bound = timing_of-cue env (f e.0 env bound) ∙ ap (cue_timing env) (h.at e.0 env bound)
sound_node-timed code f g h (node.Mix o es) env bound =
    mix_in-timed o env (map (part_of f bound) es) (map (time_of_part g (timed bound)) es) (same_parts f g h bound es)
sound_node-timed code f g h (node.Repeat o i n e) env bound =
    mix_in-timed o env (repeated_parts f bound i n e) (times_of_repeats g (timed bound) i n e) (same_repeats f g h bound i e (range_with_len 0 n))
sound_node-timed code f g h (node.Change c e) env bound =
    h.at e.0 (changed_env c (meant.number code bound) env) bound
    ∙ ap (λ (names : Scalars). g e.0 (changed_env c (λ (k : ExprId). number_of code k names) env) (timed bound)) (sym (scalars_of-timed bound))
sound_node-timed code f g h _ env bound = timing_of-silence env.sound_rate

-- ---- the recursion

by_case : (b : Bool) (f : Means) (g : Times) (env : Env) (bound : Bound) → timing_of (f env bound) ≡ g env (timed bound) → timing_of ((if b then f else (λ from names. silence from.sound_rate)) env bound) ≡ (if b then g else (λ from names. no_time from.sound_rate)) env (timed bound)
by_case true f g env bound h = h
by_case false f g env bound h = timing_of-silence env.sound_rate

below-agrees : (n : ℕ) (f : ℕ → Means) (g : ℕ → Times) → Agrees f g → Agrees (below n (λ env bound. silence env.sound_rate) f) (below n (λ env bound. no_time env.sound_rate) g)
below-agrees n f g h = record { at = λ m env bound. by_case (nat_lt m n) (f m) (g m) env bound (h.at m env bound) }

turns-agrees : (code : Code) (k : ℕ) → Agrees (turns (λ env bound. silence env.sound_rate) (λ e rec. sound_node code (node_at code e) rec) k) (turns (λ env bound. no_time env.sound_rate) (λ e rec. timing_node code (node_at code e) rec) k)
turns-agrees code zero = record { at = λ m env bound. timing_of-silence env.sound_rate }
turns-agrees code (suc k) = record {
  at = λ m env bound.
      sound_node-timed code _ _ (below-agrees m _ _ (turns-agrees code k)) (node_at code m) env bound;
}

-- the timing of the meaning, from the timings of the bound sounds
pub timing_of-meaning : (code : Code) (e : ℕ) (env : Env) (bound : Bound) → timing_of (meaning code e env bound) ≡ timing_at code e env (timed bound)
unfolding meaning timing_at by_smaller
timing_of-meaning code e env bound = (turns-agrees code (e + 1)).at e env bound

-- the same, for whoever has the timings
pub meant_time : (code : Code) (e : ℕ) (env : Env) (bound : Bound) (names : Timed) (t : Timing) → timed bound ≡ names → t ≡ timing_at code e env names → t ≡ timing_of (meaning code e env bound)
meant_time code e env bound names t same is = is ∙ ap (timing_at code e env) (sym same) ∙ sym (timing_of-meaning code e env bound)

pub ruleset by_meaning = (meant_time)
