-- The strict meaning: the whole sound that an expression is, in an environment, where names stand for numbers and whole
-- sounds. It knows no block, no reader and no order in time.
use Rattle.std.specs.Prelude.{ℕ, ◌*◌, List, [], ◌∷◌, ◌++◌, map, zip, if◌then◌else◌, ℤ, pos, unwrap_or}
use Rattle.std.specs.List.{range_with_len}
use Rattle.ny_num.specs.Numbers.{sat_sample, sample_sub}
use Rattle.ny_num.specs.declared.rate.Rate.{Rate}
use Rattle.ny_num.specs.declared.timing.Timing.{Timing}
use Rattle.ny_num.specs.Sound as sounds
use Rattle.ny_num.specs.Sound.{silence}
use Rattle.ny_num.specs.Pointwise.{combined, each_value}
use Rattle.ny_num.specs.Resampling.{resampled}
use Rattle.ny_num.specs.Mix.{mix}
use Rattle.ny_warp.specs.declared.env.Env.{Env}
use Rattle.ny_kernels.specs.Operations.{operation}
use Rattle.ny_scope.specs.Scopes.{last_of}
use Rattle.ny_resolve.specs.declared.term.NameId.{NameId}
use Rattle.ny_resolve.specs.Keys.{same_name}
use Rattle.ny_check.specs.declared.node.Node.{Node}
use Rattle.ny_check.specs.declared.node.Node.TheVariants as node
use Rattle.ny_check.specs.declared.node.ExprId.{ExprId}
use Rattle.ny_check.specs.declared.value.Scalar.{Scalar}
use Rattle.ny_check.specs.declared.value.Scalar.TheVariants as scalar
use Rattle.ny_check.specs.declared.value.Value.{Value}
use Rattle.ny_check.specs.declared.value.Value.TheVariants.{Number, Sound}
use Rattle.ny_check.specs.Code.{Code, node_at, function_at}
use Rattle.ny_check.specs.Recursion.{by_smaller}
use Rattle.ny_check.specs.Values.{scalars_of, scalar_of, number_of, test_of}
use Rattle.ny_check.specs.Behaviours.{cue_sound}
use Rattle.ny_check.specs.Families.{pair_timing, leaf_sound, effect_sound, changed_env}
use Rattle.ny_check.specs.Parts.{parts_in}

-- ---- names

-- what names stand for, each sound as a whole; the last pair of a name counts
abbrev pub Bound : Type 0
Bound = List (NameId × Value sounds.Sound)

-- what an expression means, in an environment and under what its names stand for
abbrev pub Means : Type 0
Means = Env → Bound → sounds.Sound

-- a bare name is its sound as it is, whatever the environment; no sound where it stands for a number
abbrev pub sound_in : Rate → Value sounds.Sound → sounds.Sound
sound_in rate (Number v) = silence rate
sound_in rate (Sound s) = s

-- a number where the expression is one, and else its sound
abbrev pub value_by : Scalar → sounds.Sound → Value sounds.Sound
value_by (scalar.Number v) s = Number v
value_by _ s = Sound s

-- what an argument or a bind is for the body that sees it
abbrev pub value_of : Code → (ℕ → Means) → Env → Bound → ExprId → Value sounds.Sound
value_of code rec env bound e = value_by (scalar_of code e.0 (scalars_of bound)) (rec e.0 env bound)

-- each bind of a block sees those before it
abbrev pub bound_after : Code → (ℕ → Means) → Env → List (NameId × ExprId) → Bound → Bound
bound_after code rec env [] bound = bound
bound_after code rec env (b ∷ bs) bound =
    bound_after code rec env bs (bound ++ (b.0, value_of code rec env bound b.1) ∷ [])

-- the number that an expression is
abbrev pub number : Code → Bound → ExprId → ℤ
number code bound e = number_of code e (scalars_of bound)

-- ---- pointwise sounds

-- Two values by an operation on samples. Sounds are first brought to the rate, and are heard together as `timing` says; a
-- number becomes a sample, which is the value at every index of the other sound.
abbrev pub combined_values : (Timing → Timing → Timing) → (ℤ → ℤ → ℤ) → Rate → Value sounds.Sound → Value sounds.Sound → sounds.Sound
combined_values timing operation rate (Number j) (Number k) = silence rate
combined_values timing operation rate (Number k) (Sound b) = each_value (operation (sat_sample k)) (resampled rate b)
combined_values timing operation rate (Sound a) (Number k) =
    each_value (λ x. operation x (sat_sample k)) (resampled rate a)
combined_values timing operation rate (Sound a) (Sound b) =
    combined timing operation (resampled rate a) (resampled rate b)

-- a sound with the other sign: 0 minus each sample, after it was brought to the rate
abbrev pub negated_value : Rate → Value sounds.Sound → sounds.Sound
negated_value rate (Number k) = silence rate
negated_value rate (Sound s) = each_value (sample_sub (pos 0)) (resampled rate s)

-- ---- parts

-- a part of `sim` or `seq`, as the sound that it is from an environment
abbrev pub part_of : (ℕ → Means) → Bound → ExprId → Env → sounds.Sound
part_of rec bound e from = rec e.0 from bound

-- part k of `simrep` or `seqrep`: the name stands for the number k
abbrev pub repeated_part : (ℕ → Means) → Bound → NameId → ExprId → ℕ → Env → sounds.Sound
repeated_part rec bound i e k from = rec e.0 from (bound ++ (i, Number (pos (k * 1000000))) ∷ [])

-- the parts 0, 1, .. up to so many
abbrev pub repeated_parts : (ℕ → Means) → Bound → NameId → ℕ → ExprId → List (Env → sounds.Sound)
repeated_parts rec bound i count e = map (repeated_part rec bound i e) (range_with_len 0 count)

-- ---- expressions

-- What a node means, of what the nodes before it mean. Arguments and binds are whole before a body is looked at, and a
-- body is evaluated in the environment of its call. Effects and `cue` keep the rate of their sound. Numbers and tests are no
-- sounds, nor is `vector`.
abbrev pub sound_node : Code → Node → (ℕ → Means) → Means
sound_node code (node.Local x) rec env bound =
    sound_in env.sound_rate (unwrap_or (last_of (same_name x) bound) (Sound (silence env.sound_rate)))
sound_node code (node.Call f es) rec env bound =
    rec (function_at code f.0).body.0 env (zip (function_at code f.0).params (map (value_of code rec env bound) es))
sound_node code (node.Block bs e) rec env bound = rec e.0 env (bound_after code rec env bs bound)
sound_node code (node.If c a b) rec env bound =
    if test_of code c (scalars_of bound) then rec a.0 env bound else rec b.0 env bound
sound_node code (node.Pair op a b) rec env bound =
    combined_values (pair_timing op) (operation op) env.sound_rate
    (value_of code rec env bound a) (value_of code rec env bound b)
sound_node code (node.Neg a) rec env bound = negated_value env.sound_rate (value_of code rec env bound a)
sound_node code (node.Leaf w es) rec env bound = leaf_sound w env (map (number code bound) es)
sound_node code (node.Effect w e es) rec env bound = effect_sound w (map (number code bound) es) (rec e.0 env bound)
sound_node code (node.Cue e) rec env bound = cue_sound env (rec e.0 env bound)
sound_node code (node.Mix o es) rec env bound = mix env.sound_rate (parts_in o env (map (part_of rec bound) es))
sound_node code (node.Repeat o i n e) rec env bound =
    mix env.sound_rate (parts_in o env (repeated_parts rec bound i n e))
sound_node code (node.Change c e) rec env bound = rec e.0 (changed_env c (number code bound) env) bound
sound_node code _ rec env bound = silence env.sound_rate

-- the sound that an expression means; silence for one that is no sound
unfoldable pub meaning : Code → ℕ → Means
meaning code = by_smaller (λ env bound. silence env.sound_rate) (λ e rec. sound_node code (node_at code e) rec)
