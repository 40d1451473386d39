-- What the leaves give, row by row.
use Rattle.std.proofs.Common.{◌≡◌, ℕ, List, [], refl, sym, ap, subst, ◌∙◌, arith, ℤ, pos, neg_ℤ, ◌≤ℤ◌}
use Rattle.std.proofs.lemmas.Int.{ints, int_max_is, int_min_is}
use Rattle.std.specs.Int.{int_min, int_max}
use Rattle.ny_num.specs.Numbers.{sat_sample, sample_limit, sample_mul}
use Rattle.ny_num.specs.declared.timing.Timing.{Timing}
use Rattle.ny_num.specs.Leaves as leaves
use Rattle.ny_num.specs.Leaves.{louder_value, ramp_value, wave_value, noise_value, increment, key_hz, key_of, seed_of}
use Rattle.ny_warp.specs.declared.env.Env.{Env}
use Rattle.ny_check.specs.declared.node.Generator.{Generator}
use Rattle.ny_check.specs.Families.{leaf_sound, leaf_time}
use Rattle.ny_check.specs.Behaviours.{sustained_timing, plain_timing, rest_timing, const_sound, osc_sound, hzosc_sound, noise_sound, rest_sound, ramp_sound, lfo_sound}
use Rattle.ny_units.specs.declared.leaves.Leaf.{Leaf as LeafOf}
use Rattle.ny_units.specs.declared.leaves.Leaf.TheVariants.{Const, Osc, HzOsc, Noise, Ramp, Lfo}
use Rattle.ny_units.specs.Playing.{leaf_value}
use Rattle.ny_heap.specs.Heap.{Made, HeapState}
use Rattle.ny_heap.specs.Kinds.{UnitKind, kind_of_leaf}
use Rattle.ny_heap.specs.declared.make.Make.TheVariants.{Leaf}
use Rattle.ny_heap.specs.declared.sound.Sound.{Sound}
use Rattle.ny_hands.specs.declared.branch.Branch.{Branch}
use Rattle.ny_hands.specs.Calls.{MakesUnit}
use Rattle.ny_hands.specs.Kinds.{kind_of_generator, IsOfKind}
use Rattle.ny_trace.specs.Evaluates.{LeafTurn}

-- ---- loudness

clamp_is : (low high z : ℤ) → low ≤ℤ z → z ≤ℤ high → int_max low (int_min z high) ≡ z
clamp_is low high z above below =
    let most = int_max_is low (int_min z high) in
    let least = int_min_is z high in
    omega (arith, ints, most, least)

clamped : (low high z : ℤ) → low ≤ℤ high → (low ≤ℤ int_max low (int_min z high)) × (int_max low (int_min z high) ≤ℤ high)
clamped low high z le =
    let most = int_max_is low (int_min z high) in
    let least = int_min_is z high in
    (omega (arith, ints, most, least), omega (arith, ints, most, least))

sample_twice : (z : ℤ) → sat_sample (sat_sample z) ≡ sat_sample z
unfolding sat_sample
sample_twice z =
    let within = clamped (neg_ℤ sample_limit) sample_limit z (omega (arith, ints)) in
    clamp_is (neg_ℤ sample_limit) sample_limit (int_max (neg_ℤ sample_limit) (int_min z sample_limit)) within.0 within.1

-- a loudness becomes a sample once
louder_twice : (loudness x : ℤ) → louder_value (sat_sample loudness) x ≡ louder_value loudness x
unfolding louder_value
louder_twice loudness x = ap (λ k. sample_mul k x) (sample_twice loudness)

-- ---- each kind

same_leaf : (t u : Timing) (f g : ℕ → ℤ) → t ≡ u → ((n : ℕ) → f n ≡ g n) → leaves.leaf t f ≡ leaves.leaf u g
same_leaf t u f g when same i = leaves.leaf (when i) (λ n. same n i)

pub constant_is : (env : Env) (v d value : ℤ) (k : ℤ) (t : Timing) → value ≡ v → t ≡ sustained_timing env.sound_rate env d → k ≡ sat_sample value → leaves.leaf t (leaf_value (Const k)) ≡ const_sound env v d
unfolding const_sound leaf_value
constant_is env v d value k t at_v when is =
    same_leaf t (sustained_timing env.sound_rate env d) (λ n. k) (λ n. sat_sample v) when (λ n. is ∙ ap sat_sample at_v)

pub osc_is : (env : Env) (key d number : ℤ) (inc : ℕ) (loud : ℤ) (t : Timing) → number ≡ key → t ≡ sustained_timing env.sound_rate env d → inc ≡ increment (key_hz (key_of number env.transpose)) env.sound_rate → loud ≡ sat_sample env.loud → leaves.leaf t (leaf_value (Osc inc loud)) ≡ osc_sound env key d
unfolding osc_sound leaf_value
osc_is env key d number inc loud t at_key when at_inc at_loud =
    same_leaf t (sustained_timing env.sound_rate env d) (λ n. louder_value loud (wave_value 1024 inc n)) (λ n. louder_value env.loud (wave_value 1024 (increment (key_hz (key_of key env.transpose)) env.sound_rate) n)) when
    (λ n.
    (λ i. louder_value (at_loud i) (wave_value 1024 ((at_inc ∙ ap (λ k. increment (key_hz (key_of k env.transpose)) env.sound_rate) at_key) i) n))
    ∙ louder_twice env.loud (wave_value 1024 (increment (key_hz (key_of key env.transpose)) env.sound_rate) n))

pub hzosc_is : (env : Env) (hz d number : ℤ) (inc : ℕ) (loud : ℤ) (t : Timing) → number ≡ hz → t ≡ sustained_timing env.sound_rate env d → inc ≡ increment number env.sound_rate → loud ≡ sat_sample env.loud → leaves.leaf t (leaf_value (HzOsc inc loud)) ≡ hzosc_sound env hz d
unfolding hzosc_sound leaf_value
hzosc_is env hz d number inc loud t at_hz when at_inc at_loud =
    same_leaf t (sustained_timing env.sound_rate env d) (λ n. louder_value loud (wave_value 4096 inc n)) (λ n. louder_value env.loud (wave_value 4096 (increment hz env.sound_rate) n)) when
    (λ n.
    (λ i. louder_value (at_loud i) (wave_value 4096 ((at_inc ∙ ap (λ k. increment k env.sound_rate) at_hz) i) n))
    ∙ louder_twice env.loud (wave_value 4096 (increment hz env.sound_rate) n))

pub noise_is : (env : Env) (v d number : ℤ) (x : ℕ) (loud : ℤ) (t : Timing) → number ≡ v → t ≡ sustained_timing env.sound_rate env d → x ≡ seed_of number → loud ≡ sat_sample env.loud → leaves.leaf t (leaf_value (Noise x loud)) ≡ noise_sound env v d
unfolding noise_sound leaf_value
noise_is env v d number x loud t at_v when at_x at_loud =
    same_leaf t (sustained_timing env.sound_rate env d) (λ n. louder_value loud (noise_value x n)) (λ n. louder_value env.loud (noise_value (seed_of v) n)) when
    (λ n. (λ i. louder_value (at_loud i) (noise_value ((at_x ∙ ap seed_of at_v) i) n)) ∙ louder_twice env.loud (noise_value (seed_of v) n))

pub rest_is : (env : Env) (d : ℤ) (t : Timing) → t ≡ rest_timing env d → leaves.leaf t (leaf_value (Const (pos 0))) ≡ rest_sound env d
unfolding rest_sound leaf_value
rest_is env d t when = same_leaf t (rest_timing env d) (λ n. pos 0) (λ n. pos 0) when (λ n. refl)

-- ---- leaves at the control rate

pub ramp_is : (env : Env) (d : ℤ) (t : Timing) → t ≡ plain_timing env.control_rate env d → leaves.leaf t (leaf_value (Ramp t.len)) ≡ ramp_sound env d
unfolding ramp_sound leaf_value
ramp_is env d t when = λ i. leaves.leaf (when i) (ramp_value (when i).len)

pub lfo_is : (env : Env) (hz d number : ℤ) (inc : ℕ) (t : Timing) → number ≡ hz → t ≡ sustained_timing env.control_rate env d → inc ≡ increment number env.control_rate → leaves.leaf t (leaf_value (Lfo inc)) ≡ lfo_sound env hz d
unfolding lfo_sound leaf_value
lfo_is env hz d number inc t at_hz when at_inc =
    let step : inc ≡ increment hz env.control_rate = at_inc ∙ ap (λ k. increment k env.control_rate) at_hz in
    λ i. leaves.leaf (when i) (wave_value 256 (step i))

-- ---- rows

-- a unit that gives the sound of a generator's row gives that of the generator
pub by_row : (g row : Generator) (env : Env) (ns : List ℤ) (t : Timing) (l : LeafOf) → g ≡ row → t ≡ leaf_time g env ns → (t ≡ leaf_time row env ns → leaves.leaf t (leaf_value l) ≡ leaf_sound row env ns) → leaves.leaf t (leaf_value l) ≡ leaf_sound g env ns
by_row g row env ns t l is when gives = gives (when ∙ ap (λ x. leaf_time x env ns) is) ∙ ap (λ x. leaf_sound x env ns) (sym is)

-- and it is of the row's kind
pub kind_by_row : (g row : Generator) (k : UnitKind) → g ≡ row → IsOfKind (kind_of_generator row) k → IsOfKind (kind_of_generator g) k
kind_by_row g row k is kind = subst (λ w. IsOfKind (kind_of_generator w) k) (sym is) kind

-- the unit of a leaf of these numbers
pub leaf_turn : (old new : HeapState Branch) (g : Generator) (env : Env) (timed seen ns : List ℤ) (t : Timing) (l : LeafOf) (s : Sound) → timed ≡ ns → seen ≡ ns → t ≡ leaf_time g env timed → leaves.leaf t (leaf_value l) ≡ leaf_sound g env seen → IsOfKind (kind_of_generator g) (kind_of_leaf l) → MakesUnit old new (Made (Leaf l)) t [] [] [] s → LeafTurn g env ns old new s
leaf_turn old new g env timed seen ns t l s same_time same when sound kind makes =
    let now : t ≡ leaf_time g env ns = when ∙ ap (leaf_time g env) same_time in
    record {
      played = l;
      is = ap (λ (u : Timing). leaves.leaf u (leaf_value l)) (sym now) ∙ (sound ∙ ap (leaf_sound g env) same);
      kind = kind;
      made = subst (λ (u : Timing). MakesUnit old new (Made (Leaf l)) u [] [] [] s) now makes;
    }
