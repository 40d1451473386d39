-- A sound without signs or filtered, as the unit that computes it gives it.
use Rattle.std.proofs.Common.{◌≡◌, ℕ, ◌-◌, List, [], ◌∷◌, length, get_or, drop, Some, refl, sym, ap, subst, ◌∙◌, arith, ℤ, pos}
use Rattle.std.proofs.lemmas.List.FromFn.{fill_by_all}
use Rattle.ny_num.specs.declared.rate.Rate.{Rate}
use Rattle.ny_num.specs.Filters.{one_pole, biquad, comb, comb_delay, at_rest}
use Rattle.ny_num.specs.Leaves as leaves
use Rattle.ny_num.specs.Numbers.{sample_abs}
use Rattle.ny_num.specs.Pointwise.{each_value}
use Rattle.ny_num.specs.Sound as sounds
use Rattle.ny_num.specs.Sound.{timing_of, sound_of, value_at}
use Rattle.ny_num.proofs.SoundTimings.{length-one_pole, length-biquad, length-comb}
use Rattle.ny_filters.specs.Filtering.{IsFilter, silent, outputs_after}
use Rattle.ny_filters.specs.declared.filter.Filter.{Filter as FilterOf}
use Rattle.ny_filters.specs.declared.filter.Filter.TheVariants as filter
use Rattle.ny_heap.specs.Heap.{Filtered}
use Rattle.ny_heap.specs.Kinds.{kind_of_make}
use Rattle.ny_heap.specs.Means.{made_value}
use Rattle.ny_heap.specs.declared.make.Make.TheVariants as make
use Rattle.ny_heap.specs.declared.make.Make.{Make}
use Rattle.ny_hands.specs.Kinds.{kind_of_effect}
use Rattle.ny_hands.specs.Made.{made_with, IsSingle}
use Rattle.ny_check.specs.declared.node.Effect.{Effect}
use Rattle.ny_check.specs.declared.node.Effect.TheVariants as effect
use Rattle.ny_check.specs.Families.{number_at, effect_sound}
use Rattle.ny_eval.specs.Shapes.{make_of}
use Rattle.ny_hands.proofs.HeardLemmas.{each_is}
use Rattle.ny_trace.proofs.FamilyLemmas.{leaf_is}

-- the sound of this timing with these samples
abbrev remade : sounds.Sound → List ℤ → sounds.Sound
remade m xs = record { rate = m.rate; start = m.start; stop = m.stop; samples = xs }

-- samples by their places from the start are the samples
by_places : (m : sounds.Sound) (xs : List ℤ) → length xs ≡ length m.samples → sound_of (timing_of m) (λ k. get_or xs (k - m.start) (pos 0)) ≡ remade m xs
unfolding timing_of leaves.leaf
by_places m xs same = leaf_is (timing_of m) (λ n. get_or xs n (pos 0)) ∙ ap (remade m) (sym (fill_by_all (λ n. get_or xs n (pos 0)) xs (length m.samples) (pos 0) same (λ k within. refl)))

-- what a filter gives for the whole sound
filter_is : (f : FilterOf) (m : sounds.Sound) → length (outputs_after f (silent f) m.samples) ≡ length m.samples → sound_of (timing_of m) (made_value (make.Filter f) (timing_of m) (Filtered (silent f)) m.start (Some m ∷ [])) ≡ remade m (outputs_after f (silent f) m.samples)
unfolding timing_of
filter_is f m same =
    let none : m.start - m.start ≡ 0 = omega arith in
    ap (λ n. sound_of (timing_of m) (λ k. get_or (outputs_after f (silent f) (drop n m.samples)) (k - m.start) (pos 0))) none
    ∙ by_places m (outputs_after f (silent f) m.samples) same

abs_made : (m : sounds.Sound) → sound_of (timing_of m) (λ k. sample_abs (value_at m k)) ≡ each_value sample_abs m
abs_made m = each_is sample_abs m

one_pole_made : (a : ℤ) (m : sounds.Sound) → sound_of (timing_of m) (made_value (make.Filter (filter.OnePole a)) (timing_of m) (Filtered (silent (filter.OnePole a))) m.start (Some m ∷ [])) ≡ one_pole a m
unfolding one_pole
one_pole_made a m = filter_is (filter.OnePole a) m (length-one_pole a (pos 0) m.samples)

biquad_made : (b0 b1 b2 a1 a2 : ℤ) (m : sounds.Sound) → sound_of (timing_of m) (made_value (make.Filter (filter.Biquad b0 b1 b2 a1 a2)) (timing_of m) (Filtered (silent (filter.Biquad b0 b1 b2 a1 a2))) m.start (Some m ∷ [])) ≡ biquad (record { b0 = b0; b1 = b1; b2 = b2; a1 = a1; a2 = a2 }) m
unfolding biquad
biquad_made b0 b1 b2 a1 a2 m = filter_is (filter.Biquad b0 b1 b2 a1 a2) m (length-biquad (record { b0 = b0; b1 = b1; b2 = b2; a1 = a1; a2 = a2 }) at_rest m.samples)

comb_made : (delay : ℕ) (gain : ℤ) (m : sounds.Sound) → sound_of (timing_of m) (made_value (make.Filter (filter.Comb delay gain)) (timing_of m) (Filtered (silent (filter.Comb delay gain))) m.start (Some m ∷ [])) ≡ comb delay gain m
unfolding comb
comb_made delay gain m = filter_is (filter.Comb delay gain) m (length-comb delay gain [] m.samples)

-- a delay is one of a comb
delay_within : (rate : Rate) (delay gain : ℤ) → IsFilter (filter.Comb (comb_delay rate delay) gain)
unfolding comb_delay
delay_within rate delay gain = (omega arith, omega arith)

-- what an effect makes of a sound, as the unit that computes it
pub effect_is : (w : Effect) (ns : List ℤ) (m : sounds.Sound) → made_with (make_of w ns m.rate) m ≡ effect_sound w ns m
unfolding timing_of
effect_is effect.Abs ns m = abs_made m
effect_is effect.OnePole ns m = one_pole_made (number_at ns 0) m
effect_is effect.Biquad ns m = biquad_made (number_at ns 0) (number_at ns 1) (number_at ns 2) (number_at ns 3) (number_at ns 4) m
effect_is effect.Comb ns m = comb_made (comb_delay m.rate (number_at ns 0)) (number_at ns 1) m

pub effect_single : (w : Effect) (ns : List ℤ) (rate : Rate) (unit : Make) → unit ≡ make_of w ns rate → IsSingle unit
effect_single w ns rate unit is = subst IsSingle (sym is) (by_effect w)
  where
    by_effect : (v : Effect) → IsSingle (make_of v ns rate)
    by_effect effect.Abs = tt
    by_effect effect.OnePole = tt
    by_effect effect.Biquad = tt
    by_effect effect.Comb = delay_within rate (number_at ns 0) (number_at ns 1)

-- the unit makes of any sound of this rate what the effect does
pub effect_made : (w : Effect) (ns numbers : List ℤ) (rate : Rate) (unit : Make) → unit ≡ make_of w ns rate → ns ≡ numbers → (m : sounds.Sound) → m.rate ≡ rate → made_with unit m ≡ effect_sound w numbers m
effect_made w ns numbers rate unit is same m at = ap (λ k. made_with k m) (is ∙ ap (make_of w ns) (sym at)) ∙ (effect_is w ns m ∙ ap (λ k. effect_sound w k m) same)

-- and it is of the effect's kind
pub effect_kind : (w : Effect) (ns : List ℤ) (rate : Rate) (unit : Make) → unit ≡ make_of w ns rate → kind_of_make unit ≡ kind_of_effect w
effect_kind w ns rate unit is = ap kind_of_make is ∙ by_effect w
  where
    by_effect : (v : Effect) → kind_of_make (make_of v ns rate) ≡ kind_of_effect v
    by_effect effect.Abs = refl
    by_effect effect.OnePole = refl
    by_effect effect.Biquad = refl
    by_effect effect.Comb = refl
