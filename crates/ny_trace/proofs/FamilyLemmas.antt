-- What the rows of the families are as units.
use Rattle.std.proofs.Common.{◌≡◌, ℕ, zero, suc, ◌+◌, ◌-◌, List, ◌∷◌, map, Some, None, refl, ap, ◌∙◌, arith, ℤ, pos}
use Rattle.std.specs.List.{range_with_len}
use Rattle.ny_kernels.specs.Operations.{operation}
use Rattle.ny_kernels.specs.declared.operation.Op.{Op}
use Rattle.ny_kernels.specs.declared.operation.Op.TheVariants.{Add, Sub, Mul, Max, Min}
use Rattle.ny_num.specs.Leaves as leaves
use Rattle.ny_num.specs.Numbers.{sample_sub, sat_sample}
use Rattle.ny_num.specs.Pointwise.{each_value, product_timing}
use Rattle.ny_num.specs.Sound as sounds
use Rattle.ny_num.specs.Sound.{sound_of, sum_timing}
use Rattle.ny_num.specs.declared.rate.Rate.{Rate}
use Rattle.ny_num.specs.declared.timing.Timing.{Timing}
use Rattle.ny_check.specs.declared.value.Value.{Value}
use Rattle.ny_check.specs.declared.value.Value.TheVariants.{Number, Sound as SoundOf}
use Rattle.ny_check.specs.Families.{pair_timing}
use Rattle.ny_check.specs.Meaning.{combined_values, negated_value}
use Rattle.ny_heap.specs.declared.make.Make.TheVariants.{Pair}
use Rattle.ny_heap.specs.Steps.{both_timing}
use Rattle.ny_hands.specs.Made.{made_with}
use Rattle.ny_hands.proofs.HeardLemmas.{each_is}

-- ---- pairs

pub number_first : (op : Op) (j : ℤ) (m : sounds.Sound) → made_with (Pair op (Some j) None) m ≡ each_value (operation op j) m
number_first op j m = each_is (operation op j) m

pub number_second : (op : Op) (k : ℤ) (m : sounds.Sound) → made_with (Pair op None (Some k)) m ≡ each_value (λ x. operation op x k) m
number_second op k m = each_is (λ x. operation op x k) m

-- the heap's rule for when two sounds are heard together is that of the meaning
pub same_timing : (op : Op) → both_timing op ≡ pair_timing op
same_timing Add = λ i s t. sum_timing s t
same_timing Sub = λ i s t. sum_timing s t
same_timing Mul = λ i s t. product_timing s t
same_timing Max = λ i s t. sum_timing s t
same_timing Min = λ i s t. sum_timing s t

-- the other sign is 0 minus
pub negated_is : (r : Rate) (v : Value sounds.Sound) → combined_values (both_timing Sub) (operation Sub) r (Number (pos 0)) v ≡ negated_value r v
unfolding sample_sub sat_sample
negated_is r (Number k) = refl
negated_is r (SoundOf s) = refl

-- ---- leaves

map_shifted : (f : ℕ → ℤ) (start from len : ℕ) → start + 0 ≡ start → map (λ m. f (m - start)) (range_with_len (start + from) len) ≡ map f (range_with_len from len)
map_shifted f start from zero e = refl
map_shifted f start from (suc len) e =
    let here : start + from - start ≡ from = omega arith in
    let next : start + from + 1 ≡ start + (from + 1) = omega arith in
    λ i. f (here i) ∷ (ap (λ n. map (λ m. f (m - start)) (range_with_len n len)) next ∙ map_shifted f start (from + 1) len e) i

-- a sound whose values count from its start is a leaf
pub leaf_is : (t : Timing) (f : ℕ → ℤ) → sound_of t (λ m. f (m - t.start)) ≡ leaves.leaf t f
unfolding sound_of leaves.leaf
leaf_is t f =
    let none : t.start + 0 ≡ t.start = omega arith in
    let remade : List ℤ → sounds.Sound = λ xs. record { rate = t.rate; start = t.start; stop = t.stop; samples = xs } in
    ap remade (ap (λ n. map (λ m. f (m - t.start)) (range_with_len n t.len)) (let back : t.start ≡ t.start + 0 = omega arith in back) ∙ map_shifted f t.start 0 t.len none)
