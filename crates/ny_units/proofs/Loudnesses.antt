-- Samples at a loudness.
use Rattle.std.proofs.Common.{◌≡◌, suc, ◌-◌, ◌*◌, ◌/◌, refl, sym, ap, ◌∙◌, List, length, get_or, map, All, ℤ, pos, negsuc, neg_ℤ, ◌*ℤ◌, arith}
use Rattle.std.proofs.lemmas.Int.{ints, clamps}
use Rattle.std.proofs.Math.IntN.{pos-*ℤ-pos, pos-*ℤ-negsuc}
use Rattle.ny_num.specs.Numbers.{IsSample, sat_sample, sample_mul, floor_div}
use Rattle.ny_num.specs.Leaves.{louder_value}
use Rattle.ny_num.proofs.WrittenLists.{by_items}

pub sat_same : (z : ℤ) → IsSample z → sat_sample z ≡ z
unfolding sat_sample
sat_same z is = omega (arith, ints, clamps, is.0, is.1)

pub louder_is : (loud x : ℤ) → IsSample loud → sample_mul loud x ≡ louder_value loud x
unfolding louder_value
louder_is loud x is = ap (λ z. sample_mul z x) (sym (sat_same loud is))

whole_product : (x : ℤ) → floor_div (pos 1000000 *ℤ x) (pos 1000000) ≡ x
whole_product (pos a) =
    let e : 1000000 * a / 1000000 ≡ a = omega arith in
    ap (λ z. floor_div z (pos 1000000)) (pos-*ℤ-pos 1000000 a) ∙ ap pos e
whole_product (negsuc a) =
    let e : neg_ℤ (pos (1000000 * suc a)) ≡ negsuc (1000000 * suc a - 1) = omega (arith, ints) in
    let f : (1000000 * suc a - 1) / 1000000 ≡ a = omega arith in
    ap (λ z. floor_div z (pos 1000000)) (pos-*ℤ-negsuc 1000000 a ∙ e) ∙ ap negsuc f

one_is : (x : ℤ) → IsSample x → louder_value (pos 1000000) x ≡ x
unfolding louder_value sample_mul
one_is x is = ap (λ z. sat_sample (floor_div (z *ℤ x) (pos 1000000))) (sat_same (pos 1000000) (omega (arith, ints), omega (arith, ints))) ∙ ap sat_sample (whole_product x) ∙ sat_same x is

-- at loudness 1 samples stay as they are
pub same_at_one : (loud : ℤ) (xs : List ℤ) → loud ≡ pos 1000000 → All IsSample xs → xs ≡ map (louder_value loud) xs
same_at_one loud xs one all =
    by_items (louder_value loud) xs xs (length xs) (pos 0) refl refl
    (λ k h. sym (ap (λ z. louder_value z (get_or xs k (pos 0))) one ∙ one_is (get_or xs k (pos 0)) (all k (pos 0) h)))
