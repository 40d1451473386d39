-- The numbers of a block that is read: how many samples it gives, where the sound stands then, and how its list counts it.
use Rattle.std.proofs.Common.{◌≡◌, ◌⊎◌, inl, inr, ℕ, zero, suc, ◌+◌, ◌-◌, ◌*◌, ◌/◌, ◌<◌, ◌≤◌, ◌==◌, min, Bool, true, false, cond, List, [], ◌∷◌, length, sum, slice_index, slice_set, Some, refl, sym, ap, subst, ◌∙◌, arith}
use Rattle.std.proofs.lemmas.Bool.{cases_eq, eqb-true}
use Rattle.std.proofs.Math.Nat.{le-div_iff_mul-le, mul-div_cancel}
use Rattle.std.specs.List.{fold}
use Rattle.ny_heap.specs.Heap.{Node, HeapState, node_at, list_of, blocks_of, stands_in}
use Rattle.ny_heap.specs.Steps.{IsCounted, IsHeldAt, IsHeldSound, run_of}
use Rattle.ny_heap.specs.declared.sound.Sound.{Sound}
use Rattle.ny_hands.specs.Hands.{IsLike}
use Rattle.ny_hands.proofs.OptionLemmas.{same_at}
use Rattle.ny_walk.proofs.WantLemmas.{short_is_open}
use Rattle.ny_eval.proofs.MarkLemmas.{advanced_by, advanced_node, advanced_same, advanced_other}

-- ---- is there a block left

pub open_is_short : (block filled len : ℕ) → 0 < block → filled < blocks_of block len → filled * block < len
open_is_short block filled len some below =
    let fits = (le-div_iff_mul-le {k = block} {x = filled + 1} {y = len + (block - 1)} some).0 (omega arith) in
    omega (arith, fits, one_more filled block)
  where
    one_more : (n b : ℕ) → (n + 1) * b ≡ n * b + b
    one_more n b = omega arith

pub cases_lt : (a b : ℕ) → (a < b) ⊎ (b ≤ a)
cases_lt a b = grind arith

pub closed_is_long : (block filled len : ℕ) → 0 < block → blocks_of block len ≤ filled → len ≤ filled * block
closed_is_long block filled len some above = elim (cases_lt (filled * block) len) [
  | inl short ↦ absurd (omega (arith, short_is_open block filled len some short))
  | inr long ↦ long
]

-- the sound's unit, where it has one
pub counted : {B : Type 0} (h : HeapState B) (s : Sound) (n : ℕ) → IsHeldSound h s → list_of s ≡ Some n → IsCounted h s n
counted h s n held e = subst (λ o. IsHeldAt h s o) e held.1

-- ---- what is read

-- how many samples a pull gives
pub run_is : (p b len : ℕ) → 0 < b → p * b < len → run_of b (min ((p + 1) * b) len) len (min (p * b) len) b ≡ min b (len - p * b)
run_is p b len some short =
    let low : min (p * b) len ≡ p * b = omega arith in
    let at : p * b / b ≡ p = mul-div_cancel p {n = b} some in
    ap (λ m. min b (min ((m / b + 1) * b) (min (min ((p + 1) * b) len) len) - m)) low
    ∙ (ap (λ q. min b (min ((q + 1) * b) (min (min ((p + 1) * b) len) len) - p * b)) at ∙ count)
  where
    one_more : (n b : ℕ) → (n + 1) * b ≡ n * b + b
    one_more n b = omega arith

    count : min b (min ((p + 1) * b) (min (min ((p + 1) * b) len) len) - p * b) ≡ min b (len - p * b)
    count = omega (arith, one_more p b)

-- where the sound stands then
pub place_after : (p b len : ℕ) → p * b < len → min (p * b) len + min b (len - p * b) ≡ min ((p + 1) * b) len
place_after p b len short = omega (arith, one_more p b)
  where
    one_more : (n b : ℕ) → (n + 1) * b ≡ n * b + b
    one_more n b = omega arith

-- it stands within the marks
pub stands_within : (p b len : ℕ) → 0 < b → stands_in b len (min ((p + 1) * b) len) ≤ p + 1
stands_within p b len some = by_end (min ((p + 1) * b) len == len) refl
  where
    two_more : (n b : ℕ) → (n + 2) * b ≡ (n + 1) * b + b
    two_more n b = omega arith

    by_end : (e : Bool) → (min ((p + 1) * b) len == len) ≡ e → cond e (blocks_of b len) (min ((p + 1) * b) len / b) ≤ p + 1
    by_end true is = elim (cases_lt (p + 1) (blocks_of b len)) [
      | inl more ↦ absurd (omega (arith, open_is_short b (p + 1) len some more, eqb-true _ _ is))
      | inr few ↦ few
    ]
    by_end false is = elim (cases_lt (p + 1) (min ((p + 1) * b) len / b)) [
      | inl more ↦
          let fits = (le-div_iff_mul-le {k = b} {x = p + 2} {y = min ((p + 1) * b) len} some).0 (omega arith) in
          absurd (omega (arith, fits, two_more p b, some))
      | inr few ↦ few
    ]

-- one mark fewer, and one more
fold_more : (a : ℕ) (ns : List ℕ) → fold ◌+◌ (a + 1) ns ≡ fold ◌+◌ a ns + 1
fold_more a [] = omega arith
fold_more a (n ∷ ns) = let turned : a + 1 + n ≡ a + n + 1 = omega arith in ap (λ m. fold ◌+◌ m ns) turned ∙ fold_more (a + n) ns

pub mark_less : (ns : List ℕ) (j : ℕ) → 0 < slice_index ns j → sum (slice_set ns j (slice_index ns j - 1)) + 1 ≡ sum ns
mark_less ns j some = from 0 ns j some
  where
    from : (a : ℕ) (ns : List ℕ) (j : ℕ) → 0 < slice_index ns j → fold ◌+◌ a (slice_set ns j (slice_index ns j - 1)) + 1 ≡ fold ◌+◌ a ns
    from a [] zero some = absurd (omega (arith, some))
    from a [] (suc j) some = absurd (omega (arith, some))
    from a (n ∷ ns) zero some = let back : a + (n - 1) + 1 ≡ a + n = omega (arith, some) in sym (fold_more (a + (n - 1)) ns) ∙ ap (λ m. fold ◌+◌ m ns) back
    from a (n ∷ ns) (suc j) some = from (a + n) ns j some

pub mark_more : (ns : List ℕ) (j : ℕ) → j < length ns → sum (slice_set ns j (slice_index ns j + 1)) ≡ sum ns + 1
mark_more ns j within = from 0 ns j within
  where
    from : (a : ℕ) (ns : List ℕ) (j : ℕ) → j < length ns → fold ◌+◌ a (slice_set ns j (slice_index ns j + 1)) ≡ fold ◌+◌ a ns + 1
    from a [] j within = absurd (omega (arith, within))
    from a (n ∷ ns) zero within = let turned : a + (n + 1) ≡ a + n + 1 = omega arith in ap (λ m. fold ◌+◌ m ns) turned ∙ fold_more (a + n) ns
    from a (n ∷ ns) (suc j) within = from (a + n) ns j (omega (arith, within))

-- each unit is one that was there
pub advanced_like : {B : Type 0} (h : HeapState B) (n a b : ℕ) (x : Node B) → node_at h n ≡ Some x → (v : ℕ) (y : Node B) → node_at (advanced_by h (Some n) (Some n) a b) v ≡ Some y → (z : Node B) × (node_at h v ≡ Some z) × IsLike z y
advanced_like h n a b x e v y at = elim (cases_eq v n) [
  | inl same ↦
      let is : advanced_node h.block a b x ≡ y = same_at _ _ _ (sym (ap (node_at (advanced_by h (Some n) (Some n) a b)) (sym same)) ∙ advanced_same h n a b x e) at in
      (x, ap (node_at h) same ∙ e, subst (λ q. IsLike x q) is refl)
  | inr other ↦ (y, sym (advanced_other h n a b v other) ∙ at, refl)
]
