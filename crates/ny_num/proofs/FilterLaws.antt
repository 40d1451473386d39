-- Filters by index.
use Rattle.std.proofs.Common.{◌≡◌, inl, inr, ℕ, zero, suc, ◌+◌, ◌-◌, ◌<◌, ◌≤◌, nat_lt, if◌then◌else◌, List, [], ◌∷◌, length, ℤ, pos, refl, sym, ap, ◌∙◌, arith}
use Rattle.std.proofs.lemmas.Bool.{cases_lt}
use Rattle.std.proofs.lemmas.Bool.Decides.{nat_tests}
use Rattle.ny_num.specs.Sound.{Sound}
use Rattle.ny_num.specs.Filters.{one_pole, one_pole_value, one_pole_after, Coefficients, Recent, biquad, biquad_value, biquad_next, biquad_after, at_rest, comb, comb_value, comb_after, delayed}
use Rattle.ny_num.specs.ByIndex.{item_at, item_before, recent_at}

item_later : (ys : List ℤ) (k n : ℕ) → k ≤ n → item_before k ys n ≡ item_at ys (n - k)
item_later ys k n h = grind (arith, nat_tests)

item_none : (ys : List ℤ) (k n : ℕ) → n < k → item_before k ys n ≡ pos 0
item_none ys k n h = grind (arith, nat_tests)

item_back : (ys : List ℤ) (k n m : ℕ) → n ≡ m + k → item_at ys m ≡ item_before k ys n
item_back ys k n m e =
    let place : m ≡ n - k = omega (arith, e) in
    ap (item_at ys) place ∙ sym (item_later ys k n (omega (arith, e)))

-- ---- one pole

-- the item before place n, where y stood before the list
abbrev or_first : ℤ → List ℤ → ℕ → ℤ
or_first y ys zero = y
or_first y ys (suc n) = item_at ys n

one_pole-from : (a y1 : ℤ) (xs : List ℤ) (n : ℕ) → n < length xs
    → item_at (one_pole_after a y1 xs) n ≡ one_pole_value a (or_first y1 (one_pole_after a y1 xs) n) (item_at xs n)
one_pole-from a y1 [] n within = absurd (omega (arith, within))
one_pole-from a y1 (x ∷ xs) zero within = refl
one_pole-from a y1 (x ∷ xs) (suc zero) within = one_pole-from a (one_pole_value a y1 x) xs zero (omega (arith, within))
one_pole-from a y1 (x ∷ xs) (suc (suc n)) within = one_pole-from a (one_pole_value a y1 x) xs (suc n) (omega (arith, within))

before_one : (ys : List ℤ) (n : ℕ) → or_first (pos 0) ys n ≡ item_before 1 ys n
before_one ys zero = refl
before_one ys (suc n) = item_back ys 1 (suc n) n (omega arith)

pub one_pole-by_index : (a : ℤ) (s : Sound) (n : ℕ) → n < length s.samples → item_at (one_pole a s).samples n ≡ one_pole_value a (item_before 1 (one_pole a s).samples n) (item_at s.samples n)
unfolding one_pole
one_pole-by_index a s n within =
    one_pole-from a (pos 0) s.samples n within ∙ ap (λ y. one_pole_value a y (item_at s.samples n)) (before_one (one_pole_after a (pos 0) s.samples) n)

-- ---- two poles and two zeros

-- what is recent at place n, where r was before these inputs and outputs
abbrev recent_from : Recent → List ℤ → List ℤ → ℕ → Recent
recent_from r xs ys zero = r
recent_from r xs ys (suc zero) = record { x1 = item_at xs 0; x2 = r.x1; y1 = item_at ys 0; y2 = r.y1 }
recent_from r xs ys (suc (suc n)) = record { x1 = item_at xs (suc n); x2 = item_at xs n; y1 = item_at ys (suc n); y2 = item_at ys n }

biquad-from : (c : Coefficients) (r : Recent) (xs : List ℤ) (n : ℕ) → n < length xs
    → item_at (biquad_after c r xs) n ≡ biquad_value c (recent_from r xs (biquad_after c r xs) n) (item_at xs n)
biquad-from c r [] n within = absurd (omega (arith, within))
biquad-from c r (x ∷ xs) zero within = refl
biquad-from c r (x ∷ xs) (suc zero) within = biquad-from c (biquad_next c r x) xs zero (omega (arith, within))
biquad-from c r (x ∷ xs) (suc (suc zero)) within = biquad-from c (biquad_next c r x) xs (suc zero) (omega (arith, within))
biquad-from c r (x ∷ xs) (suc (suc (suc n))) within = biquad-from c (biquad_next c r x) xs (suc (suc n)) (omega (arith, within))

recent_is : (xs ys : List ℤ) (n : ℕ) → recent_from at_rest xs ys n ≡ recent_at xs ys n
recent_is xs ys zero = refl
recent_is xs ys (suc zero) = refl
recent_is xs ys (suc (suc n)) = λ i. record {
  x1 = item_back xs 1 (suc (suc n)) (suc n) (omega arith) i;
  x2 = item_back xs 2 (suc (suc n)) n (omega arith) i;
  y1 = item_back ys 1 (suc (suc n)) (suc n) (omega arith) i;
  y2 = item_back ys 2 (suc (suc n)) n (omega arith) i;
}

pub biquad-by_index : (c : Coefficients) (s : Sound) (n : ℕ) → n < length s.samples → item_at (biquad c s).samples n ≡ biquad_value c (recent_at s.samples (biquad c s).samples n) (item_at s.samples n)
unfolding biquad
biquad-by_index c s n within =
    biquad-from c at_rest s.samples n within ∙ ap (λ r. biquad_value c r (item_at s.samples n)) (recent_is s.samples (biquad_after c at_rest s.samples) n)

-- ---- comb

-- the output `delay` places before place n, where these outputs were before, the newest first
abbrev back_from : ℕ → List ℤ → List ℤ → ℕ → ℤ
back_from delay outputs ys n = if nat_lt n delay then item_at outputs (delay - (n + 1)) else item_at ys (n - delay)

back_early : (delay : ℕ) (outputs ys : List ℤ) (n : ℕ) → n < delay → back_from delay outputs ys n ≡ item_at outputs (delay - (n + 1))
back_early delay outputs ys n h = grind (arith, nat_tests)

back_late : (delay : ℕ) (outputs ys : List ℤ) (n : ℕ) → delay ≤ n → back_from delay outputs ys n ≡ item_at ys (n - delay)
back_late delay outputs ys n h = grind (arith, nat_tests)

item_next : (y : ℤ) (ys : List ℤ) (k m : ℕ) → k ≡ suc m → item_at (y ∷ ys) k ≡ item_at ys m
item_next y ys k m e = ap (item_at (y ∷ ys)) e

item_first : (y : ℤ) (ys : List ℤ) (k : ℕ) → k ≡ 0 → item_at (y ∷ ys) k ≡ y
item_first y ys k e = ap (item_at (y ∷ ys)) e

back_next : (delay : ℕ) (outputs ys : List ℤ) (y : ℤ) (n : ℕ) → 1 ≤ delay → back_from delay (y ∷ outputs) ys n ≡ back_from delay outputs (y ∷ ys) (suc n)
back_next delay outputs ys y n some = elim (cases_lt (suc n) delay) [
  | inl early ↦ back_early delay (y ∷ outputs) ys n (omega (arith, early)) ∙ item_next y outputs _ (delay - (suc n + 1)) (omega (arith, early)) ∙ sym (back_early delay outputs (y ∷ ys) (suc n) early)
  | inr late ↦ elim (cases_lt n delay) [
    | inl last ↦ back_early delay (y ∷ outputs) ys n last ∙ item_first y outputs _ (omega (arith, late)) ∙ sym (back_late delay outputs (y ∷ ys) (suc n) late ∙ item_first y ys _ (omega (arith, last)))
    | inr past ↦ back_late delay (y ∷ outputs) ys n past ∙ sym (back_late delay outputs (y ∷ ys) (suc n) late ∙ item_next y ys _ (n - delay) (omega (arith, past)))
  ]
]

comb-from : (delay : ℕ) (gain : ℤ) (outputs xs : List ℤ) (n : ℕ) → 1 ≤ delay → n < length xs
    → item_at (comb_after delay gain outputs xs) n ≡ comb_value gain (back_from delay outputs (comb_after delay gain outputs xs) n) (item_at xs n)
comb-from delay gain outputs [] n some within = absurd (omega (arith, within))
comb-from delay gain outputs (x ∷ xs) zero some within =
    ap (λ y. comb_value gain y x) (sym (back_early delay outputs (comb_after delay gain outputs (x ∷ xs)) 0 (omega (arith, some))))
comb-from delay gain outputs (x ∷ xs) (suc n) some within =
    let y : ℤ = comb_value gain (delayed delay outputs) x in
    comb-from delay gain (y ∷ outputs) xs n some (omega (arith, within))
    ∙ ap (λ b. comb_value gain b (item_at xs n)) (back_next delay outputs (comb_after delay gain (y ∷ outputs) xs) y n some)

nothing_back : (delay : ℕ) (ys : List ℤ) (n : ℕ) → back_from delay [] ys n ≡ item_before delay ys n
nothing_back delay ys n = refl

pub comb-by_index : (delay : ℕ) (gain : ℤ) (s : Sound) (n : ℕ) → 1 ≤ delay → n < length s.samples → item_at (comb delay gain s).samples n ≡ comb_value gain (item_before delay (comb delay gain s).samples n) (item_at s.samples n)
unfolding comb
comb-by_index delay gain s n some within =
    comb-from delay gain [] s.samples n some within ∙ ap (λ y. comb_value gain y (item_at s.samples n)) (nothing_back delay (comb_after delay gain [] s.samples) n)

pub ruleset by_index = (one_pole-by_index, biquad-by_index, comb-by_index)
