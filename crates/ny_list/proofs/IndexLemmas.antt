-- Lists by index, and sums over them.
use Rattle.std.proofs.Common.{◌≡◌, ◌≢◌, inl, inr, ℕ, suc, ◌+◌, ◌<◌, ◌≤◌, List, [], ◌∷◌, ◌++◌, length, get_or, map, set, None, Some, refl, sym, ap, ◌∙◌, arith, length-set}
use Rattle.std.proofs.lemmas.List.{get_or-set_same, get_or-set_other, get_or_past}
use Rattle.std.proofs.lemmas.List.FromFn.{length-map-range_with_len, get_or-map-range_with_len, map-range_with_len_more, fill_by_all}
use Rattle.std.proofs.lemmas.List.Sums.{sum_by-set, sum_by-cons}
use Rattle.std.proofs.lemmas.Bool.{cases_eq, cases_lt}
use Rattle.std.specs.List.{range_with_len, sum_by, sum}

pub same_some : {A : Type 0} {a b : A} → Some a ≡ Some b → a ≡ b
same_some q = cc

pub none_some : {A : Type 0} {a : A} → None ≡ Some a → ⊥
none_some q = cc

module _ {A : Type 0} where
  pub tab_get : (f : ℕ → A) (n k : ℕ) (d : A) → k < n → get_or (map f (range_with_len 0 n)) k d ≡ f k
  tab_get f n k d h = get_or-map-range_with_len f 0 n k k d h (omega arith)

  pub tab_past : (f : ℕ → A) (n k : ℕ) (d : A) → n ≤ k → get_or (map f (range_with_len 0 n)) k d ≡ d
  tab_past f n k d h = get_or_past (map f (range_with_len 0 n)) k d (omega (arith, length-map-range_with_len f 0 n))

  pub tab_same : (f g : ℕ → A) (n : ℕ) (d : A) → ((k : ℕ) → k < n → f k ≡ g k) → map f (range_with_len 0 n) ≡ map g (range_with_len 0 n)
  tab_same f g n d same = fill_by_all g (map f (range_with_len 0 n)) n d (length-map-range_with_len f 0 n) (λ k h. tab_get f n k d h ∙ same k h)

  pub tab_set : (f g : ℕ → A) (n i : ℕ) (y d : A) → i < n → g i ≡ y → ((k : ℕ) → k < n → k ≢ i → g k ≡ f k) → set (map f (range_with_len 0 n)) i y ≡ map g (range_with_len 0 n)
  tab_set f g n i y d inside here other =
      fill_by_all g (set (map f (range_with_len 0 n)) i y) n d (length-set (map f (range_with_len 0 n)) i y ∙ length-map-range_with_len f 0 n) (λ k h.
      elim (cases_eq k i) [
        | inl e ↦ rw e (get_or-set_same (map f (range_with_len 0 n)) i y d (omega (arith, length-map-range_with_len f 0 n)) ∙ sym here)
        | inr ne ↦ get_or-set_other (map f (range_with_len 0 n)) i k y d ne ∙ tab_get f n k d h ∙ sym (other k h ne)
      ])

  pub tab_push : (f g : ℕ → A) (n : ℕ) (y d : A) → ((k : ℕ) → k < n → f k ≡ g k) → g n ≡ y → map f (range_with_len 0 n) ++ y ∷ [] ≡ map g (range_with_len 0 (n + 1))
  tab_push f g n y d same here =
      ap (λ xs. xs ++ y ∷ []) (tab_same f g n d same) ∙ ap (λ z. map g (range_with_len 0 n) ++ z ∷ []) (sym here)
      ∙ sym (map-range_with_len_more g 0 n n (omega arith))

-- sums over two lists that agree place by place
pub sums_agree : {A B : Type 0} (f : A → ℕ) (g : B → ℕ) (a : A) (b : B) (xs : List A) (ys : List B) → length xs ≡ length ys → ((k : ℕ) → k < length xs → f (get_or xs k a) ≡ g (get_or ys k b)) → sum_by f xs ≡ sum_by g ys
sums_agree f g a b [] [] len same = refl
sums_agree f g a b [] (y ∷ ys) len same = absurd (omega (arith, len))
sums_agree f g a b (x ∷ xs) [] len same = absurd (omega (arith, len))
sums_agree f g a b (x ∷ xs) (y ∷ ys) len same =
    let rest = sums_agree f g a b xs ys (omega (arith, len)) (λ k h. same (suc k) (omega arith)) in
    let head : f x ≡ g y = same 0 (omega arith) in
    omega (arith, sum_by-cons f x xs, sum_by-cons g y ys, rest, head)

-- a write that counts as much changes no sum
pub sum_kept : {A : Type 0} (f : A → ℕ) (xs : List A) (i : ℕ) (y d : A) → i < length xs → f y ≡ f (get_or xs i d) → sum_by f (set xs i y) ≡ sum_by f xs
sum_kept f xs i y d h e = omega (arith, sum_by-set f xs i y d h, e)

pub sum_set : (xs : List ℕ) (i n : ℕ) → i < length xs → sum (set xs i n) + get_or xs i 0 ≡ sum xs + n
sum_set xs i n h = sum_by-set (λ x. x) xs i n 0 h

pub sum_at : (xs : List ℕ) (i : ℕ) → get_or xs i 0 ≤ sum xs
sum_at xs i =
    elim (cases_lt i (length xs)) [
      | inl inside ↦ omega (arith, sum_by-set (λ x. x) xs i 0 0 inside)
      | inr past ↦ omega (arith, get_or_past xs i 0 past)
    ]
