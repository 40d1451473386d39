-- Lists of how many pulls of each channel gave samples.
use Rattle.std.proofs.Common.{◌≡◌, ℕ, zero, suc, ◌<◌, ◌≤◌, ◌⊎◌, inl, inr, List, [], ◌∷◌, ◌++◌, map, take, drop, length, refl, ap, arith, slice_index, slice_index_or, slice_set}

-- those before place c by one count, and the others by another
abbrev pub parted : {A : Type 0} → (A → ℕ) → (A → ℕ) → ℕ → List A → List ℕ
parted f g c xs = map f (take c xs) ++ map g (drop c xs)

-- the count at place c
pub parted_at : {A : Type 0} (f g : A → ℕ) (c : ℕ) (xs : List A) (d : A) → c < length xs → slice_index (parted f g c xs) c ≡ g (slice_index_or xs c d)
parted_at f g c [] d within = absurd (omega (arith, within))
parted_at f g zero (x ∷ xs) d within = refl
parted_at f g (suc c) (x ∷ xs) d within = parted_at f g c xs d (omega (arith, within))

-- the count of a list by one count
pub map_at : {A : Type 0} (g : A → ℕ) (xs : List A) (i : ℕ) (d : A) → i < length xs → slice_index (map g xs) i ≡ g (slice_index_or xs i d)
map_at g [] i d within = absurd (omega (arith, within))
map_at g (x ∷ xs) zero d within = refl
map_at g (x ∷ xs) (suc i) d within = map_at g xs i d (omega (arith, within))

-- the count at any place is one of both
pub parted_either : {A : Type 0} (f g : A → ℕ) (c i : ℕ) (xs : List A) (d : A) → i < length xs → (slice_index (parted f g c xs) i ≡ f (slice_index_or xs i d)) ⊎ (slice_index (parted f g c xs) i ≡ g (slice_index_or xs i d))
parted_either f g c i [] d within = absurd (omega (arith, within))
parted_either f g zero i (x ∷ xs) d within = inr (map_at g (x ∷ xs) i d within)
parted_either f g (suc c) zero (x ∷ xs) d within = inl refl
parted_either f g (suc c) (suc i) (x ∷ xs) d within = parted_either f g c i xs d (omega (arith, within))

-- as many as there are
pub parted_count : {A : Type 0} (f g : A → ℕ) (c : ℕ) (xs : List A) → length (parted f g c xs) ≡ length xs
parted_count f g zero [] = refl
parted_count f g (suc c) [] = refl
parted_count f g zero (x ∷ xs) = ap suc (parted_count f g zero xs)
parted_count f g (suc c) (x ∷ xs) = ap suc (parted_count f g c xs)

-- the place moves on where the count at it is written
pub parted_set : {A : Type 0} (f g : A → ℕ) (c n : ℕ) (xs : List A) (d : A) → c < length xs → n ≡ f (slice_index_or xs c d) → slice_set (parted f g c xs) c n ≡ parted f g (suc c) xs
parted_set f g c n [] d within is = absurd (omega (arith, within))
parted_set f g zero n (x ∷ xs) d within is = ap (λ m. m ∷ map g xs) is
parted_set f g (suc c) n (x ∷ xs) d within is = ap (λ ys. f x ∷ ys) (parted_set f g c n xs d (omega (arith, within)) is)

-- or where both counts are the same
pub parted_same : {A : Type 0} (f g : A → ℕ) (c : ℕ) (xs : List A) (d : A) → c < length xs → g (slice_index_or xs c d) ≡ f (slice_index_or xs c d) → parted f g c xs ≡ parted f g (suc c) xs
parted_same f g c [] d within is = absurd (omega (arith, within))
parted_same f g zero (x ∷ xs) d within is = ap (λ m. m ∷ map g xs) is
parted_same f g (suc c) (x ∷ xs) d within is = ap (λ ys. f x ∷ ys) (parted_same f g c xs d (omega (arith, within)) is)

-- at the end
pub parted_all : {A : Type 0} (f g : A → ℕ) (c : ℕ) (xs : List A) → length xs ≤ c → parted f g c xs ≡ map f xs
parted_all f g zero [] past = refl
parted_all f g (suc c) [] past = refl
parted_all f g zero (x ∷ xs) past = absurd (omega (arith, past))
parted_all f g (suc c) (x ∷ xs) past = ap (λ ys. f x ∷ ys) (parted_all f g c xs (omega (arith, past)))

-- counts that are the same for each
pub same_counts : {A : Type 0} (f g : A → ℕ) (xs : List A) (d : A) → ((i : ℕ) → i < length xs → f (slice_index_or xs i d) ≡ g (slice_index_or xs i d)) → map f xs ≡ map g xs
same_counts f g [] d same = refl
same_counts f g (x ∷ xs) d same = (λ i. same 0 (omega arith) i ∷ same_counts f g xs d (λ j within. same (suc j) (omega (arith, within))) i)

-- and at the beginning
pub parted_none : {A : Type 0} (f g : A → ℕ) (xs : List A) → parted f g 0 xs ≡ map g xs
parted_none f g [] = refl
parted_none f g (x ∷ xs) = refl
