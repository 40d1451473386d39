-- What filters give for one list after another.
use Rattle.std.proofs.Common.{◌≡◌, ℕ, zero, suc, ◌+◌, ◌≤◌, List, [], ◌∷◌, ◌++◌, length, take, drop, refl, sym, ap, ◌∙◌, arith, ℤ}
use Rattle.std.proofs.lemmas.List.{length-take, length-drop, length-take-le, take-append-drop}
use Rattle.std.proofs.Math.Seq.{take-append_seam, drop-append_seam, take-add}
use Rattle.ny_num.proofs.PartAdded.{drop_again}
use Rattle.ny_num.specs.Filters.{Coefficients, Recent, one_pole_value, one_pole_after, biquad_next, biquad_after, comb_after, comb_value, delayed}
use Rattle.ny_filters.specs.declared.filter.Filter.{Filter}
use Rattle.ny_filters.specs.declared.filter.Filter.TheVariants.{OnePole, Biquad, Comb}
use Rattle.ny_filters.specs.Kept.{kept_after, comb_next}
use Rattle.ny_filters.specs.Filtering.{Memory, Pole, Poles, Line, silent, outputs_after, filtered, memory_after}
use Rattle.ny_filters.proofs.Combs.{newest_outputs}

-- what is kept after two lists
kept_joined : {S : Type 0} (next : S → ℤ → S) (s : S) (xs ys : List ℤ) → kept_after next s (xs ++ ys) ≡ kept_after next (kept_after next s xs) ys
kept_joined next s [] ys = refl
kept_joined next s (x ∷ xs) ys = kept_joined next (next s x) xs ys

pole_joined : (a y1 : ℤ) (xs ys : List ℤ) → one_pole_after a y1 (xs ++ ys) ≡ one_pole_after a y1 xs ++ one_pole_after a (kept_after (one_pole_value a) y1 xs) ys
pole_joined a y1 [] ys = refl
pole_joined a y1 (x ∷ xs) ys = ap (λ os. one_pole_value a y1 x ∷ os) (pole_joined a (one_pole_value a y1 x) xs ys)

biquad_joined : (c : Coefficients) (r : Recent) (xs ys : List ℤ) → biquad_after c r (xs ++ ys) ≡ biquad_after c r xs ++ biquad_after c (kept_after (biquad_next c) r xs) ys
biquad_joined c r [] ys = refl
biquad_joined c r (x ∷ xs) ys = ap (λ os. (biquad_next c r x).y1 ∷ os) (biquad_joined c (biquad_next c r x) xs ys)

comb_joined : (delay : ℕ) (gain : ℤ) (os xs ys : List ℤ) → 1 ≤ delay → comb_after delay gain os (xs ++ ys) ≡ comb_after delay gain os xs ++ comb_after delay gain (kept_after (comb_next delay gain) os xs) ys
comb_joined delay gain os [] ys some = refl
comb_joined delay gain os (x ∷ xs) ys some =
    let v : ℤ = comb_value gain (delayed delay os) x in
    ap (λ zs. v ∷ zs) (sym (newest_outputs delay gain (v ∷ os) (xs ++ ys) some))
    ∙ ap (λ zs. v ∷ zs) (comb_joined delay gain (take delay (v ∷ os)) xs ys some)
    ∙ ap (λ zs. v ∷ zs ++ comb_after delay gain (kept_after (comb_next delay gain) os (x ∷ xs)) ys) (newest_outputs delay gain (v ∷ os) xs some)

pole_length : (a y1 : ℤ) (xs : List ℤ) → length (one_pole_after a y1 xs) ≡ length xs
pole_length a y1 [] = refl
pole_length a y1 (x ∷ xs) = ap (λ n. suc n) (pole_length a (one_pole_value a y1 x) xs)

biquad_length : (c : Coefficients) (r : Recent) (xs : List ℤ) → length (biquad_after c r xs) ≡ length xs
biquad_length c r [] = refl
biquad_length c r (x ∷ xs) = ap (λ n. suc n) (biquad_length c (biquad_next c r x) xs)

comb_length : (delay : ℕ) (gain : ℤ) (os xs : List ℤ) → length (comb_after delay gain os xs) ≡ length xs
comb_length delay gain os [] = refl
comb_length delay gain os (x ∷ xs) = ap (λ n. suc n) (comb_length delay gain (comb_value gain (delayed delay os) x ∷ os) xs)

-- a filter keeps this
abbrev pub IsMemory : Filter → Memory → Type 0
IsMemory (OnePole a) (Pole y1) = Unit {0}
IsMemory (Biquad b0 b1 b2 a1 a2) (Poles r) = Unit {0}
IsMemory (Comb delay gain) (Line os) = 1 ≤ delay
IsMemory f m = ⊥

pub outputs_joined : (f : Filter) (m : Memory) (xs ys : List ℤ) → IsMemory f m → outputs_after f m (xs ++ ys) ≡ outputs_after f m xs ++ outputs_after f (memory_after f m xs) ys
outputs_joined (OnePole a) (Pole y1) xs ys is = pole_joined a y1 xs ys
outputs_joined (Biquad b0 b1 b2 a1 a2) (Poles r) xs ys is = biquad_joined (record { b0 = b0; b1 = b1; b2 = b2; a1 = a1; a2 = a2 }) r xs ys
outputs_joined (Comb delay gain) (Line os) xs ys is = comb_joined delay gain os xs ys is
outputs_joined (OnePole a) (Poles r) xs ys is = elim is [ ]
outputs_joined (OnePole a) (Line os) xs ys is = elim is [ ]
outputs_joined (Biquad b0 b1 b2 a1 a2) (Pole y1) xs ys is = elim is [ ]
outputs_joined (Biquad b0 b1 b2 a1 a2) (Line os) xs ys is = elim is [ ]
outputs_joined (Comb delay gain) (Pole y1) xs ys is = elim is [ ]
outputs_joined (Comb delay gain) (Poles r) xs ys is = elim is [ ]

pub memory_joined : (f : Filter) (m : Memory) (xs ys : List ℤ) → IsMemory f m → memory_after f m (xs ++ ys) ≡ memory_after f (memory_after f m xs) ys
memory_joined (OnePole a) (Pole y1) xs ys is = ap Pole (kept_joined (one_pole_value a) y1 xs ys)
memory_joined (Biquad b0 b1 b2 a1 a2) (Poles r) xs ys is = ap Poles (kept_joined (biquad_next (record { b0 = b0; b1 = b1; b2 = b2; a1 = a1; a2 = a2 })) r xs ys)
memory_joined (Comb delay gain) (Line os) xs ys is = ap Line (kept_joined (comb_next delay gain) os xs ys)
memory_joined (OnePole a) (Poles r) xs ys is = elim is [ ]
memory_joined (OnePole a) (Line os) xs ys is = elim is [ ]
memory_joined (Biquad b0 b1 b2 a1 a2) (Pole y1) xs ys is = elim is [ ]
memory_joined (Biquad b0 b1 b2 a1 a2) (Line os) xs ys is = elim is [ ]
memory_joined (Comb delay gain) (Pole y1) xs ys is = elim is [ ]
memory_joined (Comb delay gain) (Poles r) xs ys is = elim is [ ]

pub outputs_length : (f : Filter) (m : Memory) (xs : List ℤ) → IsMemory f m → length (outputs_after f m xs) ≡ length xs
outputs_length (OnePole a) (Pole y1) xs is = pole_length a y1 xs
outputs_length (Biquad b0 b1 b2 a1 a2) (Poles r) xs is = biquad_length (record { b0 = b0; b1 = b1; b2 = b2; a1 = a1; a2 = a2 }) r xs
outputs_length (Comb delay gain) (Line os) xs is = comb_length delay gain os xs
outputs_length (OnePole a) (Poles r) xs is = elim is [ ]
outputs_length (OnePole a) (Line os) xs is = elim is [ ]
outputs_length (Biquad b0 b1 b2 a1 a2) (Pole y1) xs is = elim is [ ]
outputs_length (Biquad b0 b1 b2 a1 a2) (Line os) xs is = elim is [ ]
outputs_length (Comb delay gain) (Pole y1) xs is = elim is [ ]
outputs_length (Comb delay gain) (Poles r) xs is = elim is [ ]

-- and so it does after any samples
pub memory_is : (f : Filter) (m : Memory) (xs : List ℤ) → IsMemory f m → IsMemory f (memory_after f m xs)
memory_is (OnePole a) (Pole y1) xs is = tt
memory_is (Biquad b0 b1 b2 a1 a2) (Poles r) xs is = tt
memory_is (Comb delay gain) (Line os) xs is = is
memory_is (OnePole a) (Poles r) xs is = elim is [ ]
memory_is (OnePole a) (Line os) xs is = elim is [ ]
memory_is (Biquad b0 b1 b2 a1 a2) (Pole y1) xs is = elim is [ ]
memory_is (Biquad b0 b1 b2 a1 a2) (Line os) xs is = elim is [ ]
memory_is (Comb delay gain) (Pole y1) xs is = elim is [ ]
memory_is (Comb delay gain) (Poles r) xs is = elim is [ ]

pub silent_is : (f : Filter) (m : Memory) → IsMemory f m → IsMemory f (silent f)
silent_is (OnePole a) (Pole y1) is = tt
silent_is (Biquad b0 b1 b2 a1 a2) (Poles r) is = tt
silent_is (Comb delay gain) (Line os) is = is
silent_is (OnePole a) (Poles r) is = elim is [ ]
silent_is (OnePole a) (Line os) is = elim is [ ]
silent_is (Biquad b0 b1 b2 a1 a2) (Pole y1) is = elim is [ ]
silent_is (Biquad b0 b1 b2 a1 a2) (Line os) is = elim is [ ]
silent_is (Comb delay gain) (Pole y1) is = elim is [ ]
silent_is (Comb delay gain) (Poles r) is = elim is [ ]

-- ---- slices

-- what is heard up to a place, and then more
pub heard_more : (n m : ℕ) (xs : List ℤ) → take (n + m) xs ≡ take n xs ++ take m (drop n xs)
heard_more n m xs = take-add n m xs

taken_less : (n k : ℕ) (xs : List ℤ) → n ≤ k → take n (take k xs) ≡ take n xs
taken_less zero k xs less = refl
taken_less (suc n) k [] less = ap (take (suc n)) (none k)
  where
    none : (k : ℕ) → take {A = ℤ} k [] ≡ []
    none zero = refl
    none (suc k) = refl
taken_less (suc n) zero (x ∷ xs) less = absurd (omega (arith, less))
taken_less (suc n) (suc k) (x ∷ xs) less = ap (λ ys. x ∷ ys) (taken_less n k xs (omega (arith, less)))

-- a part of a run that was read at a place
pub run_part : (from done n : ℕ) (xs run : List ℤ) → run ≡ take (length run) (drop (from + done) xs) → n ≤ length run → take n run ≡ take n (drop done (drop from xs))
run_part from done n xs run is within =
    ap (take n) is ∙ taken_less n (length run) (drop (from + done) xs) within ∙ ap (take n) (sym (drop_again from done xs))

-- the slice of the whole outputs that a filter gives from what it keeps after the first samples
pub slice_is : (f : Filter) (m : Memory) (from len : ℕ) (xs out : List ℤ) → IsMemory f m → m ≡ memory_after f (silent f) (take from xs)
    → length out ≡ len → out ≡ outputs_after f m (take len (drop from xs)) → out ≡ take len (drop from (filtered f xs))
slice_is f m from len xs out is kept long given = by_len len refl
  where
    zs : List ℤ
    zs = drop from xs

    some : length (take len zs) ≡ len
    some = sym (outputs_length f m (take len zs) is) ∙ ap length (sym given) ∙ long

    all : from ≤ length xs → outputs_after f (silent f) xs ≡ outputs_after f (silent f) (take from xs) ++ (out ++ outputs_after f (memory_after f m (take len zs)) (drop len zs))
    all within =
        ap (outputs_after f (silent f)) (sym (take-append-drop from xs))
        ∙ outputs_joined f (silent f) (take from xs) zs (silent_is f m is)
        ∙ ap (λ k. outputs_after f (silent f) (take from xs) ++ outputs_after f k zs) (sym kept)
        ∙ ap (λ ys. outputs_after f (silent f) (take from xs) ++ outputs_after f m ys) (sym (take-append-drop len zs))
        ∙ ap (λ ys. outputs_after f (silent f) (take from xs) ++ ys) (outputs_joined f m (take len zs) (drop len zs) is)
        ∙ ap (λ ys. outputs_after f (silent f) (take from xs) ++ (ys ++ outputs_after f (memory_after f m (take len zs)) (drop len zs))) (sym given)

    by_len : (n : ℕ) → len ≡ n → out ≡ take len (drop from (filtered f xs))
    by_len zero e = nothing out (omega (arith, long, e)) ∙ sym (ap (λ k. take k (drop from (filtered f xs))) e)
      where
        nothing : (ys : List ℤ) → length ys ≡ 0 → ys ≡ []
        nothing [] e = refl
        nothing (y ∷ ys) e = absurd (omega (arith, e))
    by_len (suc n) e =
        let within : from ≤ length xs = omega (arith, some, e, length-take len zs, length-drop from xs) in
        let first : length (outputs_after f (silent f) (take from xs)) ≡ from = outputs_length f (silent f) (take from xs) (silent_is f m is) ∙ length-take-le from xs within in
        sym (ap (λ ys. take len (drop from ys)) (all within)
        ∙ ap (λ k. take len (drop k (outputs_after f (silent f) (take from xs) ++ (out ++ outputs_after f (memory_after f m (take len zs)) (drop len zs))))) (sym first)
        ∙ ap (take len) (drop-append_seam (outputs_after f (silent f) (take from xs)) (out ++ outputs_after f (memory_after f m (take len zs)) (drop len zs)))
        ∙ ap (λ k. take k (out ++ outputs_after f (memory_after f m (take len zs)) (drop len zs))) (sym long)
        ∙ take-append_seam out (outputs_after f (memory_after f m (take len zs)) (drop len zs)))

-- and what is kept then
pub kept_is : (f : Filter) (m new : Memory) (from len : ℕ) (xs : List ℤ) → IsMemory f m → m ≡ memory_after f (silent f) (take from xs)
    → new ≡ memory_after f m (take len (drop from xs)) → new ≡ memory_after f (silent f) (take (from + len) xs)
kept_is f m new from len xs is kept after =
    after ∙ ap (λ k. memory_after f k (take len (drop from xs))) kept
    ∙ sym (memory_joined f (silent f) (take from xs) (take len (drop from xs)) (silent_is f m is))
    ∙ ap (memory_after f (silent f)) (sym (heard_more from len xs))
