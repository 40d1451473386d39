-- The stop of the last of some timings.
use Rattle.std.proofs.Common.{◌≡◌, ℕ, zero, suc, ◌+◌, ◌-◌, List, [], ◌∷◌, length, get_or, slice_get, None, Some, refl, sym, ap, ◌∙◌, arith}
use Rattle.ny_num.specs.Grid.{index_at}
use Rattle.ny_num.specs.declared.rate.Rate.{Rate}
use Rattle.ny_num.specs.declared.rate.Rate.TheVariants.{R2205, R4410, R8000, R11025, R16000, R22050, R32000, R44100, R48000}
use Rattle.ny_num.specs.declared.timing.Timing.{Timing}
use Rattle.ny_list.proofs.IndexLemmas.{same_some, none_some}
use Rattle.ny_heap.specs.View.{last_stop_in}

pub last_stop_at : (xs : List Timing) (i : ℕ) (d : Timing) (stop : ℕ) → i + 1 ≡ length xs → (get_or xs i d).stop ≡ last_stop_in stop xs
last_stop_at [] i d stop last = absurd (omega (arith, last))
last_stop_at (t ∷ []) zero d stop last = refl
last_stop_at (t ∷ []) (suc i) d stop last = absurd (omega (arith, last))
last_stop_at (t ∷ u ∷ ts) zero d stop last = absurd (omega (arith, last))
last_stop_at (t ∷ u ∷ ts) (suc i) d stop last = last_stop_at (u ∷ ts) i d t.stop (omega (arith, last))

last_got : (x : Timing) (xs : List Timing) (t : Timing) (stop : ℕ) → slice_get (x ∷ xs) (length xs) ≡ Some t → t.stop ≡ last_stop_in stop (x ∷ xs)
last_got x [] t stop is = ap (λ (k : Timing). k.stop) (sym (same_some is))
last_got x (y ∷ ys) t stop is = last_got y ys t x.stop is

-- where there is a last one, its stop
pub last_some : (xs : List Timing) (t : Timing) → Some t ≡ slice_get xs (length xs - 1) → t.stop ≡ last_stop_in 0 xs
last_some [] t is = absurd (none_some (sym is))
last_some (x ∷ xs) t is = let e : length (x ∷ xs) - 1 ≡ length xs = omega arith in last_got x xs t 0 (sym (is ∙ ap (slice_get (x ∷ xs)) e))

-- and 0 where there is none
pub last_none : (xs : List Timing) → None ≡ slice_get xs (length xs - 1) → last_stop_in 0 xs ≡ 0
last_none [] is = refl
last_none (x ∷ xs) is = let e : length (x ∷ xs) - 1 ≡ length xs = omega arith in absurd (there x xs (sym (is ∙ ap (slice_get (x ∷ xs)) e)))
  where
    there : (x : Timing) (xs : List Timing) → slice_get (x ∷ xs) (length xs) ≡ None → ⊥
    there x [] is = none_some (sym is)
    there x (y ∷ ys) is = there y ys is

pub index_none : (r : Rate) → 0 ≡ index_at 0 r
unfolding index_at
index_none R2205 = refl
index_none R4410 = refl
index_none R8000 = refl
index_none R11025 = refl
index_none R16000 = refl
index_none R22050 = refl
index_none R32000 = refl
index_none R44100 = refl
index_none R48000 = refl
