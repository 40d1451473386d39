-- The channel at a place.
use Rattle.std.proofs.Common.{◌≡◌, ℕ, zero, suc, ◌<◌, Bool, true, false, not, List, [], ◌∷◌, ◌++◌, take, refl, subst, arith, Option, None, Some, length, slice_get, slice_index_or, sym, ap, ◌∙◌}
use Rattle.std.proofs.lemmas.Option.{slice_get-get_or}
use Rattle.ny_heap.specs.declared.sound.Sound.{Sound}
use Rattle.ny_hands.proofs.OptionLemmas.{some_same}

pub got : (os : List (Option Sound)) (c : ℕ) (d : Option Sound) (s : Sound) → c < length os → slice_index_or os c d ≡ Some s → slice_get os c ≡ Some (Some s)
got os c d s less is = slice_get-get_or os c d less ∙ ap (λ o. Some o) is

pub got_same : (os : List (Option Sound)) (c : ℕ) (d : Option Sound) (s t : Sound) → c < length os → slice_index_or os c d ≡ Some s → slice_get os c ≡ Some (Some t) → s ≡ t
got_same os c d s t less is at = some_same s t (some_same (Some s) (Some t) (sym (got os c d s less is) ∙ at))

pub got_none : (os : List (Option Sound)) (c : ℕ) (d : Option Sound) → c < length os → slice_index_or os c d ≡ None → slice_get os c ≡ Some None
got_none os c d less is = slice_get-get_or os c d less ∙ ap (λ o. Some o) is

-- a list that was written back
pub put_back : {A : Type 0} (n : ℕ) (xs ys : List A) → length xs ≡ n → take n (xs ++ ys) ≡ xs
put_back {A} n xs ys len = subst (λ k. take k (xs ++ ys) ≡ xs) len (first xs)
  where
    first : (zs : List A) → take (length zs) (zs ++ ys) ≡ zs
    first [] = refl
    first (z ∷ zs) = ap (λ rest. z ∷ rest) (first zs)

pub got_any : (os : List (Option Sound)) (c : ℕ) (o : Option Sound) → c < length os → o ≡ slice_index_or os c o → slice_get os c ≡ Some o
got_any [] c o within is = absurd (omega (arith, within))
got_any (x ∷ os) zero o within is = ap Some (sym is)
got_any (x ∷ os) (suc c) o within is = got_any os c o (omega (arith, within)) is

pub turned_back : (b : Bool) → b ≡ not (not b)
turned_back true = refl
turned_back false = refl
