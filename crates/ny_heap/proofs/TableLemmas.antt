-- Units by their numbers.
use Rattle.std.proofs.Common.{◌≡◌, inl, inr, ℕ, ◌<◌, List, length, get_or, Option, None, Some, sym, ◌∙◌}
use Rattle.std.proofs.lemmas.List.{get_or_past, get_or_default}
use Rattle.std.proofs.lemmas.Bool.{cases_lt}
use Rattle.ny_list.proofs.IndexLemmas.{none_some}

-- a place with something is one
pub place_within : {A : Type 0} (xs : List (Option A)) (v : ℕ) (x : A) → get_or xs v None ≡ Some x → v < length xs
place_within xs v x is = elim (cases_lt v (length xs)) [
  | inl h ↦ h
  | inr past ↦ absurd (none_some (sym (get_or_past xs v None past) ∙ is))
]

-- what is taken out of a place was there
pub taken_there : {A : Type 0} (xs : List (Option A)) (v : ℕ) (x y : A) (now taken : Option A) → get_or xs v None ≡ Some x → now ≡ get_or xs v now → taken ≡ now → taken ≡ Some y → get_or xs v None ≡ Some y
taken_there xs v x y now taken there read from is = get_or_default xs v None now (place_within xs v x there) ∙ sym read ∙ sym from ∙ is

-- what is found at a place is there
pub found_there : {A : Type 0} (xs : List (Option A)) (v : ℕ) (x y : A) (now : Option A) → get_or xs v None ≡ Some x → now ≡ get_or xs v now → now ≡ Some y → get_or xs v None ≡ Some y
found_there xs v x y now there read is = get_or_default xs v None now (place_within xs v x there) ∙ sym read ∙ is
