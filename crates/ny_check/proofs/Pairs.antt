-- Nothing is left to pair after the shorter of two lists.
use Rattle.std.proofs.Common.{◌≡◌, ℕ, min, List, [], ◌∷◌, drop, length, refl, arith, inl, inr}
use Rattle.std.specs.Prelude.{zip}
use Rattle.std.proofs.lemmas.Bool.{cases_lt}
use Rattle.std.proofs.Math.ListN.{drop_of_length-le}

zip-nothing : {A B : Type 0} (xs : List A) → zip {K = A} {X = B} xs [] ≡ []
zip-nothing [] = refl
zip-nothing (x ∷ xs) = refl

pub paired_end : {A B : Type 0} (xs : List A) (ys : List B) (n : ℕ) → n ≡ min (length xs) (length ys) → zip (drop n xs) (drop n ys) ≡ []
paired_end xs ys n h =
    elim (cases_lt (length xs) (length ys)) [
      | inl lt ↦ let e : drop n xs ≡ [] = drop_of_length-le xs (omega arith) in rw e
      | inr ge ↦ let e : drop n ys ≡ [] = drop_of_length-le ys (omega arith) in rw e (zip-nothing (drop n xs))
    ]
