-- What holds of each element of a list.
use Rattle.std.proofs.Common.{zero, suc, List, [], ◌∷◌, ◌++◌, arith}
use Rattle.std.specs.List.{All}

abbrev pub Each : {X : Type 0} → (X → Type 0) → List X → Type 0
Each P [] = Unit {0}
Each P (x ∷ xs) = P x × Each P xs

pub each-append : {X : Type 0} (P : X → Type 0) (xs ys : List X) → Each P xs → Each P ys → Each P (xs ++ ys)
each-append P [] ys left right = right
each-append P (x ∷ xs) ys (first, left) right = (first, each-append P xs ys left right)

pub each-front : {X : Type 0} (P : X → Type 0) (xs ys : List X) → Each P (xs ++ ys) → Each P xs
each-front P [] ys all = tt
each-front P (x ∷ xs) ys (first, all) = (first, each-front P xs ys all)

pub each-back : {X : Type 0} (P : X → Type 0) (xs ys : List X) → Each P (xs ++ ys) → Each P ys
each-back P [] ys all = all
each-back P (x ∷ xs) ys (first, all) = each-back P xs ys all

pub each-of_all : {X : Type 0} (P : X → Type 0) (xs : List X) → All P xs → Each P xs
each-of_all P [] all = tt
each-of_all P (x ∷ xs) all = (all 0 x (omega arith), each-of_all P xs (λ k d within. all (suc k) d (omega arith)))

pub all-of_each : {X : Type 0} (P : X → Type 0) (xs : List X) → Each P xs → All P xs
all-of_each P [] each zero d within = absurd (omega arith)
all-of_each P [] each (suc k) d within = absurd (omega arith)
all-of_each P (x ∷ xs) (first, each) zero d within = first
all-of_each P (x ∷ xs) (first, each) (suc k) d within = all-of_each P xs each k d (omega arith)
