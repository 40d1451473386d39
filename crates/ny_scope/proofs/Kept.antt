-- What stands before the names that a block binds.
use Rattle.std.proofs.Common.{◌≡◌, List, ◌++◌, take, length, ap, ◌∙◌, arith}
use Rattle.std.proofs.lemmas.List.{take-append-le, take_all, length-take}

-- more names after them change nothing
pub kept_more : {A : Type 0} (old xs ys : List A) → take (length old) xs ≡ old → take (length old) (xs ++ ys) ≡ old
kept_more old xs ys h = take-append-le (length old) xs ys (omega (arith, length-take (length old) xs, ap length h)) ∙ h

pub kept_all : {A : Type 0} (xs ys : List A) → take (length xs) (xs ++ ys) ≡ xs
kept_all xs ys = kept_more xs xs ys (take_all (length xs) xs (omega arith))
