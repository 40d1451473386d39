-- Tokens in order are slices of the text.
use Rattle.std.proofs.Common.{ℕ, ◌≤◌, List, [], ◌∷◌, length, arith}
use Rattle.std.specs.List.{AllByRecursion}
use Rattle.std.proofs.lemmas.List.Elements.{All-from_recursion}
use Rattle.ny_syntax.specs.declared.token.Token.{Token}
use Rattle.ny_syntax.specs.Places.{AreInOrder}
use Rattle.ny_parse.specs.Reading.{AreSlices}

abbrev IsSlice : ℕ → Token → Type 0
IsSlice size t = (t.from ≤ t.to) × (t.to ≤ size)

start-bound : (size start : ℕ) (ts : List Token) → AreInOrder start ts size → start ≤ size
start-bound size start [] h = h
start-bound size start (t ∷ ts) (first, some, more) = omega (arith, start-bound size t.to ts more)

each-slice : (size start : ℕ) (ts : List Token) → AreInOrder start ts size → AllByRecursion (IsSlice size) ts
each-slice size start [] h = tt
each-slice size start (t ∷ ts) (first, some, more) = ((omega arith, start-bound size t.to ts more), each-slice size t.to ts more)

pub are-slices : (text : List ℕ) (ts : List Token) → AreInOrder 0 ts (length text) → AreSlices text ts
are-slices text ts h = All-from_recursion (IsSlice (length text)) ts (each-slice (length text) 0 ts h)
