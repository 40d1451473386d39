-- The parts of a text, and the local names that each of them sees.
use Rattle.std.specs.Prelude.{◌≡◌, ◌<◌, ◌⊎◌, ℕ, List, [], ◌∷◌, ◌++◌, length, get_or, ℤ}
use Rattle.ny_num.specs.declared.rate.Rate.{Rate}
use Rattle.ny_resolve.specs.declared.builtin.Operator.{Operator}
use Rattle.ny_resolve.specs.declared.builtin.Order.{Order}
use Rattle.ny_resolve.specs.declared.builtin.Rated.{Rated}
use Rattle.ny_resolve.specs.declared.term.NameId.{NameId}
use Rattle.ny_resolve.specs.declared.term.Term.TheVariants as term
use Rattle.ny_resolve.specs.declared.term.Part.{Part}
use Rattle.ny_resolve.specs.declared.term.Bound.{Bound}
use Rattle.ny_resolve.specs.declared.term.Declared.{Declared}
use Rattle.ny_kinds.specs.Kinds.{no_declared}

-- one of these parts
abbrev pub IsAmong : Part → List Part → Type 0
IsAmong q [] = ⊥
IsAmong q (e ∷ es) = (e ≡ q) ⊎ IsAmong q es

-- the value of a bind, and what it sees: the names that the block sees, and the binds before it
abbrev pub IsBindAmong : List NameId → List Bound → List NameId → Part → Type 0
IsBindAmong xs [] ys q = ⊥
IsBindAmong xs (b ∷ bs) ys q = ((xs ≡ ys) × (b.value ≡ q)) ⊎ IsBindAmong (xs ++ b.name ∷ []) bs ys q

-- the names that are seen after binds
abbrev pub names_after : List Bound → List NameId → List NameId
names_after [] xs = xs
names_after (b ∷ bs) xs = names_after bs (xs ++ b.name ∷ [])

-- One part is made of others: where it sees the first names, the other one is of it and sees the second.
pub data IsPartOf : List NameId → Part → List NameId → Part → Type 0 where
  argument : (xs : List NameId) (p q : Part) (n : ℕ) (es : List Part) → p.term ≡ term.Call n es → IsAmong q es → IsPartOf xs p xs q
  bind : (xs ys : List NameId) (p q : Part) (bs : List Bound) (e : Part) → p.term ≡ term.Block bs e → IsBindAmong xs bs ys q → IsPartOf xs p ys q
  result : (xs : List NameId) (p q : Part) (bs : List Bound) → p.term ≡ term.Block bs q → IsPartOf xs p (names_after bs xs) q
  operand : (xs : List NameId) (p q : Part) (o : Operator) (es : List Part) → p.term ≡ term.Apply o es → IsAmong q es → IsPartOf xs p xs q
  dividend : (xs : List NameId) (p q : Part) (v : ℤ) → p.term ≡ term.Over q v → IsPartOf xs p xs q
  repeated : (xs : List NameId) (p q : Part) (o : Order) (x : NameId) (n : ℕ) → p.term ≡ term.Repeat o x n q → IsPartOf xs p (xs ++ x ∷ []) q
  nameless : (xs : List NameId) (p q : Part) → p.term ≡ term.Nameless q → IsPartOf xs p xs q
  warped : (xs : List NameId) (p q : Part) (vs : List ℤ) → p.term ≡ term.Warp vs q → IsPartOf xs p xs q
  rated : (xs : List NameId) (p q : Part) (a : Rated) (r : Rate) → p.term ≡ term.Rate a r q → IsPartOf xs p xs q

-- A part of a text, in the declaration of this number, where it sees these names: a body sees its parameters, and what is played, after
-- all declarations, no name.
pub data IsInText (ds : List Declared) (play : Part) : ℕ → List NameId → Part → Type 0 where
  body : (n : ℕ) → n < length ds → IsInText ds play n (get_or ds n no_declared).params (get_or ds n no_declared).body
  played : IsInText ds play (length ds) [] play
  within : (here : ℕ) (xs ys : List NameId) (p q : Part) → IsInText ds play here xs p → IsPartOf xs p ys q → IsInText ds play here ys q
