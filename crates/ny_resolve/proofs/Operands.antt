-- A list that one, two or three operands were put into.
use Rattle.std.proofs.Common.{◌≡◌, List, [], ◌∷◌, ◌++◌}
use Rattle.ny_resolve.specs.declared.term.Part.{Part}

pub one-listed : (none one : List Part) (x : Part) → none ≡ [] → one ≡ none ++ x ∷ [] → one ≡ x ∷ []
one-listed none one x empty first = rw (first, empty)

pub two-listed : (none one two : List Part) (x y : Part) → none ≡ [] → one ≡ none ++ x ∷ [] → two ≡ one ++ y ∷ [] → two ≡ x ∷ y ∷ []
two-listed none one two x y empty first second = rw (second, first, empty)

pub three-listed : (none one two three : List Part) (x y z : Part) → none ≡ [] → one ≡ none ++ x ∷ [] → two ≡ one ++ y ∷ [] → three ≡ two ++ z ∷ [] → three ≡ x ∷ y ∷ z ∷ []
three-listed none one two three x y z empty first second third = rw (third, second, first, empty)

pub ruleset listed = (one-listed, two-listed, three-listed)
