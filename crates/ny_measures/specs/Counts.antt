-- What the code keeps of a count: the count, or the greatest number that it tells apart.
use Rattle.std.specs.Prelude.{ℕ, ◌^◌, min, List, [], ◌∷◌}
use Rattle.ny_resolve.specs.declared.term.NameId.{NameId}

abbrev pub capped : ℕ → ℕ
capped n = min n (2 ^ 32)

abbrev pub all_capped : List ℕ → List ℕ
all_capped [] = []
all_capped (n ∷ ns) = capped n ∷ all_capped ns

abbrev pub names_capped : List (NameId × ℕ) → List (NameId × ℕ)
names_capped [] = []
names_capped (b ∷ bs) = (b.0, capped b.1) ∷ names_capped bs
