-- The kinds that are still to be told.
use Rattle.std.proofs.Common.{◌≡◌, ℕ, List, [], ◌∷◌, ◌++◌, map, refl, ◌⊎◌, inl, inr, Bor}
use Rattle.std.specs.Prelude.{flat_map, zip}
use Rattle.std.proofs.lemmas.List.{append_assoc}
use Rattle.ny_report.specs.Lines.{kind_part}

-- what is still to be told, with the names and the counts that are left
abbrev pub kinds_left : List (Bor (List ℕ)) → List ℕ → List ℕ
kinds_left names counts = flat_map (λ kind. kind_part kind.0 kind.1) (zip (map (λ (name : Bor (List ℕ)). name.now) names) counts)

-- one kind told
pub one_told : (line more : List ℕ) (name : Bor (List ℕ)) (count : ℕ) (names rest : List (Bor (List ℕ))) (counts others : List ℕ)
    → names ≡ name ∷ rest → counts ≡ count ∷ others → more ≡ line ++ kind_part name.now count
    → more ++ kinds_left rest others ≡ line ++ kinds_left names counts
one_told line more name count names rest counts others first second is =
    rw (is, first, second) (append_assoc line (kind_part name.now count) (kinds_left rest others))

nothing_counted : (names : List (List ℕ)) → flat_map (λ kind. kind_part kind.0 kind.1) (zip names []) ≡ []
nothing_counted [] = refl
nothing_counted (name ∷ names) = refl

-- nothing is left where names or counts have ended
pub none_left : (names : List (Bor (List ℕ))) (counts : List ℕ) → (names ≡ []) ⊎ (counts ≡ []) → kinds_left names counts ≡ []
none_left names counts (inl none) = rw none refl
none_left names counts (inr none) = rw none (nothing_counted (map (λ (name : Bor (List ℕ)). name.now) names))
