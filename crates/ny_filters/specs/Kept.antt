-- What a filter keeps from sample to sample.
use Rattle.std.specs.Prelude.{ℕ, List, [], ◌∷◌, take, ℤ}
use Rattle.ny_num.specs.Filters.{comb_value, delayed}

-- what is kept after these samples, where `next` says what is kept after one more
abbrev pub kept_after : {S : Type 0} → (S → ℤ → S) → S → List ℤ → S
kept_after next s [] = s
kept_after next s (x ∷ xs) = kept_after next (next s x) xs

-- the newest outputs of a comb after one more sample, the latest first: no more than come back
abbrev pub comb_next : ℕ → ℤ → List ℤ → ℤ → List ℤ
comb_next delay gain outputs x = take delay (comb_value gain (delayed delay outputs) x ∷ outputs)
