-- Where tokens stand in a text.
use Rattle.std.specs.Prelude.{ℕ, ◌≤◌, ◌<◌, List, [], ◌∷◌}
use Rattle.ny_syntax.specs.declared.token.Token.{Token}

-- tokens from one place to another, one after the other, and each of at least one byte
abbrev pub AreInOrder : ℕ → List Token → ℕ → Type 0
AreInOrder start [] end = start ≤ end
AreInOrder start (token ∷ tokens) end = (start ≤ token.from) × (token.from < token.to) × AreInOrder token.to tokens end
