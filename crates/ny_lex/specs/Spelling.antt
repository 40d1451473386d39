-- The tokens of a text, with their places.
use Rattle.std.specs.Prelude.{◌≡◌, ℕ, ◌-◌, ◌<◌, List, [], ◌∷◌, length, Ok, Err}
use Rattle.std.specs.List.{slice_range}
use Rattle.ny_syntax.specs.declared.token.Token.{Token}
use Rattle.ny_lex.specs.declared.fault.LexWhy.{LexWhy}
use Rattle.ny_lex.specs.declared.fault.LexFault.{LexFault}
use Rattle.ny_lex.specs.declared.fault.LexFault.TheVariants.{Bad, OutOfMemory}
use Rattle.ny_lex.specs.Bytes.{after_gap}
use Rattle.ny_lex.specs.Words.{word_at}

-- where the rest of a text of so many bytes begins
abbrev pub place_of : ℕ → List ℕ → ℕ
place_of size rest = size - length rest

-- A part of a text of so many bytes is these tokens, each after a gap, then another gap, and then the rest.
abbrev pub Spells : ℕ → List ℕ → List Token → List ℕ → Type 0
Spells size text [] rest = after_gap text ≡ rest
Spells size text (token ∷ tokens) rest =
    (after : List ℕ) × (word_at (after_gap text) ≡ Ok (token.kind, after)) × (token.from ≡ place_of size (after_gap text)) × (token.to ≡ place_of size after)
    × Spells size after tokens rest

-- the whole text is these tokens
abbrev pub HasTokens : List ℕ → List Token → Type 0
HasTokens text tokens = Spells (length text) text tokens []

-- the text is some tokens, and then bytes from this place on that begin no token, for this cause
abbrev pub IsUnreadable : List ℕ → ℕ → LexWhy → Type 0
IsUnreadable text at why =
    (tokens : List Token) × (rest : List ℕ) × Spells (length text) text tokens rest × (0 < length rest) × (word_at rest ≡ Err why) × (at ≡ place_of (length text) rest)

-- the text is no tokens at all
abbrev pub HasNoTokens : List ℕ → Type 0
HasNoTokens text = (tokens : List Token) → HasTokens text tokens → ⊥

-- a fault is what stands at the leftmost place that can't be read; want of memory says nothing of the text
abbrev pub IsRefused : List ℕ → LexFault → Type 0
IsRefused text (Bad at why) = IsUnreadable text at why
IsRefused text OutOfMemory = Unit {0}

-- each token is what its own bytes are, read alone
abbrev pub AreReadAlone : List ℕ → List Token → Type 0
AreReadAlone text [] = Unit {0}
AreReadAlone text (token ∷ tokens) = (word_at (slice_range text token.from token.to) ≡ Ok (token.kind, [])) × AreReadAlone text tokens
