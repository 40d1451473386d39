-- Lines of tokens, one after the other.
use Rattle.std.proofs.Common.{◌≡◌, ℕ, List, [], ◌∷◌, ◌++◌, refl, sym, ap, ◌∙◌, append_assoc, append-nil}
use Rattle.ny_syntax.specs.Spelled.{Lexeme, spaced, onto, line_text, lines_text}

pub onto-spaced : (out : List ℕ) (words : List Lexeme) → onto out words ≡ out ++ spaced words
onto-spaced out [] = sym (append-nil out)
onto-spaced out (word ∷ words) = onto-spaced (out ++ 32 ∷ word.bytes) words ∙ append_assoc out (32 ∷ word.bytes) (spaced words)

-- a first token, others after one space each, and a line feed
pub onto-line : (out first : List ℕ) (words : List Lexeme) → onto (out ++ first) words ++ 10 ∷ [] ≡ out ++ (first ++ (spaced words ++ 10 ∷ []))
onto-line out first words =
    ap (λ z. z ++ 10 ∷ []) (onto-spaced (out ++ first) words)
    ∙ append_assoc (out ++ first) (spaced words) (10 ∷ [])
    ∙ append_assoc out first (spaced words ++ 10 ∷ [])

pub lines_text-append : (lines more : List (List Lexeme)) → lines_text (lines ++ more) ≡ lines_text lines ++ lines_text more
lines_text-append [] more = refl
lines_text-append (line ∷ lines) more = ap (λ z. line_text line ++ z) (lines_text-append lines more) ∙ sym (append_assoc (line_text line) (lines_text lines) (lines_text more))

pub ruleset whole_line = (onto-line)

pub ruleset more_lines = (lines_text-append)
