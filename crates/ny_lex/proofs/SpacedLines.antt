-- The text of lines of tokens, each of which is read alone, is read as these tokens.
use Rattle.std.proofs.Common.{◌≡◌, ℕ, suc, ◌-◌, List, [], ◌∷◌, ◌++◌, length, map, true, Ok, refl, sym, ap, ◌∙◌, subst, arith, append_assoc}
use Rattle.std.specs.List.{All, slice_range}
use Rattle.ny_syntax.specs.declared.token.Token.{Token}
use Rattle.ny_syntax.specs.Spelled.{Lexeme, lexeme_of, lexeme, spaced, line_text, lines_text}
use Rattle.ny_syntax.specs.Canonical.{line_tokens}
use Rattle.ny_lex.specs.Bytes.{is_blank, after_gap}
use Rattle.ny_lex.specs.Words.{word_at}
use Rattle.ny_lex.specs.Spelling.{Spells, HasTokens}
use Rattle.ny_lex.proofs.Slices.{slice-word}
use Rattle.ny_lex.proofs.Spaced.{token_before, spells-spaced, spells-gap, after_gap-blank}

-- its bytes alone are this token
abbrev pub IsReadAlone : Lexeme → Type 0
IsReadAlone word = word_at word.bytes ≡ Ok (word.kind, [])

abbrev pub AreAlone : List Lexeme → Type 0
AreAlone [] = Unit {0}
AreAlone (word ∷ words) = IsReadAlone word × AreAlone words

pub are_alone-of_all : (words : List Lexeme) → All IsReadAlone words → AreAlone words
are_alone-of_all [] all = tt
are_alone-of_all (word ∷ words) all = (all 0 word (omega arith), are_alone-of_all words (λ k d within. all (suc k) d (omega arith)))

front-alone : (words more : List Lexeme) → AreAlone (words ++ more) → AreAlone words
front-alone [] more all = tt
front-alone (word ∷ words) more (first, all) = (first, front-alone words more all)

back-alone : (words more : List Lexeme) → AreAlone (words ++ more) → AreAlone more
back-alone [] more all = all
back-alone (word ∷ words) more (first, all) = back-alone words more all

-- a last part of a whole text is read as these tokens
record IsReadAs (whole text : List ℕ) (words : List Lexeme) : Type 0 where
  listed : List Token
  spelled : Spells (length whole) text listed []
  are : map (lexeme_of whole) listed ≡ words

-- a token and a blank before what is read
word-read : (whole front : List ℕ) (word : Lexeme) (byte : ℕ) (text : List ℕ) (words : List Lexeme) → whole ≡ front ++ (word.bytes ++ byte ∷ text)
    → IsReadAlone word → is_blank byte ≡ true → IsReadAs whole text words → IsReadAs whole (word.bytes ++ byte ∷ text) (word ∷ words)
word-read whole front word byte text words is alone blank rest =
    let size : ℕ = length whole in
    let after : List ℕ = byte ∷ text in
    let slice : slice_range whole (size - length (word.bytes ++ after)) (size - length after) ≡ word.bytes =
    subst (λ z. slice_range z (length z - length (word.bytes ++ after)) (length z - length after) ≡ word.bytes) (sym is) (slice-word front word.bytes after) in
    record {
      listed = token_before size word.bytes word.kind after ∷ rest.listed;
      spelled = spells-spaced size word.bytes word.kind byte text rest.listed [] alone blank rest.spelled;
      are = ap (λ z. lexeme word.kind z ∷ map (lexeme_of whole) rest.listed) slice ∙ ap (λ z. word ∷ z) rest.are;
    }

-- tokens with a space between two and a line feed at the end
words-read : (whole front : List ℕ) (word : Lexeme) (words : List Lexeme) (next : List ℕ) (others : List Lexeme)
    → whole ≡ front ++ (word.bytes ++ (spaced words ++ 10 ∷ next)) → IsReadAlone word → AreAlone words
    → IsReadAs whole next others → IsReadAs whole (word.bytes ++ (spaced words ++ 10 ∷ next)) (word ∷ (words ++ others))
words-read whole front word [] next others is alone all rest = word-read whole front word 10 next others is alone refl rest
words-read whole front word (second ∷ words) next others is alone (first, all) rest =
    let tail : List ℕ = second.bytes ++ (spaced words ++ 10 ∷ next) in
    let same : spaced (second ∷ words) ++ 10 ∷ next ≡ 32 ∷ tail = ap (λ z. 32 ∷ z) (append_assoc second.bytes (spaced words) (10 ∷ next)) in
    let is_here : whole ≡ front ++ (word.bytes ++ 32 ∷ tail) = is ∙ ap (λ z. front ++ (word.bytes ++ z)) same in
    let ahead : List ℕ = front ++ (word.bytes ++ 32 ∷ []) in
    let is_next : whole ≡ ahead ++ tail = is_here ∙ ap (λ z. front ++ z) (sym (append_assoc word.bytes (32 ∷ []) tail)) ∙ sym (append_assoc front (word.bytes ++ 32 ∷ []) tail) in
    subst (λ z. IsReadAs whole (word.bytes ++ z) (word ∷ second ∷ (words ++ others))) (sym same)
    (word-read whole front word 32 tail (second ∷ (words ++ others)) is_here alone refl
    (words-read whole ahead second words next others is_next first all rest))

blank-read : (whole : List ℕ) (byte : ℕ) (text : List ℕ) (words : List Lexeme) → is_blank byte ≡ true → IsReadAs whole text words → IsReadAs whole (byte ∷ text) words
blank-read whole byte text words blank rest = record {
  listed = rest.listed;
  spelled = spells-gap (length whole) text (byte ∷ text) rest.listed [] (after_gap-blank byte text blank) rest.spelled;
  are = rest.are;
}

nothing-read : (whole : List ℕ) → IsReadAs whole [] []
unfolding after_gap
nothing-read whole = record { listed = []; spelled = refl; are = refl }

-- a line before others
line-read : (whole front : List ℕ) (line : List Lexeme) (next : List ℕ) (others : List Lexeme) → whole ≡ front ++ (line_text line ++ next) → AreAlone line
    → IsReadAs whole next others → IsReadAs whole (line_text line ++ next) (line ++ others)
line-read whole front [] next others is all rest = blank-read whole 10 next others refl rest
line-read whole front (word ∷ words) next others is (first, all) rest =
    let same : line_text (word ∷ words) ++ next ≡ word.bytes ++ (spaced words ++ 10 ∷ next) =
    append_assoc word.bytes (spaced words ++ 10 ∷ []) next ∙ ap (λ z. word.bytes ++ z) (append_assoc (spaced words) (10 ∷ []) next) in
    subst (λ z. IsReadAs whole z (word ∷ (words ++ others))) (sym same)
    (words-read whole front word words next others (is ∙ ap (λ z. front ++ z) same) first all rest)

lines-read : (whole front : List ℕ) (lines : List (List Lexeme)) → whole ≡ front ++ lines_text lines → AreAlone (line_tokens lines) → IsReadAs whole (lines_text lines) (line_tokens lines)
lines-read whole front [] is all = nothing-read whole
lines-read whole front (line ∷ lines) is all =
    line-read whole front line (lines_text lines) (line_tokens lines) is (front-alone line (line_tokens lines) all)
    (lines-read whole (front ++ line_text line) lines (is ∙ sym (append_assoc front (line_text line) (lines_text lines))) (back-alone line (line_tokens lines) all))

-- the text of lines has these tokens
abbrev pub HasLexemes : List ℕ → List Lexeme → Type 0
HasLexemes text words = (tokens : List Token) × HasTokens text tokens × (map (lexeme_of text) tokens ≡ words)

pub lines_text-read : (lines : List (List Lexeme)) → AreAlone (line_tokens lines) → HasLexemes (lines_text lines) (line_tokens lines)
lines_text-read lines all = let q = lines-read (lines_text lines) [] lines refl all in (q.listed, q.spelled, q.are)
