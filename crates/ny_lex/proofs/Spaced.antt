-- A text of tokens with one blank after each is read as these tokens.
use Rattle.std.proofs.Common.{◌≡◌, ℕ, List, [], ◌∷◌, ◌++◌, drop, Bool, true, false, ◌==◌, ◌||◌, if◌then◌else◌, Option, None, Ok, Err, refl, sym, ap, ◌∙◌, subst, arith}
use Rattle.std.proofs.lemmas.Bool.Decides.{nat_tests}
use Rattle.std.specs.Char.{is_ascii_digit}
use Rattle.ny_syntax.specs.declared.token.Token.{Token}
use Rattle.ny_syntax.specs.declared.token.TokenKind.{TokenKind}
use Rattle.ny_syntax.specs.declared.token.Mark.{Mark}
use Rattle.ny_lex.specs.declared.fault.LexWhy.TheVariants.{BadByte}
use Rattle.ny_lex.specs.Bytes.{after_gap, after_comment, is_blank, is_name_start}
use Rattle.ny_lex.specs.Words.{Read, begins_number, mark_of, mark_before_equal, long_mark, sign_or, sign_at, word_at}
use Rattle.ny_lex.specs.Spelling.{Spells, place_of}
use Rattle.ny_lex.proofs.Alone.{word_at-sign}
use Rattle.ny_lex.proofs.Ended.{EndsToken, word-ended}

-- no token begins with this byte
abbrev BeginsNone : ℕ → Type 0
BeginsNone byte = (is_name_start byte ≡ false) × (is_ascii_digit byte ≡ false) × ((byte == 46) ≡ false) × ((byte == 35) ≡ false) × (mark_of byte ≡ None) × (mark_before_equal byte ≡ None)

begins-none : (byte : ℕ) (text : List ℕ) → BeginsNone byte → begins_number (byte ∷ text) ≡ false
unfolding begins_number
begins-none byte [] none = none.1
begins-none byte (next ∷ text) none = rw (none.1, none.2) refl

long_mark-none : (byte : ℕ) (text : List ℕ) → mark_before_equal byte ≡ None → long_mark byte text ≡ None
long_mark-none byte [] none = refl
long_mark-none byte (next ∷ text) none = by_test (next == 61)
  where
    by_test : (equal : Bool) → (let mark : Option Mark = if equal then mark_before_equal byte else None in mark) ≡ None
    by_test true = none
    by_test false = refl

word_at-none : (byte : ℕ) (text : List ℕ) → BeginsNone byte → word_at (byte ∷ text) ≡ Err BadByte
unfolding sign_at
word_at-none byte text none =
    word_at-sign byte text none.0 (begins-none byte text none) none.3
    ∙ ap (λ z. sign_or z (drop 1 text) (sign_or (mark_of byte) text (Err BadByte))) (long_mark-none byte text none.5)
    ∙ ap (λ z. sign_or z text (Err BadByte)) none.4

equal_is : (a b : ℕ) → (a == b) ≡ true → a ≡ b
equal_is a b is = grind (arith, nat_tests)

-- what holds of each of the four blanks holds of a blank
on_blank : (P : ℕ → Type 0) → P 32 → P 9 → P 13 → P 10 → (byte : ℕ) → is_blank byte ≡ true → P byte
on_blank P space tab return feed byte blank = by_tests (byte == 32) (byte == 9) (byte == 13) (byte == 10) refl refl refl refl blank
  where
    by_tests : (a b c d : Bool) → (byte == 32) ≡ a → (byte == 9) ≡ b → (byte == 13) ≡ c → (byte == 10) ≡ d → ((a || b) || (c || d)) ≡ true → P byte
    by_tests true b c d is_a is_b is_c is_d any = subst P (sym (equal_is byte 32 is_a)) space
    by_tests false true c d is_a is_b is_c is_d any = subst P (sym (equal_is byte 9 is_b)) tab
    by_tests false false true d is_a is_b is_c is_d any = subst P (sym (equal_is byte 13 is_c)) return
    by_tests false false false true is_a is_b is_c is_d any = subst P (sym (equal_is byte 10 is_d)) feed
    by_tests false false false false is_a is_b is_c is_d any = absurd (cc)

blank-none : (byte : ℕ) → is_blank byte ≡ true → BeginsNone byte
blank-none byte blank = on_blank BeginsNone (refl, refl, refl, refl, refl, refl) (refl, refl, refl, refl, refl, refl) (refl, refl, refl, refl, refl, refl) (refl, refl, refl, refl, refl, refl) byte blank

pub blank-ends : (byte : ℕ) → is_blank byte ≡ true → EndsToken byte
blank-ends byte blank = on_blank EndsToken (refl, refl, refl) (refl, refl, refl) (refl, refl, refl) (refl, refl, refl) byte blank

pub after_gap-blank : (byte : ℕ) (text : List ℕ) → is_blank byte ≡ true → after_gap (byte ∷ text) ≡ after_gap text
unfolding after_gap
after_gap-blank byte text blank = on_blank (λ z. after_gap (z ∷ text) ≡ after_gap text) refl refl refl refl byte blank

none_read : (byte : ℕ) (text : List ℕ) (kind : TokenKind) (after : List ℕ) → BeginsNone byte → word_at (byte ∷ text) ≡ Ok (kind, after) → ⊥
none_read byte text kind after none is = let never : (let r : Read = Err BadByte in r) ≡ Ok (kind, after) = sym (word_at-none byte text none) ∙ is in cc

-- a token begins with no gap
pub after_gap-word : (text : List ℕ) (kind : TokenKind) (after : List ℕ) → word_at text ≡ Ok (kind, after) → after_gap text ≡ text
unfolding after_gap
after_gap-word [] kind after is = refl
after_gap-word (byte ∷ text) kind after is = by_tests (byte == 59) (is_blank byte) refl refl
  where
    by_tests : (comment blank : Bool) → (byte == 59) ≡ comment → is_blank byte ≡ blank
        → (if comment then after_comment text else (if blank then after_gap text else byte ∷ text)) ≡ byte ∷ text
    by_tests true blank is_comment is_blank_byte =
        let none : BeginsNone byte = subst BeginsNone (sym (equal_is byte 59 is_comment)) (refl, refl, refl, refl, refl, refl) in
        absurd (none_read byte text kind after none is)
    by_tests false true is_comment is_blank_byte = absurd (none_read byte text kind after (blank-none byte is_blank_byte) is)
    by_tests false false is_comment is_blank_byte = refl

-- a gap before the tokens changes nothing but the places that they are counted from
pub spells-gap : (size : ℕ) (text other : List ℕ) (tokens : List Token) (rest : List ℕ) → after_gap other ≡ after_gap text → Spells size text tokens rest → Spells size other tokens rest
spells-gap size text other [] rest same is = same ∙ is
spells-gap size text other (token ∷ tokens) rest same (after, read, from, to, is) =
    (after, ap word_at same ∙ read, from ∙ ap (λ z. place_of size z) (sym same), to, is)

-- the token that such bytes are, before so many more in a text of so many bytes
abbrev pub token_before : ℕ → List ℕ → TokenKind → List ℕ → Token
token_before size word kind rest = record { kind = kind; from = place_of size (word ++ rest); to = place_of size rest }

-- bytes that alone are a token, a blank, and a text of tokens are that token and these tokens
pub spells-spaced : (size : ℕ) (word : List ℕ) (kind : TokenKind) (byte : ℕ) (text : List ℕ) (tokens : List Token) (rest : List ℕ)
    → word_at word ≡ Ok (kind, []) → is_blank byte ≡ true → Spells size text tokens rest
    → Spells size (word ++ byte ∷ text) (token_before size word kind (byte ∷ text) ∷ tokens) rest
spells-spaced size word kind byte text tokens rest is blank spelled =
    let read : word_at (word ++ byte ∷ text) ≡ Ok (kind, byte ∷ text) = word-ended word kind byte text (blank-ends byte blank) is in
    let here : after_gap (word ++ byte ∷ text) ≡ word ++ byte ∷ text = after_gap-word (word ++ byte ∷ text) kind (byte ∷ text) read in (
      byte ∷ text,
      ap word_at here ∙ read,
      ap (λ z. place_of size z) (sym here),
      refl,
      spells-gap size text (byte ∷ text) tokens rest (after_gap-blank byte text blank) spelled,
    )
