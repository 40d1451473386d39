-- A token that is read alone is read the same before a byte that ends it.
use Rattle.std.proofs.Common.{◌≡◌, ℕ, List, [], ◌∷◌, ◌++◌, Bool, true, false, ◌==◌, ◌&&◌, ◌||◌, if◌then◌else◌, Option, Some, None, Result, Ok, Err, refl, sym, ap, ◌∙◌, subst}
use Rattle.std.specs.Prelude.{ℤ, codes, bytes_eq}
use Rattle.std.specs.Char.{is_ascii_digit}
use Rattle.ny_num.specs.declared.decimal.NumFault.{NumFault}
use Rattle.ny_num.specs.Decimal.{decimal_of}
use Rattle.ny_syntax.specs.declared.token.TokenKind.{TokenKind}
use Rattle.ny_syntax.specs.declared.token.TokenKind.TheVariants.{Number, Sign, If}
use Rattle.ny_syntax.specs.declared.token.Mark.{Mark}
use Rattle.ny_lex.specs.declared.fault.LexWhy.TheVariants.{BadByte, BadHash}
use Rattle.ny_lex.specs.Bytes.{run, after_run, is_name_start, is_name_byte, is_number_byte, folded}
use Rattle.ny_lex.specs.Words.{Read, why_of, named, reserved_of, name_at, begins_number, number_word, number_at, if_at, mark_of, long_mark, sign_or, sign_at, word_at}
use Rattle.ny_lex.proofs.Alone.{run-ended, digit-begins, word_at-name, word_at-number, word_at-if, word_at-sign, begins-two, sign-two, hash_is}

-- no token goes on with this byte
abbrev pub EndsToken : ℕ → Type 0
EndsToken byte = (is_name_byte byte ≡ false) × (is_number_byte byte ≡ false) × ((byte == 61) ≡ false)

pub ok_parts : (kind other : TokenKind) (after rest : List ℕ) → (let read : Read = Ok (kind, after) in read) ≡ Ok (other, rest) → (kind ≡ other) × (after ≡ rest)
ok_parts kind other after rest is =
    let same : (let read : TokenKind × List ℕ = (kind, after) in read) ≡ (other, rest) = cc in (ap (λ z. z.0) same, ap (λ z. z.1) same)

-- it is read, and the byte that ends it begins what follows
abbrev IsReadBefore : List ℕ → TokenKind → List ℕ → Type 0
IsReadBefore word kind rest = word_at (word ++ rest) ≡ Ok (kind, rest)

name-ended : (first : ℕ) (word : List ℕ) (kind : TokenKind) (byte : ℕ) (rest : List ℕ) → EndsToken byte → is_name_start first ≡ true
    → name_at (first ∷ word) ≡ Ok (kind, []) → IsReadBefore (first ∷ word) kind (byte ∷ rest)
unfolding name_at
name-ended first word kind byte rest ends start is =
    let parts = ok_parts (named (reserved_of (folded (run is_name_byte (first ∷ word))))) kind (after_run is_name_byte (first ∷ word)) [] is in
    let ended = run-ended is_name_byte (first ∷ word) byte rest parts.1 ends.0 in
    word_at-name first (word ++ byte ∷ rest) start
    ∙ ap (λ z. let r : Read = Ok (named (reserved_of (folded z)), after_run is_name_byte (first ∷ (word ++ byte ∷ rest))) in r) ended.0
    ∙ ap (λ z. let r : Read = Ok (z, after_run is_name_byte (first ∷ (word ++ byte ∷ rest))) in r) parts.0
    ∙ ap (λ z. let r : Read = Ok (kind, z) in r) ended.1

begins-longer : (first : ℕ) (word more : List ℕ) → begins_number (first ∷ word) ≡ true → begins_number (first ∷ (word ++ more)) ≡ true
unfolding begins_number
begins-longer first [] more begins = digit-begins first more begins
begins-longer first (next ∷ word) more begins = begins

number-ended : (first : ℕ) (word : List ℕ) (kind : TokenKind) (byte : ℕ) (rest : List ℕ) → EndsToken byte → is_name_start first ≡ false → begins_number (first ∷ word) ≡ true
    → number_at (first ∷ word) ≡ Ok (kind, []) → IsReadBefore (first ∷ word) kind (byte ∷ rest)
unfolding number_at
number-ended first word kind byte rest ends start begins is = by_value (decimal_of (run is_number_byte (first ∷ word))) refl is
  where
    by_value : (value : Result ℤ NumFault) → decimal_of (run is_number_byte (first ∷ word)) ≡ value
        → number_word value (after_run is_number_byte (first ∷ word)) ≡ Ok (kind, []) → IsReadBefore (first ∷ word) kind (byte ∷ rest)
    by_value (Err fault) value_is is = let never : (let r : Read = Err (why_of fault) in r) ≡ Ok (kind, []) = is in absurd (cc)
    by_value (Ok value) value_is is =
        let parts = ok_parts (Number value) kind (after_run is_number_byte (first ∷ word)) [] is in
        let ended = run-ended is_number_byte (first ∷ word) byte rest parts.1 ends.1 in
        word_at-number first (word ++ byte ∷ rest) start (begins-longer first word (byte ∷ rest) begins)
        ∙ ap (λ z. number_word (decimal_of z) (after_run is_number_byte (first ∷ (word ++ byte ∷ rest)))) ended.0
        ∙ ap (λ z. number_word z (after_run is_number_byte (first ∷ (word ++ byte ∷ rest)))) value_is
        ∙ ap (λ z. let r : Read = Ok (z, after_run is_number_byte (first ∷ (word ++ byte ∷ rest))) in r) parts.0
        ∙ ap (λ z. let r : Read = Ok (kind, z) in r) ended.1

if-ended : (word : List ℕ) (kind : TokenKind) (byte : ℕ) (rest : List ℕ) → EndsToken byte → if_at word ≡ Ok (kind, []) → IsReadBefore (35 ∷ word) kind (byte ∷ rest)
unfolding if_at
if-ended word kind byte rest ends is = by_test (bytes_eq (folded (run is_name_byte word)) (codes "if")) refl is
  where
    by_test : (is_if : Bool) → bytes_eq (folded (run is_name_byte word)) (codes "if") ≡ is_if
        → (let r : Read = if is_if then Ok (If, after_run is_name_byte word) else Err BadHash in r) ≡ Ok (kind, []) → IsReadBefore (35 ∷ word) kind (byte ∷ rest)
    by_test false test is = absurd (cc)
    by_test true test is =
        let parts = ok_parts If kind (after_run is_name_byte word) [] is in
        let ended = run-ended is_name_byte word byte rest parts.1 ends.0 in
        let after = after_run is_name_byte (word ++ byte ∷ rest) in
        word_at-if (word ++ byte ∷ rest)
        ∙ ap (λ z. let r : Read = if bytes_eq (folded z) (codes "if") then Ok (If, after) else Err BadHash in r) ended.0
        ∙ ap (λ z. let r : Read = if z then Ok (If, after) else Err BadHash in r) test
        ∙ ap (λ z. let r : Read = Ok (z, after) in r) parts.0
        ∙ ap (λ z. let r : Read = Ok (kind, z) in r) ended.1

no_digit : (byte : ℕ) → is_name_byte byte ≡ false → is_ascii_digit byte ≡ false
no_digit byte is = by_tests (is_name_start byte) (is_ascii_digit byte) (byte == 45) is
  where
    by_tests : (start digit minus : Bool) → ((start || digit) || minus) ≡ false → digit ≡ false
    by_tests start false minus is = refl
    by_tests true true minus is = is
    by_tests false true minus is = is

begins-ended : (first byte : ℕ) (rest : List ℕ) → is_ascii_digit byte ≡ false → begins_number (first ∷ []) ≡ false → begins_number (first ∷ byte ∷ rest) ≡ false
unfolding begins_number
begins-ended first byte rest digit begins = rw (begins, digit) (by_point (first == 46))
  where
    by_point : (point : Bool) → (point && false) ≡ false
    by_point true = refl
    by_point false = refl

sign-ended : (first : ℕ) (word : List ℕ) (kind : TokenKind) (byte : ℕ) (rest : List ℕ) → EndsToken byte → is_name_start first ≡ false → begins_number (first ∷ word) ≡ false
    → (first == 35) ≡ false → sign_at first word ≡ Ok (kind, []) → IsReadBefore (first ∷ word) kind (byte ∷ rest)
unfolding sign_at
sign-ended first [] kind byte rest ends start begins hash is = by_mark (mark_of first) refl is
  where
    no_long : long_mark first (byte ∷ rest) ≡ None
    no_long = rw ends.2 refl

    by_mark : (mark : Option Mark) → mark_of first ≡ mark → sign_or mark [] (Err BadByte) ≡ Ok (kind, []) → IsReadBefore (first ∷ []) kind (byte ∷ rest)
    by_mark None mark_is is = let never : (let r : Read = Err BadByte in r) ≡ Ok (kind, []) = is in absurd (cc)
    by_mark (Some mark) mark_is is =
        let parts = ok_parts (Sign mark) kind [] [] is in
        word_at-sign first (byte ∷ rest) start (begins-ended first byte rest (no_digit byte ends.0) begins) hash
        ∙ ap (λ z. sign_or z rest (sign_or (mark_of first) (byte ∷ rest) (Err BadByte))) no_long
        ∙ ap (λ z. sign_or z (byte ∷ rest) (Err BadByte)) mark_is
        ∙ ap (λ z. let r : Read = Ok (z, byte ∷ rest) in r) parts.0
sign-ended first (next ∷ word) kind byte rest ends start begins hash is = by_marks (long_mark first (next ∷ [])) (mark_of first) refl is
  where
    by_marks : (long mark : Option Mark) → long_mark first (next ∷ []) ≡ long → sign_or long word (sign_or mark (next ∷ word) (Err BadByte)) ≡ Ok (kind, [])
        → IsReadBefore (first ∷ next ∷ word) kind (byte ∷ rest)
    by_marks (Some long) mark long_is is =
        let parts = ok_parts (Sign long) kind word [] is in
        sign-two first next (word ++ byte ∷ rest) long start (begins-two first next (word ++ byte ∷ rest) word ∙ begins) hash long_is
        ∙ ap (λ z. let r : Read = Ok (z, word ++ byte ∷ rest) in r) parts.0
        ∙ ap (λ z. let r : Read = Ok (kind, z ++ byte ∷ rest) in r) parts.1
    by_marks None (Some mark) long_is is = let parts = ok_parts (Sign mark) kind (next ∷ word) [] is in let never : next ∷ word ≡ [] = parts.1 in absurd (cc)
    by_marks None None long_is is = let never : (let r : Read = Err BadByte in r) ≡ Ok (kind, []) = is in absurd (cc)

-- before a byte that ends it a token is the same, and the byte is left
pub word-ended : (word : List ℕ) (kind : TokenKind) (byte : ℕ) (rest : List ℕ) → EndsToken byte → word_at word ≡ Ok (kind, []) → word_at (word ++ byte ∷ rest) ≡ Ok (kind, byte ∷ rest)
unfolding word_at
word-ended [] kind byte rest ends is = absurd (cc)
word-ended (first ∷ word) kind byte rest ends is = by_tests (is_name_start first) (begins_number (first ∷ word)) (first == 35) refl refl refl is
  where
    by_tests : (start begins hash : Bool) → is_name_start first ≡ start → begins_number (first ∷ word) ≡ begins → (first == 35) ≡ hash
        → (if start then name_at (first ∷ word) else (if begins then number_at (first ∷ word) else (if hash then if_at word else sign_at first word))) ≡ Ok (kind, [])
        → IsReadBefore (first ∷ word) kind (byte ∷ rest)
    by_tests true begins hash is_start is_begun is_hash is = name-ended first word kind byte rest ends is_start is
    by_tests false true hash is_start is_begun is_hash is = number-ended first word kind byte rest ends is_start is_begun is
    by_tests false false true is_start is_begun is_hash is = subst (λ z. IsReadBefore (z ∷ word) kind (byte ∷ rest)) (sym (hash_is first is_hash)) (if-ended word kind byte rest ends is)
    by_tests false false false is_start is_begun is_hash is = sign-ended first word kind byte rest ends is_start is_begun is_hash is

-- a space or a line feed ends each token
pub space_ends : EndsToken 32
space_ends = (refl, refl, refl)

pub line_feed_ends : EndsToken 10
line_feed_ends = (refl, refl, refl)
