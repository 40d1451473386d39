-- A text that writes a number is read as that number.
use Rattle.std.proofs.Common.{◌≡◌, ℕ, suc, ◌+◌, List, [], ◌∷◌, ◌++◌, length, take, drop, Bool, true, false, cond, not, ◌==◌, ◌&&◌, ◌||◌, if◌then◌else◌, Result, Ok, Err, refl, sym, ap, ◌∙◌, arith, append-nil}
use Rattle.std.proofs.lemmas.Bool.Decides.{nat_tests}
use Rattle.std.specs.Prelude.{ℤ, nat_lt, pos}
use Rattle.std.specs.List.{list_all, list_any, position_or_len}
use Rattle.std.specs.Char.{is_ascii_digit}
use Rattle.ny_num.specs.declared.decimal.NumFault.{NumFault}
use Rattle.ny_num.specs.declared.decimal.NumFault.TheVariants as num_faults
use Rattle.ny_num.specs.Decimal.{decimal_of, is_decimal, is_point, whole_part, places, millionths, fix_most}
use Rattle.ny_syntax.specs.declared.token.TokenKind.TheVariants.{Number}
use Rattle.ny_lex.specs.Bytes.{run, after_run, is_name_start, is_number_byte}
use Rattle.ny_lex.specs.Words.{begins_number, number_word, number_at, word_at}
use Rattle.ny_lex.proofs.Alone.{run-split, digit-begins, word_at-number}

one_more : (n : ℕ) → 1 + n ≡ suc n
one_more n = omega arith

one_past : (n : ℕ) → suc n + 1 ≡ suc (n + 1)
one_past n = omega arith

both : (a b : Bool) → (a && b) ≡ true → (a ≡ true) × (b ≡ true)
both true b is = (refl, is)
both false b is = absurd (cc)

number_byte_of_digit : (byte : ℕ) → is_ascii_digit byte ≡ true → is_number_byte byte ≡ true
number_byte_of_digit byte digit = by_tests (is_name_start byte) (is_ascii_digit byte) (byte == 46) digit
  where
    by_tests : (start digit point : Bool) → digit ≡ true → ((start || digit) || point) ≡ true
    by_tests true digit point is = refl
    by_tests false true point is = refl
    by_tests false false point is = absurd (cc)

number_byte_of_point : (byte : ℕ) → (byte == 46) ≡ true → is_number_byte byte ≡ true
number_byte_of_point byte point = by_tests (is_name_start byte || is_ascii_digit byte) (byte == 46) point
  where
    by_tests : (other point : Bool) → point ≡ true → (other || point) ≡ true
    by_tests true point is = refl
    by_tests false point is = is

pub after_run-pass : (passes : ℕ → Bool) (byte : ℕ) (text : List ℕ) → passes byte ≡ true → after_run passes text ≡ [] → after_run passes (byte ∷ text) ≡ []
unfolding after_run
after_run-pass passes byte text pass all = rw pass all

digits-run : (text : List ℕ) → list_all is_ascii_digit text ≡ true → after_run is_number_byte text ≡ []
unfolding after_run
digits-run [] all = refl
digits-run (byte ∷ text) all =
    let parts = both (is_ascii_digit byte) (list_all is_ascii_digit text) all in
    after_run-pass is_number_byte byte text (number_byte_of_digit byte parts.0) (digits-run text parts.1)

-- the digits of a decimal and its point are one run
decimal-run : (text : List ℕ) → list_all is_ascii_digit (whole_part text) ≡ true → list_all is_ascii_digit (places text) ≡ true → after_run is_number_byte text ≡ []
unfolding after_run
decimal-run [] whole after = refl
decimal-run (byte ∷ text) whole after = by_point (byte == 46) refl whole after (decimal-run text)
  where
    by_point : (point : Bool) → (byte == 46) ≡ point
        → list_all is_ascii_digit (take (cond (not point) (1 + position_or_len is_point text) 0) (byte ∷ text)) ≡ true
        → list_all is_ascii_digit (drop (cond (not point) (1 + position_or_len is_point text) 0 + 1) (byte ∷ text)) ≡ true
        → (list_all is_ascii_digit (whole_part text) ≡ true → list_all is_ascii_digit (places text) ≡ true → after_run is_number_byte text ≡ [])
        → after_run is_number_byte (byte ∷ text) ≡ []
    by_point true is whole after rest = after_run-pass is_number_byte byte text (number_byte_of_point byte is) (digits-run text after)
    by_point false is whole after rest =
        let digits : list_all is_ascii_digit (byte ∷ take (position_or_len is_point text) text) ≡ true = rw one_more at whole in
        let tail : list_all is_ascii_digit (drop (position_or_len is_point text + 1) text) ≡ true = rw (one_more, one_past) at after in
        let parts = both (is_ascii_digit byte) (list_all is_ascii_digit (take (position_or_len is_point text) text)) digits in
        after_run-pass is_number_byte byte text (number_byte_of_digit byte parts.0) (rest parts.1 tail)

digit-no_start : (byte : ℕ) → is_ascii_digit byte ≡ true → is_name_start byte ≡ false
digit-no_start byte digit = grind (arith, nat_tests)

point-no_start : (byte : ℕ) → (byte == 46) ≡ true → is_name_start byte ≡ false
point-no_start byte point = grind (arith, nat_tests)

point-begins : (byte : ℕ) (text : List ℕ) → (byte == 46) ≡ true → list_all is_ascii_digit text ≡ true → not (length text == 0) ≡ true → begins_number (byte ∷ text) ≡ true
unfolding begins_number
point-begins byte [] point digits some = absurd (cc)
point-begins byte (next ∷ text) point digits some = by_test (is_ascii_digit byte) (both (is_ascii_digit next) (list_all is_ascii_digit text) digits).0
  where
    by_test : (digit : Bool) → is_ascii_digit next ≡ true → (digit || ((byte == 46) && is_ascii_digit next)) ≡ true
    by_test true next_digit = refl
    by_test false next_digit = rw (point, next_digit) refl

-- how a decimal begins
decimal-begins : (byte : ℕ) (text : List ℕ) → list_all is_ascii_digit (whole_part (byte ∷ text)) ≡ true → list_all is_ascii_digit (places (byte ∷ text)) ≡ true
    → not ((if list_any is_point (byte ∷ text) then length (places (byte ∷ text)) else length (whole_part (byte ∷ text))) == 0) ≡ true
    → (is_name_start byte ≡ false) × (begins_number (byte ∷ text) ≡ true)
decimal-begins byte text whole after some = by_point (byte == 46) refl whole after some
  where
    by_point : (point : Bool) → (byte == 46) ≡ point
        → list_all is_ascii_digit (take (cond (not point) (1 + position_or_len is_point text) 0) (byte ∷ text)) ≡ true
        → list_all is_ascii_digit (drop (cond (not point) (1 + position_or_len is_point text) 0 + 1) (byte ∷ text)) ≡ true
        → not ((if point || list_any is_point text then length (drop (cond (not point) (1 + position_or_len is_point text) 0 + 1) (byte ∷ text))
        else length (take (cond (not point) (1 + position_or_len is_point text) 0) (byte ∷ text))) == 0) ≡ true
        → (is_name_start byte ≡ false) × (begins_number (byte ∷ text) ≡ true)
    by_point true is whole after some = (point-no_start byte is, point-begins byte text is after some)
    by_point false is whole after some =
        let digits : list_all is_ascii_digit (byte ∷ take (position_or_len is_point text) text) ≡ true = rw one_more at whole in
        let digit : is_ascii_digit byte ≡ true = (both (is_ascii_digit byte) (list_all is_ascii_digit (take (position_or_len is_point text) text)) digits).0 in
        (digit-no_start byte digit, digit-begins byte text digit)

decimal-is : (text : List ℕ) (value : ℤ) → decimal_of text ≡ Ok value → is_decimal text ≡ true
decimal-is text value is = by_test (is_decimal text) is
  where
    by_test : (decimal : Bool)
        → (let read : Result ℤ NumFault = if not decimal then Err num_faults.NotDecimal
        else (if nat_lt 6 (length (places text)) then Err num_faults.TooManyPlaces
        else (if nat_lt fix_most (millionths text) then Err num_faults.TooLarge else Ok (pos (millionths text)))) in read) ≡ Ok value
        → decimal ≡ true
    by_test true is = refl
    by_test false is = absurd (cc)

pub all-run : (passes : ℕ → Bool) (text : List ℕ) → after_run passes text ≡ [] → run passes text ≡ text
all-run passes text all = sym (append-nil (run passes text)) ∙ ap (λ z. run passes text ++ z) (sym all) ∙ sym (run-split passes text)

-- a text that writes a number is that number's token
pub word_at-decimal : (text : List ℕ) (value : ℤ) → decimal_of text ≡ Ok value → word_at text ≡ Ok (Number value, [])
unfolding number_at
word_at-decimal [] value is = let never : (let read : Result ℤ NumFault = Err num_faults.NotDecimal in read) ≡ Ok value = is in absurd (cc)
word_at-decimal (byte ∷ text) value is =
    let decimal : is_decimal (byte ∷ text) ≡ true = decimal-is (byte ∷ text) value is in
    let whole = list_all is_ascii_digit (whole_part (byte ∷ text)) in
    let after = list_all is_ascii_digit (places (byte ∷ text)) in
    let some = not ((if list_any is_point (byte ∷ text) then length (places (byte ∷ text)) else length (whole_part (byte ∷ text))) == 0) in
    let parts = both (whole && after) some decimal in
    let digits = both whole after parts.0 in
    let begins = decimal-begins byte text digits.0 digits.1 parts.1 in
    let all : after_run is_number_byte (byte ∷ text) ≡ [] = decimal-run (byte ∷ text) digits.0 digits.1 in
    word_at-number byte text begins.0 begins.1
    ∙ ap (λ z. number_word (decimal_of z) (after_run is_number_byte (byte ∷ text))) (all-run is_number_byte (byte ∷ text) all)
    ∙ ap (λ z. number_word z (after_run is_number_byte (byte ∷ text))) is
    ∙ ap (λ z. number_word (Ok value) z) all
