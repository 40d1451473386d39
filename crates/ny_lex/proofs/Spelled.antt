-- How the tokens of each kind are spelled.
use Rattle.std.proofs.Common.{◌≡◌, ℕ, ◌≤◌, List, [], ◌∷◌, Bool, true, false, not, ◌==◌, if◌then◌else◌, Option, Some, None, Result, Ok, Err, refl, sym, ap, ◌∙◌, arith}
use Rattle.std.proofs.lemmas.Bool.Decides.{nat_tests}
use Rattle.std.specs.Prelude.{ℤ, codes, bytes_eq, nat_lt, pos, length}
use Rattle.ny_num.specs.declared.decimal.NumFault.{NumFault}
use Rattle.ny_num.specs.declared.decimal.NumFault.TheVariants as num_faults
use Rattle.ny_num.specs.Decimal.{decimal_of, is_decimal, places, millionths, fix_most}
use Rattle.ny_syntax.specs.declared.token.TokenKind.{TokenKind}
use Rattle.ny_syntax.specs.declared.token.TokenKind.TheVariants.{Name, Number, Reserved, Sign, If}
use Rattle.ny_syntax.specs.declared.token.Mark.{Mark}
use Rattle.ny_syntax.specs.declared.token.Mark.TheVariants as marks
use Rattle.ny_syntax.specs.declared.token.Word.{Word}
use Rattle.ny_syntax.specs.declared.token.Word.TheVariants as words
use Rattle.ny_syntax.specs.Spelled.{word_text, mark_text}
use Rattle.ny_lex.specs.declared.fault.LexWhy.TheVariants.{BadByte, BadHash}
use Rattle.ny_lex.specs.Bytes.{run, after_run, is_name_start, is_name_byte, is_number_byte, folded}
use Rattle.ny_lex.specs.Words.{Read, why_of, named, reserved_of, name_at, begins_number, number_word, number_at, if_at, mark_of, long_mark, sign_or, sign_at, word_at}
use Rattle.ny_lex.proofs.Ended.{ok_parts}

pub word_at-word_text : (word : Word) → word_at (word_text word) ≡ Ok (Reserved word, [])
unfolding word_at name_at run after_run
word_at-word_text words.Define = refl
word_at-word_text words.Function = refl
word_at-word_text words.Variable = refl
word_at-word_text words.Begin = refl
word_at-word_text words.With = refl
word_at-word_text words.End = refl
word_at-word_text words.Return = refl
word_at-word_text words.Play = refl

pub word_at-mark_text : (mark : Mark) → word_at (mark_text mark) ≡ Ok (Sign mark, [])
unfolding word_at begins_number sign_at
word_at-mark_text marks.Open = refl
word_at-mark_text marks.Close = refl
word_at-mark_text marks.Comma = refl
word_at-mark_text marks.Plus = refl
word_at-mark_text marks.Minus = refl
word_at-mark_text marks.Times = refl
word_at-mark_text marks.Over = refl
word_at-mark_text marks.At = refl
word_at-mark_text marks.Tilde = refl
word_at-mark_text marks.Equal = refl
word_at-mark_text marks.NotEqual = refl
word_at-mark_text marks.Less = refl
word_at-mark_text marks.Greater = refl
word_at-mark_text marks.LessEqual = refl
word_at-mark_text marks.GreaterEqual = refl
word_at-mark_text marks.And = refl
word_at-mark_text marks.Or = refl
word_at-mark_text marks.Not = refl

pub word_at-if_bytes : word_at (codes "#if") ≡ Ok (If, [])
unfolding word_at begins_number if_at run after_run
word_at-if_bytes = refl

-- a number that is read is not below zero, and within the range of numbers
abbrev pub IsWritten : ℤ → Type 0
IsWritten value = (n : ℕ) × (value ≡ pos n) × (n ≤ fix_most)

decimal-written : (text : List ℕ) (value : ℤ) → decimal_of text ≡ Ok value → IsWritten value
decimal-written text value is = by_tests (is_decimal text) (nat_lt 6 (length (places text))) (nat_lt fix_most (millionths text)) refl is
  where
    by_tests : (decimal many large : Bool) → nat_lt fix_most (millionths text) ≡ large
        → (let read : Result ℤ NumFault = if not decimal then Err num_faults.NotDecimal
        else (if many then Err num_faults.TooManyPlaces else (if large then Err num_faults.TooLarge else Ok (pos (millionths text)))) in read) ≡ Ok value
        → IsWritten value
    by_tests false many large is_large is = absurd (cc)
    by_tests true true large is_large is = absurd (cc)
    by_tests true false true is_large is = absurd (cc)
    by_tests true false false is_large is =
        let same : pos (millionths text) ≡ value = cc in
        (millionths text, sym same, within (millionths text) fix_most is_large)
      where
        within : (n most : ℕ) → nat_lt most n ≡ false → n ≤ most
        within n most other = grind (arith, nat_tests)

sign_or-no_number : (long mark : Option Mark) (value : ℤ) (after other rest : List ℕ) → sign_or long after (sign_or mark other (Err BadByte)) ≡ Ok (Number value, rest) → ⊥
sign_or-no_number (Some long) mark value after other rest is = let never = (ok_parts (Sign long) (Number value) after rest is).0 in cc
sign_or-no_number None (Some mark) value after other rest is = let never = (ok_parts (Sign mark) (Number value) other rest is).0 in cc
sign_or-no_number None None value after other rest is = let never : (let r : Read = Err BadByte in r) ≡ Ok (Number value, rest) = is in cc

named-no_number : (word : Option Word) (value : ℤ) → named word ≡ Number value → ⊥
named-no_number (Some word) value is = let never : (let kind : TokenKind = Reserved word in kind) ≡ Number value = is in cc
named-no_number None value is = let never : (let kind : TokenKind = Name in kind) ≡ Number value = is in cc

name-no_number : (text : List ℕ) (value : ℤ) (rest : List ℕ) → name_at text ≡ Ok (Number value, rest) → ⊥
unfolding name_at
name-no_number text value rest is =
    named-no_number (reserved_of (folded (run is_name_byte text))) value (ok_parts (named (reserved_of (folded (run is_name_byte text)))) (Number value) (after_run is_name_byte text) rest is).0

if-no_number : (text : List ℕ) (value : ℤ) (rest : List ℕ) → if_at text ≡ Ok (Number value, rest) → ⊥
unfolding if_at
if-no_number text value rest is = by_test (bytes_eq (folded (run is_name_byte text)) (codes "if")) is
  where
    by_test : (is_if : Bool) → (let r : Read = if is_if then Ok (If, after_run is_name_byte text) else Err BadHash in r) ≡ Ok (Number value, rest) → ⊥
    by_test true is = let never = (ok_parts If (Number value) (after_run is_name_byte text) rest is).0 in cc
    by_test false is = cc

number-written : (text : List ℕ) (value : ℤ) (rest : List ℕ) → number_at text ≡ Ok (Number value, rest) → IsWritten value
unfolding number_at
number-written text value rest is = by_value (decimal_of (run is_number_byte text)) refl is
  where
    by_value : (read : Result ℤ NumFault) → decimal_of (run is_number_byte text) ≡ read → number_word read (after_run is_number_byte text) ≡ Ok (Number value, rest) → IsWritten value
    by_value (Ok other) read_is is =
        let parts : (let kind : TokenKind = Number other in kind) ≡ Number value = (ok_parts (Number other) (Number value) (after_run is_number_byte text) rest is).0 in
        let same : other ≡ value = cc in
        decimal-written (run is_number_byte text) value (read_is ∙ ap (λ z. let r : Result ℤ NumFault = Ok z in r) same)
    by_value (Err fault) read_is is = let never : (let r : Read = Err (why_of fault) in r) ≡ Ok (Number value, rest) = is in absurd (cc)

pub word_at-number_written : (text : List ℕ) (value : ℤ) (rest : List ℕ) → word_at text ≡ Ok (Number value, rest) → IsWritten value
unfolding word_at sign_at
word_at-number_written [] value rest is = let never : (let r : Read = Err BadByte in r) ≡ Ok (Number value, rest) = is in absurd (cc)
word_at-number_written (byte ∷ text) value rest is = by_tests (is_name_start byte) (begins_number (byte ∷ text)) (byte == 35) is
  where
    by_tests : (start begins hash : Bool)
        → (if start then name_at (byte ∷ text) else (if begins then number_at (byte ∷ text) else (if hash then if_at text else sign_at byte text))) ≡ Ok (Number value, rest) → IsWritten value
    by_tests true begins hash is = absurd (name-no_number (byte ∷ text) value rest is)
    by_tests false true hash is = number-written (byte ∷ text) value rest is
    by_tests false false true is = absurd (if-no_number text value rest is)
    by_tests false false false is = absurd (sign_or-no_number (long_mark byte text) (mark_of byte) value _ text rest is)
