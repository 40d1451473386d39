-- What follows a gap or a token is a shorter part of the text.
use Rattle.std.proofs.Common.{◌≡◌, ℕ, ◌<◌, ◌≤◌, List, [], ◌∷◌, length, drop, Bool, true, false, ◌==◌, ◌&&◌, ◌||◌, if◌then◌else◌, Option, Some, None, Result, Ok, Err, refl, arith}
use Rattle.std.proofs.lemmas.List.{length-drop}
use Rattle.std.specs.Char.{is_ascii_digit}
use Rattle.ny_num.specs.declared.decimal.NumFault.{NumFault}
use Rattle.std.specs.Prelude.{ℤ, codes, bytes_eq}
use Rattle.ny_syntax.specs.declared.token.TokenKind.{TokenKind}
use Rattle.ny_syntax.specs.declared.token.TokenKind.TheVariants.{If}
use Rattle.ny_syntax.specs.declared.token.Mark.{Mark}
use Rattle.ny_lex.specs.declared.fault.LexWhy.TheVariants.{BadByte, BadHash}
use Rattle.ny_lex.specs.Bytes.{run, after_run, after_gap, after_comment, is_blank, is_name_start, is_name_byte, is_number_byte, folded}
use Rattle.ny_lex.specs.Words.{Read, name_at, begins_number, number_word, number_at, if_at, mark_of, long_mark, sign_or, sign_at, word_at}

gap_by_tests : (byte : ℕ) (text : List ℕ) (comment blank : Bool) → length (after_gap text) ≤ length text → length (after_comment text) ≤ length text
    → length (if comment then after_comment text else (if blank then after_gap text else byte ∷ text)) ≤ length (byte ∷ text)
gap_by_tests byte text true blank gap comment = omega arith
gap_by_tests byte text false true gap comment = omega arith
gap_by_tests byte text false false gap comment = omega arith

comment_by_test : (byte : ℕ) (text : List ℕ) (end : Bool) → length (after_gap text) ≤ length text → length (after_comment text) ≤ length text
    → length (if end then after_gap text else after_comment text) ≤ length (byte ∷ text)
comment_by_test byte text true gap comment = omega arith
comment_by_test byte text false gap comment = omega arith

-- a gap is not longer than the text
mutual
  unfolding after_gap after_comment

  pub after_gap-shorter : (text : List ℕ) → length (after_gap text) ≤ length text
  after_gap-shorter [] = omega arith
  after_gap-shorter (byte ∷ text) = gap_by_tests byte text (byte == 59) (is_blank byte) (after_gap-shorter text) (after_comment-shorter text)

  after_comment-shorter : (text : List ℕ) → length (after_comment text) ≤ length text
  after_comment-shorter [] = omega arith
  after_comment-shorter (byte ∷ text) = comment_by_test byte text (byte == 10) (after_gap-shorter text) (after_comment-shorter text)

after_run-shorter : (passes : ℕ → Bool) (text : List ℕ) → length (after_run passes text) ≤ length text
unfolding after_run
after_run-shorter passes [] = omega arith
after_run-shorter passes (byte ∷ text) = by_test (passes byte) (after_run-shorter passes text)
  where
    by_test : (pass : Bool) → length (after_run passes text) ≤ length text → length (if pass then after_run passes text else byte ∷ text) ≤ length (byte ∷ text)
    by_test true tail = omega arith
    by_test false tail = omega arith

-- a run that begins is not empty
after_run-begun : (passes : ℕ → Bool) (byte : ℕ) (text : List ℕ) → passes byte ≡ true → length (after_run passes (byte ∷ text)) ≤ length text
unfolding after_run
after_run-begun passes byte text pass = rw pass (after_run-shorter passes text)

-- each read of a token leaves a rest of at most so many bytes
abbrev Leaves : ℕ → Read → Type 0
Leaves most (Ok read) = length read.1 ≤ most
Leaves most (Err why) = Unit {0}

pub name_byte_of_start : (byte : ℕ) → is_name_start byte ≡ true → is_name_byte byte ≡ true
name_byte_of_start byte start = rw start refl

name-leaves : (byte : ℕ) (text : List ℕ) → is_name_start byte ≡ true → Leaves (length text) (name_at (byte ∷ text))
unfolding name_at
name-leaves byte text start = after_run-begun is_name_byte byte text (name_byte_of_start byte start)

number_word-leaves : (value : Result ℤ NumFault) (after : List ℕ) (most : ℕ) → length after ≤ most → Leaves most (number_word value after)
number_word-leaves (Ok value) after most within = within
number_word-leaves (Err fault) after most within = tt

pub begins-number_byte : (byte : ℕ) (text : List ℕ) → begins_number (byte ∷ text) ≡ true → is_number_byte byte ≡ true
unfolding begins_number
begins-number_byte byte [] begins = by_tests (is_name_start byte) (is_ascii_digit byte) (byte == 46) begins
  where
    by_tests : (start digit point : Bool) → digit ≡ true → ((start || digit) || point) ≡ true
    by_tests true digit point is = refl
    by_tests false true point is = refl
    by_tests false false point is = cc
begins-number_byte byte (next ∷ text) begins = by_tests (is_name_start byte) (is_ascii_digit byte) (byte == 46) (is_ascii_digit next) begins
  where
    by_tests : (start digit point after : Bool) → (digit || (point && after)) ≡ true → ((start || digit) || point) ≡ true
    by_tests true digit point after is = refl
    by_tests false true point after is = refl
    by_tests false false true after is = refl
    by_tests false false false after is = cc

number-leaves : (byte : ℕ) (text : List ℕ) → begins_number (byte ∷ text) ≡ true → Leaves (length text) (number_at (byte ∷ text))
unfolding number_at
number-leaves byte text begins = number_word-leaves _ _ _ (after_run-begun is_number_byte byte text (begins-number_byte byte text begins))

if-leaves : (text : List ℕ) → Leaves (length text) (if_at text)
unfolding if_at
if-leaves text = by_test (bytes_eq (folded (run is_name_byte text)) (codes "if"))
  where
    by_test : (is_if : Bool) → Leaves (length text) (if is_if then Ok (If, after_run is_name_byte text) else Err BadHash)
    by_test true = after_run-shorter is_name_byte text
    by_test false = tt

sign_or-leaves : (mark : Option Mark) (after : List ℕ) (else_read : Read) (most : ℕ) → length after ≤ most → Leaves most else_read → Leaves most (sign_or mark after else_read)
sign_or-leaves (Some mark) after else_read most within other = within
sign_or-leaves None after else_read most within other = other

sign-leaves : (byte : ℕ) (text : List ℕ) → Leaves (length text) (sign_at byte text)
unfolding sign_at
sign-leaves byte text =
    sign_or-leaves (long_mark byte text) (drop 1 text) _ (length text) (omega (arith, length-drop 1 text))
    (sign_or-leaves (mark_of byte) text (Err BadByte) (length text) (omega arith) tt)

word-leaves : (byte : ℕ) (text : List ℕ) → Leaves (length text) (word_at (byte ∷ text))
unfolding word_at
word-leaves byte text = by_tests (is_name_start byte) (begins_number (byte ∷ text)) (byte == 35) (name-leaves byte text) (number-leaves byte text)
  where
    by_tests : (start begins hash : Bool) → (start ≡ true → Leaves (length text) (name_at (byte ∷ text))) → (begins ≡ true → Leaves (length text) (number_at (byte ∷ text)))
        → Leaves (length text) (if start then name_at (byte ∷ text) else (if begins then number_at (byte ∷ text) else (if hash then if_at text else sign_at byte text)))
    by_tests true begins hash name number = name refl
    by_tests false true hash name number = number refl
    by_tests false false true name number = if-leaves text
    by_tests false false false name number = sign-leaves byte text

-- what follows a token is shorter than what begins with it
pub word_at-shorter : (text : List ℕ) (kind : TokenKind) (after : List ℕ) → word_at text ≡ Ok (kind, after) → length after < length text
unfolding word_at
word_at-shorter [] kind after read = cc
word_at-shorter (byte ∷ text) kind after read =
    let within : length after ≤ length text = rw read at (word-leaves byte text) in
    omega arith
