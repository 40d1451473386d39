-- A token is read from its own bytes: it is the same token alone, and before whatever ends it.
use Rattle.std.proofs.Common.{◌≡◌, ℕ, List, [], ◌∷◌, ◌++◌, Bool, true, false, ◌==◌, ◌&&◌, ◌||◌, if◌then◌else◌, Option, Some, None, Result, Ok, Err, refl, sym, ap, ◌∙◌, subst}
use Rattle.std.specs.Prelude.{ℤ, codes, bytes_eq}
use Rattle.std.proofs.Common.{arith}
use Rattle.std.proofs.lemmas.Bool.Decides.{nat_tests}
use Rattle.std.specs.Char.{is_ascii_digit}
use Rattle.ny_num.specs.declared.decimal.NumFault.{NumFault}
use Rattle.ny_num.specs.Decimal.{decimal_of}
use Rattle.ny_syntax.specs.declared.token.TokenKind.TheVariants.{Sign, If}
use Rattle.ny_syntax.specs.declared.token.Mark.{Mark}
use Rattle.ny_lex.specs.declared.fault.LexWhy.TheVariants.{BadByte, BadHash}
use Rattle.ny_lex.specs.Bytes.{run, after_run, is_name_start, is_name_byte, is_number_byte, folded}
use Rattle.ny_lex.specs.Words.{Read, named, reserved_of, name_at, begins_number, number_word, number_at, if_at, mark_of, long_mark, sign_or, sign_at, word_at}
use Rattle.ny_lex.proofs.Shorter.{name_byte_of_start, begins-number_byte}

-- a text is its run and what follows
pub run-split : (passes : ℕ → Bool) (text : List ℕ) → text ≡ run passes text ++ after_run passes text
unfolding run after_run
run-split passes [] = refl
run-split passes (byte ∷ text) = by_test (passes byte) (run-split passes text)
  where
    by_test : (pass : Bool) → text ≡ run passes text ++ after_run passes text
        → byte ∷ text ≡ (if pass then byte ∷ run passes text else []) ++ (if pass then after_run passes text else byte ∷ text)
    by_test true tail = ap (λ bytes. byte ∷ bytes) tail
    by_test false tail = refl

-- a run alone is all of it
run-run : (passes : ℕ → Bool) (text : List ℕ) → (run passes (run passes text) ≡ run passes text) × (after_run passes (run passes text) ≡ [])
unfolding run after_run
run-run passes [] = (refl, refl)
run-run passes (byte ∷ text) = by_test (passes byte) refl (run-run passes text)
  where
    by_test : (pass : Bool) → passes byte ≡ pass → (run passes (run passes text) ≡ run passes text) × (after_run passes (run passes text) ≡ [])
        → (run passes (if pass then byte ∷ run passes text else []) ≡ (if pass then byte ∷ run passes text else []))
        × (after_run passes (if pass then byte ∷ run passes text else []) ≡ [])
    by_test true is tail = (rw is (ap (λ bytes. byte ∷ bytes) tail.0), rw is tail.1)
    by_test false is tail = (refl, refl)

run-begun : (passes : ℕ → Bool) (byte : ℕ) (text : List ℕ) → passes byte ≡ true → run passes (byte ∷ text) ≡ byte ∷ run passes text
unfolding run
run-begun passes byte text pass = rw pass refl

-- a run that takes all of some bytes takes just these before a byte that ends it
pub run-ended : (passes : ℕ → Bool) (word : List ℕ) (byte : ℕ) (rest : List ℕ) → after_run passes word ≡ [] → passes byte ≡ false
    → (run passes (word ++ byte ∷ rest) ≡ run passes word) × (after_run passes (word ++ byte ∷ rest) ≡ byte ∷ rest)
unfolding run after_run
run-ended passes [] byte rest all end = (rw end refl, rw end refl)
run-ended passes (first ∷ word) byte rest all end = by_test (passes first) all (λ tail. run-ended passes word byte rest tail end)
  where
    by_test : (pass : Bool) → (if pass then after_run passes word else first ∷ word) ≡ []
        → (after_run passes word ≡ [] → (run passes (word ++ byte ∷ rest) ≡ run passes word) × (after_run passes (word ++ byte ∷ rest) ≡ byte ∷ rest))
        → ((if pass then first ∷ run passes (word ++ byte ∷ rest) else []) ≡ (if pass then first ∷ run passes word else []))
        × ((if pass then after_run passes (word ++ byte ∷ rest) else first ∷ (word ++ byte ∷ rest)) ≡ byte ∷ rest)
    by_test true is tail = (ap (λ bytes. first ∷ bytes) (tail is).0, (tail is).1)
    by_test false is tail = absurd (cc)

-- what is read at the front of a text is read from a first part of it alone
abbrev pub ReadsAlone : List ℕ → Read → Type 0
ReadsAlone text (Ok read) = (word : List ℕ) × (text ≡ word ++ read.1) × (word_at word ≡ Ok (read.0, []))
ReadsAlone text (Err why) = Unit {0}

-- the first byte, or the first two, say how a token is read
pub word_at-name : (byte : ℕ) (text : List ℕ) → is_name_start byte ≡ true → word_at (byte ∷ text) ≡ name_at (byte ∷ text)
unfolding word_at
word_at-name byte text start = rw start refl

pub word_at-number : (byte : ℕ) (text : List ℕ) → is_name_start byte ≡ false → begins_number (byte ∷ text) ≡ true → word_at (byte ∷ text) ≡ number_at (byte ∷ text)
unfolding word_at
word_at-number byte text start begins = rw (start, begins) refl

begins-hash : (text : List ℕ) → begins_number (35 ∷ text) ≡ false
unfolding begins_number
begins-hash [] = refl
begins-hash (next ∷ text) = refl

pub word_at-if : (text : List ℕ) → word_at (35 ∷ text) ≡ if_at text
unfolding word_at
word_at-if text = rw (begins-hash text) refl

pub word_at-sign : (byte : ℕ) (text : List ℕ) → is_name_start byte ≡ false → begins_number (byte ∷ text) ≡ false → (byte == 35) ≡ false → word_at (byte ∷ text) ≡ sign_at byte text
unfolding word_at
word_at-sign byte text start begins hash = rw (start, begins, hash) refl

name-alone : (byte : ℕ) (text : List ℕ) → is_name_start byte ≡ true → ReadsAlone (byte ∷ text) (name_at (byte ∷ text))
unfolding name_at
name-alone byte text start =
    let begun : run is_name_byte (byte ∷ text) ≡ byte ∷ run is_name_byte text = run-begun is_name_byte byte text (name_byte_of_start byte start) in
    let whole = run-run is_name_byte (byte ∷ text) in
    let run_is : run is_name_byte (byte ∷ run is_name_byte text) ≡ run is_name_byte (byte ∷ text) = ap (λ z. run is_name_byte z) (sym begun) ∙ whole.0 in
    let after_is : after_run is_name_byte (byte ∷ run is_name_byte text) ≡ [] = ap (λ z. after_run is_name_byte z) (sym begun) ∙ whole.1 in
    let kind = λ (z : List ℕ). named (reserved_of (folded z)) in (
      byte ∷ run is_name_byte text,
      run-split is_name_byte (byte ∷ text) ∙ ap (λ z. z ++ after_run is_name_byte (byte ∷ text)) begun,
      word_at-name byte (run is_name_byte text) start
          ∙ ap (λ z. let r : Read = Ok (kind z, after_run is_name_byte (byte ∷ run is_name_byte text)) in r) run_is
          ∙ ap (λ z. let r : Read = Ok (kind (run is_name_byte (byte ∷ text)), z) in r) after_is,
    )

run-digit : (next : ℕ) (text : List ℕ) → is_ascii_digit next ≡ true → run is_number_byte (next ∷ text) ≡ next ∷ run is_number_byte text
run-digit next text digit = run-begun is_number_byte next text (by_tests (is_name_start next) (is_ascii_digit next) (next == 46) digit)
  where
    by_tests : (start digit point : Bool) → digit ≡ true → ((start || digit) || point) ≡ true
    by_tests true digit point is = refl
    by_tests false true point is = refl
    by_tests false false point is = absurd (cc)

pub digit-begins : (byte : ℕ) (text : List ℕ) → is_ascii_digit byte ≡ true → begins_number (byte ∷ text) ≡ true
unfolding begins_number
digit-begins byte [] digit = digit
digit-begins byte (next ∷ text) digit = rw digit refl

begins-alone : (byte : ℕ) (text : List ℕ) → begins_number (byte ∷ text) ≡ true → begins_number (byte ∷ run is_number_byte text) ≡ true
unfolding begins_number
begins-alone byte [] begins = digit-begins byte (run is_number_byte []) begins
begins-alone byte (next ∷ text) begins = by_tests (is_ascii_digit byte) (is_ascii_digit next) refl refl begins
  where
    by_tests : (digit digit_next : Bool) → is_ascii_digit byte ≡ digit → is_ascii_digit next ≡ digit_next → (digit || ((byte == 46) && digit_next)) ≡ true
        → begins_number (byte ∷ run is_number_byte (next ∷ text)) ≡ true
    by_tests true digit_next is is_next both = digit-begins byte (run is_number_byte (next ∷ text)) is
    by_tests false true is is_next both = rw (run-digit next text is_next, is, is_next) both
    by_tests false false is is_next both = by_point (byte == 46) both
      where
        by_point : (point : Bool) → (point && false) ≡ true → begins_number (byte ∷ run is_number_byte (next ∷ text)) ≡ true
        by_point true both = absurd (cc)
        by_point false both = absurd (cc)

number-alone : (byte : ℕ) (text : List ℕ) → is_name_start byte ≡ false → begins_number (byte ∷ text) ≡ true → ReadsAlone (byte ∷ text) (number_at (byte ∷ text))
unfolding number_at
number-alone byte text start begins = by_value (decimal_of (run is_number_byte (byte ∷ text))) refl
  where
    begun : run is_number_byte (byte ∷ text) ≡ byte ∷ run is_number_byte text
    begun = run-begun is_number_byte byte text (begins-number_byte byte text begins)

    by_value : (value : Result ℤ NumFault) → decimal_of (run is_number_byte (byte ∷ text)) ≡ value
        → ReadsAlone (byte ∷ text) (number_word value (after_run is_number_byte (byte ∷ text)))
    by_value (Err fault) is = tt
    by_value (Ok value) is =
        let whole = run-run is_number_byte (byte ∷ text) in
        let run_is : run is_number_byte (byte ∷ run is_number_byte text) ≡ run is_number_byte (byte ∷ text) = ap (λ z. run is_number_byte z) (sym begun) ∙ whole.0 in
        let after_is : after_run is_number_byte (byte ∷ run is_number_byte text) ≡ [] = ap (λ z. after_run is_number_byte z) (sym begun) ∙ whole.1 in (
          byte ∷ run is_number_byte text,
          run-split is_number_byte (byte ∷ text) ∙ ap (λ z. z ++ after_run is_number_byte (byte ∷ text)) begun,
          word_at-number byte (run is_number_byte text) start (begins-alone byte text begins)
              ∙ ap (λ z. number_word (decimal_of z) (after_run is_number_byte (byte ∷ run is_number_byte text))) run_is
              ∙ ap (λ z. number_word z (after_run is_number_byte (byte ∷ run is_number_byte text))) is
              ∙ ap (λ z. number_word (Ok value) z) after_is,
        )

if-alone : (text : List ℕ) → ReadsAlone (35 ∷ text) (if_at text)
unfolding if_at
if-alone text = by_test (bytes_eq (folded (run is_name_byte text)) (codes "if")) refl
  where
    by_test : (is_if : Bool) → bytes_eq (folded (run is_name_byte text)) (codes "if") ≡ is_if
        → ReadsAlone (35 ∷ text) (if is_if then Ok (If, after_run is_name_byte text) else Err BadHash)
    by_test false is = tt
    by_test true is =
        let whole = run-run is_name_byte text in (
          35 ∷ run is_name_byte text,
          ap (λ z. 35 ∷ z) (run-split is_name_byte text),
          word_at-if (run is_name_byte text)
              ∙ ap (λ z. let r : Read = if bytes_eq (folded z) (codes "if") then Ok (If, after_run is_name_byte (run is_name_byte text)) else Err BadHash in r) whole.0
              ∙ ap (λ z. let r : Read = if z then Ok (If, after_run is_name_byte (run is_name_byte text)) else Err BadHash in r) is
              ∙ ap (λ z. let r : Read = Ok (If, z) in r) whole.1,
        )

pub begins-one : (byte : ℕ) (text : List ℕ) → begins_number (byte ∷ text) ≡ false → begins_number (byte ∷ []) ≡ false
unfolding begins_number
begins-one byte [] begins = begins
begins-one byte (next ∷ text) begins = by_test (is_ascii_digit byte) begins
  where
    by_test : (digit : Bool) → (digit || ((byte == 46) && is_ascii_digit next)) ≡ false → digit ≡ false
    by_test false is = refl
    by_test true is = is

pub begins-two : (byte next : ℕ) (text other : List ℕ) → begins_number (byte ∷ next ∷ text) ≡ begins_number (byte ∷ next ∷ other)
unfolding begins_number
begins-two byte next text other = refl

sign-one : (byte : ℕ) (mark : Mark) → is_name_start byte ≡ false → begins_number (byte ∷ []) ≡ false → (byte == 35) ≡ false → mark_of byte ≡ Some mark
    → word_at (byte ∷ []) ≡ Ok (Sign mark, [])
unfolding sign_at
sign-one byte mark start begins hash is = word_at-sign byte [] start begins hash ∙ ap (λ z. sign_or z [] (Err BadByte)) is

pub sign-two : (byte next : ℕ) (text : List ℕ) (mark : Mark) → is_name_start byte ≡ false → begins_number (byte ∷ next ∷ text) ≡ false → (byte == 35) ≡ false
    → long_mark byte (next ∷ []) ≡ Some mark → word_at (byte ∷ next ∷ text) ≡ Ok (Sign mark, text)
unfolding sign_at
sign-two byte next text mark start begins hash is = word_at-sign byte (next ∷ text) start begins hash ∙ ap (λ z. sign_or z text (sign_or (mark_of byte) (next ∷ text) (Err BadByte))) is

sign-alone : (byte : ℕ) (text : List ℕ) → is_name_start byte ≡ false → begins_number (byte ∷ text) ≡ false → (byte == 35) ≡ false → ReadsAlone (byte ∷ text) (sign_at byte text)
unfolding sign_at
sign-alone byte [] start begins hash = by_mark (mark_of byte) refl
  where
    by_mark : (mark : Option Mark) → mark_of byte ≡ mark → ReadsAlone (byte ∷ []) (sign_or mark [] (Err BadByte))
    by_mark (Some mark) is = (byte ∷ [], refl, sign-one byte mark start begins hash is)
    by_mark None is = tt
sign-alone byte (next ∷ text) start begins hash = by_marks (long_mark byte (next ∷ [])) (mark_of byte) refl refl
  where
    by_marks : (long mark : Option Mark) → long_mark byte (next ∷ []) ≡ long → mark_of byte ≡ mark
        → ReadsAlone (byte ∷ next ∷ text) (sign_or long text (sign_or mark (next ∷ text) (Err BadByte)))
    by_marks (Some long) mark is_long is = (byte ∷ next ∷ [], refl, sign-two byte next [] long start (begins-two byte next [] text ∙ begins) hash is_long)
    by_marks None (Some mark) is_long is = (byte ∷ [], refl, sign-one byte mark start (begins-one byte (next ∷ text) begins) hash is)
    by_marks None None is_long is = tt

pub hash_is : (byte : ℕ) → (byte == 35) ≡ true → byte ≡ 35
hash_is byte is = grind (arith, nat_tests)

-- a token is read from a first part of the text, alone
pub word-alone : (text : List ℕ) → ReadsAlone text (word_at text)
unfolding word_at
word-alone [] = tt
word-alone (byte ∷ text) = by_tests (is_name_start byte) (begins_number (byte ∷ text)) (byte == 35) refl refl refl
  where
    by_tests : (start begins hash : Bool) → is_name_start byte ≡ start → begins_number (byte ∷ text) ≡ begins → (byte == 35) ≡ hash
        → ReadsAlone (byte ∷ text) (if start then name_at (byte ∷ text) else (if begins then number_at (byte ∷ text) else (if hash then if_at text else sign_at byte text)))
    by_tests true begins hash is_start is_begun is_hash = name-alone byte text is_start
    by_tests false true hash is_start is_begun is_hash = number-alone byte text is_start is_begun
    by_tests false false true is_start is_begun is_hash = subst (λ z. ReadsAlone (z ∷ text) (if_at text)) (sym (hash_is byte is_hash)) (if-alone text)
    by_tests false false false is_start is_begun is_hash = sign-alone byte text is_start is_begun is_hash
