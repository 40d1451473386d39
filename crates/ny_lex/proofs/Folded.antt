-- A name in lower case is read as a name.
use Rattle.std.proofs.Common.{◌≡◌, ℕ, List, [], ◌∷◌, Bool, true, false, ◌==◌, if◌then◌else◌, Option, Some, None, Result, Ok, Err, refl, sym, ap, ◌∙◌, arith}
use Rattle.std.proofs.lemmas.Bool.Decides.{nat_tests}
use Rattle.std.proofs.lemmas.Str.Ascii.{lowercase-lowercase}
use Rattle.std.specs.Prelude.{ℤ, codes, bytes_eq}
use Rattle.std.specs.Char.{to_ascii_lowercase}
use Rattle.ny_num.specs.declared.decimal.NumFault.{NumFault}
use Rattle.ny_num.specs.Decimal.{decimal_of}
use Rattle.ny_syntax.specs.declared.token.TokenKind.TheVariants.{Name, Number, Sign, If}
use Rattle.ny_syntax.specs.declared.token.Mark.{Mark}
use Rattle.ny_lex.specs.declared.fault.LexWhy.TheVariants.{BadByte, BadHash}
use Rattle.ny_lex.specs.Bytes.{run, after_run, is_name_start, is_name_byte, is_number_byte, folded}
use Rattle.ny_lex.specs.Words.{Read, why_of, named, reserved_of, name_at, begins_number, number_word, number_at, if_at, mark_of, long_mark, sign_or, sign_at, word_at}
use Rattle.ny_lex.proofs.Alone.{word_at-name}
use Rattle.ny_lex.proofs.Ended.{ok_parts}
use Rattle.ny_lex.proofs.Written.{all-run, after_run-pass}

start-folded : (byte : ℕ) → is_name_start byte ≡ true → is_name_start (to_ascii_lowercase byte) ≡ true
start-folded byte start = grind (arith, nat_tests)

name_byte-folded : (byte : ℕ) → is_name_byte byte ≡ true → is_name_byte (to_ascii_lowercase byte) ≡ true
name_byte-folded byte pass = grind (arith, nat_tests)

pub folded-folded : (bytes : List ℕ) → folded (folded bytes) ≡ folded bytes
folded-folded [] = refl
folded-folded (byte ∷ bytes) = ap (λ z. z ∷ folded (folded bytes)) (lowercase-lowercase byte) ∙ ap (λ z. to_ascii_lowercase byte ∷ z) (folded-folded bytes)

run-folded : (word : List ℕ) → after_run is_name_byte word ≡ [] → after_run is_name_byte (folded word) ≡ []
unfolding after_run
run-folded [] all = refl
run-folded (byte ∷ word) all = by_test (is_name_byte byte) refl all (run-folded word)
  where
    by_test : (pass : Bool) → is_name_byte byte ≡ pass → (if pass then after_run is_name_byte word else byte ∷ word) ≡ []
        → (after_run is_name_byte word ≡ [] → after_run is_name_byte (folded word) ≡ []) → after_run is_name_byte (folded (byte ∷ word)) ≡ []
    by_test true is all tail = after_run-pass is_name_byte (to_ascii_lowercase byte) (folded word) (name_byte-folded byte is) (tail all)
    by_test false is all tail = absurd (cc)

-- only what begins as a name is read as one
sign_or-no_name : (long mark : Option Mark) (after other : List ℕ) (rest : List ℕ) → sign_or long after (sign_or mark other (Err BadByte)) ≡ Ok (Name, rest) → ⊥
sign_or-no_name (Some long) mark after other rest is = let never = (ok_parts (Sign long) Name after rest is).0 in cc
sign_or-no_name None (Some mark) after other rest is = let never = (ok_parts (Sign mark) Name other rest is).0 in cc
sign_or-no_name None None after other rest is = let never : (let r : Read = Err BadByte in r) ≡ Ok (Name, rest) = is in cc

number-no_name : (value : Result ℤ NumFault) (after rest : List ℕ) → number_word value after ≡ Ok (Name, rest) → ⊥
number-no_name (Ok value) after rest is = let never = (ok_parts (Number value) Name after rest is).0 in cc
number-no_name (Err fault) after rest is = let never : (let r : Read = Err (why_of fault) in r) ≡ Ok (Name, rest) = is in cc

if-no_name : (text rest : List ℕ) → if_at text ≡ Ok (Name, rest) → ⊥
unfolding if_at
if-no_name text rest is = by_test (bytes_eq (folded (run is_name_byte text)) (codes "if")) is
  where
    by_test : (is_if : Bool) → (let r : Read = if is_if then Ok (If, after_run is_name_byte text) else Err BadHash in r) ≡ Ok (Name, rest) → ⊥
    by_test true is = let never = (ok_parts If Name (after_run is_name_byte text) rest is).0 in cc
    by_test false is = cc

pub name-starts : (byte : ℕ) (word rest : List ℕ) → word_at (byte ∷ word) ≡ Ok (Name, rest) → is_name_start byte ≡ true
unfolding word_at sign_at number_at
name-starts byte word rest is = by_tests (is_name_start byte) (begins_number (byte ∷ word)) (byte == 35) is
  where
    by_tests : (start begins hash : Bool)
        → (if start then name_at (byte ∷ word) else (if begins then number_at (byte ∷ word) else (if hash then if_at word else sign_at byte word))) ≡ Ok (Name, rest) → start ≡ true
    by_tests true begins hash is = refl
    by_tests false true hash is = absurd (number-no_name (decimal_of (run is_number_byte (byte ∷ word))) (after_run is_number_byte (byte ∷ word)) rest is)
    by_tests false false true is = absurd (if-no_name word rest is)
    by_tests false false false is = absurd (sign_or-no_name (long_mark byte word) (mark_of byte) _ word rest is)

pub word_at-folded : (word : List ℕ) → word_at word ≡ Ok (Name, []) → word_at (folded word) ≡ Ok (Name, [])
unfolding name_at
word_at-folded [] is = is
word_at-folded (byte ∷ word) is =
    let start : is_name_start byte ≡ true = name-starts byte word [] is in
    let text = byte ∷ word in
    let kind = λ (z : List ℕ). named (reserved_of (folded z)) in
    let parts = ok_parts (kind (run is_name_byte text)) Name (after_run is_name_byte text) [] (sym (word_at-name byte word start) ∙ is) in
    let all : after_run is_name_byte (folded text) ≡ [] = run-folded text parts.1 in
    word_at-name (to_ascii_lowercase byte) (folded word) (start-folded byte start)
    ∙ ap (λ z. let r : Read = Ok (kind z, after_run is_name_byte (folded text)) in r) (all-run is_name_byte (folded text) all)
    ∙ ap (λ z. let r : Read = Ok (named (reserved_of z), after_run is_name_byte (folded text)) in r) (folded-folded text)
    ∙ ap (λ z. let r : Read = Ok (kind z, after_run is_name_byte (folded text)) in r) (sym (all-run is_name_byte text parts.1))
    ∙ ap (λ z. let r : Read = Ok (z, after_run is_name_byte (folded text)) in r) parts.0
    ∙ ap (λ z. let r : Read = Ok (Name, z) in r) all
