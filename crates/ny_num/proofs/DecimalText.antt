-- A number that is not negative is read back from its text.
use Rattle.std.proofs.Common.{◌≡◌, ℕ, zero, suc, ◌+◌, ◌-◌, ◌*◌, ◌/◌, ◌%◌, ◌^◌, ◌≤◌, ◌<◌, ◌≢◌, List, [], ◌∷◌, ◌++◌, length, Bool, true, false, ◌&&◌, ◌||◌, not, nat_lt, ◌⊎◌, inl, inr, if◌then◌else◌, ◌==◌, refl, ap, sym, append-nil, count_by, ◌∙◌, rules, arith, Ok, pos}
use Rattle.std.specs.List.{list_all, list_any, position_or_len}
use Rattle.std.specs.Char.{is_ascii_digit}
use Rattle.std.specs.Fmt.{decimal}
use Rattle.std.specs.Int.{is_negative}
use Rattle.std.proofs.Math.Nat.{pow-zero, mul_assoc}
use Rattle.std.proofs.Math.Seq.{take-append_seam, drop-append-add, take-length}
use Rattle.std.proofs.Math.ListN.{drop_of_length-le}
use Rattle.std.proofs.lemmas.List.Folds.{list_all-append, list_any-append}
use Rattle.std.proofs.lemmas.List.Sums.{sum_by-append}
use Rattle.std.proofs.lemmas.Bool.Decides.{nat_tests}
use Rattle.std.proofs.lemmas.Bool.{cases_eq, and_parts, le-ltb, lt-leb}
use Rattle.std.proofs.lemmas.Fmt.{digits_decimal, digits_value-decimal, decimal_nonempty}
use Rattle.std.proofs.lemmas.Nat.{div-add-mod', pow-add}
use Rattle.std.proofs.lemmas.Str.Parse.{IsDigitsTest, IsNumeralModel, numerals_by_weight}
use Rattle.ny_num.specs.Decimal.{number_of, is_point, whole_part, places, is_decimal, millionths, fix_most, decimal_of, in_digits, without_last_zeros, unsigned_text, decimal_text, is_digit_or_point, begins_with_digit, IsDigitsAndPoint}
use Rattle.ny_num.proofs.Places.{first_digit, other_digits, places-nonempty, point_and_places-above}

-- ---- the whole part

digits_test : IsDigitsTest (λ digits. list_all is_ascii_digit digits ≡ true)
digits_test = search rules

own : IsNumeralModel (λ digits. list_all is_ascii_digit digits ≡ true) number_of
own = numerals_by_weight _ digits_test number_of (search rules)

pub decimal-digits : (n : ℕ) → n < 2 ^ 64 → list_all is_ascii_digit (decimal n) ≡ true
decimal-digits n fits = digits_decimal own n fits

pub number_of-decimal : (n : ℕ) → n < 2 ^ 64 → number_of (decimal n) ≡ n
number_of-decimal n fits = digits_value-decimal own n fits

-- ---- the places

pub length-in_digits : (count n : ℕ) → length (in_digits count n) ≡ count
unfolding in_digits
length-in_digits zero n = refl
length-in_digits (suc count) n = omega (arith, length-in_digits count (n % 10 ^ count))

pub in_digits-digits : (count n : ℕ) → n < 10 ^ count → list_all is_ascii_digit (in_digits count n) ≡ true
unfolding in_digits
in_digits-digits zero n fits = refl
in_digits-digits (suc count) n fits =
    let first : n / 10 ^ count < 10 = first_digit count n fits in
    digits_test.more (48 + n / 10 ^ count) (in_digits count (n % 10 ^ count)) (omega arith, omega arith) (in_digits-digits count (n % 10 ^ count) (other_digits count n))

pub number_of-in_digits : (count n : ℕ) → n < 10 ^ count → number_of (in_digits count n) ≡ n
unfolding in_digits
number_of-in_digits zero n fits = omega (arith, pow-zero 10)
number_of-in_digits (suc count) n fits =
    let digit : 48 + n / 10 ^ count - 48 ≡ n / 10 ^ count = omega arith in
    rw (length-in_digits count (n % 10 ^ count), digit, number_of-in_digits count (n % 10 ^ count) (other_digits count n))
    (div-add-mod' n (10 ^ count))

-- a digit goes, or stays
chosen : (digit : ℕ) (kept : List ℕ) → ((digit ≡ 48) × (kept ≡ []) × ((if digit == 48 && length kept == 0 then [] else digit ∷ kept) ≡ []))
    ⊎ ((if digit == 48 && length kept == 0 then [] else digit ∷ kept) ≡ digit ∷ kept)
chosen digit [] = elim (cases_eq digit 48) [ inl is ↦ inl (is, refl, rw is refl) | inr other ↦ inr (grind (arith, nat_tests)) ]
chosen digit (next ∷ kept) = inr (grind (arith, nat_tests))

pub without_last_zeros-cases : (digit : ℕ) (digits : List ℕ)
    → ((digit ≡ 48) × (without_last_zeros digits ≡ []) × (without_last_zeros (digit ∷ digits) ≡ []))
    ⊎ (without_last_zeros (digit ∷ digits) ≡ digit ∷ without_last_zeros digits)
without_last_zeros-cases digit digits = chosen digit (without_last_zeros digits)

pub length-without_last_zeros : (digits : List ℕ) → length (without_last_zeros digits) ≤ length digits
length-without_last_zeros [] = omega arith
length-without_last_zeros (digit ∷ digits) =
    elim (without_last_zeros-cases digit digits) [
      | inl goes ↦ rw goes.2 (omega arith)
      | inr stays ↦ rw stays (omega (arith, length-without_last_zeros digits))
    ]

pub without_last_zeros-digits : (digits : List ℕ) → list_all is_ascii_digit digits ≡ true → list_all is_ascii_digit (without_last_zeros digits) ≡ true
without_last_zeros-digits [] all = refl
without_last_zeros-digits (digit ∷ digits) all =
    let parts = digits_test.parts digit digits all in
    elim (without_last_zeros-cases digit digits) [
      | inl goes ↦ rw goes.2 refl
      | inr stays ↦ rw stays (digits_test.more digit (without_last_zeros digits) parts.0 (without_last_zeros-digits digits parts.1))
    ]

-- a digit before others that are shifted
shifted_digit : (digit power value shift others whole : ℕ) → whole ≡ power * shift → value * shift ≡ others
    → (digit * power + value) * shift ≡ digit * whole + others
shifted_digit digit power value shift others whole split rest = rw (split, sym (mul_assoc digit power shift)) (omega (arith, rest))

-- zeros at the end are worth nothing
pub number_of-without_last_zeros : (digits : List ℕ)
    → number_of (without_last_zeros digits) * 10 ^ (length digits - length (without_last_zeros digits)) ≡ number_of digits
number_of-without_last_zeros [] = omega arith
number_of-without_last_zeros (digit ∷ digits) =
    let others = number_of-without_last_zeros digits in
    let kept : ℕ = length (without_last_zeros digits) in
    let within : kept ≤ length digits = length-without_last_zeros digits in
    let left : suc (length digits) - suc kept ≡ length digits - kept = omega arith in
    let split : 10 ^ length digits ≡ 10 ^ kept * 10 ^ (length digits - kept) = ap (λ k. 10 ^ k) (omega arith) ∙ pow-add 10 kept (length digits - kept) in
    elim (without_last_zeros-cases digit digits) [
      | inl goes ↦ rw (goes.2, goes.0) (omega (arith, rw goes.1 at others))
      | inr stays ↦ rw (stays, left) (shifted_digit _ _ _ _ _ _ split others)
    ]

-- ---- the point

is_point-digit : (digit : ℕ) → 48 ≤ digit → is_point digit ≡ false
is_point-digit digit low = grind (arith, nat_tests)

-- digits have no point
pub point-in_digits : (digits : List ℕ) → list_all is_ascii_digit digits ≡ true → list_any is_point digits ≡ false
point-in_digits [] all = refl
point-in_digits (digit ∷ digits) all =
    let parts = digits_test.parts digit digits all in
    rw (is_point-digit digit parts.0.0) (point-in_digits digits parts.1)

pub point-after_digits : (digits others : List ℕ) → list_all is_ascii_digit digits ≡ true → position_or_len is_point (digits ++ 46 ∷ others) ≡ length digits
point-after_digits [] others all = refl
point-after_digits (digit ∷ digits) others all =
    let parts = digits_test.parts digit digits all in
    rw (is_point-digit digit parts.0.0, point-after_digits digits others parts.1) (omega arith)

pub no_point : (digits : List ℕ) → list_all is_ascii_digit digits ≡ true → position_or_len is_point digits ≡ length digits
no_point [] all = refl
no_point (digit ∷ digits) all =
    let parts = digits_test.parts digit digits all in
    rw (is_point-digit digit parts.0.0, no_point digits parts.1) (omega arith)

-- ---- the parts

pub whole_part-pointed : (digits others : List ℕ) → list_all is_ascii_digit digits ≡ true → whole_part (digits ++ 46 ∷ others) ≡ digits
whole_part-pointed digits others all = rw (point-after_digits digits others all) (take-append_seam digits (46 ∷ others))

pub places-pointed : (digits others : List ℕ) → list_all is_ascii_digit digits ≡ true → places (digits ++ 46 ∷ others) ≡ others
places-pointed digits others all = rw (point-after_digits digits others all) (drop-append-add digits (46 ∷ others) 1)

pub whole_part-bare : (digits : List ℕ) → list_all is_ascii_digit digits ≡ true → whole_part digits ≡ digits
whole_part-bare digits all = rw (no_point digits all) (take-length digits)

pub places-bare : (digits : List ℕ) → list_all is_ascii_digit digits ≡ true → places digits ≡ []
places-bare digits all = rw (no_point digits all) (drop_of_length-le digits (omega arith))

or_true : (b : Bool) → (b || true) ≡ true
or_true true = refl
or_true false = refl

list_any-pointed : (digits others : List ℕ) → list_any is_point (digits ++ 46 ∷ others) ≡ true
list_any-pointed digits others = rw (list_any-append is_point digits (46 ∷ others)) (or_true (list_any is_point digits))

-- a decimal of at most six places that is not too large is read
read_at : (text : List ℕ) (value : ℕ) → is_decimal text ≡ true → length (places text) ≤ 6 → millionths text ≡ value → value ≤ fix_most
    → decimal_of text ≡ Ok (pos value)
read_at text value written few is within =
    let places_few : nat_lt 6 (length (places text)) ≡ false = le-ltb 6 (length (places text)) few in
    let small : nat_lt fix_most (millionths text) ≡ false = le-ltb fix_most (millionths text) (omega arith) in
    rw (written, places_few, small, is) refl

some_item : (count : ℕ) → 0 < count → not (count == 0) ≡ true
some_item count some = grind (arith, nat_tests)

is_decimal-bare : (digits : List ℕ) → list_all is_ascii_digit digits ≡ true → 0 < length digits → is_decimal digits ≡ true
is_decimal-bare digits all some = rw (point-in_digits digits all, whole_part-bare digits all, places-bare digits all, all) (some_item (length digits) some)

is_decimal-pointed : (digits others : List ℕ) → list_all is_ascii_digit digits ≡ true → list_all is_ascii_digit others ≡ true → 0 < length others
    → is_decimal (digits ++ 46 ∷ others) ≡ true
is_decimal-pointed digits others all rest some =
    rw (list_any-pointed digits others, whole_part-pointed digits others all, places-pointed digits others all, all, rest) (some_item (length others) some)

read-bare : (digits : List ℕ) (value : ℕ) → list_all is_ascii_digit digits ≡ true → 0 < length digits
    → number_of digits * 1000000 ≡ value → value ≤ fix_most → decimal_of digits ≡ Ok (pos value)
read-bare digits value all some is within =
    read_at digits value (is_decimal-bare digits all some) (rw (places-bare digits all) (omega arith))
    (rw (whole_part-bare digits all, places-bare digits all) (omega (arith, is))) within

read-pointed : (digits others : List ℕ) (value : ℕ) → list_all is_ascii_digit digits ≡ true → list_all is_ascii_digit others ≡ true
    → 0 < length others → length others ≤ 6
    → number_of digits * 1000000 + number_of others * 10 ^ (6 - length others) ≡ value → value ≤ fix_most
    → decimal_of (digits ++ 46 ∷ others) ≡ Ok (pos value)
read-pointed digits others value all rest some few is within =
    read_at (digits ++ 46 ∷ others) value (is_decimal-pointed digits others all rest some) (rw (places-pointed digits others all) few)
    (rw (whole_part-pointed digits others all, places-pointed digits others all) is) within

-- ---- the text

pub decimal_text-pos : (n : ℕ) → decimal_text (pos n) ≡ unsigned_text n
unfolding decimal_text
decimal_text-pos n =
    let not_below : is_negative (pos n) ≡ false = lt-leb (suc n) 0 (omega arith) in
    rw not_below refl

-- a whole number
pub decimal_text-whole : (n : ℕ) → n % 1000000 ≡ 0 → decimal_text (pos n) ≡ decimal (n / 1000000)
decimal_text-whole n none = decimal_text-pos n ∙ rw none (append-nil (decimal (n / 1000000)))

-- and one with places
pub decimal_text-pointed : (n : ℕ) → n % 1000000 ≢ 0
    → decimal_text (pos n) ≡ decimal (n / 1000000) ++ 46 ∷ without_last_zeros (in_digits 6 (n % 1000000))
decimal_text-pointed n part =
    decimal_text-pos n ∙ ap (λ others. decimal (n / 1000000) ++ others) (point_and_places-above (n % 1000000) part)

-- the places of a rest above 0
record ArePlaces (rest : ℕ) (shown : List ℕ) : Type 0 where
  digits : list_all is_ascii_digit shown ≡ true
  some : 0 < length shown
  few : length shown ≤ 6
  worth : number_of shown * 10 ^ (6 - length shown) ≡ rest

are_places : (rest : ℕ) → rest ≢ 0 → rest < 1000000 → ArePlaces rest (without_last_zeros (in_digits 6 rest))
are_places rest part fits =
    let all : list_all is_ascii_digit (in_digits 6 rest) ≡ true = in_digits-digits 6 rest fits in
    let six : length (in_digits 6 rest) ≡ 6 = length-in_digits 6 rest in
    record {
      digits = without_last_zeros-digits (in_digits 6 rest) all;
      some = places-nonempty 6 rest (omega arith) fits;
      few = omega (arith, length-without_last_zeros (in_digits 6 rest));
      worth = rw six at (number_of-without_last_zeros (in_digits 6 rest)) ∙ number_of-in_digits 6 rest fits;
    }

-- a number that is not negative is read back from its text
pub decimal_of-decimal_text : (n : ℕ) → n ≤ fix_most → decimal_of (decimal_text (pos n)) ≡ Ok (pos n)
decimal_of-decimal_text n within =
    let fits : n / 1000000 < 2 ^ 64 = omega arith in
    let all = decimal-digits (n / 1000000) fits in
    let some = decimal_nonempty (n / 1000000) fits in
    let value = number_of-decimal (n / 1000000) fits in
    elim (cases_eq (n % 1000000) 0) [
      | inl none ↦ rw (decimal_text-whole n none) (read-bare (decimal (n / 1000000)) n all some (omega (arith, value)) within)
      | inr part ↦
          let shown = are_places (n % 1000000) part (omega arith) in
          rw (decimal_text-pointed n part)
          (read-pointed (decimal (n / 1000000)) (without_last_zeros (in_digits 6 (n % 1000000))) n all shown.digits shown.some shown.few
          (omega (arith, value, shown.worth)) within)
    ]

-- ---- the bytes of the text

digits-run : (digits : List ℕ) → list_all is_ascii_digit digits ≡ true → list_all is_digit_or_point digits ≡ true
digits-run [] all = refl
digits-run (digit ∷ digits) all =
    let parts = and_parts (is_ascii_digit digit) (list_all is_ascii_digit digits) all in
    rw parts.0 (digits-run digits parts.1)

digits-points : (digits : List ℕ) → list_all is_ascii_digit digits ≡ true → count_by is_point digits ≡ 0
digits-points [] all = refl
digits-points (digit ∷ digits) all =
    let parts = digits_test.parts digit digits all in
    rw (is_point-digit digit parts.0.0, digits-points digits parts.1) (omega arith)

digits-begin : (digits others : List ℕ) → list_all is_ascii_digit digits ≡ true → 0 < length digits → begins_with_digit (digits ++ others) ≡ true
digits-begin [] others all some = absurd (omega arith)
digits-begin (digit ∷ digits) others all some = (and_parts (is_ascii_digit digit) (list_all is_ascii_digit digits) all).0

run-bare : (digits : List ℕ) → list_all is_ascii_digit digits ≡ true → 0 < length digits → IsDigitsAndPoint digits
run-bare digits all some = record {
  begins = rw append-nil at (digits-begin digits [] all some);
  run = digits-run digits all;
  one_point = omega (arith, digits-points digits all);
}

count_by-append : (xs ys : List ℕ) → count_by is_point (xs ++ ys) ≡ count_by is_point xs + count_by is_point ys
count_by-append xs ys = sum_by-append _ xs ys

run-pointed : (digits others : List ℕ) → list_all is_ascii_digit digits ≡ true → list_all is_ascii_digit others ≡ true → 0 < length digits
    → IsDigitsAndPoint (digits ++ 46 ∷ others)
run-pointed digits others all rest some = record {
  begins = digits-begin digits (46 ∷ others) all some;
  run = rw (list_all-append is_digit_or_point digits (46 ∷ others), digits-run digits all) (digits-run others rest);
  one_point =
      let first : count_by is_point (digits ++ 46 ∷ others) ≡ count_by is_point digits + count_by is_point (46 ∷ others) =
      count_by-append digits (46 ∷ others) in
      let second : count_by is_point (46 ∷ others) ≡ 1 + count_by is_point others = count_by-append (46 ∷ []) others in
      omega (arith, first, second, digits-points digits all, digits-points others rest);
}

-- the text of a number that is not negative is digits and perhaps a point
pub decimal_text-run : (n : ℕ) → n ≤ fix_most → IsDigitsAndPoint (decimal_text (pos n))
decimal_text-run n within =
    let fits : n / 1000000 < 2 ^ 64 = omega arith in
    let all = decimal-digits (n / 1000000) fits in
    let some = decimal_nonempty (n / 1000000) fits in
    elim (cases_eq (n % 1000000) 0) [
      | inl none ↦ rw (decimal_text-whole n none) (run-bare (decimal (n / 1000000)) all some)
      | inr part ↦
          let shown = are_places (n % 1000000) part (omega arith) in
          rw (decimal_text-pointed n part) (run-pointed (decimal (n / 1000000)) (without_last_zeros (in_digits 6 (n % 1000000))) all shown.digits some)
    ]

pub ruleset reads_back = (decimal_of-decimal_text)
