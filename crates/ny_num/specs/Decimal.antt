-- A decimal: digits, and perhaps a point with digits after it. What number it writes, and the text of a number.
use Rattle.std.specs.Prelude.{ℕ, zero, suc, ◌≤◌, ◌+◌, ◌-◌, ◌*◌, ◌/◌, ◌%◌, ◌^◌, List, [], ◌∷◌, ◌++◌, length, count_by, Bool, false, IsTrue, not, ◌&&◌, ◌||◌, ◌==◌, nat_lt, if◌then◌else◌, Ok, Err, ℤ, pos, unsigned_abs, decimal}
use Rattle.std.specs.Fmt.{sign_text}
use Rattle.std.specs.Int.{is_negative}
use Rattle.std.specs.declared.result.Result.{Result}
use Rattle.std.specs.List.{list_all, list_any, before_first, after_first}
use Rattle.std.specs.Char.{is_ascii_digit}
use Rattle.ny_num.specs.declared.decimal.NumFault.{NumFault}
use Rattle.ny_num.specs.declared.decimal.NumFault.TheVariants.{NotDecimal, TooManyPlaces, TooLarge}

-- the greatest number, in millionths
abbrev pub fix_most : ℕ
fix_most = 2 ^ 53

abbrev pub is_point : ℕ → Bool
is_point byte = byte == 46

-- a byte of a decimal
abbrev pub is_digit_or_point : ℕ → Bool
is_digit_or_point byte = is_ascii_digit byte || is_point byte

-- the first byte is a digit
abbrev pub begins_with_digit : List ℕ → Bool
begins_with_digit [] = false
begins_with_digit (byte ∷ bytes) = is_ascii_digit byte

-- what stands before the point, or the whole text where there is none
abbrev pub whole_part : List ℕ → List ℕ
whole_part text = before_first is_point text

-- what stands after the point
abbrev pub places : List ℕ → List ℕ
places text = after_first is_point text

-- digits before the point and digits after it, where a point has at least one after it, and a text without a point has
-- at least one
abbrev pub is_decimal : List ℕ → Bool
is_decimal text =
    let wanted = if list_any is_point text then length (places text) else length (whole_part text) in
    list_all is_ascii_digit (whole_part text) && list_all is_ascii_digit (places text) && not (wanted == 0)

-- the number that digits write, each worth ten times the one after it
abbrev pub number_of : List ℕ → ℕ
number_of [] = 0
number_of (digit ∷ digits) = (digit - 48) * 10 ^ length digits + number_of digits

-- the millionths that a decimal of at most six places writes
abbrev pub millionths : List ℕ → ℕ
millionths text = number_of (whole_part text) * 1000000 + number_of (places text) * 10 ^ (6 - length (places text))

-- the number that a text writes, in millionths, or why it writes none
abbrev pub decimal_of : List ℕ → Result ℤ NumFault
decimal_of text =
    if not (is_decimal text) then Err NotDecimal
    else (if nat_lt 6 (length (places text)) then Err TooManyPlaces
    else (if nat_lt fix_most (millionths text) then Err TooLarge else Ok (pos (millionths text))))

-- a number below 10 ^ count in so many digits, zeros before it where it has fewer
unfoldable pub in_digits : ℕ → ℕ → List ℕ
in_digits zero n = []
in_digits (suc count) n = (48 + n / 10 ^ count) ∷ in_digits count (n % 10 ^ count)

-- digits without the zeros at their end
abbrev pub without_last_zeros : List ℕ → List ℕ
without_last_zeros [] = []
without_last_zeros (digit ∷ digits) =
    let kept = without_last_zeros digits in if digit == 48 && length kept == 0 then [] else digit ∷ kept

-- a point and the six digits of a rest below 1, in millionths, without their last zeros; nothing where the rest is 0
abbrev pub point_and_places : ℕ → List ℕ
point_and_places rest = if rest == 0 then [] else 46 ∷ without_last_zeros (in_digits 6 rest)

-- the whole part without leading zeros, and what stands after it
abbrev pub unsigned_text : ℕ → List ℕ
unsigned_text n = decimal (n / 1000000) ++ point_and_places (n % 1000000)

-- the text of a number of millionths: a minus sign where it is below 0, and the text of its size
unfoldable pub decimal_text : ℤ → List ℕ
decimal_text v = sign_text (is_negative v) ++ unsigned_text (unsigned_abs v)

-- digits, and perhaps one point between them, the first of them a digit
pub record IsDigitsAndPoint (text : List ℕ) : Type 0 where
  pub begins : IsTrue (begins_with_digit text)
  pub run : IsTrue (list_all is_digit_or_point text)
  pub one_point : count_by is_point text ≤ 1
