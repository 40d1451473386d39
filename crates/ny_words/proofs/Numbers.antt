-- The numbers that few digits write.
use Rattle.std.proofs.Common.{◌≡◌, ℕ, ◌+◌, ◌-◌, ◌*◌, ◌^◌, ◌<◌, ◌≤◌, List, [], ◌∷◌, length, true, arith}
use Rattle.std.specs.List.{list_all}
use Rattle.std.specs.Char.{is_ascii_digit}
use Rattle.std.proofs.Math.Nat.{mul-le-mul_right, pow-le-pow_right, pow-suc}
use Rattle.std.proofs.lemmas.Bool.{and_parts}
use Rattle.std.proofs.lemmas.Bool.Decides.{nat_tests}
use Rattle.ny_num.specs.Decimal.{number_of}
use Rattle.ny_num.proofs.Digits.{number_of-more, number_of-part}

pub ruleset number_so_far = (number_of-more, number_of-part)

digit-small : (digit : ℕ) → is_ascii_digit digit ≡ true → digit - 48 ≤ 9
digit-small digit is = grind (arith, nat_tests)

number-lt : (digit power number : ℕ) → digit ≤ 9 → number < power → digit * power + number < 10 * power
number-lt digit power number small rest = omega (arith, mul-le-mul_right {m = digit} {n = 9} power small)

-- digits write a number below the power of ten of their count
pub number_of-lt : (digits : List ℕ) → list_all is_ascii_digit digits ≡ true → number_of digits < 10 ^ length digits
number_of-lt [] is = omega arith
number_of-lt (digit ∷ digits) is =
    let parts = and_parts (is_ascii_digit digit) (list_all is_ascii_digit digits) is in
    let below : (digit - 48) * 10 ^ length digits + number_of digits < 10 * 10 ^ length digits =
    number-lt (digit - 48) (10 ^ length digits) (number_of digits) (digit-small digit parts.0) (number_of-lt digits parts.1) in
    omega (arith, below, pow-suc 10 (length digits))

pub few_digits : (digits : List ℕ) → list_all is_ascii_digit digits ≡ true → length digits ≤ 10 → number_of digits < 10 ^ 10
few_digits digits is few =
    omega (arith, number_of-lt digits is, pow-le-pow_right {n = 10} (omega arith) {i = length digits} {j = 10} few)
