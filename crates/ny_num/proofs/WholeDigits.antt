-- The digits of a whole number, one after the other.
use Rattle.std.proofs.Common.{◌≡◌, ℕ, ◌+◌, ◌/◌, ◌%◌, ◌^◌, ◌≤◌, ◌<◌, List, [], ◌∷◌, ◌++◌, map, ap, sym, ◌∙◌, arith, append_assoc}
use Rattle.std.specs.Fmt.{decimal}
use Rattle.std.specs.Int.Digits.{digits_of}
use Rattle.std.proofs.lemmas.Int.Digits.{digits_of_step}
use Rattle.std.proofs.lemmas.List.{map-append}
use Rattle.std.proofs.lemmas.Fmt.{decimal-digits_of, decimal_digit}

-- the last digit after those of a tenth
pub decimal-tenth : (n : ℕ) → 10 ≤ n → n < 2 ^ 64 → decimal n ≡ decimal (n / 10) ++ (48 + n % 10) ∷ []
decimal-tenth n large fits =
    decimal-digits_of n (omega arith) fits
    ∙ ap (λ z. map (λ d. 48 + d) z) (digits_of_step 10 n (omega arith) (omega arith))
    ∙ map-append (λ d. 48 + d) (digits_of 10 (n / 10)) (n % 10 ∷ [])
    ∙ ap (λ z. z ++ (48 + n % 10) ∷ []) (sym (decimal-digits_of (n / 10) (omega arith) (omega arith)))

pub decimal-one : (n : ℕ) → n < 10 → decimal n ≡ (48 + n) ∷ []
decimal-one n small = decimal_digit n small

-- a tenth's digits and then the last digit are written
pub written-tenth : (before mid after : List ℕ) (n : ℕ) → 10 ≤ n → n < 2 ^ 64 → mid ≡ before ++ decimal (n / 10) → after ≡ mid ++ (48 + n % 10) ∷ [] → after ≡ before ++ decimal n
written-tenth before mid after n large fits tenth last =
    last ∙ ap (λ z. z ++ (48 + n % 10) ∷ []) tenth ∙ append_assoc before (decimal (n / 10)) ((48 + n % 10) ∷ []) ∙ ap (λ z. before ++ z) (sym (decimal-tenth n large fits))

pub ruleset digit_by_digit = (decimal-one)
