-- The number that a first part of some digits writes.
use Rattle.std.proofs.Common.{◌≡◌, ℕ, ◌+◌, ◌-◌, ◌*◌, ◌^◌, ◌≤◌, ◌<◌, List, [], ◌∷◌, ◌++◌, length, take, drop, get_or, sym, ap, ◌∙◌, arith, length-append}
use Rattle.std.proofs.lemmas.List.{take-append-drop, take_more}
use Rattle.std.proofs.lemmas.Nat.{pow-add}
use Rattle.std.proofs.Math.Nat.{mul_assoc, le-mul_of_pos_right, one-le-pow}
use Rattle.ny_num.specs.Decimal.{number_of}

-- digits after others shift them to the left
pub number_of-append : (xs ys : List ℕ) → number_of (xs ++ ys) ≡ number_of xs * 10 ^ length ys + number_of ys
number_of-append [] ys = omega arith
number_of-append (x ∷ xs) ys =
    rw (length-append xs ys, pow-add 10 (length xs) (length ys), number_of-append xs ys)
    (let e : (x - 48) * (10 ^ length xs * 10 ^ length ys) ≡ (x - 48) * 10 ^ length xs * 10 ^ length ys = sym (mul_assoc (x - 48) (10 ^ length xs) (10 ^ length ys)) in
    grind (arith, e))

-- one digit more makes ten times the number and the digit
pub number_of-more : (digits : List ℕ) (place : ℕ) → place < length digits
    → number_of (take (place + 1) digits) ≡ 10 * number_of (take place digits) + (get_or digits place 0 - 48)
number_of-more digits place within =
    rw (take_more digits place 0 within, number_of-append (take place digits) (get_or digits place 0 ∷ []))
    (omega arith)

-- places to its right make a number no smaller
pub shifted : (digits : List ℕ) (count : ℕ) → number_of digits ≤ number_of digits * 10 ^ count
shifted digits count = le-mul_of_pos_right (number_of digits) (one-le-pow count 10 (omega arith))

-- a first part of the digits writes no greater number
pub number_of-part : (digits : List ℕ) (place : ℕ) → number_of (take place digits) ≤ number_of digits
number_of-part digits place =
    let whole : number_of digits ≡ number_of (take place digits) * 10 ^ length (drop place digits) + number_of (drop place digits) =
    ap number_of (sym (take-append-drop place digits)) ∙ number_of-append (take place digits) (drop place digits) in
    let shift : number_of (take place digits) ≤ number_of (take place digits) * 10 ^ length (drop place digits) = shifted (take place digits) (length (drop place digits)) in
    omega arith

pub ruleset digits_so_far = (number_of-more, number_of-part)
