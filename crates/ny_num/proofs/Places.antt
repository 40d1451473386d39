-- The digits of a rest below 1, without the zeros at their end.
use Rattle.std.proofs.Common.{◌≡◌, ℕ, zero, suc, ◌+◌, ◌-◌, ◌*◌, ◌/◌, ◌%◌, ◌^◌, ◌<◌, ◌≢◌, List, [], ◌∷◌, ◌++◌, length, refl, ap, sym, ◌∙◌, arith, append_assoc, append-nil}
use Rattle.std.proofs.Math.Nat.{one-le-pow, pow-suc, pow-zero, div-eq_of_lt, mod-eq_of_lt}
use Rattle.std.proofs.lemmas.Bool.Decides.{nat_tests}
use Rattle.std.proofs.lemmas.Nat.{div-add-mod', mod_below, div_below}
use Rattle.ny_num.specs.Decimal.{in_digits, without_last_zeros, point_and_places}

pub ten-pow_pos : (count : ℕ) → 0 < 10 ^ count
ten-pow_pos count = omega (arith, one-le-pow count 10 (omega arith))

-- the first digit of a number that has no more digits, and what the others write
pub first_digit : (count n : ℕ) → n < 10 ^ suc count → n / 10 ^ count < 10
first_digit count n fits = div_below n (10 ^ count) 10 (ten-pow_pos count) (omega (arith, pow-suc 10 count))

pub other_digits : (count n : ℕ) → n % 10 ^ count < 10 ^ count
other_digits count n = mod_below n (10 ^ count) (ten-pow_pos count)

-- a digit stays where it is not 0, or where something stays after it
pub without_last_zeros-cons : (digit : ℕ) (digits : List ℕ) → (digit ≡ 48 → 0 < length (without_last_zeros digits))
    → without_last_zeros (digit ∷ digits) ≡ digit ∷ without_last_zeros digits
without_last_zeros-cons digit digits stays = grind (arith, nat_tests)

-- a 0 goes where nothing stays after it
without_last_zeros-zero : (digits : List ℕ) → without_last_zeros digits ≡ [] → without_last_zeros (48 ∷ digits) ≡ []
without_last_zeros-zero digits none = rw none refl

-- 0 has no digit that stays
pub places-zero : (count : ℕ) → without_last_zeros (in_digits count 0) ≡ []
unfolding in_digits
places-zero zero = refl
places-zero (suc count) =
    let first : 0 / 10 ^ count ≡ 0 = div-eq_of_lt (ten-pow_pos count) in
    let others : 0 % 10 ^ count ≡ 0 = mod-eq_of_lt (ten-pow_pos count) in
    rw (first, others) (without_last_zeros-zero (in_digits count 0) (places-zero count))

-- the first digit stays where it is not 0, or where one of the others does
first_stays : (count n : ℕ) → 0 < n → n < 10 ^ suc count → (n < 10 ^ count → 0 < length (without_last_zeros (in_digits count n)))
    → 48 + n / 10 ^ count ≡ 48 → 0 < length (without_last_zeros (in_digits count (n % 10 ^ count)))
first_stays count n above fits others zero_first =
    let whole : n / 10 ^ count * 10 ^ count + n % 10 ^ count ≡ n = div-add-mod' n (10 ^ count) in
    let first : n / 10 ^ count ≡ 0 = omega arith in
    let none : n / 10 ^ count * 10 ^ count ≡ 0 = rw first (omega arith) in
    let same : n % 10 ^ count ≡ n = omega arith in
    rw same (others (omega (arith, other_digits count n)))

-- of a number above 0 a digit stays
pub places-nonempty : (count n : ℕ) → 0 < n → n < 10 ^ count → 0 < length (without_last_zeros (in_digits count n))
unfolding in_digits
places-nonempty zero n above fits = absurd (omega (arith, pow-zero 10))
places-nonempty (suc count) n above fits =
    let stays = first_stays count n above fits (places-nonempty count n above) in
    rw (without_last_zeros-cons (48 + n / 10 ^ count) (in_digits count (n % 10 ^ count)) stays) (omega arith)

-- its first digit stays, with what stays of the others
pub places-step : (count n : ℕ) → 0 < n → n < 10 ^ suc count
    → without_last_zeros (in_digits (suc count) n) ≡ (48 + n / 10 ^ count) ∷ without_last_zeros (in_digits count (n % 10 ^ count))
unfolding in_digits
places-step count n above fits =
    without_last_zeros-cons (48 + n / 10 ^ count) (in_digits count (n % 10 ^ count)) (first_stays count n above fits (places-nonempty count n above))

-- the same at a place, counted from the point, with what its digits are worth
pub places-at : (place rest worth : ℕ) → place < 6 → 0 < rest → rest < 10 ^ (6 - place) → worth ≡ 10 ^ (5 - place)
    → without_last_zeros (in_digits (6 - place) rest) ≡ (48 + rest / worth) ∷ without_last_zeros (in_digits (6 - (place + 1)) (rest % worth))
places-at place rest worth early above fits is =
    let before : 6 - place ≡ suc (5 - place) = omega arith in
    let after : 6 - (place + 1) ≡ 5 - place = omega arith in
    let fits' : rest < 10 ^ suc (5 - place) = rw before at fits in
    rw (before, after, is) (places-step (5 - place) rest above fits')

pub digit-at : (place rest worth : ℕ) → place < 6 → rest < 10 ^ (6 - place) → worth ≡ 10 ^ (5 - place) → rest / worth < 10
digit-at place rest worth early fits is =
    let before : 6 - place ≡ suc (5 - place) = omega arith in
    let fits' : rest < 10 ^ suc (5 - place) = rw before at fits in
    rw is (first_digit (5 - place) rest fits')

pub rest-at : (place rest worth : ℕ) → place < 6 → worth ≡ 10 ^ (5 - place) → rest % worth < 10 ^ (6 - (place + 1))
rest-at place rest worth early is =
    let after : 6 - (place + 1) ≡ 5 - place = omega arith in
    rw (after, is) (other_digits (5 - place) rest)

-- a digit is written, and the others are still to write
pub written-more : (before after start kept others : List ℕ) (digit : ℕ) → after ≡ before ++ digit ∷ [] → kept ≡ digit ∷ others
    → before ++ kept ≡ start → after ++ others ≡ start
written-more before after start kept others digit now more same =
    rw now (rw (append_assoc before (digit ∷ []) others) (rw more at same))

-- the text of a rest above 0
pub point_and_places-above : (millionths : ℕ) → millionths ≢ 0 → point_and_places millionths ≡ 46 ∷ without_last_zeros (in_digits 6 millionths)
point_and_places-above millionths above = grind (arith, nat_tests)

-- nothing is left to write of the rest
pub written-whole : (text before pointed : List ℕ) (count rest millionths : ℕ) → millionths ≢ 0 → rest ≡ 0 → pointed ≡ before ++ 46 ∷ []
    → text ++ without_last_zeros (in_digits count rest) ≡ pointed ++ without_last_zeros (in_digits 6 millionths)
    → text ≡ before ++ point_and_places millionths
written-whole text before pointed count rest millionths above none now same =
    let shown : List ℕ = without_last_zeros (in_digits 6 millionths) in
    let all : text ++ without_last_zeros (in_digits count 0) ≡ pointed ++ shown = rw none at same in
    let bare : text ≡ pointed ++ shown = sym (append-nil text) ∙ (ap (λ kept. text ++ kept) (sym (places-zero count)) ∙ all) in
    rw (point_and_places-above millionths above) (bare ∙ (ap (λ t. t ++ shown) now ∙ append_assoc before (46 ∷ []) shown))

pub ruleset places_from_the_left = (places-zero, places-at, digit-at, rest-at, ten-pow_pos)
