-- The place of the point in a text.
use Rattle.std.proofs.Common.{◌≡◌, ℕ, ◌≤◌, List, length, arith, nat_lt, Some, None, unwrap_or, if◌then◌else◌}
use Rattle.std.specs.List.{position, position_or_len}
use Rattle.std.proofs.lemmas.Bool.Decides.{nat_tests}
use Rattle.std.proofs.lemmas.List.Sums.{prefix_len-le-length}
use Rattle.ny_num.specs.Decimal.{is_point}

pub position_or_len-within : (text : List ℕ) → position_or_len is_point text ≤ length text
position_or_len-within text = prefix_len-le-length _ text

place_if : (place len : ℕ) → place ≤ len → unwrap_or (if nat_lt place len then Some place else None) len ≡ place
place_if place len within = grind (arith, nat_tests)

pub position-or_len : (text : List ℕ) → unwrap_or (position is_point text) (length text) ≡ position_or_len is_point text
position-or_len text = place_if (position_or_len is_point text) (length text) (position_or_len-within text)

pub ruleset place_or_end = (position_or_len-within, position-or_len)
