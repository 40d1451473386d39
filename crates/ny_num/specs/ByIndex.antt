-- Filters and envelopes by index.
use Rattle.std.specs.Prelude.{ℕ, ◌-◌, ◌<◌, ◌≤◌, length, nat_lt, if◌then◌else◌, List, slice_index_or, ℤ, pos}
use Rattle.ny_num.specs.Filters.{Recent}

-- the item at a place of a list, 0 past its end
abbrev pub item_at : List ℤ → ℕ → ℤ
item_at xs n = slice_index_or xs n (pos 0)

-- the item k places before place n of a list, 0 before its first
abbrev pub item_before : ℕ → List ℤ → ℕ → ℤ
item_before k xs n = if nat_lt n k then pos 0 else item_at xs (n - k)

-- what is recent at place n of these inputs and outputs
abbrev pub recent_at : List ℤ → List ℤ → ℕ → Recent
recent_at xs ys n =
    record { x1 = item_before 1 xs n; x2 = item_before 2 xs n; y1 = item_before 1 ys n; y2 = item_before 2 ys n }

-- the knot at a place
abbrev pub knot_at : List (ℕ × ℤ) → ℕ → ℕ × ℤ
knot_at knots i = slice_index_or knots i (0, pos 0)

-- no knot stands before an earlier one
abbrev pub NeverFall : List (ℕ × ℤ) → Type 0
NeverFall knots = (j k : ℕ) → j ≤ k → k < length knots → (knot_at knots j).0 ≤ (knot_at knots k).0
