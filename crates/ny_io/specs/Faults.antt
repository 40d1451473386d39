-- Counts of faults: when one has risen, and how much it rises by one fault.
use Rattle.std.specs.Prelude.{ℕ, ◌+◌, ◌-◌, ◌^◌, ◌≤◌, min}

-- the greatest value of a count, where it stands still
abbrev pub full_count : ℕ
full_count = 2 ^ 64 - 1

-- the count is greater than before, or stands at its greatest value
abbrev pub Rose : ℕ → ℕ → Type 0
Rose before now = min (before + 1) (2 ^ 64 - 1) ≤ now

-- the count once there is one more, which stands still at the greatest value
abbrev pub risen : ℕ → ℕ
risen count = min (count + 1) full_count
