-- A share of a way, in parts of a whole. No public clause cites this module.
use Rattle.std.specs.Prelude.{ℕ, ◌+◌, ◌*◌, ◌^◌, ◌<◌, ◌≤◌, ℤ, pos, ◌+ℤ◌, ◌-ℤ◌, ◌*ℤ◌}
use Rattle.ny_num.specs.Numbers.{million, floor_div}
use Rattle.ny_filters.specs.declared.share.Share.{Share}

-- as many parts of 2 ^ 64 as so many millionths are, rounded up
pub record IsShare (s : Share) : Type 0 where
  pub small : s.micro < 1000000
  pub enough : s.micro * 2 ^ 64 ≤ s.parts * 1000000
  pub few : s.parts * 1000000 ≤ s.micro * 2 ^ 64 + 1000000

-- so much lifts samples above 0
abbrev pub lift : ℤ
lift = pos 8589934592

-- a sample, lifted
pub record IsLifted (n : ℕ) : Type 0 where
  pub least : 6442450945 ≤ n
  pub greatest : n ≤ 10737418239

-- so many millionths of the way from one number to another, rounded down
abbrev pub on_way : ℕ → ℕ → ℕ → ℤ
on_way micro from to = pos from +ℤ floor_div (pos micro *ℤ (pos to -ℤ pos from)) million
