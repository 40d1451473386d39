-- Bounds of the frequencies of keys.
use Rattle.std.proofs.Common.{ℕ, ◌^◌, ◌≤◌, arith}
use Rattle.std.proofs.Math.Nat.{pow-le-pow_right}
pub use Rattle.std.proofs.lemmas.Nat.{mul-le}

pub octaves_within : (count : ℕ) → count ≤ 5 → 2 ^ count ≤ 32
octaves_within count h = pow-le-pow_right (omega arith) h

pub ruleset product_within = (mul-le)
