-- A slice of the outputs of one pole and of a biquad filter: those so far, and then those for the rest.
use Rattle.std.proofs.Common.{◌≡◌, ℕ, ◌++◌, List, ℤ, pos, ◌-ℤ◌, take, drop}
use Rattle.ny_num.specs.Filters.{one_pole_value, one_pole_after, Coefficients, Recent, biquad_next, biquad_after}
use Rattle.ny_filters.specs.Kept.{kept_after}
use Rattle.ny_filters.specs.Ways.{IsLifted, lift}

pub record PoleSoFar (a before output : ℤ) (k : ℕ) (input out : List ℤ) : Type 0 where
  pub written : take k out ++ one_pole_after a output (drop k input) ≡ one_pole_after a before input
  pub kept : kept_after (one_pole_value a) output (drop k input) ≡ kept_after (one_pole_value a) before input

-- the last output is lifted
pub record PoleWithin (micro : ℕ) (before : ℤ) (output k : ℕ) (input out : List ℤ) : Type 0 where
  pub within : IsLifted output
  pub so_far : PoleSoFar (pos micro) before (pos output -ℤ lift) k input out

pub record BiquadSoFar (c : Coefficients) (before recent : Recent) (k : ℕ) (input out : List ℤ) : Type 0 where
  pub written : take k out ++ biquad_after c recent (drop k input) ≡ biquad_after c before input
  pub kept : kept_after (biquad_next c) recent (drop k input) ≡ kept_after (biquad_next c) before input
