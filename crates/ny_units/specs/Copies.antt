-- An input as it is.
use Rattle.std.specs.Prelude.{ℕ}
use Rattle.ny_units.specs.declared.input.Source.{Source}

-- the input, and the index where the unit begins
pub record Copy : Type 0 where
  pub input : Source
  pub start : ℕ

-- with another input
abbrev pub with_input : Copy → Source → Copy
with_input p s = record p { input = s }
