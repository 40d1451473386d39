-- What an operand is: a number, or a sound.
use Rattle.std.specs.Prelude.{Option, None, Some, ℤ}
use Rattle.ny_check.specs.declared.value.Scalar.{Scalar}
use Rattle.ny_check.specs.declared.value.Scalar.TheVariants.{Number}

-- the number that an operand is. A test is no number
abbrev pub number_in : Scalar → Option ℤ
number_in (Number v) = Some v
number_in _ = None
