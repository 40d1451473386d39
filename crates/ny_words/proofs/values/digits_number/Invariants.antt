use Rattle.std.proofs.Common.{◌≡◌, take}
use Rattle.ny_num.specs.Decimal.{number_of}
use Rattle.ny_words.proofs.values.digits_number.Given as goal

-- the number of the digits so far
abbrev pub invariant-loop-digit : goal.invariant-loop-digit
invariant-loop-digit l = l.value ≡ number_of (take l.digit-index l.digits)
