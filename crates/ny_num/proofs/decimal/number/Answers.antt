use Rattle.std.proofs.Common.{arith, ◌+◌}
use Rattle.ny_num.proofs.Digits.{number_of-more, number_of-part}
use Rattle.ny_num.proofs.decimal.number.Goals as goal

pub returns-then-value-gt-LIMIT : goal.returns-then-value-gt-LIMIT
returns-then-value-gt-LIMIT c =
    let digits = c.args.digits.now in
    let place = c.loop-digit.digit-index in
    omega (arith, number_of-more digits place c.loop-digit-test.true, number_of-part digits (place + 1))
