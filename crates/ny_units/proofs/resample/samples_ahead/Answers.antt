use Rattle.std.proofs.Common.{arith, ◌-◌}
use Rattle.ny_units.proofs.Resampled.{ahead_values, past_all}
use Rattle.ny_units.proofs.resample.samples_ahead.Goals as goal

pub run-requires-clause-ahead : goal.run-requires-clause-ahead
run-requires-clause-ahead c = let can = c.requires.ready c.in-Some.c c.in-Some.is in omega (arith, can.ahead)

pub returns-then-place-from-clause-values : goal.returns-then-place-from-clause-values
returns-then-place-from-clause-values c = λ xs shows k within.
    let can = c.requires.ready c.in-Some.c c.in-Some.is in
    ahead_values c.args.from.now c.args.next (c.args.next - c.from.result) xs c.run.result.now k (omega arith) (omega (arith, c.run.ensures.seen, can.seen)) (c.run.ensures.shown xs (shows c.in-Some.c c.in-Some.is)) within

pub returns-else-place-from-clause-values : goal.returns-else-place-from-clause-values
returns-else-place-from-clause-values c = λ xs shows k within.
    let can = c.requires.ready c.in-Some.c c.in-Some.is in
    past_all c.args.from.now c.args.next xs c.args.silence.now k c.requires.later (omega (arith, can.seen)) c.requires.zeros
