use Rattle.std.proofs.Common.{◌≡◌, [], drop, sym, ap, ◌∙◌, arith}
use Rattle.std.proofs.Math.ListN.{drop_of_length-le}
use Rattle.ny_timing.specs.Envelopes.{end_after}
use Rattle.ny_timing.proofs.EnvelopeEnds.{end_of_envelope, nothing_after}
use Rattle.ny_timing.proofs.leaves.envelope_end.Goals as goal

pub returns : goal.returns
returns c =
    let rest : drop c.loop-number.number-index c.args.numbers.now ≡ [] = drop_of_length-le c.args.numbers.now (omega arith) in
    sym (nothing_after c.loop-number.is_time c.loop-number.time)
    ∙ ap (end_after c.loop-number.is_time c.loop-number.time) (sym rest)
    ∙ c.loop-number.invariant
    ∙ end_of_envelope c.args.numbers.now
