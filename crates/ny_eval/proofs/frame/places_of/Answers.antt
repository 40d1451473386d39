use Rattle.std.proofs.Common.{arith}
use Rattle.ny_eval.proofs.FrameLemmas.{places_next}
use Rattle.ny_eval.proofs.frame.places_of.Goals as goal

pub loop-i-preserved : goal.loop-i-preserved
loop-i-preserved c =
    places_next c.args.names.now c.loop-i.i c.index-names-i.result (omega arith) c.loop-i.places c.bind.new.self c.loop-i.invariant
    c.in_ok-bind.ensures.bound
