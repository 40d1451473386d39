use Rattle.ny_eval.proofs.RevealedLemmas.{one_revealed, revealed_more, revealed_fewer}
use Rattle.ny_eval.proofs.reveal.reveal_due.Goals as goal

pub loop-smaller : goal.loop-smaller
loop-smaller c = revealed_fewer c.args.p.now c.program_laws.ensures.ordered c.program_laws.ensures.free c.height_law.ensures.tall c.args.heap.now c.loop.heap c.reveal.new.heap c.args.u.0.0 c.loop.invariant (one_revealed c.args.p.now c.loop.heap c.reveal.new.heap c.args.u.0.0 c.in_ok-reveal.field-0 c.if-branch.true c.in_ok-reveal.ensures.reveals)

pub loop-preserved : goal.loop-preserved
loop-preserved c = revealed_more c.args.p.now c.program_laws.ensures.ordered c.program_laws.ensures.free c.height_law.ensures.tall c.args.heap.now c.loop.heap c.reveal.new.heap c.args.u.0.0 c.loop.invariant (one_revealed c.args.p.now c.loop.heap c.reveal.new.heap c.args.u.0.0 c.in_ok-reveal.field-0 c.if-branch.true c.in_ok-reveal.ensures.reveals) c.in_ok-reveal.ensures.size
