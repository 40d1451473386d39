use Rattle.std.proofs.Common.{length, ap, ◌∙◌, arith}
use Rattle.std.specs.Int.{int_max}
use Rattle.std.proofs.lemmas.Grind.{div_ceil_times}
use Rattle.ny_eval.proofs.EnvelopeLemmas.{next_knot}
use Rattle.ny_eval.proofs.envelope.knots.Goals as goal

pub loop-k-preserved : goal.loop-k-preserved
loop-k-preserved c =
    let bounds = div_ceil_times (length c.args.numbers.now) 2 (omega arith) in
    next_knot c.args.env.now c.args.start c.args.numbers.now c.loop-k.k c.loop-k.time c.later-time.result c.level_at.result _ c.loop-k.knots.items c.push-in-loop-k.new.self.items c.knot_from-in-loop-k.result _
    (omega (arith, bounds, c.loop-k-test.true, c.div_ceil-k-end.ensures))
    (c.later-time.ensures ∙ ap (int_max c.loop-k.time) c.index-numbers-k.is)
    c.level_at.ensures c.knot_from-in-loop-k.ensures c.in_ok-push-2.ensures.items c.loop-k.invariant
