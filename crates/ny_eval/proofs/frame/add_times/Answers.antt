use Rattle.std.proofs.Common.{◌∙◌, ap, arith}
use Rattle.ny_resolve.specs.declared.term.NameId.{NameId}
use Rattle.ny_check.specs.declared.value.Value.{Value}
use Rattle.ny_heap.specs.declared.sound.Sound.{Sound}
use Rattle.ny_trace.specs.Evaluates.{timed_in}
use Rattle.ny_eval.proofs.FrameLemmas.{same_default}
use Rattle.ny_eval.proofs.TimedLemmas.{times_next}
use Rattle.ny_eval.proofs.frame.add_times.Goals as goal

pub loop-i-preserved : goal.loop-i-preserved
loop-i-preserved c =
    times_next c.args.names.now c.loop-i.i c.index-names-i.result (omega arith) c.args.times.now.items c.loop-i.times.items c.push.new.self.items c.timed_in.result c.loop-i.invariant
    (c.timed_in.ensures ∙ ap (λ (b : NameId × Value Sound). timed_in b.1) (same_default c.args.names.now c.loop-i.i c.index-names-i-in-loop-i.result c.index-names-i.result (omega arith)))
    c.in_ok-push.ensures.items
