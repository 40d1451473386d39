use Rattle.std.proofs.Common.{◌≡◌, ◌-◌, ◌∙◌, length, take, drop, length-take, length-drop, arith}
use Rattle.ny_filters.proofs.Fillings.{run_filtered}
use Rattle.ny_filters.proofs.stage.Stage.fill.Goals as goal

pub loop-done-preserved : goal.loop-done-preserved
loop-done-preserved c =
    let end = c.min-end.result in
    let done = c.loop-done.done in
    let size : length (take (end - done) (drop done c.loop-done.out)) ≡ end - done =
    omega (arith, length-take (end - done) (drop done c.loop-done.out), length-drop done c.loop-done.out) in
    run_filtered c.args.reads.now c.args.c.now.list c.args.from c.args.self.now c.args.out.now c.requires.stage done end c.loop-done.self c.filter.new.self c.loop-done.out c.run-run.result.now c.filter.new.out
    c.loop-done.auto.out (omega arith) (omega arith) (omega arith) c.run-run.ensures.shown (c.filter.auto.out ∙ size)
    c.filter.ensures.filter c.filter.ensures.stage c.filter.ensures.samples c.filter.ensures.memory c.loop-done.invariant
