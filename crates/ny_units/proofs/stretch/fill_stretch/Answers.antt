use Rattle.std.proofs.Common.{◌∙◌, sym, subst, length, arith}
use Rattle.ny_units.specs.Courses.{IsWindow}
use Rattle.ny_units.proofs.Stretches.{window_moved, one_written}
use Rattle.ny_units.proofs.stretch.fill_stretch.Goals.{then-written-out, else-written-out}
use Rattle.ny_units.proofs.stretch.fill_stretch.Goals as goal

pub loop-written-preserved : goal.loop-written-preserved
loop-written-preserved c =
    one_written c.args.course.now c.args.first c.args.from c.args.ahead.now c.loop-written.written c.loop-written.at c.next-at.result c.loop-written.window c.moved-window.result c.args.out.now c.loop-written.out
    c.lacks-in-loop-written.result c.on_way.result (omega arith) c.lacks-in-loop-written.ensures.value (omega arith) c.moved-window.ensures c.on_way.ensures c.next-at.ensures.position c.next-at.ensures.index c.next-at.ensures.later c.loop-written.invariant

pub returns-clause-window : goal.returns-clause-window
returns-clause-window c = λ g continues. elim c.if-written-out.branch [
  | then-written-out w ↦
      subst (IsWindow g) (sym (w.window-is ∙ w.moved-window-then-written-out.ensures)) (window_moved g c.args.first c.args.ahead.now (length c.args.ahead.now) (omega arith) continues)
  | else-written-out w ↦ subst (IsWindow g) (sym w.window-is) (c.loop-written.invariant.values g continues)
]
