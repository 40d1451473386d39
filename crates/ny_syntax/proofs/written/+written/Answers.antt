use Rattle.ny_syntax.specs.Canonical.{written, written_bind}
use Rattle.ny_syntax.proofs.Commas.{commas-step}
use Rattle.ny_syntax.proofs.written.+written.Goals as goal

pub push_arguments-loop-part-preserved : goal.push_arguments-loop-part-preserved
push_arguments-loop-part-preserved t c =
    commas-step written c.args.parts.now c.loop-part.part-index c.part-item.result c.loop-part.some _ _ _ _ c.loop-part-test.true c.part-item.is
    c.in_ok-push_comma.ensures c.in_ok-push_expr.ensures c.loop-part.invariant

pub push_bind_list-loop-bind-preserved : goal.push_bind_list-loop-bind-preserved
push_bind_list-loop-bind-preserved t c =
    commas-step written_bind c.args.binds.now c.loop-bind.bind-index c.bind-item.result c.loop-bind.some _ _ _ _ c.loop-bind-test.true c.bind-item.is
    c.in_ok-push_comma.ensures c.in_ok-push_bind.ensures c.loop-bind.invariant
