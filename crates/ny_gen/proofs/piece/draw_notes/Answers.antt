use Rattle.ny_gen.proofs.Drawing.{none_so_far, one_more}
use Rattle.ny_gen.proofs.piece.draw_notes.Goals as goal

pub loop-place-init : goal.loop-place-init
loop-place-init c = none_so_far c.args.seed _ _ c.new.ensures.items c.new-2.ensures.items

pub loop-place-preserved : goal.loop-place-preserved
loop-place-preserved c =
    one_more _ _ _ _ _ _ _ _ _ _ c.loop-place.invariant c.next-note.ensures.state c.next-note.ensures.key c.next-note.ensures.milliseconds
    c.in_ok-push.ensures.left c.in_ok-push.ensures.right
