use Rattle.ny_gen.proofs.Drawing.{NotesSoFar}
use Rattle.ny_gen.proofs.piece.draw_notes.Given as goal

-- the notes so far
abbrev pub invariant-loop-place : goal.invariant-loop-place
invariant-loop-place l = NotesSoFar l.seed l.place l.draws.state l.ears.left.items l.ears.right.items
