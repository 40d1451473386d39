use Rattle.std.proofs.Common.{◌≡◌, drop}
use Rattle.ny_lex.specs.Bytes.{after_gap}
use Rattle.ny_lex.proofs.Gaps.{gap_from}
use Rattle.ny_lex.proofs.bytes.after_gap.Given as goal

-- the gap goes on from here as it does from the front
abbrev pub invariant-loop-place : goal.invariant-loop-place
invariant-loop-place l = gap_from l.in_comment (drop l.place l.text) ≡ after_gap l.text
