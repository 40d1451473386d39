use Rattle.std.proofs.Common.{◌≡◌, ℕ, suc, length}
use Rattle.ny_pull.specs.Engine.{SamePiece}
use Rattle.ny_top.specs.Rounds.{IsUnderway, IsAtRound, IsAtTurn}
use Rattle.ny_top.proofs.RoundLemmas.{BlocksSoFar}
use Rattle.ny_top.proofs.rounds.pull_channels.Given as goal

-- the channels so far were pulled
abbrev pub invariant-loop-c : goal.invariant-loop-c
invariant-loop-c l =
    SamePiece l.fn.engine l.engine
    × (length l.samples ≡ length l.fn.samples)
    × ((rounds : ℕ) → IsUnderway rounds 0 l.fn.engine → IsUnderway rounds l.c l.engine × BlocksSoFar l.fn.engine rounds l.c l.samples)
    × ((rounds n : ℕ) → IsUnderway rounds 0 l.fn.engine → IsAtRound (suc n) l.fn.engine → IsAtTurn l.c n l.engine)
