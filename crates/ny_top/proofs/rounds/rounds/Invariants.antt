use Rattle.std.proofs.Common.{length, ◌-◌}
use Rattle.ny_top.specs.Frames.{HasRoom}
use Rattle.ny_top.specs.Rounds.{IsAtRound}
use Rattle.ny_top.proofs.RoundLemmas.{RoundsSoFar, rounds_of}
use Rattle.ny_top.proofs.rounds.rounds.Given as goal

-- the frames of the rounds so far are written or gathered
abbrev pub invariant-loop-n : goal.invariant-loop-n
invariant-loop-n g l =
    RoundsSoFar l.fn.engine l.engine l.n l.buffers (g.H.Host.state l.fn.host) (g.H.Host.state l.host) l.file
    × HasRoom (length l.fn.engine.channels) l.fn.engine.heap.block l.buffers
    × IsAtRound (rounds_of l.fn.engine - l.n) l.engine
