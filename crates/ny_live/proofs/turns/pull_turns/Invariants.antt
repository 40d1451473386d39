use Rattle.std.proofs.Common.{[], ◌-◌, length}
use Rattle.ny_live.specs.Told.{IsTold}
use Rattle.ny_live.proofs.ToldLemmas.{Quiet, rounds_of}
use Rattle.ny_live.proofs.turns.pull_turns.Given as goal

-- the rounds so far were made
abbrev pub invariant-loop-n : goal.invariant-loop-n
invariant-loop-n g l =
    Quiet l.fn.engine l.engine (length l.fn.out) (length l.out) (g.H.Host.state l.fn.host) (g.H.Host.state l.host)
    × IsTold l.fn.kinds l.fn.turns [] (rounds_of l.fn.engine - l.n) l.fn.engine l.engine (g.H.Host.state l.fn.host) (g.H.Host.state l.host)
