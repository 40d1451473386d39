use Rattle.std.proofs.Common.{ℕ, suc, [], drop, length}
use Rattle.ny_io.specs.Host.{HostState}
use Rattle.ny_pull.specs.Engine.{EngineState}
use Rattle.ny_live.specs.Told.{IsTold}
use Rattle.ny_live.proofs.ToldLemmas.{Quiet}
use Rattle.ny_live.proofs.turns.pull_round.Given as goal

-- the turns so far were made
abbrev pub invariant-loop-i : goal.invariant-loop-i
invariant-loop-i g l =
    Quiet l.fn.engine l.engine (length l.fn.out) (length l.out) (g.H.Host.state l.fn.host) (g.H.Host.state l.host)
    × ((n : ℕ) (start : EngineState) (old : HostState) → IsTold l.fn.kinds l.fn.turns [] (suc n) start l.fn.engine old (g.H.Host.state l.fn.host)
    → IsTold l.fn.kinds l.fn.turns (drop l.i l.fn.turns) n start l.engine old (g.H.Host.state l.host))
