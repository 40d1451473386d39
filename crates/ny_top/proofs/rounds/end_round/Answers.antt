use Rattle.ny_top.specs.Frames.{gathered_in}
use Rattle.ny_top.proofs.RoundLemmas.{part_whole}
use Rattle.ny_top.proofs.rounds.end_round.Goals as goal

pub returns-in-Ok-clause-part : goal.returns-in-Ok-clause-part
returns-in-Ok-clause-part g c = part_whole (gathered_in c.args.buffers.now) (g.H.Host.state c.args.host.now) (g.H.Host.state c.flush.new.host) c.in-Ok.ensures.whole
