use Rattle.ny_top.proofs.RoundLemmas.{still_gathered}
use Rattle.ny_top.proofs.frames.make_room.Goals as goal

pub returns-else-as_slice-buffers-clause-whole : goal.returns-else-as_slice-buffers-clause-whole
returns-else-as_slice-buffers-clause-whole g c = still_gathered c.args.buffers.now (g.H.Host.state c.args.host.now)
