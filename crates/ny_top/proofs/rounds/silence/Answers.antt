use Rattle.std.proofs.Common.{arith, pos}
use Rattle.ny_num.proofs.WrittenLists.{by_places}
use Rattle.ny_top.proofs.rounds.silence.Goals as goal

pub returns : goal.returns
returns c = by_places _ c.loop-n.out _ c.loop-n.n (pos 0) (omega arith) (omega arith) c.loop-n.invariant
