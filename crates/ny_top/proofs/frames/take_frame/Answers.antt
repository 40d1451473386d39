use Rattle.std.proofs.Common.{arith, pos}
use Rattle.ny_num.proofs.WrittenLists.{by_places}
use Rattle.ny_top.proofs.frames.take_frame.Goals as goal

pub returns : goal.returns
returns c = by_places _ c.loop-c.frame _ c.loop-c.c (pos 0) (omega arith) (omega arith) c.loop-c.invariant
