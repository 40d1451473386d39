use Rattle.std.proofs.Common.{arith, pos}
use Rattle.ny_num.specs.Numbers.{sample_abs}
use Rattle.ny_num.proofs.WrittenLists.{by_items}
use Rattle.ny_kernels.proofs.sides.absolute.Goals as goal

pub returns : goal.returns
returns c = by_items sample_abs c.args.a.now c.loop-n.out c.loop-n.n (pos 0) (omega arith) (omega arith) c.loop-n.invariant
