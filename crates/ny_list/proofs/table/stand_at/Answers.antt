use Rattle.std.proofs.Common.{arith}
use Rattle.ny_list.proofs.RunLemmas.{stands_few}
use Rattle.ny_list.proofs.table.stand_at.Goals as goal

pub overflow_cast-result : goal.overflow_cast-result
overflow_cast-result c =
    let t = c.args.table.now in
    let x = c.get.result.now in
    omega (arith, c.stand_in.ensures, stands_few t.block x.span.len c.args.place c.requires.table.some (c.requires.table.lists c.args.list x c.get.ensures.value).short c.ranges.place.fits)
