use Rattle.std.proofs.Common.{arith}
use Rattle.ny_list.proofs.GiveLemmas.{first_there}
use Rattle.ny_list.proofs.SettleLemmas.{idle_test}
use Rattle.ny_list.proofs.table.is_idle.Goals as goal

pub index-requires : goal.index-requires
index-requires c =
    let t = c.args.table.now in
    omega (arith, (first_there t c.args.list c.get.result.now c.requires.table c.get.ensures.value c.if-span.true).1, t.counts.ok.0, c.requires.table.links, c.requires.table.counts)

pub returns-then-span : goal.returns-then-span
returns-then-span c = λ z is. idle_test c.args.table.now c.args.list c.index.result.now c.get.result.now z c.requires.table c.get.ensures.value c.if-span.true c.index.ensures is
