use Rattle.ny_heap.proofs.GoingLemmas.{settling_stays, Settles-stays}
use Rattle.ny_heap.proofs.settling.settle.Goals as goal

pub returns-in-Stay-clause-settling : goal.returns-in-Stay-clause-settling
returns-in-Stay-clause-settling c = settling_stays c.args.table.now c.args.u c.args.i c.requires.settling

pub returns-in-Stay-clause-settles : goal.returns-in-Stay-clause-settles
returns-in-Stay-clause-settles c =
    let s = c.requires.settling in
    Settles-stays c.args.table.now c.args.u c.args.i s.unit s.there (c.in-Stay.ensures s.unit s.there)
