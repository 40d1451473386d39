use Rattle.std.proofs.Common.{◌∙◌, sym}
use Rattle.ny_heap.proofs.NextLemmas.{inside_of}
use Rattle.ny_heap.proofs.SettleLemmas.{taken, dropped_settling, dropped_settles}
use Rattle.ny_heap.proofs.settling.forget.Goals as goal

pub drop_reader-requires : goal.drop_reader-requires
drop_reader-requires c =
    let s = c.requires.settling in
    taken c.args.table.now c.take_input.new.table c.args.u c.args.i s.unit c.unwrap-c.result s s.there (inside_of c.args.table.now c.args.u c.args.i s.unit c.requires.inside s.there)
    (sym (c.take_input.ensures.cursor s.unit s.there) ∙ c.unwrap-c.ensures) (c.take_input.ensures.taken s.unit s.there)

pub returns-clause-settling : goal.returns-clause-settling
returns-clause-settling c =
    let s = c.requires.settling in
    dropped_settling c.args.table.now c.take_input.new.table c.args.u c.args.i s.unit c.unwrap-c.result s s.there (inside_of c.args.table.now c.args.u c.args.i s.unit c.requires.inside s.there)
    (sym (c.take_input.ensures.cursor s.unit s.there) ∙ c.unwrap-c.ensures) (c.take_input.ensures.taken s.unit s.there) c.drop_reader.new.table c.drop_reader.ensures

pub returns-clause-settles : goal.returns-clause-settles
returns-clause-settles c =
    let s = c.requires.settling in
    let next = c.requires.drops s.unit s.there in
    dropped_settles c.args.table.now c.take_input.new.table c.args.u c.args.i s.unit c.unwrap-c.result s s.there (inside_of c.args.table.now c.args.u c.args.i s.unit c.requires.inside s.there)
    (sym (c.take_input.ensures.cursor s.unit s.there) ∙ c.unwrap-c.ensures) (c.take_input.ensures.taken s.unit s.there) c.drop_reader.new.table c.drop_reader.ensures next.2
