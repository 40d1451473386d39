use Rattle.std.proofs.Common.{◌+◌, subst}
use Rattle.ny_list.specs.Table.{IsIdle, GivesTo}
use Rattle.ny_list.proofs.StateLemmas.{some_entry}
use Rattle.ny_list.proofs.SettleLemmas.{given_none, given_more, given_settles, less_kept}
use Rattle.ny_list.proofs.table.settle.Goals as goal

pub loop-table-init : goal.loop-table-init
loop-table-init c = let x = some_entry c.args.table.now c.args.list c.requires.there in (x.0.span.gone, given_none c.args.table.now c.args.list x.0 c.requires.table x.1)

pub loop-table-smaller : goal.loop-table-smaller
loop-table-smaller c =
    let g = c.loop-table.invariant.1 in
    let idle = subst (IsIdle c.loop-table.table c.args.list g.now) c.loop-table-test.true (c.is_idle.ensures g.now g.changes.after) in
    less_kept c.loop-table.table c.give_first.new.table c.args.list g.now g.changes.after idle.0 (c.give_first.ensures g.now g.changes.after)

pub loop-table-preserved : goal.loop-table-preserved
loop-table-preserved c =
    let n = c.loop-table.invariant.0 in
    let g = c.loop-table.invariant.1 in (
      n + 1,
      given_more c.args.table.now c.loop-table.table c.give_first.new.table c.args.list n g
          (subst (λ k. GivesTo c.loop-table.table c.give_first.new.table c.args.list (k + 1)) g.gone (c.give_first.ensures g.now g.changes.after)),
    )

pub returns : goal.returns
returns c =
    let g = c.loop-table.invariant.1 in
    given_settles c.args.table.now c.loop-table.table c.args.list c.loop-table.invariant.0 g
    (subst (IsIdle c.loop-table.table c.args.list g.now) c.loop-table-test.false (c.is_idle.ensures g.now g.changes.after))
