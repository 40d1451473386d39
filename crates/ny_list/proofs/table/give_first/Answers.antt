use Rattle.std.proofs.Common.{ap, ◌∙◌, arith}
use Rattle.ny_list.specs.Chain.{next_at}
use Rattle.ny_list.proofs.GiveLemmas.{gives_first, first_there}
use Rattle.ny_list.proofs.StateLemmas.{blocks_few}
use Rattle.ny_list.proofs.table.give_first.Goals as goal

pub next_of-next-requires : goal.next_of-next-requires
next_of-next-requires c =
    let x = c.get_mut-entry.result.now in
    let at = c.get_mut-entry.ensures.value in
    rw c.as_slice.ensures.value ((first_there c.args.table.now c.args.list x c.requires.table at (c.requires.idle x at).0).0)

pub overflow_add-entry : goal.overflow_add-entry
overflow_add-entry c =
    let x = c.get_mut-entry.result.now in
    let at = c.get_mut-entry.ensures.value in
    let e = c.requires.table.lists c.args.list x at in
    omega (arith, (c.requires.idle x at).0, e.filled, blocks_few c.args.table.now.block x.span.len c.requires.table.some, e.short)

pub index_mut-requires : goal.index_mut-requires
index_mut-requires c =
    let x = c.get_mut-entry.result.now in
    let at = c.get_mut-entry.ensures.value in
    omega (arith, (first_there c.args.table.now c.args.list x c.requires.table at (c.requires.idle x at).0).1, c.args.table.now.links.ok.0)

pub give-requires : goal.give-requires
give-requires c =
    let x = c.get_mut-entry.result.now in
    let at = c.get_mut-entry.ensures.value in
    record { taken = c.requires.table.taken x.span.first (first_there c.args.table.now c.args.list x c.requires.table at (c.requires.idle x at).0).0 }

pub returns : goal.returns
returns c = λ z is.
    let t = c.args.table.now in
    let x = c.get_mut-entry.result.now in
    let at = c.get_mut-entry.ensures.value in
    let next = c.next_of-next.ensures ∙ ap (λ links. next_at links x.span.first) c.as_slice.ensures.value in
    gives_first t c.args.list x z c.next_of-next.result c.give.new.self c.requires.table at (c.requires.idle x at) next c.give.ensures.given c.give.ensures.free is
