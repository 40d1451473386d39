use Rattle.std.proofs.Common.{◌≡◌, ◌+◌, refl, sym, ap, subst, ◌∙◌, arith}
use Rattle.ny_list.specs.declared.table.Entry.{Entry}
use Rattle.ny_list.specs.Table.{Enters}
use Rattle.ny_list.proofs.IndexLemmas.{same_some}
use Rattle.ny_list.proofs.StateLemmas.{mark_end}
use Rattle.ny_list.proofs.CursorLemmas.{end_recounted, block_recounted, entered_by, mark_few, mark_read, can_stand}
use Rattle.ny_list.proofs.table.enter.Goals as goal

pub overflow_add-entry : goal.overflow_add-entry
overflow_add-entry c =
    let t = c.args.table.now in
    let x = c.get_mut-entry.result.now in
    let at = c.get_mut-entry.ensures.value in
    omega (arith, mark_end t c.requires.table c.args.list x, mark_few t c.args.list x x.span.filled c.requires.table at (omega arith), c.requires.few x at)

pub returns-then-number-span : goal.returns-then-number-span
returns-then-number-span c =
    let t = c.args.table.now in
    let x = c.get_mut-entry.result.now in
    let at = c.get_mut-entry.ensures.value in
    let e : x.span.filled ≡ c.args.number = ap (λ (q : Entry). q.span.filled) (same_some (sym at ∙ c.get.ensures.value)) ∙ omega (arith, c.if-number-span.true) in
    subst (Enters t _ c.args.list) e
    (entered_by t _ c.args.list x.span.filled x.waiting x _ c.requires.table at (end_recounted t c.args.list (x.waiting + 1) (x.cursors + 1) x c.requires.table at)
    (sym (mark_end t c.requires.table c.args.list x)) (omega arith) refl (c.requires.few x at))

pub overflow_add-index_mut : goal.overflow_add-index_mut
overflow_add-index_mut c =
    let t = c.args.table.now in
    let x = c.get.result.now in
    let at = c.get.ensures.value in
    let few = mark_few t c.args.list x c.args.number c.requires.table at (can_stand t c.args.list c.args.number x c.requires.can at).1 in
    omega (arith, mark_read t c.args.list c.args.number c.find-at.result c.index_mut.result.now x c.requires.table at c.find-at.ensures c.index_mut.ensures.value, few, c.requires.few x at)

pub returns : goal.returns
returns c =
    let t = c.args.table.now in
    let x = c.get_mut.result.now in
    let at = c.get_mut.ensures.value in
    entered_by t _ c.args.list c.args.number c.index_mut.result.now x _ c.requires.table at
    (block_recounted t c.args.list c.args.number c.find-at.result (c.index_mut.result.now + 1) (x.cursors + 1) x c.requires.table at c.find-at.ensures)
    (mark_read t c.args.list c.args.number c.find-at.result c.index_mut.result.now x c.requires.table at c.find-at.ensures c.index_mut.ensures.value)
    (can_stand t c.args.list c.args.number x c.requires.can at).1 refl (c.requires.few x at)
