use Rattle.std.proofs.Common.{◌≡◌, ◌-◌, refl, sym, ap, subst, ◌∙◌, arith}
use Rattle.ny_list.specs.declared.table.Entry.{Entry}
use Rattle.ny_list.specs.Table.{Leaves, mark_of}
use Rattle.ny_list.proofs.IndexLemmas.{same_some}
use Rattle.ny_list.proofs.StateLemmas.{mark_end}
use Rattle.ny_list.proofs.CursorLemmas.{end_recounted, block_recounted, left_by, mark_few, mark_read, can_stand}
use Rattle.ny_list.proofs.table.leave.Goals as goal

pub overflow_sub-entry : goal.overflow_sub-entry
overflow_sub-entry c =
    let t = c.args.table.now in
    let x = c.get_mut-entry.result.now in
    let at = c.get_mut-entry.ensures.value in
    let e : x.span.filled ≡ c.args.number = ap (λ (q : Entry). q.span.filled) (same_some (sym at ∙ c.get.ensures.value)) ∙ omega (arith, c.if-number-span.true) in
    omega (arith, mark_end t c.requires.table c.args.list x, ap (mark_of t c.args.list x) e, c.requires.stands x at)

pub returns-then-number-span : goal.returns-then-number-span
returns-then-number-span c =
    let t = c.args.table.now in
    let x = c.get_mut-entry.result.now in
    let at = c.get_mut-entry.ensures.value in
    let e : x.span.filled ≡ c.args.number = ap (λ (q : Entry). q.span.filled) (same_some (sym at ∙ c.get.ensures.value)) ∙ omega (arith, c.if-number-span.true) in
    subst (Leaves t _ c.args.list) e
    (left_by t _ c.args.list x.span.filled x.waiting x _ c.requires.table at (end_recounted t c.args.list (x.waiting - 1) (x.cursors - 1) x c.requires.table at)
    (sym (mark_end t c.requires.table c.args.list x)) (omega arith) (omega (arith, mark_end t c.requires.table c.args.list x, ap (mark_of t c.args.list x) e, c.requires.stands x at)) refl)

pub overflow_sub-index_mut : goal.overflow_sub-index_mut
overflow_sub-index_mut c =
    let t = c.args.table.now in
    let x = c.get.result.now in
    let at = c.get.ensures.value in
    omega (arith, mark_read t c.args.list c.args.number c.find-at.result c.index_mut.result.now x c.requires.table at c.find-at.ensures c.index_mut.ensures.value, c.requires.stands x at)

pub returns : goal.returns
returns c =
    let t = c.args.table.now in
    let x = c.get_mut.result.now in
    let at = c.get_mut.ensures.value in
    let read = mark_read t c.args.list c.args.number c.find-at.result c.index_mut.result.now x c.requires.table at c.find-at.ensures c.index_mut.ensures.value in
    left_by t _ c.args.list c.args.number c.index_mut.result.now x _ c.requires.table at
    (block_recounted t c.args.list c.args.number c.find-at.result (c.index_mut.result.now - 1) (x.cursors - 1) x c.requires.table at c.find-at.ensures)
    read (can_stand t c.args.list c.args.number x c.requires.can at).1 (omega (arith, read, c.requires.stands x at)) refl

pub overflow_sub-entry-then-number-span : goal.overflow_sub-entry-then-number-span
overflow_sub-entry-then-number-span c =
    let t = c.args.table.now in
    let x = c.get_mut-entry.result.now in
    let at = c.get_mut-entry.ensures.value in
    let e : x.span.filled ≡ c.args.number = ap (λ (q : Entry). q.span.filled) (same_some (sym at ∙ c.get.ensures.value)) ∙ omega (arith, c.if-number-span.true) in
    omega (arith, e, mark_few t c.args.list x c.args.number c.requires.table at (omega (arith, e)), c.requires.stands x at)

pub overflow_sub-get_mut : goal.overflow_sub-get_mut
overflow_sub-get_mut c =
    let t = c.args.table.now in
    let x = c.get_mut.result.now in
    let at = c.get_mut.ensures.value in
    omega (arith, mark_few t c.args.list x c.args.number c.requires.table at (can_stand t c.args.list c.args.number x c.requires.can at).1, c.requires.stands x at)
