use Rattle.std.proofs.Common.{◌≡◌, ◌-◌, ◌/◌, ◌%◌, ◌*◌, ◌<◌, ◌≤◌, take, drop, Some, sym, ap, subst, ◌∙◌}
use Rattle.ny_list.specs.declared.table.Entry.{Entry}
use Rattle.ny_list.specs.Table.{run_of_list}
use Rattle.ny_list.proofs.SettleLemmas.{same_entry}
use Rattle.ny_list.proofs.RunLemmas.{run_unfilled, run_past, run_kept}
use Rattle.ny_list.proofs.table.run_in.Goals as goal

pub returns-then-number-span : goal.returns-then-number-span
returns-then-number-span c = λ z is.
    let t = c.args.table.now in
    let x = c.get.result.now in
    subst (λ (q : Entry). Rattle.std.proofs.Common.[] ≡ run_of_list t c.args.list q c.args.from c.args.visible) (same_entry t c.args.list x z c.get.ensures.value is)
    (sym (run_unfilled t c.args.list x c.args.from c.args.visible c.if-number-span.true))

pub returns-then-from-span : goal.returns-then-from-span
returns-then-from-span c = λ z is.
    let t = c.args.table.now in
    let x = c.get.result.now in
    subst (λ (q : Entry). Rattle.std.proofs.Common.[] ≡ run_of_list t c.args.list q c.args.from c.args.visible) (same_entry t c.args.list x z c.get.ensures.value is)
    (sym (run_past t c.args.list x c.args.from c.args.visible c.if-number-span.false c.if-from-span.true))

pub returns : goal.returns
returns c = λ z is.
    let t = c.args.table.now in
    let x = c.get.result.now in
    subst (λ (q : Entry). c.part.result.now ≡ run_of_list t c.args.list q c.args.from c.args.visible) (same_entry t c.args.list x z c.get.ensures.value is)
    (c.part.ensures ∙ ap (λ n. take n (drop (c.args.from % t.block) (take (x.span.len - c.args.from / t.block * t.block) c.slice.result.now))) c.saturating_sub.ensures
    ∙ run_kept t c.args.list c.find-at.result x c.args.from c.args.visible c.slice.result.now c.requires.table c.if-number-span.false c.find-at.ensures c.slice.ensures.items)
