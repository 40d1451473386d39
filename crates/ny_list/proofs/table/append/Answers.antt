use Rattle.std.proofs.Common.{◌≡◌, ◌<◌, ℕ, Some, sym, ap, subst, ◌∙◌, arith}
use Rattle.ny_list.specs.declared.table.Entry.{Entry}
use Rattle.ny_list.specs.declared.table.Table.{Table}
use Rattle.ny_list.specs.Store.{blocks_of}
use Rattle.ny_list.specs.Table.{entry_at, CanAppend}
use Rattle.ny_list.proofs.IndexLemmas.{same_some}
use Rattle.ny_list.proofs.StateLemmas.{blocks_few}
use Rattle.ny_list.proofs.AppendLemmas.{leads_from, appended}
use Rattle.ny_list.proofs.table.append.Goals as goal

-- what is known of the list that was read
unfilled : (t : Table) (l b : ℕ) (x : Entry) → CanAppend t l b → entry_at t l ≡ Some x → x.span.filled < blocks_of t.block x.span.len
unfilled t l b x can at = subst (λ (q : Entry). q.span.filled < blocks_of t.block q.span.len) (same_some (sym can.there ∙ at)) can.unfilled

pub extended-entry-requires : goal.extended-entry-requires
extended-entry-requires c =
    let t = c.args.table.now in
    let x = c.get_mut-entry.result.now in
    let at = c.get_mut-entry.ensures.value in
    omega (arith, unfilled t c.args.list c.args.b x c.requires.can at, blocks_few t.block x.span.len c.requires.table.some, (c.requires.table.lists c.args.list x at).short)

pub lead-requires : goal.lead-requires
lead-requires c = λ more. rw c.as_mut_slice.ensures.value (leads_from c.args.table.now c.args.list c.get_mut-entry.result.now c.requires.table c.get_mut-entry.ensures.value more)

pub returns : goal.returns
returns c = λ samples holds.
    let t = c.args.table.now in
    let x = c.get_mut-entry.result.now in
    let at = c.get_mut-entry.ensures.value in
    appended t c.args.list c.args.b samples x c.extended-entry.result c.lead.new.links c.requires.table at (unfilled t c.args.list c.args.b x c.requires.can at) c.requires.can.loose holds c.extended-entry.ensures
    (c.lead.ensures ∙ ap (Rattle.ny_list.specs.Chain.with_next x.span c.args.b) c.as_mut_slice.ensures.value)
