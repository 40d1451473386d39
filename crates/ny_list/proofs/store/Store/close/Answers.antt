use Rattle.ny_list.proofs.StoreLemmas.{IsStore-ended, ended_seen, entry_there, cursors_told}
use Rattle.ny_list.proofs.LawLemmas.{store_laws}
use Rattle.ny_list.proofs.store.Store.close.Goals as goal

pub remove-requires : goal.remove-requires
remove-requires c = record { holds = entry_there c.self.inside.table c.l.inside.slot.0 c.args.self.now c.args.l c.self.view_is c.l.view_is c.requires.there }

pub invariant_of-self : goal.invariant_of-self
invariant_of-self c =
    let t = c.self.inside.table in
    let l = c.l.inside.slot.0 in
    let x = c.remove.result in
    let none = cursors_told t l c.args.self.now c.args.l x c.self.invariant.table c.self.view_is c.l.view_is c.remove.ensures.value c.requires.unread in
    IsStore-ended t l x c.self.invariant c.remove.ensures.value none c.remove.new.self c.remove.ensures.removed

pub returns-clause-closed : goal.returns-clause-closed
returns-clause-closed c =
    let t = c.self.inside.table in
    let l = c.l.inside.slot.0 in
    let x = c.remove.result in
    let none = cursors_told t l c.args.self.now c.args.l x c.self.invariant.table c.self.view_is c.l.view_is c.remove.ensures.value c.requires.unread in
    ended_seen t l x c.self.invariant c.remove.ensures.value none c.remove.new.self c.args.self.now c.args.l c.remove.ensures.removed c.self.view_is c.l.view_is

pub returns-clause-laws : goal.returns-clause-laws
returns-clause-laws c = store_laws _ (invariant_of-self c)
