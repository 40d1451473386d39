use Rattle.ny_list.proofs.StoreLemmas.{entry_there, kept_told}
use Rattle.ny_list.proofs.store.Store.kept.Goals as goal

pub get-requires : goal.get-requires
get-requires c = record { holds = (entry_there c.self.inside.table c.l.inside.slot.0 c.args.self.now c.args.l.now c.self.view_is c.l.view_is c.requires.there) }

pub overflow_sub-result : goal.overflow_sub-result
overflow_sub-result c = (c.self.invariant.table.lists c.l.inside.slot.0 c.get.result.now c.get.ensures.value).order

pub returns : goal.returns
returns c = record { kept = λ x is. kept_told c.self.inside.table c.l.inside.slot.0 c.args.self.now c.args.l.now c.get.result.now x c.self.invariant c.self.view_is c.l.view_is c.get.ensures.value is }
