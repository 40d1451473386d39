use Rattle.ny_list.proofs.LooseLemmas.{IsStore-taken, takes_shown, none_shown}
use Rattle.ny_list.proofs.LawLemmas.{store_laws}
use Rattle.ny_list.proofs.store.Store.take.Goals as goal

pub invariant_of-self : goal.invariant_of-self
invariant_of-self c = IsStore-taken c.self.inside.table c.take.result c.take.new.self c.self.invariant c.take.ensures.taken c.take.ensures.unchanged

pub returns-clause-none : goal.returns-clause-none
returns-clause-none c = none_shown c.self.inside.table c.take.result c.args.self.now c.self.invariant c.self.view_is c.take.ensures.none

pub returns-clause-taken : goal.returns-clause-taken
returns-clause-taken c = takes_shown c.self.inside.table c.take.result c.take.new.self c.args.self.now c.self.invariant c.self.view_is c.take.ensures.taken

pub returns-clause-laws : goal.returns-clause-laws
returns-clause-laws c = store_laws _ (invariant_of-self c)
