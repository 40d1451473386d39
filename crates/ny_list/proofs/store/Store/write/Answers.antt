use Rattle.ny_list.proofs.StoreLemmas.{loose_there, IsStore-written, written_seen}
use Rattle.ny_list.proofs.LawLemmas.{store_laws}
use Rattle.ny_list.proofs.store.Store.write.Goals as goal

pub copy_from-requires-clause-taken : goal.copy_from-requires-clause-taken
copy_from-requires-clause-taken c = (loose_there c.self.inside.table c.args.b.0 c.args.self.now c.self.view_is c.requires.loose).taken

pub invariant_of-self : goal.invariant_of-self
invariant_of-self c = IsStore-written c.self.inside.table c.args.b.0 c.args.from.now c.copy_from.new.self c.args.self.now c.self.invariant c.self.view_is c.requires.loose c.requires.whole c.copy_from.ensures.written

pub returns-clause-written : goal.returns-clause-written
returns-clause-written c = written_seen c.self.inside.table c.args.b.0 c.args.from.now c.copy_from.new.self c.args.self.now c.self.invariant c.self.view_is c.requires.loose c.requires.whole c.copy_from.ensures.written

pub returns-clause-laws : goal.returns-clause-laws
returns-clause-laws c = store_laws _ (invariant_of-self c)
