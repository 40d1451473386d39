use Rattle.ny_list.proofs.StoreLemmas.{IsStore-reserved, room_seen, more_seen}
use Rattle.ny_list.proofs.LawLemmas.{store_laws}
use Rattle.ny_list.proofs.store.Store.reserve_list.Goals as goal

pub invariant_of-self : goal.invariant_of-self
invariant_of-self c = IsStore-reserved c.self.inside.table c.reserve.new.self c.reserve.result c.self.invariant c.reserve.ensures.more c.reserve.ensures.refused

pub returns-clause-room : goal.returns-clause-room
returns-clause-room c = room_seen c.self.inside.table c.reserve.new.self c.reserve.result c.reserve.ensures.room

pub returns-clause-more : goal.returns-clause-more
returns-clause-more c = more_seen c.self.inside.table c.reserve.new.self c.reserve.result c.args.self.now c.self.view_is c.reserve.ensures.more

pub returns-clause-laws : goal.returns-clause-laws
returns-clause-laws c = store_laws _ (invariant_of-self c)
