use Rattle.std.proofs.Common.{refl, ap, arith}
use Rattle.ny_list.proofs.StoreLemmas.{IsStore-begun, begins_seen, spare_seen}
use Rattle.ny_list.specs.Store.{spare_of}
use Rattle.ny_list.proofs.LawLemmas.{store_laws}
use Rattle.ny_list.proofs.store.Store.new_list.Goals as goal

pub insert-slot-requires : goal.insert-slot-requires
insert-slot-requires c = record { room = omega (arith, c.requires.room, spare_seen c.self.inside.table, ap spare_of c.self.view_is) }

pub invariant_of-self : goal.invariant_of-self
invariant_of-self c = IsStore-begun c.self.inside.table c.insert-slot.result.0 c.args.len c.args.tag c.insert-slot.new.self c.self.invariant c.insert-slot.ensures.within c.insert-slot.ensures.vacant c.ranges.len.fits c.ranges.tag.fits c.insert-slot.ensures.inserted

pub returns-clause-begins : goal.returns-clause-begins
returns-clause-begins c = begins_seen c.self.inside.table c.insert-slot.result.0 c.args.len c.args.tag c.insert-slot.new.self c.args.self.now c.insert-slot.result.0 _ c.self.invariant c.insert-slot.ensures.within c.insert-slot.ensures.vacant c.ranges.len.fits c.ranges.tag.fits c.insert-slot.ensures.inserted c.self.view_is refl refl

pub returns-clause-laws : goal.returns-clause-laws
returns-clause-laws c = store_laws _ (invariant_of-self c)
