use Rattle.ny_list.proofs.StandLemmas.{can_append, loose_seen, appended_seen, IsStore-added}
use Rattle.ny_list.proofs.LawLemmas.{store_laws}
use Rattle.ny_list.proofs.store.Store.append_block.Goals as goal

pub add_block-requires-clause-can : goal.add_block-requires-clause-can
add_block-requires-clause-can c = (can_append c.self.inside.table c.l.inside.slot.0 c.args.b.0 c.args.self.now c.args.l.now c.self.invariant.table c.self.view_is c.l.view_is c.requires.loose c.requires.unfilled)

pub invariant_of-self : goal.invariant_of-self
invariant_of-self c = let can = (can_append c.self.inside.table c.l.inside.slot.0 c.args.b.0 c.args.self.now c.args.l.now c.self.invariant.table c.self.view_is c.l.view_is c.requires.loose c.requires.unfilled) in IsStore-added c.self.inside.table c.add_block.new.table c.l.inside.slot.0 c.args.b.0 can.samples c.self.invariant (c.add_block.ensures can.samples can.holds)

pub returns-clause-appended : goal.returns-clause-appended
returns-clause-appended c = λ samples there.
    let t = c.self.inside.table in
    let can = (can_append c.self.inside.table c.l.inside.slot.0 c.args.b.0 c.args.self.now c.args.l.now c.self.invariant.table c.self.view_is c.l.view_is c.requires.loose c.requires.unfilled) in
    appended_seen t c.add_block.new.table c.l.inside.slot.0 c.args.b.0 c.args.l.now samples can.samples c.args.self.now c.self.view_is c.l.view_is (loose_seen t c.args.b.0 can.samples can.loose can.holds) there (c.add_block.ensures can.samples can.holds)

pub returns-clause-laws : goal.returns-clause-laws
returns-clause-laws c = store_laws _ (invariant_of-self c)
