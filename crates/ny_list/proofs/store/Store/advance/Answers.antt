use Rattle.std.proofs.Common.{ap, is_some, arith}
use Rattle.ny_list.proofs.StandLemmas.{stands, reaches, place_few, can_from, can_to, some_from, moved_seen}
use Rattle.ny_list.proofs.LawLemmas.{store_laws}
use Rattle.ny_list.proofs.store.Store.advance.Goals as goal
use Rattle.ny_list.proofs.MoveLemmas.{IsStore-changed}

pub overflow_add-place : goal.overflow_add-place
overflow_add-place c = omega (arith, place_few c.self.inside.table c.c.inside.list.0 c.c.inside.place c.args.n c.self.invariant.table (reaches c.self.inside.table c.c.inside.list.0 c.c.inside.place c.c.inside.visible c.c.inside.tag c.args.n c.args.self.now c.args.c.now c.self.view_is c.c.view_is c.requires.computed))

pub stand_at-from-requires-clause-there : goal.stand_at-from-requires-clause-there
stand_at-from-requires-clause-there c = ap is_some (stands c.self.inside.table c.c.inside.list.0 c.c.inside.place c.c.inside.visible c.c.inside.tag c.args.self.now c.args.c.now c.self.invariant.table c.self.view_is c.c.view_is c.requires.stands).there

pub stand_at-to-requires-clause-there : goal.stand_at-to-requires-clause-there
stand_at-to-requires-clause-there c = ap is_some (stands c.self.inside.table c.c.inside.list.0 c.c.inside.place c.c.inside.visible c.c.inside.tag c.args.self.now c.args.c.now c.self.invariant.table c.self.view_is c.c.view_is c.requires.stands).there

pub move_cursor-c-inside-requires-clause-from : goal.move_cursor-c-inside-requires-clause-from
move_cursor-c-inside-requires-clause-from c = can_from c.self.inside.table c.c.inside.list.0 c.c.inside.place c.stand_at-from.result (stands c.self.inside.table c.c.inside.list.0 c.c.inside.place c.c.inside.visible c.c.inside.tag c.args.self.now c.args.c.now c.self.invariant.table c.self.view_is c.c.view_is c.requires.stands) c.stand_at-from.ensures

pub move_cursor-c-inside-requires-clause-stands : goal.move_cursor-c-inside-requires-clause-stands
move_cursor-c-inside-requires-clause-stands c = some_from c.self.inside.table c.c.inside.list.0 c.c.inside.place c.stand_at-from.result (stands c.self.inside.table c.c.inside.list.0 c.c.inside.place c.c.inside.visible c.c.inside.tag c.args.self.now c.args.c.now c.self.invariant.table c.self.view_is c.c.view_is c.requires.stands) c.stand_at-from.ensures

pub move_cursor-c-inside-requires-clause-to : goal.move_cursor-c-inside-requires-clause-to
move_cursor-c-inside-requires-clause-to c = can_to c.self.inside.table c.c.inside.list.0 c.c.inside.place c.args.n c.stand_at-to.result c.self.invariant.table (stands c.self.inside.table c.c.inside.list.0 c.c.inside.place c.c.inside.visible c.c.inside.tag c.args.self.now c.args.c.now c.self.invariant.table c.self.view_is c.c.view_is c.requires.stands) (reaches c.self.inside.table c.c.inside.list.0 c.c.inside.place c.c.inside.visible c.c.inside.tag c.args.n c.args.self.now c.args.c.now c.self.view_is c.c.view_is c.requires.computed) c.stand_at-to.ensures

pub invariant_of-self : goal.invariant_of-self
invariant_of-self c = let d = c.move_cursor-c-inside.ensures in IsStore-changed c.self.inside.table c.move_cursor-c-inside.new.table c.c.inside.list.0 _ d.was d.now c.self.invariant d.changes d.settled

pub returns-clause-moved : goal.returns-clause-moved
returns-clause-moved c = moved_seen c.self.inside.table c.move_cursor-c-inside.new.table c.c.inside.list.0 c.c.inside.place c.c.inside.visible c.c.inside.tag c.args.n c.stand_at-from.result c.stand_at-to.result c.args.self.now c.args.c.now c.self.view_is c.c.view_is c.stand_at-from.ensures c.stand_at-to.ensures c.move_cursor-c-inside.ensures

pub returns-clause-laws : goal.returns-clause-laws
returns-clause-laws c = store_laws _ (invariant_of-self c)
