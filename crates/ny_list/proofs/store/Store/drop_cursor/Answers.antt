use Rattle.std.proofs.Common.{ap, is_some}
use Rattle.ny_list.proofs.StandLemmas.{stands, can_from, some_from, dropped_seen}
use Rattle.ny_list.proofs.LawLemmas.{store_laws}
use Rattle.ny_list.proofs.store.Store.drop_cursor.Goals as goal
use Rattle.ny_list.proofs.MoveLemmas.{IsStore-changed}

pub stand_at-number-requires-clause-there : goal.stand_at-number-requires-clause-there
stand_at-number-requires-clause-there c = ap is_some (stands c.self.inside.table c.c.inside.list.0 c.c.inside.place c.c.inside.visible c.c.inside.tag c.args.self.now c.args.c c.self.invariant.table c.self.view_is c.c.view_is c.requires.stands).there

pub remove_cursor-requires-clause-from : goal.remove_cursor-requires-clause-from
remove_cursor-requires-clause-from c = can_from c.self.inside.table c.c.inside.list.0 c.c.inside.place c.stand_at-number.result (stands c.self.inside.table c.c.inside.list.0 c.c.inside.place c.c.inside.visible c.c.inside.tag c.args.self.now c.args.c c.self.invariant.table c.self.view_is c.c.view_is c.requires.stands) c.stand_at-number.ensures

pub remove_cursor-requires-clause-stands : goal.remove_cursor-requires-clause-stands
remove_cursor-requires-clause-stands c = some_from c.self.inside.table c.c.inside.list.0 c.c.inside.place c.stand_at-number.result (stands c.self.inside.table c.c.inside.list.0 c.c.inside.place c.c.inside.visible c.c.inside.tag c.args.self.now c.args.c c.self.invariant.table c.self.view_is c.c.view_is c.requires.stands) c.stand_at-number.ensures

pub invariant_of-self : goal.invariant_of-self
invariant_of-self c = let d = c.remove_cursor.ensures in IsStore-changed c.self.inside.table c.remove_cursor.new.table c.c.inside.list.0 _ d.was d.now c.self.invariant d.changes d.settled

pub returns-clause-dropped : goal.returns-clause-dropped
returns-clause-dropped c = dropped_seen c.self.inside.table c.remove_cursor.new.table c.c.inside.list.0 c.c.inside.place c.c.inside.visible c.c.inside.tag c.stand_at-number.result c.args.self.now c.args.c c.self.view_is c.c.view_is c.stand_at-number.ensures c.remove_cursor.ensures

pub returns-clause-laws : goal.returns-clause-laws
returns-clause-laws c = store_laws _ (invariant_of-self c)
