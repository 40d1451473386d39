use Rattle.std.proofs.Common.{ap, is_some}
use Rattle.ny_list.proofs.StandLemmas.{stands, can_from, few_of, shared, IsStore-entered}
use Rattle.ny_list.proofs.LawLemmas.{store_laws}
use Rattle.ny_list.proofs.store.Store.share.Goals as goal

pub stand_at-number-requires-clause-there : goal.stand_at-number-requires-clause-there
stand_at-number-requires-clause-there c = ap is_some (stands c.self.inside.table c.c.inside.list.0 c.c.inside.place c.c.inside.visible c.c.inside.tag c.args.self.now c.args.c.now c.self.invariant.table c.self.view_is c.c.view_is c.requires.stands).there

pub enter-near-requires-clause-can : goal.enter-near-requires-clause-can
enter-near-requires-clause-can c = can_from c.self.inside.table c.c.inside.list.0 c.c.inside.place c.stand_at-number.result (stands c.self.inside.table c.c.inside.list.0 c.c.inside.place c.c.inside.visible c.c.inside.tag c.args.self.now c.args.c.now c.self.invariant.table c.self.view_is c.c.view_is c.requires.stands) c.stand_at-number.ensures

pub enter-near-requires-clause-few : goal.enter-near-requires-clause-few
enter-near-requires-clause-few c = few_of c.self.inside.table c.c.inside.list.0 c.c.inside.place c.c.inside.visible c.c.inside.tag c.args.self.now c.args.c.now c.self.invariant.table c.self.view_is c.c.view_is c.requires.few

pub invariant_of-self : goal.invariant_of-self
invariant_of-self c = IsStore-entered c.self.inside.table c.enter-near.new.table c.c.inside.list.0 c.stand_at-number.result c.self.invariant (can_from c.self.inside.table c.c.inside.list.0 c.c.inside.place c.stand_at-number.result (stands c.self.inside.table c.c.inside.list.0 c.c.inside.place c.c.inside.visible c.c.inside.tag c.args.self.now c.args.c.now c.self.invariant.table c.self.view_is c.c.view_is c.requires.stands) c.stand_at-number.ensures) c.enter-near.ensures

pub returns-clause-shared : goal.returns-clause-shared
returns-clause-shared c = shared c.self.inside.table c.enter-near.new.table c.c.inside.list.0 c.c.inside.place c.c.inside.visible c.c.inside.tag c.stand_at-number.result c.args.self.now c.args.c.now c.self.view_is c.c.view_is c.stand_at-number.ensures c.enter-near.ensures

pub returns-clause-laws : goal.returns-clause-laws
returns-clause-laws c = store_laws _ (invariant_of-self c)
