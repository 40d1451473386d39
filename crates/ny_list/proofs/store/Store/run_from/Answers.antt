use Rattle.std.proofs.Common.{ap, subst, is_some, arith}
use Rattle.ny_list.specs.Laws.{StoreLaws}
use Rattle.ny_list.proofs.LawLemmas.{store_laws}
use Rattle.ny_list.proofs.StandLemmas.{stands, kept_from, run_seen}
use Rattle.ny_list.proofs.store.Store.run_from.Goals as goal

pub run_in-requires-clause-there : goal.run_in-requires-clause-there
run_in-requires-clause-there c = ap is_some (stands c.self.inside.table c.c.inside.list.0 c.c.inside.place c.c.inside.visible c.c.inside.tag c.args.self.now c.args.c.now c.self.invariant.table c.self.view_is c.c.view_is c.requires.stands).there

pub run_in-requires-clause-kept : goal.run_in-requires-clause-kept
run_in-requires-clause-kept c = kept_from c.self.inside.table c.c.inside.list.0 c.c.inside.place c.args.from c.self.invariant.table (stands c.self.inside.table c.c.inside.list.0 c.c.inside.place c.c.inside.visible c.c.inside.tag c.args.self.now c.args.c.now c.self.invariant.table c.self.view_is c.c.view_is c.requires.stands) (omega (arith, c.requires.ahead, ap (λ q. q.place) c.c.view_is))

pub returns-clause-samples : goal.returns-clause-samples
returns-clause-samples c = run_seen c.self.inside.table c.c.inside.list.0 c.c.inside.place c.c.inside.visible c.c.inside.tag c.args.from c.args.self.now c.args.c.now c.run_in.result.now c.self.view_is c.c.view_is (stands c.self.inside.table c.c.inside.list.0 c.c.inside.place c.c.inside.visible c.c.inside.tag c.args.self.now c.args.c.now c.self.invariant.table c.self.view_is c.c.view_is c.requires.stands) c.run_in.ensures

pub returns-clause-laws : goal.returns-clause-laws
returns-clause-laws c = subst StoreLaws c.self.view_is (store_laws c.self.inside.table c.self.invariant)
