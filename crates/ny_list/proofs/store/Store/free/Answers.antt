use Rattle.std.proofs.Common.{subst, ap, ◌∙◌}
use Rattle.ny_list.specs.Store.{free_of}
use Rattle.ny_list.proofs.LooseLemmas.{free_seen}
use Rattle.ny_list.proofs.LawLemmas.{store_laws}
use Rattle.ny_list.specs.Laws.{StoreLaws}
use Rattle.ny_list.proofs.store.Store.free.Goals as goal

pub returns-clause-free : goal.returns-clause-free
returns-clause-free c = c.free.ensures.free ∙ free_seen c.self.inside.table c.self.invariant ∙ ap free_of c.self.view_is

pub returns-clause-laws : goal.returns-clause-laws
returns-clause-laws c = subst StoreLaws c.self.view_is (store_laws c.self.inside.table c.self.invariant)
