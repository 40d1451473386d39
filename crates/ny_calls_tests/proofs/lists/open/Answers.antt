use Rattle.std.proofs.Common.{◌≡◌, ap, ◌∙◌}
use Rattle.ny_list.specs.Store.{StoreState}
use Rattle.ny_calls_tests.proofs.ListLemmas.{begun_at}
use Rattle.ny_calls_tests.proofs.lists.open.Goals as goal

pub returns-clause-plays : goal.returns-clause-plays
returns-clause-plays c =
    let roomier = c.in_ok-reserve_list.ensures.more in
    let block : c.reserve_list.new.self.block ≡ 16 = ap (λ (q : StoreState). q.block) roomier.1 ∙ ap (λ (q : StoreState). q.block) c.in_ok-store.ensures.opened in
    begun_at c.reserve_list.new.self c.new_list-list.new.self c.new_list-list.result.0 c.new_list-list.result.1 block c.new_list-list.ensures.begins c.new_list-list.ensures.laws
