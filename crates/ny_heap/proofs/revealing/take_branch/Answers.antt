use Rattle.std.proofs.Common.{◌∙◌, ◌++◌, ap, deque_items}
use Rattle.std.specs.Option.{option_to_list}
use Rattle.ny_heap.proofs.DueLemmas.{taken_first, taken_other}
use Rattle.ny_heap.proofs.revealing.take_branch.Goals as goal

pub returns-clause-first : goal.returns-clause-first
returns-clause-first g c =
    taken_first deque_items c.args.branches.now.items c.args.u c.index_mut.result.now c.pop_front.new.self c.unwrap.result c.requires c.index_mut.ensures.value
    (c.pop_front.ensures.items ∙ ap (λ o. option_to_list o ++ c.pop_front.new.self.items) c.unwrap.ensures)

pub returns-clause-others : goal.returns-clause-others
returns-clause-others g c = λ v ne. taken_other deque_items c.args.branches.now.items c.args.u v c.pop_front.new.self ne
