use Rattle.std.proofs.Common.{rules, ◌+◌, sym, subst}
use Rattle.ny_list.specs.Steps.{Takes}
use Rattle.ny_calls_tests.specs.Lists.{Plays}
use Rattle.ny_calls_tests.proofs.ListLemmas.{fill_on}
use Rattle.ny_calls_tests.proofs.lists.fill.Goals as goal

pub returns-clause-filled : goal.returns-clause-filled
returns-clause-filled c = λ n p.
    let m = c.args.piece.now in
    let taken : Takes m.store c.take.new.self c.in_ok-b.b.0 = search rules in
    subst (λ k. Plays c.append_block.new.self k m.cursor (n + 1)) (sym c.append_block.ensures.same)
    (fill_on m.store c.take.new.self c.write.new.self c.append_block.new.self m.list c.in_ok-b.b.0 m.cursor n c.block-samples.result p taken c.take.ensures.laws c.write.ensures.written c.write.ensures.laws c.append_block.ensures.appended c.append_block.ensures.laws)
