use Rattle.ny_calls_tests.proofs.ListLemmas.{moved_on}
use Rattle.ny_calls_tests.proofs.lists.pass.Goals as goal

pub returns-clause-plays : goal.returns-clause-plays
returns-clause-plays c =
    let m = c.args.piece.now in
    moved_on m.store c.advance.new.self m.list m.cursor c.advance.new.c c.args.n c.requires.plays c.requires.within c.advance.ensures.passed c.advance.ensures.moved c.advance.ensures.laws
