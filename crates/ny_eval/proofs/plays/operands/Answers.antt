use Rattle.std.proofs.Common.{subst}
use Rattle.ny_hands.specs.Hands.{GivesUp}
use Rattle.ny_hands.proofs.SpendLemmas.{all_given_up}
use Rattle.ny_eval.proofs.plays.operands.Goals as goal

pub returns-clause-refused : goal.returns-clause-refused
returns-clause-refused c =
    all_given_up c.args.heap.now c.each_part.new.heap c.give_up_all.new.heap c.each_part.new.sounds.items c.lawful.ensures c.each_part.ensures.hand
    (subst (λ ss. GivesUp c.each_part.new.heap c.give_up_all.new.heap ss) c.from.ensures.0 c.give_up_all.ensures.gives_up)
