use Rattle.std.proofs.Common.{subst}
use Rattle.ny_hands.specs.Hands.{GivesUp}
use Rattle.ny_eval.proofs.channels.channels_of.Goals as goal

pub returns-in-Err-clause-gives_up : goal.returns-in-Err-clause-gives_up
returns-in-Err-clause-gives_up c = subst (λ ss. GivesUp c.args.heap.now c.give_up_all.new.heap ss) c.from.ensures.0 c.give_up_all.ensures.gives_up
