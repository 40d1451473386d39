use Rattle.std.proofs.Common.{ap, length}
use Rattle.ny_heap.specs.Steps.{sounds_of}
use Rattle.ny_eval.specs.Framed.{names_in}
use Rattle.ny_eval.specs.Waiting.{kept_in}
use Rattle.ny_eval.proofs.AnswerLemmas.{on_err}
use Rattle.ny_eval.proofs.TurnLemmas.{more_in_hand, more_given_up, none_more_in_hand, none_more_given_up, rest_turn}
use Rattle.ny_eval.proofs.turn.with_rest.Goals as goal

pub sequenced-requires-clause-hands : goal.sequenced-requires-clause-hands
sequenced-requires-clause-hands c = more_in_hand c.args.heap.now c.branches.new.heap c.args.sounds.items (sounds_of (kept_in c.in-Ok.waiting.items)) c.requires.hands c.in-Ok.ensures.waits.hand

pub returns-in_err-sequenced-in-Ok-clause-gives_up : goal.returns-in_err-sequenced-in-Ok-clause-gives_up
returns-in_err-sequenced-in-Ok-clause-gives_up c =
    on_err _ _ (more_given_up c.args.heap.now c.branches.new.heap c.sequenced.new.heap c.args.sounds.items (sounds_of (kept_in c.in-Ok.waiting.items)) c.in-Ok.ensures.waits.hand c.in_err-sequenced-in-Ok.ensures.gives_up)

pub returns-in_ok-sequenced-in-Ok-clause-turn : goal.returns-in_ok-sequenced-in-Ok-clause-turn
returns-in_ok-sequenced-in-Ok-clause-turn c =
    rest_turn c.args.p.now c.args.env.now (names_in c.args.frame.now) c.args.parts.now (length c.as_slice.result.now) c.args.timing c.args.sounds.items c.args.heap.now c.branches.new.heap c.sequenced.new.heap (kept_in c.in-Ok.waiting.items) c.in_ok-sequenced-in-Ok.field-0 (ap length c.as_slice.ensures.value) c.in-Ok.ensures.waits c.in_ok-sequenced-in-Ok.ensures.makes

pub give_up_all-requires : goal.give_up_all-requires
give_up_all-requires c = record { hands = none_more_in_hand c.args.heap.now c.branches.new.heap c.args.sounds.items c.from.result.items c.from.ensures.0 c.requires.hands c.in-Err.ensures.refused }

pub returns-in-Err-clause-gives_up : goal.returns-in-Err-clause-gives_up
returns-in-Err-clause-gives_up c =
    none_more_given_up c.args.heap.now c.branches.new.heap c.give_up_all.new.heap c.args.sounds.items c.from.result.items c.from.ensures.0 c.in-Err.ensures.refused c.give_up_all.ensures.gives_up
