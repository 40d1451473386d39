use Rattle.ny_eval.proofs.AnswerLemmas.{on_err}
use Rattle.ny_hands.proofs.SpendLemmas.{brought_in_hand, gives_up_alone}
use Rattle.ny_eval.proofs.unit.with_number.Goals as goal

pub single-requires-clause-hands : goal.single-requires-clause-hands
single-requires-clause-hands c = brought_in_hand c.args.heap.now c.brought.new.heap c.args.rate c.args.sound c.in_ok-sound.sound c.requires.hands c.in_ok-sound.ensures.brings

pub returns-in_err-single-clause-gives_up : goal.returns-in_err-single-clause-gives_up
returns-in_err-single-clause-gives_up c =
    on_err _ _ (gives_up_alone c.args.heap.now c.brought.new.heap c.single.new.heap c.args.rate c.args.sound c.in_ok-sound.sound c.in_ok-sound.ensures.brings c.in_err-single.ensures.gives_up)

pub returns-clause-turn : goal.returns-clause-turn
returns-clause-turn c = record { brought = c.in_ok-sound.sound; mid = c.brought.new.heap; brings = c.in_ok-sound.ensures.brings; made = c.in_ok-single.ensures.makes }
