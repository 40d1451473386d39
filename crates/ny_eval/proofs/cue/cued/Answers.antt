use Rattle.ny_eval.proofs.AnswerLemmas.{on_err}
use Rattle.ny_eval.proofs.CueLemmas.{cue_in_hand, cue_given_up}
use Rattle.ny_eval.proofs.cue.cued.Goals as goal

pub louder-requires : goal.louder-requires
louder-requires c = record { hands = cue_in_hand c.args.heap.now c.moved-later.new.heap c.args.env.now c.args.sound c.moved-later.result c.requires.hands c.moved-later.ensures.places }

pub returns-in_err-louder-clause-gives_up : goal.returns-in_err-louder-clause-gives_up
returns-in_err-louder-clause-gives_up c =
    on_err _ _ (cue_given_up c.args.heap.now c.moved-later.new.heap c.louder.new.heap c.args.env.now c.args.sound c.moved-later.result c.moved-later.ensures.places c.in_err-louder.ensures.gives_up)

pub returns-clause-turn : goal.returns-clause-turn
returns-clause-turn c = record { later = c.moved-later.result; mid = c.moved-later.new.heap; places = c.moved-later.ensures.places; louder = c.in_ok-louder.ensures.turn }
