use Rattle.std.proofs.Common.{[], ◌∙◌}
use Rattle.ny_hands.proofs.HandLemmas.{hand_none}
use Rattle.ny_hands.proofs.SpendLemmas.{all_given_up}
use Rattle.ny_eval.proofs.AnswerLemmas.{on_err}
use Rattle.ny_eval.proofs.LeafLemmas.{leaf_turn}
use Rattle.ny_eval.proofs.leaf.make_leaf.Goals as goal

pub returns-in_err-numbers-clause-refused : goal.returns-in_err-numbers-clause-refused
returns-in_err-numbers-clause-refused c = on_err c.from_residual.result _ (hand_none c.args.heap.now c.lawful.ensures)

pub returns-in_err-unit-clause-refused : goal.returns-in_err-unit-clause-refused
returns-in_err-unit-clause-refused c = on_err c.from_residual-in_err-unit.result _ (hand_none c.args.heap.now c.lawful.ensures)

pub returns-in_err-play-clause-refused : goal.returns-in_err-play-clause-refused
returns-in_err-play-clause-refused c = on_err _ _ (all_given_up c.args.heap.now c.args.heap.now c.play.new.heap [] c.lawful.ensures (hand_none c.args.heap.now c.lawful.ensures) c.in_err-play.ensures.gives_up)

pub returns-clause-turn : goal.returns-clause-turn
returns-clause-turn c =
    leaf_turn c.args.heap.now c.play.new.heap c.args.generator c.args.env.now _ _ _ c.leaf_time-timing.result c.in_ok-unit.unit c.in_ok-play.field-0 (c.as_slice.ensures.value ∙ c.in_ok-numbers.ensures.values) (c.as_slice-2.ensures.value ∙ c.in_ok-numbers.ensures.values) c.leaf_time-timing.ensures.value c.in_ok-unit.ensures.sound c.in_ok-unit.ensures.kind c.in_ok-play.ensures.makes
