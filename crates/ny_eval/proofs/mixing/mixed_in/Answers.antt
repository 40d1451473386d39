use Rattle.std.proofs.Common.{◌++◌, sym, subst}
use Rattle.ny_hands.specs.Hands.{InHand, GivesUp}
use Rattle.ny_hands.proofs.HeldLemmas.{in_hand_first}
use Rattle.ny_eval.proofs.AnswerLemmas.{on_err}
use Rattle.ny_eval.proofs.MixingLemmas.{come_in_hand, come_given_up, last_in_hand, both_given_up, each_come}
use Rattle.ny_eval.proofs.mixing.mixed_in.Goals as goal

pub mix_of-requires-clause-hands : goal.mix_of-requires-clause-hands
mix_of-requires-clause-hands c =
    let brings = c.in-Ok.ensures.brings in
    come_in_hand c.args.heap.now c.bring_each.new.heap c.from-left.result.items c.bring_each.new.done.items (subst (λ ss. InHand c.args.heap.now ss) (sym c.from-left.ensures.0) c.requires.hands) (each_come c.args.heap.now c.bring_each.new.heap c.args.rate c.from-left.result.items c.bring_each.new.done.items brings)

pub returns-in_err-mix_of-in-Ok-clause-gives_up : goal.returns-in_err-mix_of-in-Ok-clause-gives_up
returns-in_err-mix_of-in-Ok-clause-gives_up c =
    on_err _ _ (subst (λ ss. GivesUp c.args.heap.now c.mix_of.new.heap ss) c.from-left.ensures.0
    (come_given_up c.args.heap.now c.bring_each.new.heap c.mix_of.new.heap c.from-left.result.items c.bring_each.new.done.items (each_come c.args.heap.now c.bring_each.new.heap c.args.rate c.from-left.result.items c.bring_each.new.done.items c.in-Ok.ensures.brings) c.in_err-mix_of-in-Ok.ensures.gives_up))

pub give_up_all-requires : goal.give_up_all-requires
give_up_all-requires c = record {
  hands = in_hand_first c.bring_each.new.heap c.bring_each.new.left.items c.bring_each.new.done.items
      (come_in_hand c.args.heap.now c.bring_each.new.heap c.from-left.result.items (c.bring_each.new.left.items ++ c.bring_each.new.done.items) (subst (λ ss. InHand c.args.heap.now ss) (sym c.from-left.ensures.0) c.requires.hands) c.in-Err.ensures.hands);
}

pub give_up_all-requires-in-Err : goal.give_up_all-requires-in-Err
give_up_all-requires-in-Err c = record {
  hands = subst (λ ss. InHand c.give_up_all.new.heap ss) (sym c.from.ensures.0)
      (last_in_hand c.bring_each.new.heap c.give_up_all.new.heap c.bring_each.new.left.items c.bring_each.new.done.items
      (come_in_hand c.args.heap.now c.bring_each.new.heap c.from-left.result.items (c.bring_each.new.left.items ++ c.bring_each.new.done.items) (subst (λ ss. InHand c.args.heap.now ss) (sym c.from-left.ensures.0) c.requires.hands) c.in-Err.ensures.hands)
      c.give_up_all.ensures.gives_up);
}

pub returns-in-Err-clause-gives_up : goal.returns-in-Err-clause-gives_up
returns-in-Err-clause-gives_up c =
    subst (λ ss. GivesUp c.args.heap.now c.give_up_all-in-Err.new.heap ss) c.from-left.ensures.0
    (come_given_up c.args.heap.now c.bring_each.new.heap c.give_up_all-in-Err.new.heap c.from-left.result.items (c.bring_each.new.left.items ++ c.bring_each.new.done.items) c.in-Err.ensures.hands
    (both_given_up c.bring_each.new.heap c.give_up_all.new.heap c.give_up_all-in-Err.new.heap c.bring_each.new.left.items c.bring_each.new.done.items c.give_up_all.ensures.gives_up
    (subst (λ ss. GivesUp c.give_up_all.new.heap c.give_up_all-in-Err.new.heap ss) c.from.ensures.0 c.give_up_all-in-Err.ensures.gives_up)))
