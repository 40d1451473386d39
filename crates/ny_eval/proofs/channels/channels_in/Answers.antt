use Rattle.std.proofs.Common.{◌++◌, sym, subst}
use Rattle.ny_hands.specs.Hands.{InHand, GivesUp}
use Rattle.ny_hands.proofs.HeldLemmas.{in_hand_first}
use Rattle.ny_eval.proofs.MixingLemmas.{come_in_hand, come_given_up, last_in_hand, both_given_up}
use Rattle.ny_eval.proofs.channels.channels_in.Goals as goal

pub give_up_all-requires : goal.give_up_all-requires
give_up_all-requires c = record {
  hands = in_hand_first c.each_channel.new.heap c.each_channel.new.left.items c.each_channel.new.done.items
      (come_in_hand c.args.heap.now c.each_channel.new.heap c.from-left.result.items (c.each_channel.new.left.items ++ c.each_channel.new.done.items) (subst (λ ss. InHand c.args.heap.now ss) (sym c.from-left.ensures.0) c.requires.hands) c.in-Err.ensures.hands);
}

pub give_up_all-requires-in-Err : goal.give_up_all-requires-in-Err
give_up_all-requires-in-Err c = record {
  hands = subst (λ ss. InHand c.give_up_all.new.heap ss) (sym c.from.ensures.0)
      (last_in_hand c.each_channel.new.heap c.give_up_all.new.heap c.each_channel.new.left.items c.each_channel.new.done.items
      (come_in_hand c.args.heap.now c.each_channel.new.heap c.from-left.result.items (c.each_channel.new.left.items ++ c.each_channel.new.done.items) (subst (λ ss. InHand c.args.heap.now ss) (sym c.from-left.ensures.0) c.requires.hands) c.in-Err.ensures.hands)
      c.give_up_all.ensures.gives_up);
}

pub returns-in-Err-clause-gives_up : goal.returns-in-Err-clause-gives_up
returns-in-Err-clause-gives_up c =
    subst (λ ss. GivesUp c.args.heap.now c.give_up_all-in-Err.new.heap ss) c.from-left.ensures.0
    (come_given_up c.args.heap.now c.each_channel.new.heap c.give_up_all-in-Err.new.heap c.from-left.result.items (c.each_channel.new.left.items ++ c.each_channel.new.done.items) c.in-Err.ensures.hands
    (both_given_up c.each_channel.new.heap c.give_up_all.new.heap c.give_up_all-in-Err.new.heap c.each_channel.new.left.items c.each_channel.new.done.items c.give_up_all.ensures.gives_up
    (subst (λ ss. GivesUp c.give_up_all.new.heap c.give_up_all-in-Err.new.heap ss) c.from.ensures.0 c.give_up_all-in-Err.ensures.gives_up)))
