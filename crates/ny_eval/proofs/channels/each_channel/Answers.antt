use Rattle.std.proofs.Common.{rules, [], ◌∷◌, length, ap, arith, length-append}
use Rattle.ny_eval.proofs.AnswerLemmas.{on_err}
use Rattle.ny_eval.proofs.ChannelLemmas.{channels_none, channel_in_hand, channel_refused, channels_more, channels_all}
use Rattle.ny_eval.proofs.channels.each_channel.Goals as goal

pub loop-part-init : goal.loop-part-init
loop-part-init c = record {
  so_far = channels_none c.args.heap.now c.args.rate c.args.left.now.items c.args.done.now.items c.requires.none;
  room = omega (arith, c.requires.room, ap length c.requires.none);
}

pub channel_of-requires : goal.channel_of-requires
channel_of-requires c = record {
  hands = channel_in_hand c.args.heap.now c.loop-part.heap c.args.rate c.args.left.now.items c.loop-part.left.items c.loop-part.done.items c.pop_front.new.self.items c.in-Some.part c.loop-part.invariant.so_far c.in-Some.ensures.items c.requires.hands;
}

pub returns-in_err-channel-clause-hands : goal.returns-in_err-channel-clause-hands
returns-in_err-channel-clause-hands c =
    on_err _ _ (channel_refused c.args.heap.now c.loop-part.heap c.args.rate c.args.left.now.items c.loop-part.left.items c.loop-part.done.items c.pop_front.new.self.items c.in-Some.part c.loop-part.invariant.so_far c.in-Some.ensures.items c.channel_of.new.heap c.in_err-channel.ensures.gives_up)

pub push_reserved-requires : goal.push_reserved-requires
push_reserved-requires c = omega (arith, c.loop-part.invariant.room, ap length c.in-Some.ensures.items)

pub loop-part-preserved : goal.loop-part-preserved
loop-part-preserved c = record {
  so_far = channels_more c.args.heap.now c.loop-part.heap c.args.rate c.args.left.now.items c.loop-part.left.items c.loop-part.done.items c.pop_front.new.self.items c.in-Some.part c.loop-part.invariant.so_far c.in-Some.ensures.items c.channel_of.new.heap c.in_ok-channel.channel c.push_reserved.new.self.items c.in_ok-channel.ensures.turn c.push_reserved.ensures.items;
  room = omega (arith, c.loop-part.invariant.room, ap length c.in-Some.ensures.items, ap length c.push_reserved.ensures.items, length-append c.loop-part.done.items (c.in_ok-channel.channel ∷ []), c.push_reserved.ensures.capacity);
}

pub returns-clause-turn : goal.returns-clause-turn
returns-clause-turn c = channels_all c.args.heap.now c.loop-part.heap c.args.rate c.args.left.now.items c.loop-part.left.items c.loop-part.done.items c.loop-part.invariant.so_far (search rules)
