use Rattle.std.proofs.Common.{rules, [], ◌∷◌, length, ap, arith, length-append}
use Rattle.ny_eval.proofs.AnswerLemmas.{on_err}
use Rattle.ny_eval.proofs.MixingLemmas.{brought_none, next_in_hand, brought_refused, brought_more, brought_all}
use Rattle.ny_eval.proofs.mixing.bring_each.Goals as goal

pub loop-part-init : goal.loop-part-init
loop-part-init c = record {
  so_far = brought_none c.args.heap.now c.args.rate c.args.left.now.items c.args.done.now.items c.requires.none;
  room = omega (arith, c.requires.room, ap length c.requires.none);
}

pub brought-requires : goal.brought-requires
brought-requires c = record {
  hands = next_in_hand c.args.heap.now c.loop-part.heap c.args.rate c.args.left.now.items c.loop-part.left.items c.loop-part.done.items c.pop_front.new.self.items c.in-Some.part c.loop-part.invariant.so_far c.in-Some.ensures.items c.requires.hands;
}

pub returns-in_err-sound-clause-hands : goal.returns-in_err-sound-clause-hands
returns-in_err-sound-clause-hands c =
    on_err _ _ (brought_refused c.args.heap.now c.loop-part.heap c.args.rate c.args.left.now.items c.loop-part.left.items c.loop-part.done.items c.pop_front.new.self.items c.in-Some.part c.loop-part.invariant.so_far c.in-Some.ensures.items c.brought.new.heap c.in_err-sound.ensures.gives_up)

pub push_reserved-requires : goal.push_reserved-requires
push_reserved-requires c = omega (arith, c.loop-part.invariant.room, ap length c.in-Some.ensures.items)

pub loop-part-preserved : goal.loop-part-preserved
loop-part-preserved c = record {
  so_far = brought_more c.args.heap.now c.loop-part.heap c.args.rate c.args.left.now.items c.loop-part.left.items c.loop-part.done.items c.pop_front.new.self.items c.in-Some.part c.loop-part.invariant.so_far c.in-Some.ensures.items c.brought.new.heap c.in_ok-sound.sound c.push_reserved.new.self.items c.in_ok-sound.ensures.brings c.in_ok-sound.ensures.rate c.push_reserved.ensures.items;
  room = omega (arith, c.loop-part.invariant.room, ap length c.in-Some.ensures.items, ap length c.push_reserved.ensures.items, length-append c.loop-part.done.items (c.in_ok-sound.sound ∷ []), c.push_reserved.ensures.capacity);
}

pub returns-clause-brings : goal.returns-clause-brings
returns-clause-brings c = brought_all c.args.heap.now c.loop-part.heap c.args.rate c.args.left.now.items c.loop-part.left.items c.loop-part.done.items c.loop-part.invariant.so_far (search rules)

pub returns-clause-rates : goal.returns-clause-rates
returns-clause-rates c = c.loop-part.invariant.so_far.rates
