use Rattle.std.proofs.Common.{rules}
use Rattle.ny_hands.specs.Frames.{sounds_among}
use Rattle.ny_eval.proofs.HandedLemmas.{counted, first_held, rest_counted, released_then, none_released}
use Rattle.ny_eval.proofs.reveal.give_up_names.Goals as goal

pub loop-binding-init : goal.loop-binding-init
loop-binding-init c = record { counted = counted c.args.heap.now (sounds_among c.args.names.items) c.lawful.ensures c.requires.held; released = λ new step. step }

pub give_up_held-requires : goal.give_up_held-requires
give_up_held-requires c = record { held = first_held c.loop-binding.heap c.loop-binding.left.items c.pop_front.new.self.items c.in-Some.binding c.in-Some.ensures.items c.loop-binding.invariant.counted }

pub loop-binding-preserved : goal.loop-binding-preserved
loop-binding-preserved c = record {
  counted = rest_counted c.loop-binding.heap c.loop-binding.left.items c.pop_front.new.self.items c.in-Some.binding c.in-Some.ensures.items c.give_up_held.new.heap c.loop-binding.invariant.counted c.give_up_held.ensures.released;
  released = λ new rest. c.loop-binding.invariant.released new (released_then c.loop-binding.heap c.loop-binding.left.items c.pop_front.new.self.items c.in-Some.binding c.in-Some.ensures.items c.give_up_held.new.heap new c.give_up_held.ensures.released rest);
}

pub returns : goal.returns
returns c = record { laws = c.loop-binding.invariant.counted.laws; released = c.loop-binding.invariant.released c.loop-binding.heap (none_released c.loop-binding.heap c.loop-binding.left.items (search rules)) }
