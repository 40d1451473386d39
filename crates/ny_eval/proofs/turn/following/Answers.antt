use Rattle.ny_hands.proofs.SpendLemmas.{brought_in_hand}
use Rattle.ny_eval.proofs.turn.following.Goals as goal

pub placed_behind-requires-clause-hands : goal.placed_behind-requires-clause-hands
placed_behind-requires-clause-hands c = brought_in_hand c.args.heap.now c.brought.new.heap c.args.rate c.args.sound c.in_ok-at_rate.at_rate c.requires.hands c.in_ok-at_rate.ensures.brings
