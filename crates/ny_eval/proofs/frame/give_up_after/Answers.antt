use Rattle.std.proofs.Common.{refl, arith}
use Rattle.std.proofs.Math.ListN.{set}
use Rattle.ny_eval.proofs.FrameLemmas.{left_next, kept_next, hands_now, hands_next, released_next}
use Rattle.ny_eval.proofs.frame.give_up_after.Goals as goal

pub loop-k-init : goal.loop-k-init
loop-k-init c = record { left = refl; kept = refl; hands = c.requires.hands; released = λ new step. step }

pub give_up-requires : goal.give_up-requires
give_up-requires c = record { hands = hands_now c.args.bound.now c.loop-k.bound (set c.loop-k.bound c.loop-k.k c.taken.new.binding) c.loop-k.k c.args.len c.index-bound-k.result c.taken.new.binding c.taken.result c.loop-k.invariant.left (omega arith) c.loop-k-test.true c.loop-k.auto.k refl c.taken.ensures c.loop-k.heap c.loop-k.invariant.hands }

pub loop-k-preserved : goal.loop-k-preserved
loop-k-preserved c = record {
  left = left_next c.args.bound.now c.loop-k.bound (set c.loop-k.bound c.loop-k.k c.taken.new.binding) c.loop-k.k c.args.len c.index-bound-k.result c.taken.new.binding c.taken.result c.loop-k.invariant.left (omega arith) c.loop-k-test.true c.loop-k.auto.k refl c.taken.ensures;
  kept = kept_next c.args.bound.now c.loop-k.bound (set c.loop-k.bound c.loop-k.k c.taken.new.binding) c.loop-k.k c.args.len c.index-bound-k.result c.taken.new.binding c.taken.result c.loop-k.invariant.left (omega arith) c.loop-k-test.true c.loop-k.auto.k refl c.taken.ensures c.loop-k.invariant.kept;
  hands = hands_next c.args.bound.now c.loop-k.bound (set c.loop-k.bound c.loop-k.k c.taken.new.binding) c.loop-k.k c.args.len c.index-bound-k.result c.taken.new.binding c.taken.result c.loop-k.invariant.left (omega arith) c.loop-k-test.true c.loop-k.auto.k refl c.taken.ensures c.loop-k.heap c.give_up.new.heap c.loop-k.invariant.hands c.give_up.ensures.released;
  released = λ new step. c.loop-k.invariant.released new (released_next c.args.bound.now c.loop-k.bound (set c.loop-k.bound c.loop-k.k c.taken.new.binding) c.loop-k.k c.args.len c.index-bound-k.result c.taken.new.binding c.taken.result c.loop-k.invariant.left (omega arith) c.loop-k-test.true c.loop-k.auto.k refl c.taken.ensures c.loop-k.heap c.give_up.new.heap new c.give_up.ensures.released step);
}
