use Rattle.std.proofs.Common.{rules}
use Rattle.ny_eval.proofs.MixingLemmas.{none_given_up}
use Rattle.ny_eval.proofs.WaitingLemmas.{kept_nothing, branches_in_hand, branches_given_up}
use Rattle.ny_eval.proofs.waiting.give_up_branches.Goals as goal

pub loop-branch-preserved : goal.loop-branch-preserved
loop-branch-preserved c = record {
  hands = branches_in_hand c.loop-branch.heap c.give_up_all.new.heap c.loop-branch.left.items c.pop_front.new.self.items c.in-Some.branch c.from.result.items c.in-Some.ensures.items (search rules) c.give_up_all.ensures.gives_up c.loop-branch.invariant.hands;
  given_up = λ new rest. c.loop-branch.invariant.given_up new (branches_given_up c.loop-branch.heap c.give_up_all.new.heap c.loop-branch.left.items c.pop_front.new.self.items c.in-Some.branch c.from.result.items c.in-Some.ensures.items (search rules) c.give_up_all.ensures.gives_up new rest);
}

pub returns : goal.returns
returns c = record { gives_up = c.loop-branch.invariant.given_up c.loop-branch.heap (none_given_up c.loop-branch.heap _ (kept_nothing c.loop-branch.left.items (search rules))) }
