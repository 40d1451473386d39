use Rattle.std.proofs.Common.{refl}
use Rattle.ny_eval.specs.Framed.{names_in}
use Rattle.ny_eval.proofs.AnswerLemmas.{on_err, err_one}
use Rattle.ny_eval.proofs.BodyLemmas.{held_grown, leave_within, leave_hands, left_same, left_refused, if_ok}
use Rattle.ny_eval.proofs.PartLemmas.{number_in_hand, number_given_up, number_grown, number_names}
use Rattle.ny_eval.proofs.WaitingLemmas.{branch_hand, alone_counted}
use Rattle.ny_eval.proofs.waiting.counted_branch.Goals as goal

pub keep-requires : goal.keep-requires
keep-requires c = record { hands = number_in_hand c.args.frame.now c.args.frame.now c.args.heap.now c.args.i c.turn_number.result c.args.k c.lawful.ensures c.turn_number.ensures }

pub returns-in_err-keep-clause-refused : goal.returns-in_err-keep-clause-refused
returns-in_err-keep-clause-refused c = on_err _ _ (number_given_up c.args.frame.now c.args.frame.now c.args.heap.now c.args.i c.turn_number.result c.args.k c.lawful.ensures c.turn_number.ensures c.keep.new.heap c.in_err-keep.ensures.gives_up)

pub branch_of-branch-requires-clause-names : goal.branch_of-branch-requires-clause-names
branch_of-branch-requires-clause-names c =
    let grown = number_grown c.args.frame.now c.keep.new.self c.args.heap.now c.args.i c.turn_number.result c.args.k c.lawful.ensures c.turn_number.ensures c.keep.new.heap c.in_ok-keep.ensures.held c.in_ok-keep.ensures.bound in
    held_grown c.args.frame.now c.keep.new.self c.args.heap.now c.keep.new.heap c.lawful.ensures grown c.requires.names

pub leave-requires : goal.leave-requires
leave-requires c =
    let grown = number_grown c.args.frame.now c.keep.new.self c.args.heap.now c.args.i c.turn_number.result c.args.k c.lawful.ensures c.turn_number.ensures c.keep.new.heap c.in_ok-keep.ensures.held c.in_ok-keep.ensures.bound in
    let body = branch_hand c.args.p.now c.args.env (c.args.part, names_in c.keep.new.self) c.keep.new.heap c.branch_of-branch.new.heap c.branch_of-branch.result grown.hand.laws c.branch_of-branch.ensures.waits c.branch_of-branch.ensures.refused in
    record {
      within = leave_within c.args.frame.now c.keep.new.self c.keep.new.self c.args.heap.now c.keep.new.heap c.branch_of-branch.new.heap c.len-before.result c.lawful.ensures grown refl c.len-before.ensures;
      hands = leave_hands c.args.frame.now c.keep.new.self c.keep.new.self c.args.heap.now c.keep.new.heap c.branch_of-branch.new.heap c.len-before.result c.lawful.ensures grown refl c.len-before.ensures body;
    }

pub returns-clause-waits : goal.returns-clause-waits
returns-clause-waits c =
    if_ok c.branch_of-branch.result _ _
    (λ q waits. alone_counted c.args.p.now c.args.env c.args.part c.args.frame.now c.keep.new.self c.args.i c.turn_number.result c.args.k c.len-before.result c.args.heap.now c.keep.new.heap c.branch_of-branch.new.heap c.leave.new.heap (q.0, q.1.items) c.turn_number.ensures c.in_ok-keep.ensures.held c.in_ok-keep.ensures.bound c.len-before.ensures
    (number_names c.args.frame.now c.keep.new.self c.args.heap.now c.args.i c.turn_number.result c.args.k c.lawful.ensures c.turn_number.ensures c.keep.new.heap c.in_ok-keep.ensures.held c.in_ok-keep.ensures.bound)
    c.leave.ensures.released waits)
    c.branch_of-branch.ensures.waits

pub returns-clause-same : goal.returns-clause-same
returns-clause-same c =
    let grown = number_grown c.args.frame.now c.keep.new.self c.args.heap.now c.args.i c.turn_number.result c.args.k c.lawful.ensures c.turn_number.ensures c.keep.new.heap c.in_ok-keep.ensures.held c.in_ok-keep.ensures.bound in
    left_same c.args.frame.now c.keep.new.self c.keep.new.self c.args.heap.now c.keep.new.heap c.branch_of-branch.new.heap c.len-before.result c.lawful.ensures grown refl c.len-before.ensures c.leave.new.self c.leave.ensures.left

pub returns-clause-refused : goal.returns-clause-refused
returns-clause-refused c =
    let grown = number_grown c.args.frame.now c.keep.new.self c.args.heap.now c.args.i c.turn_number.result c.args.k c.lawful.ensures c.turn_number.ensures c.keep.new.heap c.in_ok-keep.ensures.held c.in_ok-keep.ensures.bound in
    err_one c.branch_of-branch.result _ _ (λ hand. left_refused c.args.frame.now c.keep.new.self c.keep.new.self c.args.heap.now c.keep.new.heap c.branch_of-branch.new.heap c.len-before.result c.lawful.ensures grown refl c.len-before.ensures c.leave.new.heap c.leave.ensures.released hand) c.branch_of-branch.ensures.refused
