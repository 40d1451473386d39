use Rattle.std.proofs.Common.{[], ◌∷◌, refl}
use Rattle.ny_eval.proofs.AnswerLemmas.{on_err}
use Rattle.ny_hands.proofs.SpendLemmas.{in_hand_held, gives_up_trimmed, gives_up_both, gives_up_brought, left_in_hand, one_of_two, second_in_hand}
use Rattle.ny_eval.proofs.unit.together.Goals as goal

pub brought-requires-in-Ok : goal.brought-requires-in-Ok
brought-requires-in-Ok c =
    record { hands = one_of_two c.brought.new.heap c.args.second c.in-Ok.left (second_in_hand c.args.heap.now c.brought.new.heap c.args.rate c.args.first c.in-Ok.left c.args.second c.requires.hands c.in-Ok.ensures.brings) }

pub of_two-requires-clause-hands : goal.of_two-requires-clause-hands
of_two-requires-clause-hands c =
    second_in_hand c.brought.new.heap c.brought-in-Ok.new.heap c.args.rate c.args.second c.in-Ok-brought.right c.in-Ok.left
    (second_in_hand c.args.heap.now c.brought.new.heap c.args.rate c.args.first c.in-Ok.left c.args.second c.requires.hands c.in-Ok.ensures.brings)
    c.in-Ok-brought.ensures.brings

pub returns-in_err-of_two-in-Ok-brought-clause-gives_up :
    goal.returns-in_err-of_two-in-Ok-brought-clause-gives_up
returns-in_err-of_two-in-Ok-brought-clause-gives_up c =
    on_err c.from_residual.result _
    (gives_up_brought c.args.heap.now c.brought.new.heap c.of_two.new.heap c.args.rate c.args.first c.in-Ok.left c.args.second c.in-Ok.ensures.brings
    (gives_up_brought c.brought.new.heap c.brought-in-Ok.new.heap c.of_two.new.heap c.args.rate c.args.second c.in-Ok-brought.right c.in-Ok.left c.in-Ok-brought.ensures.brings c.in_err-of_two-in-Ok-brought.ensures.gives_up))

pub release-requires : goal.release-requires
release-requires c =
    record {
      held = (in_hand_held c.brought-in-Ok.new.heap (c.in-Ok.left ∷ [])
          (left_in_hand c.brought.new.heap c.brought-in-Ok.new.heap c.args.second c.in-Ok.left
          (second_in_hand c.args.heap.now c.brought.new.heap c.args.rate c.args.first c.in-Ok.left c.args.second c.requires.hands c.in-Ok.ensures.brings)
          c.in-Err-brought.ensures.gives_up)).1;
    }

pub release-requires-in-Err : goal.release-requires-in-Err
release-requires-in-Err c =
    record { held = (in_hand_held c.brought.new.heap (c.args.second ∷ []) (left_in_hand c.args.heap.now c.brought.new.heap c.args.first c.args.second c.requires.hands c.in-Err.ensures.gives_up)).1 }

pub returns-in-Err-brought-clause-gives_up : goal.returns-in-Err-brought-clause-gives_up
returns-in-Err-brought-clause-gives_up c =
    gives_up_brought c.args.heap.now c.brought.new.heap c.release.new.self c.args.rate c.args.first c.in-Ok.left c.args.second c.in-Ok.ensures.brings
    (gives_up_both c.brought.new.heap c.brought-in-Ok.new.heap c.release.new.self c.args.second c.in-Ok.left c.in-Err-brought.ensures.gives_up
    (gives_up_trimmed c.brought-in-Ok.new.heap c.release.new.self (c.in-Ok.left ∷ []) (c.in-Ok.left ∷ []) refl c.release.ensures.laws c.release.ensures.trimmed))

pub returns-in-Err-clause-gives_up : goal.returns-in-Err-clause-gives_up
returns-in-Err-clause-gives_up c =
    gives_up_both c.args.heap.now c.brought.new.heap c.release-in-Err.new.self c.args.first c.args.second c.in-Err.ensures.gives_up
    (gives_up_trimmed c.brought.new.heap c.release-in-Err.new.self (c.args.second ∷ []) (c.args.second ∷ []) refl c.release-in-Err.ensures.laws c.release-in-Err.ensures.trimmed)
