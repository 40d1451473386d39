use Rattle.std.proofs.Common.{[], ◌∷◌, None, refl, sym, subst}
use Rattle.ny_heap.specs.Heap.{Made}
use Rattle.ny_heap.specs.declared.make.Make.TheVariants.{Pair}
use Rattle.ny_heap.specs.Steps.{IsMadeOf, AreHeld}
use Rattle.ny_eval.proofs.AnswerLemmas.{listed_two, on_err}
use Rattle.ny_eval.proofs.UnitLemmas.{pair_made}
use Rattle.ny_hands.specs.Calls.{MakesUnit}
use Rattle.ny_hands.proofs.SpendLemmas.{in_hand_held, gives_up_trimmed, gives_up_both, left_in_hand, one_of_two, unit_made}
use Rattle.ny_eval.proofs.unit.of_two.Goals as goal

pub make-requires-clause-made : goal.make-requires-clause-made
make-requires-clause-made c =
    let list = listed_two c.in-Ok.room.items c.push_reserved.new.self.items c.push_reserved-in-Ok.new.self.items c.args.first c.args.second c.in-Ok.ensures.items c.push_reserved.ensures.items c.push_reserved-in-Ok.ensures.items in
    subst (λ xs. IsMadeOf (Pair c.args.op None None) xs c.both_timing-timing.result) (sym list) (pair_made c.args.op c.args.first c.args.second c.both_timing-timing.result c.both_timing-timing.ensures.value c.both_timing-timing.ensures.bounds c.requires.rate)

pub make-requires-clause-inputs : goal.make-requires-clause-inputs
make-requires-clause-inputs c =
    let list = listed_two c.in-Ok.room.items c.push_reserved.new.self.items c.push_reserved-in-Ok.new.self.items c.args.first c.args.second c.in-Ok.ensures.items c.push_reserved.ensures.items c.push_reserved-in-Ok.ensures.items in
    subst (λ xs. AreHeld c.args.heap.now xs) (sym list) (in_hand_held c.args.heap.now (c.args.first ∷ c.args.second ∷ []) c.requires.hands)

pub returns-in_err-make-in-Ok-clause-gives_up : goal.returns-in_err-make-in-Ok-clause-gives_up
returns-in_err-make-in-Ok-clause-gives_up c =
    let list = listed_two c.in-Ok.room.items c.push_reserved.new.self.items c.push_reserved-in-Ok.new.self.items c.args.first c.args.second c.in-Ok.ensures.items c.push_reserved.ensures.items c.push_reserved-in-Ok.ensures.items in
    on_err c.from_residual.result _ (gives_up_trimmed c.args.heap.now c.make.new.self (c.args.first ∷ c.args.second ∷ []) c.push_reserved-in-Ok.new.self.items list c.in_err-make-in-Ok.ensures.laws c.in_err-make-in-Ok.ensures.released)

pub release-requires : goal.release-requires
release-requires c = record { held = (in_hand_held c.args.heap.now (c.args.first ∷ []) (one_of_two c.args.heap.now c.args.first c.args.second c.requires.hands)).1 }

pub release-requires-in-Err : goal.release-requires-in-Err
release-requires-in-Err c =
    record {
      held = (in_hand_held c.release.new.self (c.args.second ∷ [])
          (left_in_hand c.args.heap.now c.release.new.self c.args.first c.args.second c.requires.hands (gives_up_trimmed c.args.heap.now c.release.new.self (c.args.first ∷ []) (c.args.first ∷ []) refl c.release.ensures.laws c.release.ensures.trimmed))).1;
    }

pub returns-in_ok-make-in-Ok-clause-makes : goal.returns-in_ok-make-in-Ok-clause-makes
returns-in_ok-make-in-Ok-clause-makes c =
    let list = listed_two c.in-Ok.room.items c.push_reserved.new.self.items c.push_reserved-in-Ok.new.self.items c.args.first c.args.second c.in-Ok.ensures.items c.push_reserved.ensures.items c.push_reserved-in-Ok.ensures.items in
    subst (λ t. MakesUnit c.args.heap.now c.make.new.self (Made (Pair c.args.op None None)) t (c.args.first ∷ c.args.second ∷ []) [] (c.args.first ∷ c.args.second ∷ []) c.in_ok-make-in-Ok.field-0) c.both_timing-timing.ensures.value
    (unit_made c.args.heap.now c.make.new.self (Made (Pair c.args.op None None)) c.both_timing-timing.result (c.args.first ∷ c.args.second ∷ []) c.push_reserved-in-Ok.new.self.items c.in_ok-make-in-Ok.field-0 list c.in_ok-make-in-Ok.ensures.laws c.both_timing-timing.ensures.bounds c.in_ok-make-in-Ok.ensures.makes c.in_ok-make-in-Ok.ensures.meaning)

pub returns-in-Err-clause-gives_up : goal.returns-in-Err-clause-gives_up
returns-in-Err-clause-gives_up c =
    gives_up_both c.args.heap.now c.release.new.self c.release-in-Err.new.self c.args.first c.args.second
    (gives_up_trimmed c.args.heap.now c.release.new.self (c.args.first ∷ []) (c.args.first ∷ []) refl c.release.ensures.laws c.release.ensures.trimmed)
    (gives_up_trimmed c.release.new.self c.release-in-Err.new.self (c.args.second ∷ []) (c.args.second ∷ []) refl c.release-in-Err.ensures.laws c.release-in-Err.ensures.trimmed)
