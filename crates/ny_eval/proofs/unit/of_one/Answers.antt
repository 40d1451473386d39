use Rattle.std.proofs.Common.{[], ◌∷◌, refl, sym, subst}
use Rattle.ny_heap.specs.Heap.{Made}
use Rattle.ny_heap.specs.Steps.{AreHeld}
use Rattle.ny_eval.proofs.AnswerLemmas.{listed_one, on_err}
use Rattle.ny_hands.proofs.SpendLemmas.{in_hand_held, gives_up_trimmed, unit_made}
use Rattle.ny_eval.proofs.unit.of_one.Goals as goal

pub make-requires-clause-inputs : goal.make-requires-clause-inputs
make-requires-clause-inputs c =
    let list = listed_one c.in-Ok.room.items c.push_reserved.new.self.items c.args.sound c.in-Ok.ensures.items c.push_reserved.ensures.items in
    subst (λ xs. AreHeld c.args.heap.now xs) (sym list) (in_hand_held c.args.heap.now (c.args.sound ∷ []) c.requires.hands)

pub returns-in_err-make-in-Ok-clause-gives_up : goal.returns-in_err-make-in-Ok-clause-gives_up
returns-in_err-make-in-Ok-clause-gives_up c =
    let list = listed_one c.in-Ok.room.items c.push_reserved.new.self.items c.args.sound c.in-Ok.ensures.items c.push_reserved.ensures.items in
    on_err c.from_residual.result _ (gives_up_trimmed c.args.heap.now c.make.new.self (c.args.sound ∷ []) c.push_reserved.new.self.items list c.in_err-make-in-Ok.ensures.laws c.in_err-make-in-Ok.ensures.released)

pub release-requires : goal.release-requires
release-requires c = record { held = (in_hand_held c.args.heap.now (c.args.sound ∷ []) c.requires.hands).1 }

pub returns-in_ok-make-in-Ok-clause-makes : goal.returns-in_ok-make-in-Ok-clause-makes
returns-in_ok-make-in-Ok-clause-makes c =
    let list = listed_one c.in-Ok.room.items c.push_reserved.new.self.items c.args.sound c.in-Ok.ensures.items c.push_reserved.ensures.items in
    unit_made c.args.heap.now c.make.new.self (Made c.args.make) c.args.timing (c.args.sound ∷ []) c.push_reserved.new.self.items c.in_ok-make-in-Ok.field-0 list c.in_ok-make-in-Ok.ensures.laws c.requires.made.bounds c.in_ok-make-in-Ok.ensures.makes c.in_ok-make-in-Ok.ensures.meaning

pub returns-in-Err-clause-gives_up : goal.returns-in-Err-clause-gives_up
returns-in-Err-clause-gives_up c = gives_up_trimmed c.args.heap.now c.release.new.self (c.args.sound ∷ []) (c.args.sound ∷ []) refl c.release.ensures.laws c.release.ensures.trimmed
