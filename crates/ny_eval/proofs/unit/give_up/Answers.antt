use Rattle.std.proofs.Common.{[], ◌∷◌, refl, sym, subst}
use Rattle.ny_hands.specs.Calls.{ReleasesAll}
use Rattle.ny_hands.specs.Hands.{InHand, GivesUp}
use Rattle.ny_hands.proofs.SpendLemmas.{in_hand_held, gives_up_trimmed}
use Rattle.ny_trace.specs.Evaluates.{sounds_of_values}
use Rattle.ny_eval.proofs.unit.give_up.Goals as goal

pub release-requires : goal.release-requires
release-requires c =
    record { held = (in_hand_held c.args.heap.now (c.in-Sound.sound ∷ []) (subst (λ ss. InHand c.args.heap.now ss) (λ i. sounds_of_values (c.in-Sound.is i ∷ [])) c.requires.hands)).1 }

pub returns-in-Sound : goal.returns-in-Sound
returns-in-Sound c =
    record {
      gives_up = subst (λ ss. GivesUp c.args.heap.now c.release.new.self ss) (sym (λ i. sounds_of_values (c.in-Sound.is i ∷ [])))
          (gives_up_trimmed c.args.heap.now c.release.new.self (c.in-Sound.sound ∷ []) (c.in-Sound.sound ∷ []) refl c.release.ensures.laws c.release.ensures.trimmed);
      released = subst (λ ss. ReleasesAll c.args.heap.now c.release.new.self ss) (sym (λ i. sounds_of_values (c.in-Sound.is i ∷ [])))
          (c.release.new.self, record { laws = c.release.ensures.laws; trimmed = c.release.ensures.trimmed; keeps = c.release.ensures.keeps }, refl);
    }
