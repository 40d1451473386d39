use Rattle.std.proofs.Common.{rules, [], ◌∷◌, refl}
use Rattle.ny_hands.proofs.SpendLemmas.{in_hand_held, gives_up_trimmed}
use Rattle.ny_eval.proofs.MixingLemmas.{first_in_hand, rest_in_hand, given_up_then, none_given_up}
use Rattle.ny_eval.proofs.mixing.give_up_all.Goals as goal

pub loop-sound-init : goal.loop-sound-init
loop-sound-init c = record { hands = c.requires.hands; given = λ new gives. gives }

pub release-requires : goal.release-requires
release-requires c = record {
  held = (in_hand_held c.loop-sound.heap (c.in-Some.sound ∷ []) (first_in_hand c.loop-sound.heap c.loop-sound.heap c.loop-sound.left.items c.pop_front.new.self.items c.in-Some.sound c.in-Some.ensures.items c.loop-sound.invariant.hands)).1;
}

pub loop-sound-preserved : goal.loop-sound-preserved
loop-sound-preserved c =
    let gives = gives_up_trimmed c.loop-sound.heap c.release.new.self (c.in-Some.sound ∷ []) (c.in-Some.sound ∷ []) refl c.release.ensures.laws c.release.ensures.trimmed in
    record {
      hands = rest_in_hand c.loop-sound.heap c.release.new.self c.loop-sound.left.items c.pop_front.new.self.items c.in-Some.sound c.in-Some.ensures.items c.loop-sound.invariant.hands gives;
      given = λ new rest. c.loop-sound.invariant.given new (given_up_then c.loop-sound.heap c.release.new.self c.loop-sound.left.items c.pop_front.new.self.items c.in-Some.sound c.in-Some.ensures.items new gives rest);
    }

pub returns : goal.returns
returns c = record { gives_up = c.loop-sound.invariant.given c.loop-sound.heap (none_given_up c.loop-sound.heap c.loop-sound.left.items (search rules)) }
