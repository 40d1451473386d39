use Rattle.std.proofs.Common.{[], ◌∷◌, sym, subst, ◌∙◌}
use Rattle.ny_num.specs.Sound.{IsTiming}
use Rattle.ny_hands.proofs.SpendLemmas.{in_hand_held}
use Rattle.ny_eval.proofs.CueLemmas.{moved_as_cue}
use Rattle.ny_eval.proofs.cue.moved.Goals as goal

pub cue_timing-timing-requires : goal.cue_timing-timing-requires
cue_timing-timing-requires c = c.requires.hands.hand.begin.0.bounds

pub place-requires : goal.place-requires
place-requires c =
    let held = in_hand_held c.args.heap.now (c.args.sound ∷ []) c.requires.hands in
    record {
      laws = c.requires.hands.hand.laws;
      held = held.1;
      begins = held.0;
      bounds = subst IsTiming (c.cue_timing-timing.ensures.value ∙ sym (moved_as_cue c.args.env.now c.args.sound.timing c.cue_timing-timing.result c.cue_timing-timing.ensures.value)) c.cue_timing-timing.ensures.bounds;
    }

pub returns : goal.returns
returns c = record {
  places = record {
    laws = c.place.ensures.laws;
    bounds = c.place.ensures.bounds;
    timing = c.place.ensures.timing ∙ moved_as_cue c.args.env.now c.args.sound.timing c.cue_timing-timing.result c.cue_timing-timing.ensures.value;
    begins = c.place.ensures.begins;
    list = c.place.ensures.list;
    all = c.place.ensures.all;
    some = c.place.ensures.some;
    keeps = c.place.ensures.keeps;
  };
}
