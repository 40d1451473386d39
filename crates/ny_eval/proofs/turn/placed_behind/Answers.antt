use Rattle.std.proofs.Common.{[], ◌∷◌, sym, subst, ap, ◌∙◌}
use Rattle.ny_num.specs.Sound.{IsTiming, placed_timing}
use Rattle.ny_hands.proofs.SpendLemmas.{in_hand_held}
use Rattle.ny_eval.proofs.TurnLemmas.{moved_as_placed}
use Rattle.ny_eval.proofs.turn.placed_behind.Goals as goal

pub place-requires-clause-held : goal.place-requires-clause-held
place-requires-clause-held c = (in_hand_held c.args.heap.now (c.args.sound ∷ []) c.requires.hands).1

pub place-requires-clause-bounds : goal.place-requires-clause-bounds
place-requires-clause-bounds c =
    subst IsTiming (sym (moved_as_placed c.index.result c.args.sound.timing c.placed_timing-timing.result c.placed_timing-timing.ensures.value ∙ sym c.placed_timing-timing.ensures.value)) c.placed_timing-timing.ensures.bounds

pub returns : goal.returns
returns c = record {
  places = record {
    laws = c.place.ensures.laws;
    bounds = c.place.ensures.bounds;
    timing = c.place.ensures.timing ∙ (moved_as_placed c.index.result c.args.sound.timing c.placed_timing-timing.result c.placed_timing-timing.ensures.value ∙ ap (λ n. placed_timing n c.args.sound.timing) c.index.ensures.value);
    begins = c.place.ensures.begins;
    list = c.place.ensures.list;
    all = c.place.ensures.all;
    some = c.place.ensures.some;
    keeps = c.place.ensures.keeps;
  };
}
