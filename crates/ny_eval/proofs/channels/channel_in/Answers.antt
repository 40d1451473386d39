use Rattle.std.proofs.Common.{[], ◌∷◌, ◌++◌, ap}
use Rattle.ny_hands.proofs.SpendLemmas.{in_hand_held, gives_up_trimmed, brought_in_hand, gives_up_alone}
use Rattle.ny_eval.proofs.AnswerLemmas.{on_err, listed_one}
use Rattle.ny_eval.proofs.ChannelLemmas.{channel_made, held_alone, channel_unit}
use Rattle.ny_eval.proofs.channels.channel_in.Goals as goal

pub make_mix-requires-clause-mix : goal.make_mix-requires-clause-mix
make_mix-requires-clause-mix c =
    let list = listed_one c.args.room.items c.push_reserved.new.self.items c.in_ok-sound.sound c.requires.none c.push_reserved.ensures.items in
    channel_made c.in_ok-sound.sound c.channel_timing-timing.result c.push_reserved.new.self.items c.channel_timing-timing.ensures.value list c.channel_timing-timing.ensures.bounds

pub make_mix-requires-clause-inputs : goal.make_mix-requires-clause-inputs
make_mix-requires-clause-inputs c =
    let list = listed_one c.args.room.items c.push_reserved.new.self.items c.in_ok-sound.sound c.requires.none c.push_reserved.ensures.items in
    held_alone c.brought.new.heap c.in_ok-sound.sound c.push_reserved.new.self.items _ c.new.result.items list c.new.ensures.items (in_hand_held c.brought.new.heap (c.in_ok-sound.sound ∷ []) (brought_in_hand c.args.heap.now c.brought.new.heap c.args.rate c.args.part c.in_ok-sound.sound c.requires.hands c.in_ok-sound.ensures.brings))

pub returns-in_err-make_mix-clause-gives_up : goal.returns-in_err-make_mix-clause-gives_up
returns-in_err-make_mix-clause-gives_up c =
    let list = listed_one c.args.room.items c.push_reserved.new.self.items c.in_ok-sound.sound c.requires.none c.push_reserved.ensures.items in
    let released = rw c.new.ensures.items at c.in_err-make_mix.ensures.released in
    on_err _ _ (gives_up_alone c.args.heap.now c.brought.new.heap c.make_mix.new.self c.args.rate c.args.part c.in_ok-sound.sound c.in_ok-sound.ensures.brings
    (gives_up_trimmed c.brought.new.heap c.make_mix.new.self (c.in_ok-sound.sound ∷ []) (c.push_reserved.new.self.items ++ []) (ap (λ xs. xs ++ []) list) c.in_err-make_mix.ensures.laws released))

pub returns-clause-turn : goal.returns-clause-turn
returns-clause-turn c =
    let list = listed_one c.args.room.items c.push_reserved.new.self.items c.in_ok-sound.sound c.requires.none c.push_reserved.ensures.items in
    let makes = rw c.new.ensures.items at c.in_ok-make_mix.ensures.makes in
    let meaning = rw c.new.ensures.items at c.in_ok-make_mix.ensures.meaning in
    record {
      brought = c.in_ok-sound.sound;
      mid = c.brought.new.heap;
      brings = c.in_ok-sound.ensures.brings;
      made = channel_unit c.brought.new.heap c.make_mix.new.self c.channel_timing-timing.result c.in_ok-sound.sound c.push_reserved.new.self.items c.in_ok-make_mix.field-0 c.channel_timing-timing.ensures.value list c.in_ok-make_mix.ensures.laws c.channel_timing-timing.ensures.bounds makes meaning;
    }
