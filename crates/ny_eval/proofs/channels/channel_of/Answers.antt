use Rattle.std.proofs.Common.{[], ◌∷◌, refl}
use Rattle.ny_hands.proofs.SpendLemmas.{in_hand_held, gives_up_trimmed}
use Rattle.ny_eval.proofs.channels.channel_of.Goals as goal

pub release-requires : goal.release-requires
release-requires c = record { held = (in_hand_held c.args.heap.now (c.args.part ∷ []) c.requires.hands).1 }

pub returns-in-Err-clause-gives_up : goal.returns-in-Err-clause-gives_up
returns-in-Err-clause-gives_up c = gives_up_trimmed c.args.heap.now c.release.new.self (c.args.part ∷ []) (c.args.part ∷ []) refl c.release.ensures.laws c.release.ensures.trimmed
