use Rattle.std.proofs.Common.{◌++◌, refl}
use Rattle.ny_heap.specs.Steps.{sounds_of}
use Rattle.ny_hands.proofs.SpendLemmas.{in_hand_held, gives_up_trimmed}
use Rattle.ny_eval.specs.Waiting.{kept_in}
use Rattle.ny_eval.proofs.AnswerLemmas.{on_err}
use Rattle.ny_eval.proofs.turn.sequenced.Goals as goal

pub make_mix-requires-clause-inputs : goal.make_mix-requires-clause-inputs
make_mix-requires-clause-inputs c = in_hand_held c.args.heap.now (c.args.parts.items ++ sounds_of (kept_in c.args.waiting.items)) c.requires.hands

pub returns-in_err-make_mix-clause-gives_up : goal.returns-in_err-make_mix-clause-gives_up
returns-in_err-make_mix-clause-gives_up c =
    on_err _ _ (gives_up_trimmed c.args.heap.now c.make_mix.new.self (c.args.parts.items ++ sounds_of (kept_in c.args.waiting.items)) (c.args.parts.items ++ sounds_of (kept_in c.args.waiting.items)) refl c.in_err-make_mix.ensures.laws c.in_err-make_mix.ensures.released)

pub returns-clause-makes : goal.returns-clause-makes
returns-clause-makes c = record { laws = c.in_ok-make_mix.ensures.laws; bounds = c.requires.mix.bounds; makes = c.in_ok-make_mix.ensures.makes; meaning = c.in_ok-make_mix.ensures.meaning }
