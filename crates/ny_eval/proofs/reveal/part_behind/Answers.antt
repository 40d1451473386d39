use Rattle.std.proofs.Common.{◌+◌, [], ◌∷◌, sym, subst}
use Rattle.ny_hands.specs.Frames.{Names, AllHeld}
use Rattle.ny_hands.proofs.HandLemmas.{hand_none}
use Rattle.ny_hands.proofs.SpendLemmas.{all_in_hand, all_given_up}
use Rattle.ny_eval.proofs.AnswerLemmas.{on_err}
use Rattle.ny_eval.proofs.EvalLemmas.{names_lent}
use Rattle.ny_eval.proofs.TurnLemmas.{next_turn, follows_hand}
use Rattle.ny_eval.proofs.DuePartLemmas.{lent_turn, lent_hand}
use Rattle.ny_eval.proofs.reveal.part_behind.Goals as goal

pub returns-in_err-late-clause-refused : goal.returns-in_err-late-clause-refused
returns-in_err-late-clause-refused c = on_err _ _ (hand_none c.args.heap.now c.lawful.ensures)

pub returns-in_err-frame-clause-refused : goal.returns-in_err-frame-clause-refused
returns-in_err-frame-clause-refused c = on_err _ _ (hand_none c.args.heap.now c.lawful.ensures)

pub evaluate-requires-clause-names : goal.evaluate-requires-clause-names
evaluate-requires-clause-names c = subst (λ (ns : Names). AllHeld c.args.heap.now ns) (sym (names_lent c.in_ok-frame.frame c.args.names.now c.in_ok-frame.ensures)) c.requires.names

pub following-requires : goal.following-requires
following-requires c = record { hands = all_in_hand c.args.heap.now c.evaluate.new.heap (c.in_ok-sound.sound ∷ []) c.lawful.ensures (lent_hand c.args.p.now c.args.e.0 c.in_ok-late.late c.in_ok-frame.frame c.args.names.now c.args.heap.now c.evaluate.new.heap c.in_ok-sound.sound c.in_ok-frame.ensures c.in_ok-sound.ensures.evaluates c.program_laws.ensures.ordered c.program_laws.ensures.free c.requires.inside c.lawful.ensures c.requires.names) }

pub returns-in_err-following-clause-refused : goal.returns-in_err-following-clause-refused
returns-in_err-following-clause-refused c =
    on_err _ _ (all_given_up c.args.heap.now c.evaluate.new.heap c.following.new.heap (c.in_ok-sound.sound ∷ []) c.lawful.ensures (lent_hand c.args.p.now c.args.e.0 c.in_ok-late.late c.in_ok-frame.frame c.args.names.now c.args.heap.now c.evaluate.new.heap c.in_ok-sound.sound c.in_ok-frame.ensures c.in_ok-sound.ensures.evaluates c.program_laws.ensures.ordered c.program_laws.ensures.free c.requires.inside c.lawful.ensures c.requires.names) c.in_err-following.ensures.gives_up)

pub returns-clause-turn : goal.returns-clause-turn
returns-clause-turn c =
    next_turn c.args.p.now (c.args.e.0 + 1) c.args.env.now c.in_ok-late.late c.args.stop (c.args.e, c.args.names.now) c.args.heap.now c.evaluate.new.heap c.following.new.heap c.in_ok-sound.sound c.in_ok-following.field-0 c.in_ok-late.ensures
    (lent_turn c.args.p.now c.args.e.0 c.in_ok-late.late c.in_ok-frame.frame c.args.names.now c.args.heap.now c.evaluate.new.heap c.in_ok-sound.sound c.in_ok-frame.ensures c.in_ok-sound.ensures.evaluates)
    c.in_ok-following.ensures.follows

pub returns-clause-hand : goal.returns-clause-hand
returns-clause-hand c =
    follows_hand c.args.env.now.sound_rate c.args.stop c.args.heap.now c.evaluate.new.heap c.following.new.heap c.in_ok-sound.sound c.in_ok-following.field-0 [] c.lawful.ensures (lent_hand c.args.p.now c.args.e.0 c.in_ok-late.late c.in_ok-frame.frame c.args.names.now c.args.heap.now c.evaluate.new.heap c.in_ok-sound.sound c.in_ok-frame.ensures c.in_ok-sound.ensures.evaluates c.program_laws.ensures.ordered c.program_laws.ensures.free c.requires.inside c.lawful.ensures c.requires.names) c.in_ok-following.ensures.follows
