use Rattle.std.proofs.Common.{ap, ◌∙◌, ◌+◌, ◌<◌, subst, sym, length}
use Rattle.ny_check.specs.declared.node.ExprId.{ExprId}
use Rattle.ny_hands.proofs.HandLemmas.{hand_none}
use Rattle.ny_hands.proofs.SpendLemmas.{all_in_hand, all_given_up}
use Rattle.ny_eval.specs.Framed.{names_in}
use Rattle.ny_eval.proofs.AnswerLemmas.{on_err}
use Rattle.ny_eval.proofs.BodyLemmas.{empty_frame, empty_held}
use Rattle.ny_eval.proofs.PlayedLemmas.{plays_hand}
use Rattle.ny_eval.proofs.PlayedOpeningLemmas.{channels_opened, channels_counts, channels_traced}
use Rattle.ny_eval.proofs.channels.eval_channels.Goals as goal

pub played-requires-clause-names : goal.played-requires-clause-names
played-requires-clause-names c = empty_held c.args.heap.now c.in_ok-frame.frame (empty_frame c.in_ok-frame.frame c.as_slice.result.now c.in_ok-frame.ensures (c.as_slice.ensures ∙ c.no_names-none.ensures))

pub channels_of-requires : goal.channels_of-requires
channels_of-requires c =
    let empty = empty_frame c.in_ok-frame.frame c.as_slice.result.now c.in_ok-frame.ensures (c.as_slice.ensures ∙ c.no_names-none.ensures) in
    let inside : c.play.result.0 < length c.args.p.now.nodes = subst (λ (x : ExprId). x.0 < length c.args.p.now.nodes) (sym c.play.ensures.value) c.program_laws.ensures.ordered.play in
    record {
      hands = all_in_hand c.args.heap.now c.played.new.heap c.in_ok-parts.parts.items c.requires.empty.laws
          (plays_hand c.args.p.now c.program_laws.ensures.ordered c.program_laws.ensures.free (c.play.result.0 + 1) c.play.result.0 c.in_ok-env.env (names_in c.in_ok-frame.frame) c.args.heap.now c.played.new.heap c.in_ok-parts.parts.items inside c.requires.empty.laws (empty_held c.args.heap.now c.in_ok-frame.frame empty) c.in_ok-parts.ensures.plays);
    }

pub returns-clause-counts : goal.returns-clause-counts
returns-clause-counts c =
    let empty = empty_frame c.in_ok-frame.frame c.as_slice.result.now c.in_ok-frame.ensures (c.as_slice.ensures ∙ c.no_names-none.ensures) in
    channels_counts c.args.p.now c.program_laws.ensures.ordered c.program_laws.ensures.free c.args.rate c.in_ok-env.env c.play.result (names_in c.in_ok-frame.frame) c.args.heap.now c.played.new.heap c.channels_of.new.heap c.in_ok-parts.parts.items c.in_ok-channels_of.field-0.items c.requires.empty c.in_ok-env.ensures c.play.ensures.value (ap names_in empty) c.in_ok-parts.ensures.plays c.in_ok-channels_of.ensures.turn

pub returns-clause-opened : goal.returns-clause-opened
returns-clause-opened c =
    let empty = empty_frame c.in_ok-frame.frame c.as_slice.result.now c.in_ok-frame.ensures (c.as_slice.ensures ∙ c.no_names-none.ensures) in
    channels_opened c.args.p.now c.program_laws.ensures.ordered c.program_laws.ensures.free c.args.rate c.in_ok-env.env c.play.result (names_in c.in_ok-frame.frame) c.args.heap.now c.played.new.heap c.channels_of.new.heap c.in_ok-parts.parts.items c.in_ok-channels_of.field-0.items c.requires.empty c.in_ok-env.ensures c.play.ensures.value (ap names_in empty) c.in_ok-parts.ensures.plays c.in_ok-channels_of.ensures.turn

pub returns-clause-traced : goal.returns-clause-traced
returns-clause-traced c =
    let empty = empty_frame c.in_ok-frame.frame c.as_slice.result.now c.in_ok-frame.ensures (c.as_slice.ensures ∙ c.no_names-none.ensures) in
    channels_traced c.args.p.now c.program_laws.ensures.ordered c.program_laws.ensures.free c.args.rate c.in_ok-env.env c.play.result (names_in c.in_ok-frame.frame) c.args.heap.now c.played.new.heap c.channels_of.new.heap c.in_ok-parts.parts.items c.in_ok-channels_of.field-0.items c.requires.empty c.in_ok-env.ensures c.play.ensures.value (ap names_in empty) c.in_ok-parts.ensures.plays c.in_ok-channels_of.ensures.turn

pub returns-in_err-env-clause-refused : goal.returns-in_err-env-clause-refused
returns-in_err-env-clause-refused c = on_err _ _ (hand_none c.args.heap.now c.requires.empty.laws)

pub returns-in_err-frame-clause-refused : goal.returns-in_err-frame-clause-refused
returns-in_err-frame-clause-refused c = on_err _ _ (hand_none c.args.heap.now c.requires.empty.laws)

pub returns-in_err-channels_of-clause-refused : goal.returns-in_err-channels_of-clause-refused
returns-in_err-channels_of-clause-refused c =
    let empty = empty_frame c.in_ok-frame.frame c.as_slice.result.now c.in_ok-frame.ensures (c.as_slice.ensures ∙ c.no_names-none.ensures) in
    let inside : c.play.result.0 < length c.args.p.now.nodes = subst (λ (x : ExprId). x.0 < length c.args.p.now.nodes) (sym c.play.ensures.value) c.program_laws.ensures.ordered.play in
    on_err _ _ (all_given_up c.args.heap.now c.played.new.heap c.channels_of.new.heap c.in_ok-parts.parts.items c.requires.empty.laws
    (plays_hand c.args.p.now c.program_laws.ensures.ordered c.program_laws.ensures.free (c.play.result.0 + 1) c.play.result.0 c.in_ok-env.env (names_in c.in_ok-frame.frame) c.args.heap.now c.played.new.heap c.in_ok-parts.parts.items inside c.requires.empty.laws (empty_held c.args.heap.now c.in_ok-frame.frame empty) c.in_ok-parts.ensures.plays)
    c.in_err-channels_of.ensures.gives_up)
