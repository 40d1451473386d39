use Rattle.std.proofs.Common.{[], ◌++◌, map, All, sym, ap, subst, ◌∙◌, append-nil, List}
use Rattle.ny_num.specs.declared.timing.Timing.{Timing}
use Rattle.ny_timing.specs.Timings.{IsTimingAt}
use Rattle.ny_heap.specs.declared.sound.Sound.{Sound}
use Rattle.ny_hands.specs.Hands.{GivesUp}
use Rattle.ny_hands.proofs.HandLemmas.{begin_first}
use Rattle.ny_hands.proofs.SpendLemmas.{in_hand_held, gives_up_trimmed}
use Rattle.ny_eval.proofs.AnswerLemmas.{on_err}
use Rattle.ny_eval.proofs.MixingLemmas.{none_where, some_where, times_at, mix_can_be, mix_held, mix_unit, silent_mix}
use Rattle.ny_eval.proofs.mixing.mix_of.Goals as goal

pub returns-in_err-silent-clause-gives_up : goal.returns-in_err-silent-clause-gives_up
returns-in_err-silent-clause-gives_up c =
    on_err _ _ (subst (λ ss. GivesUp c.args.heap.now c.silent.new.heap ss) (sym (none_where c.args.parts.items c.as_slice.result.now c.is_empty.result c.as_slice.ensures.value c.is_empty.ensures c.if-is_empty.true)) c.in_err-silent.ensures.gives_up)

pub returns-then-is_empty-clause-makes : goal.returns-then-is_empty-clause-makes
returns-then-is_empty-clause-makes c =
    silent_mix c.args.heap.now c.silent.new.heap c.args.rate c.args.parts.items c.in_ok-silent.field-0 (none_where c.args.parts.items c.as_slice.result.now c.is_empty.result c.as_slice.ensures.value c.is_empty.ensures c.if-is_empty.true) c.in_ok-silent.ensures.silent

pub mix_timing-timing-requires : goal.mix_timing-timing-requires
mix_timing-timing-requires c =
    let list = c.as_slice-in-Ok.ensures.value ∙ (c.in-Ok.ensures ∙ ap (map (λ (s : Sound). s.timing)) c.as_slice-2.ensures.value) in
    subst (λ (ts : List Timing). All (IsTimingAt c.args.rate) ts) (sym list)
    (times_at c.args.heap.now c.args.rate c.args.parts.items (begin_first c.args.heap.now c.args.parts.items c.requires.hands.others c.requires.hands.hand.begin) c.requires.rates)

pub make_mix-requires-clause-mix : goal.make_mix-requires-clause-mix
make_mix-requires-clause-mix c =
    let list = c.as_slice-in-Ok.ensures.value ∙ (c.in-Ok.ensures ∙ ap (map (λ (s : Sound). s.timing)) c.as_slice-2.ensures.value) in
    mix_can_be c.args.rate c.args.parts.items c.as_slice-in-Ok.result.now c.mix_timing-timing.result list c.mix_timing-timing.ensures.value (some_where c.args.parts.items c.as_slice.result.now c.is_empty.result c.as_slice.ensures.value c.is_empty.ensures c.if-is_empty.false) c.mix_timing-timing.ensures.bounds c.requires.rates

pub make_mix-requires-clause-inputs : goal.make_mix-requires-clause-inputs
make_mix-requires-clause-inputs c = mix_held c.args.heap.now c.args.parts.items _ c.new.result.items c.new.ensures.items (in_hand_held c.args.heap.now c.args.parts.items c.requires.hands)

pub returns-in_err-make_mix-in-Ok-clause-gives_up : goal.returns-in_err-make_mix-in-Ok-clause-gives_up
returns-in_err-make_mix-in-Ok-clause-gives_up c =
    let released = rw c.new.ensures.items at c.in_err-make_mix-in-Ok.ensures.released in
    on_err _ _ (gives_up_trimmed c.args.heap.now c.make_mix.new.self c.args.parts.items (c.args.parts.items ++ []) (append-nil c.args.parts.items) c.in_err-make_mix-in-Ok.ensures.laws released)

pub returns-in_ok-make_mix-in-Ok-clause-makes : goal.returns-in_ok-make_mix-in-Ok-clause-makes
returns-in_ok-make_mix-in-Ok-clause-makes c =
    let list = c.as_slice-in-Ok.ensures.value ∙ (c.in-Ok.ensures ∙ ap (map (λ (s : Sound). s.timing)) c.as_slice-2.ensures.value) in
    let makes = rw c.new.ensures.items at c.in_ok-make_mix-in-Ok.ensures.makes in
    let meaning = rw c.new.ensures.items at c.in_ok-make_mix-in-Ok.ensures.meaning in
    mix_unit c.args.heap.now c.make_mix.new.self c.args.rate c.args.parts.items c.as_slice-in-Ok.result.now c.mix_timing-timing.result c.in_ok-make_mix-in-Ok.field-0 list c.mix_timing-timing.ensures.value c.in_ok-make_mix-in-Ok.ensures.laws c.mix_timing-timing.ensures.bounds makes meaning

pub returns-in-Err-clause-gives_up : goal.returns-in-Err-clause-gives_up
returns-in-Err-clause-gives_up c = subst (λ ss. GivesUp c.args.heap.now c.give_up_all.new.heap ss) c.from.ensures.0 c.give_up_all.ensures.gives_up
