use Rattle.std.proofs.Common.{length-append, rules, ◌+◌, ◌<◌, List, [], ◌∷◌, length, take, get_or, arith, refl, sym, ap, subst, ◌∙◌, ◌++◌, inl, ◌-◌}
use Rattle.std.proofs.lemmas.Int.{ints}
use Rattle.std.proofs.lemmas.List.{drop_more}
use Rattle.ny_hands.specs.Hands.{GivesUp, Hand}
use Rattle.ny_hands.proofs.HandLemmas.{hand_none}
use Rattle.ny_hands.proofs.SpendLemmas.{all_in_hand, all_given_up, hand_brought}
use Rattle.ny_trace.specs.Evaluates.{IsNoNumber, JoinTurn, CallTurn, Part, PartsTurn, counted_names, Evaluates, sounds_of_values}
use Rattle.ny_kernels.specs.declared.operation.Op.TheVariants.{Sub}
use Rattle.ny_check.specs.declared.value.Value.TheVariants.{Number}
use Rattle.ny_trace.proofs.StepLemmas.{lifted, value_lifted}
use Rattle.ny_resolve.specs.declared.term.NameId.{NameId}
use Rattle.ny_warp.specs.declared.env.Env.{Env}
use Rattle.ny_check.specs.declared.node.ExprId.{ExprId}
use Rattle.ny_check.specs.Code.{AllBelow, BindsBelow, function_at}
use Rattle.ny_eval.specs.Framed.{names_in, FrameState}
use Rattle.ny_eval.specs.declared.parts.Parts.{Parts}
use Rattle.ny_eval.specs.Parts.{count_in, part_at}
use Rattle.ny_eval.proofs.AnswerLemmas.{on_err, err_one}
use Rattle.ny_eval.proofs.EvalLemmas.{sound_hand, value_hand, values_hand, first_hand, held_same, held_after, sound_under, value_under, number_is, no_number, operation_turn, pair_below, sign_below, call_below, block_below, effect_below, cue_below, mix_below, mix_is, repeat_below, choice_below, change_below, pair_arm, sign_arm, name_arm, call_arm, block_arm, leaf_arm, effect_arm, cue_arm, mix_arm, repeat_arm, choice_arm, change_arm, silent_arm}
use Rattle.ny_eval.proofs.BodyLemmas.{below_at, empty_frame, empty_held, empty_count, bound_none, bound_step, bound_grown, passed_none, passed_step, passed_grown, keep_refused, grown_still, held_grown, body_hand, leave_within, leave_hands, left_same, left_refused, block_turn, call_turn, if_ok}
use Rattle.ny_eval.proofs.ShapeLemmas.{effect_single, effect_made, effect_kind}
use Rattle.ny_eval.proofs.PartLemmas.{parts_all, expr_below, part_turn, number_in_hand, number_given_up, number_grown, counted_turn, parts_none, parts_refused, parts_more, below_table}
use Rattle.ny_eval.proofs.TurnLemmas.{part_hand, next_turn, follows_hand, next_none, next_at, next_refused, last_behind, late_enough, due_more, due_first, gains_in, gained_hand, starts_with, held_timed, seq_turn, some_parts}
use Rattle.ny_heap.specs.declared.sound.Sound.{Sound}
use Rattle.ny_heap.specs.Steps.{last_stop_of}
use Rattle.ny_eval.proofs.WaitingLemmas.{hand_still}
use Rattle.ny_eval.specs.Turns.{RestTurn, NextAreDue, AreParts}
use Rattle.ny_eval.specs.Waiting.{parts_between}
use Rattle.ny_eval.proofs.FitLemmas.{seq_fits}
use Rattle.ny_resolve.specs.declared.builtin.Order.TheVariants.{InTurn}
use Rattle.ny_resolve.specs.declared.builtin.Order.{Order}
use Rattle.ny_eval.proofs.expression.+evaluate.Goals as goal

-- ---- an expression

pub evaluate-pair-requires : goal.evaluate-pair-requires
evaluate-pair-requires t c =
    let under = pair_below c.args.p.now c.args.e.0 c.in-Pair.op c.in-Pair.a c.in-Pair.b c.node.result.now c.in-Pair.is c.node.ensures.ordered in
    (omega (arith, under.0, under.1, c.decreases), (omega (arith, under.0, c.requires.inside), (omega (arith, under.1, c.requires.inside), c.requires.names)))

pub evaluate-returns-in_ok-pair-in-Pair-clause-evaluates : goal.evaluate-returns-in_ok-pair-in-Pair-clause-evaluates
evaluate-returns-in_ok-pair-in-Pair-clause-evaluates t c =
    pair_arm c.args.p.now c.args.e.0 c.node.result.now c.args.env (names_in c.args.frame.now) c.args.heap.now c.pair.new.heap c.in_ok-pair-in-Pair.field-0 c.node.ensures.value c.node.ensures.ordered c.in-Pair.op c.in-Pair.a c.in-Pair.b c.in-Pair.is c.in_ok-pair-in-Pair.ensures.turn

pub evaluate-returns-in_ok-named-in-Local-clause-evaluates : goal.evaluate-returns-in_ok-named-in-Local-clause-evaluates
evaluate-returns-in_ok-named-in-Local-clause-evaluates t c =
    name_arm c.args.p.now c.args.e.0 c.node.result.now c.args.env (names_in c.args.frame.now) c.args.heap.now c.named.new.heap c.in_ok-named-in-Local.field-0 c.node.ensures.value c.node.ensures.ordered c.in-Local.x c.in-Local.is c.in_ok-named-in-Local.ensures.turn

pub evaluate-call-requires : goal.evaluate-call-requires
evaluate-call-requires t c =
    let under = call_below c.args.p.now c.args.e.0 c.in-Call.f c.in-Call.parts c.node.result.now c.in-Call.is c.node.ensures.ordered in
    (omega (arith, c.decreases), (c.requires.inside, (subst (λ es. AllBelow c.args.e.0 es) (sym c.as_slice.ensures) under.0, (under.1, (under.2, c.requires.names)))))

pub evaluate-returns-in_ok-call-in-Call-clause-evaluates : goal.evaluate-returns-in_ok-call-in-Call-clause-evaluates
evaluate-returns-in_ok-call-in-Call-clause-evaluates t c =
    call_arm c.args.p.now c.args.e.0 c.node.result.now c.args.env (names_in c.args.frame.now) c.args.heap.now c.call.new.heap c.in_ok-call-in-Call.field-0 c.node.ensures.value c.node.ensures.ordered c.in-Call.f c.in-Call.parts c.as_slice.result.now c.in-Call.is c.as_slice.ensures c.in_ok-call-in-Call.ensures.turn

pub evaluate-block-requires : goal.evaluate-block-requires
evaluate-block-requires t c =
    let under = block_below c.args.p.now c.args.e.0 c.in-Block.binds c.in-Block.value c.node.result.now c.in-Block.is c.node.ensures.ordered in
    (omega (arith, c.decreases), (c.requires.inside, (subst (λ bs. BindsBelow c.args.e.0 bs) (sym c.as_slice-in-Block.ensures) under.0, (under.1, c.requires.names))))

pub evaluate-returns-in_ok-block-in-Block-clause-evaluates : goal.evaluate-returns-in_ok-block-in-Block-clause-evaluates
evaluate-returns-in_ok-block-in-Block-clause-evaluates t c =
    block_arm c.args.p.now c.args.e.0 c.node.result.now c.args.env (names_in c.args.frame.now) c.args.heap.now c.block.new.heap c.in_ok-block-in-Block.field-0 c.node.ensures.value c.node.ensures.ordered c.in-Block.binds c.in-Block.value c.as_slice-in-Block.result.now c.in-Block.is c.as_slice-in-Block.ensures c.in_ok-block-in-Block.ensures.turn

pub evaluate-negated-requires : goal.evaluate-negated-requires
evaluate-negated-requires t c =
    let under = sign_below c.args.p.now c.args.e.0 c.in-Neg.a c.node.result.now c.in-Neg.is c.node.ensures.ordered in
    (omega (arith, under, c.decreases), (omega (arith, under, c.requires.inside), c.requires.names))

pub evaluate-returns-in_ok-negated-in-Neg-clause-evaluates : goal.evaluate-returns-in_ok-negated-in-Neg-clause-evaluates
evaluate-returns-in_ok-negated-in-Neg-clause-evaluates t c =
    sign_arm c.args.p.now c.args.e.0 c.node.result.now c.args.env (names_in c.args.frame.now) c.args.heap.now c.negated.new.heap c.in_ok-negated-in-Neg.field-0 c.node.ensures.value c.node.ensures.ordered c.in-Neg.a c.in-Neg.is c.in_ok-negated-in-Neg.ensures.turn

pub evaluate-returns-in_ok-make_leaf-in-Leaf-clause-evaluates : goal.evaluate-returns-in_ok-make_leaf-in-Leaf-clause-evaluates
evaluate-returns-in_ok-make_leaf-in-Leaf-clause-evaluates t c =
    leaf_arm c.args.p.now c.args.e.0 c.node.result.now c.args.env (names_in c.args.frame.now) c.args.heap.now c.make_leaf.new.heap c.in_ok-make_leaf-in-Leaf.field-0 c.node.ensures.value c.node.ensures.ordered c.in-Leaf.generator c.in-Leaf.parts c.as_slice-in-Leaf.result.now c.in-Leaf.is c.as_slice-in-Leaf.ensures c.in_ok-make_leaf-in-Leaf.ensures.turn

pub evaluate-affected-requires : goal.evaluate-affected-requires
evaluate-affected-requires t c =
    let under = effect_below c.args.p.now c.args.e.0 c.in-Effect.effect c.in-Effect.part c.in-Effect.parts c.node.result.now c.in-Effect.is c.node.ensures.ordered in
    (omega (arith, under, c.decreases), (c.requires.inside, (omega (arith, under, c.requires.inside), (search rules, c.requires.names))))

pub evaluate-returns-in_ok-affected-in-Effect-clause-evaluates : goal.evaluate-returns-in_ok-affected-in-Effect-clause-evaluates
evaluate-returns-in_ok-affected-in-Effect-clause-evaluates t c =
    effect_arm c.args.p.now c.args.e.0 c.node.result.now c.args.env (names_in c.args.frame.now) c.args.heap.now c.affected.new.heap c.in_ok-affected-in-Effect.field-0 c.node.ensures.value c.node.ensures.ordered c.in-Effect.effect c.in-Effect.part c.in-Effect.parts c.as_slice-in-Effect.result.now c.in-Effect.is c.as_slice-in-Effect.ensures c.in_ok-affected-in-Effect.ensures.turn

pub evaluate-cue-requires : goal.evaluate-cue-requires
evaluate-cue-requires t c =
    let under = cue_below c.args.p.now c.args.e.0 c.in-Cue.part c.node.result.now c.in-Cue.is c.node.ensures.ordered in
    (omega (arith, under, c.decreases), (omega (arith, under, c.requires.inside), c.requires.names))

pub evaluate-returns-in_ok-cue-in-Cue-clause-evaluates : goal.evaluate-returns-in_ok-cue-in-Cue-clause-evaluates
evaluate-returns-in_ok-cue-in-Cue-clause-evaluates t c =
    cue_arm c.args.p.now c.args.e.0 c.node.result.now c.args.env (names_in c.args.frame.now) c.args.heap.now c.cue.new.heap c.in_ok-cue-in-Cue.field-0 c.node.ensures.value c.node.ensures.ordered c.in-Cue.part c.in-Cue.is c.in_ok-cue-in-Cue.ensures.turn

pub evaluate-in_order-requires : goal.evaluate-in_order-requires
evaluate-in_order-requires t c =
    let under = mix_below c.args.p.now c.args.e.0 c.in-Mix.order c.in-Mix.parts c.node.result.now c.in-Mix.is c.node.ensures.ordered in
    let node = mix_is c.args.p.now c.args.e.0 c.in-Mix.order c.in-Mix.parts c.as_slice-in-Mix.result.now c.node.result.now c.in-Mix.is c.node.ensures.value c.as_slice-in-Mix.ensures in
    (omega (arith, c.decreases), (c.requires.inside, (subst (λ es. AllBelow c.args.e.0 es) (sym c.as_slice-in-Mix.ensures) under, (node, c.requires.names))))

pub evaluate-returns-in_ok-in_order-in-Mix-clause-evaluates : goal.evaluate-returns-in_ok-in_order-in-Mix-clause-evaluates
evaluate-returns-in_ok-in_order-in-Mix-clause-evaluates t c =
    mix_arm c.args.p.now c.args.e.0 c.node.result.now c.args.env (names_in c.args.frame.now) c.args.heap.now c.in_order.new.heap c.in_ok-in_order-in-Mix.field-0 c.node.ensures.value c.node.ensures.ordered c.in-Mix.order c.in-Mix.parts c.as_slice-in-Mix.result.now c.in-Mix.is c.as_slice-in-Mix.ensures c.in_ok-in_order-in-Mix.ensures.turn

pub evaluate-in_order-requires-in-Repeat : goal.evaluate-in_order-requires-in-Repeat
evaluate-in_order-requires-in-Repeat t c =
    let under = repeat_below c.args.p.now c.args.e.0 c.in-Repeat.order c.in-Repeat.i c.in-Repeat.count c.in-Repeat.part c.node.result.now c.in-Repeat.is c.node.ensures.ordered in
    (omega (arith, c.decreases), (c.requires.inside, (under, (sym c.node.ensures.value ∙ c.in-Repeat.is, c.requires.names))))

pub evaluate-returns-in_ok-in_order-in-Repeat-clause-evaluates : goal.evaluate-returns-in_ok-in_order-in-Repeat-clause-evaluates
evaluate-returns-in_ok-in_order-in-Repeat-clause-evaluates t c =
    repeat_arm c.args.p.now c.args.e.0 c.node.result.now c.args.env (names_in c.args.frame.now) c.args.heap.now c.in_order-in-Repeat.new.heap c.in_ok-in_order-in-Repeat.field-0 c.node.ensures.value c.node.ensures.ordered c.in-Repeat.order c.in-Repeat.i c.in-Repeat.count c.in-Repeat.part c.in-Repeat.is c.in_ok-in_order-in-Repeat.ensures.turn

pub evaluate-returns-in_err-test-in-If-clause-refused : goal.evaluate-returns-in_err-test-in-If-clause-refused
evaluate-returns-in_err-test-in-If-clause-refused t c = on_err _ _ (hand_none c.args.heap.now c.lawful.ensures)

pub evaluate-evaluate-requires : goal.evaluate-evaluate-requires
evaluate-evaluate-requires t c =
    let under = choice_below c.args.p.now c.args.e.0 c.in-If.c c.in-If.a c.in-If.b c.in_ok-test-in-If.field-0 c.chosen-part.result.0 c.node.result.now c.in-If.is c.node.ensures.ordered c.chosen-part.ensures in
    (omega (arith, under, c.decreases), (omega (arith, under, c.requires.inside), held_same c.args.heap.now c.args.frame.now c.test.new.self c.test.ensures.same c.requires.names))

pub evaluate-returns-in_ok-evaluate-in-If-clause-evaluates : goal.evaluate-returns-in_ok-evaluate-in-If-clause-evaluates
evaluate-returns-in_ok-evaluate-in-If-clause-evaluates t c =
    choice_arm c.args.p.now c.args.e.0 c.node.result.now c.args.env (names_in c.args.frame.now) c.args.heap.now c.evaluate.new.heap c.in_ok-evaluate-in-If.field-0 c.node.ensures.value c.node.ensures.ordered c.in-If.c c.in-If.a c.in-If.b c.in_ok-test-in-If.field-0 c.chosen-part.result.0 c.in-If.is c.in_ok-test-in-If.ensures.value c.chosen-part.ensures (sound_under c.args.p.now (c.chosen-part.result.0 + 1) c.chosen-part.result.0 c.args.env c.args.frame.now c.test.new.self c.args.heap.now c.evaluate.new.heap c.in_ok-evaluate-in-If.field-0 c.test.ensures.same c.in_ok-evaluate-in-If.ensures.evaluates)

pub evaluate-returns-in_err-apply-in-Change-clause-refused : goal.evaluate-returns-in_err-apply-in-Change-clause-refused
evaluate-returns-in_err-apply-in-Change-clause-refused t c = on_err _ _ (hand_none c.args.heap.now c.lawful.ensures)

pub evaluate-evaluate-requires-in-Change : goal.evaluate-evaluate-requires-in-Change
evaluate-evaluate-requires-in-Change t c =
    let under = change_below c.args.p.now c.args.e.0 c.in-Change.change c.in-Change.part c.node.result.now c.in-Change.is c.node.ensures.ordered in
    (omega (arith, under, c.decreases), (omega (arith, under, c.requires.inside), held_same c.args.heap.now c.args.frame.now c.apply.new.frame c.apply.ensures.same c.requires.names))

pub evaluate-returns-in_ok-evaluate-in-Change-clause-evaluates : goal.evaluate-returns-in_ok-evaluate-in-Change-clause-evaluates
evaluate-returns-in_ok-evaluate-in-Change-clause-evaluates t c =
    change_arm c.args.p.now c.args.e.0 c.node.result.now c.args.env (names_in c.args.frame.now) c.args.heap.now c.evaluate-in-Change.new.heap c.in_ok-evaluate-in-Change.field-0 c.node.ensures.value c.node.ensures.ordered c.in-Change.change c.in-Change.part c.apply.new.env c.in-Change.is c.in_ok-apply-in-Change.ensures.changed (sound_under c.args.p.now (c.in-Change.part.0 + 1) c.in-Change.part.0 c.apply.new.env c.args.frame.now c.apply.new.frame c.args.heap.now c.evaluate-in-Change.new.heap c.in_ok-evaluate-in-Change.field-0 c.apply.ensures.same c.in_ok-evaluate-in-Change.ensures.evaluates)

pub evaluate-returns-in_err-silent-in_default : goal.evaluate-returns-in_err-silent-in_default
evaluate-returns-in_err-silent-in_default t c = record { evaluates = search rules; same = refl; refused = on_err _ _ (all_given_up c.args.heap.now c.args.heap.now c.silent.new.heap [] c.lawful.ensures (hand_none c.args.heap.now c.lawful.ensures) c.in_err-silent-in_default.ensures.gives_up) }

pub evaluate-returns-in_ok-silent-in_default : goal.evaluate-returns-in_ok-silent-in_default
evaluate-returns-in_ok-silent-in_default t c =
    let no = c.in_default in
    record {
      evaluates = silent_arm c.args.p.now c.args.e.0 c.node.result.now c.args.env (names_in c.args.frame.now) c.args.heap.now c.silent.new.heap c.in_ok-silent-in_default.field-0 c.node.ensures.value c.node.ensures.ordered no.not-Local no.not-Call no.not-Block no.not-Pair no.not-Neg no.not-Leaf no.not-Effect no.not-If no.not-Cue no.not-Mix no.not-Repeat no.not-Change c.in_ok-silent-in_default.ensures.silent;
      same = refl;
      refused = tt;
    }

-- ---- an operand

pub operand-returns-in_err-scalar-clause-refused : goal.operand-returns-in_err-scalar-clause-refused
operand-returns-in_err-scalar-clause-refused t c = on_err _ _ (hand_none c.args.heap.now c.lawful.ensures)

pub operand-returns-in-Some-clause-turn : goal.operand-returns-in-Some-clause-turn
operand-returns-in-Some-clause-turn t c = (sym c.in_ok-scalar.ensures.value ∙ number_is c.in_ok-scalar.scalar c.in-Some.v (sym c.in-Some.is ∙ c.number_in.ensures), refl)

pub operand-returns-in_ok-evaluate-in-None-clause-turn : goal.operand-returns-in_ok-evaluate-in-None-clause-turn
operand-returns-in_ok-evaluate-in-None-clause-turn t c = (subst IsNoNumber c.in_ok-scalar.ensures.value (no_number c.in_ok-scalar.scalar (sym c.in-None.is ∙ c.number_in.ensures)), sound_under c.args.p.now (c.args.e.0 + 1) c.args.e.0 c.args.env c.args.frame.now c.scalar.new.self c.args.heap.now c.evaluate.new.heap c.in_ok-evaluate-in-None.field-0 c.scalar.ensures.same c.in_ok-evaluate-in-None.ensures.evaluates)

pub operand-evaluate-requires : goal.operand-evaluate-requires
operand-evaluate-requires t c = (omega (arith, c.decreases), (c.requires.inside, held_same c.args.heap.now c.args.frame.now c.scalar.new.self c.scalar.ensures.same c.requires.names))

-- ---- two operands

pub pair-returns-in_err-copy-clause-refused : goal.pair-returns-in_err-copy-clause-refused
pair-returns-in_err-copy-clause-refused t c = on_err _ _ (hand_none c.args.heap.now c.lawful.ensures)

pub pair-operand-requires-2 : goal.pair-operand-requires-2
pair-operand-requires-2 t c =
    let one = value_hand c.args.p.now c.program_laws.ensures.ordered c.program_laws.ensures.free (c.args.a.0 + 1) c.args.a c.in_ok-copy.field-0 (names_in c.args.frame.now) c.args.heap.now c.operand.new.heap c.in_ok-left.left c.requires.first c.lawful.ensures c.requires.names c.in_ok-left.ensures.turn in
    (omega (arith, c.decreases), (c.requires.second, held_after c.args.heap.now c.operand.new.heap (sounds_of_values (c.in_ok-left.left ∷ [])) c.args.frame.now c.operand.new.frame c.lawful.ensures one c.operand.ensures.same c.requires.names))

pub pair-joined-requires : goal.pair-joined-requires
pair-joined-requires t c =
    let one = value_hand c.args.p.now c.program_laws.ensures.ordered c.program_laws.ensures.free (c.args.a.0 + 1) c.args.a c.in_ok-copy.field-0 (names_in c.args.frame.now) c.args.heap.now c.operand.new.heap c.in_ok-left.left c.requires.first c.lawful.ensures c.requires.names c.in_ok-left.ensures.turn in
    let named = held_after c.args.heap.now c.operand.new.heap (sounds_of_values (c.in_ok-left.left ∷ [])) c.args.frame.now c.operand.new.frame c.lawful.ensures one c.operand.ensures.same c.requires.names in
    let two = value_hand c.args.p.now c.program_laws.ensures.ordered c.program_laws.ensures.free (c.args.b.0 + 1) c.args.b c.args.env (names_in c.operand.new.frame) c.operand.new.heap c.operand-2.new.heap c.in-Ok.right c.requires.second one.laws named c.in-Ok.ensures.turn in
    record { hands = all_in_hand c.args.heap.now c.operand-2.new.heap (sounds_of_values (c.in_ok-left.left ∷ c.in-Ok.right ∷ [])) c.lawful.ensures (values_hand c.args.heap.now c.operand.new.heap c.operand-2.new.heap c.in_ok-left.left c.in-Ok.right one two) }

pub pair-returns-in_err-joined-in-Ok-clause-refused : goal.pair-returns-in_err-joined-in-Ok-clause-refused
pair-returns-in_err-joined-in-Ok-clause-refused t c =
    let one = value_hand c.args.p.now c.program_laws.ensures.ordered c.program_laws.ensures.free (c.args.a.0 + 1) c.args.a c.in_ok-copy.field-0 (names_in c.args.frame.now) c.args.heap.now c.operand.new.heap c.in_ok-left.left c.requires.first c.lawful.ensures c.requires.names c.in_ok-left.ensures.turn in
    let named = held_after c.args.heap.now c.operand.new.heap (sounds_of_values (c.in_ok-left.left ∷ [])) c.args.frame.now c.operand.new.frame c.lawful.ensures one c.operand.ensures.same c.requires.names in
    let two = value_hand c.args.p.now c.program_laws.ensures.ordered c.program_laws.ensures.free (c.args.b.0 + 1) c.args.b c.args.env (names_in c.operand.new.frame) c.operand.new.heap c.operand-2.new.heap c.in-Ok.right c.requires.second one.laws named c.in-Ok.ensures.turn in
    on_err _ _ (all_given_up c.args.heap.now c.operand-2.new.heap c.joined.new.heap (sounds_of_values (c.in_ok-left.left ∷ c.in-Ok.right ∷ [])) c.lawful.ensures (values_hand c.args.heap.now c.operand.new.heap c.operand-2.new.heap c.in_ok-left.left c.in-Ok.right one two) c.in_err-joined-in-Ok.ensures.gives_up)

pub pair-returns-in_ok-joined-in-Ok-clause-turn : goal.pair-returns-in_ok-joined-in-Ok-clause-turn
pair-returns-in_ok-joined-in-Ok-clause-turn t c n less =
    operation_turn c.args.p.now c.args.op c.args.a c.args.b c.args.env c.in_ok-copy.field-0 (names_in c.args.frame.now) c.args.heap.now c.operand.new.heap c.operand-2.new.heap c.joined.new.heap c.in_ok-left.left c.in-Ok.right c.in_ok-joined-in-Ok.field-0 n c.in_ok-copy.ensures less c.in_ok-left.ensures.turn (value_under c.args.p.now (c.args.b.0 + 1) c.args.b c.args.env c.args.frame.now c.operand.new.frame c.operand.new.heap c.operand-2.new.heap c.in-Ok.right c.operand.ensures.same c.in-Ok.ensures.turn) c.in_ok-joined-in-Ok.ensures.turn

pub pair-give_up-requires : goal.pair-give_up-requires
pair-give_up-requires t c =
    let one = value_hand c.args.p.now c.program_laws.ensures.ordered c.program_laws.ensures.free (c.args.a.0 + 1) c.args.a c.in_ok-copy.field-0 (names_in c.args.frame.now) c.args.heap.now c.operand.new.heap c.in_ok-left.left c.requires.first c.lawful.ensures c.requires.names c.in_ok-left.ensures.turn in
    record { hands = all_in_hand c.args.heap.now c.operand-2.new.heap (sounds_of_values (c.in_ok-left.left ∷ [])) c.lawful.ensures (first_hand c.args.heap.now c.operand.new.heap c.operand-2.new.heap c.in_ok-left.left one c.in-Err.ensures.refused) }

pub pair-returns-in-Err-clause-refused : goal.pair-returns-in-Err-clause-refused
pair-returns-in-Err-clause-refused t c =
    let one = value_hand c.args.p.now c.program_laws.ensures.ordered c.program_laws.ensures.free (c.args.a.0 + 1) c.args.a c.in_ok-copy.field-0 (names_in c.args.frame.now) c.args.heap.now c.operand.new.heap c.in_ok-left.left c.requires.first c.lawful.ensures c.requires.names c.in_ok-left.ensures.turn in
    all_given_up c.args.heap.now c.operand-2.new.heap c.give_up.new.heap (sounds_of_values (c.in_ok-left.left ∷ [])) c.lawful.ensures (first_hand c.args.heap.now c.operand.new.heap c.operand-2.new.heap c.in_ok-left.left one c.in-Err.ensures.refused) c.give_up.ensures.gives_up

-- ---- the other sign

pub negated-joined-requires : goal.negated-joined-requires
negated-joined-requires t c =
    let one = value_hand c.args.p.now c.program_laws.ensures.ordered c.program_laws.ensures.free (c.args.a.0 + 1) c.args.a c.args.env (names_in c.args.frame.now) c.args.heap.now c.operand.new.heap c.in_ok-value.value c.requires.inside c.lawful.ensures c.requires.names c.in_ok-value.ensures.turn in
    record { hands = all_in_hand c.args.heap.now c.operand.new.heap (sounds_of_values (c.in_ok-value.value ∷ [])) c.lawful.ensures one }

pub negated-returns-in_err-joined-clause-refused : goal.negated-returns-in_err-joined-clause-refused
negated-returns-in_err-joined-clause-refused t c =
    let one = value_hand c.args.p.now c.program_laws.ensures.ordered c.program_laws.ensures.free (c.args.a.0 + 1) c.args.a c.args.env (names_in c.args.frame.now) c.args.heap.now c.operand.new.heap c.in_ok-value.value c.requires.inside c.lawful.ensures c.requires.names c.in_ok-value.ensures.turn in
    on_err _ _ (all_given_up c.args.heap.now c.operand.new.heap c.joined.new.heap (sounds_of_values (c.in_ok-value.value ∷ [])) c.lawful.ensures one c.in_err-joined.ensures.gives_up)

pub negated-returns-clause-turn : goal.negated-returns-clause-turn
negated-returns-clause-turn t c n less =
    record { value = c.in_ok-value.value; mid = c.operand.new.heap; operand = value_lifted c.args.p.now (c.args.a.0 + 1) n c.args.a c.args.env (names_in c.args.frame.now) c.args.heap.now c.operand.new.heap c.in_ok-value.value (omega (arith, less)) c.in_ok-value.ensures.turn; joined = subst (λ k. JoinTurn Sub c.args.env.sound_rate (Number k) c.in_ok-value.value c.operand.new.heap c.joined.new.heap c.in_ok-joined.field-0) (c.of.ensures.exact (omega (arith, ints), omega (arith, ints))) c.in_ok-joined.ensures.turn }

-- ---- an effect

pub affected-returns-in_err-numbers-clause-refused : goal.affected-returns-in_err-numbers-clause-refused
affected-returns-in_err-numbers-clause-refused t c = on_err _ _ (hand_none c.args.heap.now c.lawful.ensures)

pub affected-evaluate-requires : goal.affected-evaluate-requires
affected-evaluate-requires t c = (omega (arith, c.decreases), (c.requires.part, held_same c.args.heap.now c.args.frame.now c.numbers.new.frame c.numbers.ensures.same c.requires.names))

pub affected-single-requires-clause-hands : goal.affected-single-requires-clause-hands
affected-single-requires-clause-hands t c =
    all_in_hand c.args.heap.now c.evaluate.new.heap (c.in_ok-sound.sound ∷ []) c.lawful.ensures
    (sound_hand c.args.p.now c.program_laws.ensures.ordered c.program_laws.ensures.free (c.args.part.0 + 1) c.args.part.0 c.args.env (names_in c.numbers.new.frame) c.args.heap.now c.evaluate.new.heap c.in_ok-sound.sound c.requires.part c.lawful.ensures (held_same c.args.heap.now c.args.frame.now c.numbers.new.frame c.numbers.ensures.same c.requires.names) c.in_ok-sound.ensures.evaluates)

pub affected-single-requires-clause-made : goal.affected-single-requires-clause-made
affected-single-requires-clause-made t c = effect_single c.args.effect c.as_slice.result.now c.in_ok-sound.sound.timing.rate c.make_of-make.result c.make_of-make.ensures

pub affected-returns-in_err-single-clause-refused : goal.affected-returns-in_err-single-clause-refused
affected-returns-in_err-single-clause-refused t c =
    on_err _ _ (all_given_up c.args.heap.now c.evaluate.new.heap c.single.new.heap (c.in_ok-sound.sound ∷ []) c.lawful.ensures
    (sound_hand c.args.p.now c.program_laws.ensures.ordered c.program_laws.ensures.free (c.args.part.0 + 1) c.args.part.0 c.args.env (names_in c.numbers.new.frame) c.args.heap.now c.evaluate.new.heap c.in_ok-sound.sound c.requires.part c.lawful.ensures (held_same c.args.heap.now c.args.frame.now c.numbers.new.frame c.numbers.ensures.same c.requires.names) c.in_ok-sound.ensures.evaluates)
    c.in_err-single.ensures.gives_up)

pub affected-returns-clause-turn : goal.affected-returns-clause-turn
affected-returns-clause-turn t c n less = record {
  part = c.in_ok-sound.sound;
  mid = c.evaluate.new.heap;
  evaluates = lifted c.args.p.now (c.args.part.0 + 1) n c.args.part.0 c.args.env (names_in c.args.frame.now) c.args.heap.now c.evaluate.new.heap c.in_ok-sound.sound (omega (arith, less)) (sound_under c.args.p.now (c.args.part.0 + 1) c.args.part.0 c.args.env c.args.frame.now c.numbers.new.frame c.args.heap.now c.evaluate.new.heap c.in_ok-sound.sound c.numbers.ensures.same c.in_ok-sound.ensures.evaluates);
  unit = c.make_of-make.result;
  is = effect_made c.args.effect c.as_slice.result.now _ c.in_ok-sound.sound.timing.rate c.make_of-make.result c.make_of-make.ensures (c.as_slice.ensures.value ∙ c.in_ok-numbers.ensures.values);
  kind = effect_kind c.args.effect c.as_slice.result.now c.in_ok-sound.sound.timing.rate c.make_of-make.result c.make_of-make.ensures;
  made = c.in_ok-single.ensures.makes;
}

-- ---- a cue

pub cue-returns-in_err-copy-clause-refused : goal.cue-returns-in_err-copy-clause-refused
cue-returns-in_err-copy-clause-refused t c = on_err _ _ (hand_none c.args.heap.now c.lawful.ensures)

pub cue-evaluate-requires : goal.cue-evaluate-requires
cue-evaluate-requires t c = (omega (arith, c.decreases), (c.requires.inside, c.requires.names))

pub cue-cued-requires : goal.cue-cued-requires
cue-cued-requires t c = record {
  hands = all_in_hand c.args.heap.now c.evaluate.new.heap (c.in_ok-sound.sound ∷ []) c.lawful.ensures
      (sound_hand c.args.p.now c.program_laws.ensures.ordered c.program_laws.ensures.free (c.args.part.0 + 1) c.args.part.0 c.in_ok-copy.field-0 (names_in c.args.frame.now) c.args.heap.now c.evaluate.new.heap c.in_ok-sound.sound c.requires.inside c.lawful.ensures c.requires.names c.in_ok-sound.ensures.evaluates);
}

pub cue-returns-in_err-cued-clause-refused : goal.cue-returns-in_err-cued-clause-refused
cue-returns-in_err-cued-clause-refused t c =
    on_err _ _ (all_given_up c.args.heap.now c.evaluate.new.heap c.cued.new.heap (c.in_ok-sound.sound ∷ []) c.lawful.ensures
    (sound_hand c.args.p.now c.program_laws.ensures.ordered c.program_laws.ensures.free (c.args.part.0 + 1) c.args.part.0 c.in_ok-copy.field-0 (names_in c.args.frame.now) c.args.heap.now c.evaluate.new.heap c.in_ok-sound.sound c.requires.inside c.lawful.ensures c.requires.names c.in_ok-sound.ensures.evaluates)
    c.in_err-cued.ensures.gives_up)

pub cue-returns-clause-turn : goal.cue-returns-clause-turn
cue-returns-clause-turn t c n less = record {
  part = c.in_ok-sound.sound;
  mid = c.evaluate.new.heap;
  evaluates = lifted c.args.p.now (c.args.part.0 + 1) n c.args.part.0 c.args.env (names_in c.args.frame.now) c.args.heap.now c.evaluate.new.heap c.in_ok-sound.sound (omega (arith, less))
      (subst (λ (q : Env). Evaluates c.args.p.now (c.args.part.0 + 1) c.args.part.0 q (names_in c.args.frame.now) c.args.heap.now c.evaluate.new.heap c.in_ok-sound.sound) c.in_ok-copy.ensures c.in_ok-sound.ensures.evaluates);
  cued = c.in_ok-cued.ensures.turn;
}

-- ---- a part of a mix

pub part-evaluate-requires : goal.part-evaluate-requires
part-evaluate-requires t c =
    let is = ap (λ (q : Parts). part_at (names_in c.args.frame.now) q c.args.k) c.in-Listed.is ∙ ap (λ (y : ExprId). (y, names_in c.args.frame.now)) (sym (c.expr_at.ensures (record { 0 = 0 }))) in
    let x = c.expr_at.result in
    let below = expr_below (names_in c.args.frame.now) c.args.parts.now c.args.k x (names_in c.args.frame.now) is c.requires.place c.args.e.0 c.requires.below in
    (omega (arith, below, c.decreases), (omega (arith, below, c.requires.inside), c.requires.names))

pub part-returns-in_ok-evaluate-in-Listed-clause-evaluates : goal.part-returns-in_ok-evaluate-in-Listed-clause-evaluates
part-returns-in_ok-evaluate-in-Listed-clause-evaluates t c =
    let is = ap (λ (q : Parts). part_at (names_in c.args.frame.now) q c.args.k) c.in-Listed.is ∙ ap (λ (y : ExprId). (y, names_in c.args.frame.now)) (sym (c.expr_at.ensures (record { 0 = 0 }))) in
    part_turn (names_in c.args.frame.now) c.args.parts.now c.args.k c.expr_at.result (names_in c.args.frame.now) is c.requires.place c.args.p.now c.args.e.0 c.args.env c.args.heap.now c.evaluate.new.heap c.in_ok-evaluate-in-Listed.field-0 c.requires.below c.in_ok-evaluate-in-Listed.ensures.evaluates

pub part-turn_number-requires : goal.part-turn_number-requires
part-turn_number-requires t c = omega (arith, c.requires.place, ap count_in c.in-Counted.is)

pub part-keep-requires : goal.part-keep-requires
part-keep-requires t c = record { hands = number_in_hand c.args.frame.now c.args.frame.now c.args.heap.now c.in-Counted.i c.turn_number.result c.args.k c.lawful.ensures c.turn_number.ensures }

pub part-returns-in_err-keep-in-Counted-clause-refused : goal.part-returns-in_err-keep-in-Counted-clause-refused
part-returns-in_err-keep-in-Counted-clause-refused t c = on_err _ _ (number_given_up c.args.frame.now c.keep.new.self c.args.heap.now c.in-Counted.i c.turn_number.result c.args.k c.lawful.ensures c.turn_number.ensures c.keep.new.heap c.in_err-keep-in-Counted.ensures.gives_up)

pub part-evaluate-sound-requires : goal.part-evaluate-sound-requires
part-evaluate-sound-requires t c =
    let is = ap (λ (q : Parts). part_at (names_in c.args.frame.now) q c.args.k) c.in-Counted.is in
    let grown = number_grown c.args.frame.now c.keep.new.self c.args.heap.now c.in-Counted.i c.turn_number.result c.args.k c.lawful.ensures c.turn_number.ensures c.keep.new.heap c.in_ok-keep-in-Counted.ensures.held c.in_ok-keep-in-Counted.ensures.bound in
    let below = expr_below (names_in c.args.frame.now) c.args.parts.now c.args.k c.in-Counted.counted (counted_names (names_in c.args.frame.now) c.in-Counted.i c.args.k) is c.requires.place c.args.e.0 c.requires.below in
    (omega (arith, below, c.decreases), (omega (arith, below, c.requires.inside), held_grown c.args.frame.now c.keep.new.self c.args.heap.now c.keep.new.heap c.lawful.ensures grown c.requires.names))

pub part-leave-requires : goal.part-leave-requires
part-leave-requires t c =
    let is = ap (λ (q : Parts). part_at (names_in c.args.frame.now) q c.args.k) c.in-Counted.is in
    let grown = number_grown c.args.frame.now c.keep.new.self c.args.heap.now c.in-Counted.i c.turn_number.result c.args.k c.lawful.ensures c.turn_number.ensures c.keep.new.heap c.in_ok-keep-in-Counted.ensures.held c.in_ok-keep-in-Counted.ensures.bound in
    let below = expr_below (names_in c.args.frame.now) c.args.parts.now c.args.k c.in-Counted.counted (counted_names (names_in c.args.frame.now) c.in-Counted.i c.args.k) is c.requires.place c.args.e.0 c.requires.below in
    let held = held_grown c.args.frame.now c.keep.new.self c.args.heap.now c.keep.new.heap c.lawful.ensures grown c.requires.names in
    let body = body_hand c.args.p.now c.program_laws.ensures.ordered c.program_laws.ensures.free (c.in-Counted.counted.0 + 1) c.in-Counted.counted.0 c.args.env (names_in c.keep.new.self) c.keep.new.heap c.evaluate-sound.new.heap c.evaluate-sound.result (omega (arith, below, c.requires.inside)) grown.hand.laws held c.evaluate-sound.ensures.evaluates c.evaluate-sound.ensures.refused in
    record { within = leave_within c.args.frame.now c.keep.new.self c.evaluate-sound.new.frame c.args.heap.now c.keep.new.heap c.evaluate-sound.new.heap c.len-before.result c.lawful.ensures grown c.evaluate-sound.ensures.same c.len-before.ensures; hands = leave_hands c.args.frame.now c.keep.new.self c.evaluate-sound.new.frame c.args.heap.now c.keep.new.heap c.evaluate-sound.new.heap c.len-before.result c.lawful.ensures grown c.evaluate-sound.ensures.same c.len-before.ensures body }

pub part-returns-in_ok-keep-in-Counted-clause-evaluates : goal.part-returns-in_ok-keep-in-Counted-clause-evaluates
part-returns-in_ok-keep-in-Counted-clause-evaluates t c =
    let is = ap (λ (q : Parts). part_at (names_in c.args.frame.now) q c.args.k) c.in-Counted.is in
    if_ok c.evaluate-sound.result _ _
    (λ s evaluates.
    part_turn (names_in c.args.frame.now) c.args.parts.now c.args.k c.in-Counted.counted (counted_names (names_in c.args.frame.now) c.in-Counted.i c.args.k) is c.requires.place c.args.p.now c.args.e.0 c.args.env c.args.heap.now c.leave.new.heap s c.requires.below
    (counted_turn c.args.frame.now c.keep.new.self c.args.heap.now c.in-Counted.i c.turn_number.result c.args.k c.lawful.ensures c.turn_number.ensures c.keep.new.heap c.in_ok-keep-in-Counted.ensures.held c.in_ok-keep-in-Counted.ensures.bound c.args.p.now (c.in-Counted.counted.0 + 1) c.in-Counted.counted.0 c.args.env c.evaluate-sound.new.frame c.len-before.result c.evaluate-sound.new.heap c.leave.new.heap s c.evaluate-sound.ensures.same c.len-before.ensures c.leave.ensures.released evaluates))
    c.evaluate-sound.ensures.evaluates

pub part-returns-in_ok-keep-in-Counted-clause-same : goal.part-returns-in_ok-keep-in-Counted-clause-same
part-returns-in_ok-keep-in-Counted-clause-same t c =
    let grown = number_grown c.args.frame.now c.keep.new.self c.args.heap.now c.in-Counted.i c.turn_number.result c.args.k c.lawful.ensures c.turn_number.ensures c.keep.new.heap c.in_ok-keep-in-Counted.ensures.held c.in_ok-keep-in-Counted.ensures.bound in
    left_same c.args.frame.now c.keep.new.self c.evaluate-sound.new.frame c.args.heap.now c.keep.new.heap c.evaluate-sound.new.heap c.len-before.result c.lawful.ensures grown c.evaluate-sound.ensures.same c.len-before.ensures c.leave.new.self c.leave.ensures.left

pub part-returns-in_ok-keep-in-Counted-clause-refused : goal.part-returns-in_ok-keep-in-Counted-clause-refused
part-returns-in_ok-keep-in-Counted-clause-refused t c =
    let grown = number_grown c.args.frame.now c.keep.new.self c.args.heap.now c.in-Counted.i c.turn_number.result c.args.k c.lawful.ensures c.turn_number.ensures c.keep.new.heap c.in_ok-keep-in-Counted.ensures.held c.in_ok-keep-in-Counted.ensures.bound in
    err_one c.evaluate-sound.result _ _ (λ hand. left_refused c.args.frame.now c.keep.new.self c.evaluate-sound.new.frame c.args.heap.now c.keep.new.heap c.evaluate-sound.new.heap c.len-before.result c.lawful.ensures grown c.evaluate-sound.ensures.same c.len-before.ensures c.leave.new.heap c.leave.ensures.released hand) c.evaluate-sound.ensures.refused

-- ---- parts, one after another

pub each_part-loop-k-init : goal.each_part-loop-k-init
each_part-loop-k-init t c = record {
  so_far = parts_none c.args.p.now c.args.e.0 c.args.env.now (names_in c.args.frame.now) c.args.parts.now c.args.heap.now c.args.sounds.now.items c.requires.none c.lawful.ensures;
  count = ap length c.requires.none;
  room = refl;
  same = refl;
}

pub each_part-part-requires : goal.each_part-part-requires
each_part-part-requires t c =
    (omega (arith, c.decreases), (c.requires.inside, (c.requires.below, (omega (arith, c.count-k-end.ensures), held_after c.args.heap.now c.loop-k.heap c.loop-k.sounds.items c.args.frame.now c.loop-k.frame c.lawful.ensures c.loop-k.invariant.so_far.hand c.loop-k.invariant.same c.requires.names))))

pub each_part-returns-in_err-sound-clause-hand : goal.each_part-returns-in_err-sound-clause-hand
each_part-returns-in_err-sound-clause-hand t c = parts_refused c.args.p.now c.args.e.0 c.args.env.now (names_in c.args.frame.now) c.args.parts.now c.loop-k.k c.args.heap.now c.loop-k.heap c.part.new.heap c.loop-k.sounds.items c.loop-k.invariant.so_far c.in_err-sound.ensures.refused

pub each_part-push_reserved-requires : goal.each_part-push_reserved-requires
each_part-push_reserved-requires t c = omega (arith, c.loop-k.invariant.count, c.loop-k.invariant.room, c.requires.room, c.count-k-end.ensures)

pub each_part-loop-k-preserved : goal.each_part-loop-k-preserved
each_part-loop-k-preserved t c = record {
  so_far = parts_more c.args.p.now c.program_laws.ensures.ordered c.program_laws.ensures.free c.args.e.0 c.args.env.now c.in_ok-copy.field-0 c.args.frame.now c.loop-k.frame c.args.parts.now c.loop-k.k c.args.heap.now c.loop-k.heap c.part.new.heap c.loop-k.sounds.items c.push_reserved.new.self.items c.in_ok-sound.sound c.requires.inside c.in_ok-copy.ensures c.loop-k.invariant.same (omega (arith, c.count-k-end.ensures)) c.requires.below
      (held_after c.args.heap.now c.loop-k.heap c.loop-k.sounds.items c.args.frame.now c.loop-k.frame c.lawful.ensures c.loop-k.invariant.so_far.hand c.loop-k.invariant.same c.requires.names)
      c.loop-k.invariant.so_far c.in_ok-sound.ensures.evaluates c.push_reserved.ensures.items;
  count = omega (arith, c.loop-k.invariant.count, ap length c.push_reserved.ensures.items, length-append c.loop-k.sounds.items (c.in_ok-sound.sound ∷ []));
  room = c.push_reserved.ensures.capacity ∙ c.loop-k.invariant.room;
  same = c.part.ensures.same ∙ c.loop-k.invariant.same;
}

pub each_part-returns-clause-each : goal.each_part-returns-clause-each
each_part-returns-clause-each t c =
    subst (λ (ps : List Part). PartsTurn (Evaluates c.args.p.now c.args.e.0) c.args.env.now ps c.args.heap.now c.loop-k.heap c.loop-k.sounds.items) (parts_all (names_in c.args.frame.now) c.args.parts.now c.loop-k.k (omega (arith, c.count-k-end.ensures))) c.loop-k.invariant.so_far.turn

-- ---- parts together

pub together-returns-in_err-sounds-clause-refused : goal.together-returns-in_err-sounds-clause-refused
together-returns-in_err-sounds-clause-refused t c = on_err _ _ (hand_none c.args.heap.now c.lawful.ensures)

pub together-each_part-requires : goal.together-each_part-requires
together-each_part-requires t c =
    (omega (arith, c.decreases), (c.requires.inside, (c.requires.below, (c.requires.names, (c.in_ok-sounds.ensures.items, omega (arith, c.in_ok-sounds.ensures.capacity, c.count.ensures))))))

pub together-mixed-requires : goal.together-mixed-requires
together-mixed-requires t c = record { hands = all_in_hand c.args.heap.now c.each_part.new.heap c.each_part.new.sounds.items c.lawful.ensures c.each_part.ensures.hand }

pub together-returns-in-Ok-clause-turn : goal.together-returns-in-Ok-clause-turn
together-returns-in-Ok-clause-turn t c = record { parts = c.each_part.new.sounds.items; mid = c.each_part.new.heap; each = c.in-Ok.ensures.each; mixed = c.in_ok-mixed-in-Ok.ensures.turn }

pub together-returns-in_err-mixed-in-Ok-clause-refused : goal.together-returns-in_err-mixed-in-Ok-clause-refused
together-returns-in_err-mixed-in-Ok-clause-refused t c =
    on_err _ _ (all_given_up c.args.heap.now c.each_part.new.heap c.mixed.new.heap c.each_part.new.sounds.items c.lawful.ensures c.each_part.ensures.hand c.in_err-mixed-in-Ok.ensures.gives_up)

pub together-returns-clause-refused : goal.together-returns-clause-refused
together-returns-clause-refused t c =
    all_given_up c.args.heap.now c.each_part.new.heap c.give_up_all.new.heap c.each_part.new.sounds.items c.lawful.ensures c.each_part.ensures.hand
    (subst (λ ss. GivesUp c.each_part.new.heap c.give_up_all.new.heap ss) c.from.ensures.0 c.give_up_all.ensures.gives_up)

-- ---- a block

pub bind_all-loop-name-init : goal.bind_all-loop-name-init
bind_all-loop-name-init t c = record { so_far = bound_none c.args.p.now c.args.e.0 c.args.env.now c.args.frame.now c.args.heap.now c.lawful.ensures; below = c.requires.below }

pub block-evaluate-sound-requires : goal.block-evaluate-sound-requires
block-evaluate-sound-requires t c =
    let grown = bound_grown c.args.p.now c.args.e.0 c.args.env c.args.binds.now c.args.frame.now c.bind_all.new.frame c.args.heap.now c.bind_all.new.heap c.in-Ok.ensures.bound in
    (omega (arith, c.requires.value, c.decreases), (omega (arith, c.requires.value, c.requires.inside), held_grown c.args.frame.now c.bind_all.new.frame c.args.heap.now c.bind_all.new.heap c.lawful.ensures grown c.requires.names))

pub block-leave-requires : goal.block-leave-requires
block-leave-requires t c =
    let grown = bound_grown c.args.p.now c.args.e.0 c.args.env c.args.binds.now c.args.frame.now c.bind_all.new.frame c.args.heap.now c.bind_all.new.heap c.in-Ok.ensures.bound in
    let held = held_grown c.args.frame.now c.bind_all.new.frame c.args.heap.now c.bind_all.new.heap c.lawful.ensures grown c.requires.names in
    let body = body_hand c.args.p.now c.program_laws.ensures.ordered c.program_laws.ensures.free (c.args.value.0 + 1) c.args.value.0 c.args.env (names_in c.bind_all.new.frame) c.bind_all.new.heap c.evaluate-sound.new.heap c.evaluate-sound.result (omega (arith, c.requires.value, c.requires.inside)) grown.hand.laws held c.evaluate-sound.ensures.evaluates c.evaluate-sound.ensures.refused in
    record {
      within = leave_within c.args.frame.now c.bind_all.new.frame c.evaluate-sound.new.frame c.args.heap.now c.bind_all.new.heap c.evaluate-sound.new.heap c.len-before.result c.lawful.ensures grown c.evaluate-sound.ensures.same c.len-before.ensures;
      hands = leave_hands c.args.frame.now c.bind_all.new.frame c.evaluate-sound.new.frame c.args.heap.now c.bind_all.new.heap c.evaluate-sound.new.heap c.len-before.result c.lawful.ensures grown c.evaluate-sound.ensures.same c.len-before.ensures body;
    }

pub block-leave-requires-in-Err : goal.block-leave-requires-in-Err
block-leave-requires-in-Err t c =
    let grown = c.in-Err.ensures.grown in
    record {
      within = leave_within c.args.frame.now c.bind_all.new.frame c.bind_all.new.frame c.args.heap.now c.bind_all.new.heap c.bind_all.new.heap c.len-before.result c.lawful.ensures grown refl c.len-before.ensures;
      hands = leave_hands c.args.frame.now c.bind_all.new.frame c.bind_all.new.frame c.args.heap.now c.bind_all.new.heap c.bind_all.new.heap c.len-before.result c.lawful.ensures grown refl c.len-before.ensures ([], hand_none c.bind_all.new.heap grown.hand.laws);
    }

pub block-returns-in-Ok-clause-turn : goal.block-returns-in-Ok-clause-turn
block-returns-in-Ok-clause-turn t c =
    if_ok c.evaluate-sound.result _ _
    (λ s evaluates. block_turn c.args.p.now c.args.e.0 c.args.env c.args.binds.now c.args.value c.args.frame.now c.bind_all.new.frame c.evaluate-sound.new.frame c.args.heap.now c.bind_all.new.heap c.evaluate-sound.new.heap c.leave.new.heap s c.len-before.result c.requires.value c.in-Ok.ensures.bound c.evaluate-sound.ensures.same c.len-before.ensures evaluates c.leave.ensures.released)
    c.evaluate-sound.ensures.evaluates

pub block-returns-in-Ok-clause-same : goal.block-returns-in-Ok-clause-same
block-returns-in-Ok-clause-same t c =
    let grown = bound_grown c.args.p.now c.args.e.0 c.args.env c.args.binds.now c.args.frame.now c.bind_all.new.frame c.args.heap.now c.bind_all.new.heap c.in-Ok.ensures.bound in
    left_same c.args.frame.now c.bind_all.new.frame c.evaluate-sound.new.frame c.args.heap.now c.bind_all.new.heap c.evaluate-sound.new.heap c.len-before.result c.lawful.ensures grown c.evaluate-sound.ensures.same c.len-before.ensures c.leave.new.self c.leave.ensures.left

pub block-returns-in-Ok-clause-refused : goal.block-returns-in-Ok-clause-refused
block-returns-in-Ok-clause-refused t c =
    let grown = bound_grown c.args.p.now c.args.e.0 c.args.env c.args.binds.now c.args.frame.now c.bind_all.new.frame c.args.heap.now c.bind_all.new.heap c.in-Ok.ensures.bound in
    err_one c.evaluate-sound.result _ _ (λ hand. left_refused c.args.frame.now c.bind_all.new.frame c.evaluate-sound.new.frame c.args.heap.now c.bind_all.new.heap c.evaluate-sound.new.heap c.len-before.result c.lawful.ensures grown c.evaluate-sound.ensures.same c.len-before.ensures c.leave.new.heap c.leave.ensures.released hand) c.evaluate-sound.ensures.refused

pub block-returns-in-Err-clause-same : goal.block-returns-in-Err-clause-same
block-returns-in-Err-clause-same t c =
    left_same c.args.frame.now c.bind_all.new.frame c.bind_all.new.frame c.args.heap.now c.bind_all.new.heap c.bind_all.new.heap c.len-before.result c.lawful.ensures c.in-Err.ensures.grown refl c.len-before.ensures c.leave-in-Err.new.self c.leave-in-Err.ensures.left

pub block-returns-in-Err-clause-refused : goal.block-returns-in-Err-clause-refused
block-returns-in-Err-clause-refused t c =
    left_refused c.args.frame.now c.bind_all.new.frame c.bind_all.new.frame c.args.heap.now c.bind_all.new.heap c.bind_all.new.heap c.len-before.result c.lawful.ensures c.in-Err.ensures.grown refl c.len-before.ensures c.leave-in-Err.new.heap c.leave-in-Err.ensures.released (hand_none c.bind_all.new.heap c.in-Err.ensures.grown.hand.laws)

-- ---- a call

pub arguments-loop-i-init : goal.arguments-loop-i-init
arguments-loop-i-init t c = record { so_far = passed_none c.args.p.now c.args.e.0 c.args.env.now (names_in c.args.frame.now) c.args.params.now c.args.parts.now c.args.inner.now c.args.heap.now c.lawful.ensures; same = refl }

pub call-returns-in_err-inner-clause-refused : goal.call-returns-in_err-inner-clause-refused
call-returns-in_err-inner-clause-refused t c = on_err _ _ (hand_none c.args.heap.now c.lawful.ensures)

pub call-evaluate-sound-requires : goal.call-evaluate-sound-requires
call-evaluate-sound-requires t c =
    let grown = passed_grown c.args.p.now c.args.e.0 c.args.env (names_in c.args.frame.now) c.params.result.now (take (length c.params.result.now) c.args.parts.now) c.in_ok-inner.inner c.arguments.new.inner c.args.heap.now c.arguments.new.heap c.in-Ok.ensures.passed in
    let empty = empty_frame c.in_ok-inner.inner c.as_slice.result.now c.in_ok-inner.ensures (c.as_slice.ensures ∙ c.no_names-none.ensures) in
    let below : c.body.result.0 < c.args.e.0 = subst (λ (x : ExprId). x.0 < c.args.e.0) (sym c.body.ensures.value) c.requires.body in
    (omega (arith, below, c.decreases), (omega (arith, below, c.requires.inside), held_grown c.in_ok-inner.inner c.arguments.new.inner c.args.heap.now c.arguments.new.heap c.lawful.ensures grown (empty_held c.args.heap.now c.in_ok-inner.inner empty)))

pub call-leave-requires : goal.call-leave-requires
call-leave-requires t c =
    let grown = passed_grown c.args.p.now c.args.e.0 c.args.env (names_in c.args.frame.now) c.params.result.now (take (length c.params.result.now) c.args.parts.now) c.in_ok-inner.inner c.arguments.new.inner c.args.heap.now c.arguments.new.heap c.in-Ok.ensures.passed in
    let empty = empty_frame c.in_ok-inner.inner c.as_slice.result.now c.in_ok-inner.ensures (c.as_slice.ensures ∙ c.no_names-none.ensures) in
    let below : c.body.result.0 < c.args.e.0 = subst (λ (x : ExprId). x.0 < c.args.e.0) (sym c.body.ensures.value) c.requires.body in
    let held = held_grown c.in_ok-inner.inner c.arguments.new.inner c.args.heap.now c.arguments.new.heap c.lawful.ensures grown (empty_held c.args.heap.now c.in_ok-inner.inner empty) in
    let body = body_hand c.args.p.now c.program_laws.ensures.ordered c.program_laws.ensures.free (c.body.result.0 + 1) c.body.result.0 c.args.env (names_in c.arguments.new.inner) c.arguments.new.heap c.evaluate-sound.new.heap c.evaluate-sound.result (omega (arith, below, c.requires.inside)) grown.hand.laws held c.evaluate-sound.ensures.evaluates c.evaluate-sound.ensures.refused in
    record {
      within = leave_within c.in_ok-inner.inner c.arguments.new.inner c.evaluate-sound.new.frame c.args.heap.now c.arguments.new.heap c.evaluate-sound.new.heap 0 c.lawful.ensures grown c.evaluate-sound.ensures.same (empty_count c.in_ok-inner.inner empty);
      hands = leave_hands c.in_ok-inner.inner c.arguments.new.inner c.evaluate-sound.new.frame c.args.heap.now c.arguments.new.heap c.evaluate-sound.new.heap 0 c.lawful.ensures grown c.evaluate-sound.ensures.same (empty_count c.in_ok-inner.inner empty) body;
    }

pub call-leave-requires-in-Err : goal.call-leave-requires-in-Err
call-leave-requires-in-Err t c =
    let grown = c.in-Err.ensures.grown in
    let empty = empty_frame c.in_ok-inner.inner c.as_slice.result.now c.in_ok-inner.ensures (c.as_slice.ensures ∙ c.no_names-none.ensures) in
    record {
      within = leave_within c.in_ok-inner.inner c.arguments.new.inner c.arguments.new.inner c.args.heap.now c.arguments.new.heap c.arguments.new.heap 0 c.lawful.ensures grown refl (empty_count c.in_ok-inner.inner empty);
      hands = leave_hands c.in_ok-inner.inner c.arguments.new.inner c.arguments.new.inner c.args.heap.now c.arguments.new.heap c.arguments.new.heap 0 c.lawful.ensures grown refl (empty_count c.in_ok-inner.inner empty) ([], hand_none c.arguments.new.heap grown.hand.laws);
    }

pub call-returns-in-Ok-clause-turn : goal.call-returns-in-Ok-clause-turn
call-returns-in-Ok-clause-turn t c =
    let empty = empty_frame c.in_ok-inner.inner c.as_slice.result.now c.in_ok-inner.ensures (c.as_slice.ensures ∙ c.no_names-none.ensures) in
    let f = function_at c.args.p.now c.args.f.0 in
    if_ok c.evaluate-sound.result _ _
    (λ s evaluates.
    subst (λ (xs : List NameId). CallTurn (Evaluates c.args.p.now c.args.e.0) c.args.p.now xs f.body.0 c.args.parts.now c.args.env (names_in c.args.frame.now) c.args.heap.now c.leave.new.heap s) c.params.ensures
    (call_turn c.args.p.now c.args.e.0 c.args.env (names_in c.args.frame.now) c.params.result.now c.args.parts.now f.body.0 c.in_ok-inner.inner c.arguments.new.inner c.evaluate-sound.new.frame c.args.heap.now c.arguments.new.heap c.evaluate-sound.new.heap c.leave.new.heap s c.requires.body empty c.in-Ok.ensures.passed c.evaluate-sound.ensures.same
    (subst (λ (x : ExprId). Evaluates c.args.p.now (x.0 + 1) x.0 c.args.env (names_in c.arguments.new.inner) c.arguments.new.heap c.evaluate-sound.new.heap s) c.body.ensures.value evaluates) c.leave.ensures.released))
    c.evaluate-sound.ensures.evaluates

pub call-returns-in-Ok-clause-refused : goal.call-returns-in-Ok-clause-refused
call-returns-in-Ok-clause-refused t c =
    let grown = passed_grown c.args.p.now c.args.e.0 c.args.env (names_in c.args.frame.now) c.params.result.now (take (length c.params.result.now) c.args.parts.now) c.in_ok-inner.inner c.arguments.new.inner c.args.heap.now c.arguments.new.heap c.in-Ok.ensures.passed in
    let empty = empty_frame c.in_ok-inner.inner c.as_slice.result.now c.in_ok-inner.ensures (c.as_slice.ensures ∙ c.no_names-none.ensures) in
    err_one c.evaluate-sound.result _ _ (λ hand. left_refused c.in_ok-inner.inner c.arguments.new.inner c.evaluate-sound.new.frame c.args.heap.now c.arguments.new.heap c.evaluate-sound.new.heap 0 c.lawful.ensures grown c.evaluate-sound.ensures.same (empty_count c.in_ok-inner.inner empty) c.leave.new.heap c.leave.ensures.released hand) c.evaluate-sound.ensures.refused

pub call-returns-in-Err-clause-refused : goal.call-returns-in-Err-clause-refused
call-returns-in-Err-clause-refused t c =
    let empty = empty_frame c.in_ok-inner.inner c.as_slice.result.now c.in_ok-inner.ensures (c.as_slice.ensures ∙ c.no_names-none.ensures) in
    left_refused c.in_ok-inner.inner c.arguments.new.inner c.arguments.new.inner c.args.heap.now c.arguments.new.heap c.arguments.new.heap 0 c.lawful.ensures c.in-Err.ensures.grown refl (empty_count c.in_ok-inner.inner empty) c.leave-in-Err.new.heap c.leave-in-Err.ensures.released (hand_none c.arguments.new.heap c.in-Err.ensures.grown.hand.laws)

pub arguments-returns-in_err-copy-clause-grown : goal.arguments-returns-in_err-copy-clause-grown
arguments-returns-in_err-copy-clause-grown t c = on_err _ _ (passed_grown c.args.p.now c.args.e.0 c.args.env.now (names_in c.args.frame.now) c.args.params.now (take c.loop-i.i c.args.parts.now) c.args.inner.now c.loop-i.inner c.args.heap.now c.loop-i.heap c.loop-i.invariant.so_far.so_far)

pub arguments-operand-requires : goal.arguments-operand-requires
arguments-operand-requires t c =
    let less : c.loop-i.i < length c.args.parts.now = omega (arith, c.min-count.ensures) in
    let below = below_at c.args.e.0 c.args.parts.now c.loop-i.i (record { 0 = 0 }) less c.requires.below in
    (omega (arith, below, c.decreases), (omega (arith, below, c.requires.inside), held_after c.args.heap.now c.loop-i.heap (sounds_of_values c.loop-i.invariant.so_far.so_far.values) c.args.frame.now c.loop-i.frame c.lawful.ensures c.loop-i.invariant.so_far.so_far.hand c.loop-i.invariant.same c.requires.names))

pub arguments-returns-in_err-value-clause-grown : goal.arguments-returns-in_err-value-clause-grown
arguments-returns-in_err-value-clause-grown t c = on_err _ _ (grown_still c.args.inner.now c.loop-i.inner c.loop-i.inner c.args.heap.now c.loop-i.heap c.operand.new.heap (passed_grown c.args.p.now c.args.e.0 c.args.env.now (names_in c.args.frame.now) c.args.params.now (take c.loop-i.i c.args.parts.now) c.args.inner.now c.loop-i.inner c.args.heap.now c.loop-i.heap c.loop-i.invariant.so_far.so_far) refl c.in_err-value.ensures.refused)

pub arguments-keep-requires : goal.arguments-keep-requires
arguments-keep-requires t c =
    let less : c.loop-i.i < length c.args.parts.now = omega (arith, c.min-count.ensures) in
    let below = below_at c.args.e.0 c.args.parts.now c.loop-i.i (record { 0 = 0 }) less c.requires.below in
    record { hands = all_in_hand c.loop-i.heap c.operand.new.heap (sounds_of_values (c.in_ok-value.value ∷ [])) c.loop-i.invariant.so_far.so_far.hand.laws (value_hand c.args.p.now c.program_laws.ensures.ordered c.program_laws.ensures.free ((get_or c.args.parts.now c.loop-i.i (record { 0 = 0 })).0 + 1) (get_or c.args.parts.now c.loop-i.i (record { 0 = 0 })) c.in_ok-copy.field-0 (names_in c.loop-i.frame) c.loop-i.heap c.operand.new.heap c.in_ok-value.value (omega (arith, below, c.requires.inside)) c.loop-i.invariant.so_far.so_far.hand.laws (held_after c.args.heap.now c.loop-i.heap (sounds_of_values c.loop-i.invariant.so_far.so_far.values) c.args.frame.now c.loop-i.frame c.lawful.ensures c.loop-i.invariant.so_far.so_far.hand c.loop-i.invariant.same c.requires.names) c.in_ok-value.ensures.turn) }

pub arguments-returns-in_err-keep-clause-grown : goal.arguments-returns-in_err-keep-clause-grown
arguments-returns-in_err-keep-clause-grown t c =
    let less : c.loop-i.i < length c.args.parts.now = omega (arith, c.min-count.ensures) in
    let below = below_at c.args.e.0 c.args.parts.now c.loop-i.i (record { 0 = 0 }) less c.requires.below in
    on_err _ _ (keep_refused c.args.inner.now c.loop-i.inner c.loop-i.inner c.keep.new.self c.args.heap.now c.loop-i.heap c.operand.new.heap c.keep.new.heap c.in_ok-value.value (passed_grown c.args.p.now c.args.e.0 c.args.env.now (names_in c.args.frame.now) c.args.params.now (take c.loop-i.i c.args.parts.now) c.args.inner.now c.loop-i.inner c.args.heap.now c.loop-i.heap c.loop-i.invariant.so_far.so_far) (value_hand c.args.p.now c.program_laws.ensures.ordered c.program_laws.ensures.free ((get_or c.args.parts.now c.loop-i.i (record { 0 = 0 })).0 + 1) (get_or c.args.parts.now c.loop-i.i (record { 0 = 0 })) c.in_ok-copy.field-0 (names_in c.loop-i.frame) c.loop-i.heap c.operand.new.heap c.in_ok-value.value (omega (arith, below, c.requires.inside)) c.loop-i.invariant.so_far.so_far.hand.laws (held_after c.args.heap.now c.loop-i.heap (sounds_of_values c.loop-i.invariant.so_far.so_far.values) c.args.frame.now c.loop-i.frame c.lawful.ensures c.loop-i.invariant.so_far.so_far.hand c.loop-i.invariant.same c.requires.names) c.in_ok-value.ensures.turn) refl c.in_err-keep.ensures.refused c.in_err-keep.ensures.gives_up)

pub arguments-loop-i-preserved : goal.arguments-loop-i-preserved
arguments-loop-i-preserved t c =
    let less : c.loop-i.i < length c.args.parts.now = omega (arith, c.min-count.ensures) in
    let few : c.loop-i.i < length c.args.params.now = omega (arith, c.min-count.ensures) in
    let below = below_at c.args.e.0 c.args.parts.now c.loop-i.i (record { 0 = 0 }) less c.requires.below in
    record {
      so_far = passed_step c.args.p.now c.args.e.0 c.args.env.now c.in_ok-copy.field-0 (names_in c.args.frame.now) c.args.params.now c.args.parts.now c.loop-i.i (get_or c.args.params.now c.loop-i.i (record { 0 = 0 })) (record { 0 = 0 }) (get_or c.args.parts.now c.loop-i.i (record { 0 = 0 })) (record { 0 = 0 }) c.args.inner.now c.loop-i.inner c.keep.new.self c.args.heap.now c.loop-i.heap c.operand.new.heap c.keep.new.heap c.in_ok-value.value c.in_ok-copy.ensures few less refl refl below c.loop-i.invariant.so_far
          (value_under c.args.p.now ((get_or c.args.parts.now c.loop-i.i (record { 0 = 0 })).0 + 1) (get_or c.args.parts.now c.loop-i.i (record { 0 = 0 })) c.in_ok-copy.field-0 c.args.frame.now c.loop-i.frame c.loop-i.heap c.operand.new.heap c.in_ok-value.value c.loop-i.invariant.same c.in_ok-value.ensures.turn)
          (value_hand c.args.p.now c.program_laws.ensures.ordered c.program_laws.ensures.free ((get_or c.args.parts.now c.loop-i.i (record { 0 = 0 })).0 + 1) (get_or c.args.parts.now c.loop-i.i (record { 0 = 0 })) c.in_ok-copy.field-0 (names_in c.loop-i.frame) c.loop-i.heap c.operand.new.heap c.in_ok-value.value (omega (arith, below, c.requires.inside)) c.loop-i.invariant.so_far.so_far.hand.laws (held_after c.args.heap.now c.loop-i.heap (sounds_of_values c.loop-i.invariant.so_far.so_far.values) c.args.frame.now c.loop-i.frame c.lawful.ensures c.loop-i.invariant.so_far.so_far.hand c.loop-i.invariant.same c.requires.names) c.in_ok-value.ensures.turn) c.in_ok-keep.ensures.bound c.in_ok-keep.ensures.held;
      same = c.operand.ensures.same ∙ c.loop-i.invariant.same;
    }

pub bind_all-operand-requires : goal.bind_all-operand-requires
bind_all-operand-requires t c =
    let less : c.loop-name.name-index < length c.args.binds.now = omega arith in
    let below = subst (λ (bs : List (NameId × ExprId)). BindsBelow c.args.e.0 bs) (drop_more c.args.binds.now c.loop-name.name-index (record { 0 = 0 }, record { 0 = 0 }) less) c.loop-name.invariant.below in
    (omega (arith, below.0, c.decreases), (omega (arith, below.0, c.requires.inside), held_grown c.args.frame.now c.loop-name.frame c.args.heap.now c.loop-name.heap c.lawful.ensures (bound_grown c.args.p.now c.args.e.0 c.args.env.now (take c.loop-name.name-index c.args.binds.now) c.args.frame.now c.loop-name.frame c.args.heap.now c.loop-name.heap c.loop-name.invariant.so_far) c.requires.names))

pub bind_all-returns-in_err-value-clause-grown : goal.bind_all-returns-in_err-value-clause-grown
bind_all-returns-in_err-value-clause-grown t c = on_err _ _ (grown_still c.args.frame.now c.loop-name.frame c.operand.new.frame c.args.heap.now c.loop-name.heap c.operand.new.heap (bound_grown c.args.p.now c.args.e.0 c.args.env.now (take c.loop-name.name-index c.args.binds.now) c.args.frame.now c.loop-name.frame c.args.heap.now c.loop-name.heap c.loop-name.invariant.so_far) c.operand.ensures.same c.in_err-value.ensures.refused)

pub bind_all-keep-requires : goal.bind_all-keep-requires
bind_all-keep-requires t c =
    let less : c.loop-name.name-index < length c.args.binds.now = omega arith in
    let below = subst (λ (bs : List (NameId × ExprId)). BindsBelow c.args.e.0 bs) (drop_more c.args.binds.now c.loop-name.name-index (record { 0 = 0 }, record { 0 = 0 }) less) c.loop-name.invariant.below in
    record { hands = all_in_hand c.loop-name.heap c.operand.new.heap (sounds_of_values (c.in_ok-value.value ∷ [])) c.loop-name.invariant.so_far.hand.laws (value_hand c.args.p.now c.program_laws.ensures.ordered c.program_laws.ensures.free ((get_or c.args.binds.now c.loop-name.name-index (record { 0 = 0 }, record { 0 = 0 })).1.0 + 1) (get_or c.args.binds.now c.loop-name.name-index (record { 0 = 0 }, record { 0 = 0 })).1 c.in_ok-copy.field-0 (names_in c.loop-name.frame) c.loop-name.heap c.operand.new.heap c.in_ok-value.value (omega (arith, below.0, c.requires.inside)) c.loop-name.invariant.so_far.hand.laws (held_grown c.args.frame.now c.loop-name.frame c.args.heap.now c.loop-name.heap c.lawful.ensures (bound_grown c.args.p.now c.args.e.0 c.args.env.now (take c.loop-name.name-index c.args.binds.now) c.args.frame.now c.loop-name.frame c.args.heap.now c.loop-name.heap c.loop-name.invariant.so_far) c.requires.names) c.in_ok-value.ensures.turn) }

pub bind_all-returns-in_err-keep-clause-grown : goal.bind_all-returns-in_err-keep-clause-grown
bind_all-returns-in_err-keep-clause-grown t c =
    let less : c.loop-name.name-index < length c.args.binds.now = omega arith in
    let below = subst (λ (bs : List (NameId × ExprId)). BindsBelow c.args.e.0 bs) (drop_more c.args.binds.now c.loop-name.name-index (record { 0 = 0 }, record { 0 = 0 }) less) c.loop-name.invariant.below in
    on_err _ _ (keep_refused c.args.frame.now c.loop-name.frame c.operand.new.frame c.keep.new.self c.args.heap.now c.loop-name.heap c.operand.new.heap c.keep.new.heap c.in_ok-value.value (bound_grown c.args.p.now c.args.e.0 c.args.env.now (take c.loop-name.name-index c.args.binds.now) c.args.frame.now c.loop-name.frame c.args.heap.now c.loop-name.heap c.loop-name.invariant.so_far) (value_hand c.args.p.now c.program_laws.ensures.ordered c.program_laws.ensures.free ((get_or c.args.binds.now c.loop-name.name-index (record { 0 = 0 }, record { 0 = 0 })).1.0 + 1) (get_or c.args.binds.now c.loop-name.name-index (record { 0 = 0 }, record { 0 = 0 })).1 c.in_ok-copy.field-0 (names_in c.loop-name.frame) c.loop-name.heap c.operand.new.heap c.in_ok-value.value (omega (arith, below.0, c.requires.inside)) c.loop-name.invariant.so_far.hand.laws (held_grown c.args.frame.now c.loop-name.frame c.args.heap.now c.loop-name.heap c.lawful.ensures (bound_grown c.args.p.now c.args.e.0 c.args.env.now (take c.loop-name.name-index c.args.binds.now) c.args.frame.now c.loop-name.frame c.args.heap.now c.loop-name.heap c.loop-name.invariant.so_far) c.requires.names) c.in_ok-value.ensures.turn) c.operand.ensures.same c.in_err-keep.ensures.refused c.in_err-keep.ensures.gives_up)

pub bind_all-loop-name-preserved : goal.bind_all-loop-name-preserved
bind_all-loop-name-preserved t c =
    let less : c.loop-name.name-index < length c.args.binds.now = omega arith in
    let below = subst (λ (bs : List (NameId × ExprId)). BindsBelow c.args.e.0 bs) (drop_more c.args.binds.now c.loop-name.name-index (record { 0 = 0 }, record { 0 = 0 }) less) c.loop-name.invariant.below in
    record {
      so_far = bound_step c.args.p.now c.args.e.0 c.args.env.now c.in_ok-copy.field-0 c.args.binds.now c.loop-name.name-index (get_or c.args.binds.now c.loop-name.name-index (record { 0 = 0 }, record { 0 = 0 })) (record { 0 = 0 }, record { 0 = 0 }) c.args.frame.now c.loop-name.frame c.operand.new.frame c.keep.new.self c.args.heap.now c.loop-name.heap c.operand.new.heap c.keep.new.heap c.in_ok-value.value c.in_ok-copy.ensures less refl below.0 c.loop-name.invariant.so_far c.in_ok-value.ensures.turn
          (value_hand c.args.p.now c.program_laws.ensures.ordered c.program_laws.ensures.free ((get_or c.args.binds.now c.loop-name.name-index (record { 0 = 0 }, record { 0 = 0 })).1.0 + 1) (get_or c.args.binds.now c.loop-name.name-index (record { 0 = 0 }, record { 0 = 0 })).1 c.in_ok-copy.field-0 (names_in c.loop-name.frame) c.loop-name.heap c.operand.new.heap c.in_ok-value.value (omega (arith, below.0, c.requires.inside)) c.loop-name.invariant.so_far.hand.laws (held_grown c.args.frame.now c.loop-name.frame c.args.heap.now c.loop-name.heap c.lawful.ensures (bound_grown c.args.p.now c.args.e.0 c.args.env.now (take c.loop-name.name-index c.args.binds.now) c.args.frame.now c.loop-name.frame c.args.heap.now c.loop-name.heap c.loop-name.invariant.so_far) c.requires.names) c.in_ok-value.ensures.turn) c.operand.ensures.same c.in_ok-keep.ensures.bound c.in_ok-keep.ensures.held;
      below = below.1;
    }

-- ---- a part that follows

pub next_part-part-requires : goal.next_part-part-requires
next_part-part-requires t c = (omega (arith, c.decreases), (c.requires.inside, (c.requires.below, (c.requires.place, c.requires.names))))

pub next_part-returns-in_err-late-clause-refused : goal.next_part-returns-in_err-late-clause-refused
next_part-returns-in_err-late-clause-refused t c = on_err _ _ (hand_none c.args.heap.now c.lawful.ensures)

pub next_part-following-requires : goal.next_part-following-requires
next_part-following-requires t c =
    record { hands = all_in_hand c.args.heap.now c.part.new.heap (c.in_ok-sound.sound ∷ []) c.lawful.ensures (part_hand c.args.p.now c.program_laws.ensures.ordered c.program_laws.ensures.free c.args.e.0 c.in_ok-late.late (names_in c.args.frame.now) c.args.parts.now c.args.k c.args.heap.now c.part.new.heap c.in_ok-sound.sound c.requires.inside c.requires.place c.requires.below c.lawful.ensures c.requires.names c.in_ok-sound.ensures.evaluates) }

pub next_part-returns-in_err-following-clause-refused : goal.next_part-returns-in_err-following-clause-refused
next_part-returns-in_err-following-clause-refused t c =
    on_err _ _ (all_given_up c.args.heap.now c.part.new.heap c.following.new.heap (c.in_ok-sound.sound ∷ []) c.lawful.ensures
    (part_hand c.args.p.now c.program_laws.ensures.ordered c.program_laws.ensures.free c.args.e.0 c.in_ok-late.late (names_in c.args.frame.now) c.args.parts.now c.args.k c.args.heap.now c.part.new.heap c.in_ok-sound.sound c.requires.inside c.requires.place c.requires.below c.lawful.ensures c.requires.names c.in_ok-sound.ensures.evaluates)
    c.in_err-following.ensures.gives_up)

pub next_part-returns-clause-turn : goal.next_part-returns-clause-turn
next_part-returns-clause-turn t c =
    next_turn c.args.p.now c.args.e.0 c.args.env.now c.in_ok-late.late c.args.stop (part_at (names_in c.args.frame.now) c.args.parts.now c.args.k) c.args.heap.now c.part.new.heap c.following.new.heap c.in_ok-sound.sound c.in_ok-following.field-0 c.in_ok-late.ensures c.in_ok-sound.ensures.evaluates c.in_ok-following.ensures.follows

pub next_part-returns-clause-hand : goal.next_part-returns-clause-hand
next_part-returns-clause-hand t c =
    follows_hand c.args.env.now.sound_rate c.args.stop c.args.heap.now c.part.new.heap c.following.new.heap c.in_ok-sound.sound c.in_ok-following.field-0 [] c.lawful.ensures
    (part_hand c.args.p.now c.program_laws.ensures.ordered c.program_laws.ensures.free c.args.e.0 c.in_ok-late.late (names_in c.args.frame.now) c.args.parts.now c.args.k c.args.heap.now c.part.new.heap c.in_ok-sound.sound c.requires.inside c.requires.place c.requires.below c.lawful.ensures c.requires.names c.in_ok-sound.ensures.evaluates)
    c.in_ok-following.ensures.follows

-- ---- the parts that are due

pub due_parts-next_part-requires : goal.due_parts-next_part-requires
due_parts-next_part-requires t c = (omega (arith, c.decreases), (c.requires.inside, (c.requires.below, (omega (arith, c.count-k-end.ensures), held_after c.args.heap.now c.loop-k.heap c.loop-k.invariant.so_far.gains.others c.args.frame.now c.loop-k.frame c.lawful.ensures c.loop-k.invariant.so_far.gains.hand c.loop-k.invariant.same c.requires.names))))

pub due_parts-loop-k-init : goal.due_parts-loop-k-init
due_parts-loop-k-init t c = record {
  so_far = next_none c.args.p.now c.args.e.0 c.args.env.now (names_in c.args.frame.now) c.args.parts.now c.args.sounds.now.items c.args.heap.now c.lawful.ensures;
  count = c.len-k.ensures ∙ c.args.sounds.now.ok.0;
  few = c.requires.few;
  last = c.requires.stop;
  due = c.requires.due;
  same = refl;
}

pub due_parts-loop-k-preserved : goal.due_parts-loop-k-preserved
due_parts-loop-k-preserved t c =
    let list = c.push_reserved.ensures.items ∙ ap (λ (xs : List Sound). xs ++ c.in_ok-sound.sound ∷ []) c.reserve.ensures.items in
    record {
      so_far = next_at c.args.p.now c.args.e.0 c.args.env.now c.args.frame.now c.loop-k.frame c.args.parts.now c.args.sounds.now.items c.loop-k.k c.loop-k.last c.args.heap.now c.loop-k.heap c.next_part.new.heap c.loop-k.sounds.items c.push_reserved.new.self.items c.in_ok-sound.sound c.loop-k.invariant.same c.loop-k.invariant.last c.loop-k.invariant.count c.loop-k.invariant.so_far c.in_ok-sound.ensures.turn c.in_ok-sound.ensures.hand list;
      count = omega (arith, c.loop-k.invariant.count, ap length list, length-append c.loop-k.sounds.items (c.in_ok-sound.sound ∷ []));
      few = omega (arith, c.count-k-end.ensures, c.loop-k.invariant.count, ap length list, length-append c.loop-k.sounds.items (c.in_ok-sound.sound ∷ []));
      last = c.stop_of-last.ensures ∙ last_behind c.loop-k.sounds.items c.push_reserved.new.self.items c.in_ok-sound.sound list;
      due = due_more c.args.when.now c.args.block c.loop-k.last c.is_due.result c.loop-k.sounds.items c.push_reserved.new.self.items c.in_ok-sound.sound c.is_due.ensures c.if-not-is_due.false c.loop-k.invariant.last list c.loop-k.invariant.due;
      same = c.next_part.ensures.same ∙ c.loop-k.invariant.same;
    }

pub due_parts-returns-clause-enough : goal.due_parts-returns-clause-enough
due_parts-returns-clause-enough t c = inl (omega (arith, c.count-k-end.ensures, c.loop-k.invariant.count, c.loop-k.invariant.few))

pub due_parts-returns-then-not-is_due-clause-enough : goal.due_parts-returns-then-not-is_due-clause-enough
due_parts-returns-then-not-is_due-clause-enough t c =
    late_enough c.args.when.now c.args.block (count_in c.args.parts.now) c.loop-k.last c.is_due.result c.args.sounds.now.items c.args.heap.now c.loop-k.heap c.loop-k.sounds.items c.is_due.ensures c.if-not-is_due.true c.requires.block c.loop-k.invariant.last c.loop-k.invariant.so_far.gains

pub due_parts-returns-in_err-reserve-clause-gains : goal.due_parts-returns-in_err-reserve-clause-gains
due_parts-returns-in_err-reserve-clause-gains t c = gains_in c.args.sounds.now.items c.args.heap.now c.loop-k.heap c.loop-k.sounds.items c.reserve.new.self.items c.reserve.ensures.items c.loop-k.invariant.so_far.gains

pub due_parts-returns-in_err-sound-clause-gains : goal.due_parts-returns-in_err-sound-clause-gains
due_parts-returns-in_err-sound-clause-gains t c =
    gains_in c.args.sounds.now.items c.args.heap.now c.next_part.new.heap c.loop-k.sounds.items c.reserve.new.self.items c.reserve.ensures.items
    (next_refused c.args.sounds.now.items c.args.heap.now c.loop-k.heap c.next_part.new.heap c.loop-k.sounds.items c.loop-k.invariant.so_far.gains c.in_err-sound.ensures.refused)

-- ---- the first block

pub first_block-part-requires : goal.first_block-part-requires
first_block-part-requires t c = (omega (arith, c.decreases), (c.requires.inside, (c.requires.below, (c.requires.some, c.requires.names))))

pub first_block-returns-in_err-reserve-clause-hand : goal.first_block-returns-in_err-reserve-clause-hand
first_block-returns-in_err-reserve-clause-hand t c = hand_still c.args.heap.now c.args.heap.now c.args.heap.now [] c.reserve.new.self.items refl (c.reserve.ensures.items ∙ c.requires.none) (hand_none c.args.heap.now c.lawful.ensures)

pub first_block-returns-in_err-copy-clause-hand : goal.first_block-returns-in_err-copy-clause-hand
first_block-returns-in_err-copy-clause-hand t c = hand_still c.args.heap.now c.args.heap.now c.args.heap.now [] c.reserve.new.self.items refl (c.reserve.ensures.items ∙ c.requires.none) (hand_none c.args.heap.now c.lawful.ensures)

pub first_block-returns-in_err-first-clause-hand : goal.first_block-returns-in_err-first-clause-hand
first_block-returns-in_err-first-clause-hand t c = hand_still c.args.heap.now c.part.new.heap c.part.new.heap [] c.reserve.new.self.items refl (c.reserve.ensures.items ∙ c.requires.none) c.in_err-first.ensures.refused

pub first_block-brought-requires : goal.first_block-brought-requires
first_block-brought-requires t c =
    let one = part_hand c.args.p.now c.program_laws.ensures.ordered c.program_laws.ensures.free c.args.e.0 c.in_ok-copy.field-0 (names_in c.args.frame.now) c.args.parts.now 0 c.args.heap.now c.part.new.heap c.in_ok-first.first c.requires.inside c.requires.some c.requires.below c.lawful.ensures c.requires.names c.in_ok-first.ensures.evaluates in
    record { hands = all_in_hand c.args.heap.now c.part.new.heap (c.in_ok-first.first ∷ []) c.lawful.ensures one }

pub first_block-returns-in_err-sound-clause-hand : goal.first_block-returns-in_err-sound-clause-hand
first_block-returns-in_err-sound-clause-hand t c =
    let one = part_hand c.args.p.now c.program_laws.ensures.ordered c.program_laws.ensures.free c.args.e.0 c.in_ok-copy.field-0 (names_in c.args.frame.now) c.args.parts.now 0 c.args.heap.now c.part.new.heap c.in_ok-first.first c.requires.inside c.requires.some c.requires.below c.lawful.ensures c.requires.names c.in_ok-first.ensures.evaluates in
    hand_still c.args.heap.now c.brought.new.heap c.brought.new.heap [] c.reserve.new.self.items refl (c.reserve.ensures.items ∙ c.requires.none)
    (all_given_up c.args.heap.now c.part.new.heap c.brought.new.heap (c.in_ok-first.first ∷ []) c.lawful.ensures one c.in_err-sound.ensures.gives_up)

pub first_block-due_parts-requires : goal.first_block-due_parts-requires
first_block-due_parts-requires t c =
    let one = part_hand c.args.p.now c.program_laws.ensures.ordered c.program_laws.ensures.free c.args.e.0 c.in_ok-copy.field-0 (names_in c.args.frame.now) c.args.parts.now 0 c.args.heap.now c.part.new.heap c.in_ok-first.first c.requires.inside c.requires.some c.requires.below c.lawful.ensures c.requires.names c.in_ok-first.ensures.evaluates in
    let hand = hand_brought c.args.heap.now c.part.new.heap c.brought.new.heap c.args.env.now.sound_rate c.in_ok-first.first c.in_ok-sound.sound [] c.lawful.ensures one c.in_ok-sound.ensures.brings in
    let list = c.push_reserved.ensures.items ∙ ap (λ (xs : List Sound). xs ++ c.in_ok-sound.sound ∷ []) (c.reserve.ensures.items ∙ c.requires.none) in
    let names = held_after c.args.heap.now c.brought.new.heap (c.in_ok-sound.sound ∷ []) c.args.frame.now c.part.new.frame c.lawful.ensures hand c.part.ensures.same c.requires.names in
    (omega (arith, c.decreases), (c.requires.inside, (c.requires.below, (names, (omega (arith, c.requires.some, ap length list), (c.stop_of-stop.ensures ∙ sym (ap (last_stop_of 0) list), (due_first c.args.when.now c.args.block c.push_reserved.new.self.items c.in_ok-sound.sound list, c.requires.block ∙ sym hand.counts.block)))))))

pub first_block-returns-clause-starts : goal.first_block-returns-clause-starts
first_block-returns-clause-starts t c =
    let list = c.push_reserved.ensures.items ∙ ap (λ (xs : List Sound). xs ++ c.in_ok-sound.sound ∷ []) (c.reserve.ensures.items ∙ c.requires.none) in
    starts_with c.args.p.now c.args.e.0 c.args.env.now c.in_ok-copy.field-0 c.args.frame.now c.part.new.frame c.args.parts.now c.args.heap.now c.part.new.heap c.brought.new.heap c.due_parts.new.heap c.in_ok-first.first c.in_ok-sound.sound c.push_reserved.new.self.items c.due_parts.new.sounds.items c.in_ok-copy.ensures c.part.ensures.same list c.in_ok-first.ensures.evaluates c.in_ok-sound.ensures.brings c.in_ok-due_parts.ensures.next

pub first_block-returns-in_err-due_parts-clause-hand : goal.first_block-returns-in_err-due_parts-clause-hand
first_block-returns-in_err-due_parts-clause-hand t c =
    let one = part_hand c.args.p.now c.program_laws.ensures.ordered c.program_laws.ensures.free c.args.e.0 c.in_ok-copy.field-0 (names_in c.args.frame.now) c.args.parts.now 0 c.args.heap.now c.part.new.heap c.in_ok-first.first c.requires.inside c.requires.some c.requires.below c.lawful.ensures c.requires.names c.in_ok-first.ensures.evaluates in
    let hand = hand_brought c.args.heap.now c.part.new.heap c.brought.new.heap c.args.env.now.sound_rate c.in_ok-first.first c.in_ok-sound.sound [] c.lawful.ensures one c.in_ok-sound.ensures.brings in
    let list = c.push_reserved.ensures.items ∙ ap (λ (xs : List Sound). xs ++ c.in_ok-sound.sound ∷ []) (c.reserve.ensures.items ∙ c.requires.none) in
    gained_hand c.args.heap.now c.brought.new.heap c.due_parts.new.heap c.push_reserved.new.self.items c.due_parts.new.sounds.items (subst (λ (xs : List Sound). Hand c.args.heap.now c.brought.new.heap xs) (sym list) hand) c.due_parts.ensures.gains

pub first_block-returns-clause-hand : goal.first_block-returns-clause-hand
first_block-returns-clause-hand t c =
    let one = part_hand c.args.p.now c.program_laws.ensures.ordered c.program_laws.ensures.free c.args.e.0 c.in_ok-copy.field-0 (names_in c.args.frame.now) c.args.parts.now 0 c.args.heap.now c.part.new.heap c.in_ok-first.first c.requires.inside c.requires.some c.requires.below c.lawful.ensures c.requires.names c.in_ok-first.ensures.evaluates in
    let hand = hand_brought c.args.heap.now c.part.new.heap c.brought.new.heap c.args.env.now.sound_rate c.in_ok-first.first c.in_ok-sound.sound [] c.lawful.ensures one c.in_ok-sound.ensures.brings in
    let list = c.push_reserved.ensures.items ∙ ap (λ (xs : List Sound). xs ++ c.in_ok-sound.sound ∷ []) (c.reserve.ensures.items ∙ c.requires.none) in
    gained_hand c.args.heap.now c.brought.new.heap c.due_parts.new.heap c.push_reserved.new.self.items c.due_parts.new.sounds.items (subst (λ (xs : List Sound). Hand c.args.heap.now c.brought.new.heap xs) (sym list) hand) c.due_parts.ensures.gains

-- ---- parts one after another

pub in_turn-first_block-requires : goal.in_turn-first_block-requires
in_turn-first_block-requires t c = (omega (arith, c.decreases), (c.requires.inside, (c.requires.below, (some_parts c.args.p.now c.args.e.0 InTurn c.args.parts c.program_laws.ensures.whole c.requires.inside c.requires.node, (c.requires.names, (c.new-there.ensures.items, c.block-block.ensures))))))

pub in_turn-whole_timing-requires-clause-names : goal.in_turn-whole_timing-requires-clause-names
in_turn-whole_timing-requires-clause-names t c = held_timed c.args.heap.now (names_in c.args.frame.now) c.requires.names

pub in_turn-returns-in_err-when-clause-refused : goal.in_turn-returns-in_err-when-clause-refused
in_turn-returns-in_err-when-clause-refused t c = on_err _ _ (hand_none c.args.heap.now c.lawful.ensures)

pub in_turn-with_rest-requires-clause-below : goal.in_turn-with_rest-requires-clause-below
in_turn-with_rest-requires-clause-below t c = below_table c.args.e.0 c.args.p.now c.args.parts c.requires.inside c.requires.below

pub in_turn-with_rest-requires-clause-mix : goal.in_turn-with_rest-requires-clause-mix
in_turn-with_rest-requires-clause-mix t c =
    seq_fits c.args.p.now c.program_laws.ensures.ordered c.args.e.0 c.args.env (names_in c.args.frame.now) c.args.parts c.in_ok-when.when c.args.heap.now c.first_block.new.heap c.first_block.new.sounds.items c.requires.inside c.requires.node c.requires.below c.in_ok-when.ensures.when c.in_ok-when.ensures.bounds c.in-Ok.ensures.few c.in-Ok.ensures.starts

pub in_turn-with_rest-requires-clause-hands : goal.in_turn-with_rest-requires-clause-hands
in_turn-with_rest-requires-clause-hands t c = all_in_hand c.args.heap.now c.first_block.new.heap c.first_block.new.sounds.items c.lawful.ensures c.first_block.ensures.hand

pub in_turn-with_rest-requires-clause-names : goal.in_turn-with_rest-requires-clause-names
in_turn-with_rest-requires-clause-names t c = held_after c.args.heap.now c.first_block.new.heap c.first_block.new.sounds.items c.args.frame.now c.first_block.new.frame c.lawful.ensures c.first_block.ensures.hand c.first_block.ensures.same c.requires.names

pub in_turn-returns-in_err-with_rest-in-Ok-clause-refused : goal.in_turn-returns-in_err-with_rest-in-Ok-clause-refused
in_turn-returns-in_err-with_rest-in-Ok-clause-refused t c =
    on_err _ _ (all_given_up c.args.heap.now c.first_block.new.heap c.with_rest.new.heap c.first_block.new.sounds.items c.lawful.ensures c.first_block.ensures.hand c.in_err-with_rest-in-Ok.ensures.gives_up)

pub in_turn-returns-clause-refused : goal.in_turn-returns-clause-refused
in_turn-returns-clause-refused t c =
    all_given_up c.args.heap.now c.first_block.new.heap c.give_up_all.new.heap c.first_block.new.sounds.items c.lawful.ensures c.first_block.ensures.hand
    (subst (λ ss. GivesUp c.first_block.new.heap c.give_up_all.new.heap ss) c.from.ensures.0 c.give_up_all.ensures.gives_up)

pub in_turn-returns-in-Ok-clause-turn : goal.in_turn-returns-in-Ok-clause-turn
in_turn-returns-in-Ok-clause-turn t c =
    seq_turn c.args.p.now c.args.e.0 c.args.e.0 c.args.env (names_in c.args.frame.now) c.args.parts c.in_ok-when.when c.args.heap.now c.first_block.new.heap c.with_rest.new.heap c.first_block.new.sounds.items c.in_ok-with_rest-in-Ok.field-0 c.in_ok-when.ensures.when c.in-Ok.ensures.few c.in-Ok.ensures.starts c.in-Ok.ensures.enough
    (subst (λ b. NextAreDue c.in_ok-when.when b c.first_block.new.sounds.items) (c.block-block.ensures ∙ sym c.first_block.ensures.hand.counts.block) c.in-Ok.ensures.due)
    (subst (λ (r : FrameState). RestTurn c.args.p.now c.args.env (parts_between (names_in r) c.args.parts (length c.first_block.new.sounds.items) (count_in c.args.parts - length c.first_block.new.sounds.items)) c.in_ok-when.when c.first_block.new.sounds.items c.first_block.new.heap c.with_rest.new.heap c.in_ok-with_rest-in-Ok.field-0) c.first_block.ensures.same c.in_ok-with_rest-in-Ok.ensures.turn)

-- ---- parts in an order

pub in_order-together-requires : goal.in_order-together-requires
in_order-together-requires t c = (omega (arith, c.decreases), (c.requires.inside, (c.requires.below, c.requires.names)))

pub in_order-in_turn-requires : goal.in_order-in_turn-requires
in_order-in_turn-requires t c =
    (omega (arith, c.decreases), (c.requires.inside, (c.requires.below, (subst (λ (o : Order). AreParts c.args.p.now c.args.e.0 o c.args.parts) c.in-InTurn.is c.requires.node, c.requires.names))))
