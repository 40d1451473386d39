use Rattle.std.proofs.Common.{◌+◌, ◌<◌, List, [], length, take, arith, refl, sym, subst, ◌∙◌}
use Rattle.ny_resolve.specs.declared.term.NameId.{NameId}
use Rattle.ny_check.specs.declared.node.ExprId.{ExprId}
use Rattle.ny_check.specs.Code.{AllBelow, BindsBelow, function_at}
use Rattle.ny_hands.proofs.HandLemmas.{hand_none}
use Rattle.ny_trace.specs.Plays.{EvaluatesAny, Plays, PlaysCall}
use Rattle.ny_eval.specs.Framed.{names_in}
use Rattle.ny_eval.proofs.AnswerLemmas.{on_err, err_one}
use Rattle.ny_eval.proofs.EvalLemmas.{held_same, call_below, block_below, choice_below}
use Rattle.ny_eval.proofs.BodyLemmas.{empty_frame, empty_held, empty_count, bound_grown, passed_grown, held_grown, leave_within, leave_hands, left_same, left_refused, if_ok}
use Rattle.ny_eval.proofs.PlayedLemmas.{played_hand, plays_under, block_played, call_played, vector_below, vector_played, call_plays, block_plays, choice_plays, one_plays}
use Rattle.ny_eval.proofs.plays.+played.Goals as goal

-- ---- an expression

pub played-operands-requires-clause-below : goal.played-operands-requires-clause-below
played-operands-requires-clause-below t c =
    subst (λ es. AllBelow c.args.e.0 es) (sym c.as_slice.ensures) (vector_below c.args.p.now c.args.e.0 c.in-Vector.parts c.node.result.now c.in-Vector.is c.node.ensures.ordered)

pub played-returns-in_ok-operands-in-Vector-clause-plays : goal.played-returns-in_ok-operands-in-Vector-clause-plays
played-returns-in_ok-operands-in-Vector-clause-plays t c =
    vector_played c.args.p.now c.args.e.0 c.node.result.now c.args.env (names_in c.args.frame.now) c.args.heap.now c.operands.new.heap c.in_ok-operands-in-Vector.field-0.items c.node.ensures.value c.node.ensures.ordered c.in-Vector.parts c.as_slice.result.now c.in-Vector.is c.as_slice.ensures c.in_ok-operands-in-Vector.ensures.turn

pub played-played_call-requires : goal.played-played_call-requires
played-played_call-requires t c =
    let under = call_below c.args.p.now c.args.e.0 c.in-Call.f c.in-Call.parts c.node.result.now c.in-Call.is c.node.ensures.ordered in
    (omega (arith, c.decreases), (c.requires.inside, (subst (λ es. AllBelow c.args.e.0 es) (sym c.as_slice-in-Call.ensures) under.0, (under.1, (under.2, c.requires.names)))))

pub played-returns-in_ok-played_call-in-Call-clause-plays : goal.played-returns-in_ok-played_call-in-Call-clause-plays
played-returns-in_ok-played_call-in-Call-clause-plays t c =
    call_plays c.args.p.now c.args.e.0 c.node.result.now c.args.env (names_in c.args.frame.now) c.args.heap.now c.played_call.new.heap c.in_ok-played_call-in-Call.field-0.items c.node.ensures.value c.node.ensures.ordered c.in-Call.f c.in-Call.parts c.as_slice-in-Call.result.now c.in-Call.is c.as_slice-in-Call.ensures c.in_ok-played_call-in-Call.ensures.turn

pub played-played_block-requires : goal.played-played_block-requires
played-played_block-requires t c =
    let under = block_below c.args.p.now c.args.e.0 c.in-Block.binds c.in-Block.value c.node.result.now c.in-Block.is c.node.ensures.ordered in
    (omega (arith, c.decreases), (c.requires.inside, (subst (λ bs. BindsBelow c.args.e.0 bs) (sym c.as_slice-in-Block.ensures) under.0, (under.1, c.requires.names))))

pub played-returns-in_ok-played_block-in-Block-clause-plays : goal.played-returns-in_ok-played_block-in-Block-clause-plays
played-returns-in_ok-played_block-in-Block-clause-plays t c =
    block_plays c.args.p.now c.args.e.0 c.node.result.now c.args.env (names_in c.args.frame.now) c.args.heap.now c.played_block.new.heap c.in_ok-played_block-in-Block.field-0.items c.node.ensures.value c.node.ensures.ordered c.in-Block.binds c.in-Block.value c.as_slice-in-Block.result.now c.in-Block.is c.as_slice-in-Block.ensures c.in_ok-played_block-in-Block.ensures.turn

pub played-returns-in_err-test-in-If-clause-refused : goal.played-returns-in_err-test-in-If-clause-refused
played-returns-in_err-test-in-If-clause-refused t c = on_err _ _ (hand_none c.args.heap.now c.lawful.ensures)

pub played-played-requires : goal.played-played-requires
played-played-requires t c =
    let under = choice_below c.args.p.now c.args.e.0 c.in-If.c c.in-If.a c.in-If.b c.in_ok-test-in-If.field-0 c.chosen-part.result.0 c.node.result.now c.in-If.is c.node.ensures.ordered c.chosen-part.ensures in
    (omega (arith, under, c.decreases), (omega (arith, under, c.requires.inside), held_same c.args.heap.now c.args.frame.now c.test.new.self c.test.ensures.same c.requires.names))

pub played-returns-in_ok-played-in-If-clause-plays : goal.played-returns-in_ok-played-in-If-clause-plays
played-returns-in_ok-played-in-If-clause-plays t c =
    choice_plays c.args.p.now c.args.e.0 c.node.result.now c.args.env (names_in c.args.frame.now) c.args.heap.now c.played.new.heap c.in_ok-played-in-If.field-0.items c.node.ensures.value c.node.ensures.ordered c.in-If.c c.in-If.a c.in-If.b c.in_ok-test-in-If.field-0 c.chosen-part.result.0 c.in-If.is c.in_ok-test-in-If.ensures.value c.chosen-part.ensures
    (plays_under c.args.p.now (c.chosen-part.result.0 + 1) c.chosen-part.result.0 c.args.env c.args.frame.now c.test.new.self c.args.heap.now c.played.new.heap c.in_ok-played-in-If.field-0.items c.test.ensures.same c.in_ok-played-in-If.ensures.plays)

-- ---- a block

pub played_block-played-sounds-requires : goal.played_block-played-sounds-requires
played_block-played-sounds-requires t c =
    let grown = bound_grown c.args.p.now c.args.e.0 c.args.env c.args.binds.now c.args.frame.now c.bind_all.new.frame c.args.heap.now c.bind_all.new.heap c.in-Ok.ensures.bound in
    (omega (arith, c.requires.value, c.decreases), (omega (arith, c.requires.value, c.requires.inside), held_grown c.args.frame.now c.bind_all.new.frame c.args.heap.now c.bind_all.new.heap c.lawful.ensures grown c.requires.names))

pub played_block-leave-requires : goal.played_block-leave-requires
played_block-leave-requires t c =
    let grown = bound_grown c.args.p.now c.args.e.0 c.args.env c.args.binds.now c.args.frame.now c.bind_all.new.frame c.args.heap.now c.bind_all.new.heap c.in-Ok.ensures.bound in
    let held = held_grown c.args.frame.now c.bind_all.new.frame c.args.heap.now c.bind_all.new.heap c.lawful.ensures grown c.requires.names in
    let body = played_hand c.args.p.now c.program_laws.ensures.ordered c.program_laws.ensures.free (λ x. x.items) (c.args.value.0 + 1) c.args.value.0 c.args.env (names_in c.bind_all.new.frame) c.bind_all.new.heap c.played-sounds.new.heap c.played-sounds.result (omega (arith, c.requires.value, c.requires.inside)) grown.hand.laws held c.played-sounds.ensures.plays c.played-sounds.ensures.refused in
    record {
      within = leave_within c.args.frame.now c.bind_all.new.frame c.played-sounds.new.frame c.args.heap.now c.bind_all.new.heap c.played-sounds.new.heap c.len-before.result c.lawful.ensures grown c.played-sounds.ensures.same c.len-before.ensures;
      hands = leave_hands c.args.frame.now c.bind_all.new.frame c.played-sounds.new.frame c.args.heap.now c.bind_all.new.heap c.played-sounds.new.heap c.len-before.result c.lawful.ensures grown c.played-sounds.ensures.same c.len-before.ensures body;
    }

pub played_block-leave-requires-in-Err : goal.played_block-leave-requires-in-Err
played_block-leave-requires-in-Err t c =
    let grown = c.in-Err.ensures.grown in
    record {
      within = leave_within c.args.frame.now c.bind_all.new.frame c.bind_all.new.frame c.args.heap.now c.bind_all.new.heap c.bind_all.new.heap c.len-before.result c.lawful.ensures grown refl c.len-before.ensures;
      hands = leave_hands c.args.frame.now c.bind_all.new.frame c.bind_all.new.frame c.args.heap.now c.bind_all.new.heap c.bind_all.new.heap c.len-before.result c.lawful.ensures grown refl c.len-before.ensures ([], hand_none c.bind_all.new.heap grown.hand.laws);
    }

pub played_block-returns-in-Ok-clause-turn : goal.played_block-returns-in-Ok-clause-turn
played_block-returns-in-Ok-clause-turn t c =
    if_ok c.played-sounds.result _ _
    (λ x plays. block_played c.args.p.now c.args.e.0 c.args.env c.args.binds.now c.args.value c.args.frame.now c.bind_all.new.frame c.played-sounds.new.frame c.args.heap.now c.bind_all.new.heap c.played-sounds.new.heap c.leave.new.heap x.items c.len-before.result c.requires.value c.in-Ok.ensures.bound c.played-sounds.ensures.same c.len-before.ensures plays c.leave.ensures.released)
    c.played-sounds.ensures.plays

pub played_block-returns-in-Ok-clause-same : goal.played_block-returns-in-Ok-clause-same
played_block-returns-in-Ok-clause-same t c =
    let grown = bound_grown c.args.p.now c.args.e.0 c.args.env c.args.binds.now c.args.frame.now c.bind_all.new.frame c.args.heap.now c.bind_all.new.heap c.in-Ok.ensures.bound in
    left_same c.args.frame.now c.bind_all.new.frame c.played-sounds.new.frame c.args.heap.now c.bind_all.new.heap c.played-sounds.new.heap c.len-before.result c.lawful.ensures grown c.played-sounds.ensures.same c.len-before.ensures c.leave.new.self c.leave.ensures.left

pub played_block-returns-in-Ok-clause-refused : goal.played_block-returns-in-Ok-clause-refused
played_block-returns-in-Ok-clause-refused t c =
    let grown = bound_grown c.args.p.now c.args.e.0 c.args.env c.args.binds.now c.args.frame.now c.bind_all.new.frame c.args.heap.now c.bind_all.new.heap c.in-Ok.ensures.bound in
    err_one c.played-sounds.result _ _ (λ hand. left_refused c.args.frame.now c.bind_all.new.frame c.played-sounds.new.frame c.args.heap.now c.bind_all.new.heap c.played-sounds.new.heap c.len-before.result c.lawful.ensures grown c.played-sounds.ensures.same c.len-before.ensures c.leave.new.heap c.leave.ensures.released hand) c.played-sounds.ensures.refused

pub played_block-returns-in-Err-clause-same : goal.played_block-returns-in-Err-clause-same
played_block-returns-in-Err-clause-same t c =
    left_same c.args.frame.now c.bind_all.new.frame c.bind_all.new.frame c.args.heap.now c.bind_all.new.heap c.bind_all.new.heap c.len-before.result c.lawful.ensures c.in-Err.ensures.grown refl c.len-before.ensures c.leave-in-Err.new.self c.leave-in-Err.ensures.left

pub played_block-returns-in-Err-clause-refused : goal.played_block-returns-in-Err-clause-refused
played_block-returns-in-Err-clause-refused t c =
    left_refused c.args.frame.now c.bind_all.new.frame c.bind_all.new.frame c.args.heap.now c.bind_all.new.heap c.bind_all.new.heap c.len-before.result c.lawful.ensures c.in-Err.ensures.grown refl c.len-before.ensures c.leave-in-Err.new.heap c.leave-in-Err.ensures.released (hand_none c.bind_all.new.heap c.in-Err.ensures.grown.hand.laws)

-- ---- a call

pub played_call-returns-in_err-inner-clause-refused : goal.played_call-returns-in_err-inner-clause-refused
played_call-returns-in_err-inner-clause-refused t c = on_err _ _ (hand_none c.args.heap.now c.lawful.ensures)

pub played_call-played-sounds-requires : goal.played_call-played-sounds-requires
played_call-played-sounds-requires t c =
    let grown = passed_grown c.args.p.now c.args.e.0 c.args.env (names_in c.args.frame.now) c.params.result.now (take (length c.params.result.now) c.args.parts.now) c.in_ok-inner.inner c.arguments.new.inner c.args.heap.now c.arguments.new.heap c.in-Ok.ensures.passed in
    let empty = empty_frame c.in_ok-inner.inner c.as_slice.result.now c.in_ok-inner.ensures (c.as_slice.ensures ∙ c.no_names-none.ensures) in
    let below : c.body.result.0 < c.args.e.0 = subst (λ (x : ExprId). x.0 < c.args.e.0) (sym c.body.ensures.value) c.requires.body in
    (omega (arith, below, c.decreases), (omega (arith, below, c.requires.inside), held_grown c.in_ok-inner.inner c.arguments.new.inner c.args.heap.now c.arguments.new.heap c.lawful.ensures grown (empty_held c.args.heap.now c.in_ok-inner.inner empty)))

pub played_call-leave-requires : goal.played_call-leave-requires
played_call-leave-requires t c =
    let grown = passed_grown c.args.p.now c.args.e.0 c.args.env (names_in c.args.frame.now) c.params.result.now (take (length c.params.result.now) c.args.parts.now) c.in_ok-inner.inner c.arguments.new.inner c.args.heap.now c.arguments.new.heap c.in-Ok.ensures.passed in
    let empty = empty_frame c.in_ok-inner.inner c.as_slice.result.now c.in_ok-inner.ensures (c.as_slice.ensures ∙ c.no_names-none.ensures) in
    let below : c.body.result.0 < c.args.e.0 = subst (λ (x : ExprId). x.0 < c.args.e.0) (sym c.body.ensures.value) c.requires.body in
    let held = held_grown c.in_ok-inner.inner c.arguments.new.inner c.args.heap.now c.arguments.new.heap c.lawful.ensures grown (empty_held c.args.heap.now c.in_ok-inner.inner empty) in
    let body = played_hand c.args.p.now c.program_laws.ensures.ordered c.program_laws.ensures.free (λ x. x.items) (c.body.result.0 + 1) c.body.result.0 c.args.env (names_in c.arguments.new.inner) c.arguments.new.heap c.played-sounds.new.heap c.played-sounds.result (omega (arith, below, c.requires.inside)) grown.hand.laws held c.played-sounds.ensures.plays c.played-sounds.ensures.refused in
    record {
      within = leave_within c.in_ok-inner.inner c.arguments.new.inner c.played-sounds.new.frame c.args.heap.now c.arguments.new.heap c.played-sounds.new.heap 0 c.lawful.ensures grown c.played-sounds.ensures.same (empty_count c.in_ok-inner.inner empty);
      hands = leave_hands c.in_ok-inner.inner c.arguments.new.inner c.played-sounds.new.frame c.args.heap.now c.arguments.new.heap c.played-sounds.new.heap 0 c.lawful.ensures grown c.played-sounds.ensures.same (empty_count c.in_ok-inner.inner empty) body;
    }

pub played_call-leave-requires-in-Err : goal.played_call-leave-requires-in-Err
played_call-leave-requires-in-Err t c =
    let grown = c.in-Err.ensures.grown in
    let empty = empty_frame c.in_ok-inner.inner c.as_slice.result.now c.in_ok-inner.ensures (c.as_slice.ensures ∙ c.no_names-none.ensures) in
    record {
      within = leave_within c.in_ok-inner.inner c.arguments.new.inner c.arguments.new.inner c.args.heap.now c.arguments.new.heap c.arguments.new.heap 0 c.lawful.ensures grown refl (empty_count c.in_ok-inner.inner empty);
      hands = leave_hands c.in_ok-inner.inner c.arguments.new.inner c.arguments.new.inner c.args.heap.now c.arguments.new.heap c.arguments.new.heap 0 c.lawful.ensures grown refl (empty_count c.in_ok-inner.inner empty) ([], hand_none c.arguments.new.heap grown.hand.laws);
    }

pub played_call-returns-in-Ok-clause-turn : goal.played_call-returns-in-Ok-clause-turn
played_call-returns-in-Ok-clause-turn t c =
    let empty = empty_frame c.in_ok-inner.inner c.as_slice.result.now c.in_ok-inner.ensures (c.as_slice.ensures ∙ c.no_names-none.ensures) in
    let f = function_at c.args.p.now c.args.f.0 in
    if_ok c.played-sounds.result _ _
    (λ s plays.
    subst (λ (xs : List NameId). PlaysCall (EvaluatesAny c.args.p.now) (Plays c.args.p.now c.args.e.0) c.args.p.now xs f.body.0 c.args.parts.now c.args.env (names_in c.args.frame.now) c.args.heap.now c.leave.new.heap s.items) c.params.ensures
    (call_played c.args.p.now c.args.e.0 c.args.env (names_in c.args.frame.now) c.params.result.now c.args.parts.now f.body.0 c.in_ok-inner.inner c.arguments.new.inner c.played-sounds.new.frame c.args.heap.now c.arguments.new.heap c.played-sounds.new.heap c.leave.new.heap s.items c.requires.body empty c.in-Ok.ensures.passed c.played-sounds.ensures.same
    (subst (λ (x : ExprId). Plays c.args.p.now (x.0 + 1) x.0 c.args.env (names_in c.arguments.new.inner) c.arguments.new.heap c.played-sounds.new.heap s.items) c.body.ensures.value plays) c.leave.ensures.released))
    c.played-sounds.ensures.plays

pub played_call-returns-in-Ok-clause-refused : goal.played_call-returns-in-Ok-clause-refused
played_call-returns-in-Ok-clause-refused t c =
    let grown = passed_grown c.args.p.now c.args.e.0 c.args.env (names_in c.args.frame.now) c.params.result.now (take (length c.params.result.now) c.args.parts.now) c.in_ok-inner.inner c.arguments.new.inner c.args.heap.now c.arguments.new.heap c.in-Ok.ensures.passed in
    let empty = empty_frame c.in_ok-inner.inner c.as_slice.result.now c.in_ok-inner.ensures (c.as_slice.ensures ∙ c.no_names-none.ensures) in
    err_one c.played-sounds.result _ _ (λ hand. left_refused c.in_ok-inner.inner c.arguments.new.inner c.played-sounds.new.frame c.args.heap.now c.arguments.new.heap c.played-sounds.new.heap 0 c.lawful.ensures grown c.played-sounds.ensures.same (empty_count c.in_ok-inner.inner empty) c.leave.new.heap c.leave.ensures.released hand) c.played-sounds.ensures.refused

pub played_call-returns-in-Err-clause-refused : goal.played_call-returns-in-Err-clause-refused
played_call-returns-in-Err-clause-refused t c =
    let empty = empty_frame c.in_ok-inner.inner c.as_slice.result.now c.in_ok-inner.ensures (c.as_slice.ensures ∙ c.no_names-none.ensures) in
    left_refused c.in_ok-inner.inner c.arguments.new.inner c.arguments.new.inner c.args.heap.now c.arguments.new.heap c.arguments.new.heap 0 c.lawful.ensures c.in-Err.ensures.grown refl (empty_count c.in_ok-inner.inner empty) c.leave-in-Err.new.heap c.leave-in-Err.ensures.released (hand_none c.arguments.new.heap c.in-Err.ensures.grown.hand.laws)

pub played-returns-in_ok-alone-in_default : goal.played-returns-in_ok-alone-in_default
played-returns-in_ok-alone-in_default t c =
    let no = c.in_default in
    record {
      plays = one_plays c.args.p.now c.args.e.0 c.node.result.now c.args.env (names_in c.args.frame.now) c.args.heap.now c.alone.new.heap c.in_ok-alone-in_default.field-0.items c.node.ensures.value c.node.ensures.ordered no.not-Vector no.not-Call no.not-Block no.not-If c.in_ok-alone-in_default.ensures.one;
      same = c.alone.ensures.same;
      refused = tt;
    }
