use Rattle.std.proofs.Common.{◌+◌, ◌∙◌, false, refl, sym, subst}
use Rattle.ny_check.specs.Heights.{height_of}
use Rattle.ny_hands.specs.Frames.{Names, AllHeld}
use Rattle.ny_hands.proofs.HandLemmas.{hand_none}
use Rattle.ny_hands.proofs.HeldLemmas.{held_named}
use Rattle.ny_trace.specs.Evaluates.{Evaluates}
use Rattle.ny_trace.proofs.EvaluationLemmas.{evaluates_lawful}
use Rattle.ny_trace.proofs.RisingEvaluationLemmas.{evaluates_rising}
use Rattle.ny_trace.proofs.SettlingLemmas.{evaluates_settling}
use Rattle.ny_eval.specs.Framed.{names_in}
use Rattle.ny_eval.proofs.AnswerLemmas.{on_err}
use Rattle.ny_eval.proofs.EvalLemmas.{names_lent}
use Rattle.ny_eval.proofs.ProgramLemmas.{heights_enough}
use Rattle.ny_eval.proofs.expression.eval.Goals as goal

pub returns-in_err-frame-clause-refused : goal.returns-in_err-frame-clause-refused
returns-in_err-frame-clause-refused c = on_err _ _ (hand_none c.args.heap.now c.lawful.ensures)

pub evaluate-requires-clause-names : goal.evaluate-requires-clause-names
evaluate-requires-clause-names c = subst (λ (ns : Names). AllHeld c.args.heap.now ns) (sym (names_lent c.in_ok-frame.frame c.as_slice.result.now c.in_ok-frame.ensures ∙ c.as_slice.ensures)) c.requires.names

pub returns-clause-evaluates : goal.returns-clause-evaluates
returns-clause-evaluates c = subst (λ (ns : Names). Evaluates c.args.p.now (c.args.e.0 + 1) c.args.e.0 c.args.env ns c.args.heap.now c.evaluate.new.heap c.in_ok-evaluate.field-0) (names_lent c.in_ok-frame.frame c.as_slice.result.now c.in_ok-frame.ensures ∙ c.as_slice.ensures) c.in_ok-evaluate.ensures.evaluates

pub returns-clause-means : goal.returns-clause-means
returns-clause-means c =
    let t = subst (λ (ns : Names). Evaluates c.args.p.now (c.args.e.0 + 1) c.args.e.0 c.args.env ns c.args.heap.now c.evaluate.new.heap c.in_ok-evaluate.field-0) (names_lent c.in_ok-frame.frame c.as_slice.result.now c.in_ok-frame.ensures ∙ c.as_slice.ensures) c.in_ok-evaluate.ensures.evaluates in
    evaluates_lawful c.args.p.now c.program_laws.ensures.ordered c.program_laws.ensures.free (c.args.e.0 + 1) c.args.e.0 c.args.env c.args.binds.now.names c.args.heap.now c.evaluate.new.heap c.in_ok-evaluate.field-0 t c.requires.inside c.lawful.ensures (held_named c.args.heap.now c.args.binds.now.names c.requires.names)

pub returns-clause-rises : goal.returns-clause-rises
returns-clause-rises c rank base ranks low =
    let t = subst (λ (ns : Names). Evaluates c.args.p.now (c.args.e.0 + 1) c.args.e.0 c.args.env ns c.args.heap.now c.evaluate.new.heap c.in_ok-evaluate.field-0) (names_lent c.in_ok-frame.frame c.as_slice.result.now c.in_ok-frame.ensures ∙ c.as_slice.ensures) c.in_ok-evaluate.ensures.evaluates in
    evaluates_rising c.args.p.now c.program_laws.ensures.ordered c.program_laws.ensures.free (height_of c.args.p.now) (heights_enough c.args.p.now (height_of c.args.p.now) c.height_law.ensures.tall) (c.args.e.0 + 1) c.args.e.0 c.args.env c.args.binds.now.names c.args.heap.now c.evaluate.new.heap c.in_ok-evaluate.field-0 t c.requires.inside c.lawful.ensures (held_named c.args.heap.now c.args.binds.now.names c.requires.names) rank base ranks low

pub returns-clause-settles : goal.returns-clause-settles
returns-clause-settles c settled = λ v x at. evaluates_settling c.args.p.now (c.args.e.0 + 1) c.args.e.0 c.args.env (names_in c.in_ok-frame.frame) c.args.heap.now c.evaluate.new.heap c.in_ok-evaluate.field-0 c.in_ok-evaluate.ensures.evaluates (λ v. false) (λ v x at apart. settled v x at) v x at refl
