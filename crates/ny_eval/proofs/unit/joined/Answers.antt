use Rattle.ny_check.specs.declared.value.Value.TheVariants.{Number, Sound}
use Rattle.ny_eval.proofs.AnswerLemmas.{on_err}
use Rattle.ny_eval.proofs.UnitLemmas.{gives_as}
use Rattle.ny_eval.proofs.unit.joined.Goals as goal

pub returns-in_err-silent-in-Number-right-clause-gives_up :
    goal.returns-in_err-silent-in-Number-right-clause-gives_up
returns-in_err-silent-in-Number-right-clause-gives_up c =
    on_err c.from_residual.result _ (gives_as c.args.left c.args.right (Number c.in-Number.j) (Number c.in-Number-right.field-0) c.in-Number.is c.in-Number-right.is c.args.heap.now c.silent.new.heap c.in_err-silent-in-Number-right.ensures.gives_up)

pub returns-in_err-with_number-in-Sound-right-clause-gives_up :
    goal.returns-in_err-with_number-in-Sound-right-clause-gives_up
returns-in_err-with_number-in-Sound-right-clause-gives_up c =
    on_err _ _ (gives_as c.args.left c.args.right (Number c.in-Number.j) (Sound c.in-Sound-right.b) c.in-Number.is c.in-Sound-right.is c.args.heap.now c.with_number.new.heap c.in_err-with_number-in-Sound-right.ensures.gives_up)

pub returns-in_err-with_number-in-Number-right-2-clause-gives_up :
    goal.returns-in_err-with_number-in-Number-right-2-clause-gives_up
returns-in_err-with_number-in-Number-right-2-clause-gives_up c =
    on_err _ _ (gives_as c.args.left c.args.right (Sound c.in-Sound.a) (Number c.in-Number-right-2.k) c.in-Sound.is c.in-Number-right-2.is c.args.heap.now c.with_number-in-Number-right-2.new.heap c.in_err-with_number-in-Number-right-2.ensures.gives_up)

pub returns-in_err-together-in-Sound-right-2-clause-gives_up :
    goal.returns-in_err-together-in-Sound-right-2-clause-gives_up
returns-in_err-together-in-Sound-right-2-clause-gives_up c =
    on_err _ _ (gives_as c.args.left c.args.right (Sound c.in-Sound.a) (Sound c.in-Sound-right-2.b) c.in-Sound.is c.in-Sound-right-2.is c.args.heap.now c.together.new.heap c.in_err-together-in-Sound-right-2.ensures.gives_up)
