use Rattle.std.proofs.Common.{ap, refl, ◌∙◌, map, List}
use Rattle.ny_check.specs.declared.node.ExprId.{ExprId}
use Rattle.ny_check.specs.Values.{scalar_of, argument}
use Rattle.ny_check.proofs.ScalarEquation.{scalar_of-call}
use Rattle.ny_check.proofs.scalar.+scalar.Goals as goal

pub scalar-returns-in_ok-called_scalar-in-Call-clause-value : goal.scalar-returns-in_ok-called_scalar-in-Call-clause-value
scalar-returns-in_ok-called_scalar-in-Call-clause-value t c =
    scalar_of-call c.args.p.now c.args.e.0 c.in-Call.f c.in-Call.parts c.node.result.now c.args.names.now _ c.params.result.now c.as_slice-in-Call.result.now c.body-body.result c.in_ok-called_scalar-in-Call.field-0
    c.node.ensures.value c.in-Call.is c.node.ensures.ordered
    (c.as_slice-in-Call.ensures.value ∙ c.in_ok-arguments-in-Call.ensures.values ∙ ap (λ (es : List ExprId). map (argument (scalar_of c.args.p.now) c.args.names.now) es) c.as_slice.ensures)
    c.params.ensures
    refl
    c.body-body.ensures.value
    c.in_ok-called_scalar-in-Call.ensures
