use Rattle.std.proofs.Common.{List, All, ◌<◌, sym, subst, rules}
use Rattle.ny_check.specs.declared.node.ExprId.{ExprId}
use Rattle.ny_check.proofs.form.operator_node.Goals as goal

pub returns-in_ok-effect_node-in-Effect-clause-below : goal.returns-in_ok-effect_node-in-Effect-clause-below
returns-in_ok-effect_node-in-Effect-clause-below c = λ fs n h.
    c.in_ok-effect_node-in-Effect.ensures.below fs n (subst (λ (ids : List ExprId). All (λ (id : ExprId). id.0 < n) ids) (sym c.as_slice.ensures) h)

pub returns-in_default : goal.returns-in_default
returns-in_default c = record {
  value = search rules;
  below = λ fs n h. c.counted_node.ensures.below fs n (subst (λ (ids : List ExprId). All (λ (id : ExprId). id.0 < n) ids) (sym c.as_slice-in_default.ensures) h);
}
