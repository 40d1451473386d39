-- The units of leaves and effects are of the kinds that the plan gives them.
use Rattle.std.proofs.Common.{ℕ, Option, subst}
use Rattle.ny_check.specs.Code.{Code}
use Rattle.ny_heap.specs.Kinds.{UnitKind, kind_of_leaf}
use Rattle.ny_hands.specs.Kinds.{IsOfKind}
use Rattle.ny_trace.specs.Evaluates.{Evaluates}
use Rattle.ny_match.proofs.EvaluationLemmas.{HasKinds}

pub has_kinds : (code : Code) (n : ℕ) → HasKinds code (Evaluates code n)
has_kinds code n = record {
  leaves = λ w env ns old new s step k is. subst (λ (o : Option UnitKind). IsOfKind o (kind_of_leaf step.played)) is step.kind;
  effects = λ w a ns env names old new s step. step.kind;
}
