use Rattle.std.proofs.Common.{◌≡◌, ℕ, drop}
use Rattle.ny_resolve.specs.declared.names.Names.{Names}
use Rattle.ny_resolve.specs.Faults.{earliest_after}
use Rattle.ny_resolve.specs.Names.{scope_of}
use Rattle.ny_resolve.specs.Declarations.{with_params, params_faults}
use Rattle.ny_resolve.proofs.declarations.bind_params.Given as goal

abbrev pub invariant-loop-param : goal.invariant-loop-param
invariant-loop-param l = record {
  bound : (names : Names) → (here : ℕ) → with_params (drop l.param-index l.params) (scope_of names here l.locals) ≡ with_params l.params (scope_of names here l.fn.locals);
  first : earliest_after l.first (params_faults (drop l.param-index l.params) l.seen.entries) ≡ earliest_after l.fn.first (params_faults l.params l.fn.seen.entries);
}
