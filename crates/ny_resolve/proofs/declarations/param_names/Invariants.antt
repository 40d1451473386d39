use Rattle.std.proofs.Common.{◌≡◌, ◌++◌, drop}
use Rattle.ny_resolve.specs.Declarations.{param_names}
use Rattle.ny_resolve.proofs.declarations.param_names.Given as goal

abbrev pub invariant-loop-param : goal.invariant-loop-param
invariant-loop-param l = l.names ++ param_names (drop l.param-index l.params) ≡ param_names l.params
