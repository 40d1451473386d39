use Rattle.std.proofs.Common.{◌≡◌, drop}
use Rattle.ny_syntax.specs.Spelled.{onto}
use Rattle.ny_syntax.specs.Canonical.{separated_params, param_lexemes}
use Rattle.ny_syntax.proofs.lines.push_params.Given as goal

abbrev pub invariant-loop-param : goal.invariant-loop-param
invariant-loop-param l = onto l.out.items (separated_params l.some (drop l.param-index l.params)) ≡ onto l.fn.out.items (param_lexemes l.params)
