use Rattle.std.proofs.Common.{◌≡◌, ◌+◌, ◌∷◌, drop}
use Rattle.ny_resolve.specs.Names.{scope_of}
use Rattle.ny_resolve.proofs.ParamSteps.{rest_is, bound_step, fault_step}
use Rattle.ny_resolve.proofs.declarations.bind_params.Goals as goal

pub loop-param-preserved : goal.loop-param-preserved
loop-param-preserved c =
    let here : drop c.loop-param.param-index c.args.params.now ≡ c.param-item.result ∷ drop (c.loop-param.param-index + 1) c.args.params.now =
    rest_is c.args.params.now c.loop-param.param-index c.param-item.result c.loop-param-test.true c.param-item.is in
    record {
      bound = λ names here_in. bound_step _ _ c.param-item.result (scope_of names here_in c.loop-param.locals) (scope_of names here_in c.bind_param.new.locals) _ here (c.in_ok-first.ensures.bound names here_in) (c.loop-param.invariant.bound names here_in);
      first = fault_step _ _ c.param-item.result c.loop-param.first _ _ c.loop-param.seen.entries c.bind_param.new.seen.entries here c.in_ok-first.ensures.seen c.in_ok-first.ensures.first c.loop-param.invariant.first;
    }
