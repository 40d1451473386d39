use Rattle.std.proofs.Common.{take, ap, ◌∙◌}
use Rattle.ny_timing.proofs.HeldNames.{left_values, left_bounds}
use Rattle.ny_timing.specs.Timings.{Timed}
use Rattle.ny_timing.proofs.names.Names.leave.Goals as goal

pub invariant_of-self : goal.invariant_of-self
invariant_of-self c = left_bounds c.self.inside.scope c.leave.new.self c.args.len c.leave.ensures c.self.invariant

pub returns : goal.returns
returns c = left_values c.self.inside.scope c.leave.new.self c.args.len c.leave.ensures ∙ ap (λ (v : Timed). take c.args.len v) c.self.view_is
