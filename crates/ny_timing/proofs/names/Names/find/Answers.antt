use Rattle.std.proofs.Common.{refl, ap}
use Rattle.ny_timing.proofs.HeldNames.{found_bounds, found_scalar, found_timing}
use Rattle.ny_check.specs.declared.value.Value.TheVariants as value
use Rattle.ny_timing.specs.declared.names.Held.TheVariants as held
use Rattle.ny_timing.proofs.names.Names.find.Goals as goal

pub held_found-requires : goal.held_found-requires
held_found-requires c = found_bounds c.args.x c.self.inside.scope c.find.result (held.Sound c.no_time.result) c.unwrap_or.result c.find.ensures c.unwrap_or.ensures c.self.invariant c.no_time.ensures.bounds

pub returns-clause-scalar : goal.returns-clause-scalar
returns-clause-scalar c = found_scalar c.args.x c.self.inside.scope c.args.self.now c.find.result (held.Sound c.no_time.result) c.unwrap_or.result _ c.self.view_is c.find.ensures c.unwrap_or.ensures refl c.held_found.ensures.scalar

pub returns-clause-timing : goal.returns-clause-timing
returns-clause-timing c = found_timing c.args.x c.self.inside.scope c.args.self.now c.find.result (held.Sound c.no_time.result) c.unwrap_or.result c.args.rate c.held_found.result c.self.view_is c.find.ensures c.unwrap_or.ensures (ap value.Sound c.no_time.ensures.value) c.held_found.ensures.timing
