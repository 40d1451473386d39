use Rattle.std.proofs.Common.{◌≡◌, ◌+◌, ◌*◌, take, drop, map, length}
use Rattle.ny_check.specs.Values.{scalar_of, scalars_after, argument}
use Rattle.ny_check.specs.Code.{AllBelow, BindsBelow}
use Rattle.ny_check.proofs.scalar.+scalar.Given as goal

-- the work of a node, and of the parts of a node
abbrev pub decreases-scalar : goal.decreases-scalar
decreases-scalar l = 2 * l.e.0 + 1

abbrev pub decreases-global_scalar : goal.decreases-global_scalar
decreases-global_scalar l = 2 * l.value.0 + 2

abbrev pub decreases-called_scalar : goal.decreases-called_scalar
decreases-called_scalar l = 2 * l.body.0 + 2

abbrev pub decreases-argument_scalars : goal.decreases-argument_scalars
decreases-argument_scalars l = 2 * l.call.0

abbrev pub decreases-bind_scalars : goal.decreases-bind_scalars
decreases-bind_scalars l = 2 * l.block.0

abbrev pub invariant-argument_scalars-loop-argument : goal.invariant-argument_scalars-loop-argument
invariant-argument_scalars-loop-argument l = record {
  so_far : l.scalars.items ≡ map (argument (scalar_of l.p) l.fn.names) (take l.argument-index l.arguments);
  same : l.names ≡ l.fn.names;
  below : AllBelow l.fn.call.0 (drop l.argument-index l.arguments);
}

abbrev pub invariant-bind_scalars-loop-name : goal.invariant-bind_scalars-loop-name
invariant-bind_scalars-loop-name l = record {
  so_far : scalars_after (scalar_of l.p) (drop l.name-index l.binds) l.names ≡ scalars_after (scalar_of l.p) l.binds l.fn.names;
  kept : take (length l.fn.names) l.names ≡ l.fn.names;
  below : BindsBelow l.fn.block.0 (drop l.name-index l.binds);
}
