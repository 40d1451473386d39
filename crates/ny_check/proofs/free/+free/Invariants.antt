use Rattle.std.proofs.Common.{◌≡◌, drop, map, take, length}
use Rattle.std.specs.Map.{keys_of}
use Rattle.ny_check.specs.Writing.{writing, writing_of_bind, uses_in, uses_in_binds, bound_after}
use Rattle.ny_check.proofs.free.+free.Given as goal

abbrev pub invariant-add_uses_in-loop-part : goal.invariant-add_uses_in-loop-part
invariant-add_uses_in-loop-part l = record {
  found : uses_in (map writing (drop l.part-index l.parts)) (keys_of l.bound) l.found.keys ≡ uses_in (map writing l.parts) (keys_of l.fn.bound) l.fn.found.keys;
  same : l.bound ≡ l.fn.bound;
}

abbrev pub invariant-add_uses_in_binds-loop-bind : goal.invariant-add_uses_in_binds-loop-bind
invariant-add_uses_in_binds-loop-bind l = record {
  found : uses_in_binds (map writing_of_bind (drop l.bind-index l.binds)) (keys_of l.bound) l.found.keys ≡ uses_in_binds (map writing_of_bind l.binds) (keys_of l.fn.bound) l.fn.found.keys;
  bound : bound_after (map writing_of_bind (drop l.bind-index l.binds)) (keys_of l.bound) ≡ bound_after (map writing_of_bind l.binds) (keys_of l.fn.bound);
  kept : take (length l.fn.bound) l.bound ≡ l.fn.bound;
}
