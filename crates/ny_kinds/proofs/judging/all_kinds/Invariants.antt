use Rattle.std.proofs.Common.{◌≡◌, drop}
use Rattle.ny_kinds.specs.Kinds.{all_kinds, followed}
use Rattle.ny_kinds.proofs.judging.all_kinds.Given as goal

abbrev pub invariant-loop-kind : goal.invariant-loop-kind
invariant-loop-kind l = followed l.all (all_kinds (drop l.kind-index l.kinds)) ≡ all_kinds l.kinds
