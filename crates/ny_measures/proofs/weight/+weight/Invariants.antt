use Rattle.std.proofs.Common.{◌≡◌, ◌≤◌, ◌^◌, ◌+◌, List, ℕ, drop, map}
use Rattle.ny_measures.specs.Counts.{capped, all_capped}
use Rattle.ny_measures.specs.Weight.{weight_of, weight_of_bind, total}
use Rattle.ny_measures.proofs.weight.+weight.Given as goal

abbrev pub invariant-parts_weight-loop-part : goal.invariant-parts_weight-loop-part
invariant-parts_weight-loop-part l = record {
  within : l.total ≤ 2 ^ 32;
  value : (ds : List ℕ) → l.known ≡ all_capped ds → capped (l.total + total (map weight_of (drop l.part-index l.parts)) ds) ≡ capped (total (map weight_of l.parts) ds);
}

abbrev pub invariant-binds_weight-loop-bind : goal.invariant-binds_weight-loop-bind
invariant-binds_weight-loop-bind l = record {
  within : l.total ≤ 2 ^ 32;
  value : (ds : List ℕ) → l.known ≡ all_capped ds → capped (l.total + total (map weight_of_bind (drop l.bind-index l.binds)) ds) ≡ capped (total (map weight_of_bind l.binds) ds);
}
