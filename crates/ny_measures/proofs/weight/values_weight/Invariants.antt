use Rattle.std.proofs.Common.{◌≡◌, ◌≤◌, ◌+◌, ◌^◌, ℕ, List, drop}
use Rattle.ny_measures.specs.Counts.{capped, all_capped}
use Rattle.ny_measures.specs.Weight.{values_weight}
use Rattle.ny_measures.proofs.weight.values_weight.Given as goal

abbrev pub invariant-loop-i : goal.invariant-loop-i
invariant-loop-i l = record {
  within : l.total ≤ 2 ^ 32;
  value : (ws : List ℕ) → l.known ≡ all_capped ws → capped (l.total + values_weight l.i (drop l.i l.ds) ws) ≡ capped (values_weight 0 l.ds ws);
}
