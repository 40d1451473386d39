use Rattle.std.proofs.Common.{◌≡◌, ℕ, List, drop, max}
use Rattle.ny_measures.specs.Counts.{capped, all_capped}
use Rattle.ny_measures.specs.Depth.{values_depth}
use Rattle.ny_measures.proofs.depth.values_depth.Given as goal

abbrev pub invariant-loop-i : goal.invariant-loop-i
invariant-loop-i l = (ws : List ℕ) → l.known ≡ all_capped ws → max l.most (capped (values_depth l.i (drop l.i l.ds) ws)) ≡ capped (values_depth 0 l.ds ws)
