use Rattle.std.proofs.Common.{◌≡◌, take, []}
use Rattle.ny_measures.specs.Counts.{all_capped}
use Rattle.ny_measures.specs.Depth.{depths_after}
use Rattle.ny_measures.proofs.depth.depths.Given as goal

abbrev pub invariant-loop-d : goal.invariant-loop-d
invariant-loop-d l = record {
  known : l.known.items ≡ all_capped (depths_after [] (take l.d-index l.ds));
  values : l.values ≡ [];
}
