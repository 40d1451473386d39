use Rattle.std.proofs.Common.{◌≡◌, ℕ, List, drop, map, max, take, length}
use Rattle.ny_resolve.specs.declared.term.NameId.{NameId}
use Rattle.ny_measures.specs.Counts.{capped, all_capped, names_capped}
use Rattle.ny_measures.specs.Depth.{depth_of, depth_of_bind, greatest, scope_of, names_after, binds_depth}
use Rattle.ny_measures.proofs.depth.+depth.Given as goal

abbrev pub invariant-parts_depth-loop-part : goal.invariant-parts_depth-loop-part
invariant-parts_depth-loop-part l = record {
  value : (vs : List (NameId × ℕ)) → (ds : List ℕ) → l.values ≡ names_capped vs → l.known ≡ all_capped ds →
      max l.most (capped (greatest (map depth_of (drop l.part-index l.parts)) (scope_of vs ds))) ≡ capped (greatest (map depth_of l.parts) (scope_of vs ds));
  same : l.values ≡ l.fn.values;
}

-- what is kept so far stands for some names, from which the rest goes on as from the first; those from outside stand before
abbrev pub invariant-binds_depth-loop-bind : goal.invariant-binds_depth-loop-bind
invariant-binds_depth-loop-bind l = record {
  value : (vs : List (NameId × ℕ)) → (ds : List ℕ) → l.fn.values ≡ names_capped vs → l.known ≡ all_capped ds →
      (now : List (NameId × ℕ))
      × (l.values ≡ names_capped now)
      × (names_after (map depth_of_bind (drop l.bind-index l.binds)) (scope_of now ds) ≡ names_after (map depth_of_bind l.binds) (scope_of vs ds))
      × (max l.most (capped (binds_depth (map depth_of_bind (drop l.bind-index l.binds)) (scope_of now ds))) ≡ capped (binds_depth (map depth_of_bind l.binds) (scope_of vs ds)));
  kept : take (length l.fn.values) l.values ≡ l.fn.values;
}
