use Rattle.std.proofs.Common.{ltb, ltb-true, ltb-false, rules}
use Rattle.std.proofs.lemmas.List.Sorted.{IsPartitionPoint-from_clause, IsPartitionedBy-ltb}
use Rattle.ny_warp.proofs.Segments.{values_rise}
use Rattle.ny_warp.proofs.map.count_below.Goals as goal

pub returns-clause-parts : goal.returns-clause-parts
returns-clause-parts c =
    let parted = IsPartitionedBy-ltb (λ p. p.y) _ c.args.y (values_rise _ c.requires) in
    let point = IsPartitionPoint-from_clause (λ p. ltb p.y c.args.y) _ _ c.partition_point.ensures.partitioned parted (λ a r q k. search rules) in
    (λ k d a h. ltb-true _ _ (point.0 k d a h), λ k d a h. ltb-false _ _ (point.1 k d a h))
