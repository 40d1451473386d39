use Rattle.std.proofs.Common.{leb, leb-true, leb-false, rules}
use Rattle.std.proofs.lemmas.List.Sorted.{IsPartitionPoint-from_clause, IsPartitionedBy-leb}
use Rattle.ny_warp.proofs.Segments.{times_rise}
use Rattle.ny_warp.proofs.map.count_up_to.Goals as goal

pub returns-clause-parts : goal.returns-clause-parts
returns-clause-parts c =
    let parted = IsPartitionedBy-leb (λ p. p.x) _ c.args.x (times_rise _ c.requires) in
    let point = IsPartitionPoint-from_clause (λ p. leb p.x c.args.x) _ _ c.partition_point.ensures.partitioned parted (λ a r q k. search rules) in
    (λ k d a h. leb-true _ _ (point.0 k d a h), λ k d a h. leb-false _ _ (point.1 k d a h))
