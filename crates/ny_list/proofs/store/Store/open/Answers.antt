use Rattle.ny_list.proofs.StoreLemmas.{IsStore-opened, opened_seen, none_copied}
use Rattle.ny_list.proofs.LawLemmas.{store_laws}
use Rattle.ny_list.proofs.store.Store.open.Goals as goal

pub invariant_of-result : goal.invariant_of-result
invariant_of-result c =
    IsStore-opened c.args.blocks c.args.len c.in_ok-vec.field-0 c.in_ok-vec-2.field-0 (c.in_ok-vec.ensures.items_if_clones_equal (none_copied _ (λ k h. h))) (c.in_ok-vec-2.ensures.items_if_clones_equal (λ y e. e))
    c.ranges.blocks.fits c.ranges.len.fits c.requires.some_samples c.in_ok-open.field-0 c.in_ok-open-2.field-0 c.in_ok-open.ensures.all_free c.in_ok-open-2.ensures.empty

pub returns-clause-opened : goal.returns-clause-opened
returns-clause-opened c = opened_seen c.args.blocks c.args.len c.in_ok-vec.field-0 c.in_ok-vec-2.field-0 (c.in_ok-vec.ensures.items_if_clones_equal (none_copied _ (λ k h. h))) (c.in_ok-vec-2.ensures.items_if_clones_equal (λ y e. e))
    c.ranges.blocks.fits c.ranges.len.fits c.requires.some_samples c.in_ok-open.field-0 c.in_ok-open-2.field-0 c.in_ok-open.ensures.all_free c.in_ok-open-2.ensures.empty

pub returns-clause-laws : goal.returns-clause-laws
returns-clause-laws c = store_laws _ (invariant_of-result c)
