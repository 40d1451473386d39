use Rattle.std.proofs.Common.{arith}
use Rattle.ny_pool.proofs.PoolLemmas.{IsLaidOut-opened, blocks-opened}
use Rattle.ny_pool.proofs.pool.Pool.open.Goals as goal

pub invariant_of-result : goal.invariant_of-result
invariant_of-result g c =
    let items = c.in_ok-with_capacity.ensures in
    let given = c.in_ok-with_capacity-2.ensures in
    rw (items.items, given.items) (IsLaidOut-opened _ _ c.args.n c.args.len (omega (arith, c.ranges.n.fits)) (omega (arith, items.capacity)) (omega (arith, given.capacity)))

pub returns : goal.returns
returns g c =
    let items = c.in_ok-with_capacity.ensures in
    let given = c.in_ok-with_capacity-2.ensures in
    rw (items.items, given.items) (let e = blocks-opened c.args.n c.args.len in record { all_free = λ j. record { blocks = e j; len = c.args.len } })
