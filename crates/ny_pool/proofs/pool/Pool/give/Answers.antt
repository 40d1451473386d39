use Rattle.std.proofs.Common.{get_or, None, IsSome, is_none, count_by, arith, ap, ◌∙◌}
use Rattle.ny_pool.specs.Layout.{blocks_from}
use Rattle.ny_pool.proofs.PlaceLemmas.{count-emptied}
use Rattle.ny_pool.proofs.PoolLemmas.{room_to_give, IsLaidOut-given, blocks-given}
use Rattle.ny_pool.proofs.pool.Pool.give.Goals as goal

pub push_reserved-requires : goal.push_reserved-requires
push_reserved-requires g c =
    let i = c.self.inside in
    let some : IsSome (get_or (blocks_from i.items.items i.given.items i.used i.len 0 i.count) c.args.b.0 None) = rw (← c.self.view_is) at c.requires.taken in
    omega (arith, room_to_give i.items.items i.given.items _ _ i.used i.count i.len c.args.b.0 c.self.invariant some)

pub invariant_of-self : goal.invariant_of-self
invariant_of-self g c =
    let i = c.self.inside in
    let some : IsSome (get_or (blocks_from i.items.items i.given.items i.used i.len 0 i.count) c.args.b.0 None) = rw (← c.self.view_is) at c.requires.taken in
    rw (c.push_reserved.ensures.items, c.push_reserved.ensures.capacity) (IsLaidOut-given i.items.items i.given.items _ _ i.used i.count i.len c.args.b.0 c.self.invariant some)

pub returns-clause-given : goal.returns-clause-given
returns-clause-given g c =
    let i = c.self.inside in
    let some : IsSome (get_or (blocks_from i.items.items i.given.items i.used i.len 0 i.count) c.args.b.0 None) = rw (← c.self.view_is) at c.requires.taken in
    rw (← c.self.view_is, c.push_reserved.ensures.items)
    (let e = blocks-given i.items.items i.given.items i.used i.len i.count c.args.b.0 some in λ j. record { blocks = e j; len = i.len })

pub returns-clause-free : goal.returns-clause-free
returns-clause-free g c =
    let i = c.self.inside in
    let some : IsSome (get_or (blocks_from i.items.items i.given.items i.used i.len 0 i.count) c.args.b.0 None) = rw (← c.self.view_is) at c.requires.taken in
    rw (← c.self.view_is, c.push_reserved.ensures.items)
    (ap (count_by is_none) (blocks-given i.items.items i.given.items i.used i.len i.count c.args.b.0 some) ∙ count-emptied (blocks_from i.items.items i.given.items i.used i.len 0 i.count) c.args.b.0 some)
