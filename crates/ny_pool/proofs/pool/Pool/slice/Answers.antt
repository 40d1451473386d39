use Rattle.std.proofs.Common.{◌*◌, length, get_or, None, IsSome, arith, ap}
use Rattle.ny_pool.specs.Layout.{blocks_from}
use Rattle.ny_pool.proofs.PoolLemmas.{taken_ends, taken_items}
use Rattle.ny_pool.proofs.RangeLemmas.{length-range}
use Rattle.ny_pool.proofs.pool.Pool.slice.Goals as goal

pub part-requires : goal.part-requires
part-requires g c =
    let i = c.self.inside in
    let some : IsSome (get_or (blocks_from i.items.items i.given.items i.used i.len 0 i.count) c.args.b.0 None) = rw (← c.self.view_is) at c.requires.taken in
    record { within = omega (arith, taken_ends i.items.items i.given.items _ _ i.used i.count i.len c.args.b.0 c.self.invariant some, ap length c.as_slice.ensures.value) }

pub returns-clause-items : goal.returns-clause-items
returns-clause-items g c =
    let i = c.self.inside in
    let some : IsSome (get_or (blocks_from i.items.items i.given.items i.used i.len 0 i.count) c.args.b.0 None) = rw (← c.self.view_is) at c.requires.taken in
    rw (← c.self.view_is, c.part.ensures, c.as_slice.ensures.value) (taken_items i.items.items i.given.items i.used i.len i.count c.args.b.0 some)

pub returns-clause-whole : goal.returns-clause-whole
returns-clause-whole g c =
    let i = c.self.inside in
    let some : IsSome (get_or (blocks_from i.items.items i.given.items i.used i.len 0 i.count) c.args.b.0 None) = rw (← c.self.view_is) at c.requires.taken in
    rw (← c.self.view_is, c.part.ensures, c.as_slice.ensures.value) (length-range i.items.items (c.args.b.0 * i.len) i.len (taken_ends i.items.items i.given.items _ _ i.used i.count i.len c.args.b.0 c.self.invariant some))
