use Rattle.std.proofs.Common.{◌+◌, ◌*◌, ◌<◌, get_or, set, None, IsSome, option_map, arith, sym, ap, ◌∙◌, length-set}
use Rattle.ny_pool.specs.Layout.{blocks_from}
use Rattle.ny_pool.proofs.PoolLemmas.{taken_ends, taken_items, blocks-put, IsLaidOut-changed}
use Rattle.ny_pool.proofs.pool.Pool.put.Goals as goal

pub index_mut-requires : goal.index_mut-requires
index_mut-requires g c =
    let i = c.self.inside in
    let some : IsSome (get_or (blocks_from i.items.items i.given.items i.used i.len 0 i.count) c.args.b.0 None) = rw (← c.self.view_is) at c.requires.taken in
    let within : c.args.i < i.len = rw (← c.self.view_is) at c.requires.within in
    omega (arith, taken_ends i.items.items i.given.items _ _ i.used i.count i.len c.args.b.0 c.self.invariant some)

pub invariant_of-self : goal.invariant_of-self
invariant_of-self g c =
    let i = c.self.inside in
    let some : IsSome (get_or (blocks_from i.items.items i.given.items i.used i.len 0 i.count) c.args.b.0 None) = rw (← c.self.view_is) at c.requires.taken in
    let within : c.args.i < i.len = rw (← c.self.view_is) at c.requires.within in
    let written = blocks-put i.items.items i.given.items _ _ i.used i.count i.len c.args.b.0 c.args.i c.args.v c.self.invariant some within in
    IsLaidOut-changed i.items.items _ _ i.given.items _ _ i.used i.count i.len c.args.b.0 c.self.invariant some (length-set i.items.items (c.args.b.0 * i.len + c.args.i) c.args.v) written

pub returns : goal.returns
returns g c =
    let i = c.self.inside in
    let blocks = blocks_from i.items.items i.given.items i.used i.len 0 i.count in
    let some : IsSome (get_or (blocks_from i.items.items i.given.items i.used i.len 0 i.count) c.args.b.0 None) = rw (← c.self.view_is) at c.requires.taken in
    let within : c.args.i < i.len = rw (← c.self.view_is) at c.requires.within in
    let written = blocks-put i.items.items i.given.items _ _ i.used i.count i.len c.args.b.0 c.args.i c.args.v c.self.invariant some within in
    let held = taken_items i.items.items i.given.items i.used i.len i.count c.args.b.0 some in
    rw (← c.self.view_is)
    (let e = written ∙ ap (λ o. set blocks c.args.b.0 (option_map (λ xs. set xs c.args.i c.args.v) o)) (sym held) in record { written = λ j. record { blocks = e j; len = i.len } })
