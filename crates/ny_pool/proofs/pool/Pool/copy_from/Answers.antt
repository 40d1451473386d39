use Rattle.std.proofs.Common.{◌≡◌, ◌+◌, ◌*◌, ◌++◌, length, take, drop, get_or, None, IsSome, arith, sym, ap, subst, ◌∙◌}
use Rattle.std.specs.Vec.{with_items, vec_capacity}
use Rattle.std.proofs.lemmas.List.{with_items_is}
use Rattle.ny_pool.specs.Layout.{blocks_from, IsLaidOut}
use Rattle.ny_pool.proofs.PoolLemmas.{taken_ends, blocks-copied, IsLaidOut-changed}
use Rattle.ny_pool.proofs.RangeLemmas.{length-over}
use Rattle.ny_pool.proofs.pool.Pool.copy_from.Goals as goal

pub overwrite-requires : goal.overwrite-requires
overwrite-requires g c =
    let i = c.self.inside in
    let some : IsSome (get_or (blocks_from i.items.items i.given.items i.used i.len 0 i.count) c.args.b.0 None) = rw (← c.self.view_is) at c.requires.taken in
    let whole : length c.args.from.now ≡ i.len = rw (← c.self.view_is) at c.requires.whole in
    record { within = omega (arith, taken_ends i.items.items i.given.items _ _ i.used i.count i.len c.args.b.0 c.self.invariant some, ap length c.as_mut_slice.ensures.value) }

pub invariant_of-self : goal.invariant_of-self
invariant_of-self g c =
    let i = c.self.inside in
    let some : IsSome (get_or (blocks_from i.items.items i.given.items i.used i.len 0 i.count) c.args.b.0 None) = rw (← c.self.view_is) at c.requires.taken in
    let whole : length c.args.from.now ≡ i.len = rw (← c.self.view_is) at c.requires.whole in
    let at = c.args.b.0 * i.len in
    let ends = taken_ends i.items.items i.given.items _ _ i.used i.count i.len c.args.b.0 c.self.invariant some in
    let written = blocks-copied i.items.items c.args.from.now i.given.items _ _ i.used i.count i.len c.args.b.0 c.self.invariant some whole in
    let new : (with_items i.items c.overwrite.new.items).items ≡ take at i.items.items ++ (c.args.from.now ++ drop (at + length c.args.from.now) i.items.items) =
    with_items_is i.items c.overwrite.new.items (omega arith) ∙ subst (λ xs. c.overwrite.new.items ≡ take at xs ++ (c.args.from.now ++ drop (at + length c.args.from.now) xs)) c.as_mut_slice.ensures.value c.overwrite.ensures in
    subst (λ xs. IsLaidOut xs i.given.items (vec_capacity i.items) (vec_capacity i.given) i.used i.count i.len) (sym new)
    (IsLaidOut-changed i.items.items _ c.args.from.now i.given.items _ _ i.used i.count i.len c.args.b.0 c.self.invariant some (length-over i.items.items c.args.from.now at (omega arith)) written)

pub returns : goal.returns
returns g c =
    let i = c.self.inside in
    let some : IsSome (get_or (blocks_from i.items.items i.given.items i.used i.len 0 i.count) c.args.b.0 None) = rw (← c.self.view_is) at c.requires.taken in
    let whole : length c.args.from.now ≡ i.len = rw (← c.self.view_is) at c.requires.whole in
    let at = c.args.b.0 * i.len in
    let written = blocks-copied i.items.items c.args.from.now i.given.items _ _ i.used i.count i.len c.args.b.0 c.self.invariant some whole in
    let new : (with_items i.items c.overwrite.new.items).items ≡ take at i.items.items ++ (c.args.from.now ++ drop (at + length c.args.from.now) i.items.items) =
    with_items_is i.items c.overwrite.new.items (omega arith) ∙ subst (λ xs. c.overwrite.new.items ≡ take at xs ++ (c.args.from.now ++ drop (at + length c.args.from.now) xs)) c.as_mut_slice.ensures.value c.overwrite.ensures in
    rw (← c.self.view_is)
    (let e = ap (λ xs. blocks_from xs i.given.items i.used i.len 0 i.count) new ∙ written in record { written = λ j. record { blocks = e j; len = i.len } })
