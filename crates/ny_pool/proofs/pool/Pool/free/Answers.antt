use Rattle.std.proofs.Common.{arith}
use Rattle.ny_pool.proofs.PoolLemmas.{given_within, each_is_whole}
use Rattle.ny_pool.proofs.pool.Pool.free.Goals as goal

pub overflow_cast-result : goal.overflow_cast-result
overflow_cast-result g c =
    let i = c.self.inside in
    omega (arith, given_within i.items.items i.given.items _ _ i.used i.count i.len c.self.invariant, c.self.invariant.begun, c.self.invariant.few)

pub overflow_add-result : goal.overflow_add-result
overflow_add-result g c =
    let i = c.self.inside in
    omega (arith, given_within i.items.items i.given.items _ _ i.used i.count i.len c.self.invariant, c.self.invariant.begun, c.self.invariant.few)

pub returns-clause-whole : goal.returns-clause-whole
returns-clause-whole g c =
    let i = c.self.inside in
    rw (← c.self.view_is) (λ b. each_is_whole i.items.items i.given.items _ _ i.used i.count i.len b c.self.invariant)
