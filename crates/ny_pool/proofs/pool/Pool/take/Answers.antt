use Rattle.std.proofs.Common.{◌≡◌, ◌+◌, ◌*◌, ◌++◌, ◌∷◌, [], replicate, arith, sym, subst, ◌∙◌}
use Rattle.std.specs.Vec.{vec_capacity}
use Rattle.std.specs.List.{slice_range}
use Rattle.std.proofs.lemmas.List.{append-nil, length-replicate}
use Rattle.ny_pool.specs.Layout.{IsLaidOut}
use Rattle.ny_pool.proofs.PoolLemmas.{taken_again, taken_first, IsLaidOut-more}
use Rattle.ny_pool.proofs.pool.Pool.take.Goals as goal

pub invariant_of-self : goal.invariant_of-self
invariant_of-self g c =
    let i = c.self.inside in
    let was : i.given.items ≡ c.pop.new.self.items ++ c.in-Some.b ∷ [] = c.in-Some.ensures.items in
    let is = subst (λ given. IsLaidOut i.items.items given (vec_capacity i.items) (vec_capacity i.given) i.used i.count i.len) was c.self.invariant in
    rw c.in-Some.ensures.capacity (taken_again i.items.items c.pop.new.self.items _ _ i.used i.count i.len c.in-Some.b is).layout

pub returns-in-Some-clause-taken : goal.returns-in-Some-clause-taken
returns-in-Some-clause-taken g c =
    let i = c.self.inside in
    let b = c.in-Some.b in
    let was : i.given.items ≡ c.pop.new.self.items ++ c.in-Some.b ∷ [] = c.in-Some.ensures.items in
    let is = subst (λ given. IsLaidOut i.items.items given (vec_capacity i.items) (vec_capacity i.given) i.used i.count i.len) was c.self.invariant in
    let taken = taken_again i.items.items c.pop.new.self.items _ _ i.used i.count i.len c.in-Some.b is in
    rw (← c.self.view_is, was) (record {
      within = taken.within;
      was_free = taken.was_free;
      items = slice_range i.items.items (b * i.len) (b * i.len + i.len);
      whole = taken.whole;
      after = λ j. record { blocks = taken.blocks j; len = i.len };
      free = taken.free;
    })

pub invariant_of-self-2 : goal.invariant_of-self-2
invariant_of-self-2 g c =
    let i = c.self.inside in
    let same : c.pop.new.self.items ≡ i.given.items = sym (append-nil c.pop.new.self.items) ∙ sym c.in_default.ensures.items in
    let taken = taken_first i.items.items (replicate i.len i.zero) i.given.items _ _ i.used i.count i.len c.self.invariant (omega (arith, c.self.invariant.begun)) (length-replicate i.len i.zero) in
    rw (c.add_block.ensures.items, same, c.in_default.ensures.capacity) (IsLaidOut-more taken.layout c.add_block.ensures.capacity)

pub returns-clause-taken : goal.returns-clause-taken
returns-clause-taken g c =
    let i = c.self.inside in
    let same : c.pop.new.self.items ≡ i.given.items = sym (append-nil c.pop.new.self.items) ∙ sym c.in_default.ensures.items in
    let taken = taken_first i.items.items (replicate i.len i.zero) i.given.items _ _ i.used i.count i.len c.self.invariant (omega (arith, c.self.invariant.begun)) (length-replicate i.len i.zero) in
    rw (← c.self.view_is, c.add_block.ensures.items, same) (record {
      within = taken.within;
      was_free = taken.was_free;
      items = replicate i.len i.zero;
      whole = taken.whole;
      after = λ j. record { blocks = taken.blocks j; len = i.len };
      free = taken.free;
    })
