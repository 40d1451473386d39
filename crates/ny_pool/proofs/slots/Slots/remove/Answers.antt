use Rattle.std.proofs.Common.{get_or, None, IsSome, arith}
use Rattle.std.specs.Vec.{vec_capacity}
use Rattle.ny_pool.proofs.PlaceLemmas.{room_for_one}
use Rattle.ny_pool.proofs.SlotLemmas.{AreVacant-emptied}
use Rattle.ny_pool.proofs.slots.Slots.remove.Goals as goal

pub push_reserved-requires : goal.push_reserved-requires
push_reserved-requires g c =
    let i = c.self.inside in
    let some : IsSome (get_or i.slots.items c.args.s.0 None) = rw (← c.self.view_is) at c.requires.holds in
    omega (arith, room_for_one i.slots.items c.args.s.0 some, c.self.invariant.room, c.self.invariant.counted)

pub invariant_of-self : goal.invariant_of-self
invariant_of-self g c =
    let i = c.self.inside in
    let some : IsSome (get_or i.slots.items c.args.s.0 None) = rw (← c.self.view_is) at c.requires.holds in
    rw (c.replace.ensures.after, c.push_reserved.ensures.items, c.push_reserved.ensures.capacity) (AreVacant-emptied i.slots.items i.vacant.items (vec_capacity i.vacant) c.args.s.0 c.self.invariant some)
