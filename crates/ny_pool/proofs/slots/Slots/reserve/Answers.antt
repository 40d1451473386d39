use Rattle.std.proofs.Common.{append_assoc, arith}
use Rattle.std.specs.Vec.{vec_capacity}
use Rattle.std.proofs.lemmas.List.{replicate_more}
use Rattle.ny_pool.proofs.PlaceLemmas.{get_or-added}
use Rattle.ny_pool.proofs.SlotLemmas.{AreVacant-added}
use Rattle.ny_pool.proofs.slots.Slots.reserve.Goals as goal

pub loop-added-preserved : goal.loop-added-preserved
loop-added-preserved g c =
    let inv = c.loop-added.invariant in
    let s = c.loop-added.self-inside in (
      rw (c.push_reserved.ensures.items, inv.0, append_assoc, replicate_more),
      omega (arith, inv.1),
      omega (arith, inv.2),
      omega (arith, inv.3),
      omega (arith, inv.4),
      rw (c.push_reserved.ensures.items, c.push_reserved-in-loop-added.ensures.items, c.push_reserved-in-loop-added.ensures.capacity) (AreVacant-added s.slots.items s.vacant.items (vec_capacity s.vacant) _ inv.5 (omega (arith, inv.1)) (omega (arith, inv.4)) (omega (arith, inv.1))),
    )

pub returns-clause-same : goal.returns-clause-same
returns-clause-same g c = λ s. rw (← c.self.view_is, c.loop-added.invariant.0, c.reserve.ensures.items) (get_or-added c.self.inside.slots.items c.loop-added.added s)
