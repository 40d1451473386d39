use Rattle.std.proofs.Common.{◌↔◌, ◌∙◌, IsTrue, nat_lt, ◌-◌, ◌^◌, sym, subst, map, deque_items}
use Rattle.ny_heap.specs.Steps.{IsHeldSound}
use Rattle.ny_heap.specs.Sharing.{CanShare}
use Rattle.ny_heap.specs.View.{branches_of}
use Rattle.ny_heap.proofs.ShareLemmas.{room_is}
use Rattle.ny_heap.proofs.WantLemmas.{held_there}
use Rattle.ny_heap.proofs.heap.Heap.can_share.Goals as goal

pub readers-requires : goal.readers-requires
readers-requires g c =
    let i = c.self.inside in
    let bs = branches_of (map deque_items i.branches.items) in
    held_there g.row.B.Denot bs i.table c.self.invariant.heap.table i.fills i.peak c.args.s.now c.in-Some.v (sym c.in-Some.is ∙ c.list_in.ensures) (subst (λ h. IsHeldSound {B = g.row.B.Denot} h c.args.s.now) (sym c.self.view_is) c.requires.held)

pub returns-in-Some : goal.returns-in-Some
returns-in-Some g c =
    let i = c.self.inside in
    let bs = branches_of (map deque_items i.branches.items) in
    let is = sym c.list_in.ensures ∙ c.in-Some.is in
    record {
      room = subst (λ h. IsTrue (nat_lt c.readers.result (2 ^ 32 - 1)) ↔ CanShare {B = g.row.B.Denot} h c.args.s.now) c.self.view_is
          (room_is g.row.B.Denot bs i.table c.self.invariant.heap.table c.self.invariant.have i.fills i.peak c.args.s.now c.in-Some.v c.readers.result is
          (held_there g.row.B.Denot bs i.table c.self.invariant.heap.table i.fills i.peak c.args.s.now c.in-Some.v (sym is) (subst (λ h. IsHeldSound {B = g.row.B.Denot} h c.args.s.now) (sym c.self.view_is) c.requires.held))
          (λ l at. c.readers.ensures l at));
    }
