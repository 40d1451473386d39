use Rattle.std.proofs.Common.{◌≡◌, ◌<◌, ◌++◌, ◌∷◌, [], length, get_or, None, subst}
use Rattle.std.specs.Vec.{vec_capacity}
use Rattle.ny_pool.specs.Vacant.{AreVacant}
use Rattle.ny_pool.proofs.PlaceLemmas.{All-top, count-filled}
use Rattle.ny_pool.proofs.SlotLemmas.{AreVacant-filled}
use Rattle.ny_pool.proofs.slots.Slots.insert.Goals as goal

pub invariant_of-self : goal.invariant_of-self
invariant_of-self g c =
    let i = c.self.inside in
    let was : i.vacant.items ≡ c.pop.new.self.items ++ c.unwrap-s.result ∷ [] = rw c.unwrap-s.ensures at c.pop.ensures.items in
    let is = subst (λ vacant. AreVacant i.slots.items vacant (vec_capacity i.vacant)) was c.self.invariant in
    rw (c.replace.ensures.after, c.pop.ensures.capacity) (AreVacant-filled i.slots.items c.pop.new.self.items (vec_capacity i.vacant) c.unwrap-s.result c.args.value is)

pub returns-clause-within : goal.returns-clause-within
returns-clause-within g c =
    let i = c.self.inside in
    let was : i.vacant.items ≡ c.pop.new.self.items ++ c.unwrap-s.result ∷ [] = rw c.unwrap-s.ensures at c.pop.ensures.items in
    rw (← c.self.view_is) (All-top (λ s. s < length i.slots.items) c.pop.new.self.items c.unwrap-s.result (rw was at c.self.invariant.within))

pub returns-clause-spare : goal.returns-clause-spare
returns-clause-spare g c =
    let i = c.self.inside in
    let was : i.vacant.items ≡ c.pop.new.self.items ++ c.unwrap-s.result ∷ [] = rw c.unwrap-s.ensures at c.pop.ensures.items in
    let within = All-top (λ s. s < length i.slots.items) c.pop.new.self.items c.unwrap-s.result (rw was at c.self.invariant.within) in
    let empty = All-top (λ s. get_or i.slots.items s None ≡ None) c.pop.new.self.items c.unwrap-s.result (rw was at c.self.invariant.empty) in
    rw (← c.self.view_is, c.replace.ensures.after) (count-filled i.slots.items c.unwrap-s.result c.args.value within empty)
