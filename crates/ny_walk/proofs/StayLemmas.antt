-- What stands higher than a unit that changed, and what is held from there, is still reachable.
use Rattle.std.proofs.Common.{◌≡◌, ◌≢◌, inl, inr, ℕ, zero, suc, ◌+◌, ◌≤◌, Some, sum, refl, sym, ap, subst, ◌∙◌, arith}
use Rattle.std.proofs.lemmas.Bool.{cases_eq}
use Rattle.ny_heap.specs.Heap.{Node, HeapState, node_at}
use Rattle.ny_heap.specs.Reach.{Uses, ReadOutside, LeadsIn, IsReachable, HeapLaws}
use Rattle.ny_hands.specs.Ranks.{IsRank}
use Rattle.ny_hands.proofs.OptionLemmas.{same_at}
use Rattle.ny_walk.specs.Below.{IsHeldAbove}
use Rattle.ny_walk.proofs.BelowLemmas.{uses_same, user_there}

pub leads_on : {B : Type 0} (h : HeapState B) (n u v w : ℕ) → LeadsIn h n u v → Uses h v w → LeadsIn h (suc n) u w
leads_on h zero u v w e uses = (w, subst (λ x. Uses h x w) (sym e) uses, refl)
leads_on h (suc n) u v w walk uses = (walk.0, walk.1, leads_on h n walk.0 v w walk.2 uses)

-- u alone is another, but for its readers from outside
pub record ChangesOne {B : Type 0} (old between : HeapState B) (u : ℕ) (unit later : Node B) : Type 0 where
  pub was : node_at old u ≡ Some unit
  pub after : node_at between u ≡ Some later
  pub outside : sum later.outside ≡ sum unit.outside
  pub others : (v : ℕ) → v ≢ u → node_at between v ≡ node_at old v

module _ {B : Type 0} (old between : HeapState B) (laws : HeapLaws old) (rank : ℕ → ℕ) (falls : IsRank old rank) (u : ℕ) (unit later : Node B) (one : ChangesOne old between u unit later) where
  pub other_node : (v : ℕ) (x : Node B) → v ≢ u → node_at old v ≡ Some x → node_at between v ≡ Some x
  other_node v x ne there = one.others v ne ∙ there

  pub high_is_other : (v : ℕ) → rank u + 1 ≤ rank v → v ≢ u
  high_is_other v high same = omega (arith, ap rank same)

  -- a walk to what stands higher does not pass u
  walk_falls : (n w v : ℕ) → LeadsIn old n w v → rank v ≤ rank w
  walk_falls zero w v e = omega (arith, ap rank e)
  walk_falls (suc n) w v walk = omega (arith, walk_falls n walk.0 v walk.2, falls w walk.0 walk.1)

  walk_on : (n w v : ℕ) → LeadsIn old n w v → rank u + 1 ≤ rank v → LeadsIn between n w v
  walk_on zero w v e high = e
  walk_on (suc n) w v walk high =
      let low = walk_falls n walk.0 v walk.2 in
      let less = falls w walk.0 walk.1 in
      (walk.0, uses_same old between w walk.0 walk.1 (λ x there. other_node w x (high_is_other w (omega arith)) there), walk_on n walk.0 v walk.2 high)

  outside_on : (w : ℕ) → ReadOutside old w → ReadOutside between w
  outside_on w outside = elim (cases_eq w u) [
    | inl same ↦
        let is : outside.unit ≡ unit = same_at (node_at old w) outside.unit unit outside.there (ap (node_at old) same ∙ one.was) in
        record { unit = later; there = ap (node_at between) same ∙ one.after; some = omega (arith, outside.some, ap (λ (x : Node B). sum x.outside) is, one.outside) }
    | inr other ↦ record { unit = outside.unit; there = other_node w outside.unit other outside.there; some = outside.some }
  ]

  pub high_reached : (v : ℕ) (x : Node B) → node_at old v ≡ Some x → rank u + 1 ≤ rank v → IsReachable between v
  high_reached v x there high =
      let reach = (laws.nodes v x there).reached in
      (reach.0, outside_on reach.0 reach.1, (reach.2.0, walk_on reach.2.0 reach.0 v reach.2.1 high))

  pub held_reached : (v : ℕ) → IsHeldAbove old rank (rank u + 1) v → IsReachable between v
  held_reached v (inl outside) = (v, outside_on v outside, (0, refl))
  held_reached v (inr used) =
      let user = user_there old used.user v used.uses in
      let reach = high_reached used.user user.0 user.1 used.higher in
      let uses = uses_same old between used.user v used.uses (λ x there. other_node used.user x (high_is_other used.user used.higher) there) in
      (reach.0, reach.1, (suc reach.2.0, leads_on between reach.2.0 reach.0 used.user v reach.2.1 uses))
