-- Once nothing is left in hand, all is as before.
use Rattle.std.proofs.Common.{◌≡◌, ℕ, zero, suc, ◌+◌, ◌<◌, List, [], ◌∷◌, length, get_or, slice_get, slice_index, Option, None, Some, sum, refl, sym, ap, subst, ◌∙◌, arith}
use Rattle.std.proofs.lemmas.List.{ext_get_or}
use Rattle.std.specs.List.{fold}
use Rattle.std.specs.Option.{option_map_or}
use Rattle.ny_heap.specs.Heap.{Node, HeapState, node_at}
use Rattle.ny_heap.specs.Reach.{Uses, Read, Hold, ReadOutside, LeadsIn, HeapLaws}
use Rattle.ny_hands.proofs.OptionLemmas.{same_at, some_there, none_some}
use Rattle.ny_hands.specs.Hands.{marks_at, IsLike, Hand}
use Rattle.ny_hands.proofs.HandLemmas.{marks_there}

-- a reader outside that is there was there before
pub some_mark : (ns : List ℕ) → 0 < sum ns → (j : ℕ) × (0 < slice_index ns j)
some_mark ns some = from 0 ns some
  where
    from : (a : ℕ) (ns : List ℕ) → a < fold ◌+◌ a ns → (j : ℕ) × (0 < slice_index ns j)
    from a [] some = absurd (omega (arith, some))
    from a (zero ∷ ns) some = let same : a + 0 ≡ a = omega arith in let p = from a ns (subst (λ k. a < fold ◌+◌ k ns) same some) in (suc p.0, p.1)
    from a (suc n ∷ ns) some = (0, omega arith)

module _ {B : Type 0} (old new : HeapState B) (before : HeapLaws old) (hand : Hand old new []) where
  was_read : (u : ℕ) → ReadOutside new u → (x : Node B) × (node_at old u ≡ Some x)
  was_read u r =
      let mark = some_mark r.unit.outside r.some in
      by_old mark.0 (omega (arith, mark.1, marks_there new u r.unit mark.0 r.there, hand.marks u mark.0)) (node_at old u) refl
    where
      by_old : (j : ℕ) → 0 < marks_at old u j → (o : Option (Node B)) → node_at old u ≡ o → (x : Node B) × (node_at old u ≡ Some x)
      by_old j some None e = absurd (omega (arith, some, ap (λ o. option_map_or (λ (x : Node B). slice_index x.outside j) o 0) e))
      by_old j some (Some x) e = (x, e)

  uses_back : (u v : ℕ) (x : Node B) → node_at old u ≡ Some x → Uses new u v → Uses old u v
  uses_back u v x at (Read r) =
      let y = hand.kept u x at in
      let same : r.unit ≡ y.0 = same_at (node_at new u) r.unit y.0 r.there y.1 in
      Read (record { unit = x; there = at; place = r.place; reader = r.reader; input = sym (ap (λ (q : Node B). get_or q.inputs r.place None) (same ∙ y.2)) ∙ r.input; of = r.of })
  uses_back u v x at (Hold r) =
      let y = hand.kept u x at in
      let same : r.unit ≡ y.0 = same_at (node_at new u) r.unit y.0 r.there y.1 in
      Hold (record { unit = x; there = at; place = r.place; part = r.part; waits = sym (ap (λ (q : Node B). slice_get q.waiting r.place) (same ∙ y.2)) ∙ r.waits; position = r.position; captured = r.captured; one = r.one; of = r.of })

  was_there : (n u v : ℕ) (x : Node B) → node_at old u ≡ Some x → LeadsIn new n u v → (y : Node B) × (node_at old v ≡ Some y)
  was_there zero u v x at leads = (x, ap (node_at old) (sym leads) ∙ at)
  was_there (suc n) u v x at leads =
      let found = some_there (node_at old leads.0) (before.finds u leads.0 (uses_back u leads.0 x at leads.1)) in
      was_there n leads.0 v found.0 found.1 leads.2

  same_unit : (v : ℕ) (x y : Node B) → node_at old v ≡ Some x → node_at new v ≡ Some y → IsLike x y → y ≡ x
  same_unit v x y at now like = like ∙ (λ i. record x { outside = outside i })
    where
      long : length y.outside ≡ length x.outside
      long = omega (arith, (hand.laws.nodes v y now).marks, (before.nodes v x at).marks, ap (λ (q : Node B). q.filled) like)

      outside : y.outside ≡ x.outside
      outside = ext_get_or 0 y.outside x.outside long (λ j inside. sym (marks_there new v y j now) ∙ (hand.marks v j ∙ let none : marks_at old v j + 0 ≡ marks_at old v j = omega arith in none ∙ marks_there old v x j at))

  -- the units are those that were there
  pub as_before : (v : ℕ) → node_at new v ≡ node_at old v
  as_before v = by_old (node_at old v) refl
    where
      by_new : node_at old v ≡ None → (o : Option (Node B)) → node_at new v ≡ o → node_at new v ≡ None
      by_new none None e = e
      by_new none (Some y) e =
          let reach = (hand.laws.nodes v y e).reached in
          let root = was_read reach.0 reach.1 in
          let was = was_there reach.2.0 reach.0 v root.0 root.1 reach.2.1 in
          absurd (none_some (node_at old v) was.0 none was.1)

      by_old : (o : Option (Node B)) → node_at old v ≡ o → node_at new v ≡ node_at old v
      by_old None e = by_new e (node_at new v) refl ∙ sym e
      by_old (Some x) e = let y = hand.kept v x e in y.1 ∙ (ap Some (same_unit v x y.0 e y.1 y.2) ∙ sym e)
