-- Who has a sound in hand hears the same from it, whatever is filled and revealed below.
use Rattle.std.proofs.Common.{◌≡◌, inl, ℕ, ◌*◌, ◌<◌, ◌≤◌, [], slice_index, Option, None, Some, sum, refl, sym, ap, subst, arith}
use Rattle.std.proofs.lemmas.Nat.{mul-le}
use Rattle.std.specs.Option.{option_map_or}
use Rattle.ny_num.specs.declared.timing.Timing.{Timing}
use Rattle.ny_check.specs.Code.{Code}
use Rattle.ny_heap.specs.declared.sound.Sound.{Sound}
use Rattle.ny_heap.specs.Heap.{Node, HeapState, node_at, list_of, place_of, stands_in}
use Rattle.ny_heap.specs.Steps.{IsHeldAt, IsHeldSound}
use Rattle.ny_hands.specs.declared.branch.Branch.{Branch}
use Rattle.ny_hands.proofs.HeapLemmas.{mark_counts}
use Rattle.ny_hands.proofs.HandLemmas.{marks_there}
use Rattle.ny_hands.proofs.MarkLemmas.{sums_le}
use Rattle.ny_walk.specs.Below.{Continues, Below}
use Rattle.ny_walk.specs.Heard.{StaysHeard}

module _ (code : Code) (tall : ℕ → ℕ) (old new : HeapState Branch) (rank : ℕ → ℕ) (n : ℕ) (below : Below code tall old new rank n) where
  still : (v : ℕ) (x : Node Branch) → node_at old v ≡ Some x → 0 < sum x.outside → (y : Node Branch) × (node_at new v ≡ Some y) × Continues x y
  still v x there some =
      let y = below.held v x there (inl (record { unit = x; there = there; some = some })) in
      (y.0, y.1, y.3)

  was_read : (v : ℕ) (y : Node Branch) → node_at new v ≡ Some y → 0 < sum y.outside → (x : Node Branch) × (node_at old v ≡ Some x) × (sum y.outside ≡ sum x.outside)
  was_read v y at some = by_old (node_at old v) refl
    where
      by_old : (o : Option (Node Branch)) → node_at old v ≡ o → (x : Node Branch) × (node_at old v ≡ Some x) × (sum y.outside ≡ sum x.outside)
      by_old None e =
          let none : sum y.outside ≤ sum [] = sums_le y.outside [] (λ j. omega (arith, below.marks v j, marks_there new v y j at, ap (λ o. option_map_or (λ (x : Node Branch). slice_index x.outside j) o 0) e)) in
          absurd (omega (arith, some, none))
      by_old (Some x) e =
          let less = sums_le y.outside x.outside (λ j. omega (arith, below.marks v j, marks_there new v y j at, marks_there old v x j e)) in
          let more = sums_le x.outside y.outside (λ j. omega (arith, below.marks v j, marks_there new v y j at, marks_there old v x j e)) in
          (x, e, omega (arith, less, more))

  computed_more : (block filled later : ℕ) → filled ≤ later → filled * block ≤ later * block
  computed_more block filled later le = mul-le filled block later block le (omega arith)

  sound_still : (s : Sound) → IsHeldSound old s → IsHeldSound new s
  sound_still s held = (held.0, by_list (list_of s) held.1)
    where
      by_list : (o : Option ℕ) → IsHeldAt old s o → IsHeldAt new s o
      by_list None none = none
      by_list (Some k) c =
          let j = stands_in old.block c.unit.timing.len (place_of s) in
          let y = still k c.unit c.there (omega (arith, c.stands, mark_counts c.unit.outside j)) in
          let len : y.0.timing.len ≡ c.unit.timing.len = ap (λ (t : Timing). t.len) y.2.timing in
          let more : c.unit.filled * old.block ≤ y.0.filled * old.block = computed_more old.block c.unit.filled y.0.filled y.2.filled in
          let same : y.0.filled * new.block ≡ y.0.filled * old.block = ap (λ b. y.0.filled * b) below.block in
          record {
            unit = y.0;
            there = y.1;
            some = c.some;
            visible = omega (arith, c.visible, len);
            place = omega (arith, c.place, more, same, len);
            stands = subst (λ i. 0 < slice_index y.0.outside i) (λ i. stands_in (sym below.block i) (sym len i) (place_of s))
                (omega (arith, c.stands, below.marks k j, marks_there new k y.0 j y.1, marks_there old k c.unit j c.there));
          }

  pub stays_heard : StaysHeard code old new
  stays_heard = record {
    pool = below.pool;
    block = below.block;
    held = still;
    only = was_read;
    sounds = sound_still;
    means = λ w means.
        let m = below.means w means in
        record { later = m.later; means = m.means; extends = λ v x there some. m.extends v x there (inl (record { unit = x; there = there; some = some })) };
  }
