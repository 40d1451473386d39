-- A channel that a call of the heap leaves as it is, and lists in which one place is set.
use Rattle.std.proofs.Common.{◌≡◌, ◌≢◌, ℕ, zero, suc, ◌*◌, ◌<◌, ◌≤◌, min, List, [], ◌∷◌, length, sum, slice_get, slice_index, slice_set, Option, None, Some, refl, sym, ap, subst, arith, ℤ}
use Rattle.ny_heap.specs.Heap.{Node, HeapState, node_at, list_of, place_of, stands_in, computed_of}
use Rattle.ny_heap.specs.Means.{Whole}
use Rattle.ny_heap.specs.Steps.{IsHeldAt}
use Rattle.ny_heap.specs.declared.sound.Sound.{Sound}
use Rattle.ny_hands.specs.declared.branch.Branch.{Branch}
use Rattle.ny_trace.proofs.HeightLemmas.{ComesFrom, uses_from}
use Rattle.ny_eval.specs.Playing.{IsChannel}
use Rattle.ny_eval.proofs.MarkLemmas.{mark_counts}

-- ---- one place is set

pub get_set_same : {A : Type 0} (xs : List A) (c : ℕ) (a : A) → c < length xs → slice_get (slice_set xs c a) c ≡ Some a
get_set_same [] c a less = absurd (omega (arith, less))
get_set_same (x ∷ xs) zero a less = refl
get_set_same (x ∷ xs) (suc c) a less = get_set_same xs c a (omega (arith, less))

pub get_set_other : {A : Type 0} (xs : List A) (c d : ℕ) (a : A) → d ≢ c → slice_get (slice_set xs c a) d ≡ slice_get xs d
get_set_other [] zero d a ne = refl
get_set_other [] (suc c) d a ne = refl
get_set_other (x ∷ xs) zero zero a ne = absurd (ne refl)
get_set_other (x ∷ xs) zero (suc d) a ne = refl
get_set_other (x ∷ xs) (suc c) zero a ne = refl
get_set_other (x ∷ xs) (suc c) (suc d) a ne = get_set_other xs c d a (λ e. ne (ap (λ j. suc j) e))

-- ---- a channel whose unit is as it was

pub channel_stays : (old new : HeapState Branch) (whole : Whole) (t : Sound) (ys : List ℤ) (pulls filled : ℕ) → new.block ≡ old.block → ComesFrom old new → ((m : ℕ) (x : Node Branch) → list_of t ≡ Some m → node_at old m ≡ Some x → 0 < sum x.outside → node_at new m ≡ Some x) → IsChannel old whole t ys pulls filled → IsChannel new whole t ys pulls filled
channel_stays old new whole t ys pulls filled block from stays was = record {
  held = (was.held.0, by_list (list_of t) refl was.held.1);
  len = was.len;
  place = subst (λ b. place_of t ≡ min (pulls * b) (length ys)) (sym block) was.place;
  pulled = λ n is.
      let p = was.pulled n is in
      record { unit = p.unit; there = stays n p.unit is p.there (omega (arith, p.only)); shown = p.shown; done = p.done; only = p.only; top = λ u uses. p.top u (uses_from old new from u n uses) };
  samples = was.samples;
}
  where
    by_list : (o : Option ℕ) → list_of t ≡ o → IsHeldAt old t o → IsHeldAt new t o
    by_list None e at = at
    by_list (Some m) e at = record {
      unit = at.unit;
      there = stays m at.unit e at.there (omega (arith, at.stands, mark_counts at.unit.outside (stands_in old.block at.unit.timing.len (place_of t))));
      some = at.some;
      visible = at.visible;
      place = subst (λ b. place_of t ≤ min t.timing.len (computed_of b at.unit)) (sym block) at.place;
      stands = subst (λ b. 0 < slice_index at.unit.outside (stands_in b at.unit.timing.len (place_of t))) (sym block) at.stands;
    }
