-- What changes of a heap leave, unit by unit.
use Rattle.std.proofs.Common.{◌≡◌, ◌≢◌, inl, inr, ℕ, zero, suc, ◌+◌, ◌/◌, ◌<◌, ◌≤◌, true, false, cond, nat_lt, List, [], ◌∷◌, get_or, length, slice_index, slice_set, Option, None, Some, sum, refl, sym, ap, ◌∙◌, arith}
use Rattle.std.proofs.lemmas.Bool.{lt-ltb}
use Rattle.std.proofs.lemmas.Bool.Decides.{eqb_tells}
use Rattle.std.specs.List.{fold}
use Rattle.std.specs.Option.{option_map}
use Rattle.std.proofs.lemmas.List.{get_or-set_same, get_or-set_other}
use Rattle.ny_num.specs.declared.timing.Timing.{Timing}
use Rattle.ny_heap.specs.Heap.{Node, HeapState, node_at, stands_in, blocks_of}
use Rattle.ny_heap.specs.Reach.{IsReachable, IsTrimmed}
use Rattle.ny_heap.specs.Steps.{changed}
use Rattle.ny_hands.specs.Counts.{SameCounts}

-- ---- one unit changed

-- what is there stands within the list
pub there_within : {A : Type 0} (os : List (Option A)) (n : ℕ) (x : A) → get_or os n None ≡ Some x → n < length os
there_within [] n x e = cc
there_within (o ∷ os) zero x e = omega arith
there_within (o ∷ os) (suc n) x e = let low = there_within os n x e in omega arith

pub changed_same : {B : Type 0} (h : HeapState B) (n : ℕ) (f : Node B → Node B) (x : Node B) → node_at h n ≡ Some x → node_at (changed h (Some n) f) n ≡ Some (f x)
changed_same h n f x e = get_or-set_same h.nodes n (option_map f (node_at h n)) None (there_within h.nodes n x e) ∙ ap (option_map f) e

pub changed_other : {B : Type 0} (h : HeapState B) (n : ℕ) (f : Node B → Node B) (v : ℕ) → v ≢ n → node_at (changed h (Some n) f) v ≡ node_at h v
changed_other h n f v ne = get_or-set_other h.nodes n v (option_map f (node_at h n)) None ne

-- ---- marks

-- a mark counts
pub mark_counts : (ns : List ℕ) (j : ℕ) → slice_index ns j ≤ sum ns
mark_counts ns j = omega (arith, from 0 ns j)
  where
    grows : (acc : ℕ) (ns : List ℕ) → acc ≤ fold ◌+◌ acc ns
    grows acc [] = omega arith
    grows acc (n ∷ ns) = omega (arith, grows (acc + n) ns)

    from : (acc : ℕ) (ns : List ℕ) (j : ℕ) → acc + slice_index ns j ≤ fold ◌+◌ acc ns
    from acc [] zero = omega arith
    from acc [] (suc j) = omega arith
    from acc (n ∷ ns) zero = grows (acc + n) ns
    from acc (n ∷ ns) (suc j) = omega (arith, from (acc + n) ns j)

pub mark_set : (ns : List ℕ) (j n : ℕ) → j < length ns → slice_index (slice_set ns j n) j ≡ n
mark_set ns j n within = get_or-set_same ns j n 0 within

pub stands_first : (block len : ℕ) → 0 < block → 0 < len → stands_in block len 0 ≡ 0
stands_first block len some more = elim (eqb_tells 0 len) [
  | inl same ↦ absurd (omega (arith, same.1))
  | inr other ↦ ap (λ b. cond b (blocks_of block len) (0 / block)) other.0 ∙ none_of block some
]
  where
    none_of : (b : ℕ) → 0 < b → 0 / b ≡ 0
    none_of b some = grind arith

-- ---- counts

pub counts_none : {B : Type 0} (h : HeapState B) → SameCounts h h
counts_none h = record { pool = refl; block = refl; fills = refl; peak = refl }

pub counts_more : {B : Type 0} (a b c : HeapState B) → SameCounts a b → SameCounts b c → SameCounts a c
counts_more a b c p q = record { pool = q.pool ∙ p.pool; block = q.block ∙ p.block; fills = q.fills ∙ p.fills; peak = q.peak ∙ p.peak }

-- ---- removal

-- what is reachable is not trimmed
pub reached_stays : {B : Type 0} (old new : HeapState B) → IsTrimmed old new → (v : ℕ) (y : Node B) → node_at old v ≡ Some y → IsReachable old v → node_at new v ≡ Some y
reached_stays {B} old new trimmed v y there reach = by_node (node_at new v) refl
  where
    by_node : (o : Option (Node B)) → node_at new v ≡ o → node_at new v ≡ Some y
    by_node None e = absurd (trimmed.gone v y there e reach)
    by_node (Some z) e = e ∙ sym (trimmed.kept v z e) ∙ there

-- ---- lengths

-- a timing has samples, or none
pub data Length (t : Timing) : Type 0 where
  Empty : t.len ≡ 0 → nat_lt 0 t.len ≡ false → Length t
  Long : 0 < t.len → nat_lt 0 t.len ≡ true → Length t

pub length_of : (t : Timing) → Length t
length_of t = by_len t.len refl
  where
    by_len : (n : ℕ) → t.len ≡ n → Length t
    by_len zero e = Empty e (ap (λ n. nat_lt 0 n) e)
    by_len (suc n) e = let some : 0 < t.len = omega arith in Long some (lt-ltb 0 t.len some)
