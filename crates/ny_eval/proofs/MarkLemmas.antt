-- A heap once a sound has moved on: only the marks of one unit change.
use Rattle.std.proofs.Common.{◌≡◌, ◌≢◌, inl, inr, ℕ, zero, suc, ◌+◌, ◌<◌, ◌≤◌, List, [], ◌∷◌, get_or, length, slice_index, slice_set, slice_get, Option, None, Some, sum, refl, sym, ap, subst, ◌∙◌, arith}
use Rattle.std.proofs.lemmas.Bool.{cases_eq}
use Rattle.std.specs.List.{fold}
use Rattle.std.specs.Option.{option_map}
use Rattle.std.proofs.lemmas.List.{get_or-set_same, get_or-set_other}
use Rattle.ny_heap.specs.Heap.{Node, HeapState, node_at, stands_in}
use Rattle.ny_heap.specs.Reach.{Uses, Read, Hold}
use Rattle.ny_heap.specs.Steps.{changed, with_mark, without_mark}
use Rattle.ny_hands.proofs.OptionLemmas.{same_at}

-- the same unit, but for who reads it from outside
pub record Alike {B : Type 0} (x y : Node B) : Type 0 where
  pub timing : y.timing ≡ x.timing
  pub filled : y.filled ≡ x.filled
  pub inputs : y.inputs ≡ x.inputs
  pub waiting : y.waiting ≡ x.waiting
  pub pending : y.pending ≡ x.pending

pub Alike-none : {B : Type 0} (x : Node B) → Alike x x
Alike-none x = record { timing = refl; filled = refl; inputs = refl; waiting = refl; pending = refl }

pub Alike-more : {B : Type 0} (x y z : Node B) → Alike x y → Alike y z → Alike x z
Alike-more x y z p q = record { timing = q.timing ∙ p.timing; filled = q.filled ∙ p.filled; inputs = q.inputs ∙ p.inputs; waiting = q.waiting ∙ p.waiting; pending = q.pending ∙ p.pending }

-- what is there stands within the list
pub there_within : {A : Type 0} (os : List (Option A)) (n : ℕ) (x : A) → get_or os n None ≡ Some x → n < length os
there_within [] n x e = cc
there_within (o ∷ os) zero x e = omega arith
there_within (o ∷ os) (suc n) x e = let low = there_within os n x e in omega arith

pub changed_same : {B : Type 0} (h : HeapState B) (n : ℕ) (f : Node B → Node B) (x : Node B) → node_at h n ≡ Some x → node_at (changed h (Some n) f) n ≡ Some (f x)
changed_same h n f x e = get_or-set_same h.nodes n (option_map f (node_at h n)) None (there_within h.nodes n x e) ∙ ap (option_map f) e

pub changed_other : {B : Type 0} (h : HeapState B) (n : ℕ) (f : Node B → Node B) (v : ℕ) → v ≢ n → node_at (changed h (Some n) f) v ≡ node_at h v
changed_other h n f v ne = get_or-set_other h.nodes n v (option_map f (node_at h n)) None ne

-- the heap once the reader outside of list n that stood in one block stands in another
abbrev pub advanced_by : {B : Type 0} → HeapState B → Option ℕ → Option ℕ → ℕ → ℕ → HeapState B
advanced_by h o p a b =
    let m = changed h o (λ x. without_mark (stands_in h.block x.timing.len a) x) in
    changed m p (λ x. with_mark (stands_in m.block x.timing.len b) x)

abbrev pub advanced_node : {B : Type 0} → ℕ → ℕ → ℕ → Node B → Node B
advanced_node block a b x = with_mark (stands_in block x.timing.len b) (without_mark (stands_in block x.timing.len a) x)

pub advanced_same : {B : Type 0} (h : HeapState B) (n a b : ℕ) (x : Node B) → node_at h n ≡ Some x → node_at (advanced_by h (Some n) (Some n) a b) n ≡ Some (advanced_node h.block a b x)
advanced_same h n a b x e =
    changed_same (changed h (Some n) (λ x. without_mark (stands_in h.block x.timing.len a) x)) n (λ x. with_mark (stands_in h.block x.timing.len b) x) (without_mark (stands_in h.block x.timing.len a) x)
    (changed_same h n (λ x. without_mark (stands_in h.block x.timing.len a) x) x e)

pub advanced_other : {B : Type 0} (h : HeapState B) (n a b v : ℕ) → v ≢ n → node_at (advanced_by h (Some n) (Some n) a b) v ≡ node_at h v
advanced_other h n a b v ne =
    changed_other (changed h (Some n) (λ x. without_mark (stands_in h.block x.timing.len a) x)) n (λ x. with_mark (stands_in h.block x.timing.len b) x) v ne
    ∙ changed_other h n (λ x. without_mark (stands_in h.block x.timing.len a) x) v ne

-- each unit is one that was there
pub advanced_from : {B : Type 0} (h : HeapState B) (n a b : ℕ) (x : Node B) → node_at h n ≡ Some x → (v : ℕ) (y : Node B) → node_at (advanced_by h (Some n) (Some n) a b) v ≡ Some y → (z : Node B) × (node_at h v ≡ Some z) × Alike z y
advanced_from h n a b x e v y at = elim (cases_eq v n) [
  | inl same ↦
      let is : advanced_node h.block a b x ≡ y = same_at _ _ _ (sym (ap (node_at (advanced_by h (Some n) (Some n) a b)) (sym same)) ∙ advanced_same h n a b x e) at in
      (x, ap (node_at h) same ∙ e, subst (λ q. Alike x q) is (record { timing = refl; filled = refl; inputs = refl; waiting = refl; pending = refl }))
  | inr other ↦ (y, sym (advanced_other h n a b v other) ∙ at, Alike-none y)
]

-- it reads and holds what it did
pub uses_alike : {B : Type 0} (old new : HeapState B) → ((v : ℕ) (y : Node B) → node_at new v ≡ Some y → (x : Node B) × (node_at old v ≡ Some x) × Alike x y) → (u v : ℕ) → Uses new u v → Uses old u v
uses_alike {B} old new from u v (Read r) =
    let x = from u r.unit r.there in
    Read (record { unit = x.0; there = x.1; place = r.place; reader = r.reader; input = ap (λ is. get_or is r.place None) (sym x.2.inputs) ∙ r.input; of = r.of })
uses_alike old new from u v (Hold r) =
    let x = from u r.unit r.there in
    Hold (record { unit = x.0; there = x.1; place = r.place; part = r.part; waits = ap (λ ws. slice_get ws r.place) (sym x.2.waiting) ∙ r.waits; position = r.position; captured = r.captured; one = r.one; of = r.of })

-- a mark counts
pub mark_counts : (ns : List ℕ) (j : ℕ) → slice_index ns j ≤ sum ns
mark_counts ns j = omega (arith, from 0 ns j)
  where
    grows : (acc : ℕ) (ns : List ℕ) → acc ≤ fold ◌+◌ acc ns
    grows acc [] = omega arith
    grows acc (n ∷ ns) = omega (arith, grows (acc + n) ns)

    from : (acc : ℕ) (ns : List ℕ) (j : ℕ) → acc + slice_index ns j ≤ fold ◌+◌ acc ns
    from acc [] zero = omega arith
    from acc [] (suc j) = omega arith
    from acc (n ∷ ns) zero = grows (acc + n) ns
    from acc (n ∷ ns) (suc j) = omega (arith, from (acc + n) ns j)

pub mark_set : (ns : List ℕ) (j n : ℕ) → j < length ns → slice_index (slice_set ns j n) j ≡ n
mark_set ns j n within = get_or-set_same ns j n 0 within
