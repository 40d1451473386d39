-- Where a heap stands for a plan, as many blocks are kept as are live.
use Rattle.std.proofs.Common.{◌≡◌, inl, inr, ℕ, zero, suc, ◌+◌, ◌-◌, ◌*◌, ◌/◌, ◌<◌, Bool, true, false, cond, nat_eq, List, [], ◌∷◌, length, get_or, Option, None, Some, refl, sym, ap, ◌∙◌, arith}
use Rattle.std.specs.Prelude.{slice_index}
use Rattle.std.specs.Option.{option_map_or}
use Rattle.std.proofs.lemmas.Bool.{cases_lt}
use Rattle.std.proofs.lemmas.List.{get_or_past}
use Rattle.ny_list.proofs.IndexLemmas.{none_some, tab_same}
use Rattle.ny_heap.specs.Heap.{Node, HeapState, node_at, kept_of, kept_from, live_of}
use Rattle.ny_heap.specs.Reach.{HeapLaws}
use Rattle.ny_heap.specs.Kinds.{UnitKind, place_of_kind, unit_kind, kept_of_kinds, live_of_kind, live_by_kind}
use Rattle.ny_plan.specs.Rows.{Row, row_at}
use Rattle.ny_plan.specs.Need.{Filled}
use Rattle.ny_plan.specs.Liveness.{readers, is_held, least_passed, live_in, live_below, live_of_kinds, live}
use Rattle.ny_plan.specs.Lines as lines
use Rattle.ny_plan.specs.Held.{IsInOrder}
use Rattle.ny_plan.specs.StandsFor.{Matches}
use Rattle.ny_plan.proofs.SumLemmas.{sum_to, sum_to-alike, sum_by_match}
use Rattle.ny_plan.proofs.ReaderLemmas.{held_is}
use Rattle.ny_plan.proofs.StandsLemmas.{kept_is_live, held_unit}

-- a sum from the first on
shifted_sum : (f : ℕ → ℕ) (n : ℕ) → sum_to f (suc n) ≡ f 0 + sum_to (λ k. f (suc k)) n
shifted_sum f zero = omega arith
shifted_sum f (suc n) = omega (arith, shifted_sum f n)

module _ (B : Type 0) (counts : UnitKind → Bool) where
  abbrev kept_at : HeapState B → ℕ → Option (Node B) → ℕ
  kept_at h v o = cond (option_map_or (λ (x : Node B). counts (unit_kind x.kind)) o false) (kept_of h v o) 0

  kept_sum : (h : HeapState B) (v : ℕ) (os : List (Option (Node B))) → kept_of_kinds counts h v os ≡ sum_to (λ k. kept_at h (v + k) (get_or os k None)) (length os)
  kept_sum h v [] = refl
  kept_sum h v (o ∷ os) =
      let first : kept_at h (v + 0) o ≡ kept_at h v o = ap (λ k. kept_at h k o) (omega arith) in
      let rest : sum_to (λ k. kept_at h (suc v + k) (get_or os k None)) (length os) ≡ sum_to (λ k. kept_at h (v + suc k) (get_or os k None)) (length os) =
      sum_to-alike (λ k. kept_at h (suc v + k) (get_or os k None)) (λ k. kept_at h (v + suc k) (get_or os k None)) (length os) (λ k below. ap (λ n. kept_at h n (get_or os k None)) (omega arith)) in
      omega (arith, kept_sum h (suc v) os, first, rest, shifted_sum (λ k. kept_at h (v + k) (get_or (o ∷ os) k None)) (length os))

  abbrev live_at : ℕ → List Row → Filled → ℕ → ℕ
  live_at block rows filled y = cond (counts (row_at rows y).kind) (live_in block (readers block rows filled) filled y) 0

  live_sum : (block : ℕ) (rows : List Row) (filled : Filled) (n : ℕ) → live_below counts block rows (readers block rows filled) filled n ≡ sum_to (live_at block rows filled) n
  live_sum block rows filled zero = refl
  live_sum block rows filled (suc n) = ap (λ k. k + live_at block rows filled n) (live_sum block rows filled n)

  module _ (block : ℕ) (rows : List Row) (filled : Filled) (h : HeapState B) (row : ℕ → ℕ) (m : Matches {B = B} block rows filled h row) (laws : HeapLaws h) (order : IsInOrder block rows filled) where
    abbrev kept : ℕ → ℕ
    kept u = kept_at h u (node_at h u)

    -- a unit's kept blocks are its row's live ones, and of the same kind
    same_at : (u : ℕ) (x : Node B) → node_at h u ≡ Some x → live_at block rows filled (row u) ≡ kept u
    same_at u x there =
        sym (ap (kept_at h u) there
        ∙ (λ i. cond (counts ((m.units u x there).kind i)) (kept_is_live B block rows filled h row m laws order u x there i) 0))

    some_node : (u : ℕ) → 0 < kept u → (x : Node B) × (node_at h u ≡ Some x)
    some_node u some = by_node (node_at h u) refl
      where
        by_node : (o : Option (Node B)) → node_at h u ≡ o → (x : Node B) × (node_at h u ≡ Some x)
        by_node None e = absurd (omega (arith, some, ap (kept_at h u) e))
        by_node (Some x) e = (x, e)

    row_held : (y : ℕ) → 0 < live_at block rows filled y → is_held (readers block rows filled) y ≡ true
    row_held y some = by_kind (counts (row_at rows y).kind) some
      where
        by_held : (b : Bool) → is_held (readers block rows filled) y ≡ b → 0 < live_in block (readers block rows filled) filled y → is_held (readers block rows filled) y ≡ true
        by_held true e more = e
        by_held false e more = absurd (omega (arith, more, none))
          where
            none : live_in block (readers block rows filled) filled y ≡ 0
            none = ap (λ b. cond {A = ℕ} b (slice_index filled y - least_passed y (readers block rows filled) (slice_index filled y * block) / block) 0) e

        by_kind : (b : Bool) → 0 < cond b (live_in block (readers block rows filled) filled y) 0 → is_held (readers block rows filled) y ≡ true
        by_kind true more = by_held (is_held (readers block rows filled) y) refl more
        by_kind false more = absurd (omega (arith, more))

    pub kept_are_live : kept_of_kinds counts h 0 h.nodes ≡ live_of_kinds counts block rows filled
    unfolding live_of_kinds
    kept_are_live =
        kept_sum h 0 h.nodes
        ∙ sum_to-alike (λ k. kept_at h (0 + k) (get_or h.nodes k None)) kept (length h.nodes) (λ k below. ap (λ n. kept_at h n (get_or h.nodes k None)) (omega arith))
        ∙ sum_by_match kept (live_at block rows filled) row (length h.nodes) (length rows) stands apart has
        ∙ sym (live_sum block rows filled (length rows))
      where
        there : (u : ℕ) (x : Node B) → node_at h u ≡ Some x → u < length h.nodes
        there u x is = elim (cases_lt u (length h.nodes)) [
          | inl within ↦ within
          | inr past ↦ absurd (none_some (sym (get_or_past h.nodes u None past) ∙ is))
        ]

        stands : (u : ℕ) → u < length h.nodes → 0 < kept u → (row u < length rows) × (live_at block rows filled (row u) ≡ kept u)
        stands u below some = let x = some_node u some in (m.within u x.0 x.1, same_at u x.0 x.1)

        apart : (u v : ℕ) → u < length h.nodes → v < length h.nodes → 0 < kept u → 0 < kept v → row u ≡ row v → u ≡ v
        apart u v a b some more same = let x = some_node u some in let y = some_node v more in m.apart u v x.0 y.0 x.1 y.1 same

        has : (y : ℕ) → y < length rows → 0 < live_at block rows filled y → (u : ℕ) × (u < length h.nodes) × (0 < kept u) × (row u ≡ y)
        has y below some =
            let held = held_is block rows filled order y (row_held y some) in
            let u = held_unit B block rows filled h row m laws held.0 y held.1 in
            (u.0, there u.0 u.1 u.2, omega (arith, some, same_at u.0 u.1 u.2, ap (live_at block rows filled) u.3), u.3)

all_kinds : (B : Type 0) (h : HeapState B) (v : ℕ) (os : List (Option (Node B))) → kept_from h v os ≡ kept_of_kinds (λ kind. true) h v os
all_kinds B h v [] = refl
all_kinds B h v (None ∷ os) = ap (λ k. 0 + k) (all_kinds B h (suc v) os)
all_kinds B h v (Some x ∷ os) = ap (λ k. kept_of h v (Some x) + k) (all_kinds B h (suc v) os)

-- as many blocks are taken as are live
pub live_is : (B : Type 0) (block : ℕ) (rows : List Row) (filled : Filled) (h : HeapState B) (row : ℕ → ℕ) → Matches {B = B} block rows filled h row → HeapLaws h → IsInOrder block rows filled → live_of h ≡ live block rows filled
unfolding live
live_is B block rows filled h row m laws order = all_kinds B h 0 h.nodes ∙ kept_are_live B (λ kind. true) block rows filled h row m laws order

-- and of each kind
pub live_kinds_is : (B : Type 0) (block : ℕ) (rows : List Row) (filled : Filled) (h : HeapState B) (row : ℕ → ℕ) → Matches {B = B} block rows filled h row → HeapLaws h → IsInOrder block rows filled → live_by_kind h ≡ lines.live_by_kind block rows filled
live_kinds_is B block rows filled h row m laws order =
    tab_same (live_of_kind {B = B} h) (λ k. live_of_kinds (λ kind. nat_eq (place_of_kind kind) k) block rows filled) 18 0 (λ k inside. kept_are_live B (λ kind. nat_eq (place_of_kind kind) k) block rows filled h row m laws order)
