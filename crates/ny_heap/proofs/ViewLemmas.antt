-- What a contract sees of the table, place by place.
use Rattle.std.proofs.Common.{◌≡◌, inl, inr, IsSome, ℕ, zero, suc, ◌+◌, ◌<◌, ◌≤◌, List, [], ◌∷◌, length, get_or, map, Option, None, Some, refl, sym, ap, ◌∙◌, arith}
use Rattle.std.specs.List.{range_with_len, sum_by, slice_get}
use Rattle.std.specs.Option.{option_map, option_map_or}
use Rattle.std.proofs.lemmas.List.{get_or_past}
use Rattle.std.proofs.lemmas.List.FromFn.{length-map-range_with_len}
use Rattle.std.proofs.lemmas.Bool.{cases_lt}
use Rattle.ny_list.specs.Store.{ListState, CursorState, list_at}
use Rattle.ny_list.proofs.IndexLemmas.{same_some, none_some, tab_get, tab_past, sums_agree}
use Rattle.ny_heap.specs.declared.table.Unit.{Unit as UnitData}
use Rattle.ny_heap.specs.declared.table.Table.{Table}
use Rattle.ny_heap.specs.Heap as heap
use Rattle.ny_heap.specs.Heap.{Reader, Waiting, Node, HeapState, node_at, block_at, input_at, readers_in, is_reader, is_captured}
use Rattle.ny_heap.specs.Reach.{Uses, Read, Hold}
use Rattle.ny_heap.specs.Work.{cursor_at, waits_in, kept_in}
use Rattle.ny_heap.specs.Table.{unit_at, input_of, readers_of, timing_at, own_in, own_of, mark_in, len_of, IsKept, IsTable}
use Rattle.ny_heap.specs.View.{node_of, state_of, waiting_with, outside_in, filled_in, HaveBranches}
use Rattle.ny_heap.proofs.TableLemmas.{place_within}
use Rattle.ny_heap.proofs.ListLemmas.{len_is}
use Rattle.ny_heap.proofs.CountLemmas.{is_some_of}
pub use Rattle.ny_heap.proofs.KeepLemmas.{filled_is}
use Rattle.ny_heap.proofs.KeepLemmas.{HoldsCursor}
use Rattle.ny_heap.proofs.WaitLemmas.{each_of, captured_kept, kept_captured, waits_count}

get_or-map_none : {A B : Type 0} (f : Option A → B) (d : B) → f None ≡ d → (os : List (Option A)) (k : ℕ) → get_or (map f os) k d ≡ f (get_or os k None)
get_or-map_none f d none [] k = sym none
get_or-map_none f d none (o ∷ os) zero = refl
get_or-map_none f d none (o ∷ os) (suc k) = get_or-map_none f d none os k

-- where an input reads, its cursor stands
pub input_cursor : (x : UnitData) (i : ℕ) (r : Reader) → get_or (readers_of x) i None ≡ Some r → (c : CursorState) × (i < length x.inputs.items) × (cursor_at x.work i ≡ Some c) × (r ≡ record { node = c.list; place = c.place; timing = timing_at x i })
input_cursor x i r is = by (cursor_at x.work i) refl
  where
    inside : i < length x.inputs.items
    inside = omega (arith, place_within (readers_of x) i r is, length-map-range_with_len (input_of x) 0 (length x.inputs.items))

    at : input_of x i ≡ Some r
    at = sym (tab_get (input_of x) (length x.inputs.items) i None inside) ∙ is

    by : (o : Option CursorState) → cursor_at x.work i ≡ o → (c : CursorState) × (i < length x.inputs.items) × (cursor_at x.work i ≡ Some c) × (r ≡ record { node = c.list; place = c.place; timing = timing_at x i })
    by None e = absurd (none_some (sym (ap (option_map {U = Reader} (λ d. record { node = d.list; place = d.place; timing = timing_at x i })) e) ∙ at))
    by (Some c) e = (c, inside, e, same_some (sym at ∙ ap (option_map {U = Reader} (λ d. record { node = d.list; place = d.place; timing = timing_at x i })) e))

pub cursor_input : (x : UnitData) (i : ℕ) (c : CursorState) → i < length x.inputs.items → cursor_at x.work i ≡ Some c → get_or (readers_of x) i None ≡ Some (record { node = c.list; place = c.place; timing = timing_at x i })
cursor_input x i c inside at = tab_get (input_of x) (length x.inputs.items) i None inside ∙ ap (option_map {U = Reader} (λ d. record { node = d.list; place = d.place; timing = timing_at x i })) at

-- the list of a cursor of a unit is there, and is lower
pub used_there : (t : Table) (cs : List (Option CursorState)) (u : ℕ) (x : UnitData) (c : CursorState) → IsTable t cs → unit_at t u ≡ Some x → HoldsCursor x c → IsSome (list_at t.store c.list)
used_there t cs u x c table at (inl input) =
    let w = table.units u x at in
    let a = table.inputs u input.0 x w.0 c at w.1 input.1 input.2 in
    is_some_of _ a.0 a.1
used_there t cs u x c table at (inr kept) = ((table.kept u kept.0 x kept.1 at kept.2).some c kept.3).0

pub used_lower : (t : Table) (cs : List (Option CursorState)) (u : ℕ) (x : UnitData) (c : CursorState) → (table : IsTable t cs) → unit_at t u ≡ Some x → HoldsCursor x c → table.rank c.list < table.rank u
used_lower t cs u x c table at (inl input) = table.falls u input.0 x c at input.1 input.2
used_lower t cs u x c table at (inr kept) = table.keeps_lower u kept.0 x kept.1 c at kept.2 kept.3

-- what a node uses, a cursor of its unit reads
pub uses_at : (B : Type 0) (branches : List B) (h : HeapState B) (u v : ℕ) (x : UnitData) (y : Node B) → node_at h u ≡ Some y → y.inputs ≡ readers_of x → y.waiting ≡ waiting_with branches (waits_in x.work) → Uses h u v
    → (c : CursorState) × HoldsCursor x c × (c.list ≡ v)
uses_at B branches h u v x y there inputs waiting (Read r) =
    let same : r.unit ≡ y = same_some (sym r.there ∙ there) in
    let c = input_cursor x r.place r.reader (ap (λ rs. get_or rs r.place None) (sym inputs) ∙ ap (λ (z : Node B). input_at z r.place) (sym same) ∙ r.input) in
    (c.0, inl (r.place, c.1, c.2), sym (ap (λ (q : Reader). q.node) c.3) ∙ r.of)
uses_at B branches h u v x y there inputs waiting (Hold r) =
    let same : r.unit ≡ y = same_some (sym r.there ∙ there) in
    let k = captured_kept branches (waits_in x.work) r.place r.position v r.part r.captured (ap (λ ws. slice_get ws r.place) (sym waiting) ∙ ap (λ (z : Node B). slice_get z.waiting r.place) (sym same) ∙ r.waits) r.one r.of in
    (k.2, inr (k.0, k.1, k.3, k.4), k.5)

module _ (B : Type 0) (bs : ℕ → List B) (t : Table) (fills peak : ℕ) where
  pub node_at-state : (v : ℕ) → node_at {B = B} (state_of bs t fills peak) v ≡ option_map (node_of bs t [] v) (unit_at t v)
  node_at-state v = elim (cases_lt v (length t.units.items)) [
    | inl inside ↦ tab_get (λ w. option_map (node_of {B = B} bs t [] w) (unit_at t w)) (length t.units.items) v None inside
    | inr past ↦ tab_past (λ w. option_map (node_of {B = B} bs t [] w) (unit_at t w)) (length t.units.items) v None past ∙ ap (option_map (node_of {B = B} bs t [] v)) (sym (get_or_past t.units.items v None past))
  ]

  pub node_of_unit : (v : ℕ) (x : UnitData) → unit_at t v ≡ Some x → node_at {B = B} (state_of bs t fills peak) v ≡ Some (node_of bs t [] v x)
  node_of_unit v x at = node_at-state v ∙ ap (option_map (node_of {B = B} bs t [] v)) at

  pub no_node : (v : ℕ) → unit_at t v ≡ None → node_at {B = B} (state_of bs t fills peak) v ≡ None
  no_node v none = node_at-state v ∙ ap (option_map (node_of {B = B} bs t [] v)) none

  -- a node is that of a unit
  pub unit_of_node : (v : ℕ) (y : Node B) → node_at (state_of bs t fills peak) v ≡ Some y → (x : UnitData) × (unit_at t v ≡ Some x) × (y ≡ node_of bs t [] v x)
  unit_of_node v y at = by_unit (unit_at t v) refl
    where
      by_unit : (o : Option UnitData) → unit_at t v ≡ o → (x : UnitData) × (unit_at t v ≡ Some x) × (y ≡ node_of bs t [] v x)
      by_unit None e = absurd (none_some (sym (no_node v e) ∙ at))
      by_unit (Some x) e = (x, e, same_some (sym at ∙ node_of_unit v x e))

  pub no_unit : (v : ℕ) → node_at {B = B} (state_of bs t fills peak) v ≡ None → unit_at t v ≡ None
  no_unit v none = by_unit (unit_at t v) refl
    where
      by_unit : (o : Option UnitData) → unit_at t v ≡ o → unit_at t v ≡ None
      by_unit None e = e
      by_unit (Some x) e = absurd (none_some (sym none ∙ node_of_unit v x e))

  pub block_at-state : (v j : ℕ) (l : ListState) → list_at t.store v ≡ Some l → block_at {B = B} (state_of bs t fills peak) v j ≡ get_or l.values j None
  block_at-state v j l at = ap (λ bs. get_or bs j None) (get_or-map_none (λ (o : Option ListState). option_map_or (λ x. x.values) o []) [] refl t.store.lists v ∙ ap (λ (o : Option ListState). option_map_or (λ x. x.values) o []) at)

  pub blocks_none : (v : ℕ) → list_at t.store v ≡ None → get_or (state_of {B = B} bs t fills peak).blocks v [] ≡ []
  blocks_none v none = get_or-map_none (λ (o : Option ListState). option_map_or (λ x. x.values) o []) [] refl t.store.lists v ∙ ap (λ (o : Option ListState). option_map_or (λ x. x.values) o []) none

  -- what a unit uses, one of its cursors reads
  pub uses_cursor : (u v : ℕ) → Uses {B = B} (state_of bs t fills peak) u v → (x : UnitData) × (c : CursorState) × (unit_at t u ≡ Some x) × HoldsCursor x c × (c.list ≡ v)
  uses_cursor u v (Read r) =
      let x = unit_of_node u r.unit r.there in
      let c = uses_at B (bs u) (state_of bs t fills peak) u v x.0 r.unit r.there (ap (λ (y : Node B). y.inputs) x.2) (ap (λ (y : Node B). y.waiting) x.2) (Read r) in
      (x.0, c.0, x.1, c.1, c.2)
  uses_cursor u v (Hold r) =
      let x = unit_of_node u r.unit r.there in
      let c = uses_at B (bs u) (state_of bs t fills peak) u v x.0 r.unit r.there (ap (λ (y : Node B). y.inputs) x.2) (ap (λ (y : Node B). y.waiting) x.2) (Hold r) in
      (x.0, c.0, x.1, c.1, c.2)

  -- and what its cursors read it uses
  pub cursor_uses : HaveBranches bs t → (u : ℕ) (x : UnitData) (c : CursorState) → unit_at t u ≡ Some x → HoldsCursor x c → Uses {B = B} (state_of bs t fills peak) u c.list
  cursor_uses have u x c at (inl input) =
      Read (record { unit = node_of bs t [] u x; there = node_of_unit u x at; place = input.0; reader = record { node = c.list; place = c.place; timing = timing_at x input.0 }; input = cursor_input x input.0 c input.1 input.2; of = refl })
  cursor_uses have u x c at (inr kept) =
      let k = kept_captured (bs u) (waits_in x.work) kept.0 kept.1 c (have u x at) kept.2 kept.3 in
      Hold (record { unit = node_of bs t [] u x; there = node_of_unit u x at; place = k.0; part = k.1; waits = k.4; position = k.2; captured = k.3; one = k.5; of = k.6 })

  -- ---- readers

  own_is : HaveBranches bs t → IsTable t [] → (v j : ℕ) → sum_by (λ (o : Option (Node B)). option_map_or {U = ℕ} (heap.own_in t.block (len_of t.store v) v j) o 0) (map (λ w. option_map (node_of {B = B} bs t [] w) (unit_at t w)) (range_with_len 0 (length t.units.items))) ≡ own_in t v j
  own_is have table v j =
      sums_agree f g None None nodes t.units.items (length-map-range_with_len node 0 (length t.units.items))
      (λ k h. ap f (tab_get node (length t.units.items) k None (omega (arith, h, length-map-range_with_len node 0 (length t.units.items)))) ∙ same k (unit_at t k) refl)
    where
      node : ℕ → Option (Node B)
      node w = option_map (node_of {B = B} bs t [] w) (unit_at t w)

      nodes : List (Option (Node B))
      nodes = map node (range_with_len 0 (length t.units.items))

      f : Option (Node B) → ℕ
      f o = option_map_or {U = ℕ} (heap.own_in t.block (len_of t.store v) v j) o 0

      g : Option UnitData → ℕ
      g o = option_map_or {U = ℕ} (own_of t.block (len_of t.store v) v j) o 0

      same : (k : ℕ) (o : Option UnitData) → unit_at t k ≡ o → f (option_map (node_of {B = B} bs t [] k) o) ≡ g o
      same k None at = refl
      same k (Some x) at =
          ap (λ n. sum_by (is_reader t.block (len_of t.store v) v j) (readers_of x) + n)
          (waits_count t v j (omega (arith, table.store.some, table.block)) (bs k) (waits_in x.work) (have k x at) (each_of (IsKept t) (kept_in x.work) (λ i s is. table.kept k i x s at is)))

  -- who reads a block of a list are its cursors there
  pub readers_is : HaveBranches bs t → (v j : ℕ) (x : UnitData) (l : ListState) → IsTable t [] → unit_at t v ≡ Some x → list_at t.store v ≡ Some l → j ≤ length l.values → readers_in {B = B} (state_of bs t fills peak) v (node_of bs t [] v x) j ≡ mark_in t.store v j
  readers_is have v j x l table at listed within =
      let u = table.units v x at in
      let len : x.timing.len ≡ len_of t.store v = sym u.2.len ∙ ap (λ (k : ListState). k.len) (same_some (sym u.1 ∙ listed)) ∙ sym (len_is t.store v l listed) in
      let own : sum_by (λ (o : Option (Node B)). option_map_or {U = ℕ} (heap.own_in t.block x.timing.len v j) o 0) (map (λ w. option_map (node_of {B = B} bs t [] w) (unit_at t w)) (range_with_len 0 (length t.units.items))) ≡ own_in t v j =
      ap (λ n. sum_by (λ (o : Option (Node B)). option_map_or {U = ℕ} (heap.own_in t.block n v j) o 0) (map (λ w. option_map (node_of {B = B} bs t [] w) (unit_at t w)) (range_with_len 0 (length t.units.items)))) len ∙ own_is have table v j in
      let out : get_or (map (outside_in t [] v) (range_with_len 0 (filled_in t.store v + 1))) j 0 ≡ outside_in t [] v j = tab_get (outside_in t [] v) (filled_in t.store v + 1) j 0 (omega (arith, within, filled_is t.store v l listed)) in
      omega (arith, own, out, table.counted v j l listed)
