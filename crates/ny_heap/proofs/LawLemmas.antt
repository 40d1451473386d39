-- What holds of each heap between two calls.
use Rattle.std.proofs.Common.{◌≡◌, ◌≢◌, inl, inr, ℕ, zero, suc, ◌+◌, ◌-◌, ◌*◌, ◌<◌, ◌≤◌, min, Bool, true, false, cond, nat_lt, nat_eq, ◌&&◌, List, [], ◌∷◌, length, get_or, map, Option, None, Some, IsSome, is_some, count_by, sum_by, refl, sym, ap, subst, ◌∙◌, arith}
use Rattle.std.specs.List.{range_with_len, sum}
use Rattle.std.proofs.lemmas.List.FromFn.{length-map-range_with_len}
use Rattle.std.proofs.lemmas.List.Sums.{sum_by-cons, fails_before_first, passes_at_first}
use Rattle.std.proofs.lemmas.Bool.{cases_lt, true≢false, lt-ltb, le-ltb, ltb-true}
use Rattle.std.specs.Option.{option_map, option_map_or}
use Rattle.ny_list.specs.Store as lists
use Rattle.ny_list.specs.Store.{ListState, StoreState, CursorState, list_at, least, cursors_of, taken_of}
use Rattle.ny_list.specs.Laws.{ListLaws}
use Rattle.ny_list.proofs.IndexLemmas.{same_some, none_some, sum_at, tab_get}
use Rattle.ny_heap.specs.declared.table.Unit.{Unit as UnitData}
use Rattle.ny_heap.specs.declared.table.Table.{Table}
use Rattle.ny_heap.specs.Heap.{Reader, Node, HeapState, node_at, input_at, is_open, blocks_of, stands_in, readers_in, first_read, first_kept, kept_of, kept_from, live_of, free_of}
use Rattle.ny_heap.specs.Reach.{Uses, LeadsIn, IsReachable, NodeLaws, ReaderLaws, HeapLaws}
use Rattle.ny_heap.specs.Work.{cursor_at}
use Rattle.ny_heap.specs.Table.{unit_at, timing_at, own_in, own_of, mark_in, len_of, readers_of, IsTable}
use Rattle.ny_heap.specs.View.{node_of, state_of, waiting_with, outside_in, filled_in, HaveBranches, IsHeap}
use Rattle.ny_heap.proofs.CountLemmas.{some_is, is_some_of}
use Rattle.ny_heap.proofs.ListLemmas.{mark_is}
pub use Rattle.ny_heap.proofs.KeepLemmas.{some_term}
use Rattle.ny_heap.proofs.KeepLemmas.{unit_uses}
use Rattle.ny_heap.proofs.WaitLemmas.{waits_none}
use Rattle.ny_heap.proofs.ViewLemmas.{node_of_unit, unit_of_node, no_unit, block_at-state, blocks_none, used_there, used_lower, uses_cursor, cursor_uses, readers_is, filled_is, input_cursor}

-- the first of these blocks with a reader is g, where none before it has one
pub first_read_is : (f : ℕ → ℕ) (j n g : ℕ) → j ≤ g → g ≤ j + n → ((k : ℕ) → k < g → f k ≡ 0) → (g < j + n → 0 < f g) → first_read f j n ≡ g
first_read_is f j zero g low high none some = omega arith
first_read_is f j (suc n) g low high none some = elim (cases_lt j g) [
  | inl before ↦
      ap (λ b. cond b j (first_read f (j + 1) n)) (le-ltb 0 (f j) (omega (arith, none j before)))
      ∙ first_read_is f (j + 1) n g (omega arith) (omega arith) none (λ h. some (omega arith))
  | inr here ↦
      let e : g ≡ j = omega arith in
      ap (λ b. cond b j (first_read f (j + 1) n)) (lt-ltb 0 (f j) (subst (λ k. 0 < f k) e (some (omega arith)))) ∙ sym e
]

-- ---- the least cursor

before_least : (marks : List ℕ) (k : ℕ) → k < least marks → get_or marks k 0 ≡ 0
before_least marks k h = elim (cases_lt 0 (get_or marks k 0)) [
  | inl some ↦ absurd (true≢false (sym (lt-ltb 0 (get_or marks k 0) some) ∙ fails_before_first (λ m. nat_lt 0 m) marks k 0 h))
  | inr none ↦ omega (arith, none)
]

at_least : (marks : List ℕ) → least marks < length marks → 0 < get_or marks (least marks) 0
at_least marks h = ltb-true 0 (get_or marks (least marks) 0) (passes_at_first (λ m. nat_lt 0 m) marks 0 h)

sum_by_none : (marks : List ℕ) → ((k : ℕ) → get_or marks k 0 ≡ 0) → sum_by (λ m. m) marks ≡ 0
sum_by_none [] none = refl
sum_by_none (m ∷ ms) none = omega (arith, sum_by-cons (λ n. n) m ms, none 0, sum_by_none ms (λ k. none (suc k)))

-- where somebody reads a list, its least cursor stands in one of its blocks or the next one
least_within : (marks : List ℕ) → 0 < sum marks → least marks < length marks
least_within marks some = elim (cases_lt (least marks) (length marks)) [
  | inl h ↦ h
  | inr past ↦ absurd (omega (arith, some, sum_by_none marks (λ k. zero_at k past)))
]
  where
    zero_at : (k : ℕ) → length marks ≤ least marks → get_or marks k 0 ≡ 0
    zero_at k past = elim (cases_lt k (length marks)) [
      | inl h ↦ before_least marks k (omega (arith, h, past))
      | inr beyond ↦ Rattle.std.proofs.lemmas.List.get_or_past marks k 0 beyond
    ]

module _ (B : Type 0) (bs : ℕ → List B) (t : Table) (heap : IsHeap t) (have : HaveBranches bs t) (fills peak : ℕ) where
  table : IsTable t []
  table = heap.table

  laws_of : (v : ℕ) (l : ListState) → list_at t.store v ≡ Some l → ListLaws t.store.block l
  laws_of v l is = table.store.lists v l is

  least_filled : (v : ℕ) (l : ListState) → list_at t.store v ≡ Some l → least l.marks ≤ length l.values
  least_filled v l is = omega (arith, least_within l.marks (heap.read v l is), (laws_of v l is).marks)

  pub first_kept_is : (v : ℕ) (x : UnitData) (l : ListState) → unit_at t v ≡ Some x → list_at t.store v ≡ Some l → first_kept {B = B} (state_of bs t fills peak) v (node_of bs t [] v x) ≡ least l.marks
  first_kept_is v x l at listed =
      first_read_is (readers_in {B = B} (state_of bs t fills peak) v (node_of bs t [] v x)) 0 (filled_in t.store v) (least l.marks) (omega arith) (omega (arith, least_filled v l listed, filled_is t.store v l listed))
      (λ k before. readers_is B bs t fills peak have v k x l table at listed (omega (arith, before, least_filled v l listed)) ∙ mark_is t.store v k l listed ∙ before_least l.marks k before)
      (λ less. omega (arith, readers_is B bs t fills peak have v (least l.marks) x l table at listed (least_filled v l listed), mark_is t.store v (least l.marks) l listed, at_least l.marks (least_within l.marks (heap.read v l listed))))

  -- ---- each unit is reachable

  leads_on : (n u v w : ℕ) → LeadsIn {B = B} (state_of bs t fills peak) n u v → Uses {B = B} (state_of bs t fills peak) v w → LeadsIn {B = B} (state_of bs t fills peak) (suc n) u w
  leads_on zero u v w e uses = (w, subst (λ k. Uses {B = B} (state_of bs t fills peak) k w) (sym e) uses, refl)
  leads_on (suc n) u v w walk uses = (walk.0, walk.1, leads_on n walk.0 v w walk.2 uses)

  reached_within : (fuel v : ℕ) (x : UnitData) → unit_at t v ≡ Some x → table.bound ≤ table.rank v + fuel → IsReachable {B = B} (state_of bs t fills peak) v
  reached_within zero v x at near = absurd (omega (arith, table.below v x at))
  reached_within (suc fuel) v x at near = elim (cases_lt 0 (outside_in t [] v j)) [
    | inl some ↦ (v, record { unit = node_of bs t [] v x; there = node_of_unit B bs t fills peak v x at; some = omega (arith, some, marked, sum_at (map (outside_in t [] v) (range_with_len 0 (filled_in t.store v + 1))) j) }, (0, refl))
    | inr none ↦ by_unit (λ u y e close. reached_within fuel u y e close) (some_term (λ (o : Option UnitData). option_map_or {U = ℕ} (own_of t.block (len_of t.store v) v j) o 0) None t.units.items (omega (arith, none, standing)))
  ]
    where
      u_list : (l : ListState) × (list_at t.store v ≡ Some l) × Rattle.ny_heap.specs.Table.IsUnit t v x l
      u_list = table.units v x at

      l : ListState
      l = u_list.0

      listed : list_at t.store v ≡ Some l
      listed = u_list.1

      j : ℕ
      j = least l.marks

      marked : get_or (map (outside_in t [] v) (range_with_len 0 (filled_in t.store v + 1))) j 0 ≡ outside_in t [] v j
      marked = tab_get (outside_in t [] v) (filled_in t.store v + 1) j 0 (omega (arith, least_filled v l listed, filled_is t.store v l listed))

      standing : 0 < outside_in t [] v j + own_in t v j
      standing = omega (arith, mark_is t.store v j l listed, at_least l.marks (least_within l.marks (heap.read v l listed)))

      by_unit : ((u : ℕ) (y : UnitData) → unit_at t u ≡ Some y → table.bound ≤ table.rank u + fuel → IsReachable {B = B} (state_of bs t fills peak) u)
          → ((k : ℕ) × (k < length t.units.items) × (0 < option_map_or {U = ℕ} (own_of t.block (len_of t.store v) v j) (unit_at t k) 0)) → IsReachable {B = B} (state_of bs t fills peak) v
      by_unit up_from k =
          let r = unit_uses t.block (len_of t.store v) v j (unit_at t k.0) k.2 in
          let above = used_lower t [] k.0 r.0 r.1 table r.2 r.4 in
          let up = up_from k.0 r.0 r.2 (omega (arith, above, near, ap table.rank r.3)) in
          (up.0, up.1, (suc up.2.0, leads_on up.2.0 up.0 k.0 v up.2.1 (subst (Uses {B = B} (state_of bs t fills peak) k.0) r.3 (cursor_uses B bs t fills peak have k.0 r.0 r.1 r.2 r.4))))

  node_laws : (v : ℕ) (x : UnitData) → unit_at t v ≡ Some x → NodeLaws {B = B} (state_of bs t fills peak) v (node_of bs t [] v x)
  node_laws v x at =
      let u = table.units v x at in
      let laws = laws_of v u.0 u.1 in
      let filled = filled_is t.store v u.0 u.1 in
      let first = first_kept_is v x u.0 at u.1 in
      record {
        reached = reached_within table.bound v x at (omega arith);
        some = u.2.some;
        filled = omega (arith, filled, laws.filled, ap (λ b. blocks_of b u.0.len) table.block, ap (blocks_of t.block) u.2.len);
        marks = length-map-range_with_len (outside_in t [] v) 0 (filled_in t.store v + 1);
        kept = λ j from to. subst IsSome (sym (block_at-state B bs t fills peak v j u.0 u.1)) ((laws.kept j (omega (arith, to, filled))).1 (omega (arith, from, first)));
        given_back = λ j before. block_at-state B bs t fills peak v j u.0 u.1 ∙ no_block u.0 laws j (omega (arith, before, first));
        unfilled = λ j past. block_at-state B bs t fills peak v j u.0 u.1 ∙ Rattle.std.proofs.lemmas.List.get_or_past u.0.values j None (omega (arith, past, filled));
        reads_nothing = λ closed i. nothing closed i (get_or (readers_of x) i None) refl;
        waits_for_nothing = λ closed.
            let none = heap.waits v x at (full closed) in
            (ap (waiting_with (bs v)) none.0 ∙ waits_none (bs v), none.1);
      }
    where
      full : is_open t.block (node_of {B = B} bs t [] v x) ≡ false → blocks_of t.block x.timing.len ≤ filled_in t.store v
      full closed = elim (cases_lt (filled_in t.store v) (blocks_of t.block x.timing.len)) [
        | inl less ↦ absurd (true≢false (sym (lt-ltb _ _ less) ∙ closed))
        | inr past ↦ past
      ]

      no_block : (l : ListState) → ListLaws t.store.block l → (j : ℕ) → j < least l.marks → get_or l.values j None ≡ None
      no_block l laws j before = by (get_or l.values j None) refl
        where
          by : (o : Option (List Rattle.std.proofs.Common.ℤ)) → get_or l.values j None ≡ o → get_or l.values j None ≡ None
          by None e = e
          by (Some b) e = elim (cases_lt j (length l.values)) [
            | inl inside ↦ absurd (omega (arith, before, (laws.kept j inside).0 (is_some_of _ b e)))
            | inr past ↦ Rattle.std.proofs.lemmas.List.get_or_past l.values j None past
          ]

      nothing : is_open t.block (node_of {B = B} bs t [] v x) ≡ false → (i : ℕ) (o : Option Reader) → get_or (readers_of x) i None ≡ o → get_or (readers_of x) i None ≡ None
      nothing closed i None e = e
      nothing closed i (Some r) e =
          let c = input_cursor x i r e in
          absurd (true≢false (sym (lt-ltb (filled_in t.store v) (blocks_of t.block x.timing.len) (heap.clean v i x c.0 at c.1 c.2).1) ∙ closed))

  -- where there is no unit there is no list
  list_none : (v : ℕ) → unit_at t v ≡ None → list_at t.store v ≡ None
  list_none v none = by (list_at t.store v) refl
    where
      by : (o : Option ListState) → list_at t.store v ≡ o → list_at t.store v ≡ None
      by None e = e
      by (Some l) e = let x = some_is (unit_at t v) (table.lists v (is_some_of _ l e)) in absurd (none_some (sym none ∙ x.1))

  pub heap_laws : HeapLaws {B = B} (state_of bs t fills peak)
  heap_laws = record {
    positive = omega (arith, table.store.some, table.block);
    nodes = λ v y at. let x = unit_of_node B bs t fills peak v y at in subst (NodeLaws {B = B} (state_of bs t fills peak) v) (sym x.2) (node_laws v x.0 x.1);
    no_list = λ v none. blocks_none B bs t fills peak v (list_none v (no_unit B bs t fills peak v none));
    finds = λ u v uses.
        let r = uses_cursor B bs t fills peak u v uses in
        let y = some_is (unit_at t r.1.list) (table.lists r.1.list (used_there t [] u r.0 r.1 table r.2 r.3)) in
        is_some_of _ _ (ap (node_at {B = B} (state_of bs t fills peak)) (sym r.4) ∙ node_of_unit B bs t fills peak r.1.list y.0 y.1);
    readers = λ u i x y r at_u input at_r.
        let p = unit_of_node B bs t fills peak u x at_u in
        let q = unit_of_node B bs t fills peak r.node y at_r in
        readers u i x y r p.0 q.0 p.1 p.2 q.1 q.2 (ap (λ (z : Node B). input_at z i) (sym p.2) ∙ input);
    rank = table.rank;
    bound = table.bound;
    below = λ u y at. let x = unit_of_node B bs t fills peak u y at in table.below u x.0 x.1;
    falls = λ u v uses. let r = uses_cursor B bs t fills peak u v uses in omega (arith, used_lower t [] u r.0 r.1 table r.2 r.3, ap table.rank r.4);
  }
    where
      readers : (u i : ℕ) (x y : Node B) (r : Reader) (p q : UnitData) → unit_at t u ≡ Some p → x ≡ node_of bs t [] u p → unit_at t r.node ≡ Some q → y ≡ node_of bs t [] r.node q → get_or (readers_of p) i None ≡ Some r → ReaderLaws {B = B} (state_of bs t fills peak) x r y
      readers u i x y r p q at_p is_x at_q is_y input =
          let c = input_cursor p i r input in
          let w = table.units u p at_p in
          let a = table.inputs u i p w.0 c.0 at_p w.1 c.1 c.2 in
          let z = table.units r.node q at_q in
          let node : r.node ≡ c.0.list = ap (λ (k : Reader). k.node) c.3 in
          let place : r.place ≡ c.0.place = ap (λ (k : Reader). k.place) c.3 in
          let timing : r.timing ≡ timing_at p i = ap (λ (k : Reader). k.timing) c.3 in
          let same : z.0 ≡ a.0 = same_some (sym z.1 ∙ ap (list_at t.store) node ∙ a.1) in
          let len : a.0.len ≡ q.timing.len = sym (ap (λ (k : ListState). k.len) same) ∙ z.2.len in
          let filled : filled_in t.store r.node ≡ length a.0.values = filled_is t.store r.node z.0 z.1 ∙ ap (λ (k : ListState). length k.values) same in
          subst (λ n. ReaderLaws {B = B} (state_of bs t fills peak) n r y) (sym is_x) (subst (ReaderLaws {B = B} (state_of bs t fills peak) (node_of bs t [] u p) r) (sym is_y) (record {
            sees = omega (arith, a.2.sees, a.2.visible, len, ap (λ (k : Rattle.ny_num.specs.declared.timing.Timing.Timing). k.len) timing);
            at_need = place ∙ heap.needs u i p c.0 at_p c.1 c.2 ∙ ap (λ (k : Rattle.ny_num.specs.declared.timing.Timing.Timing). Rattle.ny_heap.specs.Heap.taken_after t.block (Rattle.ny_heap.specs.Work.kind_of p.work) p.timing k (filled_in t.store u)) (sym timing);
            more = omega (arith, (heap.clean u i p c.0 at_p c.1 c.2).0, a.2.sees, place, ap (λ (k : Rattle.ny_num.specs.declared.timing.Timing.Timing). k.len) timing);
            computed = subst (λ n. n ≤ min (filled_in t.store r.node * t.block) q.timing.len) (sym place)
                (subst (λ n. c.0.place ≤ min (n * t.block) q.timing.len) (sym filled) (subst (λ n. c.0.place ≤ min (length a.0.values * t.block) n) len a.2.computed));
          }))

  -- ---- how many blocks are taken

  kept_sum : (k : ℕ) (os : List (Option (Node B))) (ls : List (Option ListState)) → ((i : ℕ) → kept_of {B = B} (state_of bs t fills peak) (k + i) (get_or os i None) ≡ option_map_or {U = ℕ} lists.kept_of (get_or ls i None) 0)
      → kept_from {B = B} (state_of bs t fills peak) k os ≡ sum_by (λ (o : Option ListState). option_map_or {U = ℕ} lists.kept_of o 0) ls
  kept_sum k [] [] same = refl
  kept_sum k [] (l ∷ ls) same = omega (arith, sum_by-cons (λ (o : Option ListState). option_map_or {U = ℕ} lists.kept_of o 0) l ls, same 0, kept_sum k [] ls (λ i. same (suc i)))
  kept_sum k (o ∷ os) [] same =
      let first : k + 0 ≡ k = omega arith in
      omega (arith, ap (λ n. kept_of {B = B} (state_of bs t fills peak) n o) first, same 0, kept_sum (suc k) os [] (λ i. let next : suc k + i ≡ k + suc i = omega arith in ap (λ n. kept_of {B = B} (state_of bs t fills peak) n (get_or os i None)) next ∙ same (suc i)))
  kept_sum k (o ∷ os) (l ∷ ls) same =
      let first : k + 0 ≡ k = omega arith in
      omega (
        arith,
        ap (λ n. kept_of {B = B} (state_of bs t fills peak) n o) first,
        same 0,
        sum_by-cons (λ (q : Option ListState). option_map_or {U = ℕ} lists.kept_of q 0) l ls,
        kept_sum (suc k) os ls (λ i. let next : suc k + i ≡ k + suc i = omega arith in ap (λ n. kept_of {B = B} (state_of bs t fills peak) n (get_or os i None)) next ∙ same (suc i)),
      )

  -- a unit's list keeps as many blocks as are seen
  pub kept_is : (i : ℕ) (o : Option UnitData) → unit_at t i ≡ o → kept_of {B = B} (state_of bs t fills peak) i (node_at {B = B} (state_of bs t fills peak) i) ≡ option_map_or {U = ℕ} lists.kept_of (list_at t.store i) 0
  kept_is i (Some x) at =
      let u = table.units i x at in
      ap (kept_of {B = B} (state_of bs t fills peak) i) (node_of_unit B bs t fills peak i x at)
      ∙ ap (λ n. n - first_kept {B = B} (state_of bs t fills peak) i (node_of bs t [] i x)) (filled_is t.store i u.0 u.1)
      ∙ ap (λ n. length u.0.values - n) (first_kept_is i x u.0 at u.1)
      ∙ sym (ap (λ (q : Option ListState). option_map_or {U = ℕ} lists.kept_of q 0) u.1)
  kept_is i None at =
      ap (kept_of {B = B} (state_of bs t fills peak) i) (Rattle.ny_heap.proofs.ViewLemmas.no_node B bs t fills peak i at)
      ∙ sym (ap (λ (q : Option ListState). option_map_or {U = ℕ} lists.kept_of q 0) (list_none i at))

  pub live_is : live_of {B = B} (state_of bs t fills peak) ≡ taken_of t.store
  live_is =
      omega (
        arith,
        kept_sum 0 (map (λ w. option_map (node_of {B = B} bs t [] w) (unit_at t w)) (range_with_len 0 (length t.units.items))) t.store.lists (λ i. let e : 0 + i ≡ i = omega arith in ap (λ n. kept_of {B = B} (state_of bs t fills peak) n (node_at {B = B} (state_of bs t fills peak) i)) e ∙ kept_is i (unit_at t i) refl),
        table.loose,
      )
