-- One more cursor beside another, and what a contract sees of it.
use Rattle.std.proofs.Common.{◌≡◌, ◌≢◌, inl, inr, ℕ, zero, suc, ◌+◌, ◌-◌, ◌<◌, ◌≤◌, ◌^◌, cond, nat_lt, IsTrue, ◌↔◌, List, [], ◌∷◌, length, map, get_or, set, Option, None, Some, refl, sym, ap, subst, ◌∙◌, arith}
use Rattle.std.specs.List.{range_with_len, sum}
use Rattle.std.specs.Option.{option_map, option_map_or}
use Rattle.std.proofs.lemmas.List.{get_or_past, ext_get_or}
use Rattle.std.proofs.lemmas.List.FromFn.{length-map-range_with_len}
use Rattle.std.proofs.lemmas.Bool.{cases_eq, cases_lt, eq-eqb, ne_eqb, lt-ltb, ltb-true}
use Rattle.ny_list.specs.Store.{ListState, StoreState, CursorState, list_at, cursors_of}
use Rattle.ny_list.specs.Steps.{entered, with_list, with_cursor}
use Rattle.ny_list.specs.Laws.{StoreLaws}
use Rattle.ny_list.proofs.IndexLemmas.{same_some, none_some, sum_at, tab_get, tab_same, tab_set}
use Rattle.ny_heap.specs.declared.sound.Sound.{Sound}
use Rattle.ny_heap.specs.declared.table.Unit.{Unit as UnitData}
use Rattle.ny_heap.specs.declared.table.Table.{Table}
use Rattle.ny_heap.specs.Heap.{Node, node_at, list_of, place_of, blocks_of, stands_in, taken_after, readers_in}
use Rattle.ny_heap.specs.Means.{KeepsMeaning}
use Rattle.ny_heap.specs.Steps.{IsCounted, changed, with_mark, with_sound}
use Rattle.ny_heap.specs.Sharing.{readers_of, CanShare}
use Rattle.ny_heap.specs.Work.{kind_of}
use Rattle.ny_heap.specs.Table.{unit_at, timing_at, mark_in, len_of, stands_at, IsTable, IsRead, IsThere}
use Rattle.ny_heap.specs.View.{node_of, state_of, outside_in, filled_in, HaveBranches, IsHeap}
use Rattle.ny_heap.proofs.TableLemmas.{place_within}
use Rattle.ny_heap.proofs.ListLemmas.{list_within, list_here, list_other, Relists, Relists-one, mark_is, len_is, len_kept}
use Rattle.ny_heap.proofs.CountLemmas.{some_is, is_some_of, cursor_counted, held_cons, own_kept, IsTable-relisted}
use Rattle.ny_heap.proofs.ViewLemmas.{node_of_unit, unit_of_node, block_at-state, filled_is, readers_is}
use Rattle.ny_heap.proofs.StepLemmas.{keeps_by, IsTable-held, stand_within}
use Rattle.ny_heap.proofs.HeardLemmas.{marks_entered, stands_of, stands_apart}
use Rattle.ny_heap.proofs.KeepLemmas.{still_timely}

-- ---- the table

module _ (t : Table) (c : CursorState) (table : IsTable t (Some c ∷ [])) where
  pub its_list : (l : ListState) × (list_at t.store c.list ≡ Some l)
  its_list = some_is (list_at t.store c.list) (table.held 0 c refl)

  abbrev pub store_now : StoreState
  store_now = with_cursor t.store c

  abbrev pub table_now : Table
  table_now = record t { store = store_now }

  abbrev block : ℕ
  block = stands_in t.store.block its_list.0.len c.place

  abbrev list_now : ListState
  list_now = entered block its_list.0

  shared_is : store_now ≡ with_list t.store c.list (Some list_now)
  shared_is = ap (λ o. with_list t.store c.list (option_map (λ (y : ListState). entered (stands_in t.store.block y.len c.place) y) o)) its_list.1

  shared_here : list_at store_now c.list ≡ Some list_now
  shared_here = ap (λ r. list_at r c.list) shared_is ∙ list_here t.store c.list (Some list_now) (list_within t.store c.list its_list.0 its_list.1)

  shared_other : (v : ℕ) → v ≢ c.list → list_at store_now v ≡ list_at t.store v
  shared_other v ne = ap (λ r. list_at r v) shared_is ∙ list_other t.store c.list v (Some list_now) ne

  pub lists_shared : Relists t.store store_now
  lists_shared = subst (Relists t.store) (sym shared_is) (Relists-one t.store c.list its_list.0 list_now its_list.1 (record { len = refl; filled = refl; kept = λ j b is. is }))

  marked : 0 < get_or its_list.0.marks block 0
  marked = subst (λ n. 0 < n) (ap (λ (o : Option ListState). option_map_or {U = ℕ} (λ x. get_or x.marks (stands_in t.store.block x.len c.place) 0) o 0) its_list.1) (cursor_counted t c [] table)

  within : block < length its_list.0.marks
  within = elim (cases_lt block (length its_list.0.marks)) [
    | inl h ↦ h
    | inr past ↦ absurd (omega (arith, marked, get_or_past its_list.0.marks block 0 past))
  ]

  -- one cursor more where it stands
  marks_stored : (v j : ℕ) → mark_in store_now v j ≡ mark_in t.store v j + stands_at t.store.block (len_of t.store v) v j (Some c)
  marks_stored v j = elim (cases_eq c.list v) [
    | inl e ↦
        omega (
          arith,
          ap (λ w. mark_in store_now w j) (sym e),
          mark_is store_now c.list j list_now shared_here,
          ap (λ w. mark_in t.store w j) (sym e),
          mark_is t.store c.list j its_list.0 its_list.1,
          stands_of t.store.block (len_of t.store v) its_list.0.len v j c e (ap (len_of t.store) (sym e) ∙ len_is t.store c.list its_list.0 its_list.1),
          marks_entered its_list.0.marks block j within,
        )
    | inr ne ↦
        omega (
          arith,
          ap (λ (o : Option ListState). option_map_or {U = ℕ} (λ l. get_or l.marks j 0) o 0) (shared_other v (λ e. ne (sym e))),
          stands_apart t.store.block (len_of t.store v) v j c ne,
        )
  ]

  pub marks_shared : (v j : ℕ) → mark_in store_now v j ≡ mark_in t.store v j + stands_at t.block (len_of t.store v) v j (Some c)
  marks_shared v j = subst (λ b. mark_in store_now v j ≡ mark_in t.store v j + stands_at b (len_of t.store v) v j (Some c)) table.block (marks_stored v j)

  pub IsTable-shared : StoreLaws store_now → IsTable table_now []
  IsTable-shared laws =
      IsTable-relisted t store_now (Some c ∷ []) [] table lists_shared laws (λ i d is. absurd (none_some is))
      (λ v j l is. omega (arith, table.counted v j l is, marks_shared v j, held_cons t (Some c) [] v j))

  IsRead-shared : IsRead t → IsRead table_now
  IsRead-shared read v l is = elim (cases_eq v c.list) [
    | inl e ↦
        subst (λ (k : ListState). 0 < cursors_of k) (same_some (sym shared_here ∙ sym (ap (list_at store_now) e) ∙ is))
        (omega (arith, sum_at list_now.marks block, marks_entered its_list.0.marks block block within, ap (λ b. cond {A = ℕ} b 1 0) (eq-eqb block block refl)))
    | inr ne ↦ read v l (sym (shared_other v ne) ∙ is)
  ]

  pub filled_shared : (v : ℕ) (x : UnitData) → unit_at t v ≡ Some x → filled_in store_now v ≡ filled_in t.store v
  filled_shared v x at =
      let u = table.units v x at in
      let n = lists_shared.to v u.0 u.1 in
      filled_is store_now v n.0 n.1 ∙ n.2.filled ∙ sym (filled_is t.store v u.0 u.1)

  pub IsHeap-shared : IsHeap t → IsTable table_now [] → IsHeap table_now
  IsHeap-shared heap now = record {
    table = now;
    read = IsRead-shared heap.read;
    clean = λ v i x k at inside cursor.
        let w = heap.clean v i x k at inside cursor in
        (w.0, subst (λ n. n < blocks_of t.block x.timing.len) (sym (filled_shared v x at)) w.1);
    needs = λ v i x k at inside cursor. heap.needs v i x k at inside cursor ∙ ap (taken_after t.block (kind_of x.work) x.timing (timing_at x i)) (sym (filled_shared v x at));
    exhausted = λ v i x at inside reader none more.
        subst (λ n. (timing_at x i).len ≤ taken_after t.block (kind_of x.work) x.timing (timing_at x i) n) (sym (filled_shared v x at))
        (heap.exhausted v i x at inside reader none (subst (λ n. n < blocks_of t.block x.timing.len) (filled_shared v x at) more));
    waits = λ v x at full. heap.waits v x at (subst (λ n. blocks_of t.block x.timing.len ≤ n) (filled_shared v x at) full);
    timely = λ v x at owes. still_timely x.timing.start (filled_in t.store v) (filled_in store_now v) t.block t.block _ (filled_shared v x at) refl (heap.timely v x at owes);
  }

-- ---- what a contract sees

-- a list with the same blocks
same_blocks : (ls : List (Option ListState)) (v : ℕ) (x y : ListState) → get_or ls v None ≡ Some x → y.values ≡ x.values → map (λ (o : Option ListState). option_map_or (λ l. l.values) o []) (set ls v (Some y)) ≡ map (λ (o : Option ListState). option_map_or (λ l. l.values) o []) ls
same_blocks [] v x y is same = refl
same_blocks (l ∷ ls) zero x y is same = ap (λ vs. vs ∷ map (λ (o : Option ListState). option_map_or (λ k. k.values) o []) ls) (same ∙ sym (ap (λ (o : Option ListState). option_map_or (λ k. k.values) o []) is))
same_blocks (l ∷ ls) (suc v) x y is same = ap (λ rest. option_map_or (λ (k : ListState). k.values) l [] ∷ rest) (same_blocks ls v x y is same)

module _ (B : Type 0) (bs : ℕ → List B) (t : Table) (c : CursorState) (table : IsTable t []) (held : IsTable t (Some c ∷ [])) (fills peak : ℕ) where
  abbrev new : Table
  new = table_now t c held

  -- in the block in which it stands is one sound more
  outside_now : (v j : ℕ) (x : UnitData) → unit_at t v ≡ Some x → outside_in new [] v j ≡ outside_in t [] v j + stands_at t.block (len_of t.store v) v j (Some c)
  outside_now v j x at =
      let u = held.units v x at in
      let l = (lists_shared t c held).to v u.0 u.1 in
      let len = len_kept t.store new.store v l.0 (lists_shared t c held) l.1 in
      omega (arith, marks_shared t c held v j, own_kept t new.store v j len, table.counted v j u.0 u.1)

  abbrev marks_with : (v : ℕ) → List ℕ
  marks_with v = map (λ j. outside_in t [] v j + stands_at t.block (len_of t.store v) v j (Some c)) (range_with_len 0 (filled_in t.store v + 1))

  node_now : (v : ℕ) (x : UnitData) → unit_at t v ≡ Some x → node_of {B = B} bs new [] v x ≡ record (node_of bs t [] v x) { outside = marks_with v }
  node_now v x at =
      (λ i. record (node_of {B = B} bs t [] v x) { filled = filled_shared t c held v x at i; outside = map (outside_in new [] v) (range_with_len 0 (filled_shared t c held v x at i + 1)) })
      ∙ ap (λ ms. record (node_of {B = B} bs t [] v x) { outside = ms })
      (tab_same (outside_in new [] v) (λ j. outside_in t [] v j + stands_at t.block (len_of t.store v) v j (Some c)) (filled_in t.store v + 1) 0 (λ j h. outside_now v j x at))

  its_unit : (x : UnitData) × (unit_at t c.list ≡ Some x)
  its_unit = some_is (unit_at t c.list) (table.lists c.list (is_some_of _ (its_list t c held).0 (its_list t c held).1))

  module _ (s : Sound) (reads : s.reader ≡ Some c) (stands : stands_in t.block (len_of t.store c.list) c.place < filled_in t.store c.list + 1) where
    abbrev heard : Node B → Node B
    heard x = with_mark (stands_in t.block x.timing.len (place_of s)) x

    abbrev before : ℕ → Option (Node B)
    before w = option_map (node_of {B = B} bs t [] w) (unit_at t w)

    abbrev after : ℕ → Option (Node B)
    after w = option_map (node_of {B = B} bs new [] w) (unit_at t w)

    abbrev stand : ℕ
    stand = stands_in t.block (len_of t.store c.list) c.place

    stand_is : stands_in t.block its_unit.0.timing.len (place_of s) ≡ stand
    stand_is =
        let u = table.units c.list its_unit.0 its_unit.1 in
        ap (λ n. stands_in t.block n (place_of s)) (sym u.2.len ∙ sym (len_is t.store c.list u.0 u.1))
        ∙ ap (λ (o : Option CursorState). stands_in t.block (len_of t.store c.list) (option_map_or {U = ℕ} (λ k. k.place) o 0)) reads

    abbrev old_marks : List ℕ
    old_marks = map (outside_in t [] c.list) (range_with_len 0 (filled_in t.store c.list + 1))

    more : set old_marks stand (get_or old_marks stand 0 + 1) ≡ marks_with c.list
    more =
        tab_set (outside_in t [] c.list) (λ j. outside_in t [] c.list j + stands_at t.block (len_of t.store c.list) c.list j (Some c)) (filled_in t.store c.list + 1) stand (get_or old_marks stand 0 + 1) 0 stands
        (omega (
          arith,
          tab_get (outside_in t [] c.list) (filled_in t.store c.list + 1) stand 0 stands,
          stands_of t.block (len_of t.store c.list) (len_of t.store c.list) c.list stand c refl refl,
          ap (λ b. cond {A = ℕ} b 1 0) (eq-eqb stand stand refl),
        ))
        (λ j h ne. omega (arith, stands_of t.block (len_of t.store c.list) (len_of t.store c.list) c.list j c refl refl, ap (λ b. cond {A = ℕ} b 1 0) (ne_eqb stand j (λ e. ne (sym e)))))

    here : after c.list ≡ option_map heard (node_at (state_of {B = B} bs t fills peak) c.list)
    here =
        ap (option_map (node_of {B = B} bs new [] c.list)) its_unit.1
        ∙ ap Some (node_now c.list its_unit.0 its_unit.1)
        ∙ ap (λ ms. Some (record (node_of {B = B} bs t [] c.list its_unit.0) { outside = ms })) (sym (ap (λ m. set old_marks m (get_or old_marks m 0 + 1)) stand_is ∙ more))
        ∙ sym (ap (option_map heard) (node_of_unit B bs t fills peak c.list its_unit.0 its_unit.1))

    beside : (w : ℕ) → w ≢ c.list → (o : Option UnitData) → unit_at t w ≡ o → option_map (node_of {B = B} bs new [] w) o ≡ option_map (node_of {B = B} bs t [] w) o
    beside w ne None at = refl
    beside w ne (Some x) at =
        ap Some (node_now w x at)
        ∙ ap (λ ms. Some (record (node_of {B = B} bs t [] w x) { outside = ms }))
        (tab_same (λ j. outside_in t [] w j + stands_at t.block (len_of t.store w) w j (Some c)) (outside_in t [] w) (filled_in t.store w + 1) 0
        (λ j h. omega (arith, stands_apart t.block (len_of t.store w) w j c (λ e. ne (sym e)))))

    blocks_same : (state_of {B = B} bs new fills peak).blocks ≡ (state_of {B = B} bs t fills peak).blocks
    blocks_same =
        ap (λ (r : StoreState). map (λ (o : Option ListState). option_map_or (λ l. l.values) o []) r.lists) (shared_is t c held)
        ∙ same_blocks t.store.lists c.list (its_list t c held).0 (list_now t c held) (its_list t c held).1 refl

    -- the heap has one sound more
    pub shared_heap : state_of {B = B} bs new fills peak ≡ with_sound (state_of {B = B} bs t fills peak) s
    shared_heap =
        ap (λ bl. record (state_of {B = B} bs new fills peak) { blocks = bl }) blocks_same
        ∙ sym (ap (λ (o : Option CursorState). changed {B = B} (state_of bs t fills peak) (list_of (record s { reader = o })) heard) reads
        ∙ ap (λ ns. record (state_of {B = B} bs t fills peak) { nodes = ns })
        (tab_set before after (length t.units.items) c.list (option_map heard (node_at (state_of bs t fills peak) c.list)) None (place_within t.units.items c.list its_unit.0 its_unit.1) here (λ w h ne. beside w ne (unit_at t w) refl)))

  pub shared_keeps : KeepsMeaning {B = B} (state_of bs t fills peak) (state_of bs new fills peak)
  shared_keeps = keeps_by B (state_of bs t fills peak) (state_of bs new fills peak) refl (λ v y is.
      let x = unit_of_node B bs new fills peak v y is in
      let u = table.units v x.0 x.1 in
      let now = (lists_shared t c held).to v u.0 u.1 in (
        node_of bs t [] v x.0,
        node_of_unit B bs t fills peak v x.0 x.1,
        x.2 ∙ (λ i. record (node_of {B = B} bs t [] v x.0) { filled = filled_shared t c held v x.0 x.1 i; outside = map (outside_in new [] v) (range_with_len 0 (filled_in new.store v + 1)) })
            ∙ ap (λ ms. record (node_of {B = B} bs t [] v x.0) { outside = ms }) (sym (ap (λ (z : Node B). z.outside) x.2)),
        λ j b e. block_at-state B bs t fills peak v j u.0 u.1 ∙ now.2.kept j b (sym (block_at-state B bs new fills peak v j now.0 now.1) ∙ e),
      ))

-- ---- how many read a list

module _ (B : Type 0) (bs : ℕ → List B) (t : Table) (table : IsTable t []) (have : HaveBranches bs t) (fills peak : ℕ) where
  pub readers_are : (v : ℕ) (l : ListState) → list_at t.store v ≡ Some l → readers_of {B = B} (state_of bs t fills peak) v ≡ cursors_of l
  readers_are v l listed =
      let x = some_is (unit_at t v) (table.lists v (is_some_of _ l listed)) in
      let counts = readers_in {B = B} (state_of bs t fills peak) v (node_of bs t [] v x.0) in
      ap (λ (o : Option (Node B)). option_map_or {U = ℕ} (λ y. sum (map (readers_in {B = B} (state_of bs t fills peak) v y) (range_with_len 0 (y.filled + 1)))) o 0) (node_of_unit B bs t fills peak v x.0 x.1)
      ∙ ap sum (ext_get_or 0 (map counts (range_with_len 0 (filled_in t.store v + 1))) l.marks
      (length-map-range_with_len counts 0 (filled_in t.store v + 1) ∙ ap (λ n. n + 1) (filled_is t.store v l listed) ∙ sym (table.store.lists v l listed).marks)
      (λ j inside.
      let below : j < filled_in t.store v + 1 = omega (arith, inside, length-map-range_with_len counts 0 (filled_in t.store v + 1)) in
      tab_get counts (filled_in t.store v + 1) j 0 below
      ∙ readers_is B bs t fills peak have v j x.0 l table x.1 listed (omega (arith, below, filled_is t.store v l listed))
      ∙ mark_is t.store v j l listed))

  -- there is room for one more cursor where there is for one more reader
  pub few_of : (s : Sound) (v : ℕ) → list_of s ≡ Some v → CanShare {B = B} (state_of bs t fills peak) s → (l : ListState) → list_at t.store v ≡ Some l → cursors_of l + 1 < 2 ^ 32
  few_of s v is room l listed = omega (arith, room, ap (λ (o : Option ℕ). option_map_or {U = ℕ} (readers_of {B = B} (state_of bs t fills peak)) o 0) is, readers_are v l listed)

  pub room_is : (s : Sound) (v n : ℕ) → list_of s ≡ Some v → IsThere t v → ((l : ListState) → list_at t.store v ≡ Some l → n ≡ cursors_of l) → IsTrue (nat_lt n (2 ^ 32 - 1)) ↔ CanShare {B = B} (state_of bs t fills peak) s
  room_is s v n is there counts =
      let e : option_map_or {U = ℕ} (readers_of {B = B} (state_of bs t fills peak)) (list_of s) 0 ≡ n =
      ap (λ (o : Option ℕ). option_map_or {U = ℕ} (readers_of {B = B} (state_of bs t fills peak)) o 0) is ∙ readers_are v there.list there.listed ∙ sym (counts there.list there.listed) in
      ((λ h. omega (arith, e, ltb-true n (2 ^ 32 - 1) h)), (λ h. lt-ltb n (2 ^ 32 - 1) (omega (arith, e, h))))

-- ---- a sound that is shared: its cursor c has another beside it

module _ (B : Type 0) (bs : ℕ → List B) (t new : Table) (fills peak : ℕ) (heap : IsHeap t) (s : Sound) (c : CursorState) (reads : s.reader ≡ Some c) (counted : IsCounted {B = B} (state_of bs t fills peak) s c.list)
    (shared : new ≡ record t { store = with_cursor t.store c }) (laws : StoreLaws new.store) where
  held : IsTable t (Some c ∷ [])
  held = IsTable-held B bs t [] fills peak heap.table s c reads counted

  pub share_heap : IsHeap new
  share_heap = subst IsHeap (sym shared) (IsHeap-shared t c held heap (IsTable-shared t c held (subst (λ (q : Table). StoreLaws q.store) shared laws)))

  pub share_is : (to : Sound) → to.reader ≡ Some c → state_of {B = B} bs new fills peak ≡ with_sound (state_of bs t fills peak) to
  share_is to again =
      subst (λ (q : Table). state_of {B = B} bs q fills peak ≡ with_sound (state_of bs t fills peak) to) (sym shared)
      (shared_heap B bs t c heap.table held fills peak to again (stand_within B bs t [] fills peak heap.table s c reads counted))

  pub share_keeps : KeepsMeaning {B = B} (state_of bs t fills peak) (state_of bs new fills peak)
  share_keeps = subst (λ (q : Table). KeepsMeaning {B = B} (state_of bs t fills peak) (state_of bs q fills peak)) (sym shared) (shared_keeps B bs t c heap.table held fills peak)
