-- What goes with the last cursor of a list.
use Rattle.std.proofs.Common.{◌≡◌, ◌≢◌, IsTrue, inl, inr, ℕ, zero, suc, ◌+◌, ◌-◌, ◌*◌, ◌<◌, ◌≤◌, min, Bool, true, false, List, [], ◌∷◌, ◌++◌, length, map, get_or, slice_get, set, Option, None, Some, IsSome, is_some, count_by, refl, sym, ap, subst, ◌∙◌, arith, length-set, cond, append-nil}
use Rattle.std.specs.List.{sum_by, range_with_len}
use Rattle.std.specs.Option.{option_map_or}
use Rattle.std.proofs.lemmas.List.{get_or-set_same, get_or-set_other, get_or_append_left, get_or-append_right}
use Rattle.std.proofs.lemmas.List.Sums.{sum_by-set}
use Rattle.std.proofs.lemmas.List.FromFn.{length-map-range_with_len}
use Rattle.std.proofs.lemmas.Bool.{cases_eq, cases_lt}
use Rattle.ny_list.specs.Store.{ListState, StoreState, CursorState, list_at, cursors_of}
use Rattle.ny_list.specs.Steps.{without_cursor}
use Rattle.ny_list.specs.Laws.{StoreLaws}
use Rattle.ny_list.proofs.IndexLemmas.{none_some, sum_at, tab_get}
use Rattle.ny_heap.specs.declared.table.Unit.{Unit as UnitData}
use Rattle.ny_heap.specs.declared.table.Table.{Table}
use Rattle.ny_heap.specs.declared.work.Work.{Work}
use Rattle.ny_heap.specs.Heap.{stands_in}
use Rattle.ny_heap.specs.Work.{cursor_at, inputs_in, without_cursor_at, kept_in, cursors_of_sounds}
use Rattle.ny_heap.specs.Table.{unit_at, own_in, own_of, held_in, mark_in, len_of, stands_at, rest_of, IsTable, IsUnit, IsInput, IsRead, Drops, Removes, IsThere, present}
use Rattle.ny_heap.proofs.TableLemmas.{place_within}
use Rattle.ny_heap.proofs.ListLemmas.{Relists, len_kept, mark_is, len_is, list_within, list_here, list_other, KeepsList-same, KeepsList-then}
use Rattle.ny_heap.proofs.RestLemmas.{own_rest, rest_more, rest_done, rest_without, same_count}
use Rattle.ny_heap.proofs.KeepLemmas.{HoldsCursor, cursor_kept, IsKept-to}
use Rattle.ny_heap.proofs.CountLemmas.{some_is, is_some_of, own_kept, held_one, holds_one, holds_list, held_cons, held_append, left_is, Relists-left, IsTable-left, IsTable-hand}

-- ---- what is there

pub there_of : (t : Table) (v : ℕ) (cs : List (Option CursorState)) → IsTable t cs → IsSome (list_at t.store v) → IsThere t v
there_of t v cs table some =
    let x = some_is (unit_at t v) (table.lists v some) in
    let u = table.units v x.0 x.1 in
    record { unit = x.0; there = x.1; list = u.0; listed = u.1; end = u.2.end; len = u.2.len }

-- ---- a unit is removed that nobody reads

module _ (t new : Table) (v : ℕ) (work : Work) (r : Removes t new v work) where
  unit_else : (w : ℕ) → w ≢ v → unit_at new w ≡ unit_at t w
  unit_else w ne = ap (λ xs. get_or xs w None) r.units ∙ get_or-set_other t.units.items v w None None ne

  unit_none : unit_at new v ≡ None
  unit_none = ap (λ xs. get_or xs v None) r.units ∙ get_or-set_same t.units.items v None None (place_within t.units.items v r.was r.there)

  unit_back : (w : ℕ) (y : UnitData) → unit_at new w ≡ Some y → (w ≢ v) × (unit_at t w ≡ Some y)
  unit_back w y is = elim (cases_eq w v) [
    | inl e ↦ absurd (none_some (sym unit_none ∙ sym (ap (unit_at new) e) ∙ is))
    | inr ne ↦ (ne, sym (unit_else w ne) ∙ is)
  ]

  module _ (l : ListState) (listed : list_at t.store v ≡ Some l) where
    list_else : (w : ℕ) → w ≢ v → list_at new.store w ≡ list_at t.store w
    list_else w ne = ap (λ s. list_at s w) r.store ∙ list_other t.store v w None ne

    list_none : list_at new.store v ≡ None
    list_none = ap (λ s. list_at s v) r.store ∙ list_here t.store v None (list_within t.store v l listed)

    list_back : (w : ℕ) (k : ListState) → list_at new.store w ≡ Some k → (w ≢ v) × (list_at t.store w ≡ Some k)
    list_back w k is = elim (cases_eq w v) [
      | inl e ↦ absurd (none_some (sym list_none ∙ sym (ap (list_at new.store) e) ∙ is))
      | inr ne ↦ (ne, sym (list_else w ne) ∙ is)
    ]

    same_len : (w : ℕ) → w ≢ v → len_of new.store w ≡ len_of t.store w
    same_len w ne = ap (λ (o : Option ListState). option_map_or {U = ℕ} (λ k. k.len) o 0) (list_else w ne)

    same_mark : (w j : ℕ) → w ≢ v → mark_in new.store w j ≡ mark_in t.store w j
    same_mark w j ne = ap (λ (o : Option ListState). option_map_or {U = ℕ} (λ k. get_or k.marks j 0) o 0) (list_else w ne)

    held_same : (cs : List (Option CursorState)) (w j : ℕ) → w ≢ v → held_in new cs w j ≡ held_in t cs w j
    held_same cs w j ne = ap (λ b. sum_by (stands_at b (len_of new.store w) w j) cs) r.block ∙ ap (λ n. sum_by (stands_at t.block n w j) cs) (same_len w ne)

    held_rest : (w j : ℕ) → w ≢ v → length r.was.inputs.items ≡ inputs_in r.was.work → held_in new (rest_of work 0) w j ≡ own_of t.block (len_of t.store w) w j r.was
    held_rest w j ne count =
        held_same (rest_of work 0) w j ne ∙ ap (λ k. sum_by (stands_at t.block (len_of t.store w) w j) (rest_of k 0)) (sym r.does)
        ∙ own_rest t.block (len_of t.store w) w j r.was count

    own_less : (w j : ℕ) → w ≢ v → own_in new w j + own_of t.block (len_of t.store w) w j r.was ≡ own_in t w j
    own_less w j ne =
        let f = λ (o : Option UnitData). option_map_or {U = ℕ} (own_of t.block (len_of t.store w) w j) o 0 in
        let same : own_in new w j ≡ sum_by f (set t.units.items v None) =
        ap (λ b. sum_by (λ (o : Option UnitData). option_map_or {U = ℕ} (own_of b (len_of new.store w) w j) o 0) new.units.items) r.block
        ∙ ap (λ n. sum_by (λ (o : Option UnitData). option_map_or {U = ℕ} (own_of t.block n w j) o 0) new.units.items) (same_len w ne)
        ∙ ap (sum_by f) r.units in
        let was : f (get_or t.units.items v None) ≡ own_of t.block (len_of t.store w) w j r.was = ap f r.there in
        omega (arith, same, was, sum_by-set f t.units.items v None None (place_within t.units.items v r.was r.there))

    present_less : present new + 1 ≡ present t
    present_less =
        let f = λ (o : Option UnitData). cond {A = ℕ} (is_some o) 1 0 in
        let was : f (get_or t.units.items v None) ≡ 1 = ap f r.there in
        omega (arith, ap (count_by is_some) r.units, was, sum_by-set f t.units.items v None None (place_within t.units.items v r.was r.there))

    -- nobody stands in the list
    no_mark : cursors_of l ≡ 0 → (j : ℕ) → mark_in t.store v j ≡ 0
    no_mark unread j = omega (arith, mark_is t.store v j l listed, sum_at l.marks j, unread)

    not_used : (cs : List (Option CursorState)) → IsTable t cs → cursors_of l ≡ 0 → (u : ℕ) (x : UnitData) (c : CursorState) → unit_at t u ≡ Some x → HoldsCursor x c → c.list ≢ v
    not_used cs table unread u x c there holds e =
        let j : ℕ = stands_in t.block (len_of t.store c.list) c.place in
        omega (arith, holds_one t u x c there holds, table.counted c.list j l (ap (list_at t.store) e ∙ listed), ap (λ w. mark_in t.store w j) e, no_mark unread j)

    not_held : (cs : List (Option CursorState)) → IsTable t cs → cursors_of l ≡ 0 → (i : ℕ) (c : CursorState) → get_or cs i None ≡ Some c → c.list ≢ v
    not_held cs table unread i c is e =
        let j : ℕ = stands_in t.block (len_of t.store c.list) c.place in
        omega (arith, held_one t cs i c is, table.counted c.list j l (ap (list_at t.store) e ∙ listed), ap (λ w. mark_in t.store w j) e, no_mark unread j)

    pub IsTable-removed : (cs : List (Option CursorState)) → IsTable t cs → cursors_of l ≡ 0 → IsTable new (rest_of work 0 ++ cs)
    IsTable-removed cs table unread = record {
      store = r.laws;
      block = ap (λ s. s.block) r.store ∙ table.block ∙ sym r.block;
      loose = ap (λ s. count_by is_some s.loose) r.store ∙ table.loose;
      units = λ w y is.
          let b = unit_back w y is in
          let u = table.units w y b.1 in
          (u.0, list_else w b.0 ∙ u.1, subst (λ n. IsUnit n w y u.0) refl (unit_same w y u.0 u.2));
      lists = λ w some. let k = some_is (list_at new.store w) some in let b = list_back w k.0 k.1 in let x = some_is (unit_at t w) (table.lists w (is_some_of _ k.0 b.1)) in is_some_of _ x.0 (unit_else w b.0 ∙ x.1);
      inputs = λ w i y k c is at_list inside at.
          let b = unit_back w y is in
          let kb = list_back w k at_list in
          let a = table.inputs w i y k c b.1 kb.1 inside at in
          (a.0, list_else c.list (not_used cs table unread w y c b.1 (inl (i, inside, at))) ∙ a.1, input_same y i c a.0 a.2);
      kept = λ w i y s is at.
          let b = unit_back w y is in
          IsKept-to t new s (λ c reads there. let ne = not_used cs table unread w y c b.1 (inr (i, s, at, reads)) in (subst (λ o. IsSome o) (sym (list_else c.list ne)) there, same_len c.list ne)) (table.kept w i y s b.1 at);
      held = λ i c is. elim (cases_lt i (length (rest_of work 0))) [
        | inl h ↦ held_first i c (sym (get_or_append_left (rest_of work 0) cs None i h) ∙ is)
        | inr past ↦ held_second (i - length (rest_of work 0)) c (sym (get_or-append_right (rest_of work 0) cs (length (rest_of work 0)) i None refl past) ∙ is)
      ];
      counted = λ w j k is.
          let b = list_back w k is in
          omega (
            arith,
            held_append new (rest_of work 0) cs w j,
            held_rest w j b.0 (table.units v r.was r.there).2.count,
            held_same cs w j b.0,
            own_less w j b.0,
            same_mark w j b.0,
            table.counted w j k b.1,
          );
      rank = table.rank;
      bound = table.bound;
      below = λ w y is. table.below w y (unit_back w y is).1;
      falls = λ w i y c is inside at. table.falls w i y c (unit_back w y is).1 inside at;
      keeps_lower = λ w i y s c is at reads. table.keeps_lower w i y s c (unit_back w y is).1 at reads;
    }
      where
        unit_same : (w : ℕ) (y : UnitData) (k : ListState) → IsUnit t w y k → IsUnit new w y k
        unit_same w y k u = record {
          end = u.end;
          len = u.len;
          some = u.some;
          early = u.early;
          count = u.count;
          sides = u.sides;
          begins = u.begins;
          brings = u.brings;
          hears = u.hears;
          given = subst (λ b. Rattle.ny_heap.specs.Work.HasGiven y.work y.timing.len (min (length k.values * b) y.timing.len)) (sym r.block) u.given;
          places = u.places;
          timings = u.timings;
        }

        input_same : (y : UnitData) (i : ℕ) (c : CursorState) (k : ListState) → IsInput t y i c k → IsInput new y i c k
        input_same y i c k u = record {
          starts = u.starts;
          sees = u.sees;
          visible = u.visible;
          computed = subst (λ b. c.place ≤ min (length k.values * b) k.len) (sym r.block) u.computed;
        }

        held_second : (i : ℕ) (c : CursorState) → get_or cs i None ≡ Some c → IsSome (list_at new.store c.list)
        held_second i c is = let k = some_is (list_at t.store c.list) (table.held i c is) in is_some_of _ k.0 (list_else c.list (not_held cs table unread i c is) ∙ k.1)

        reads : List (Option CursorState)
        reads = map (cursor_at work) (range_with_len 0 (inputs_in work - 0))

        was_reads : (i : ℕ) (c : CursorState) → get_or reads i None ≡ Some c → HoldsCursor r.was c
        was_reads i c is =
            let u = table.units v r.was r.there in
            let n : ℕ = inputs_in work - 0 in
            let inside : i < n = omega (arith, place_within reads i c is, length-map-range_with_len (cursor_at work) 0 n) in
            let count : length r.was.inputs.items ≡ inputs_in work = u.2.count ∙ ap inputs_in r.does in
            let within : i < length r.was.inputs.items = omega (arith, inside, count) in
            inl (i, within, ap (λ k. cursor_at k i) r.does ∙ sym (tab_get (cursor_at work) n i None inside) ∙ is)

        was_keeps : (i : ℕ) (c : CursorState) → get_or (cursors_of_sounds (kept_in work)) i None ≡ Some c → HoldsCursor r.was c
        was_keeps i c is = let s = cursor_kept (kept_in work) i c is in inr (i, s.0, ap (λ k. slice_get (kept_in k) i) r.does ∙ s.1, s.2)

        holds_still : (c : CursorState) → HoldsCursor r.was c → IsSome (list_at new.store c.list)
        holds_still c holds = subst (λ o. IsSome o) (sym (list_else c.list (not_used cs table unread v r.was c r.there holds))) (holds_list t cs v r.was c table r.there holds)

        held_first : (i : ℕ) (c : CursorState) → get_or (rest_of work 0) i None ≡ Some c → IsSome (list_at new.store c.list)
        held_first i c is = elim (cases_lt i (length reads)) [
          | inl h ↦ holds_still c (was_reads i c (sym (get_or_append_left reads (cursors_of_sounds (kept_in work)) None i h) ∙ is))
          | inr past ↦ holds_still c (was_keeps (i - length reads) c (sym (get_or-append_right reads (cursors_of_sounds (kept_in work)) (length reads) i None refl past) ∙ is))
        ]

-- ---- steps of a removal

-- a cursor left, and the list is still read
pub Drops-left : (t : Table) (c : CursorState) (s : StoreState) → IsTable t (Some c ∷ []) → s ≡ without_cursor t.store c → StoreLaws s
    → (IsRead t → IsRead (record t { store = s })) → Drops t (record t { store = s }) (Some c ∷ []) []
Drops-left t c s table e laws read = subst (λ z. StoreLaws z → (IsRead t → IsRead (record t { store = z })) → Drops t (record t { store = z }) (Some c ∷ []) []) (sym e) go laws read
  where
    z : StoreState
    z = without_cursor t.store c

    lists : Relists t.store z
    lists = Relists-left t c [] table

    go : StoreLaws z → (IsRead t → IsRead (record t { store = z })) → Drops t (record t { store = z }) (Some c ∷ []) []
    go laws read = record {
      table = λ cs whole. IsTable-left t c cs whole laws;
      read = read;
      fewer = omega arith;
      block = refl;
      pool = ap length lists.loose;
      slots = refl;
      kept = λ w y is. is;
      lists = λ w l is. lists.back w l is;
      others = λ w j l is.
          let same : len_of z w ≡ len_of t.store w = len_kept t.store z w l lists is in
          omega (arith, left_is t c [] w j table, held_cons t (Some c) [] w j, own_kept t z w j same);
      gone = λ w j k is none. absurd (none_some (sym none ∙ (lists.to w k is).1));
    }

-- and then nobody reads it, and its unit is removed
pub Drops-removed : (t mid new : Table) (c : CursorState) (work : Work) (l : ListState) → IsTable t (Some c ∷ []) → mid ≡ record t { store = without_cursor t.store c } → StoreLaws mid.store
    → Removes mid new c.list work → list_at mid.store c.list ≡ Some l → cursors_of l ≡ 0
    → ((w : ℕ) (k : ListState) → w ≢ c.list → IsRead t → list_at mid.store w ≡ Some k → 0 < cursors_of k)
    → Drops t new (Some c ∷ []) (rest_of work 0)
Drops-removed t mid new c work l table e laws r listed unread others = subst (λ m. (work : Work) → StoreLaws m.store → Removes m new c.list work → list_at m.store c.list ≡ Some l
    → ((w : ℕ) (k : ListState) → w ≢ c.list → IsRead t → list_at m.store w ≡ Some k → 0 < cursors_of k) → Drops t new (Some c ∷ []) (rest_of work 0)) (sym e) go work laws r listed others
  where
    z : StoreState
    z = without_cursor t.store c

    m : Table
    m = record t { store = z }

    lists : Relists t.store z
    lists = Relists-left t c [] table

    go : (work : Work) → StoreLaws z → Removes m new c.list work → list_at z c.list ≡ Some l
        → ((w : ℕ) (k : ListState) → w ≢ c.list → IsRead t → list_at z w ≡ Some k → 0 < cursors_of k) → Drops t new (Some c ∷ []) (rest_of work 0)
    go work laws r listed others = record {
      table = λ cs whole. IsTable-removed m new c.list work r l listed cs (IsTable-left t c cs whole laws) unread;
      read = λ read w k is. let b = list_back m new c.list work r l listed w k is in others w k b.0 read b.1;
      fewer = omega (arith, present_less m new c.list work r l listed);
      block = r.block;
      pool = ap (λ s. length s.loose) r.store ∙ ap length lists.loose;
      slots = ap length r.units ∙ length-set t.units.items c.list None;
      kept = λ w y is. (unit_back m new c.list work r w y is).1;
      lists = λ w k is. let b = list_back m new c.list work r l listed w k is in lists.back w k b.1;
      others = λ w j k is.
          let b = list_back m new c.list work r l listed w k is in
          let same : len_of z w ≡ len_of t.store w = len_kept t.store z w k lists b.1 in
          omega (
            arith,
            left_is t c [] w j table,
            held_cons t (Some c) [] w j,
            own_kept t z w j same,
            same_mark m new c.list work r l listed w j b.0,
            own_less m new c.list work r l listed w j b.0,
            held_rest m new c.list work r l listed w j b.0 ((IsTable-left t c [] table laws).units c.list r.was r.there).2.count,
          );
      gone = λ w j k is none. elim (cases_eq w c.list) [
        | inl same ↦ gone_here w j k same is
        | inr ne ↦ absurd (none_some (sym none ∙ list_else m new c.list work r l listed w ne ∙ (lists.to w k is).1))
      ];
    }
      where
        gone_here : (w j : ℕ) (k : ListState) → w ≡ c.list → list_at t.store w ≡ Some k → mark_in t.store w j ≡ own_in t w j + held_in t (Some c ∷ []) w j
        gone_here w j k same is =
            let n = lists.to w k is in
            let zero_left : mark_in z w j ≡ 0 = ap (λ v. mark_in z v j) same ∙ no_mark m new c.list work r l listed unread j in
            omega (arith, left_is t c [] w j table, held_cons t (Some c) [] w j, zero_left, table.counted w j k is)

-- ---- one step after another

IsTable-skip : (t : Table) (cs : List (Option CursorState)) → IsTable t (None ∷ cs) → IsTable t cs
IsTable-skip t cs table = IsTable-hand t (None ∷ cs) cs table (λ i c is. table.held (suc i) c is) (λ v j l is. omega (arith, held_cons t None cs v j))

-- an input that reads nothing
pub Drops-skip : (t b : Table) (spent rest : List (Option CursorState)) → Drops t b spent (None ∷ rest) → Drops t b spent rest
Drops-skip t b spent rest d = record {
  table = λ cs whole. IsTable-skip b (rest ++ cs) (d.table cs whole);
  read = d.read;
  fewer = d.fewer;
  block = d.block;
  pool = d.pool;
  slots = d.slots;
  kept = d.kept;
  lists = d.lists;
  others = λ w j l is. omega (arith, d.others w j l is, held_cons b None rest w j);
  gone = d.gone;
}

-- the first of what is in hand is spent
pub Drops-then : (t b e : Table) (o : Option CursorState) (spent rest : List (Option CursorState)) → IsTable b (o ∷ rest)
    → Drops t b spent (o ∷ rest) → Drops b e (o ∷ []) [] → Drops t e spent rest
Drops-then t b e o spent rest table d f = record {
  table = λ cs whole. f.table (rest ++ cs) (d.table cs whole);
  read = λ read. f.read (d.read read);
  fewer = omega (arith, d.fewer, f.fewer);
  block = f.block ∙ d.block;
  pool = f.pool ∙ d.pool;
  slots = f.slots ∙ d.slots;
  kept = λ w y is. d.kept w y (f.kept w y is);
  lists = λ w l is. let k = f.lists w l is in let h = d.lists w k.0 k.1 in (h.0, h.1, KeepsList-then h.0 k.0 l h.2 k.2);
  others = λ w j l is.
      let k = f.lists w l is in
      let len : len_of e.store w ≡ len_of b.store w = len_is e.store w l is ∙ k.2.len ∙ sym (len_is b.store w k.0 k.1) in
      let same : held_in e rest w j ≡ held_in b rest w j = ap (λ z. sum_by (stands_at z (len_of e.store w) w j) rest) f.block ∙ ap (λ n. sum_by (stands_at b.block n w j) rest) len in
      omega (arith, f.others w j l is, d.others w j k.0 k.1, held_cons b o rest w j, held_cons b o [] w j, same);
  gone = λ w j k is none. gone_in w j k is none (list_at b.store w) refl;
}
  where
    gone_in : (w j : ℕ) (k : ListState) → list_at t.store w ≡ Some k → list_at e.store w ≡ None → (p : Option ListState) → list_at b.store w ≡ p → mark_in t.store w j ≡ own_in t w j + held_in t spent w j
    gone_in w j k is none None mid = d.gone w j k is mid
    gone_in w j k is none (Some x) mid =
        omega (arith, f.gone w j x mid none, d.others w j x mid, table.counted w j x mid, held_cons b o rest w j, held_cons b o [] w j)

-- so of steps in general
pub Drops-chain : (t b e : Table) (spent mid left : List (Option CursorState)) → Drops t b spent mid → Drops b e mid left → Drops t e spent left
Drops-chain t b e spent mid left d f = record {
  table = λ cs whole. f.table cs (d.table cs whole);
  read = λ read. f.read (d.read read);
  fewer = omega (arith, d.fewer, f.fewer);
  block = f.block ∙ d.block;
  pool = f.pool ∙ d.pool;
  slots = f.slots ∙ d.slots;
  kept = λ w y is. d.kept w y (f.kept w y is);
  lists = λ w l is. let k = f.lists w l is in let h = d.lists w k.0 k.1 in (h.0, h.1, KeepsList-then h.0 k.0 l h.2 k.2);
  others = λ w j l is. let k = f.lists w l is in omega (arith, f.others w j l is, d.others w j k.0 k.1);
  gone = λ w j k is none. gone_in w j k is none (list_at b.store w) refl;
}
  where
    gone_in : (w j : ℕ) (k : ListState) → list_at t.store w ≡ Some k → list_at e.store w ≡ None → (p : Option ListState) → list_at b.store w ≡ p → mark_in t.store w j ≡ own_in t w j + held_in t spent w j
    gone_in w j k is none None at = d.gone w j k is at
    gone_in w j k is none (Some x) at = omega (arith, f.gone w j x at none, d.others w j x at)

-- ---- lists that are still read

pub left_other : (t : Table) (c : CursorState) (w : ℕ) → IsTable t (Some c ∷ []) → w ≢ c.list → list_at (without_cursor t.store c) w ≡ list_at t.store w
left_other t c w table ne =
    let l = some_is (list_at t.store c.list) (table.held 0 c refl) in
    ap (λ s. list_at s w) (Rattle.ny_heap.proofs.ListLemmas.without_is t.store c l.0 l.1) ∙ list_other t.store c.list w _ ne

pub left_list : (t : Table) (c : CursorState) → IsTable t (Some c ∷ []) → (l : ListState) × (list_at (without_cursor t.store c) c.list ≡ Some l)
left_list t c table = let l = some_is (list_at t.store c.list) (table.held 0 c refl) in let n = (Relists-left t c [] table).to c.list l.0 l.1 in (n.0, n.1)

pub others_read : (t : Table) (c : CursorState) (w : ℕ) (k : ListState) → IsTable t (Some c ∷ []) → w ≢ c.list → IsRead t → list_at (without_cursor t.store c) w ≡ Some k → 0 < cursors_of k
others_read t c w k table ne read is = read w k (sym (left_other t c w table ne) ∙ is)

pub read_still : (t : Table) (c : CursorState) (s : StoreState) → IsTable t (Some c ∷ []) → s ≡ without_cursor t.store c → ((l : ListState) → list_at s c.list ≡ Some l → 0 < cursors_of l) → IsRead t → IsRead (record t { store = s })
read_still t c s table e here read w k is = elim (cases_eq w c.list) [
  | inl same ↦ here k (sym (ap (list_at s) same) ∙ is)
  | inr ne ↦ others_read t c w k table ne read (sym (ap (λ z. list_at z w) e) ∙ is)
]

-- a test that fails
pub not_true : (b : Bool) → b ≡ true → b ≡ false → ⊥
not_true true t f = cc
not_true false t f = cc

pub unread_list : (n : ℕ) (b : Bool) → (0 < n → IsTrue b) → b ≡ false → n ≡ 0
unread_list n b from e = elim (cases_lt 0 n) [
  | inl some ↦ absurd (not_true b (from some) e)
  | inr none ↦ omega (arith, none)
]

pub left_there : (t : Table) (c : CursorState) (s : StoreState) (v : ℕ) → IsTable t (Some c ∷ []) → s ≡ without_cursor t.store c → StoreLaws s → v ≡ c.list → IsThere (record t { store = s }) v
left_there t c s v table e laws same = subst (λ z. StoreLaws z → IsThere (record t { store = z }) v) (sym e) (λ given. subst (IsThere (record t { store = without_cursor t.store c })) (sym same) (go given)) laws
  where
    go : StoreLaws (without_cursor t.store c) → IsThere (record t { store = without_cursor t.store c }) c.list
    go given = let l = left_list t c table in there_of (record t { store = without_cursor t.store c }) c.list [] (IsTable-left t c [] table given) (is_some_of _ l.0 l.1)

-- ---- the loop over what a removed unit read

-- what the unit of c read before input i is spent, and what it reads from there on is in hand
pub record Removing (t now : Table) (c : CursorState) (work : Work) (count i : ℕ) : Type 0 where
  pub drops : Drops t now (Some c ∷ []) (rest_of work i)
  pub less : present now < present t
  pub counts : count ≡ inputs_in work
  pub within : i ≤ count

pub Removing-begun : (t new : Table) (c : CursorState) (s : StoreState) (v count : ℕ) (work : Work) (b : Bool) → IsTable t (Some c ∷ []) → s ≡ without_cursor t.store c → StoreLaws s → v ≡ c.list
    → ((l : ListState) → list_at s v ≡ Some l → (IsTrue b → 0 < cursors_of l) × (0 < cursors_of l → IsTrue b)) → b ≡ false
    → Removes (record t { store = s }) new v work → count ≡ inputs_in work → Removing t new c work count 0
Removing-begun t new c s v count work b table e laws same test no_more r counts =
    let l = left_list t c table in
    let listed : list_at s c.list ≡ Some l.0 = ap (λ z. list_at z c.list) e ∙ l.1 in
    let at_v : list_at s v ≡ Some l.0 = ap (list_at s) same ∙ listed in
    let unread : cursors_of l.0 ≡ 0 = unread_list (cursors_of l.0) b (test l.0 at_v).1 no_more in
    let removes : Removes (record t { store = s }) new c.list work = subst (λ w. Removes (record t { store = s }) new w work) same r in
    record {
      drops =
          Drops-removed t (record t { store = s }) new c work l.0 table (ap (λ z. record t { store = z }) e) laws removes listed unread
          (λ w k ne read is. others_read t c w k table ne read (sym (ap (λ z. list_at z w) e) ∙ is));
      less = omega (arith, present_less (record t { store = s }) new c.list work removes l.0 listed);
      counts = counts;
      within = omega arith;
    }

pub IsTable-first : (t : Table) (o : Option CursorState) (cs : List (Option CursorState)) → IsTable t (o ∷ cs) → IsTable t (o ∷ [])
IsTable-first t o cs table = IsTable-hand t (o ∷ cs) (o ∷ []) table held (λ v j l is. omega (arith, held_cons t o cs v j, held_cons t o [] v j))
  where
    held : (i : ℕ) (c : CursorState) → get_or (o ∷ []) i None ≡ Some c → IsSome (list_at t.store c.list)
    held zero c is = table.held 0 c is
    held (suc i) c is = absurd (none_some is)

same_rest : (work : Work) (i : ℕ) (input : Option CursorState) → i < inputs_in work → input ≡ cursor_at work i → rest_of work i ≡ input ∷ rest_of work (i + 1)
same_rest work i input inside is = rest_more work i inside ∙ ap (λ o. o ∷ rest_of work (i + 1)) (sym is)

pub Removing-table : (t now : Table) (c : CursorState) (work : Work) (count i : ℕ) (input : Option CursorState) → IsTable t (Some c ∷ []) → Removing t now c work count i → i < count → input ≡ cursor_at work i → IsTable now (input ∷ rest_of work (i + 1))
Removing-table t now c work count i input table r inside is =
    subst (IsTable now) (append-nil (rest_of work i) ∙ same_rest work i input (omega (arith, inside, r.counts)) is) (r.drops.table [] table)

pub Removing-input : (t now : Table) (c : CursorState) (work : Work) (count i : ℕ) (input : CursorState) → IsTable t (Some c ∷ []) → Removing t now c work count i → i < count → Some input ≡ cursor_at work i → IsTable now (Some input ∷ [])
Removing-input t now c work count i input table r inside is = IsTable-first now (Some input) (rest_of work (i + 1)) (Removing-table t now c work count i (Some input) table r inside is)

pub Removing-more : (t now next : Table) (c : CursorState) (work after : Work) (count i : ℕ) (input : CursorState) → IsTable t (Some c ∷ []) → Removing t now c work count i → i < count → Some input ≡ cursor_at work i
    → after ≡ without_cursor_at work i → Drops now next (Some input ∷ []) [] → Removing t next c after count (i + 1)
Removing-more t now next c work after count i input table r inside is e d = record {
  drops =
      subst (Drops t next (Some c ∷ [])) (sym (rest_without work i) ∙ ap (λ w. rest_of w (i + 1)) (sym e))
      (Drops-then t now next (Some input) (Some c ∷ []) (rest_of work (i + 1)) (Removing-table t now c work count i (Some input) table r inside is)
      (subst (Drops t now (Some c ∷ [])) (same_rest work i (Some input) (omega (arith, inside, r.counts)) is) r.drops) d);
  less = omega (arith, r.less, d.fewer);
  counts = r.counts ∙ sym (same_count work i) ∙ ap inputs_in (sym e);
  within = omega (arith, inside);
}

pub Removing-none : (t now : Table) (c : CursorState) (work after : Work) (count i : ℕ) → Removing t now c work count i → i < count → None ≡ cursor_at work i → after ≡ without_cursor_at work i → Removing t now c after count (i + 1)
Removing-none t now c work after count i r inside is e = record {
  drops =
      subst (Drops t now (Some c ∷ [])) (sym (rest_without work i) ∙ ap (λ w. rest_of w (i + 1)) (sym e))
      (Drops-skip t now (Some c ∷ []) (rest_of work (i + 1)) (subst (Drops t now (Some c ∷ [])) (same_rest work i None (omega (arith, inside, r.counts)) is) r.drops));
  less = r.less;
  counts = r.counts ∙ sym (same_count work i) ∙ ap inputs_in (sym e);
  within = omega (arith, inside);
}

-- what it read is spent, and what its parts that wait keep is in hand
Removing-read : (t now : Table) (c : CursorState) (work : Work) (count i : ℕ) → Removing t now c work count i → count ≤ i → Drops t now (Some c ∷ []) (cursors_of_sounds (kept_in work))
Removing-read t now c work count i r past = subst (Drops t now (Some c ∷ [])) (rest_done work i (omega (arith, past, r.counts))) r.drops

pub Removing-kept : (t now : Table) (c : CursorState) (work : Work) (count i : ℕ) → IsTable t (Some c ∷ []) → Removing t now c work count i → count ≤ i → IsTable now (cursors_of_sounds (kept_in work))
Removing-kept t now c work count i table r past = subst (IsTable now) (append-nil (cursors_of_sounds (kept_in work))) ((Removing-read t now c work count i r past).table [] table)

pub Removing-done : (t now new : Table) (c : CursorState) (work : Work) (count i : ℕ) → Removing t now c work count i → count ≤ i → Drops now new (cursors_of_sounds (kept_in work)) [] → Drops t new (Some c ∷ []) []
Removing-done t now new c work count i r past d = Drops-chain t now new (Some c ∷ []) (cursors_of_sounds (kept_in work)) [] (Removing-read t now c work count i r past) d
