-- A cursor in hand that goes on, and the store then.
use Rattle.std.proofs.Common.{◌≡◌, ◌≢◌, inl, inr, ℕ, zero, suc, ◌+◌, ◌-◌, ◌*◌, ◌<◌, ◌≤◌, ◌&&◌, min, nat_eq, cond, List, ◌∷◌, length, get_or, set, Option, None, Some, IsSome, refl, sym, ap, subst, ◌∙◌, arith, length-set}
use Rattle.std.specs.Option.{option_map, option_map_or}
use Rattle.std.proofs.lemmas.List.{get_or-set_same, get_or-set_other}
use Rattle.std.proofs.lemmas.Bool.{cases_eq, eq-eqb, ne_eqb}
use Rattle.ny_list.specs.Store.{ListState, StoreState, CursorState, list_at, cursors_of, least}
use Rattle.ny_list.specs.Steps.{settled, entered, left, with_list, with_move}
use Rattle.ny_list.specs.Laws.{StoreLaws}
use Rattle.ny_list.proofs.IndexLemmas.{same_some, sum_at}
use Rattle.ny_heap.specs.declared.table.Table.{Table}
use Rattle.ny_heap.specs.Heap.{stands_in}
use Rattle.ny_heap.proofs.NeedLemmas.{stands_within}
use Rattle.ny_heap.specs.Table.{mark_in, len_of, stands_at, computed_in, IsTable, IsRead}
use Rattle.ny_heap.proofs.ListLemmas.{list_within, list_here, list_other, blank_len, blank_kept, Relists, Relists-one, marks_left, mark_is, len_is}
use Rattle.ny_heap.proofs.CountLemmas.{some_is, is_some_of, cursor_counted, held_cons, IsTable-relisted}

-- ---- marks

-- a mark more in one place
pub marks_entered : (marks : List ℕ) (m j : ℕ) → m < length marks → get_or (set marks m (get_or marks m 0 + 1)) j 0 ≡ get_or marks j 0 + cond (nat_eq m j) 1 0
marks_entered marks m j within = elim (cases_eq m j) [
  | inl e ↦ omega (arith, ap (λ b. cond {A = ℕ} b 1 0) (eq-eqb m j e), ap (λ i. get_or (set marks m (get_or marks m 0 + 1)) i 0) e, ap (λ i. get_or marks i 0) e, get_or-set_same marks m (get_or marks m 0 + 1) 0 within)
  | inr ne ↦ omega (arith, ap (λ b. cond {A = ℕ} b 1 0) (ne_eqb m j ne), get_or-set_other marks m j (get_or marks m 0 + 1) 0 (λ e. ne (sym e)))
]

-- what a cursor counts in a block of its list, and of another
pub stands_of : (block n len v j : ℕ) (b : CursorState) → b.list ≡ v → n ≡ len → stands_at block n v j (Some b) ≡ cond (nat_eq (stands_in block len b.place) j) 1 0
stands_of block n len v j b same e =
    ap (λ p. cond {A = ℕ} (p && nat_eq (stands_in block n b.place) j) 1 0) (eq-eqb b.list v same)
    ∙ ap (λ m. cond {A = ℕ} (nat_eq (stands_in block m b.place) j) 1 0) e

pub stands_apart : (block n v j : ℕ) (b : CursorState) → b.list ≢ v → stands_at block n v j (Some b) ≡ 0
stands_apart block n v j b ne = ap (λ p. cond {A = ℕ} (p && nat_eq (stands_in block n b.place) j) 1 0) (ne_eqb b.list v ne)

-- ---- the store, once the cursor stands elsewhere

-- c goes on to where d stands, in list x
module _ (s : StoreState) (c d : CursorState) (same : d.list ≡ c.list) (x : ListState) (is : list_at s c.list ≡ Some x) where
  abbrev pub from_block : ℕ
  from_block = stands_in s.block x.len c.place

  abbrev pub to_block : ℕ
  to_block = stands_in s.block x.len d.place

  abbrev pub list_now : ListState
  list_now = settled (entered to_block (left from_block x))

  move_is : with_move s c d.place ≡ with_list s c.list (Some list_now)
  move_is = ap (λ o. with_list s c.list (option_map (λ (y : ListState). settled (entered (stands_in s.block y.len d.place) (left (stands_in s.block y.len c.place) y))) o)) is

  pub move_here : list_at (with_move s c d.place) c.list ≡ Some list_now
  move_here = ap (λ r. list_at r c.list) move_is ∙ list_here s c.list (Some list_now) (list_within s c.list x is)

  pub move_other : (v : ℕ) → v ≢ c.list → list_at (with_move s c d.place) v ≡ list_at s v
  move_other v ne = ap (λ r. list_at r v) move_is ∙ list_other s c.list v (Some list_now) ne

  pub Relists-moved : Relists s (with_move s c d.place)
  Relists-moved = subst (Relists s) (sym move_is) (Relists-one s c.list x list_now is (record {
    len = refl;
    filled = blank_len (least (entered to_block (left from_block x)).marks) x.values;
    kept = blank_kept (least (entered to_block (left from_block x)).marks) x.values;
  }))

  module _ (marked : 0 < get_or x.marks from_block 0) (within : to_block < length x.marks) where
    -- it takes its mark along
    mark_moved : (v j : ℕ) → mark_in (with_move s c d.place) v j + stands_at s.block (len_of s v) v j (Some c) ≡ mark_in s v j + stands_at s.block (len_of s v) v j (Some d)
    mark_moved v j = elim (cases_eq c.list v) [
      | inl e ↦
          omega (
            arith,
            ap (λ w. mark_in (with_move s c d.place) w j) (sym e),
            mark_is (with_move s c d.place) c.list j list_now move_here,
            ap (λ w. mark_in s w j) (sym e),
            mark_is s c.list j x is,
            stands_of s.block (len_of s v) x.len v j c e (ap (len_of s) (sym e) ∙ len_is s c.list x is),
            stands_of s.block (len_of s v) x.len v j d (same ∙ e) (ap (len_of s) (sym e) ∙ len_is s c.list x is),
            marks_left x.marks from_block j marked,
            marks_entered (set x.marks from_block (get_or x.marks from_block 0 - 1)) to_block j (omega (arith, within, length-set x.marks from_block (get_or x.marks from_block 0 - 1))),
          )
      | inr ne ↦
          omega (
            arith,
            ap (λ (o : Option ListState). option_map_or {U = ℕ} (λ l. get_or l.marks j 0) o 0) (move_other v (λ e. ne (sym e))),
            stands_apart s.block (len_of s v) v j c ne,
            stands_apart s.block (len_of s v) v j d (λ e. ne (sym same ∙ e)),
          )
    ]

    -- and its list is read
    now_read : 0 < cursors_of list_now
    now_read =
        omega (
          arith,
          sum_at list_now.marks to_block,
          marks_entered (set x.marks from_block (get_or x.marks from_block 0 - 1)) to_block to_block (omega (arith, within, length-set x.marks from_block (get_or x.marks from_block 0 - 1))),
          ap (λ b. cond {A = ℕ} b 1 0) (eq-eqb to_block to_block refl),
        )

-- ---- the table

module _ (t : Table) (c d : CursorState) (cs : List (Option CursorState)) (table : IsTable t (Some c ∷ cs)) (same : d.list ≡ c.list) (computed : d.place ≤ computed_in t c.list) where
  abbrev pub store_now : StoreState
  store_now = with_move t.store c d.place

  abbrev pub table_now : Table
  table_now = record t { store = store_now }

  pub its_list : (l : ListState) × (list_at t.store c.list ≡ Some l)
  its_list = some_is (list_at t.store c.list) (table.held 0 c refl)

  its_mark : 0 < get_or its_list.0.marks (stands_in t.store.block its_list.0.len c.place) 0
  its_mark = subst (λ n. 0 < n) (ap (λ (o : Option ListState). option_map_or {U = ℕ} (λ x. get_or x.marks (stands_in t.store.block x.len c.place) 0) o 0) its_list.1) (cursor_counted t c cs table)

  pub its_place : d.place ≤ min (length its_list.0.values * t.store.block) its_list.0.len
  its_place =
      omega (arith, computed, ap (λ (o : Option ListState). option_map_or {U = ℕ} (λ l. min (length l.values * t.block) l.len) o 0) its_list.1, ap (λ b. min (length its_list.0.values * b) its_list.0.len) table.block)

  its_block : stands_in t.store.block its_list.0.len d.place < length its_list.0.marks
  its_block = omega (arith, (table.store.lists c.list its_list.0 its_list.1).marks, stands_within t.store.block its_list.0.len d.place (length its_list.0.values) table.store.some its_place)

  pub lists_now : Relists t.store store_now
  lists_now = Relists-moved t.store c d same its_list.0 its_list.1

  -- one cursor fewer where it stood, and one more where it stands
  pub marks_now : (v j : ℕ) → mark_in store_now v j + stands_at t.block (len_of t.store v) v j (Some c) ≡ mark_in t.store v j + stands_at t.block (len_of t.store v) v j (Some d)
  marks_now v j =
      subst (λ b. mark_in store_now v j + stands_at b (len_of t.store v) v j (Some c) ≡ mark_in t.store v j + stands_at b (len_of t.store v) v j (Some d)) table.block
      (mark_moved t.store c d same its_list.0 its_list.1 its_mark its_block v j)

  pub IsTable-moved : StoreLaws store_now → IsTable table_now (Some d ∷ cs)
  IsTable-moved laws =
      IsTable-relisted t store_now (Some c ∷ cs) (Some d ∷ cs) table lists_now laws there
      (λ v j l is. omega (arith, table.counted v j l is, marks_now v j, held_cons t (Some c) cs v j, held_cons t (Some d) cs v j))
    where
      there : (i : ℕ) (b : CursorState) → get_or (Some d ∷ cs) i None ≡ Some b → IsSome (list_at t.store b.list)
      there zero b is = is_some_of _ its_list.0 (ap (list_at t.store) (sym (ap (λ (k : CursorState). k.list) (same_some is)) ∙ same) ∙ its_list.1)
      there (suc i) b is = table.held (suc i) b is

  pub IsRead-moved : IsRead t → IsRead table_now
  IsRead-moved read v l is = elim (cases_eq v c.list) [
    | inl e ↦
        subst (λ k. 0 < cursors_of k)
        (same_some (sym (move_here t.store c d same its_list.0 its_list.1) ∙ sym (ap (list_at store_now) e) ∙ is))
        (now_read t.store c d same its_list.0 its_list.1 its_mark its_block)
    | inr ne ↦ read v l (sym (move_other t.store c d same its_list.0 its_list.1 v ne) ∙ is)
  ]
