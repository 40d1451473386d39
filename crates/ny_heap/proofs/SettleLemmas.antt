-- The inputs of a unit that has one block more move on, one after another.
use Rattle.std.proofs.Common.{◌≡◌, ◌≢◌, ◌⊎◌, inl, inr, ℕ, zero, suc, ◌+◌, ◌*◌, ◌<◌, ◌≤◌, min, Bool, true, false, cond, [], ◌∷◌, length, get_or, set, Option, None, Some, refl, sym, ap, subst, ◌∙◌, arith, length-set}
use Rattle.std.specs.Option.{option_map, option_map_or}
use Rattle.std.proofs.lemmas.List.{set-set}
use Rattle.ny_list.specs.Store.{ListState, StoreState, CursorState, list_at, mark_at}
use Rattle.ny_list.specs.Steps.{with_move, IsComputed}
use Rattle.ny_list.specs.Laws.{StoreLaws}
use Rattle.ny_list.proofs.IndexLemmas.{same_some, none_some}
use Rattle.ny_units.specs.Inputs.{reader_of, taken_of, with_reader, IsReader}
use Rattle.ny_units.specs.declared.input.Source.{Source}
use Rattle.ny_heap.specs.declared.table.Unit.{Unit as UnitData}
use Rattle.ny_heap.specs.declared.table.Table.{Table}
use Rattle.ny_heap.specs.Heap.{Reader, taken_after}
use Rattle.ny_heap.specs.Work.{kind_of, inputs_in, source_at, with_source, cursor_at, without_cursor_at, with_cursor_at}
use Rattle.ny_heap.specs.Table.{unit_at, timing_at, input_of, own_in, mark_in, len_of, stands_at, computed_in, IsTable, IsUnit, IsInput, IsRead, KeepsList, Drops}
use Rattle.ny_heap.specs.View.{filled_in}
use Rattle.ny_heap.specs.Filling.{Reworks, HasInput, moved_in, Settling, Settles}
use Rattle.ny_heap.proofs.RestLemmas.{same_count}
use Rattle.ny_heap.proofs.ListLemmas.{Relists, len_kept}
use Rattle.ny_heap.proofs.CountLemmas.{some_is, cursor_counted}
use Rattle.ny_heap.proofs.KeepLemmas.{filled_is, waits_wired}
use Rattle.ny_heap.proofs.HeardLemmas.{lists_now, marks_now, IsRead-moved}
use Rattle.ny_heap.proofs.InputLemmas.{Like, like_taken, like_put, reader_put, reader_taken, reads_taken, source_here, reads_source, SameWork, same_work, cursor_here, cursor_other, reads_same, owns_rewired, put_back}
use Rattle.ny_heap.proofs.NextLemmas.{now_computed}
use Rattle.ny_heap.proofs.PassLemmas.{unit_here, unit_else, IsTable-rewired, empty, IsTable-taken, IsRead-taken, own_taken, taken_below, taken_falls, taken_keeps, taken_unit, taken_else, its_input, its_rank, stays}

-- ---- one input has moved on

module _ (t new : Table) (u i : ℕ) (x : UnitData) (src : Source) (s : Settling t u i) (at : unit_at t u ≡ Some x) (inside : i < inputs_in x.work) (like : Like (source_at x.work i) src)
    (table : IsTable new []) (there : unit_at new u ≡ Some (record x { work = with_source x.work i src })) (block : new.block ≡ t.block)
    (lists : (w : ℕ) (l : ListState) → list_at new.store w ≡ Some l → (k : ListState) × (list_at t.store w ≡ Some k) × KeepsList k l) where
  abbrev x_now : UnitData
  x_now = record x { work = with_source x.work i src }

  same_x : s.unit ≡ x
  same_x = same_some (sym s.there ∙ at)

  count : length x.inputs.items ≡ inputs_in x.work
  count = (s.table.units u x at).2.count

  same : SameWork x.work (with_source x.work i src) x.timing x.inputs.items
  same = same_work x.work i src x.timing x.inputs.items inside like

  list_new : (l : ListState) × (list_at new.store u ≡ Some l) × IsUnit new u x_now l
  list_new = table.units u x_now there

  filled_same : filled_in new.store u ≡ filled_in t.store u
  filled_same = let b = lists u list_new.0 list_new.1 in filled_is new.store u list_new.0 list_new.1 ∙ b.2.filled ∙ sym (filled_is t.store u b.0 b.1)

  was : (k : ℕ) (c : CursorState) → i + 1 ≤ k → k < length x.inputs.items → cursor_at x_now.work k ≡ Some c → cursor_at x.work k ≡ Some c
  was k c from within cursor = sym (cursor_other x.work i src inside like k (omega (arith, within, count)) (λ e. omega (arith, from, e))) ∙ cursor

  taken_same : (k n : ℕ) → taken_after new.block (kind_of x_now.work) x.timing (timing_at x k) n ≡ taken_after t.block (kind_of x.work) x.timing (timing_at x k) n
  taken_same k n = λ j. taken_after (block j) (same.kind j) x.timing (timing_at x k) n

  places_x : (k : ℕ) (c : CursorState) → i ≤ k → k < length x.inputs.items → cursor_at x.work k ≡ Some c → c.place ≡ taken_after t.block (kind_of x.work) x.timing (timing_at x k) s.before
  places_x = subst (λ (y : UnitData). (k : ℕ) (c : CursorState) → i ≤ k → k < length y.inputs.items → cursor_at y.work k ≡ Some c → c.place ≡ taken_after t.block (kind_of y.work) y.timing (timing_at y k) s.before) same_x s.places

  computed_x : (k : ℕ) (c : CursorState) → i ≤ k → k < length x.inputs.items → cursor_at x.work k ≡ Some c → taken_after t.block (kind_of x.work) x.timing (timing_at x k) (s.before + 1) ≤ computed_in t c.list
  computed_x = subst (λ (y : UnitData). (k : ℕ) (c : CursorState) → i ≤ k → k < length y.inputs.items → cursor_at y.work k ≡ Some c → taken_after t.block (kind_of y.work) y.timing (timing_at y k) (s.before + 1) ≤ computed_in t c.list) same_x s.computed

  computed_same : (v : ℕ) (l : ListState) → list_at new.store v ≡ Some l → computed_in new v ≡ computed_in t v
  computed_same v l is =
      let b = lists v l is in
      ap (λ (o : Option ListState). option_map_or {U = ℕ} (λ k. min (length k.values * new.block) k.len) o 0) is
      ∙ (λ j. min (b.2.filled j * block j) (b.2.len j))
      ∙ sym (ap (λ (o : Option ListState). option_map_or {U = ℕ} (λ k. min (length k.values * t.block) k.len) o 0) b.1)

  pub Settling-next : IsRead new → Settling new u (i + 1)
  Settling-next read = record {
    table = table;
    read = read;
    unit = x_now;
    there = there;
    before = s.before;
    filled = filled_same ∙ s.filled;
    places = λ k c from within cursor. places_x k c (omega (arith, from)) within (was k c from within cursor) ∙ sym (taken_same k s.before);
    computed = λ k c from within cursor.
        let a = table.inputs u k x_now list_new.0 c there list_new.1 within cursor in
        omega (arith, computed_x k c (omega (arith, from)) within (was k c from within cursor), taken_same k (s.before + 1), computed_same c.list a.0 a.1);
  }

  -- what is left of a unit is its part of all that was settled
  module _ (input : input_of x_now i ≡ moved_in t.block x (filled_in t.store u) (input_of x i)) where
    pub inside_next : (k : ℕ) → i ≤ k → k < i + 1 → k < length x.inputs.items → input_of x_now k ≡ moved_in t.block x (filled_in t.store u) (input_of x k)
    inside_next k from to within = let e : i ≡ k = omega (arith, from, to) in subst (λ j. input_of x_now j ≡ moved_in t.block x (filled_in t.store u) (input_of x j)) e input

    pub outside_next : (k : ℕ) → (k < i) ⊎ (i + 1 ≤ k) → k < length x.inputs.items → cursor_at x_now.work k ≡ cursor_at x.work k
    outside_next k (inl before) within = cursor_other x.work i src inside like k (omega (arith, within, count)) (λ e. omega (arith, before, e))
    outside_next k (inr after) within = cursor_other x.work i src inside like k (omega (arith, within, count)) (λ e. omega (arith, after, e))

    pub Settles-next : length new.store.loose ≡ length t.store.loose → length new.units.items ≡ length t.units.items → ((w : ℕ) (y : UnitData) → w ≢ u → unit_at new w ≡ Some y → unit_at t w ≡ Some y)
        → ((w j : ℕ) (l : ListState) → list_at new.store w ≡ Some l → mark_in new.store w j + own_in t w j ≡ mark_in t.store w j + own_in new w j)
        → ((w j : ℕ) (k : ListState) → list_at t.store w ≡ Some k → list_at new.store w ≡ None → mark_in t.store w j ≡ own_in t w j) → Settles t new u i (i + 1)
    Settles-next pool slots others marks gone = record {
      was = x;
      there = at;
      now = x_now;
      after = there;
      is = refl;
      kind = same.kind;
      memory = same.memory;
      inside = inside_next;
      outside = outside_next;
      sources = λ k within is. reads_same x.work i src inside like k (omega (arith, within, count)) is;
      waits = inl (waits_wired x.work i src);
      block = block;
      pool = pool;
      slots = slots;
      others = others;
      lists = lists;
      marks = marks;
      gone = gone;
    }

-- ---- it is dropped

module _ (t mid : Table) (u i : ℕ) (x : UnitData) (c : CursorState) (s : Settling t u i) (at : unit_at t u ≡ Some x) (inside : i < inputs_in x.work) (reads : cursor_at x.work i ≡ Some c)
    (took : Reworks t mid u x (without_cursor_at x.work i)) where
  pub taken : IsTable mid (Some c ∷ [])
  taken = IsTable-taken t mid u i x c s.table at inside reads took

  pub taken_unit_is : unit_at mid u ≡ Some (record x { work = without_cursor_at x.work i })
  taken_unit_is = taken_unit t mid u i x c s.table at inside reads took

  -- it is still a reader
  pub taken_has : (r : StoreState) → HasInput (record mid { store = r }) u i
  taken_has r = record {
    unit = record x { work = without_cursor_at x.work i };
    there = taken_unit t mid u i x c s.table at inside reads took;
    inside = subst (λ n. i < n) (sym (same_count x.work i)) inside;
  }

  pub taken_reads : (y : UnitData) → unit_at mid u ≡ Some y → IsReader (source_at y.work i)
  taken_reads y is =
      subst (λ (z : UnitData). IsReader (source_at z.work i)) (same_some (sym (taken_unit t mid u i x c s.table at inside reads took) ∙ is))
      (subst IsReader (sym (source_here x.work i (taken_of (source_at x.work i)) inside (like_taken (source_at x.work i)))) (reads_taken (source_at x.work i) (reads_source (source_at x.work i) c reads)))

  module _ (new : Table) (drops : Drops mid new (Some c ∷ []) []) where
    dropped_table : IsTable new []
    dropped_table = drops.table [] taken

    dropped_lower : (k : ℕ) (d : CursorState) → get_or (Some c ∷ []) k None ≡ Some d → s.table.rank d.list < s.table.rank u
    dropped_lower zero d is = subst (λ (q : CursorState). s.table.rank q.list < s.table.rank u) (same_some is) (its_rank t mid u i x c s.table at inside reads took)
    dropped_lower (suc zero) d is = absurd (none_some is)
    dropped_lower (suc (suc k)) d is = absurd (none_some is)

    still_there : unit_at new u ≡ Some (record x { work = without_cursor_at x.work i })
    still_there =
        let y = some_is (unit_at new u) (stays mid new (Some c ∷ []) taken (IsRead-taken t mid u i x c s.table at inside reads took s.read) drops s.table.rank s.table.bound (s.table.rank u) dropped_lower
        (taken_below t mid u i x c s.table at inside reads took) (taken_falls t mid u i x c s.table at inside reads took) (taken_keeps t mid u i x c s.table at inside reads took)
        s.table.bound u (record x { work = without_cursor_at x.work i }) (taken_unit t mid u i x c s.table at inside reads took) (omega arith) (omega arith)) in
        y.1 ∙ ap Some (same_some (sym (drops.kept u y.0 y.1) ∙ taken_unit t mid u i x c s.table at inside reads took))

    dropped_lists : (w : ℕ) (l : ListState) → list_at new.store w ≡ Some l → (k : ListState) × (list_at t.store w ≡ Some k) × KeepsList k l
    dropped_lists w l is = let d = drops.lists w l is in (d.0, ap (λ r. list_at r w) (sym took.store) ∙ d.1, d.2)

    pub dropped_settling : Settling new u (i + 1)
    dropped_settling =
        Settling-next t new u i x (empty t mid u i x c s.table at inside reads took) s at inside (like_taken (source_at x.work i)) dropped_table still_there (drops.block ∙ took.block) dropped_lists
        (drops.read (IsRead-taken t mid u i x c s.table at inside reads took s.read))

    pub dropped_settles : moved_in t.block x (filled_in t.store u) (input_of x i) ≡ None → Settles t new u i (i + 1)
    dropped_settles gone =
        Settles-next t new u i x (empty t mid u i x c s.table at inside reads took) s at inside (like_taken (source_at x.work i)) dropped_table still_there (drops.block ∙ took.block) dropped_lists
        (ap (option_map {U = Reader} (λ d. record { node = d.list; place = d.place; timing = timing_at x i })) (cursor_here x.work i (empty t mid u i x c s.table at inside reads took) inside (like_taken (source_at x.work i)) ∙ reader_taken (source_at x.work i)) ∙ sym gone)
        (drops.pool ∙ ap (λ r. length r.loose) took.store)
        (drops.slots ∙ ap length took.units ∙ length-set t.units.items u (Some (record x { work = without_cursor_at x.work i })))
        (λ w y ne is. sym (taken_else t mid u i x c s.table at inside reads took w ne) ∙ drops.kept w y is)
        (λ w j l is. omega (arith, drops.others w j l is, own_taken t mid u i x c s.table at inside reads took w j, ap (λ r. mark_in r w j) took.store))
        (λ w j k is none. omega (arith, drops.gone w j k (ap (λ r. list_at r w) took.store ∙ is) none, own_taken t mid u i x c s.table at inside reads took w j, ap (λ r. mark_in r w j) took.store))

  -- ---- it passes some samples

  module _ (n : ℕ) (next : moved_in t.block x (filled_in t.store u) (input_of x i) ≡ Some (record { node = c.list; place = c.place + n; timing = timing_at x i })) where
    abbrev gone_on : CursorState
    gone_on = record c { place = c.place + n }

    moved_place : (b : Bool) (q p : Reader) → cond b (Some q) None ≡ Some p → q.place ≡ p.place
    moved_place true q p is = ap (λ (r : Reader). r.place) (same_some is)
    moved_place false q p is = absurd (none_some is)

    far : c.place + n ≤ computed_in t c.list
    far =
        omega (
          arith,
          now_computed t u i s x at inside c reads,
          moved_place _ _ _ (sym (ap (λ (o : Option CursorState). moved_in t.block x (filled_in t.store u) (option_map {U = Reader} (λ d. record { node = d.list; place = d.place; timing = timing_at x i }) o)) reads) ∙ next),
        )

    far_mid : c.place + n ≤ computed_in mid c.list
    far_mid = omega (arith, far, ap (λ r. option_map_or {U = ℕ} (λ l. min (length l.values * mid.block) l.len) (list_at r c.list) 0) took.store, ap (λ b. option_map_or {U = ℕ} (λ l. min (length l.values * b) l.len) (list_at t.store c.list) 0) took.block)

    pub advance_stands : 0 < mark_at mid.store c
    advance_stands = cursor_counted mid c [] taken

    pub advance_computed : IsComputed mid.store c n
    advance_computed =
        let l = some_is (list_at mid.store c.list) (taken.held 0 c refl) in
        record {
          list = l.0;
          there = l.1;
          computed = omega (arith, far_mid, ap (λ (o : Option ListState). option_map_or {U = ℕ} (λ k. min (length k.values * mid.block) k.len) o 0) l.1, ap (λ b. min (length l.0.values * b) l.0.len) taken.block);
        }

    module _ (new : Table) (store : StoreState) (d : CursorState) (moved : store ≡ with_move mid.store c (c.place + n)) (laws : StoreLaws store) (passed : d ≡ gone_on)
        (put : Reworks (record mid { store = store }) new u (record x { work = without_cursor_at x.work i }) (with_cursor_at (without_cursor_at x.work i) i d)) where
      abbrev back : Source
      back = with_reader (source_at x.work i) d

      back_reads : reader_of back ≡ Some d
      back_reads = reader_put (source_at x.work i) d (reads_source (source_at x.work i) c reads)

      store_is : new.store ≡ with_move mid.store c (c.place + n)
      store_is = put.store ∙ moved

      units_is : new.units.items ≡ set t.units.items u (Some (record x { work = with_source x.work i back }))
      units_is =
          put.units
          ∙ ap (λ xs. set xs u (Some (record x { work = with_cursor_at (without_cursor_at x.work i) i d }))) took.units
          ∙ set-set t.units.items u (Some (record x { work = without_cursor_at x.work i })) (Some (record x { work = with_cursor_at (without_cursor_at x.work i) i d }))
          ∙ ap (λ w. set t.units.items u (Some (record x { work = w }))) (put_back x.work i d inside)

      block_is : new.block ≡ t.block
      block_is = put.block ∙ took.block

      lists_is : Relists t.store new.store
      lists_is = subst (λ r. Relists t.store r) (sym store_is) (subst (λ r. Relists r (with_move mid.store c (c.place + n))) took.store (lists_now mid c gone_on [] taken refl far_mid))

      marks_is : (v j : ℕ) → mark_in new.store v j + stands_at t.block (len_of t.store v) v j (Some c) ≡ mark_in t.store v j + stands_at t.block (len_of t.store v) v j (Some d)
      marks_is v j =
          (λ k. mark_in (store_is k) v j + stands_at (sym took.block k) (len_of (sym took.store k) v) v j (Some c)) ∙ marks_now mid c gone_on [] taken refl far_mid v j
          ∙ (λ k. mark_in (took.store k) v j + stands_at (took.block k) (len_of (took.store k) v) v j (Some (sym passed k)))

      put_input : (e : CursorState) → reader_of back ≡ Some e → (l : ListState) × (list_at t.store e.list ≡ Some l) × IsInput t x i e l × (s.table.rank e.list < s.table.rank u)
      put_input e is = subst (λ (q : CursorState). (l : ListState) × (list_at t.store q.list ≡ Some l) × IsInput t x i q l × (s.table.rank q.list < s.table.rank u)) (sym passed ∙ same_some (sym back_reads ∙ is)) here
        where
          here : (l : ListState) × (list_at t.store c.list ≡ Some l) × IsInput t x i gone_on l × (s.table.rank c.list < s.table.rank u)
          here =
              let a = its_input t mid u i x c s.table at inside reads took in (
                a.0,
                a.1,
                record {
                  starts = a.2.starts;
                  sees = a.2.sees;
                  visible = a.2.visible;
                  computed = omega (arith, far, ap (λ (o : Option ListState). option_map_or {U = ℕ} (λ l. min (length l.values * t.block) l.len) o 0) a.1);
                },
                its_rank t mid u i x c s.table at inside reads took,
              )

      passed_table : IsTable new []
      passed_table =
          IsTable-rewired t new u i x back at inside (like_put (source_at x.work i) d) units_is block_is [] [] s.table lists_is put_input (subst StoreLaws (sym put.store) laws)
          (λ k e is. absurd (none_some is))
          (λ v j l is. omega (
            arith,
            s.table.counted v j l is,
            marks_is v j,
            ap (stands_at t.block (len_of t.store v) v j) back_reads,
            ap (stands_at t.block (len_of t.store v) v j) reads,
          ))

      passed_unit : unit_at new u ≡ Some (record x { work = with_source x.work i back })
      passed_unit = unit_here t new u i x back at inside (like_put (source_at x.work i) d) units_is block_is

      pub passed_settling : Settling new u (i + 1)
      passed_settling =
          Settling-next t new u i x back s at inside (like_put (source_at x.work i) d) passed_table passed_unit block_is lists_is.back
          (λ v l is. IsRead-moved mid c gone_on [] taken refl far_mid (IsRead-taken t mid u i x c s.table at inside reads took s.read) v l (ap (λ r. list_at r v) (sym store_is) ∙ is))

      pub passed_settles : Settles t new u i (i + 1)
      passed_settles =
          Settles-next t new u i x back s at inside (like_put (source_at x.work i) d) passed_table passed_unit block_is lists_is.back
          (ap (option_map {U = Reader} (λ e. record { node = e.list; place = e.place; timing = timing_at x i })) (cursor_here x.work i back inside (like_put (source_at x.work i) d) ∙ back_reads ∙ ap Some passed) ∙ sym next)
          (ap length lists_is.loose)
          (ap length units_is ∙ length-set t.units.items u (Some (record x { work = with_source x.work i back })))
          (λ w y ne is. sym (unit_else t new u i x back at inside (like_put (source_at x.work i) d) units_is block_is w ne) ∙ is)
          (λ w j l is. omega (
            arith,
            marks_is w j,
            owns_rewired x i back (s.table.units u x at).2.count inside (like_put (source_at x.work i) d) t new u w j at units_is block_is (len_kept t.store new.store w l lists_is is),
            ap (stands_at t.block (len_of t.store w) w j) back_reads,
            ap (stands_at t.block (len_of t.store w) w j) reads,
          ))
          (λ w j k is none. absurd (none_some (sym none ∙ (lists_is.to w k is).1)))
