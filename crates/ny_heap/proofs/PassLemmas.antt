-- A unit whose input has another cursor.
use Rattle.std.proofs.Common.{◌≡◌, ◌≢◌, inl, inr, ℕ, zero, suc, ◌+◌, ◌*◌, ◌<◌, ◌≤◌, min, List, [], ◌∷◌, length, get_or, slice_get, set, Option, None, Some, IsSome, is_some, count_by, refl, sym, ap, subst, ◌∙◌, arith, append-nil}
use Rattle.std.specs.List.{sum_by}
use Rattle.std.specs.Option.{option_map_or}
use Rattle.std.proofs.lemmas.List.{get_or-set_same, get_or-set_other}
use Rattle.std.proofs.lemmas.Bool.{cases_eq, cases_lt}
use Rattle.ny_list.specs.Store.{ListState, StoreState, CursorState, list_at}
use Rattle.ny_list.specs.Laws.{StoreLaws}
use Rattle.ny_list.proofs.IndexLemmas.{same_some, none_some}
use Rattle.ny_units.specs.Inputs.{reader_of, taken_of}
use Rattle.ny_units.specs.declared.input.Source.{Source}
use Rattle.ny_heap.specs.declared.table.Unit.{Unit as UnitData}
use Rattle.ny_heap.specs.declared.table.Table.{Table}
use Rattle.ny_heap.specs.declared.sound.Sound.{Sound}
use Rattle.ny_heap.specs.Work.{inputs_in, source_at, with_source, cursor_at, without_cursor_at, kept_in, HasGiven}
use Rattle.ny_heap.specs.Table.{unit_at, own_in, own_of, held_in, mark_in, len_of, stands_at, IsTable, IsUnit, IsInput, IsKept, IsRead, KeepsList, Drops}
use Rattle.ny_heap.specs.Filling.{Reworks}
use Rattle.ny_heap.proofs.TableLemmas.{place_within}
use Rattle.ny_heap.proofs.ListLemmas.{Relists, KeepsList-same, len_kept, mark_is}
use Rattle.ny_heap.proofs.KeepLemmas.{some_term, unit_uses, HoldsCursor, stands_there, waits_wired, kept_wired, places_wired, IsKept-to}
use Rattle.ny_heap.proofs.CountLemmas.{some_is, is_some_of, held_cons, holds_list}
use Rattle.ny_heap.proofs.InputLemmas.{Like, like_taken, reader_taken, SameWork, same_work, cursor_here, cursor_other, start_same, owns_rewired}

pub Relists-same : (s t : StoreState) → t ≡ s → Relists s t
Relists-same s t e = subst (Relists s) (sym e) (record { block = refl; loose = refl; size = refl; to = λ v x is. (x, is, KeepsList-same x x refl); back = λ v x is. (x, is, KeepsList-same x x refl) })

-- ---- another cursor in input i of unit u

module _ (t new : Table) (u i : ℕ) (x : UnitData) (s : Source) (at : unit_at t u ≡ Some x) (inside : i < inputs_in x.work) (like : Like (source_at x.work i) s)
    (units : new.units.items ≡ set t.units.items u (Some (record x { work = with_source x.work i s }))) (block : new.block ≡ t.block) where
  abbrev pub unit_now : UnitData
  unit_now = record x { work = with_source x.work i s }

  pub unit_here : unit_at new u ≡ Some unit_now
  unit_here = ap (λ xs. get_or xs u None) units ∙ get_or-set_same t.units.items u (Some unit_now) None (place_within t.units.items u x at)

  pub unit_else : (w : ℕ) → w ≢ u → unit_at new w ≡ unit_at t w
  unit_else w ne = ap (λ xs. get_or xs w None) units ∙ get_or-set_other t.units.items u w (Some unit_now) None ne

  is_now : (y : UnitData) → unit_at new u ≡ Some y → unit_now ≡ y
  is_now y is = same_some (sym unit_here ∙ is)

  module _ (cs ds : List (Option CursorState)) (table : IsTable t cs) (lists : Relists t.store new.store) where
    its_list : (l : ListState) × (list_at t.store u ≡ Some l) × IsUnit t u x l
    its_list = table.units u x at

    same : SameWork x.work (with_source x.work i s) x.timing x.inputs.items
    same = same_work x.work i s x.timing x.inputs.items inside like

    unit_kept : (v : ℕ) (y : UnitData) (k l : ListState) → KeepsList k l → IsUnit t v y k → IsUnit new v y l
    unit_kept v y k l keeps is = record {
      end = is.end;
      len = keeps.len ∙ is.len;
      some = is.some;
      early = is.early;
      count = is.count;
      sides = is.sides;
      begins = is.begins;
      brings = is.brings;
      hears = is.hears;
      given = subst (λ n. HasGiven y.work y.timing.len (min n y.timing.len)) (λ j. sym keeps.filled j * sym block j) is.given;
      places = is.places;
      timings = is.timings;
    }

    unit_then : (k l : ListState) → KeepsList k l → IsUnit t u x k → IsUnit new u unit_now l
    unit_then k l keeps is = record {
      end = is.end;
      len = keeps.len ∙ is.len;
      some = is.some;
      early = is.early;
      count = is.count ∙ sym same.count;
      sides = same.sides is.sides;
      begins = same.begins is.begins;
      brings = same.brings is.brings;
      hears = same.hears is.hears;
      given = same.given x.timing.len (min (length l.values * new.block) x.timing.len) (subst (λ n. HasGiven x.work x.timing.len (min n x.timing.len)) (λ j. sym keeps.filled j * sym block j) is.given);
      places = places_wired x.work i s x.pending is.places;
      timings = omega (arith, is.timings, ap length (waits_wired x.work i s));
    }

    unit_new : (y : UnitData) → unit_at new u ≡ Some y → (l : ListState) × (list_at new.store u ≡ Some l) × IsUnit new u y l
    unit_new y is =
        let n = lists.to u its_list.0 its_list.1 in
        (n.0, n.1, subst (λ (z : UnitData). IsUnit new u z n.0) (is_now y is) (unit_then its_list.0 n.0 n.2 its_list.2))

    input_kept : (y : UnitData) (k : ℕ) (c : CursorState) (l m : ListState) → KeepsList l m → IsInput t y k c l → IsInput new y k c m
    input_kept y k c l m keeps is = record {
      starts = is.starts;
      sees = is.sees;
      visible = subst (λ n. c.visible ≤ n) (sym keeps.len) is.visible;
      computed = subst (λ n. c.place ≤ n) (λ j. min (sym keeps.filled j * sym block j) (sym keeps.len j)) is.computed;
    }

    -- what a part keeps is what it kept
    rewired_kept : (v k : ℕ) (y : UnitData) (q : Sound) → unit_at new v ≡ Some y → slice_get (kept_in y.work) k ≡ Some q → (z : UnitData) × (unit_at t v ≡ Some z) × (slice_get (kept_in z.work) k ≡ Some q)
    rewired_kept v k y q is keeps = elim (cases_eq v u) [
      | inl e ↦
          let now : unit_now ≡ y = is_now y (sym (ap (unit_at new) e) ∙ is) in
          (x, ap (unit_at t) e ∙ at, ap (λ ks. slice_get ks k) (sym (kept_wired x.work i s)) ∙ ap (λ (z : UnitData). slice_get (kept_in z.work) k) now ∙ keeps)
      | inr ne ↦ (y, sym (unit_else v ne) ∙ is, keeps)
    ]

    kept_still : (q : Sound) → IsKept t q → IsKept new q
    kept_still q k =
        IsKept-to t new q (λ c reads there. let l = some_is (list_at t.store c.list) there in let n = lists.to c.list l.0 l.1 in (is_some_of _ n.0 n.1, len_kept t.store new.store c.list n.0 lists n.1)) k

    pub rewired_keeps : (v k : ℕ) (y : UnitData) (q : Sound) (c : CursorState) → unit_at new v ≡ Some y → slice_get (kept_in y.work) k ≡ Some q → q.reader ≡ Some c → table.rank c.list < table.rank v
    rewired_keeps v k y q c is keeps reads = let z = rewired_kept v k y q is keeps in table.keeps_lower v k z.0 q c z.1 z.2 reads

    -- what is put there can be read, and stands lower than the unit
    module _ (input : (c : CursorState) → reader_of s ≡ Some c → (l : ListState) × (list_at t.store c.list ≡ Some l) × IsInput t x i c l × (table.rank c.list < table.rank u)) where
      input_new : (k : ℕ) (c : CursorState) → k < length x.inputs.items → cursor_at unit_now.work k ≡ Some c → (m : ListState) × (list_at new.store c.list ≡ Some m) × IsInput new unit_now k c m × (table.rank c.list < table.rank u)
      input_new k c within cursor = elim (cases_eq k i) [
        | inl e ↦
            let a = input c (sym (cursor_here x.work i s inside like) ∙ sym (ap (cursor_at unit_now.work) e) ∙ cursor) in
            let n = lists.to c.list a.0 a.1 in
            let is = input_kept x i c a.0 n.0 n.2 a.2 in
            (n.0, n.1, subst (λ j. IsInput new unit_now j c n.0) (sym e) (record { starts = start_same x.work i s inside like i inside ∙ is.starts; sees = is.sees; visible = is.visible; computed = is.computed }), a.3)
        | inr ne ↦
            let was : cursor_at x.work k ≡ Some c = sym (cursor_other x.work i s inside like k (omega (arith, within, its_list.2.count)) ne) ∙ cursor in
            let a = table.inputs u k x its_list.0 c at its_list.1 within was in
            let n = lists.to c.list a.0 a.1 in
            let is = input_kept x k c a.0 n.0 n.2 a.2 in
            (n.0, n.1, record { starts = start_same x.work i s inside like k (omega (arith, within, its_list.2.count)) ∙ is.starts; sees = is.sees; visible = is.visible; computed = is.computed }, table.falls u k x c at within was)
      ]

      pub rewired_below : (v : ℕ) (y : UnitData) → unit_at new v ≡ Some y → table.rank v < table.bound
      rewired_below v y is = elim (cases_eq v u) [
        | inl e ↦ subst (λ w. table.rank w < table.bound) (sym e) (table.below u x at)
        | inr ne ↦ table.below v y (sym (unit_else v ne) ∙ is)
      ]

      falls_new : (y : UnitData) (k : ℕ) (c : CursorState) → unit_at new u ≡ Some y → k < length y.inputs.items → cursor_at y.work k ≡ Some c → table.rank c.list < table.rank u
      falls_new y k c is within cursor =
          (input_new k c (subst (λ (z : UnitData). k < length z.inputs.items) (sym (is_now y is)) within) (ap (λ (z : UnitData). cursor_at z.work k) (is_now y is) ∙ cursor)).3

      pub rewired_falls : (v k : ℕ) (y : UnitData) (c : CursorState) → unit_at new v ≡ Some y → k < length y.inputs.items → cursor_at y.work k ≡ Some c → table.rank c.list < table.rank v
      rewired_falls v k y c is within cursor = elim (cases_eq v u) [
        | inl e ↦ subst (λ w. table.rank c.list < table.rank w) (sym e) (falls_new y k c (sym (ap (unit_at new) e) ∙ is) within cursor)
        | inr ne ↦ table.falls v k y c (sym (unit_else v ne) ∙ is) within cursor
      ]

      held_same : (v j : ℕ) → len_of new.store v ≡ len_of t.store v → held_in new ds v j ≡ held_in t ds v j
      held_same v j len = ap (λ b. sum_by (stands_at b (len_of new.store v) v j) ds) block ∙ ap (λ n. sum_by (stands_at t.block n v j) ds) len

      pub IsTable-rewired : StoreLaws new.store → ((k : ℕ) (c : CursorState) → get_or ds k None ≡ Some c → IsSome (list_at t.store c.list))
          → ((v j : ℕ) (l : ListState) → list_at t.store v ≡ Some l → own_in t v j + (stands_at t.block (len_of t.store v) v j (reader_of s) + held_in t ds v j) ≤ mark_in new.store v j + stands_at t.block (len_of t.store v) v j (cursor_at x.work i))
          → IsTable new ds
      IsTable-rewired laws there counted = record {
        store = laws;
        block = lists.block ∙ table.block ∙ sym block;
        loose = ap (count_by is_some) lists.loose ∙ table.loose;
        units = λ v y is. elim (cases_eq v u) [
          | inl e ↦ subst (λ w. (l : ListState) × (list_at new.store w ≡ Some l) × IsUnit new w y l) (sym e) (unit_new y (sym (ap (unit_at new) e) ∙ is))
          | inr ne ↦ let a = table.units v y (sym (unit_else v ne) ∙ is) in let n = lists.to v a.0 a.1 in (n.0, n.1, unit_kept v y a.0 n.0 n.2 a.2)
        ];
        lists = λ v some. elim (cases_eq v u) [
          | inl e ↦ subst (λ w. IsSome (unit_at new w)) (sym e) (is_some_of _ unit_now unit_here)
          | inr ne ↦
              let l = some_is (list_at new.store v) some in
              let b = lists.back v l.0 l.1 in
              let y = some_is (unit_at t v) (table.lists v (is_some_of _ b.0 b.1)) in
              is_some_of _ y.0 (unit_else v ne ∙ y.1)
        ];
        inputs = λ v k y l c is listed within cursor. elim (cases_eq v u) [
          | inl e ↦ input_at_u k y c (sym (ap (unit_at new) e) ∙ is) within cursor
          | inr ne ↦
              let b = lists.back v l listed in
              let a = table.inputs v k y b.0 c (sym (unit_else v ne) ∙ is) b.1 within cursor in
              let n = lists.to c.list a.0 a.1 in
              (n.0, n.1, input_kept y k c a.0 n.0 n.2 a.2)
        ];
        kept = λ v k y q is keeps. let z = rewired_kept v k y q is keeps in kept_still q (table.kept v k z.0 q z.1 z.2);
        held = λ k c is. let l = some_is (list_at t.store c.list) (there k c is) in let n = lists.to c.list l.0 l.1 in is_some_of _ n.0 n.1;
        counted = λ v j l is.
            let b = lists.back v l is in
            let len : len_of new.store v ≡ len_of t.store v = len_kept t.store new.store v l lists is in
            omega (arith, counted v j b.0 b.1, held_same v j len, owns_rewired x i s its_list.2.count inside like t new u v j at units block len);
        rank = table.rank;
        bound = table.bound;
        below = rewired_below;
        falls = rewired_falls;
        keeps_lower = rewired_keeps;
      }
        where
          input_at_u : (k : ℕ) (y : UnitData) (c : CursorState) → unit_at new u ≡ Some y → k < length y.inputs.items → cursor_at y.work k ≡ Some c → (m : ListState) × (list_at new.store c.list ≡ Some m) × IsInput new y k c m
          input_at_u k y c is within cursor =
              subst (λ (z : UnitData). k < length z.inputs.items → cursor_at z.work k ≡ Some c → (m : ListState) × (list_at new.store c.list ≡ Some m) × IsInput new z k c m) (is_now y is)
              (λ h d. let a = input_new k c h d in (a.0, a.1, a.2)) within cursor

-- ---- a unit's cursor is taken in hand

module _ (t mid : Table) (u i : ℕ) (x : UnitData) (c : CursorState) (table : IsTable t []) (at : unit_at t u ≡ Some x) (inside : i < inputs_in x.work) (reads : cursor_at x.work i ≡ Some c)
    (took : Reworks t mid u x (without_cursor_at x.work i)) where
  abbrev pub empty : Source
  empty = taken_of (source_at x.work i)

  none_put : (d : CursorState) → reader_of empty ≡ Some d → ⊥
  none_put d is = none_some (sym (reader_taken (source_at x.work i)) ∙ is)

  unit_list : (l : ListState) × (list_at t.store u ≡ Some l) × IsUnit t u x l
  unit_list = table.units u x at

  within : i < length x.inputs.items
  within = omega (arith, inside, unit_list.2.count)

  pub its_input : (l : ListState) × (list_at t.store c.list ≡ Some l) × IsInput t x i c l
  its_input = table.inputs u i x unit_list.0 c at unit_list.1 within reads

  pub its_rank : table.rank c.list < table.rank u
  its_rank = table.falls u i x c at within reads

  -- the others have what all had but for it
  pub own_taken : (v j : ℕ) → own_in mid v j + held_in mid (Some c ∷ []) v j ≡ own_in t v j
  own_taken v j =
      let len : len_of mid.store v ≡ len_of t.store v = ap (λ s. len_of s v) took.store in
      omega (
        arith,
        owns_rewired x i empty unit_list.2.count inside (like_taken (source_at x.work i)) t mid u v j at took.units took.block len,
        ap (stands_at t.block (len_of t.store v) v j) reads,
        ap (stands_at t.block (len_of t.store v) v j) (reader_taken (source_at x.work i)),
        held_cons mid (Some c) [] v j,
        ap (λ b. stands_at b (len_of mid.store v) v j (Some c)) took.block,
        ap (λ n. stands_at t.block n v j (Some c)) len,
      )

  pub IsTable-taken : IsTable mid (Some c ∷ [])
  IsTable-taken =
      IsTable-rewired t mid u i x empty at inside (like_taken (source_at x.work i)) took.units took.block [] (Some c ∷ []) table (Relists-same t.store mid.store took.store)
      (λ d is. absurd (none_put d is)) (subst StoreLaws (sym took.store) table.store) there
      (λ v j l is. omega (
        arith,
        table.counted v j l is,
        ap (λ s. mark_in s v j) took.store,
        ap (stands_at t.block (len_of t.store v) v j) reads,
        ap (stands_at t.block (len_of t.store v) v j) (reader_taken (source_at x.work i)),
        held_cons t (Some c) [] v j,
      ))
    where
      there : (k : ℕ) (d : CursorState) → get_or (Some c ∷ []) k None ≡ Some d → IsSome (list_at t.store d.list)
      there zero d is = subst (λ (q : CursorState). IsSome (list_at t.store q.list)) (same_some is) (is_some_of _ its_input.0 its_input.1)
      there (suc zero) d is = absurd (none_some is)
      there (suc (suc k)) d is = absurd (none_some is)

  pub taken_below : (v : ℕ) (y : UnitData) → unit_at mid v ≡ Some y → table.rank v < table.bound
  taken_below =
      rewired_below t mid u i x empty at inside (like_taken (source_at x.work i)) took.units took.block [] (Some c ∷ []) table (Relists-same t.store mid.store took.store) (λ d is. absurd (none_put d is))

  pub taken_falls : (v k : ℕ) (y : UnitData) (d : CursorState) → unit_at mid v ≡ Some y → k < length y.inputs.items → cursor_at y.work k ≡ Some d → table.rank d.list < table.rank v
  taken_falls =
      rewired_falls t mid u i x empty at inside (like_taken (source_at x.work i)) took.units took.block [] (Some c ∷ []) table (Relists-same t.store mid.store took.store) (λ d is. absurd (none_put d is))

  pub taken_keeps : (v k : ℕ) (y : UnitData) (s : Sound) (d : CursorState) → unit_at mid v ≡ Some y → slice_get (kept_in y.work) k ≡ Some s → s.reader ≡ Some d → table.rank d.list < table.rank v
  taken_keeps = rewired_keeps t mid u i x empty at inside (like_taken (source_at x.work i)) took.units took.block [] (Some c ∷ []) table (Relists-same t.store mid.store took.store)

  pub taken_unit : unit_at mid u ≡ Some (record x { work = without_cursor_at x.work i })
  taken_unit = unit_here t mid u i x empty at inside (like_taken (source_at x.work i)) took.units took.block

  pub taken_else : (w : ℕ) → w ≢ u → unit_at mid w ≡ unit_at t w
  taken_else = unit_else t mid u i x empty at inside (like_taken (source_at x.work i)) took.units took.block

  pub IsRead-taken : IsRead t → IsRead mid
  IsRead-taken read v l is = read v l (ap (λ s. list_at s v) (sym took.store) ∙ is)

-- ---- what stands higher than cursors that are dropped stays

-- cursors in hand that read other lists count nothing in one
none_stands : (block len v j : ℕ) (cs : List (Option CursorState)) → ((i : ℕ) (c : CursorState) → get_or cs i None ≡ Some c → c.list ≢ v) → sum_by (stands_at block len v j) cs ≡ 0
none_stands block len v j cs apart = elim (cases_lt 0 (sum_by (stands_at block len v j) cs)) [
  | inl some ↦
      let k = some_term (stands_at block len v j) None cs some in
      let c = stands_there block len v j (get_or cs k.0 None) k.2 in
      absurd (apart k.0 c.0 c.1 c.2)
  | inr none ↦ omega (arith, none)
]

module _ (mid new : Table) (cs : List (Option CursorState)) (table : IsTable mid cs) (read : IsRead mid) (drops : Drops mid new cs []) (rank : ℕ → ℕ) (bound low : ℕ)
    (dropped : (i : ℕ) (c : CursorState) → get_or cs i None ≡ Some c → rank c.list < low)
    (below : (v : ℕ) (x : UnitData) → unit_at mid v ≡ Some x → rank v < bound)
    (falls : (v i : ℕ) (x : UnitData) (d : CursorState) → unit_at mid v ≡ Some x → i < length x.inputs.items → cursor_at x.work i ≡ Some d → rank d.list < rank v)
    (keeps : (v i : ℕ) (x : UnitData) (s : Sound) (d : CursorState) → unit_at mid v ≡ Some x → slice_get (kept_in x.work) i ≡ Some s → s.reader ≡ Some d → rank d.list < rank v) where
  table_left : IsTable new []
  table_left = drops.table [] (subst (IsTable mid) (sym (append-nil cs)) table)

  lower : (v : ℕ) (x : UnitData) (d : CursorState) → unit_at mid v ≡ Some x → HoldsCursor x d → rank d.list < rank v
  lower v x d at (inl r) = falls v r.0 x d at r.1 r.2
  lower v x d at (inr k) = keeps v k.0 x k.1 d at k.2 k.3

  pub stays : (fuel v : ℕ) (x : UnitData) → unit_at mid v ≡ Some x → low ≤ rank v → bound ≤ rank v + fuel → IsSome (unit_at new v)
  stays zero v x at above near = absurd (omega (arith, below v x at, near))
  stays (suc fuel) v x at above near = by (λ w y is higher close. stays fuel w y is higher close) (list_at new.store v) refl
    where
      list_v : (l : ListState) × (list_at mid.store v ≡ Some l) × IsUnit mid v x l
      list_v = table.units v x at

      block_v : (k : ℕ) × (k < length list_v.0.marks) × (0 < get_or list_v.0.marks k 0)
      block_v = some_term (λ m. m) 0 list_v.0.marks (read v list_v.0 list_v.1)

      read_by : list_at new.store v ≡ None → 0 < own_in mid v block_v.0
      read_by gone =
          omega (
            arith,
            block_v.2,
            mark_is mid.store v block_v.0 list_v.0 list_v.1,
            drops.gone v block_v.0 list_v.0 list_v.1 gone,
            none_stands mid.block (len_of mid.store v) v block_v.0 cs (λ i c is e. omega (arith, above, dropped i c is, ap rank e)),
          )

      by : ((w : ℕ) (y : UnitData) → unit_at mid w ≡ Some y → low ≤ rank w → bound ≤ rank w + fuel → IsSome (unit_at new w)) → (o : Option ListState) → list_at new.store v ≡ o → IsSome (unit_at new v)
      by up (Some l) e = table_left.lists v (is_some_of _ l e)
      by up None e =
          let w = some_term (λ (o : Option UnitData). option_map_or {U = ℕ} (own_of mid.block (len_of mid.store v) v block_v.0) o 0) None mid.units.items (read_by e) in
          let r = unit_uses mid.block (len_of mid.store v) v block_v.0 (unit_at mid w.0) w.2 in
          let higher = lower w.0 r.0 r.1 r.2 r.4 in
          let y = some_is (unit_at new w.0) (up w.0 r.0 r.2 (omega (arith, higher, above, ap rank r.3)) (omega (arith, higher, near, ap rank r.3))) in
          let same : r.0 ≡ y.0 = same_some (sym r.2 ∙ drops.kept w.0 y.0 y.1) in
          let is : unit_at new w.0 ≡ Some r.0 = y.1 ∙ ap Some (sym same) in
          let a = some_is (list_at new.store r.1.list) (holds_list new [] w.0 r.0 r.1 table_left is r.4) in
          absurd (none_some (sym e ∙ ap (list_at new.store) (sym r.3) ∙ a.1))
