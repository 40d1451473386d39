-- The table once the first part of a unit that waits was handed out.
use Rattle.std.proofs.Common.{◌≡◌, ◌≢◌, ◌⊎◌, inl, inr, ℕ, ◌+◌, ◌*◌, ◌<◌, ◌≤◌, min, List, [], ◌∷◌, length, get_or, slice_get, set, vec_capacity, Option, None, Some, IsSome, is_some, count_by, refl, sym, ap, subst, ◌∙◌, arith}
use Rattle.std.specs.List.{sum_by}
use Rattle.std.specs.Option.{option_map_or}
use Rattle.std.specs.Vec.{with_item}
use Rattle.std.proofs.lemmas.List.{get_or-set_same, get_or-set_other, set-set}
use Rattle.std.proofs.lemmas.Bool.{cases_eq}
use Rattle.ny_list.specs.Store.{ListState, CursorState, list_at}
use Rattle.ny_list.specs.Laws.{StoreLaws}
use Rattle.ny_list.proofs.IndexLemmas.{same_some, none_some, sum_kept}
use Rattle.ny_heap.specs.declared.sound.Sound.{Sound}
use Rattle.ny_heap.specs.declared.table.Unit.{Unit as UnitData}
use Rattle.ny_heap.specs.declared.table.Table.{Table}
use Rattle.ny_heap.specs.declared.work.Work.{Work}
use Rattle.ny_heap.specs.declared.work.Work.TheVariants.{Leaf as LeafWork, Pair as PairWork, Abs as AbsWork, Resample as ResampleWork, Filter as FilterWork, Mix as MixWork, Channel as ChannelWork}
use Rattle.ny_num.specs.Grid.{index_at}
use Rattle.ny_units.specs.Inputs.{IsReader}
use Rattle.ny_heap.specs.Heap.{blocks_of, taken_after}
use Rattle.ny_heap.specs.Work.{kind_of, source_at, cursor_at, waits_in, without_first, kept_in, HasPlaces, HasGiven}
use Rattle.ny_heap.specs.Table.{unit_at, timing_at, own_in, own_of, held_in, mark_in, len_of, stands_at, IsTable, IsUnit, IsInput, IsKept}
use Rattle.ny_heap.specs.View.{filled_in, last_stop_in, IsHeap}
use Rattle.ny_heap.specs.Attaching.{TakesPart}
use Rattle.ny_heap.proofs.TableLemmas.{place_within}
use Rattle.ny_heap.proofs.KeepLemmas.{source_first, cursor_first, get_before, still_timely, IsKept-to}
use Rattle.ny_heap.proofs.CountLemmas.{is_some_of, IsTable-hand}
use Rattle.ny_heap.proofs.SpentLemmas.{cursors_in}
use Rattle.ny_heap.proofs.ForgetLemmas.{IsTable-unkept, own_apart, first_apart}

-- ---- another number of parts that are still to be attached

module _ (t new : Table) (u p : ℕ) (x : UnitData) (cs : List (Option CursorState)) (table : IsTable t cs) (at : unit_at t u ≡ Some x) (places : HasPlaces x.work p) (timings : length x.inputs.items + length (waits_in x.work) + p ≤ vec_capacity x.inputs)
    (units : new.units.items ≡ set t.units.items u (Some (record x { pending = p }))) (store : new.store ≡ t.store) (block : new.block ≡ t.block) where
  abbrev unit_now : UnitData
  unit_now = record x { pending = p }

  now_here : unit_at new u ≡ Some unit_now
  now_here = ap (λ xs. get_or xs u None) units ∙ get_or-set_same t.units.items u (Some unit_now) None (place_within t.units.items u x at)

  now_else : (w : ℕ) → w ≢ u → unit_at new w ≡ unit_at t w
  now_else w ne = ap (λ xs. get_or xs w None) units ∙ get_or-set_other t.units.items u w (Some unit_now) None ne

  list_same : (w : ℕ) → list_at new.store w ≡ list_at t.store w
  list_same w = ap (λ s. list_at s w) store

  -- a unit is one that was, or one with another number
  unit_was : (w : ℕ) (z : UnitData) → unit_at new w ≡ Some z → (q : UnitData) × (unit_at t w ≡ Some q) × (z ≡ record q { pending = z.pending }) × (HasPlaces z.work z.pending) × (length z.inputs.items + length (waits_in z.work) + z.pending ≤ vec_capacity z.inputs)
  unit_was w z is = elim (cases_eq w u) [
    | inl e ↦
        let same : unit_now ≡ z = same_some (sym now_here ∙ sym (ap (unit_at new) e) ∙ is) in (
          x,
          ap (unit_at t) e ∙ at,
          subst (λ (q : UnitData). q ≡ record x { pending = q.pending }) same refl,
          subst (λ (q : UnitData). HasPlaces q.work q.pending) same places,
          subst (λ (q : UnitData). length q.inputs.items + length (waits_in q.work) + q.pending ≤ vec_capacity q.inputs) same timings,
        )
    | inr ne ↦
        let was = sym (now_else w ne) ∙ is in
        let l = table.units w z was in
        (z, was, refl, l.2.places, l.2.timings)
  ]

  pub own_same : (v j : ℕ) → own_in new v j ≡ own_in t v j
  own_same v j =
      let f = λ (o : Option UnitData). option_map_or {U = ℕ} (own_of t.block (len_of t.store v) v j) o 0 in
      ap (λ b. sum_by (λ (o : Option UnitData). option_map_or {U = ℕ} (own_of b (len_of new.store v) v j) o 0) new.units.items) block
      ∙ ap (λ s. sum_by (λ (o : Option UnitData). option_map_or {U = ℕ} (own_of t.block (len_of s v) v j) o 0) new.units.items) store
      ∙ ap (sum_by f) units ∙ sum_kept f t.units.items u (Some unit_now) None (place_within t.units.items u x at) (sym (ap f at))

  pub held_same : (v j : ℕ) → held_in new cs v j ≡ held_in t cs v j
  held_same v j = ap (λ b. sum_by (stands_at b (len_of new.store v) v j) cs) block ∙ ap (λ s. sum_by (stands_at t.block (len_of s v) v j) cs) store

  pub IsTable-counted : IsTable new cs
  IsTable-counted = record {
    store = subst StoreLaws (sym store) table.store;
    block = ap (λ s. s.block) store ∙ table.block ∙ sym block;
    loose = ap (λ s. count_by is_some s.loose) store ∙ table.loose;
    units = λ w z is.
        let q = unit_was w z is in
        let l = table.units w q.0 q.1 in
        (l.0, list_same w ∙ l.1, unit_then w z q.0 l.0 q.2 q.3 q.4 l.2);
    lists = λ w some. elim (cases_eq w u) [
      | inl e ↦ is_some_of _ unit_now (ap (unit_at new) e ∙ now_here)
      | inr ne ↦ subst (λ o. IsSome o) (sym (now_else w ne)) (table.lists w (subst (λ o. IsSome o) (list_same w) some))
    ];
    inputs = λ w i z k c is listed inside cursor.
        let q = unit_was w z is in
        let a = table.inputs w i q.0 k c q.1 (sym (list_same w) ∙ listed) (subst (λ (y : UnitData). i < length y.inputs.items) q.2 inside) (ap (λ (y : UnitData). cursor_at y.work i) (sym q.2) ∙ cursor) in
        (a.0, list_same c.list ∙ a.1, subst (λ (y : UnitData). IsInput new y i c a.0) (sym q.2) (input_then q.0 z.pending i c a.0 a.2));
    kept = λ w i z s is keeps.
        let q = unit_was w z is in
        IsKept-to t new s (λ c reads there. (subst (λ o. IsSome o) (sym (list_same c.list)) there, ap (λ r. len_of r c.list) store)) (table.kept w i q.0 s q.1 (ap (λ (y : UnitData). slice_get (kept_in y.work) i) (sym q.2) ∙ keeps));
    held = λ i c is. subst (λ o. IsSome o) (sym (list_same c.list)) (table.held i c is);
    counted = λ w j l is. omega (arith, own_same w j, held_same w j, ap (λ s. mark_in s w j) store, table.counted w j l (sym (list_same w) ∙ is));
    rank = table.rank;
    bound = table.bound;
    below = λ w z is. let q = unit_was w z is in table.below w q.0 q.1;
    falls = λ w i z c is inside cursor. let q = unit_was w z is in table.falls w i q.0 c q.1 (subst (λ (y : UnitData). i < length y.inputs.items) q.2 inside) (ap (λ (y : UnitData). cursor_at y.work i) (sym q.2) ∙ cursor);
    keeps_lower = λ w i z s c is keeps reads. let q = unit_was w z is in table.keeps_lower w i q.0 s c q.1 (ap (λ (y : UnitData). slice_get (kept_in y.work) i) (sym q.2) ∙ keeps) reads;
  }
    where
      unit_then : (w : ℕ) (z q : UnitData) (l : ListState) → z ≡ record q { pending = z.pending } → HasPlaces z.work z.pending → length z.inputs.items + length (waits_in z.work) + z.pending ≤ vec_capacity z.inputs → IsUnit t w q l → IsUnit new w z l
      unit_then w z q l same places timings is =
          subst (λ (y : UnitData). HasPlaces y.work y.pending → length y.inputs.items + length (waits_in y.work) + y.pending ≤ vec_capacity y.inputs → IsUnit new w y l) (sym same) (λ places timings. record {
            end = is.end;
            len = is.len;
            some = is.some;
            early = is.early;
            count = is.count;
            sides = is.sides;
            begins = is.begins;
            brings = is.brings;
            hears = is.hears;
            given = subst (λ b. HasGiven q.work q.timing.len (min (length l.values * b) q.timing.len)) (sym block) is.given;
            places = places;
            timings = timings;
          }) places timings

      input_then : (q : UnitData) (n i : ℕ) (c : CursorState) (l : ListState) → IsInput t q i c l → IsInput new (record q { pending = n }) i c l
      input_then q n i c l is = record { starts = is.starts; sees = is.sees; visible = is.visible; computed = subst (λ b. c.place ≤ min (length l.values * b) l.len) (sym block) is.computed }

-- ---- a part is handed out

-- of work in which a part waits, one more may be pending
places_handed : (w : Work) (kept : List Sound) (n : ℕ) → waits_in w ≡ kept ∷ waits_in (without_first w) → HasPlaces w n → HasPlaces (without_first w) (n + 1)
places_handed (LeafWork p) kept n is places = absurd (omega (arith, ap length is))
places_handed (PairWork p a b) kept n is places = absurd (omega (arith, ap length is))
places_handed (AbsWork s) kept n is places = absurd (omega (arith, ap length is))
places_handed (ResampleWork r) kept n is places = absurd (omega (arith, ap length is))
places_handed (FilterWork f start) kept n is places = absurd (omega (arith, ap length is))
places_handed (MixWork m) kept n is places =
    omega (arith, places, ap length is, Rattle.std.proofs.lemmas.List.length-map m.waiting (λ v. v.items), Rattle.std.proofs.lemmas.List.length-drop 1 m.waiting)
places_handed (ChannelWork p) kept n is places = absurd (omega (arith, ap length is))

kind_first : (w : Work) → kind_of (without_first w) ≡ kind_of w
kind_first (LeafWork p) = refl
kind_first (PairWork p a b) = refl
kind_first (AbsWork s) = refl
kind_first (ResampleWork r) = refl
kind_first (FilterWork f start) = refl
kind_first (MixWork m) = refl
kind_first (ChannelWork p) = refl

module _ (old new : Table) (u : ℕ) (kept : List Sound) (table : IsTable old []) (p : TakesPart old new u kept) where
  abbrev x : UnitData
  x = p.unit

  -- without the part, and before it is counted as pending
  abbrev mid : Table
  mid = record old { units = with_item old.units u (Some (record x { work = without_first x.work })) }

  mid_table : IsTable mid (cursors_in kept)
  mid_table = IsTable-unkept old mid u x kept table p.was (first_apart x.work kept p.first) (record { units = refl; store = refl; block = refl })

  mid_none : IsTable mid []
  mid_none = IsTable-hand mid (cursors_in kept) [] mid_table (λ i c is. absurd (none_some is)) (λ v j l is. omega arith)

  unit_old : (l : ListState) × (list_at old.store u ≡ Some l) × IsUnit old u x l
  unit_old = table.units u x p.was

  abbrev unit_mid : UnitData
  unit_mid = record x { work = without_first x.work }

  mid_here : unit_at mid u ≡ Some unit_mid
  mid_here = get_or-set_same old.units.items u (Some unit_mid) None (place_within old.units.items u x p.was)

  places_now : HasPlaces unit_mid.work (x.pending + 1)
  places_now = places_handed x.work kept x.pending p.first unit_old.2.places

  timings_now : length unit_mid.inputs.items + length (waits_in unit_mid.work) + (x.pending + 1) ≤ vec_capacity unit_mid.inputs
  timings_now = omega (arith, unit_old.2.timings, ap length p.first)

  units_now : new.units.items ≡ set mid.units.items u (Some (record unit_mid { pending = x.pending + 1 }))
  units_now = p.units ∙ sym (set-set old.units.items u (Some unit_mid) (Some (record unit_mid { pending = x.pending + 1 })))

  pub IsTable-handed : IsTable new []
  IsTable-handed = IsTable-counted mid new u (x.pending + 1) unit_mid [] mid_none mid_here places_now timings_now units_now p.store p.block

  -- so it is with what the part kept in hand
  pub IsTable-handing : IsTable new (cursors_in kept)
  IsTable-handing = IsTable-counted mid new u (x.pending + 1) unit_mid (cursors_in kept) mid_table mid_here places_now timings_now units_now p.store p.block

  -- what all had is what they have and what is in hand
  pub own_handed : (v j : ℕ) → own_in new v j + held_in new (cursors_in kept) v j ≡ own_in old v j
  own_handed v j =
      omega (
        arith,
        own_same mid new u (x.pending + 1) unit_mid (cursors_in kept) mid_table mid_here places_now timings_now units_now p.store p.block v j,
        held_same mid new u (x.pending + 1) unit_mid (cursors_in kept) mid_table mid_here places_now timings_now units_now p.store p.block v j,
        own_apart old mid u x kept table p.was (first_apart x.work kept p.first) (record { units = refl; store = refl; block = refl }) v j,
      )

  -- each sound that the part kept is as it was
  pub handed_kept : (i : ℕ) (s : Sound) → slice_get kept i ≡ Some s → IsKept new s
  handed_kept i s is =
      IsKept-to old new s (λ c reads there. (subst (λ o. IsSome o) (ap (λ r. list_at r c.list) (sym p.store)) there, ap (λ r. len_of r c.list) p.store))
      (table.kept u i x s p.was (ap (λ ss. slice_get ss i) (first_apart x.work kept p.first) ∙ get_before kept (kept_in (without_first x.work)) i s is))

  -- ---- between two calls

  pub handed_here : unit_at new u ≡ Some (record x { work = without_first x.work; pending = x.pending + 1 })
  handed_here = ap (λ xs. get_or xs u None) p.units ∙ get_or-set_same old.units.items u (Some (record x { work = without_first x.work; pending = x.pending + 1 })) None (place_within old.units.items u x p.was)

  pub handed_else : (w : ℕ) → w ≢ u → unit_at new w ≡ unit_at old w
  handed_else w ne = ap (λ xs. get_or xs w None) p.units ∙ get_or-set_other old.units.items u w (Some (record x { work = without_first x.work; pending = x.pending + 1 })) None ne

  handed_back : (w : ℕ) (z : UnitData) → unit_at new w ≡ Some z → ((w ≡ u) × (z ≡ record x { work = without_first x.work; pending = x.pending + 1 })) ⊎ ((w ≢ u) × (unit_at old w ≡ Some z))
  handed_back w z is = elim (cases_eq w u) [
    | inl e ↦ inl (e, same_some (sym is ∙ ap (unit_at new) e ∙ handed_here))
    | inr ne ↦ inr (ne, sym (handed_else w ne) ∙ is)
  ]

  filled_same : (w : ℕ) → filled_in new.store w ≡ filled_in old.store w
  filled_same w = ap (λ r. filled_in r w) p.store

  abbrev y : UnitData
  y = record x { work = without_first x.work; pending = x.pending + 1 }

  same_kind : kind_of (without_first x.work) ≡ kind_of x.work
  same_kind = kind_first x.work

  pub IsHeap-handed : IsHeap old → IsHeap new
  IsHeap-handed heap = record {
    table = IsTable-handed;
    read = λ w l is. heap.read w l (ap (λ r. list_at r w) (sym p.store) ∙ is);
    clean = λ w i z c is inside cursor. elim (handed_back w z is) [
      | inl e ↦
          let h = heap.clean u i x c p.was (subst (λ (q : UnitData). i < length q.inputs.items) e.1 inside) (sym (cursor_first x.work i) ∙ ap (λ (q : UnitData). cursor_at q.work i) (sym e.1) ∙ cursor) in
          (h.0, subst (λ (k : ℕ × UnitData). filled_in new.store k.0 < blocks_of new.block k.1.timing.len) (λ j. (sym e.0 j, sym e.1 j)) (subst (λ (k : ℕ × ℕ). k.0 < blocks_of k.1 x.timing.len) (λ j. (sym (filled_same u) j, sym p.block j)) h.1))
      | inr e ↦ let h = heap.clean w i z c e.1 inside cursor in (h.0, subst (λ (k : ℕ × ℕ). k.0 < blocks_of k.1 z.timing.len) (λ j. (sym (filled_same w) j, sym p.block j)) h.1)
    ];
    needs = λ w i z c is inside cursor. elim (handed_back w z is) [
      | inl e ↦
          heap.needs u i x c p.was (subst (λ (q : UnitData). i < length q.inputs.items) e.1 inside) (sym (cursor_first x.work i) ∙ ap (λ (q : UnitData). cursor_at q.work i) (sym e.1) ∙ cursor)
          ∙ (λ j. taken_after (sym p.block j) (sym same_kind j) x.timing (timing_at x i) (sym (filled_same u) j))
          ∙ (λ j. taken_after new.block (kind_of (sym e.1 j).work) (sym e.1 j).timing (timing_at (sym e.1 j) i) (filled_in new.store (sym e.0 j)))
      | inr e ↦ heap.needs w i z c e.1 inside cursor ∙ (λ j. taken_after (sym p.block j) (kind_of z.work) z.timing (timing_at z i) (sym (filled_same w) j))
    ];
    exhausted = λ w i z is inside reader none still. elim (handed_back w z is) [
      | inl e ↦
          let opened = subst (λ (k : ℕ × ℕ). k.0 < blocks_of k.1 x.timing.len) (λ j. (filled_same u j, p.block j)) (subst (λ (k : ℕ × UnitData). filled_in new.store k.0 < blocks_of new.block k.1.timing.len) (λ j. (e.0 j, e.1 j)) still) in
          let far = heap.exhausted u i x p.was (subst (λ (q : UnitData). i < length q.inputs.items) e.1 inside) (subst IsReader (source_first x.work i) (subst (λ (q : UnitData). IsReader (source_at q.work i)) e.1 reader))
          (sym (cursor_first x.work i) ∙ ap (λ (q : UnitData). cursor_at q.work i) (sym e.1) ∙ none) opened in
          subst (λ (k : ℕ × UnitData). (timing_at k.1 i).len ≤ taken_after new.block (kind_of k.1.work) k.1.timing (timing_at k.1 i) (filled_in new.store k.0)) (λ j. (sym e.0 j, sym e.1 j))
          (subst (λ n. (timing_at x i).len ≤ n) (λ j. taken_after (sym p.block j) (sym same_kind j) x.timing (timing_at x i) (sym (filled_same u) j)) far)
      | inr e ↦
          subst (λ n. (timing_at z i).len ≤ n) (λ j. taken_after (sym p.block j) (kind_of z.work) z.timing (timing_at z i) (sym (filled_same w) j))
          (heap.exhausted w i z e.1 inside reader none (subst (λ (k : ℕ × ℕ). k.0 < blocks_of k.1 z.timing.len) (λ j. (filled_same w j, p.block j)) still))
    ];
    waits = λ w z is full. elim (handed_back w z is) [
      | inl e ↦
          let was = heap.waits u x p.was (subst (λ (k : ℕ × ℕ). blocks_of k.1 x.timing.len ≤ k.0) (λ j. (filled_same u j, p.block j)) (subst (λ (k : ℕ × UnitData). blocks_of new.block k.1.timing.len ≤ filled_in new.store k.0) (λ j. (e.0 j, e.1 j)) full)) in
          absurd (omega (arith, ap length p.first, ap length was.0))
      | inr e ↦ heap.waits w z e.1 (subst (λ (k : ℕ × ℕ). blocks_of k.1 z.timing.len ≤ k.0) (λ j. (filled_same w j, p.block j)) full)
    ];
    timely = λ w z is owes. elim (handed_back w z is) [
      | inl e ↦
          let before = heap.timely u x p.was (omega (arith, ap length p.first)) in
          subst (λ (k : ℕ × UnitData). k.1.timing.start + filled_in new.store k.0 * new.block ≤ index_at (last_stop_in 0 k.1.inputs.items) k.1.timing.rate) (λ j. (sym e.0 j, sym e.1 j))
          (still_timely x.timing.start (filled_in old.store u) (filled_in new.store u) old.block new.block _ (filled_same u) p.block before)
      | inr e ↦ still_timely z.timing.start (filled_in old.store w) (filled_in new.store w) old.block new.block _ (filled_same w) p.block (heap.timely w z e.1 owes)
    ];
  }
