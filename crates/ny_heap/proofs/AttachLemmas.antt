-- The table once a unit has one more input.
use Rattle.std.proofs.Common.{◌≡◌, ◌≢◌, ◌⊎◌, inl, inr, ℕ, zero, suc, ◌+◌, ◌-◌, ◌*◌, ◌<◌, ◌≤◌, min, List, [], ◌∷◌, ◌++◌, length, map, get_or, slice_get, set, Option, None, Some, IsSome, is_some, count_by, refl, sym, ap, subst, ◌∙◌, arith, length-append}
use Rattle.std.specs.List.{sum_by, range_with_len}
use Rattle.std.specs.Option.{option_map, option_map_or}
use Rattle.std.proofs.lemmas.List.{get_or-set_same, get_or-set_other, get_or_append_left, get_or_push}
use Rattle.std.proofs.lemmas.List.Sums.{sum_by-set, sum_by-append, sum_by-cons}
use Rattle.std.proofs.lemmas.Bool.{cases_eq, cases_lt}
use Rattle.ny_num.specs.declared.timing.Timing.{Timing}
use Rattle.ny_list.specs.Store.{ListState, CursorState, list_at}
use Rattle.ny_list.specs.Laws.{StoreLaws}
use Rattle.ny_list.proofs.IndexLemmas.{same_some, none_some, tab_push}
use Rattle.ny_units.specs.Inputs.{reader_of, start_of, IsReader}
use Rattle.ny_units.specs.declared.input.Source.TheVariants.{Reader as ListSource}
use Rattle.ny_mix.specs.declared.part.Part.{Part}
use Rattle.ny_mix.specs.Mixes.{no_part}
use Rattle.ny_heap.specs.declared.sound.Sound.{Sound}
use Rattle.ny_heap.specs.declared.table.Unit.{Unit as UnitData}
use Rattle.ny_heap.specs.declared.table.Table.{Table}
use Rattle.ny_heap.specs.declared.work.Work.{Work}
use Rattle.ny_heap.specs.declared.work.Work.TheVariants.{Leaf as LeafWork, Pair as PairWork, Abs as AbsWork, Resample as ResampleWork, Filter as FilterWork, Mix as MixWork, Channel as ChannelWork}
use Rattle.ny_num.specs.Grid.{index_at}
use Rattle.ny_heap.specs.Heap.{Kind, Mix, Reader, is_reader, blocks_of, taken_after}
use Rattle.ny_heap.specs.Work.{kind_of, inputs_in, source_at, cursor_at, memory_in, waits_in, flat, kept_in, cursors_of_sounds, HasPlaces, HasGiven}
use Rattle.ny_heap.specs.Tasks.{part_of, HasSides, BeginsAt, BringsFrom, Hears}
use Rattle.ny_heap.specs.Table.{unit_at, timing_at, input_of, readers_of, own_in, own_of, mark_in, len_of, stands_at, ShowsFirst, IsTable, IsUnit, IsInput, IsKept, IsRead}
use Rattle.ny_heap.specs.View.{filled_in, last_stop_in, IsHeap}
use Rattle.ny_heap.specs.Attaching.{with_part_in, GetsPart}
use Rattle.ny_heap.proofs.TableLemmas.{place_within}
use Rattle.ny_heap.proofs.ListLemmas.{len_is}
use Rattle.ny_heap.proofs.KeepLemmas.{HoldsCursor, IsKept-to, still_timely}
use Rattle.ny_heap.proofs.RestLemmas.{same_mark}
use Rattle.ny_heap.proofs.CountLemmas.{some_is, is_some_of, held_cons}
use Rattle.ny_heap.proofs.AddLemmas.{reads_as}

-- ---- work with one part more

-- what holds of work that was promised a part, once it has it
pub record HasMore (w : Work) (s : Sound) (owed : ℕ) (t : Timing) (timings : List Timing) : Type 0 where
  pub kind : kind_of (with_part_in w s) ≡ kind_of w
  pub memory : memory_in (with_part_in w s) ≡ memory_in w
  pub count : inputs_in (with_part_in w s) ≡ inputs_in w + 1
  pub before : (k : ℕ) → k < inputs_in w → source_at (with_part_in w s) k ≡ source_at w k
  pub last : source_at (with_part_in w s) (inputs_in w) ≡ ListSource (reads_as s) s.timing.start
  pub sides : HasSides (with_part_in w s)
  pub begins : BeginsAt w t → BeginsAt (with_part_in w s) t
  pub brings : BringsFrom (with_part_in w s) timings
  pub hears : Hears (with_part_in w s) t timings
  pub given : (len done : ℕ) → HasGiven (with_part_in w s) len done
  pub waits : waits_in (with_part_in w s) ≡ waits_in w
  pub places : HasPlaces (with_part_in w s) (owed - 1)

more_of : (w : Work) (s : Sound) (owed : ℕ) (t : Timing) (timings : List Timing) → HasPlaces w owed → 0 < owed → HasMore w s owed t timings
more_of (LeafWork p) s owed t timings places some = absurd (omega (arith, places, some))
more_of (PairWork p a b) s owed t timings places some = absurd (omega (arith, places, some))
more_of (AbsWork a) s owed t timings places some = absurd (omega (arith, places, some))
more_of (ResampleWork r) s owed t timings places some = absurd (omega (arith, places, some))
more_of (FilterWork f start) s owed t timings places some = absurd (omega (arith, places, some))
more_of (MixWork m) s owed t timings places some = record {
  kind = refl;
  memory = refl;
  count = omega (arith, length-append m.parts (part_of s ∷ []));
  before = λ k inside. ap (λ (p : Part). ListSource p.cursor p.start) (get_or_append_left m.parts (part_of s ∷ []) no_part k inside);
  last = ap (λ (p : Part). ListSource p.cursor p.start) (get_or_push m.parts (part_of s) no_part (length m.parts) refl);
  sides = tt;
  begins = λ is. is;
  brings = tt;
  hears = tt;
  given = λ len done. tt;
  waits = refl;
  places = omega (arith, places, some, length-append m.parts (part_of s ∷ []));
}
more_of (ChannelWork p) s owed t timings places some = absurd (omega (arith, places, some))

stands_seen : (block len v j n : ℕ) (o : Option CursorState) → stands_at block len v j (option_map (λ (c : CursorState). record c { visible = n }) o) ≡ stands_at block len v j o
stands_seen block len v j n None = refl
stands_seen block len v j n (Some c) = refl

reads_some : (n : ℕ) (o : Option CursorState) (c : CursorState) → option_map (λ (d : CursorState). record d { visible = n }) o ≡ Some c → (d : CursorState) × (o ≡ Some d) × (c ≡ record d { visible = n })
reads_some n None c is = absurd (none_some is)
reads_some n (Some d) c is = (d, refl, sym (same_some is))

-- a sound without a cursor has none to read
unread : (n : ℕ) (o : Option CursorState) → option_map (λ (d : CursorState). record d { visible = n }) o ≡ None → o ≡ None
unread n None is = refl
unread n (Some d) is = absurd (none_some (sym is))

-- only a mix is promised parts
mix_of : (w : Work) (owed : ℕ) → HasPlaces w owed → 0 < owed → kind_of w ≡ Mix
mix_of (LeafWork p) owed places some = absurd (omega (arith, places, some))
mix_of (PairWork p a b) owed places some = absurd (omega (arith, places, some))
mix_of (AbsWork a) owed places some = absurd (omega (arith, places, some))
mix_of (ResampleWork r) owed places some = absurd (omega (arith, places, some))
mix_of (FilterWork f start) owed places some = absurd (omega (arith, places, some))
mix_of (MixWork m) owed places some = refl
mix_of (ChannelWork p) owed places some = absurd (omega (arith, places, some))

-- a mix has taken nothing of what begins no earlier than where it is filled
taken_later : (block : ℕ) (t input : Timing) (n : ℕ) → t.start + n * block ≤ input.start → taken_after block Mix t input n ≡ 0
unfolding taken_after
taken_later block t input zero before = refl
taken_later block t input (suc n) before = omega (arith, before)

last_pushed : (ts : List Timing) (t : Timing) (stop : ℕ) → last_stop_in stop (ts ++ t ∷ []) ≡ t.stop
last_pushed [] t stop = refl
last_pushed (k ∷ ks) t stop = last_pushed ks t k.stop

-- ---- the unit

module _ (t new : Table) (u : ℕ) (s : Sound) (table : IsTable t (s.reader ∷ [])) (g : GetsPart t new u s) (promised : 0 < g.unit.pending) where
  abbrev x : UnitData
  x = g.unit

  abbrev pub unit_now : UnitData
  unit_now = record g.unit { work = with_part_in g.unit.work s; inputs = g.now.inputs; pending = g.unit.pending - 1 }

  -- how many inputs it had
  abbrev pub had : ℕ
  had = length g.unit.inputs.items

  list_u : (l : ListState) × (list_at t.store u ≡ Some l) × IsUnit t u x l
  list_u = table.units u x g.was

  pub more : HasMore g.unit.work s g.unit.pending g.unit.timing g.now.inputs.items
  more = more_of x.work s x.pending x.timing g.now.inputs.items list_u.2.places promised

  pub units_now : new.units.items ≡ set t.units.items u (Some unit_now)
  units_now = g.units ∙ ap (λ (z : UnitData). set t.units.items u (Some z)) g.is

  pub now_here : unit_at new u ≡ Some unit_now
  now_here = ap (λ xs. get_or xs u None) units_now ∙ get_or-set_same t.units.items u (Some unit_now) None (place_within t.units.items u x g.was)

  pub now_else : (w : ℕ) → w ≢ u → unit_at new w ≡ unit_at t w
  now_else w ne = ap (λ xs. get_or xs w None) units_now ∙ get_or-set_other t.units.items u w (Some unit_now) None ne

  unit_back : (w : ℕ) (z : UnitData) → unit_at new w ≡ Some z → ((w ≡ u) × (z ≡ unit_now)) ⊎ ((w ≢ u) × (unit_at t w ≡ Some z))
  unit_back w z is = elim (cases_eq w u) [
    | inl e ↦ inl (e, same_some (sym is ∙ ap (unit_at new) e ∙ now_here))
    | inr ne ↦ inr (ne, sym (now_else w ne) ∙ is)
  ]

  list_same : (w : ℕ) → list_at new.store w ≡ list_at t.store w
  list_same w = ap (λ r. list_at r w) g.store

  long : length g.now.inputs.items ≡ had + 1
  long = omega (arith, ap length g.inputs, length-append x.inputs.items (s.timing ∷ []))

  had_is : had ≡ inputs_in x.work
  had_is = list_u.2.count

  pub timing_before : (k : ℕ) → k < had → timing_at unit_now k ≡ timing_at g.unit k
  timing_before k inside = ap (λ ts. get_or ts k x.timing) g.inputs ∙ get_or_append_left x.inputs.items (s.timing ∷ []) x.timing k inside

  pub timing_last : timing_at unit_now had ≡ s.timing
  timing_last = ap (λ ts. get_or ts had x.timing) g.inputs ∙ get_or_push x.inputs.items s.timing x.timing had refl

  pub cursor_before : (k : ℕ) → k < had → cursor_at unit_now.work k ≡ cursor_at g.unit.work k
  cursor_before k inside = ap reader_of (more.before k (omega (arith, inside, had_is)))

  pub cursor_last : cursor_at unit_now.work had ≡ reads_as s
  cursor_last = ap (λ k. cursor_at unit_now.work k) had_is ∙ ap reader_of more.last

  pub input_before : (k : ℕ) → k < had → input_of g.unit k ≡ input_of unit_now k
  input_before k inside = λ i. option_map {U = Reader} (λ c. record { node = c.list; place = c.place; timing = sym (timing_before k inside) i }) (sym (cursor_before k inside) i)

  -- its readers are those that it had, and one more
  pub readers_now : readers_of g.unit ++ input_of unit_now had ∷ [] ≡ readers_of unit_now
  readers_now = tab_push (input_of x) (input_of unit_now) had (input_of unit_now had) None input_before refl ∙ ap (λ m. map (input_of unit_now) (range_with_len 0 m)) (sym long)

  last_counts : (block len v j : ℕ) → is_reader block len v j (input_of unit_now had) ≡ stands_at block len v j s.reader
  last_counts block len v j =
      sym (same_mark block len v j (timing_at unit_now had) (cursor_at unit_now.work had)) ∙ ap (stands_at block len v j) cursor_last ∙ stands_seen block len v j s.timing.len s.reader

  pub own_now : (v j : ℕ) → own_in new v j ≡ own_in t v j + stands_at t.block (len_of t.store v) v j s.reader
  own_now v j =
      let n : ℕ = len_of t.store v in
      let f = λ (o : Option UnitData). option_map_or {U = ℕ} (own_of t.block n v j) o 0 in
      let r = is_reader t.block n v j in
      let all : own_in new v j ≡ sum_by f (set t.units.items u (Some unit_now)) =
      ap (λ b. sum_by (λ (o : Option UnitData). option_map_or {U = ℕ} (own_of b (len_of new.store v) v j) o 0) new.units.items) g.block
      ∙ ap (λ q. sum_by (λ (o : Option UnitData). option_map_or {U = ℕ} (own_of t.block (len_of q v) v j) o 0) new.units.items) g.store
      ∙ ap (sum_by f) units_now in
      omega (
        arith,
        all,
        sum_by-set f t.units.items u (Some unit_now) None (place_within t.units.items u x g.was),
        ap f g.was,
        ap (sum_by r) readers_now,
        sum_by-append r (readers_of x) (input_of unit_now had ∷ []),
        sum_by-cons r (input_of unit_now had) [],
        last_counts t.block n v j,
        ap (λ ws. sum_by (stands_at t.block n v j) (cursors_of_sounds (flat ws))) more.waits,
      )

  -- ---- the table

  unit_kept : (w : ℕ) (z : UnitData) (l : ListState) → IsUnit t w z l → IsUnit new w z l
  unit_kept w z l is = record {
    end = is.end;
    len = is.len;
    some = is.some;
    early = is.early;
    count = is.count;
    sides = is.sides;
    begins = is.begins;
    brings = is.brings;
    hears = is.hears;
    given = subst (λ b. HasGiven z.work z.timing.len (min (length l.values * b) z.timing.len)) (sym g.block) is.given;
    places = is.places;
    timings = is.timings;
  }

  unit_then : (l : ListState) → IsUnit t u x l → IsUnit new u unit_now l
  unit_then l is = record {
    end = is.end;
    len = is.len;
    some = is.some;
    early = is.early;
    count = omega (arith, long, had_is, more.count);
    sides = more.sides;
    begins = more.begins is.begins;
    brings = more.brings;
    hears = more.hears;
    given = more.given x.timing.len (min (length l.values * new.block) x.timing.len);
    places = more.places;
    timings = omega (arith, is.timings, long, ap length more.waits, g.capacity, promised);
  }

  input_kept : (z : UnitData) (i : ℕ) (c : CursorState) (l : ListState) → IsInput t z i c l → IsInput new z i c l
  input_kept z i c l is = record { starts = is.starts; sees = is.sees; visible = is.visible; computed = subst (λ b. c.place ≤ min (length l.values * b) l.len) (sym g.block) is.computed }

  input_then : (k : ℕ) (c : CursorState) (l : ListState) → k < had → IsInput t x k c l → IsInput new unit_now k c l
  input_then k c l inside is =
      let i = input_kept x k c l is in
      record {
        starts = ap start_of (more.before k (omega (arith, inside, had_is))) ∙ i.starts ∙ ap (λ (q : Timing). q.start) (sym (timing_before k inside));
        sees = i.sees ∙ ap (λ (q : Timing). q.len) (sym (timing_before k inside));
        visible = i.visible;
        computed = i.computed;
      }

  -- the sound is at the beginning of its list, which stands below the unit in an order
  module _ (shows : (c : CursorState) → s.reader ≡ Some c → ShowsFirst t s c) (rank : ℕ → ℕ) (bound : ℕ) (below : (v : ℕ) (z : UnitData) → unit_at t v ≡ Some z → rank v < bound)
      (lower : (v : ℕ) (z : UnitData) (c : CursorState) → unit_at t v ≡ Some z → HoldsCursor z c → rank c.list < rank v) (edge : (c : CursorState) → s.reader ≡ Some c → rank c.list < rank u) where
    -- the new input reads what the sound did, from its beginning on
    pub input_last : (c : CursorState) → cursor_at unit_now.work had ≡ Some c → (l : ListState) × (list_at t.store c.list ≡ Some l) × (list_at new.store c.list ≡ Some l) × IsInput new unit_now had c l × (c.place ≡ 0) × (0 < c.visible) × (rank c.list < rank u)
    input_last c is =
        let d = reads_some s.timing.len s.reader c (sym cursor_last ∙ is) in
        let f = shows d.0 d.1 in
        let l = some_is (list_at t.store d.0.list) (table.held 0 d.0 d.1) in
        let place : c.place ≡ 0 = ap (λ (k : CursorState). k.place) d.2 ∙ f.begins in
        let sees : c.visible ≡ s.timing.len = ap (λ (k : CursorState). k.visible) d.2 in
        let there : list_at t.store c.list ≡ Some l.0 = ap (λ (k : CursorState). list_at t.store k.list) d.2 ∙ l.1 in (
          l.0,
          there,
          list_same c.list ∙ there,
          record {
            starts = ap (λ k. start_of (source_at unit_now.work k)) had_is ∙ ap start_of more.last ∙ ap (λ (q : Timing). q.start) (sym timing_last);
            sees = sees ∙ ap (λ (q : Timing). q.len) (sym timing_last);
            visible = omega (arith, sees, f.visible, len_is t.store d.0.list l.0 l.1);
            computed = omega (arith, place);
          },
          place,
          omega (arith, sees, f.some),
          subst (λ (k : CursorState). rank k.list < rank u) (sym d.2) (edge d.0 d.1),
        )

    inputs_now : (w i : ℕ) (z : UnitData) (k : ListState) (c : CursorState) → unit_at new w ≡ Some z → list_at new.store w ≡ Some k → i < length z.inputs.items → cursor_at z.work i ≡ Some c → (l : ListState) × (list_at new.store c.list ≡ Some l) × IsInput new z i c l
    inputs_now w i z k c is listed inside cursor = elim (unit_back w z is) [
      | inl e ↦ mine (subst (λ (q : UnitData). i < length q.inputs.items) e.1 inside) (ap (λ (q : UnitData). cursor_at q.work i) (sym e.1) ∙ cursor) z e.1
      | inr e ↦ let a = table.inputs w i z k c e.1 (sym (list_same w) ∙ listed) inside cursor in (a.0, list_same c.list ∙ a.1, input_kept z i c a.0 a.2)
    ]
      where
        mine : i < length unit_now.inputs.items → cursor_at unit_now.work i ≡ Some c → (z : UnitData) → z ≡ unit_now → (l : ListState) × (list_at new.store c.list ≡ Some l) × IsInput new z i c l
        mine within reads z same = elim (cases_lt i had) [
          | inl before ↦
              let a = table.inputs u i x list_u.0 c g.was list_u.1 before (sym (cursor_before i before) ∙ reads) in
              (a.0, list_same c.list ∙ a.1, subst (λ (q : UnitData). IsInput new q i c a.0) (sym same) (input_then i c a.0 before a.2))
          | inr past ↦
              let e : had ≡ i = omega (arith, within, past, long) in
              let a = input_last c (ap (λ k. cursor_at unit_now.work k) e ∙ reads) in
              (a.0, a.2, subst (λ (p : UnitData × ℕ). IsInput new p.0 p.1 c a.0) (λ q. (sym same q, e q)) a.3)
        ]

    lower_now : (w : ℕ) (z : UnitData) (c : CursorState) → unit_at new w ≡ Some z → HoldsCursor z c → rank c.list < rank w
    lower_now w z c is holds = elim (unit_back w z is) [
      | inl e ↦ subst (λ v. rank c.list < rank v) (sym e.0) (mine (subst (λ (q : UnitData). HoldsCursor q c) e.1 holds))
      | inr e ↦ lower w z c e.1 holds
    ]
      where
        mine : HoldsCursor unit_now c → rank c.list < rank u
        mine (inl r) = elim (cases_lt r.0 had) [
          | inl before ↦ lower u x c g.was (inl (r.0, before, sym (cursor_before r.0 before) ∙ r.2))
          | inr past ↦ let e : had ≡ r.0 = omega (arith, r.1, past, long) in (input_last c (ap (λ k. cursor_at unit_now.work k) e ∙ r.2)).6
        ]
        mine (inr k) = lower u x c g.was (inr (k.0, k.1, ap (λ ws. slice_get (flat ws) k.0) (sym more.waits) ∙ k.2, k.3))

    kept_now : (w i : ℕ) (z : UnitData) (q : Sound) → unit_at new w ≡ Some z → slice_get (kept_in z.work) i ≡ Some q → IsKept new q
    kept_now w i z q is keeps = elim (unit_back w z is) [
      | inl e ↦ still q (table.kept u i x q g.was (ap (λ ws. slice_get (flat ws) i) (sym more.waits) ∙ ap (λ (y : UnitData). slice_get (kept_in y.work) i) (sym e.1) ∙ keeps))
      | inr e ↦ still q (table.kept w i z q e.1 keeps)
    ]
      where
        still : (q : Sound) → IsKept t q → IsKept new q
        still q k = IsKept-to t new q (λ c reads there. (subst (λ o. IsSome o) (sym (list_same c.list)) there, ap (λ r. len_of r c.list) g.store)) k

    pub IsTable-attached : IsTable new []
    IsTable-attached = record {
      store = subst StoreLaws (sym g.store) table.store;
      block = ap (λ r. r.block) g.store ∙ table.block ∙ sym g.block;
      loose = ap (λ r. count_by is_some r.loose) g.store ∙ table.loose;
      units = λ w z is. elim (unit_back w z is) [
        | inl e ↦ (list_u.0, list_same w ∙ ap (list_at t.store) e.0 ∙ list_u.1, subst (λ (p : ℕ × UnitData). IsUnit new p.0 p.1 list_u.0) (λ q. (sym e.0 q, sym e.1 q)) (unit_then list_u.0 list_u.2))
        | inr e ↦ let l = table.units w z e.1 in (l.0, list_same w ∙ l.1, unit_kept w z l.0 l.2)
      ];
      lists = λ w some. elim (cases_eq w u) [
        | inl e ↦ is_some_of _ unit_now (ap (unit_at new) e ∙ now_here)
        | inr ne ↦ subst (λ o. IsSome o) (sym (now_else w ne)) (table.lists w (subst (λ o. IsSome o) (list_same w) some))
      ];
      inputs = inputs_now;
      kept = kept_now;
      held = λ i c is. absurd (none_some is);
      counted = λ w j l is.
          omega (
            arith,
            own_now w j,
            held_cons t s.reader [] w j,
            table.counted w j l (sym (list_same w) ∙ is),
            ap (λ r. mark_in r w j) g.store,
          );
      rank = rank;
      bound = bound;
      below = λ w z is. elim (unit_back w z is) [
        | inl e ↦ subst (λ v. rank v < bound) (sym e.0) (below u x g.was)
        | inr e ↦ below w z e.1
      ];
      falls = λ w i z c is inside cursor. lower_now w z c is (inl (i, inside, cursor));
      keeps_lower = λ w i z q c is keeps reads. lower_now w z c is (inr (i, q, keeps, reads));
    }

    pub IsRead-attached : IsRead t → IsRead new
    IsRead-attached read w l is = read w l (sym (list_same w) ∙ is)

    -- ---- between two calls

    -- the unit is filled no further than to where the sound begins, and all that reads it now read no more than is there
    module _ (heap : IsHeap t) (begins : g.unit.timing.start + filled_in t.store u * t.block ≤ s.timing.start) (none : s.reader ≡ None → s.timing.len ≡ 0) (stop : index_at (last_stop_in 0 g.unit.inputs.items) g.unit.timing.rate ≤ index_at s.timing.stop g.unit.timing.rate) where
      filled_same : (w : ℕ) → filled_in new.store w ≡ filled_in t.store w
      filled_same w = ap (λ r. filled_in r w) g.store

      -- it has a block left to fill
      open_still : filled_in t.store u < blocks_of t.block x.timing.len
      open_still = elim (cases_lt (filled_in t.store u) (blocks_of t.block x.timing.len)) [
        | inl less ↦ less
        | inr full ↦ absurd (omega (arith, promised, (heap.waits u x g.was full).1))
      ]

      open_now : filled_in new.store u < blocks_of new.block x.timing.len
      open_now = subst (λ (k : ℕ × ℕ). k.0 < blocks_of k.1 x.timing.len) (λ j. (sym (filled_same u) j, sym g.block j)) open_still

      -- it has taken nothing of what begins no earlier than where it is filled
      taken_nothing : (kind : Kind) → kind ≡ Mix → (input : Timing) → x.timing.start + filled_in t.store u * t.block ≤ input.start → taken_after t.block kind x.timing input (filled_in t.store u) ≡ 0
      taken_nothing kind mix input before = ap (λ k. taken_after t.block k x.timing input (filled_in t.store u)) mix ∙ taken_later t.block x.timing input (filled_in t.store u) before

      is_mix : kind_of x.work ≡ Mix
      is_mix = mix_of x.work x.pending list_u.2.places promised

      taken_last : taken_after new.block (kind_of unit_now.work) x.timing (timing_at unit_now had) (filled_in new.store u) ≡ 0
      taken_last =
          (λ j. taken_after (g.block j) (more.kind j) x.timing (timing_last j) (filled_same u j)) ∙ taken_nothing (kind_of x.work) is_mix s.timing begins

      taken_before : (k : ℕ) → k < had → taken_after t.block (kind_of x.work) x.timing (timing_at x k) (filled_in t.store u) ≡ taken_after new.block (kind_of unit_now.work) x.timing (timing_at unit_now k) (filled_in new.store u)
      taken_before k inside = λ j. taken_after (sym g.block j) (sym more.kind j) x.timing (sym (timing_before k inside) j) (sym (filled_same u) j)

      -- an input of the unit is one of before, or the last
      which : (k : ℕ) → k < length unit_now.inputs.items → (k < had) ⊎ (had ≡ k)
      which k inside = elim (cases_lt k had) [
        | inl before ↦ inl before
        | inr past ↦ inr (omega (arith, inside, past, long))
      ]

      clean_mine : (k : ℕ) (c : CursorState) → k < length unit_now.inputs.items → cursor_at unit_now.work k ≡ Some c → (c.place < c.visible) × (filled_in new.store u < blocks_of new.block unit_now.timing.len)
      clean_mine k c inside is = elim (which k inside) [
        | inl before ↦ ((heap.clean u k x c g.was before (sym (cursor_before k before) ∙ is)).0, open_now)
        | inr e ↦ let a = input_last c (ap (λ i. cursor_at unit_now.work i) e ∙ is) in (omega (arith, a.4, a.5), open_now)
      ]

      needs_mine : (k : ℕ) (c : CursorState) → k < length unit_now.inputs.items → cursor_at unit_now.work k ≡ Some c → c.place ≡ taken_after new.block (kind_of unit_now.work) x.timing (timing_at unit_now k) (filled_in new.store u)
      needs_mine k c inside is = elim (which k inside) [
        | inl before ↦ heap.needs u k x c g.was before (sym (cursor_before k before) ∙ is) ∙ taken_before k before
        | inr e ↦
            let a = input_last c (ap (λ i. cursor_at unit_now.work i) e ∙ is) in
            a.4 ∙ sym taken_last ∙ ap (λ i. taken_after new.block (kind_of unit_now.work) x.timing (timing_at unit_now i) (filled_in new.store u)) e
      ]

      exhausted_mine : (k : ℕ) → k < length unit_now.inputs.items → IsReader (source_at unit_now.work k) → cursor_at unit_now.work k ≡ None → (timing_at unit_now k).len ≤ taken_after new.block (kind_of unit_now.work) x.timing (timing_at unit_now k) (filled_in new.store u)
      exhausted_mine k inside reader is = elim (which k inside) [
        | inl before ↦
            let source = subst IsReader (more.before k (omega (arith, before, had_is))) reader in
            let far = heap.exhausted u k x g.was before source (sym (cursor_before k before) ∙ is) open_still in
            subst (λ n. (timing_at unit_now k).len ≤ n) (taken_before k before) (subst (λ (q : Timing). q.len ≤ taken_after t.block (kind_of x.work) x.timing (timing_at x k) (filled_in t.store u)) (sym (timing_before k before)) far)
        | inr e ↦
            let empty : s.timing.len ≡ 0 = none (unread s.timing.len s.reader (sym cursor_last ∙ ap (λ i. cursor_at unit_now.work i) e ∙ is)) in
            omega (arith, empty, ap (λ (q : Timing). q.len) timing_last, ap (λ i. (timing_at unit_now i).len) e)
      ]

      stop_now : last_stop_in 0 unit_now.inputs.items ≡ s.timing.stop
      stop_now = ap (last_stop_in 0) g.inputs ∙ last_pushed x.inputs.items s.timing 0

      timely_mine : x.timing.start + filled_in new.store u * new.block ≤ index_at (last_stop_in 0 unit_now.inputs.items) x.timing.rate
      timely_mine =
          still_timely x.timing.start (filled_in t.store u) (filled_in new.store u) t.block new.block _ (filled_same u) g.block
          (subst (λ n. x.timing.start + filled_in t.store u * t.block ≤ index_at n x.timing.rate) (sym stop_now) (omega (arith, stop, heap.timely u x g.was (omega (arith, promised)))))

      pub IsHeap-attached : IsHeap new
      IsHeap-attached = record {
        table = IsTable-attached;
        read = IsRead-attached heap.read;
        clean = λ w i z c is inside cursor. elim (unit_back w z is) [
          | inl e ↦
              subst (λ (p : ℕ × UnitData). (c.place < c.visible) × (filled_in new.store p.0 < blocks_of new.block p.1.timing.len)) (λ q. (sym e.0 q, sym e.1 q))
              (clean_mine i c (subst (λ (q : UnitData). i < length q.inputs.items) e.1 inside) (ap (λ (q : UnitData). cursor_at q.work i) (sym e.1) ∙ cursor))
          | inr e ↦ let h = heap.clean w i z c e.1 inside cursor in (h.0, subst (λ (k : ℕ × ℕ). k.0 < blocks_of k.1 z.timing.len) (λ j. (sym (filled_same w) j, sym g.block j)) h.1)
        ];
        needs = λ w i z c is inside cursor. elim (unit_back w z is) [
          | inl e ↦
              needs_mine i c (subst (λ (q : UnitData). i < length q.inputs.items) e.1 inside) (ap (λ (q : UnitData). cursor_at q.work i) (sym e.1) ∙ cursor)
              ∙ (λ j. taken_after new.block (kind_of (sym e.1 j).work) (sym e.1 j).timing (timing_at (sym e.1 j) i) (filled_in new.store (sym e.0 j)))
          | inr e ↦ heap.needs w i z c e.1 inside cursor ∙ (λ j. taken_after (sym g.block j) (kind_of z.work) z.timing (timing_at z i) (sym (filled_same w) j))
        ];
        exhausted = λ w i z is inside reader empty still. elim (unit_back w z is) [
          | inl e ↦
              subst (λ (p : ℕ × UnitData). (timing_at p.1 i).len ≤ taken_after new.block (kind_of p.1.work) p.1.timing (timing_at p.1 i) (filled_in new.store p.0)) (λ q. (sym e.0 q, sym e.1 q))
              (exhausted_mine i (subst (λ (q : UnitData). i < length q.inputs.items) e.1 inside) (subst (λ (q : UnitData). IsReader (source_at q.work i)) e.1 reader) (ap (λ (q : UnitData). cursor_at q.work i) (sym e.1) ∙ empty))
          | inr e ↦
              subst (λ n. (timing_at z i).len ≤ n) (λ j. taken_after (sym g.block j) (kind_of z.work) z.timing (timing_at z i) (sym (filled_same w) j))
              (heap.exhausted w i z e.1 inside reader empty (subst (λ (k : ℕ × ℕ). k.0 < blocks_of k.1 z.timing.len) (λ j. (filled_same w j, g.block j)) still))
        ];
        waits = λ w z is full. elim (unit_back w z is) [
          | inl e ↦ absurd (omega (arith, open_now, subst (λ (p : ℕ × UnitData). blocks_of new.block p.1.timing.len ≤ filled_in new.store p.0) (λ q. (e.0 q, e.1 q)) full))
          | inr e ↦ heap.waits w z e.1 (subst (λ (k : ℕ × ℕ). blocks_of k.1 z.timing.len ≤ k.0) (λ j. (filled_same w j, g.block j)) full)
        ];
        timely = λ w z is owes. elim (unit_back w z is) [
          | inl e ↦
              subst (λ (p : ℕ × UnitData). p.1.timing.start + filled_in new.store p.0 * new.block ≤ index_at (last_stop_in 0 p.1.inputs.items) p.1.timing.rate) (λ q. (sym e.0 q, sym e.1 q)) timely_mine
          | inr e ↦ still_timely z.timing.start (filled_in t.store w) (filled_in new.store w) t.block new.block _ (filled_same w) g.block (heap.timely w z e.1 owes)
        ];
      }
