-- What the parts of a unit that wait keep is dropped, once its last block is filled.
use Rattle.std.proofs.Common.{◌≡◌, ◌≢◌, ◌⊎◌, inl, inr, ℕ, ◌+◌, ◌*◌, ◌<◌, ◌≤◌, min, nat_lt, true, false, cond, List, [], ◌∷◌, ◌++◌, length, map, drop, get_or, slice_get, set, Option, None, Some, IsSome, is_some, count_by, refl, sym, ap, subst, ◌∙◌, arith, append-nil, length-set, Vec, Global}
use Rattle.std.specs.List.{sum_by}
use Rattle.std.specs.Option.{option_map, option_map_or}
use Rattle.std.proofs.lemmas.List.{get_or-set_same, get_or-set_other, map-append, length-drop, length-map}
use Rattle.std.proofs.lemmas.List.Sums.{sum_by-set, sum_by-append}
use Rattle.std.proofs.lemmas.Bool.{cases_eq, ltb-true, ltb-false}
use Rattle.ny_num.specs.declared.timing.Timing.{Timing}
use Rattle.ny_list.specs.Store.{ListState, CursorState, list_at}
use Rattle.ny_list.specs.Laws.{StoreLaws}
use Rattle.ny_list.proofs.IndexLemmas.{same_some, tab_same}
use Rattle.ny_units.specs.Inputs.{start_of, IsReader}
use Rattle.ny_heap.specs.declared.sound.Sound.{Sound}
use Rattle.ny_heap.specs.declared.table.Unit.{Unit as UnitData}
use Rattle.ny_heap.specs.declared.table.Table.{Table}
use Rattle.ny_heap.specs.declared.work.Work.{Work}
use Rattle.ny_heap.specs.declared.work.Work.TheVariants.{Leaf as LeafWork, Pair as PairWork, Abs as AbsWork, Resample as ResampleWork, Filter as FilterWork, Mix as MixWork, Channel as ChannelWork}
use Rattle.ny_heap.specs.Heap.{Reader, is_reader, blocks_of}
use Rattle.ny_heap.specs.Work.{cursor_at, waits_in, flat, kept_in, without_first, HasGiven}
use Rattle.ny_heap.specs.Table.{unit_at, timing_at, input_of, readers_of, own_in, own_of, held_in, mark_in, len_of, stands_at, IsTable, IsUnit, IsInput, IsKept, IsRead, IsThere, Drops, is_open_in}
use Rattle.ny_heap.specs.View.{filled_in}
use Rattle.ny_heap.specs.Filling.{Reworks, Settles, Forgetting, WaitsStill}
use Rattle.ny_heap.proofs.TableLemmas.{place_within}
use Rattle.ny_heap.proofs.KeepLemmas.{filled_is, source_first, cursor_first, places_first, get_before, get_behind, cursor_kept, HoldsCursor, IsKept-to}
use Rattle.ny_heap.proofs.CountLemmas.{some_is, is_some_of, holds_list, holds_lower}
use Rattle.ny_heap.proofs.DropLemmas.{there_of}
use Rattle.ny_heap.proofs.SpentLemmas.{cursors_in, Drops-same}
use Rattle.ny_heap.proofs.InputLemmas.{SameWork}
use Rattle.ny_heap.proofs.PassLemmas.{stays}
use Rattle.ny_heap.proofs.GoingLemmas.{Settles-same, Settles-then}

-- ---- work without its first part that waits

first_same : (w : Work) (t : Timing) (ts : List Timing) → SameWork w (without_first w) t ts
first_same (LeafWork p) t ts = record { kind = refl; memory = refl; count = refl; sides = λ is. is; begins = λ is. is; brings = λ is. is; hears = λ is. is; given = λ len n is. is }
first_same (PairWork p a b) t ts = record { kind = refl; memory = refl; count = refl; sides = λ is. is; begins = λ is. is; brings = λ is. is; hears = λ is. is; given = λ len n is. is }
first_same (AbsWork s) t ts = record { kind = refl; memory = refl; count = refl; sides = λ is. is; begins = λ is. is; brings = λ is. is; hears = λ is. is; given = λ len n is. is }
first_same (ResampleWork r) t ts = record { kind = refl; memory = refl; count = refl; sides = λ is. is; begins = λ is. is; brings = λ is. is; hears = λ is. is; given = λ len n is. is }
first_same (FilterWork f start) t ts = record { kind = refl; memory = refl; count = refl; sides = λ is. is; begins = λ is. is; brings = λ is. is; hears = λ is. is; given = λ len n is. is }
first_same (MixWork m) t ts = record { kind = refl; memory = refl; count = refl; sides = λ is. is; begins = λ is. is; brings = λ is. is; hears = λ is. is; given = λ len n is. is }
first_same (ChannelWork p) t ts = record { kind = refl; memory = refl; count = refl; sides = λ is. is; begins = λ is. is; brings = λ is. is; hears = λ is. is; given = λ len n is. is }

none_first : (w : Work) → waits_in w ≡ [] → waits_in (without_first w) ≡ []
none_first (LeafWork p) none = refl
none_first (PairWork p a b) none = refl
none_first (AbsWork s) none = refl
none_first (ResampleWork r) none = refl
none_first (FilterWork f start) none = refl
none_first (MixWork m) none = by m.waiting none
  where
    by : (vs : List (Vec Sound Global)) → map (λ (v : Vec Sound Global). v.items) vs ≡ [] → map (λ (v : Vec Sound Global). v.items) (drop 1 vs) ≡ []
    by [] none = refl
    by (v ∷ vs) none = absurd (omega (arith, ap length none))
none_first (ChannelWork p) none = refl

fewer_first : (w : Work) → length (waits_in (without_first w)) ≤ length (waits_in w)
fewer_first (LeafWork p) = omega arith
fewer_first (PairWork p a b) = omega arith
fewer_first (AbsWork s) = omega arith
fewer_first (ResampleWork r) = omega arith
fewer_first (FilterWork f start) = omega arith
fewer_first (MixWork m) = omega (arith, length-map (drop 1 m.waiting) (λ (v : Vec Sound Global). v.items), length-drop 1 m.waiting, length-map m.waiting (λ (v : Vec Sound Global). v.items))
fewer_first (ChannelWork p) = omega arith

-- ---- what the first part keeps is taken in hand

module _ (t mid : Table) (u : ℕ) (x : UnitData) (kept : List Sound) (table : IsTable t []) (at : unit_at t u ≡ Some x) (apart : kept_in x.work ≡ kept ++ kept_in (without_first x.work)) (took : Reworks t mid u x (without_first x.work)) where
  abbrev unit_now : UnitData
  unit_now = record x { work = without_first x.work }

  pub now_here : unit_at mid u ≡ Some unit_now
  now_here = ap (λ xs. get_or xs u None) took.units ∙ get_or-set_same t.units.items u (Some unit_now) None (place_within t.units.items u x at)

  now_else : (w : ℕ) → w ≢ u → unit_at mid w ≡ unit_at t w
  now_else w ne = ap (λ xs. get_or xs w None) took.units ∙ get_or-set_other t.units.items u w (Some unit_now) None ne

  list_same : (w : ℕ) → list_at mid.store w ≡ list_at t.store w
  list_same w = ap (λ s. list_at s w) took.store

  len_same : (w : ℕ) → len_of mid.store w ≡ len_of t.store w
  len_same w = ap (λ s. len_of s w) took.store

  -- a unit other than u is as it was
  unit_back : (w : ℕ) (z : UnitData) → unit_at mid w ≡ Some z → ((w ≡ u) × (z ≡ unit_now)) ⊎ ((w ≢ u) × (unit_at t w ≡ Some z))
  unit_back w z is = elim (cases_eq w u) [
    | inl e ↦ inl (e, same_some (sym is ∙ ap (unit_at mid) e ∙ now_here))
    | inr ne ↦ inr (ne, sym (now_else w ne) ∙ is)
  ]

  holds_before : (c : CursorState) → HoldsCursor unit_now c → HoldsCursor x c
  holds_before c (inl r) = inl (r.0, r.1, sym (cursor_first x.work r.0) ∙ r.2)
  holds_before c (inr k) =
      let j = get_behind kept (kept_in (without_first x.work)) k.0 k.1 k.2 in
      inr (j.0, k.1, ap (λ ss. slice_get ss j.0) apart ∙ j.1, k.3)

  -- what a unit holds now it held before
  holds_was : (w : ℕ) (z : UnitData) (c : CursorState) → unit_at mid w ≡ Some z → HoldsCursor z c → (q : UnitData) × (unit_at t w ≡ Some q) × HoldsCursor q c
  holds_was w z c is holds = elim (unit_back w z is) [
    | inl e ↦ (x, ap (unit_at t) e.0 ∙ at, holds_before c (subst (λ (q : UnitData). HoldsCursor q c) e.1 holds))
    | inr e ↦ (z, e.1, holds)
  ]

  taken_held : (i : ℕ) (c : CursorState) → get_or (cursors_in kept) i None ≡ Some c → HoldsCursor x c
  taken_held i c is =
      let s = cursor_kept kept i c is in
      inr (i, s.0, ap (λ ss. slice_get ss i) apart ∙ get_before kept (kept_in (without_first x.work)) i s.0 s.1, s.2)

  -- ---- who stands where

  same_readers : readers_of unit_now ≡ readers_of x
  same_readers = tab_same (input_of unit_now) (input_of x) (length x.inputs.items) None (λ i h. ap (option_map {U = Reader} (λ c. record { node = c.list; place = c.place; timing = timing_at x i })) (cursor_first x.work i))

  pub own_apart : (v j : ℕ) → own_in mid v j + held_in mid (cursors_in kept) v j ≡ own_in t v j
  own_apart v j =
      let n : ℕ = len_of t.store v in
      let f = λ (o : Option UnitData). option_map_or {U = ℕ} (own_of t.block n v j) o 0 in
      let g = stands_at t.block n v j in
      let all : own_in mid v j ≡ sum_by f (set t.units.items u (Some unit_now)) =
      ap (λ b. sum_by (λ (o : Option UnitData). option_map_or {U = ℕ} (own_of b (len_of mid.store v) v j) o 0) mid.units.items) took.block
      ∙ ap (λ m. sum_by (λ (o : Option UnitData). option_map_or {U = ℕ} (own_of t.block m v j) o 0) mid.units.items) (len_same v)
      ∙ ap (sum_by f) took.units in
      let held : held_in mid (cursors_in kept) v j ≡ sum_by g (cursors_in kept) = ap (λ b. sum_by (stands_at b (len_of mid.store v) v j) (cursors_in kept)) took.block ∙ ap (λ m. sum_by (stands_at t.block m v j) (cursors_in kept)) (len_same v) in
      omega (
        arith,
        all,
        held,
        sum_by-set f t.units.items u (Some unit_now) None (place_within t.units.items u x at),
        ap f at,
        ap (sum_by (is_reader t.block n v j)) same_readers,
        ap (λ ss. sum_by g (cursors_in ss)) apart,
        ap (sum_by g) (map-append (λ (s : Sound). s.reader) kept (kept_in (without_first x.work))),
        sum_by-append g (cursors_in kept) (cursors_in (kept_in (without_first x.work))),
      )

  -- ---- the table

  list_u : (l : ListState) × (list_at t.store u ≡ Some l) × IsUnit t u x l
  list_u = table.units u x at

  same : SameWork x.work (without_first x.work) x.timing x.inputs.items
  same = first_same x.work x.timing x.inputs.items

  unit_kept : (w : ℕ) (z : UnitData) (l : ListState) → IsUnit t w z l → IsUnit mid w z l
  unit_kept w z l is = record {
    end = is.end;
    len = is.len;
    some = is.some;
    early = is.early;
    count = is.count;
    sides = is.sides;
    begins = is.begins;
    brings = is.brings;
    hears = is.hears;
    given = subst (λ b. HasGiven z.work z.timing.len (min (length l.values * b) z.timing.len)) (sym took.block) is.given;
    places = is.places;
    timings = is.timings;
  }

  unit_then : (l : ListState) → IsUnit t u x l → IsUnit mid u unit_now l
  unit_then l is = record {
    end = is.end;
    len = is.len;
    some = is.some;
    early = is.early;
    count = is.count ∙ sym same.count;
    sides = same.sides is.sides;
    begins = same.begins is.begins;
    brings = same.brings is.brings;
    hears = same.hears is.hears;
    given = same.given x.timing.len (min (length l.values * mid.block) x.timing.len) (subst (λ b. HasGiven x.work x.timing.len (min (length l.values * b) x.timing.len)) (sym took.block) is.given);
    places = places_first x.work x.pending is.places;
    timings = omega (arith, is.timings, fewer_first x.work);
  }

  input_kept : (z : UnitData) (i : ℕ) (c : CursorState) (l : ListState) → IsInput t z i c l → IsInput mid z i c l
  input_kept z i c l is = record { starts = is.starts; sees = is.sees; visible = is.visible; computed = subst (λ b. c.place ≤ min (length l.values * b) l.len) (sym took.block) is.computed }

  input_then : (i : ℕ) (c : CursorState) (l : ListState) → IsInput t x i c l → IsInput mid unit_now i c l
  input_then i c l is =
      let k = input_kept x i c l is in
      record { starts = ap start_of (source_first x.work i) ∙ k.starts; sees = k.sees; visible = k.visible; computed = k.computed }

  unit_lists : (w : ℕ) (z : UnitData) → unit_at mid w ≡ Some z → (l : ListState) × (list_at mid.store w ≡ Some l) × IsUnit mid w z l
  unit_lists w z is = elim (unit_back w z is) [
    | inl e ↦ (list_u.0, list_same w ∙ ap (list_at t.store) e.0 ∙ list_u.1, subst (λ (p : ℕ × UnitData). IsUnit mid p.0 p.1 list_u.0) (λ q. (sym e.0 q, sym e.1 q)) (unit_then list_u.0 list_u.2))
    | inr e ↦ let l = table.units w z e.1 in (l.0, list_same w ∙ l.1, unit_kept w z l.0 l.2)
  ]

  inputs_now : (w i : ℕ) (z : UnitData) (k : ListState) (c : CursorState) → unit_at mid w ≡ Some z → list_at mid.store w ≡ Some k → i < length z.inputs.items → cursor_at z.work i ≡ Some c
      → (l : ListState) × (list_at mid.store c.list ≡ Some l) × IsInput mid z i c l
  inputs_now w i z k c is listed inside cursor = elim (unit_back w z is) [
    | inl e ↦
        let within : i < length x.inputs.items = subst (λ (q : UnitData). i < length q.inputs.items) e.1 inside in
        let reads : cursor_at x.work i ≡ Some c = sym (cursor_first x.work i) ∙ ap (λ (q : UnitData). cursor_at q.work i) (sym e.1) ∙ cursor in
        let a = table.inputs u i x list_u.0 c at list_u.1 within reads in
        (a.0, list_same c.list ∙ a.1, subst (λ (q : UnitData). IsInput mid q i c a.0) (sym e.1) (input_then i c a.0 a.2))
    | inr e ↦ let a = table.inputs w i z k c e.1 (sym (list_same w) ∙ listed) inside cursor in (a.0, list_same c.list ∙ a.1, input_kept z i c a.0 a.2)
  ]

  kept_now : (w i : ℕ) (z : UnitData) (s : Sound) → unit_at mid w ≡ Some z → slice_get (kept_in z.work) i ≡ Some s → IsKept mid s
  kept_now w i z s is keeps = elim (unit_back w z is) [
    | inl e ↦
        let j = get_behind kept (kept_in (without_first x.work)) i s (ap (λ (q : UnitData). slice_get (kept_in q.work) i) (sym e.1) ∙ keeps) in
        still s (table.kept u j.0 x s at (ap (λ ss. slice_get ss j.0) apart ∙ j.1))
    | inr e ↦ still s (table.kept w i z s e.1 keeps)
  ]
    where
      still : (s : Sound) → IsKept t s → IsKept mid s
      still s k = IsKept-to t mid s (λ c reads there. (subst (λ o. IsSome o) (sym (list_same c.list)) there, len_same c.list)) k

  pub now_below : (w : ℕ) (z : UnitData) → unit_at mid w ≡ Some z → table.rank w < table.bound
  now_below w z is = elim (unit_back w z is) [
    | inl e ↦ omega (arith, ap table.rank e.0, table.below u x at)
    | inr e ↦ table.below w z e.1
  ]

  now_lower : (w : ℕ) (z : UnitData) (c : CursorState) → unit_at mid w ≡ Some z → HoldsCursor z c → table.rank c.list < table.rank w
  now_lower w z c is holds = let q = holds_was w z c is holds in holds_lower t [] w q.0 c table q.1 q.2

  now_falls : (w i : ℕ) (z : UnitData) (c : CursorState) → unit_at mid w ≡ Some z → i < length z.inputs.items → cursor_at z.work i ≡ Some c → table.rank c.list < table.rank w
  now_falls w i z c is inside cursor = now_lower w z c is (inl (i, inside, cursor))

  now_keeps : (w i : ℕ) (z : UnitData) (s : Sound) (c : CursorState) → unit_at mid w ≡ Some z → slice_get (kept_in z.work) i ≡ Some s → s.reader ≡ Some c → table.rank c.list < table.rank w
  now_keeps w i z s c is keeps reads = now_lower w z c is (inr (i, s, keeps, reads))

  pub IsTable-unkept : IsTable mid (cursors_in kept)
  IsTable-unkept = record {
    store = subst StoreLaws (sym took.store) table.store;
    block = ap (λ s. s.block) took.store ∙ table.block ∙ sym took.block;
    loose = ap (λ s. count_by is_some s.loose) took.store ∙ table.loose;
    units = unit_lists;
    lists = λ w some. elim (cases_eq w u) [
      | inl e ↦ is_some_of _ unit_now (ap (unit_at mid) e ∙ now_here)
      | inr ne ↦ subst (λ o. IsSome o) (sym (now_else w ne)) (table.lists w (subst (λ o. IsSome o) (list_same w) some))
    ];
    inputs = inputs_now;
    kept = kept_now;
    held = λ i c is. subst (λ o. IsSome o) (sym (list_same c.list)) (holds_list t [] u x c table at (taken_held i c is));
    counted = λ w j l is. omega (arith, own_apart w j, table.counted w j l (sym (list_same w) ∙ is), ap (λ s. mark_in s w j) took.store);
    rank = table.rank;
    bound = table.bound;
    below = now_below;
    falls = now_falls;
    keeps_lower = now_keeps;
  }

  -- ---- and dropped

  module _ (new : Table) (drops : Drops mid new (cursors_in kept) []) (read : IsRead t) where
    read_mid : IsRead mid
    read_mid w l is = read w l (sym (list_same w) ∙ is)

    still_there : unit_at new u ≡ Some unit_now
    still_there =
        let y = some_is (unit_at new u) (stays mid new (cursors_in kept) IsTable-unkept read_mid drops table.rank table.bound (table.rank u) (λ i c is. holds_lower t [] u x c table at (taken_held i c is))
        now_below now_falls now_keeps table.bound u unit_now now_here (omega arith) (omega arith)) in
        y.1 ∙ ap Some (same_some (sym (drops.kept u y.0 y.1) ∙ now_here))

    table_then : IsTable new []
    table_then = drops.table [] (subst (IsTable mid) (sym (append-nil (cursors_in kept))) IsTable-unkept)

    settles_once : blocks_of t.block x.timing.len ≤ filled_in t.store u → Settles t new u 0 0
    settles_once filled = record {
      was = x;
      there = at;
      now = unit_now;
      after = still_there;
      is = refl;
      kind = same.kind;
      memory = same.memory;
      inside = λ k from to within. absurd (omega (arith, to));
      outside = λ k out within. cursor_first x.work k;
      sources = λ k within is. subst IsReader (source_first x.work k) is;
      waits = inr filled;
      block = drops.block ∙ took.block;
      pool = drops.pool ∙ ap (λ s. length s.loose) took.store;
      slots = drops.slots ∙ ap length took.units ∙ length-set t.units.items u (Some unit_now);
      others = λ w y ne is. sym (now_else w ne) ∙ drops.kept w y is;
      lists = λ w l is. let d = drops.lists w l is in (d.0, sym (list_same w) ∙ d.1, d.2);
      marks = λ w j l is. omega (arith, drops.others w j l is, own_apart w j, ap (λ s. mark_in s w j) took.store);
      gone = λ w j k is none. omega (arith, drops.gone w j k (list_same w ∙ is) none, own_apart w j, ap (λ s. mark_in s w j) took.store);
    }

-- ---- the loop over what the parts keep

module _ (start t : Table) (u : ℕ) (f : Forgetting start t u) where
  pub forgetting_there : IsSome (unit_at t u)
  forgetting_there = is_some_of _ f.settles.now f.settles.after

  same_filled : filled_in t.store u ≡ filled_in start.store u
  same_filled =
      let l = f.table.units u f.settles.now f.settles.after in
      let k = f.settles.lists u l.0 l.1 in
      filled_is t.store u l.0 l.1 ∙ k.2.filled ∙ sym (filled_is start.store u k.0 k.1)

  past_end : (x : UnitData) → unit_at t u ≡ Some x → blocks_of t.block x.timing.len ≤ filled_in t.store u
  past_end x at =
      let same : x.timing.len ≡ f.settles.was.timing.len = ap (λ (z : UnitData). z.timing.len) (same_some (sym at ∙ f.settles.after) ∙ f.settles.is) in
      subst (λ (k : ℕ × ℕ × ℕ). blocks_of k.0 k.1 ≤ k.2) (λ i. (sym f.settles.block i, sym same i, sym same_filled i)) (f.filled f.settles.was f.settles.there)

  module _ (x : UnitData) (kept : List Sound) (at : unit_at t u ≡ Some x) (mid : Table) (apart : kept_in x.work ≡ kept ++ kept_in (without_first x.work)) (took : Reworks t mid u x (without_first x.work)) (new : Table) (drops : Drops mid new (cursors_in kept) []) where
    pub Forgetting-more : Forgetting start new u
    Forgetting-more = record {
      table = table_then t mid u x kept f.table at apart took new drops f.read;
      read = drops.read (read_mid t mid u x kept f.table at apart took new drops f.read);
      settles = Settles-then start t new u 0 0 (omega arith) f.settles (settles_once t mid u x kept f.table at apart took new drops f.read (past_end x at)) same_filled;
      filled = f.filled;
    }

    pub forgot_one : unit_at new u ≡ Some (record x { work = without_first x.work })
    forgot_one = still_there t mid u x kept f.table at apart took new drops f.read

-- what is kept once the first part is taken out
pub first_apart : (w : Work) (kept : List Sound) → waits_in w ≡ kept ∷ waits_in (without_first w) → kept_in w ≡ kept ++ kept_in (without_first w)
first_apart w kept is = ap flat is

none_apart : (w : Work) → waits_in w ≡ [] → kept_in w ≡ [] ++ kept_in (without_first w)
none_apart w none = ap flat none ∙ ap flat (sym (none_first w none))

-- how many parts of a unit wait
abbrev pub waiting_of : Table → ℕ → ℕ
waiting_of t u = option_map_or {U = ℕ} (λ (x : UnitData). length (waits_in x.work)) (unit_at t u) 0

-- none waits
pub Forgetting-none : (start t mid : Table) (u : ℕ) (f : Forgetting start t u) (x : UnitData) → unit_at t u ≡ Some x → waits_in x.work ≡ [] → Reworks t mid u x (without_first x.work) → Forgetting start mid u
Forgetting-none start t mid u f x at none took = Forgetting-more start t u f x [] at mid (none_apart x.work none) took mid (Drops-same mid [])

pub forgot_all : (start t mid : Table) (u : ℕ) (f : Forgetting start t u) (x : UnitData) → unit_at t u ≡ Some x → waits_in x.work ≡ [] → Reworks t mid u x (without_first x.work) → (y : UnitData) → unit_at mid u ≡ Some y → waits_in y.work ≡ []
forgot_all start t mid u f x at none took y is =
    ap (λ (z : UnitData). waits_in z.work) (same_some (sym is ∙ now_here t mid u x [] f.table at (none_apart x.work none) took)) ∙ none_first x.work none

-- one fewer
pub forgot_fewer : (t new : Table) (u : ℕ) (x : UnitData) (kept : List Sound) → unit_at t u ≡ Some x → waits_in x.work ≡ kept ∷ waits_in (without_first x.work) → unit_at new u ≡ Some (record x { work = without_first x.work }) → waiting_of new u < waiting_of t u
forgot_fewer t new u x kept at is after =
    let f = λ (o : Option UnitData). option_map_or {U = ℕ} (λ (z : UnitData). length (waits_in z.work)) o 0 in
    omega (arith, ap f at, ap f after, ap length is)

-- ---- all is settled

module _ (t : Table) (u : ℕ) (x : UnitData) (table : IsTable t []) (at : unit_at t u ≡ Some x) where
  open_here : is_open_in t u ≡ nat_lt (filled_in t.store u) (blocks_of t.block x.timing.len)
  open_here =
      let l = table.units u x at in
      ap (λ (o : Option ListState). option_map_or (λ k. nat_lt (length k.values) (blocks_of t.block k.len)) o false) l.1
      ∙ ap (λ n. nat_lt n (blocks_of t.block l.0.len)) (sym (filled_is t.store u l.0 l.1)) ∙ ap (λ n. nat_lt (filled_in t.store u) (blocks_of t.block n)) l.2.len

module _ (old t : Table) (u n : ℕ) (table : IsTable t []) (read : IsRead t) (p : Settles old t u 0 n) where
  pub settled_there : IsThere t u
  settled_there = let l = table.units u p.now p.after in there_of t u [] table (is_some_of _ l.0 l.1)

  settled_filled : filled_in t.store u ≡ filled_in old.store u
  settled_filled =
      let l = table.units u p.now p.after in
      let k = p.lists u l.0 l.1 in
      filled_is t.store u l.0 l.1 ∙ k.2.filled ∙ sym (filled_is old.store u k.0 k.1)

  settled_open : is_open_in t u ≡ nat_lt (filled_in old.store u) (blocks_of old.block p.was.timing.len)
  settled_open =
      open_here t u p.now table p.after
      ∙ (λ i. nat_lt (settled_filled i) (blocks_of (p.block i) (ap (λ (z : UnitData). z.timing.len) p.is i)))

  -- a block is left to fill
  pub WaitsStill-open : is_open_in t u ≡ true → WaitsStill old t u
  WaitsStill-open opened x y was now =
      ap (λ (z : UnitData). waits_in z.work) (same_some (sym now ∙ p.after)) ∙ same p.waits
      ∙ ap (λ b. cond b (waits_in x.work) []) (sym (sym (ap (λ (z : UnitData). nat_lt (filled_in old.store u) (blocks_of old.block z.timing.len)) x_is) ∙ sym settled_open ∙ opened))
    where
      x_is : p.was ≡ x
      x_is = same_some (sym p.there ∙ was)

      same : (waits_in p.now.work ≡ waits_in p.was.work) ⊎ (blocks_of old.block p.was.timing.len ≤ filled_in old.store u) → waits_in p.now.work ≡ waits_in x.work
      same (inl e) = e ∙ ap (λ (z : UnitData). waits_in z.work) x_is
      same (inr past) = absurd (omega (arith, past, ltb-true (filled_in old.store u) (blocks_of old.block p.was.timing.len) (sym settled_open ∙ opened)))

  module _ (closed : is_open_in t u ≡ false) where
    closed_was : nat_lt (filled_in old.store u) (blocks_of old.block p.was.timing.len) ≡ false
    closed_was = sym settled_open ∙ closed

    pub Forgetting-begun : Forgetting t t u
    Forgetting-begun = record {
      table = table;
      read = read;
      settles = Settles-same t u 0 0 p.now p.after (λ k from to. absurd (omega (arith, to)));
      filled = λ x at. ltb-false (filled_in t.store u) (blocks_of t.block x.timing.len) (sym (open_here t u x table at) ∙ closed);
    }

    module _ (new : Table) (f : Forgetting t new u) where
      pub Settles-forgot : Settles old new u 0 n
      Settles-forgot = Settles-joined settled_filled
        where
          Settles-joined : filled_in t.store u ≡ filled_in old.store u → Settles old new u 0 n
          Settles-joined filled = Settles-then old t new u n n (omega arith) p (widened f.settles) filled
            where
              widened : Settles t new u 0 0 → Settles t new u n n
              widened q = record {
                was = q.was;
                there = q.there;
                now = q.now;
                after = q.after;
                is = q.is;
                kind = q.kind;
                memory = q.memory;
                inside = λ k from to within. absurd (omega (arith, from, to));
                outside = λ k out within. q.outside k (inr (omega arith)) within;
                sources = q.sources;
                waits = q.waits;
                block = q.block;
                pool = q.pool;
                slots = q.slots;
                others = q.others;
                lists = q.lists;
                marks = q.marks;
                gone = q.gone;
              }

      pub WaitsStill-forgot : ((y : UnitData) → unit_at new u ≡ Some y → waits_in y.work ≡ []) → WaitsStill old new u
      WaitsStill-forgot none x y was now =
          none y now
          ∙ ap (λ b. cond b (waits_in x.work) []) (sym (sym (ap (λ (z : UnitData). nat_lt (filled_in old.store u) (blocks_of old.block z.timing.len)) (same_some (sym p.there ∙ was))) ∙ closed_was))
