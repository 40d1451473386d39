-- One unit more, with its list, over sounds that are spent for it.
use Rattle.std.proofs.Common.{◌≡◌, ◌≢◌, ◌⊎◌, inl, inr, cond, nat_eq, ℕ, zero, suc, ◌+◌, ◌-◌, ◌*◌, ◌<◌, ◌≤◌, ◌^◌, min, List, [], ◌∷◌, ◌++◌, length, map, get_or, slice_get, set, vec_capacity, Vec, Global, Option, None, Some, IsSome, is_some, count_by, refl, sym, ap, subst, ◌∙◌, arith}
use Rattle.std.specs.List.{sum_by}
use Rattle.std.specs.Option.{option_map, option_map_or, ForSome}
use Rattle.std.specs.List.{range_with_len}
use Rattle.std.proofs.lemmas.List.{get_or-set_same, get_or-set_other, get_or-map, get_or_append_left, map-append, length-append}
use Rattle.std.proofs.lemmas.List.Elements.{All-get_or}
use Rattle.std.proofs.lemmas.Nat.{le-div}
use Rattle.std.proofs.lemmas.List.Sums.{sum_by-set}
use Rattle.std.proofs.lemmas.List.FromFn.{length-map-range_with_len}
use Rattle.std.proofs.lemmas.Bool.{cases_eq, cases_lt, eq-eqb, ne_eqb}
use Rattle.ny_list.specs.Store.{ListState, StoreState, CursorState, list_at, cursors_of}
use Rattle.ny_list.specs.Steps.{begun, with_list, Begins}
use Rattle.ny_list.specs.Laws.{StoreLaws}
use Rattle.ny_num.specs.declared.timing.Timing.{Timing}
use Rattle.std.specs.Vec.{with_item}
use Rattle.ny_list.proofs.IndexLemmas.{same_some, none_some, sums_agree, tab_get}
use Rattle.ny_units.specs.Inputs.{reader_of, source_of, start_of}
use Rattle.ny_heap.specs.declared.sound.Sound.{Sound}
use Rattle.ny_heap.specs.declared.table.Unit.{Unit as UnitData}
use Rattle.ny_heap.specs.declared.table.Table.{Table}
use Rattle.ny_heap.specs.declared.task.Task.{Task}
use Rattle.ny_heap.specs.declared.work.Work.{Work}
use Rattle.ny_heap.specs.Steps.{first_memory}
use Rattle.ny_heap.specs.Work.{kind_of, inputs_in, source_at, cursor_at, memory_in, waits_in, flat, kept_in, HasPlaces, HasGiven}
use Rattle.ny_units.specs.declared.input.Source.{Source}
use Rattle.ny_heap.specs.declared.task.Task.TheVariants.{Made as MadeTask, Mix as MixTask, Channel as ChannelTask}
use Rattle.ny_heap.specs.Tasks.{IsTask, IsOver, ReadsSound, BeginsWork, waits_of_task, input_of_sound, HasSides, BeginsAt, BringsFrom, Hears}
use Rattle.ny_heap.specs.Making.{HasRoom, Places, Adds, ShowFirst}
use Rattle.ny_heap.specs.Heap.{Kind, blocks_of, taken_after}
use Rattle.ny_heap.specs.Table.{unit_at, timing_at, own_in, own_of, held_in, len_of, mark_in, stands_at, ShowsFirst, IsTable, IsUnit, IsInput, IsKept, IsRead}
use Rattle.ny_heap.specs.View.{filled_in, IsClean, IsAtNeed, IsExhausted, WaitsForNothing, IsHeap, last_stop_in, IsTimely}
use Rattle.ny_heap.proofs.ListLemmas.{list_here, list_other, len_is}
use Rattle.ny_heap.proofs.RestLemmas.{inputs_rest}
use Rattle.ny_heap.proofs.KeepLemmas.{some_term, unit_uses, HoldsCursor, kept_at, get_behind, IsKept-to, still_timely}
use Rattle.ny_heap.proofs.CountLemmas.{some_is, is_some_of, holds_list, holds_lower, held_append}
use Rattle.ny_heap.proofs.SpentLemmas.{cursors_in}
use Rattle.ny_num.specs.Grid.{index_at}

-- ---- the table once a list was begun and its unit was put in its place

pub placed : (t : Table) (store : StoreState) (n m : ℕ) (c : CursorState) (x : UnitData) → HasRoom t → Begins t.store store n x.timing.len 0 c → StoreLaws store → m ≡ n → x.list ≡ n → x.pending ≡ 0
    → Places t (record t { store = store; units = with_item t.units m (Some x) }) c.list x.work x.timing x.inputs
placed t store n m c x room begins laws number end pending =
    let e : n ≡ c.list = sym (ap (λ (d : CursorState). d.list) begins.cursor) in
    record {
      unit = x;
      does = refl;
      heard = refl;
      reads = refl;
      pending = pending;
      end = end ∙ e;
      place = omega (arith, room.unit, begins.within, e);
      within = omega (arith, begins.within, e);
      vacant = sym (ap (list_at t.store) e) ∙ begins.vacant;
      units = ap (λ k. set t.units.items k (Some x)) (number ∙ e);
      store = begins.after ∙ ap (λ k. with_list t.store k (Some (begun x.timing.len 0))) e;
      laws = laws;
      block = refl;
    }

source_reads : (s : Sound) (o : Option CursorState) → s.reader ≡ o → reader_of (source_of (input_of_sound (record s { reader = o }))) ≡ option_map (λ (c : CursorState). record c { visible = s.timing.len }) o
source_reads s None e = refl
source_reads s (Some c) e = refl

pub source_starts : (s : Sound) (d : CursorState) → s.reader ≡ Some d → start_of (source_of (input_of_sound s)) ≡ s.timing.start
source_starts s d e = ap (λ (o : Option CursorState). start_of (source_of (input_of_sound (record s { reader = o })))) e

-- a sound as an input reads what the sound does
input_reads : (a : Source) (s : Sound) → a ≡ source_of (input_of_sound s) → ReadsSound a s
input_reads a s is = record {
  reads = ap reader_of is ∙ source_reads s s.reader refl;
  starts = λ some. let c = some_is s.reader some in ap start_of is ∙ source_starts s c.0 c.1;
}

sound_read : (task : Task) (a : Source) (s : Sound) → IsOver task a s → ReadsSound a s
sound_read (MadeTask make) a s is = input_reads a s is
sound_read (MixTask waits) a s is = is
sound_read ChannelTask a s is = input_reads a s is

-- and then it is one that begins a task's work over these sounds
pub adds_of : (old new : Table) (n : ℕ) (work : Work) (timing : Timing) (inputs : Vec Timing Global) (task : Task) (sounds : List Sound) (p : Places old new n work timing inputs)
    → BeginsWork task sounds timing work → IsTask task timing.len → inputs.items ≡ map (λ (s : Sound). s.timing) sounds → length inputs.items + length (waits_of_task task) ≤ vec_capacity inputs
    → 0 < timing.len → timing.start + timing.len < 2 ^ 32
    → Adds old new n p.unit sounds (waits_of_task task)
adds_of old new n work timing inputs task sounds p b is_task heard room some early =
    let does = sym p.does in
    let at = sym p.heard in
    let reads : inputs.items ≡ p.unit.inputs.items = ap (λ (v : Vec Timing Global). v.items) (sym p.reads) in
    let waits : waits_in p.unit.work ≡ waits_of_task task = ap waits_in (sym does) ∙ b.waits in
    record {
      place = p.place;
      within = p.within;
      vacant = p.vacant;
      units = p.units;
      store = p.store ∙ ap (λ (t : Timing). with_list old.store n (Some (begun t.len 0))) at;
      laws = p.laws;
      block = p.block;
      end = p.end;
      some = subst (λ (t : Timing). 0 < t.len) at some;
      early = subst (λ (t : Timing). t.start + t.len < 2 ^ 32) at early;
      inputs = sym reads ∙ heard;
      count = sym b.count ∙ ap inputs_in does;
      sides = subst HasSides does b.sides;
      begins = subst (λ (q : Work × Timing). BeginsAt q.0 q.1) (λ i. (does i, at i)) b.begins;
      brings = subst (λ (q : Work × List Timing). BringsFrom q.0 q.1) (λ i. (does i, (sym heard ∙ reads) i)) b.brings;
      hears = subst (λ (q : Work × Timing × List Timing). Hears q.0 q.1 q.2) (λ i. (does i, at i, (sym heard ∙ reads) i)) b.hears;
      memory = sym (ap memory_in does) ∙ b.memory ∙ ap (λ k. first_memory k sounds) (sym b.kind ∙ ap kind_of does);
      given = subst (λ (q : Work × Timing). HasGiven q.0 q.1.len 0) (λ i. (does i, at i)) (b.given timing.len is_task);
      waits = waits;
      pending = p.pending;
      places = subst (λ (q : Work × ℕ). HasPlaces q.0 q.1) (λ i. (does i, sym p.pending i)) b.places;
      timings = omega (arith, ap (λ (v : Vec Timing Global). length v.items) p.reads, ap (λ (v : Vec Timing Global). vec_capacity v) p.reads, ap length waits, p.pending, room);
      sources = λ i s inside is. subst (λ w. ReadsSound (source_at w i) s) does (sound_read task (source_at work i) s (b.sources i s inside is));
    }

-- where an input reads: where its sound did
abbrev pub reads_as : Sound → Option CursorState
reads_as s = option_map (λ (c : CursorState). record c { visible = s.timing.len }) s.reader

length_of : (ss : List Sound) → length (cursors_in ss) ≡ length ss
length_of [] = refl
length_of (s ∷ ss) = ap suc (length_of ss)

pub timed : (ss : List Sound) → length (map (λ (s : Sound). s.timing) ss) ≡ length ss
timed [] = refl
timed (s ∷ ss) = ap suc (timed ss)

pub sound_at : (ss more : List Sound) (k : ℕ) → k < length ss → (s : Sound) × (s ≡ get_or ss k s) × (get_or (cursors_in ss) k None ≡ s.reader) × (get_or (cursors_in (ss ++ more)) k None ≡ s.reader)
sound_at [] more k h = absurd (omega (arith, h))
sound_at (s ∷ ss) more zero h = (s, refl, refl, refl)
sound_at (s ∷ ss) more (suc k) h = let r = sound_at ss more k (omega (arith, h)) in (r.0, r.1, r.2, r.3)

-- an input without a cursor is over a sound that has none
reads_none : (s : Sound) (o : Option CursorState) → s.reader ≡ o → option_map (λ (c : CursorState). record c { visible = s.timing.len }) o ≡ None → s.reader ≡ None
reads_none s None e none = e
reads_none s (Some c) e none = absurd (none_some (sym none))

-- a unit that has given nothing has taken nothing
pub taken_none : (block : ℕ) (kind : Kind) (t input : Timing) → taken_after block kind t input 0 ≡ 0
unfolding taken_after
taken_none block kind t input = refl

pub some_blocks : (block len : ℕ) → 0 < block → 0 < len → 0 < blocks_of block len
some_blocks block len positive some = le-div 1 (len + (block - 1)) block positive (omega arith)

module _ (old new : Table) (n : ℕ) (x : UnitData) (sounds : List Sound) (waits : List (List Sound)) (a : Adds old new n x sounds waits) (table : IsTable old (cursors_in (sounds ++ flat waits))) where
  pub absent : unit_at old n ≡ None
  absent = by (unit_at old n) refl
    where
      by : (o : Option UnitData) → unit_at old n ≡ o → unit_at old n ≡ None
      by None e = e
      by (Some y) e = let u = table.units n y e in absurd (none_some (sym a.vacant ∙ u.1))

  pub unit_new : unit_at new n ≡ Some x
  unit_new = ap (λ us. get_or us n None) a.units ∙ get_or-set_same old.units.items n (Some x) None a.place

  pub unit_else : (w : ℕ) → w ≢ n → unit_at new w ≡ unit_at old w
  unit_else w ne = ap (λ us. get_or us w None) a.units ∙ get_or-set_other old.units.items n w (Some x) None ne

  pub list_new : list_at new.store n ≡ Some (begun x.timing.len 0)
  list_new = ap (λ s. list_at s n) a.store ∙ list_here old.store n (Some (begun x.timing.len 0)) a.within

  pub list_else : (w : ℕ) → w ≢ n → list_at new.store w ≡ list_at old.store w
  list_else w ne = ap (λ s. list_at s w) a.store ∙ list_other old.store n w (Some (begun x.timing.len 0)) ne

  len_else : (w : ℕ) → w ≢ n → len_of new.store w ≡ len_of old.store w
  len_else w ne = ap (λ (o : Option ListState). option_map_or {U = ℕ} (λ l. l.len) o 0) (list_else w ne)

  -- input i stands where its sound does
  pub cursor_is : (i : ℕ) (s : Sound) → i < length sounds → s ≡ get_or sounds i s → cursor_at x.work i ≡ reads_as s
  cursor_is i s inside is = (a.sources i s inside is).reads

  stands_same : (block len v j : ℕ) (s : Sound) (o : Option CursorState) → stands_at block len v j (option_map (λ (c : CursorState). record c { visible = s.timing.len }) o) ≡ stands_at block len v j o
  stands_same block len v j s None = refl
  stands_same block len v j s (Some c) = refl

  -- what its parts that wait keep
  kept_is : kept_in x.work ≡ flat waits
  kept_is = ap flat a.waits

  reads_same : (v j : ℕ) → sum_by (stands_at old.block (len_of old.store v) v j) (map (cursor_at x.work) (range_with_len 0 (inputs_in x.work - 0))) ≡ held_in old (cursors_in sounds) v j
  reads_same v j =
      sums_agree (stands_at old.block (len_of old.store v) v j) (stands_at old.block (len_of old.store v) v j) None None (map (cursor_at x.work) (range_with_len 0 (inputs_in x.work - 0))) (cursors_in sounds)
      (length-map-range_with_len (cursor_at x.work) 0 (inputs_in x.work - 0) ∙ omega (arith, a.count, length_of sounds))
      (λ k h. each k (omega (arith, h, length-map-range_with_len (cursor_at x.work) 0 (inputs_in x.work - 0), a.count)))
    where
      each : (k : ℕ) → k < length sounds
          → stands_at old.block (len_of old.store v) v j (get_or (map (cursor_at x.work) (range_with_len 0 (inputs_in x.work - 0))) k None) ≡ stands_at old.block (len_of old.store v) v j (get_or (cursors_in sounds) k None)
      each k inside =
          let s = sound_at sounds (flat waits) k inside in
          let f = stands_at old.block (len_of old.store v) v j in
          ap f (tab_get (cursor_at x.work) (inputs_in x.work - 0) k None (omega (arith, inside, a.count)) ∙ cursor_is k s.0 inside s.1)
          ∙ stands_same old.block (len_of old.store v) v j s.0 s.0.reader ∙ ap f (sym s.2)

  count_is : length x.inputs.items ≡ inputs_in x.work
  count_is = ap length a.inputs ∙ timed sounds ∙ a.count

  -- what it reads and keeps stands where its sounds did
  own_mine : (v j : ℕ) → own_of old.block (len_of old.store v) v j x ≡ held_in old (cursors_in (sounds ++ flat waits)) v j
  own_mine v j =
      let f = stands_at old.block (len_of old.store v) v j in
      omega (
        arith,
        inputs_rest old.block (len_of old.store v) v j x count_is,
        reads_same v j,
        ap (λ ss. sum_by f (cursors_in ss)) kept_is,
        ap (sum_by f) (map-append (λ (s : Sound). s.reader) sounds (flat waits)),
        held_append old (cursors_in sounds) (cursors_in (flat waits)) v j,
      )

  -- all that the units have elsewhere: what they had, and what stood for the new one
  pub own_else : (v j : ℕ) → v ≢ n → own_in new v j ≡ own_in old v j + held_in old (cursors_in (sounds ++ flat waits)) v j
  own_else v j ne =
      let f = λ (o : Option UnitData). option_map_or {U = ℕ} (own_of old.block (len_of old.store v) v j) o 0 in
      let same : own_in new v j ≡ sum_by f (set old.units.items n (Some x)) =
      ap (λ b. sum_by (λ (o : Option UnitData). option_map_or {U = ℕ} (own_of b (len_of new.store v) v j) o 0) new.units.items) a.block
      ∙ ap (λ len. sum_by (λ (o : Option UnitData). option_map_or {U = ℕ} (own_of old.block len v j) o 0) new.units.items) (len_else v ne)
      ∙ ap (sum_by f) a.units in
      let none : f (get_or old.units.items n None) ≡ 0 = ap f absent in
      omega (arith, same, none, own_mine v j, sum_by-set f old.units.items n (Some x) None a.place)

  -- an input's list was there
  pub input_there : (i : ℕ) (c : CursorState) → i < length sounds → cursor_at x.work i ≡ Some c
      → (s : Sound) × (d : CursorState) × (s ≡ get_or sounds i s) × (s.reader ≡ Some d) × (c ≡ record d { visible = s.timing.len }) × IsSome (list_at old.store c.list)
  input_there i c inside at = by s.0.reader refl
    where
      s : (s : Sound) × (s ≡ get_or sounds i s) × (get_or (cursors_in sounds) i None ≡ s.reader) × (get_or (cursors_in (sounds ++ flat waits)) i None ≡ s.reader)
      s = sound_at sounds (flat waits) i inside

      seen : CursorState → CursorState
      seen d = record d { visible = s.0.timing.len }

      reads : (o : Option CursorState) → s.0.reader ≡ o → Some c ≡ option_map seen o
      reads o e = sym at ∙ cursor_is i s.0 inside s.1 ∙ ap (option_map seen) e

      by : (o : Option CursorState) → s.0.reader ≡ o → (s : Sound) × (d : CursorState) × (s ≡ get_or sounds i s) × (s.reader ≡ Some d) × (c ≡ record d { visible = s.timing.len }) × IsSome (list_at old.store c.list)
      by None e = absurd (none_some (sym (reads None e)))
      by (Some d) e =
          let same : c ≡ seen d = same_some (reads (Some d) e) in
          (s.0, d, s.1, e, same, subst (λ (k : CursorState). IsSome (list_at old.store k.list)) (sym same) (table.held i d (s.3 ∙ e)))

  mine_there : (c : CursorState) → HoldsCursor x c → IsSome (list_at old.store c.list)
  mine_there c (inl r) = (input_there r.0 c (omega (arith, r.1, ap length a.inputs, timed sounds)) r.2).5
  mine_there c (inr k) =
      let j = get_behind sounds (flat waits) k.0 k.1 (ap (λ ss. slice_get ss k.0) (sym kept_is) ∙ k.2) in
      table.held j.0 c (kept_at (sounds ++ flat waits) j.0 k.1 j.1 ∙ k.3)

  pub reads_old : (w : ℕ) (y : UnitData) (c : CursorState) → unit_at new w ≡ Some y → HoldsCursor y c → IsSome (list_at old.store c.list)
  reads_old w y c at holds = elim (cases_eq w n) [
    | inl e ↦ let same : y ≡ x = same_some (sym at ∙ ap (unit_at new) e ∙ unit_new) in mine_there c (subst (λ (z : UnitData). HoldsCursor z c) same holds)
    | inr ne ↦ holds_list old (cursors_in (sounds ++ flat waits)) w y c table (sym (unit_else w ne) ∙ at) holds
  ]

  -- no unit reads the new list
  pub own_new : (j : ℕ) → own_in new n j ≡ 0
  own_new j = elim (cases_lt 0 (own_in new n j)) [
    | inl some ↦
        let k = some_term (λ (o : Option UnitData). option_map_or {U = ℕ} (own_of new.block (len_of new.store n) n j) o 0) None new.units.items some in
        let r = unit_uses new.block (len_of new.store n) n j (unit_at new k.0) k.2 in
        let l = some_is (list_at old.store r.1.list) (reads_old k.0 r.0 r.1 r.2 r.4) in
        absurd (none_some (sym a.vacant ∙ sym (ap (list_at old.store) r.3) ∙ l.1))
    | inr none ↦ omega (arith, none)
  ]

  -- a unit other than the new one was there
  pub unit_back : (w : ℕ) (y : UnitData) → unit_at new w ≡ Some y → ((w ≡ n) × (y ≡ x)) ⊎ ((w ≢ n) × (unit_at old w ≡ Some y))
  unit_back w y at = elim (cases_eq w n) [
    | inl e ↦ inl (e, same_some (sym at ∙ ap (unit_at new) e ∙ unit_new))
    | inr ne ↦ inr (ne, sym (unit_else w ne) ∙ at)
  ]

  pub mark_else : (v j : ℕ) → v ≢ n → mark_in new.store v j ≡ mark_in old.store v j
  mark_else v j ne = ap (λ (o : Option ListState). option_map_or {U = ℕ} (λ l. get_or l.marks j 0) o 0) (list_else v ne)

  pub filled_else : (v : ℕ) → v ≢ n → filled_in new.store v ≡ filled_in old.store v
  filled_else v ne = ap (λ (o : Option ListState). option_map_or {U = ℕ} (λ l. length l.values) o 0) (list_else v ne)

  pub filled_new : filled_in new.store n ≡ 0
  filled_new = ap (λ (o : Option ListState). option_map_or {U = ℕ} (λ l. length l.values) o 0) list_new

  pub store_block : new.store.block ≡ new.block
  store_block = ap (λ s. s.block) a.store ∙ table.block ∙ sym a.block

  unit_kept : (v : ℕ) (y : UnitData) (l : ListState) → IsUnit old v y l → IsUnit new v y l
  unit_kept v y l u = record {
    end = u.end;
    len = u.len;
    some = u.some;
    early = u.early;
    count = u.count;
    sides = u.sides;
    begins = u.begins;
    brings = u.brings;
    hears = u.hears;
    given = subst (λ b. HasGiven y.work y.timing.len (min (length l.values * b) y.timing.len)) (sym a.block) u.given;
    places = u.places;
    timings = u.timings;
  }

  input_kept : (y : UnitData) (i : ℕ) (c : CursorState) (l : ListState) → IsInput old y i c l → IsInput new y i c l
  input_kept y i c l u = record {
    starts = u.starts;
    sees = u.sees;
    visible = u.visible;
    computed = subst (λ b. c.place ≤ min (length l.values * b) l.len) (sym a.block) u.computed;
  }

  unit_is : IsUnit new n x (begun x.timing.len 0)
  unit_is = record {
    end = a.end;
    len = refl;
    some = a.some;
    early = a.early;
    count = count_is;
    sides = a.sides;
    begins = a.begins;
    brings = a.brings;
    hears = a.hears;
    given = subst (HasGiven x.work x.timing.len) none a.given;
    places = a.places;
    timings = a.timings;
  }
    where
      none : 0 ≡ min (0 * new.block) x.timing.len
      none = omega arith

  pub timing_is : (i : ℕ) (s : Sound) → i < length sounds → s ≡ get_or sounds i s → timing_at x i ≡ s.timing
  timing_is i s inside is = ap (λ ts. get_or ts i x.timing) a.inputs ∙ get_or-map (λ (q : Sound). q.timing) sounds i s x.timing inside ∙ ap (λ (q : Sound). q.timing) (sym is)

  module _ (shows : ShowFirst old (sounds ++ flat waits)) (keeps : (i : ℕ) (s : Sound) → slice_get (flat waits) i ≡ Some s → IsKept old s) where
    -- what each sound shows
    shown_at : (i : ℕ) (s : Sound) → i < length sounds → s ≡ get_or sounds i s → ForSome s.reader (ShowsFirst old s) × (s.reader ≡ None → s.timing.len ≡ 0)
    shown_at i s inside is =
        subst (λ (q : Sound). ForSome q.reader (ShowsFirst old q) × (q.reader ≡ None → q.timing.len ≡ 0)) (get_or_append_left sounds (flat waits) s i inside ∙ sym is)
        (All-get_or (λ (q : Sound). ForSome q.reader (ShowsFirst old q) × (q.reader ≡ None → q.timing.len ≡ 0)) (sounds ++ flat waits) i s (omega (arith, inside, length-append sounds (flat waits))) shows)

    shown : (i : ℕ) (s : Sound) (d : CursorState) → i < length sounds → s ≡ get_or sounds i s → s.reader ≡ Some d → ShowsFirst old s d
    shown i s d inside is reads = (shown_at i s inside is).0 d reads

    -- an input of the new unit stands at its list's beginning, and has something left to read
    pub input_new : (i : ℕ) (c : CursorState) → i < length sounds → cursor_at x.work i ≡ Some c → (l : ListState) × (list_at old.store c.list ≡ Some l) × (list_at new.store c.list ≡ Some l) × IsInput new x i c l × (c.place ≡ 0) × (0 < c.visible)
    input_new i c inside at =
        let r = input_there i c inside at in
        let f = shown i r.0 r.1 inside r.2 r.3 in
        let l = some_is (list_at old.store c.list) r.5 in
        let apart : c.list ≢ n = λ e. none_some (sym a.vacant ∙ sym (ap (list_at old.store) e) ∙ l.1) in
        let heard = timing_is i r.0 inside r.2 in
        let place : c.place ≡ 0 = ap (λ (k : CursorState). k.place) r.4 ∙ f.begins in
        let sees : c.visible ≡ r.0.timing.len = ap (λ (k : CursorState). k.visible) r.4 in
        let len : len_of old.store r.1.list ≡ l.0.len = ap (len_of old.store) (sym (ap (λ (k : CursorState). k.list) r.4)) ∙ len_is old.store c.list l.0 l.1 in (
          l.0,
          l.1,
          list_else c.list apart ∙ l.1,
          record {
            starts = (a.sources i r.0 inside r.2).starts (is_some_of _ r.1 r.3) ∙ ap (λ (t : Timing). t.start) (sym heard);
            sees = sees ∙ ap (λ (t : Timing). t.len) (sym heard);
            visible = omega (arith, sees, len, f.visible);
            computed = omega (arith, place);
          },
          place,
          omega (arith, sees, f.some),
        )

    -- of the new unit
    inputs_mine : (v i : ℕ) (y : UnitData) (c : CursorState) → (v ≡ n) × (y ≡ x) → i < length y.inputs.items → cursor_at y.work i ≡ Some c → (i < length sounds) × (cursor_at x.work i ≡ Some c)
    inputs_mine v i y c e inside cursor = (
      omega (arith, inside, ap (λ (z : UnitData). length z.inputs.items) e.1, ap length a.inputs, timed sounds),
      ap (λ (z : UnitData). cursor_at z.work i) (sym e.1) ∙ cursor,
    )

    inputs_added : (v i : ℕ) (y : UnitData) (k : ListState) (c : CursorState) → unit_at new v ≡ Some y → list_at new.store v ≡ Some k → i < length y.inputs.items → cursor_at y.work i ≡ Some c → (l : ListState) × (list_at new.store c.list ≡ Some l) × IsInput new y i c l
    inputs_added v i y k c at listed inside cursor = elim (unit_back v y at) [
      | inl e ↦
          let m = inputs_mine v i y c e inside cursor in
          let r = input_new i c m.0 m.1 in
          (r.0, r.2, subst (λ (p : UnitData). IsInput new p i c r.0) (sym e.1) r.3)
      | inr e ↦
          let r = table.inputs v i y k c e.1 (sym (list_else v e.0) ∙ listed) inside cursor in
          let apart : c.list ≢ n = λ q. none_some (sym a.vacant ∙ sym (ap (list_at old.store) q) ∙ r.1) in
          (r.0, list_else c.list apart ∙ r.1, input_kept y i c r.0 r.2)
    ]

    kept_added : (v i : ℕ) (y : UnitData) (s : Sound) → unit_at new v ≡ Some y → slice_get (kept_in y.work) i ≡ Some s → IsKept new s
    kept_added v i y s at is = elim (unit_back v y at) [
      | inl e ↦ still s (keeps i s (ap (λ ss. slice_get ss i) (sym kept_is) ∙ ap (λ (z : UnitData). slice_get (kept_in z.work) i) (sym e.1) ∙ is))
      | inr e ↦ still s (table.kept v i y s e.1 is)
    ]
      where
        still : (s : Sound) → IsKept old s → IsKept new s
        still s k =
            IsKept-to old new s
            (λ c reads there. let l = some_is (list_at old.store c.list) there in let apart : c.list ≢ n = λ q. none_some (sym a.vacant ∙ sym (ap (list_at old.store) q) ∙ l.1) in (is_some_of _ l.0 (list_else c.list apart ∙ l.1), len_else c.list apart)) k

    abbrev rank : ℕ → ℕ
    rank v = cond (nat_eq v n) table.bound (table.rank v)

    rank_new : rank n ≡ table.bound
    rank_new = ap (λ b. cond b table.bound (table.rank n)) (eq-eqb n n refl)

    rank_else : (v : ℕ) → v ≢ n → rank v ≡ table.rank v
    rank_else v ne = ap (λ b. cond b table.bound (table.rank v)) (ne_eqb v n ne)

    below_added : (v : ℕ) (y : UnitData) → unit_at new v ≡ Some y → rank v < table.bound + 1
    below_added v y at = elim (unit_back v y at) [
      | inl e ↦ omega (arith, ap rank e.0, rank_new)
      | inr e ↦ omega (arith, rank_else v e.0, table.below v y e.1)
    ]

    falls_added : (v : ℕ) (y : UnitData) (c : CursorState) → unit_at new v ≡ Some y → HoldsCursor y c → rank c.list < rank v
    falls_added v y c at holds =
        let l = some_is (list_at old.store c.list) (reads_old v y c at holds) in
        let apart : c.list ≢ n = λ q. none_some (sym a.vacant ∙ sym (ap (list_at old.store) q) ∙ l.1) in
        let z = some_is (unit_at old c.list) (table.lists c.list (is_some_of _ l.0 l.1)) in
        elim (unit_back v y at) [
          | inl e ↦ omega (arith, rank_else c.list apart, ap rank e.0, rank_new, table.below c.list z.0 z.1)
          | inr e ↦ omega (arith, rank_else c.list apart, rank_else v e.0, holds_lower old (cursors_in (sounds ++ flat waits)) v y c table e.1 holds)
        ]

    counted_added : (v j : ℕ) (l : ListState) → list_at new.store v ≡ Some l → own_in new v j + held_in new [] v j ≤ mark_in new.store v j
    counted_added v j l is = elim (cases_eq v n) [
      | inl e ↦ omega (arith, ap (λ w. own_in new w j) e, own_new j)
      | inr ne ↦ omega (arith, own_else v j ne, mark_else v j ne, table.counted v j l (sym (list_else v ne) ∙ is))
    ]

    pub IsTable-added : IsTable new []
    IsTable-added = record {
      store = a.laws;
      block = store_block;
      loose = ap (λ s. count_by is_some s.loose) a.store ∙ table.loose;
      units = λ v y at. elim (unit_back v y at) [
        | inl e ↦ (begun x.timing.len 0, ap (list_at new.store) e.0 ∙ list_new, subst (λ (p : ℕ × UnitData). IsUnit new p.0 p.1 (begun x.timing.len 0)) (λ q. (sym e.0 q, sym e.1 q)) unit_is)
        | inr e ↦ let u = table.units v y e.1 in (u.0, list_else v e.0 ∙ u.1, unit_kept v y u.0 u.2)
      ];
      lists = λ v some. elim (cases_eq v n) [
        | inl e ↦ is_some_of _ x (ap (unit_at new) e ∙ unit_new)
        | inr ne ↦ subst IsSome (sym (unit_else v ne)) (table.lists v (subst IsSome (list_else v ne) some))
      ];
      inputs = inputs_added;
      kept = kept_added;
      held = λ i c is. absurd (none_some is);
      counted = counted_added;
      rank = rank;
      bound = table.bound + 1;
      below = below_added;
      falls = λ v i y c at inside cursor. falls_added v y c at (inl (i, inside, cursor));
      keeps_lower = λ v i y s c at is reads. falls_added v y c at (inr (i, s, is, reads));
    }

    -- ---- between two calls

    read_added : IsRead old → IsRead new
    read_added read v l is = elim (cases_eq v n) [
      | inl e ↦ subst (λ k. 0 < cursors_of k) (same_some (sym list_new ∙ sym (ap (list_at new.store) e) ∙ is)) (omega arith)
      | inr ne ↦ read v l (sym (list_else v ne) ∙ is)
    ]

    clean_added : IsClean old → IsClean new
    clean_added clean v i y c at inside cursor = elim (unit_back v y at) [
      | inl e ↦
          let m = inputs_mine v i y c e inside cursor in
          let r = input_new i c m.0 m.1 in
          let open_new : filled_in new.store n < blocks_of new.block x.timing.len = omega (arith, filled_new, some_blocks new.block x.timing.len (omega (arith, a.laws.some, store_block)) a.some) in
          (omega (arith, r.4, r.5), subst (λ (p : ℕ × UnitData). filled_in new.store p.0 < blocks_of new.block p.1.timing.len) (λ q. (sym e.0 q, sym e.1 q)) open_new)
      | inr e ↦
          let w = clean v i y c e.1 inside cursor in
          (w.0, subst (λ b. filled_in new.store v < blocks_of b y.timing.len) (sym a.block) (subst (λ k. k < blocks_of old.block y.timing.len) (sym (filled_else v e.0)) w.1))
    ]

    -- a unit that was there has taken as much as before
    taken_else : (v i : ℕ) (y : UnitData) → v ≢ n → taken_after old.block (kind_of y.work) y.timing (timing_at y i) (filled_in old.store v) ≡ taken_after new.block (kind_of y.work) y.timing (timing_at y i) (filled_in new.store v)
    taken_else v i y ne = λ q. taken_after (sym a.block q) (kind_of y.work) y.timing (timing_at y i) (sym (filled_else v ne) q)

    needs_added : IsAtNeed old → IsAtNeed new
    needs_added needs v i y c at inside cursor = elim (unit_back v y at) [
      | inl e ↦
          let m = inputs_mine v i y c e inside cursor in
          let r = input_new i c m.0 m.1 in
          r.4 ∙ sym (taken_none new.block (kind_of y.work) y.timing (timing_at y i)) ∙ ap (taken_after new.block (kind_of y.work) y.timing (timing_at y i)) (sym filled_new ∙ ap (filled_in new.store) (sym e.0))
      | inr e ↦ needs v i y c e.1 inside cursor ∙ taken_else v i y e.0
    ]

    exhausted_added : IsExhausted old → IsExhausted new
    exhausted_added exhausted v i y at inside reader none still = elim (unit_back v y at) [
      | inl e ↦
          let within : i < length sounds = omega (arith, inside, ap (λ (z : UnitData). length z.inputs.items) e.1, ap length a.inputs, timed sounds) in
          let s = sound_at sounds (flat waits) i within in
          let reads : s.0.reader ≡ None = reads_none s.0 s.0.reader refl (sym (cursor_is i s.0 within s.1) ∙ ap (λ (z : UnitData). cursor_at z.work i) (sym e.1) ∙ none) in
          omega (arith, ap (λ (z : UnitData). (timing_at z i).len) e.1, ap (λ (t : Timing). t.len) (timing_is i s.0 within s.1), (shown_at i s.0 within s.1).1 reads)
      | inr e ↦
          subst (λ k. (timing_at y i).len ≤ k) (taken_else v i y e.0)
          (exhausted v i y e.1 inside reader none (subst (λ b. filled_in old.store v < blocks_of b y.timing.len) a.block (subst (λ k. k < blocks_of new.block y.timing.len) (filled_else v e.0) still)))
    ]

    waits_added : WaitsForNothing old → WaitsForNothing new
    waits_added nothing v y at past = elim (unit_back v y at) [
      | inl e ↦
          let open_new : 0 < blocks_of new.block x.timing.len = some_blocks new.block x.timing.len (omega (arith, a.laws.some, store_block)) a.some in
          absurd (omega (arith, past, open_new, filled_new, ap (filled_in new.store) e.0, ap (λ (z : UnitData). blocks_of new.block z.timing.len) e.1))
      | inr e ↦ nothing v y e.1 (subst (λ (k : ℕ × ℕ). blocks_of k.0 y.timing.len ≤ k.1) (λ q. (a.block q, filled_else v e.0 q)) past)
    ]

    timely_added : (0 < length waits → x.timing.start ≤ index_at (last_stop_in 0 x.inputs.items) x.timing.rate) → IsTimely old → IsTimely new
    timely_added begun timely v y at owes = elim (unit_back v y at) [
      | inl e ↦
          let some : 0 < length waits = omega (arith, owes, ap (λ (z : UnitData). length (waits_in z.work)) e.1, ap (λ (z : UnitData). z.pending) e.1, ap length a.waits, a.pending) in
          let none : x.timing.start + 0 * new.block ≤ index_at (last_stop_in 0 x.inputs.items) x.timing.rate = omega (arith, begun some) in
          subst (λ (p : ℕ × UnitData). p.1.timing.start + filled_in new.store p.0 * new.block ≤ index_at (last_stop_in 0 p.1.inputs.items) p.1.timing.rate) (λ q. (sym e.0 q, sym e.1 q))
          (still_timely x.timing.start 0 (filled_in new.store n) new.block new.block _ filled_new refl none)
      | inr e ↦ still_timely y.timing.start (filled_in old.store v) (filled_in new.store v) old.block new.block _ (filled_else v e.0) a.block (timely v y e.1 owes)
    ]

    pub IsHeap-added : (0 < length waits → x.timing.start ≤ index_at (last_stop_in 0 x.inputs.items) x.timing.rate) → IsHeap old → IsHeap new
    IsHeap-added begun heap = record {
      table = IsTable-added;
      read = read_added heap.read;
      clean = clean_added heap.clean;
      needs = needs_added heap.needs;
      exhausted = exhausted_added heap.exhausted;
      waits = waits_added heap.waits;
      timely = timely_added begun heap.timely;
    }
