-- A unit has one block more.
use Rattle.std.proofs.Common.{◌≡◌, ◌≢◌, inl, inr, ℕ, zero, suc, ◌+◌, ◌-◌, ◌*◌, ◌<◌, ◌≤◌, min, nat_lt, cond, Bool, true, false, List, [], ◌∷◌, ◌++◌, length, map, get_or, slice_get, vec_capacity, set, Option, None, Some, IsSome, is_some, count_by, refl, sym, ap, subst, ◌∙◌, arith, ℤ, length-append}
use Rattle.std.specs.List.{sum_by, sum}
use Rattle.std.specs.Option.{option_map, option_map_or}
use Rattle.std.proofs.lemmas.List.{get_or-set_same, get_or-set_other}
use Rattle.std.proofs.lemmas.List.Sums.{sum_by-set, sum_by-append}
use Rattle.std.proofs.lemmas.Bool.{cases_eq, cases_lt, lt-ltb}
use Rattle.ny_list.specs.Store.{ListState, CursorState, list_at, cursors_of, least}
use Rattle.ny_list.specs.Steps.{settled, filled_with}
use Rattle.ny_list.proofs.IndexLemmas.{same_some, none_some, tab_same}
use Rattle.ny_units.specs.Inputs.{start_of}
use Rattle.ny_heap.specs.declared.table.Unit.{Unit as UnitData}
use Rattle.ny_heap.specs.declared.table.Table.{Table}
use Rattle.ny_heap.specs.Heap.{Reader, is_reader, taken_after, blocks_of}
use Rattle.ny_heap.specs.declared.sound.Sound.{Sound}
use Rattle.ny_heap.specs.Work.{kind_of, inputs_in, cursor_at, need_in, waits_in, flat, kept_in, cursors_of_sounds, HasGiven}
use Rattle.ny_heap.specs.Table.{unit_at, own_in, own_of, mark_in, len_of, input_of, readers_of, stands_at, timing_at, IsTable, IsUnit, IsInput, IsKept, IsRead, IsThere, computed_in, computed_next_in, is_open_in, lacks_in, lacking_from, or_else}
use Rattle.ny_heap.specs.View.{filled_in}
use Rattle.ny_heap.specs.Filling.{CanFill, Computes, Appends, Settling, WaitsStill}
use Rattle.ny_heap.proofs.TableLemmas.{place_within}
use Rattle.ny_heap.proofs.ListLemmas.{list_within, list_here, list_other, mark_is, len_is, blank_len}
use Rattle.ny_heap.proofs.KeepLemmas.{filled_is, waits_on, places_on, IsKept-to}
use Rattle.ny_heap.proofs.CountLemmas.{some_is, is_some_of}
use Rattle.ny_heap.proofs.TakenLemmas.{need_is}
use Rattle.ny_heap.proofs.MovesLemmas.{same_kind, same_inputs, same_source, same_reader, sides_on, begins_on, brings_on, hears_on, given_on}

-- ---- what no input lacks

lacks_none : (o p : Option ℕ) → or_else o p ≡ None → (o ≡ None) × (p ≡ None)
lacks_none None p e = (refl, e)
lacks_none (Some n) p e = absurd (none_some (sym e))

none_lacks : (t : Table) (x : UnitData) (done i n k : ℕ) → lacking_from t x done i n ≡ None → i ≤ k → k < i + n → lacks_in t x done (cursor_at x.work k) k ≡ None
none_lacks t x done i zero k none from to = absurd (omega (arith, from, to))
none_lacks t x done i (suc n) k none from to =
    let both = lacks_none (lacks_in t x done (cursor_at x.work i) i) (lacking_from t x done (i + 1) n) none in
    elim (cases_eq k i) [
      | inl e ↦ subst (λ j. lacks_in t x done (cursor_at x.work j) j ≡ None) (sym e) both.0
      | inr ne ↦ none_lacks t x done (i + 1) n k both.1 (omega (arith, from, ne)) (omega (arith, to))
    ]

not_lacks : (t : Table) (x : UnitData) (done k : ℕ) (c : CursorState) → lacks_in t x done (Some c) k ≡ None → need_in x.work k done ≤ computed_in t c.list
not_lacks t x done k c none = elim (cases_lt (computed_in t c.list) (need_in x.work k done)) [
  | inl less ↦ absurd (none_some (sym none ∙ ap (λ b. Rattle.std.proofs.Common.cond b (Some c.list) None) (lt-ltb (computed_in t c.list) (need_in x.work k done) less)))
  | inr far ↦ far
]

-- what each input of a unit that can fill needs is computed
pub far_enough : (t : Table) (u : ℕ) (f : CanFill t u) (k : ℕ) (c : CursorState) → k < inputs_in f.there.unit.work → cursor_at f.there.unit.work k ≡ Some c → need_in f.there.unit.work k (computed_next_in t u) ≤ computed_in t c.list
far_enough t u f k c inside is =
    not_lacks t f.there.unit (computed_next_in t u) k c
    (ap (λ o. lacks_in t f.there.unit (computed_next_in t u) o k) (sym is) ∙ none_lacks t f.there.unit (computed_next_in t u) 0 (inputs_in f.there.unit.work) k f.computed (omega arith) (omega (arith, inside)))

-- ---- the table then

module _ (old mid new : Table) (u : ℕ) (out : List ℤ) (f : CanFill old u) (p : Computes old mid u out) (a : Appends mid new u out) where
  abbrev pub x : UnitData
  x = p.unit

  abbrev pub y : UnitData
  y = record p.unit { work = p.work }

  abbrev l : ListState
  l = a.list

  abbrev pub longer : ListState
  longer = settled (filled_with mid.store.block out a.list)

  pub same_block : new.block ≡ old.block
  same_block = a.block ∙ p.reworks.block

  pub unit_here : unit_at new u ≡ Some y
  unit_here = ap (λ us. get_or us u None) (a.units ∙ p.reworks.units) ∙ get_or-set_same old.units.items u (Some y) None (place_within old.units.items u x p.was)

  pub unit_else : (w : ℕ) → w ≢ u → unit_at new w ≡ unit_at old w
  unit_else w ne = ap (λ us. get_or us w None) (a.units ∙ p.reworks.units) ∙ get_or-set_other old.units.items u w (Some y) None ne

  pub listed : list_at old.store u ≡ Some l
  listed = ap (λ s. list_at s u) (sym p.reworks.store) ∙ a.was

  pub longer_here : list_at new.store u ≡ Some longer
  longer_here = ap (λ s. list_at s u) a.store ∙ list_here mid.store u (Some longer) (list_within mid.store u l a.was)

  pub list_else : (w : ℕ) → w ≢ u → list_at new.store w ≡ list_at old.store w
  list_else w ne = ap (λ s. list_at s w) a.store ∙ list_other mid.store u w (Some longer) ne ∙ ap (λ s. list_at s w) p.reworks.store

  pub longer_len : length longer.values ≡ length l.values + 1
  longer_len = blank_len (least (l.marks ++ 0 ∷ [])) (filled_with mid.store.block out l).values ∙ length-append l.values _

  -- each list is there still, with as many blocks, or one more
  list_to : (w : ℕ) (k : ListState) → list_at old.store w ≡ Some k → (n : ListState) × (list_at new.store w ≡ Some n) × (n.len ≡ k.len) × (length k.values ≤ length n.values)
  list_to w k is = elim (cases_eq w u) [
    | inl e ↦
        let same : k ≡ l = same_some (sym is ∙ ap (list_at old.store) e ∙ listed) in
        (longer, ap (list_at new.store) e ∙ longer_here, ap (λ (z : ListState). z.len) (sym same), omega (arith, longer_len, ap (λ (z : ListState). length z.values) same))
    | inr ne ↦ (k, list_else w ne ∙ is, refl, omega arith)
  ]

  list_back : (w : ℕ) (n : ListState) → list_at new.store w ≡ Some n → (k : ListState) × (list_at old.store w ≡ Some k)
  list_back w n is = elim (cases_eq w u) [
    | inl e ↦ (l, ap (list_at old.store) e ∙ listed)
    | inr ne ↦ (n, sym (list_else w ne) ∙ is)
  ]

  -- ---- who stands where

  pub same_len : (w : ℕ) → len_of new.store w ≡ len_of old.store w
  same_len w = elim (cases_eq w u) [
    | inl e ↦ ap (len_of new.store) e ∙ len_is new.store u longer longer_here ∙ sym (len_is old.store u l listed) ∙ ap (len_of old.store) (sym e)
    | inr ne ↦ ap (λ (o : Option ListState). option_map_or {U = ℕ} (λ k. k.len) o 0) (list_else w ne)
  ]

  more_marks : (marks : List ℕ) (j : ℕ) → get_or (marks ++ 0 ∷ []) j 0 ≡ get_or marks j 0
  more_marks [] zero = refl
  more_marks [] (suc j) = refl
  more_marks (m ∷ ms) zero = refl
  more_marks (m ∷ ms) (suc j) = more_marks ms j

  pub same_mark : (w j : ℕ) → mark_in new.store w j ≡ mark_in old.store w j
  same_mark w j = elim (cases_eq w u) [
    | inl e ↦ ap (λ v. mark_in new.store v j) e ∙ mark_is new.store u j longer longer_here ∙ more_marks l.marks j ∙ sym (mark_is old.store u j l listed) ∙ ap (λ v. mark_in old.store v j) (sym e)
    | inr ne ↦ ap (λ (o : Option ListState). option_map_or {U = ℕ} (λ k. get_or k.marks j 0) o 0) (list_else w ne)
  ]

  pub same_cursor : (i : ℕ) → cursor_at p.work i ≡ cursor_at x.work i
  same_cursor i = same_reader x.work p.work (computed_next_in old u) i p.moves

  pub same_kinds : kind_of p.work ≡ kind_of x.work
  same_kinds = same_kind x.work p.work (computed_next_in old u) p.moves

  pub same_waits : waits_in p.work ≡ waits_in x.work
  same_waits = waits_on x.work p.work (computed_next_in old u) p.moves

  pub same_readers : readers_of y ≡ readers_of x
  same_readers = tab_same (input_of y) (input_of x) (length x.inputs.items) None (λ i h. ap (option_map {U = Reader} (λ c. record { node = c.list; place = c.place; timing = timing_at x i })) (same_cursor i))

  pub same_own : (w j : ℕ) → own_in new w j ≡ own_in old w j
  same_own w j =
      let g = λ (o : Option UnitData). option_map_or {U = ℕ} (own_of old.block (len_of old.store w) w j) o 0 in
      let here : g (Some y) ≡ g (get_or old.units.items u None) =
      (λ i. sum_by (is_reader old.block (len_of old.store w) w j) (same_readers i) + sum_by (stands_at old.block (len_of old.store w) w j) (cursors_of_sounds (flat (same_waits i)))) ∙ sym (ap g p.was) in
      let all : own_in new w j ≡ sum_by g (set old.units.items u (Some y)) =
      ap (λ b. sum_by (λ (o : Option UnitData). option_map_or {U = ℕ} (own_of b (len_of new.store w) w j) o 0) new.units.items) same_block
      ∙ ap (λ n. sum_by (λ (o : Option UnitData). option_map_or {U = ℕ} (own_of old.block n w j) o 0) new.units.items) (same_len w)
      ∙ ap (sum_by g) (a.units ∙ p.reworks.units) in
      omega (arith, here, all, sum_by-set g old.units.items u (Some y) None (place_within old.units.items u x p.was))

  -- ---- the unit

  table : IsTable old []
  table = f.heap.table

  was_unit : IsUnit old u x l
  was_unit = let w = table.units u x p.was in subst (IsUnit old u x) (same_some (sym w.1 ∙ listed)) w.2

  next_in : computed_next_in old u ≡ min (length longer.values * new.block) x.timing.len
  next_in =
      ap (λ (o : Option ListState). option_map_or {U = ℕ} (λ k. min ((length k.values + 1) * old.block) k.len) o 0) listed
      ∙ ap (λ n. min (n * old.block) l.len) (sym longer_len)
      ∙ ap (λ b. min (length longer.values * b) l.len) (sym same_block)
      ∙ ap (min (length longer.values * new.block)) was_unit.len

  unit_now : IsUnit new u y longer
  unit_now = record {
    end = was_unit.end;
    len = was_unit.len;
    some = was_unit.some;
    early = was_unit.early;
    count = was_unit.count ∙ sym (same_inputs x.work p.work (computed_next_in old u) p.moves);
    sides = sides_on x.work p.work (computed_next_in old u) p.moves was_unit.sides;
    begins = begins_on x.work p.work (computed_next_in old u) x.timing p.moves was_unit.begins;
    brings = brings_on x.work p.work (computed_next_in old u) x.inputs.items p.moves was_unit.brings;
    hears = hears_on x.work p.work (computed_next_in old u) x.timing x.inputs.items p.moves was_unit.hears;
    given = subst (HasGiven p.work x.timing.len) next_in (given_on x.work p.work x.timing.len (min (length l.values * old.block) x.timing.len) (computed_next_in old u) p.moves was_unit.given);
    places = places_on x.work p.work (computed_next_in old u) x.pending p.moves was_unit.places;
    timings = omega (arith, was_unit.timings, ap length same_waits);
  }

  unit_kept : (w : ℕ) (z : UnitData) (k : ListState) → IsUnit old w z k → IsUnit new w z k
  unit_kept w z k h = record {
    end = h.end;
    len = h.len;
    some = h.some;
    early = h.early;
    count = h.count;
    sides = h.sides;
    begins = h.begins;
    brings = h.brings;
    hears = h.hears;
    given = subst (λ b. HasGiven z.work z.timing.len (min (length k.values * b) z.timing.len)) (sym same_block) h.given;
    places = h.places;
    timings = h.timings;
  }

  -- a list with more blocks is computed no less far
  farther : (place len m n b d : ℕ) → place ≤ min (m * b) len → m ≤ n → d ≡ b → place ≤ min (n * d) len
  farther place len m n b d far more same = omega (arith, far, ap (λ k. n * k) same, Rattle.std.proofs.lemmas.Nat.mul-le m b n b more (omega arith))

  input_kept : (z : UnitData) (i : ℕ) (c : CursorState) (k n : ListState) → n.len ≡ k.len → length k.values ≤ length n.values → IsInput old z i c k → IsInput new z i c n
  input_kept z i c k n len more h = record {
    starts = h.starts;
    sees = h.sees;
    visible = subst (λ m. c.visible ≤ m) (sym len) h.visible;
    computed = subst (λ m. c.place ≤ min (length n.values * new.block) m) (sym len) (farther c.place k.len (length k.values) (length n.values) old.block new.block h.computed more same_block);
  }

  input_now : (i : ℕ) (c : CursorState) (n : ListState) → IsInput new x i c n → IsInput new y i c n
  input_now i c n h = record { starts = ap start_of (same_source x.work p.work (computed_next_in old u) i p.moves) ∙ h.starts; sees = h.sees; visible = h.visible; computed = h.computed }

  -- an input is one of before
  input_was : (w i : ℕ) (z : UnitData) (c : CursorState) → unit_at new w ≡ Some z → i < length z.inputs.items → cursor_at z.work i ≡ Some c → (q : UnitData) × (unit_at old w ≡ Some q) × (i < length q.inputs.items) × (cursor_at q.work i ≡ Some c)
  input_was w i z c at inside cursor = elim (cases_eq w u) [
    | inl e ↦
        let same : z ≡ y = same_some (sym at ∙ ap (unit_at new) e ∙ unit_here) in
        (x, ap (unit_at old) e ∙ p.was, omega (arith, inside, ap (λ (q : UnitData). length q.inputs.items) same), sym (same_cursor i) ∙ ap (λ (q : UnitData). cursor_at q.work i) (sym same) ∙ cursor)
    | inr ne ↦ (z, sym (unit_else w ne) ∙ at, inside, cursor)
  ]

  -- so is what a part keeps
  kept_was : (w i : ℕ) (z : UnitData) (s : Sound) → unit_at new w ≡ Some z → slice_get (kept_in z.work) i ≡ Some s → (q : UnitData) × (unit_at old w ≡ Some q) × (slice_get (kept_in q.work) i ≡ Some s)
  kept_was w i z s at is = elim (cases_eq w u) [
    | inl e ↦
        let same : z ≡ y = same_some (sym at ∙ ap (unit_at new) e ∙ unit_here) in
        (x, ap (unit_at old) e ∙ p.was, ap (λ ws. slice_get (flat ws) i) (sym same_waits) ∙ ap (λ (q : UnitData). slice_get (kept_in q.work) i) (sym same) ∙ is)
    | inr ne ↦ (z, sym (unit_else w ne) ∙ at, is)
  ]

  kept_now : (s : Sound) → IsKept old s → IsKept new s
  kept_now s k = IsKept-to old new s (λ c reads there. let l = some_is (list_at old.store c.list) there in let n = list_to c.list l.0 l.1 in (is_some_of _ n.0 n.1, same_len c.list)) k

  pub IsTable-filled : IsTable new []
  IsTable-filled = record {
    store = a.laws;
    block = ap (λ s. s.block) a.store ∙ ap (λ s. s.block) p.reworks.store ∙ table.block ∙ sym same_block;
    loose = ap (λ s. count_by is_some s.loose) a.store ∙ ap (λ s. count_by is_some s.loose) p.reworks.store ∙ table.loose;
    units = λ w z at. elim (cases_eq w u) [
      | inl e ↦
          let same : z ≡ y = same_some (sym at ∙ ap (unit_at new) e ∙ unit_here) in
          (longer, ap (list_at new.store) e ∙ longer_here, subst (λ v. IsUnit new v z longer) (sym e) (subst (λ q. IsUnit new u q longer) (sym same) unit_now))
      | inr ne ↦ let k = table.units w z (sym (unit_else w ne) ∙ at) in (k.0, list_else w ne ∙ k.1, unit_kept w z k.0 k.2)
    ];
    lists = λ w some. elim (cases_eq w u) [
      | inl e ↦ is_some_of _ y (ap (unit_at new) e ∙ unit_here)
      | inr ne ↦ subst IsSome (sym (unit_else w ne)) (table.lists w (subst IsSome (list_else w ne) some))
    ];
    inputs = λ w i z k c at at_list inside cursor.
        let q = input_was w i z c at inside cursor in
        let b = list_back w k at_list in
        let h = table.inputs w i q.0 b.0 c q.1 b.1 q.2 q.3 in
        let n = list_to c.list h.0 h.1 in (
          n.0,
          n.1,
          elim (cases_eq w u) [
            | inl e ↦
                let now : z ≡ y = same_some (sym at ∙ ap (unit_at new) e ∙ unit_here) in
                let was : q.0 ≡ x = same_some (sym q.1 ∙ ap (unit_at old) e ∙ p.was) in
                subst (λ d. IsInput new d i c n.0) (sym now) (input_now i c n.0 (input_kept x i c h.0 n.0 n.2 n.3 (subst (λ d. IsInput old d i c h.0) was h.2)))
            | inr ne ↦
                let was : q.0 ≡ z = same_some (sym q.1 ∙ sym (unit_else w ne) ∙ at) in
                input_kept z i c h.0 n.0 n.2 n.3 (subst (λ d. IsInput old d i c h.0) was h.2)
          ],
        );
    kept = λ w i z s at is. let q = kept_was w i z s at is in kept_now s (table.kept w i q.0 s q.1 q.2);
    held = λ i c is. absurd (none_some is);
    counted = λ w j k is. let b = list_back w k is in omega (arith, same_own w j, same_mark w j, table.counted w j b.0 b.1);
    rank = table.rank;
    bound = table.bound;
    below = λ w z at. elim (cases_eq w u) [
      | inl e ↦ table.below w x (ap (unit_at old) e ∙ p.was)
      | inr ne ↦ table.below w z (sym (unit_else w ne) ∙ at)
    ];
    falls = λ w i z c at inside cursor. let q = input_was w i z c at inside cursor in table.falls w i q.0 c q.1 q.2 q.3;
    keeps_lower = λ w i z s c at is reads. let q = kept_was w i z s at is in table.keeps_lower w i q.0 s c q.1 q.2 reads;
  }

  sum_more : (marks : List ℕ) → sum (marks ++ 0 ∷ []) ≡ sum marks
  sum_more marks = omega (arith, sum_by-append (λ (m : ℕ). m) marks (0 ∷ []))

  pub IsRead-filled : IsRead new
  IsRead-filled w k is = elim (cases_eq w u) [
    | inl e ↦
        let same : k ≡ longer = same_some (sym is ∙ ap (list_at new.store) e ∙ longer_here) in
        omega (arith, ap cursors_of same, sum_more l.marks, f.heap.read u l listed)
    | inr ne ↦ f.heap.read w k (sym (list_else w ne) ∙ is)
  ]

  -- ---- its inputs

  count : length x.inputs.items ≡ inputs_in x.work
  count = was_unit.count

  pub filled_now : filled_in new.store u ≡ filled_in old.store u + 1
  filled_now = omega (arith, filled_is new.store u longer longer_here, longer_len, filled_is old.store u l listed)

  -- what its parts keep, once its inputs have moved on
  pub waits_then : (e : Table) (z : UnitData) → WaitsStill new e u → unit_at e u ≡ Some z → waits_in z.work ≡ cond (nat_lt (filled_in old.store u + 1) (blocks_of old.block x.timing.len)) (waits_in x.work) []
  waits_then e z still at = still y z unit_here at ∙ (λ i. cond (nat_lt (filled_now i) (blocks_of (same_block i) x.timing.len)) (same_waits i) [])

  same_computed : (w : ℕ) → w ≢ u → computed_in new w ≡ computed_in old w
  same_computed w ne =
      ap (λ (o : Option ListState). option_map_or {U = ℕ} (λ k. min (length k.values * new.block) k.len) o 0) (list_else w ne)
      ∙ ap (λ b. option_map_or {U = ℕ} (λ (k : ListState). min (length k.values * b) k.len) (list_at old.store w) 0) same_block

  same_taken : (k n : ℕ) → taken_after new.block (kind_of p.work) x.timing (timing_at x k) n ≡ taken_after old.block (kind_of x.work) x.timing (timing_at x k) n
  same_taken k n = λ i. taken_after (same_block i) (same_kinds i) x.timing (timing_at x k) n

  unit_is : f.there.unit ≡ x
  unit_is = same_some (sym f.there.there ∙ p.was)

  need_there : (k : ℕ) (c : CursorState) → k < length x.inputs.items → cursor_at x.work k ≡ Some c → taken_after old.block (kind_of x.work) x.timing (timing_at x k) (filled_in old.store u + 1) ≤ computed_in old c.list
  need_there k c inside is =
      let within : k < inputs_in x.work = omega (arith, inside, count) in
      let need = need_is old table u x p.was k c within is in
      let far = subst (λ (q : UnitData). k < inputs_in q.work → cursor_at q.work k ≡ Some c → need_in q.work k (computed_next_in old u) ≤ computed_in old c.list) unit_is (far_enough old u f k c) within is in
      omega (arith, need, far)

  apart : (k : ℕ) (c : CursorState) → k < length x.inputs.items → cursor_at x.work k ≡ Some c → c.list ≢ u
  apart k c inside is e = absurd (omega (arith, table.falls u k x c p.was inside is, ap table.rank e))

  pub settling : Settling new u 0
  settling = record {
    table = IsTable-filled;
    read = IsRead-filled;
    unit = y;
    there = unit_here;
    before = filled_in old.store u;
    filled = filled_now;
    places = λ k c from inside is.
        let was : cursor_at x.work k ≡ Some c = sym (same_cursor k) ∙ is in
        f.heap.needs u k x c p.was inside was ∙ sym (same_taken k (filled_in old.store u));
    computed = λ k c from inside is.
        let was : cursor_at x.work k ≡ Some c = sym (same_cursor k) ∙ is in
        omega (arith, same_taken k (filled_in old.store u + 1), need_there k c inside was, same_computed c.list (apart k c inside was));
  }

-- ---- between the two steps

module _ (old mid : Table) (u : ℕ) (out : List ℤ) (f : CanFill old u) (p : Computes old mid u out) where
  pub there_mid : IsThere mid u
  there_mid = record {
    unit = record p.unit { work = p.work };
    there = ap (λ us. get_or us u None) p.reworks.units ∙ get_or-set_same old.units.items u (Some (record p.unit { work = p.work })) None (place_within old.units.items u p.unit p.was);
    list = f.there.list;
    listed = ap (λ s. list_at s u) p.reworks.store ∙ f.there.listed;
    end = ap (λ (q : UnitData). q.list) (same_some (sym p.was ∙ f.there.there)) ∙ f.there.end;
    len = f.there.len ∙ ap (λ (q : UnitData). q.timing.len) (same_some (sym f.there.there ∙ p.was));
  }

  pub open_mid : is_open_in mid u ≡ is_open_in old u
  open_mid = (λ i. option_map_or (λ (l : ListState). nat_lt (length l.values) (blocks_of (p.reworks.block i) l.len)) (list_at (p.reworks.store i) u) false)

  pub block_mid : mid.store.block ≡ mid.block
  block_mid = ap (λ s. s.block) p.reworks.store ∙ f.heap.table.block ∙ sym p.reworks.block
