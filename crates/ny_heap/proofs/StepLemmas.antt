-- What the changes of the table are to a contract.
use Rattle.std.proofs.Common.{◌≡◌, ◌≢◌, inl, inr, ℕ, zero, suc, ◌+◌, ◌-◌, ◌*◌, ◌<◌, ◌≤◌, ◌&&◌, cond, nat_eq, List, [], ◌∷◌, length, map, get_or, set, Option, None, Some, is_some, IsSome, sum, refl, sym, ap, subst, ◌∙◌, arith, ℤ, append-nil}
use Rattle.std.specs.List.{range_with_len}
use Rattle.std.specs.Option.{option_map, option_map_or}
use Rattle.std.proofs.lemmas.List.{get_or_past}
use Rattle.std.proofs.lemmas.List.FromFn.{length-map-range_with_len}
use Rattle.std.proofs.lemmas.Bool.{cases_eq, cases_lt, true≢false, ne_eqb, eq-eqb}
use Rattle.ny_list.specs.Store.{ListState, CursorState, list_at}
use Rattle.ny_list.proofs.IndexLemmas.{same_some, none_some, tab_get, tab_past, tab_same, tab_set}
use Rattle.ny_heap.specs.declared.sound.Sound.{Sound}
use Rattle.ny_heap.specs.declared.table.Unit.{Unit as UnitData}
use Rattle.ny_heap.specs.declared.table.Table.{Table}
use Rattle.ny_heap.specs.Heap.{Node, HeapState, node_at, block_at, list_of, place_of, blocks_of, stands_in, taken_after}
use Rattle.ny_heap.specs.Means.{NodeMeans, KeepsMeaning, unit_value, all_inputs, nth_block}
use Rattle.ny_heap.specs.Reach.{Uses, ReadOutside, LeadsIn, IsTrimmed}
use Rattle.ny_heap.specs.Steps.{IsCounted, changed, without_mark, without_sound}
use Rattle.ny_heap.specs.Work.{kind_of}
use Rattle.ny_heap.specs.Table.{unit_at, IsTable, Drops, own_in, held_in, mark_in, len_of, stands_at, timing_at}
use Rattle.ny_heap.specs.View.{node_of, state_of, state_with, outside_in, filled_in, HaveBranches, IsHeap}
use Rattle.ny_heap.proofs.TableLemmas.{place_within}
use Rattle.ny_heap.proofs.ListLemmas.{len_is}
use Rattle.ny_heap.proofs.CountLemmas.{some_is, is_some_of, held_cons}
use Rattle.ny_heap.proofs.ViewLemmas.{node_of_unit, unit_of_node, no_unit, block_at-state, filled_is, uses_at, used_there}
use Rattle.ny_heap.proofs.LawLemmas.{some_term}
use Rattle.ny_heap.proofs.KeepLemmas.{still_timely}

-- ---- removal

-- what is left of a heap's units is as it was, and all else was unreachable, where what is read outside is left, and
-- what is used by what is left
pub trimmed_by : (B : Type 0) (bs : ℕ → List B) (old : HeapState B) (t : Table) (fills peak : ℕ) → length t.store.loose ≡ old.pool → t.block ≡ old.block → fills ≡ old.fills → peak ≡ old.peak → ((v : ℕ) (y : UnitData) → unit_at t v ≡ Some y → node_at old v ≡ Some (node_of bs t [] v y)) → ((v : ℕ) → ReadOutside old v → IsSome (unit_at t v)) → ((u v : ℕ) → IsSome (unit_at t u) → Uses old u v → IsSome (unit_at t v)) → IsTrimmed old (state_of bs t fills peak)
trimmed_by B bs old t fills peak pool block same_fills same_peak kept roots onward = record {
  size = record { pool = pool; block = block };
  fills = same_fills;
  peak = same_peak;
  kept = λ v y at. let x = unit_of_node B bs t fills peak v y at in kept v x.0 x.1 ∙ ap Some (sym x.2);
  gone = λ v x at none reach. true≢false (sym (along reach.2.0 reach.0 v (roots reach.0 reach.1) reach.2.1) ∙ ap is_some (no_unit B bs t fills peak v none));
}
  where
    along : (n u v : ℕ) → IsSome (unit_at t u) → LeadsIn old n u v → IsSome (unit_at t v)
    along zero u v left e = subst (λ w. IsSome (unit_at t w)) e left
    along (suc n) u v left walk = along n walk.0 v (onward u walk.0 left walk.1) walk.2

-- ---- what lists hold

-- what the lists hold stays, where units are as they were but for who reads them outside, and no list has a block more
pub keeps_by : (B : Type 0) (old new : HeapState B) → new.block ≡ old.block → ((v : ℕ) (y : Node B) → node_at new v ≡ Some y → (x : Node B) × (node_at old v ≡ Some x) × (y ≡ record x { outside = y.outside }) × ((j : ℕ) (b : List ℤ) → block_at new v j ≡ Some b → block_at old v j ≡ Some b)) → KeepsMeaning old new
keeps_by B old new block same part w means v y at =
    let x = same v y at in
    let m = means v x.0 x.1 in
    subst (NodeMeans part new w v) (sym x.2) (record {
      len = m.len;
      owed = m.owed;
      kept = λ j b e. m.kept j b (x.3 j b e) ∙ ap (λ n. nth_block n (w.samples v) j) (sym block);
      rest = λ k from below. m.rest k (subst (λ n. x.0.filled * n ≤ k) block from) below ∙ ap (λ n. unit_value x.0.kind x.0.timing x.0.memory (x.0.timing.start + x.0.filled * n) (all_inputs part w v x.0) (x.0.timing.start + k)) (sym block);
    })

-- ---- a unit, where cursors are in hand

module _ (B : Type 0) (bs : ℕ → List B) (t : Table) (cs : List (Option CursorState)) (fills peak : ℕ) where
  pub node_at-with : (v : ℕ) → node_at {B = B} (state_with bs t cs fills peak) v ≡ option_map (node_of bs t cs v) (unit_at t v)
  node_at-with v = elim (cases_lt v (length t.units.items)) [
    | inl inside ↦ tab_get (λ w. option_map (node_of {B = B} bs t cs w) (unit_at t w)) (length t.units.items) v None inside
    | inr past ↦ tab_past (λ w. option_map (node_of {B = B} bs t cs w) (unit_at t w)) (length t.units.items) v None past ∙ ap (option_map (node_of {B = B} bs t cs v)) (sym (get_or_past t.units.items v None past))
  ]

  pub node_with : (v : ℕ) (x : UnitData) → unit_at t v ≡ Some x → node_at {B = B} (state_with bs t cs fills peak) v ≡ Some (node_of bs t cs v x)
  node_with v x at = node_at-with v ∙ ap (option_map (node_of {B = B} bs t cs v)) at

  pub unit_with : (v : ℕ) (y : Node B) → node_at (state_with bs t cs fills peak) v ≡ Some y → (x : UnitData) × (unit_at t v ≡ Some x) × (y ≡ node_of bs t cs v x)
  unit_with v y at = by_unit (unit_at t v) refl
    where
      by_unit : (o : Option UnitData) → unit_at t v ≡ o → (x : UnitData) × (unit_at t v ≡ Some x) × (y ≡ node_of bs t cs v x)
      by_unit None e = absurd (none_some (sym (node_at-with v ∙ ap (option_map (node_of {B = B} bs t cs v)) e) ∙ at))
      by_unit (Some x) e = (x, e, same_some (sym at ∙ node_with v x e))

-- ---- one more sound of a caller's is taken in hand

module _ (B : Type 0) (bs : ℕ → List B) (t : Table) (cs : List (Option CursorState)) (fills peak : ℕ) (table : IsTable t cs) (s : Sound) (c : CursorState) (reads : s.reader ≡ Some c) (counted : IsCounted {B = B} (state_with bs t cs fills peak) s c.list) where
  pub holder : (x : UnitData) × (unit_at t c.list ≡ Some x) × (counted.unit ≡ node_of bs t cs c.list x)
  holder = unit_with B bs t cs fills peak c.list counted.unit counted.there

  held_list : (l : ListState) × (list_at t.store c.list ≡ Some l)
  held_list = let u = table.units c.list holder.0 holder.1 in (u.0, u.1)

  held_len : holder.0.timing.len ≡ len_of t.store c.list
  held_len = let u = table.units c.list holder.0 holder.1 in sym u.2.len ∙ sym (len_is t.store c.list u.0 u.1)

  held_place : place_of s ≡ c.place
  held_place = ap (λ (o : Option CursorState). option_map_or {U = ℕ} (λ d. d.place) o 0) reads

  -- the block in which it stands
  abbrev pub stand : ℕ
  stand = stands_in t.block (len_of t.store c.list) c.place

  stand_is : stands_in t.block holder.0.timing.len (place_of s) ≡ stand
  stand_is = ap (λ k. stands_in t.block k (place_of s)) held_len ∙ ap (stands_in t.block (len_of t.store c.list)) held_place

  abbrev marks : List ℕ
  marks = map (outside_in t cs c.list) (range_with_len 0 (filled_in t.store c.list + 1))

  marked : 0 < get_or marks stand 0
  marked = subst (λ k. 0 < get_or marks k 0) stand_is
      (subst (λ (y : Node B). 0 < get_or y.outside (stands_in t.block y.timing.len (place_of s)) 0) holder.2 counted.stands)

  pub stand_within : stand < filled_in t.store c.list + 1
  stand_within = elim (cases_lt stand (filled_in t.store c.list + 1)) [
    | inl h ↦ h
    | inr past ↦ absurd (omega (arith, marked, tab_past (outside_in t cs c.list) (filled_in t.store c.list + 1) stand 0 past))
  ]

  outside_some : 0 < outside_in t cs c.list stand
  outside_some = omega (arith, marked, tab_get (outside_in t cs c.list) (filled_in t.store c.list + 1) stand 0 stand_within)

  stands_else : (v j : ℕ) → v ≢ c.list → stands_at t.block (len_of t.store v) v j (Some c) ≡ 0
  stands_else v j ne = ap (λ b. cond {A = ℕ} (b && nat_eq (stands_in t.block (len_of t.store v) c.place) j) 1 0) (ne_eqb c.list v (λ e. ne (sym e)))

  stands_past : (j : ℕ) → j ≢ stand → stands_at t.block (len_of t.store c.list) c.list j (Some c) ≡ 0
  stands_past j ne = ap (λ b. cond {A = ℕ} (b && nat_eq stand j) 1 0) (eq-eqb c.list c.list refl) ∙ ap (λ b. cond {A = ℕ} b 1 0) (ne_eqb stand j (λ e. ne (sym e)))

  stands_here : stands_at t.block (len_of t.store c.list) c.list stand (Some c) ≡ 1
  stands_here = ap (λ b. cond {A = ℕ} (b && nat_eq stand stand) 1 0) (eq-eqb c.list c.list refl) ∙ ap (λ b. cond {A = ℕ} b 1 0) (eq-eqb stand stand refl)

  pub IsTable-held : IsTable t (Some c ∷ cs)
  IsTable-held = record {
    store = table.store;
    block = table.block;
    loose = table.loose;
    units = table.units;
    lists = table.lists;
    inputs = table.inputs;
    kept = table.kept;
    held = there;
    counted = λ v j l is. elim (cases_eq v c.list) [
      | inl e ↦ elim (cases_eq j stand) [
        | inl f ↦ here v j l e f is
        | inr nf ↦ past v j l e nf is
      ]
      | inr ne ↦ omega (arith, stands_else v j ne, held_cons t (Some c) cs v j, table.counted v j l is)
    ];
    rank = table.rank;
    bound = table.bound;
    below = table.below;
    falls = table.falls;
    keeps_lower = table.keeps_lower;
  }
    where
      there : (i : ℕ) (d : CursorState) → get_or (Some c ∷ cs) i None ≡ Some d → IsSome (list_at t.store d.list)
      there zero d is = subst (λ (k : CursorState). IsSome (list_at t.store k.list)) (same_some is) (is_some_of _ held_list.0 held_list.1)
      there (suc i) d is = table.held i d is

      here : (v j : ℕ) (l : ListState) → v ≡ c.list → j ≡ stand → list_at t.store v ≡ Some l → own_in t v j + held_in t (Some c ∷ cs) v j ≤ mark_in t.store v j
      here v j l e f is =
          omega (
            arith,
            ap (λ w. own_in t w j) e,
            ap (own_in t c.list) f,
            ap (λ w. held_in t cs w j) e,
            ap (held_in t cs c.list) f,
            ap (λ w. mark_in t.store w j) e,
            ap (mark_in t.store c.list) f,
            held_cons t (Some c) cs v j,
            ap (λ w. stands_at t.block (len_of t.store w) w j (Some c)) e,
            ap (λ k. stands_at t.block (len_of t.store c.list) c.list k (Some c)) f,
            stands_here,
            outside_some,
          )

      past : (v j : ℕ) (l : ListState) → v ≡ c.list → j ≢ stand → list_at t.store v ≡ Some l → own_in t v j + held_in t (Some c ∷ cs) v j ≤ mark_in t.store v j
      past v j l e nf is = omega (arith, held_cons t (Some c) cs v j, ap (λ w. stands_at t.block (len_of t.store w) w j (Some c)) e, stands_past j nf, table.counted v j l is)

  -- what a contract sees once it is spent
  pub spent_is : without_sound {B = B} (state_with bs t cs fills peak) s ≡ state_with bs t (Some c ∷ cs) fills peak
  spent_is =
      ap (λ (o : Option CursorState). changed {B = B} (state_with bs t cs fills peak) (list_of (record s { reader = o })) spend) reads
      ∙ ap (λ ns. record (state_with {B = B} bs t cs fills peak) { nodes = ns })
      (tab_set before after (length t.units.items) c.list (option_map spend (node_at (state_with bs t cs fills peak) c.list)) None (place_within t.units.items c.list holder.0 holder.1) here (λ w h ne. beside w ne (unit_at t w)))
    where
      spend : Node B → Node B
      spend x = without_mark (stands_in t.block x.timing.len (place_of s)) x

      before : ℕ → Option (Node B)
      before w = option_map (node_of {B = B} bs t cs w) (unit_at t w)

      after : ℕ → Option (Node B)
      after w = option_map (node_of {B = B} bs t (Some c ∷ cs) w) (unit_at t w)

      fewer : set marks stand (outside_in t cs c.list stand - 1) ≡ map (outside_in t (Some c ∷ cs) c.list) (range_with_len 0 (filled_in t.store c.list + 1))
      fewer =
          tab_set (outside_in t cs c.list) (outside_in t (Some c ∷ cs) c.list) (filled_in t.store c.list + 1) stand (outside_in t cs c.list stand - 1) 0 stand_within
          (omega (arith, held_cons t (Some c) cs c.list stand, stands_here))
          (λ j h ne. omega (arith, held_cons t (Some c) cs c.list j, stands_past j ne))

      here : after c.list ≡ option_map spend (node_at (state_with {B = B} bs t cs fills peak) c.list)
      here =
          ap (option_map (node_of {B = B} bs t (Some c ∷ cs) c.list)) holder.1
          ∙ ap (λ ms. Some (record (node_of {B = B} bs t cs c.list holder.0) { outside = ms }))
          (sym (ap (λ m. set marks m (get_or marks m 0 - 1)) stand_is
          ∙ ap (λ m. set marks stand (m - 1)) (tab_get (outside_in t cs c.list) (filled_in t.store c.list + 1) stand 0 stand_within)
          ∙ fewer))
          ∙ sym (ap (option_map spend) (node_with B bs t cs fills peak c.list holder.0 holder.1))

      beside : (w : ℕ) → w ≢ c.list → (o : Option UnitData) → option_map (node_of {B = B} bs t (Some c ∷ cs) w) o ≡ option_map (node_of {B = B} bs t cs w) o
      beside w ne None = refl
      beside w ne (Some x) =
          ap (λ ms. Some (record (node_of {B = B} bs t cs w x) { outside = ms }))
          (tab_same (outside_in t (Some c ∷ cs) w) (outside_in t cs w) (filled_in t.store w + 1) 0 (λ j h. omega (arith, held_cons t (Some c) cs w j, stands_else w j ne)))

-- ---- cursors are spent

-- what is left of the units has its readers
pub IsHeap-drops : (old new : Table) (cs : List (Option CursorState)) → IsHeap old → IsTable new [] → Drops old new cs [] → IsHeap new
IsHeap-drops old new cs heap table d = record {
  table = table;
  read = d.read heap.read;
  clean = λ v i x k at inside cursor.
      let w = heap.clean v i x k (d.kept v x at) inside cursor in
      (w.0, subst (λ b. filled_in new.store v < blocks_of b x.timing.len) (sym d.block) (subst (λ n. n < blocks_of old.block x.timing.len) (sym (filled v x at)) w.1));
  needs = λ v i x k at inside cursor. heap.needs v i x k (d.kept v x at) inside cursor ∙ taken v i x at;
  exhausted = λ v i x at inside reader none still.
      subst (λ n. (timing_at x i).len ≤ n) (taken v i x at)
      (heap.exhausted v i x (d.kept v x at) inside reader none (subst (λ b. filled_in old.store v < blocks_of b x.timing.len) d.block (subst (λ n. n < blocks_of new.block x.timing.len) (filled v x at) still)));
  waits = λ v x at full. heap.waits v x (d.kept v x at) (subst (λ b. blocks_of b x.timing.len ≤ filled_in old.store v) d.block (subst (λ n. blocks_of new.block x.timing.len ≤ n) (filled v x at) full));
  timely = λ v x at owes. still_timely x.timing.start (filled_in old.store v) (filled_in new.store v) old.block new.block _ (filled v x at) d.block (heap.timely v x (d.kept v x at) owes);
}
  where
    filled : (v : ℕ) (x : UnitData) → unit_at new v ≡ Some x → filled_in new.store v ≡ filled_in old.store v
    filled v x at =
        let l = table.units v x at in
        let was = d.lists v l.0 l.1 in
        filled_is new.store v l.0 l.1 ∙ was.2.filled ∙ sym (filled_is old.store v was.0 was.1)

    taken : (v i : ℕ) (x : UnitData) → unit_at new v ≡ Some x → taken_after old.block (kind_of x.work) x.timing (timing_at x i) (filled_in old.store v) ≡ taken_after new.block (kind_of x.work) x.timing (timing_at x i) (filled_in new.store v)
    taken v i x at = λ j. taken_after (sym d.block j) (kind_of x.work) x.timing (timing_at x i) (sym (filled v x at) j)

-- and what waits its branches
pub have_kept : (B : Type 0) (bs : ℕ → List B) (old new : Table) → HaveBranches bs old → ((v : ℕ) (x : UnitData) → unit_at new v ≡ Some x → unit_at old v ≡ Some x) → HaveBranches bs new
have_kept B bs old new have kept = λ v x at. have v x (kept v x at)

module _ (B : Type 0) (bs : ℕ → List B) (old new : Table) (cs : List (Option CursorState)) (fills peak : ℕ) (held : IsTable old cs) (drops : Drops old new cs []) where
  pub IsTable-drops : IsTable new []
  IsTable-drops = drops.table [] (subst (IsTable old) (sym (append-nil cs)) held)

  same_filled : (w : ℕ) (y : UnitData) → unit_at new w ≡ Some y → filled_in new.store w ≡ filled_in old.store w
  same_filled w y is =
      let l = IsTable-drops.units w y is in
      let was = drops.lists w l.0 l.1 in
      filled_is new.store w l.0 l.1 ∙ was.2.filled ∙ sym (filled_is old.store w was.0 was.1)

  -- who else stood in a block stands there still
  outside_kept : (w j : ℕ) (y : UnitData) → unit_at new w ≡ Some y → outside_in old cs w j ≡ outside_in new [] w j
  outside_kept w j y is =
      let l = IsTable-drops.units w y is in
      let was = drops.lists w l.0 l.1 in
      omega (arith, drops.others w j l.0 l.1, IsTable-drops.counted w j l.0 l.1, held.counted w j was.0 was.1)

  kept : (v : ℕ) (y : UnitData) → unit_at new v ≡ Some y → node_at {B = B} (state_with bs old cs fills peak) v ≡ Some (node_of bs new [] v y)
  kept v y is =
      node_with B bs old cs fills peak v y (drops.kept v y is)
      ∙ ap Some (λ i. record (node_of {B = B} bs old cs v y) { filled = sym (same_filled v y is) i; outside = marks i })
    where
      marks : map (outside_in old cs v) (range_with_len 0 (filled_in old.store v + 1)) ≡ map (outside_in new [] v) (range_with_len 0 (filled_in new.store v + 1))
      marks =
          tab_same (outside_in old cs v) (outside_in new [] v) (filled_in old.store v + 1) 0 (λ j h. outside_kept v j y is)
          ∙ ap (λ k. map (outside_in new [] v) (range_with_len 0 (k + 1))) (sym (same_filled v y is))

  roots : (v : ℕ) → ReadOutside {B = B} (state_with bs old cs fills peak) v → IsSome (unit_at new v)
  roots v out = by (list_at new.store v) refl
    where
      x : (x : UnitData) × (unit_at old v ≡ Some x) × (out.unit ≡ node_of bs old cs v x)
      x = unit_with B bs old cs fills peak v out.unit out.there

      some : (k : ℕ) × (k < length (map (outside_in old cs v) (range_with_len 0 (filled_in old.store v + 1)))) × (0 < get_or (map (outside_in old cs v) (range_with_len 0 (filled_in old.store v + 1))) k 0)
      some = some_term (λ m. m) 0 (map (outside_in old cs v) (range_with_len 0 (filled_in old.store v + 1))) (subst (λ (y : Node B). 0 < sum y.outside) x.2 out.some)

      by : (o : Option ListState) → list_at new.store v ≡ o → IsSome (unit_at new v)
      by (Some l) e = IsTable-drops.lists v (is_some_of _ l e)
      by None e =
          let l = held.units v x.0 x.1 in
          let inside : some.0 < filled_in old.store v + 1 = omega (arith, some.1, length-map-range_with_len (outside_in old cs v) 0 (filled_in old.store v + 1)) in
          absurd (omega (arith, some.2, tab_get (outside_in old cs v) (filled_in old.store v + 1) some.0 0 inside, drops.gone v some.0 l.0 l.1 e))

  onward : (u v : ℕ) → IsSome (unit_at new u) → Uses {B = B} (state_with bs old cs fills peak) u v → IsSome (unit_at new v)
  onward u v left uses =
      let y = some_is (unit_at new u) left in
      let c = uses_at B (bs u) (state_with bs old cs fills peak) u v y.0 (node_of bs old cs u y.0) (node_with B bs old cs fills peak u y.0 (drops.kept u y.0 y.1)) refl refl uses in
      let z = some_is (unit_at new c.0.list) (IsTable-drops.lists c.0.list (used_there new [] u y.0 c.0 IsTable-drops y.1 c.1)) in
      is_some_of _ z.0 (ap (unit_at new) (sym c.2) ∙ z.1)

  pub released : IsTrimmed {B = B} (state_with bs old cs fills peak) (state_of bs new fills peak)
  released = trimmed_by B bs (state_with bs old cs fills peak) new fills peak drops.pool drops.block refl refl kept roots onward

  pub drops_keep : KeepsMeaning {B = B} (state_of bs old fills peak) (state_of bs new fills peak)
  drops_keep = keeps_by B (state_of bs old fills peak) (state_of bs new fills peak) drops.block (λ v y is.
      let x = unit_of_node B bs new fills peak v y is in
      let l = IsTable-drops.units v x.0 x.1 in
      let was = drops.lists v l.0 l.1 in (
        node_of bs old [] v x.0,
        node_of_unit B bs old fills peak v x.0 (drops.kept v x.0 x.1),
        x.2 ∙ (λ i. record (node_of {B = B} bs old [] v x.0) { filled = same_filled v x.0 x.1 i; outside = map (outside_in new [] v) (range_with_len 0 (filled_in new.store v + 1)) })
            ∙ ap (λ ms. record (node_of {B = B} bs old [] v x.0) { outside = ms }) (sym (ap (λ (z : Node B). z.outside) x.2)),
        λ j b e. block_at-state B bs old fills peak v j was.0 was.1 ∙ was.2.kept j b (sym (block_at-state B bs new fills peak v j l.0 l.1) ∙ e),
      ))
