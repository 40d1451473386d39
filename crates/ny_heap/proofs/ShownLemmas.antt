-- What a contract sees once the cursor of a sound went on.
use Rattle.std.proofs.Common.{◌≡◌, ◌≢◌, ℕ, suc, ◌+◌, ◌*◌, ◌<◌, ◌≤◌, min, cond, List, [], ◌∷◌, length, map, get_or, set, Option, None, Some, refl, sym, ap, subst, ◌∙◌, arith}
use Rattle.std.specs.List.{range_with_len}
use Rattle.std.specs.Option.{option_map, option_map_or}
use Rattle.std.proofs.lemmas.Bool.{eq-eqb, ne_eqb}
use Rattle.ny_list.specs.Store.{ListState, CursorState, list_at}
use Rattle.ny_list.specs.Steps.{with_move}
use Rattle.ny_list.specs.Laws.{StoreLaws}
use Rattle.ny_list.specs.Reading.{Shows}
use Rattle.ny_list.proofs.IndexLemmas.{none_some, tab_get, tab_same, tab_set}
use Rattle.ny_heap.specs.declared.sound.Sound.{Sound}
use Rattle.ny_heap.specs.declared.table.Unit.{Unit as UnitData}
use Rattle.ny_heap.specs.declared.table.Table.{Table}
use Rattle.ny_heap.specs.Heap.{Node, HeapState, node_at, list_of, place_of, stands_in, computed_of}
use Rattle.ny_heap.specs.Means.{Parts, Whole, Means, KeepsMeaning}
use Rattle.ny_heap.specs.Reach.{IsTrimmed}
use Rattle.ny_heap.specs.Steps.{IsCounted, changed, with_mark, with_sound, without_sound, advanced, run_of}
use Rattle.ny_heap.specs.Steps as steps
use Rattle.ny_heap.specs.Table.{unit_at, len_of, stands_at, computed_in, IsTable}
use Rattle.ny_heap.specs.View.{node_of, state_of, state_with, outside_in, filled_in, IsHeap}
use Rattle.ny_heap.proofs.TableLemmas.{place_within}
use Rattle.ny_heap.proofs.NeedLemmas.{stands_within}
use Rattle.ny_heap.proofs.ListLemmas.{len_is, len_kept}
use Rattle.ny_heap.proofs.CountLemmas.{some_is, is_some_of, own_kept, held_cons}
use Rattle.ny_heap.proofs.ViewLemmas.{node_of_unit, unit_of_node, block_at-state, filled_is}
use Rattle.ny_heap.proofs.StepLemmas.{keeps_by, node_with, spent_is, holder, IsTable-held}
use Rattle.ny_heap.proofs.HeardLemmas.{table_now, lists_now, marks_now, its_list, IsTable-moved, stands_of, stands_apart}
use Rattle.ny_heap.proofs.ReadLemmas.{filled_now, IsHeap-moved}

-- what is computed of a list, as a contract sees it
computed_node : (B : Type 0) (bs : ℕ → List B) (t : Table) (cs : List (Option CursorState)) (table : IsTable t cs) (v : ℕ) (x : UnitData) → unit_at t v ≡ Some x → computed_of {B = B} t.block (node_of bs t cs v x) ≡ computed_in t v
computed_node B bs t cs table v x at =
    let u = table.units v x at in
    ap (λ n. min (n * t.block) x.timing.len) (filled_is t.store v u.0 u.1) ∙ ap (min (length u.0.values * t.block)) (sym u.2.len)
    ∙ sym (ap (λ (o : Option ListState). option_map_or {U = ℕ} (λ l. min (length l.values * t.block) l.len) o 0) u.1)

-- the first in hand is a sound's again
IsTable-rest : (t : Table) (o : Option CursorState) (cs : List (Option CursorState)) → IsTable t (o ∷ cs) → IsTable t cs
IsTable-rest t o cs table = record {
  store = table.store;
  block = table.block;
  loose = table.loose;
  units = table.units;
  lists = table.lists;
  inputs = table.inputs;
  kept = table.kept;
  held = λ i c is. table.held (suc i) c is;
  counted = λ v j l is. omega (arith, table.counted v j l is, held_cons t o cs v j);
  rank = table.rank;
  bound = table.bound;
  below = table.below;
  falls = table.falls;
  keeps_lower = table.keeps_lower;
}

module _ (B : Type 0) (bs : ℕ → List B) (t : Table) (c d : CursorState) (table : IsTable t (Some c ∷ [])) (same : d.list ≡ c.list) (computed : d.place ≤ computed_in t c.list) (fills peak : ℕ) where
  abbrev new : Table
  new = table_now t c d [] table same computed

  -- in the block in which it stands is one sound more
  outside_now : (v j : ℕ) (x : UnitData) → unit_at t v ≡ Some x → outside_in new [] v j ≡ outside_in t (Some c ∷ []) v j + stands_at t.block (len_of t.store v) v j (Some d)
  outside_now v j x at =
      let u = table.units v x at in
      let l = (lists_now t c d [] table same computed).to v u.0 u.1 in
      let len = len_kept t.store new.store v l.0 (lists_now t c d [] table same computed) l.1 in
      omega (arith, marks_now t c d [] table same computed v j, held_cons t (Some c) [] v j, own_kept t new.store v j len, table.counted v j u.0 u.1)

  abbrev marks_with : (v : ℕ) → List ℕ
  marks_with v = map (λ j. outside_in t (Some c ∷ []) v j + stands_at t.block (len_of t.store v) v j (Some d)) (range_with_len 0 (filled_in t.store v + 1))

  node_now : (v : ℕ) (x : UnitData) → unit_at t v ≡ Some x → node_of {B = B} bs new [] v x ≡ record (node_of bs t (Some c ∷ []) v x) { outside = marks_with v }
  node_now v x at =
      (λ i. record (node_of {B = B} bs t (Some c ∷ []) v x) { filled = filled_now t c d [] table same computed v x at i; outside = map (outside_in new [] v) (range_with_len 0 (filled_now t c d [] table same computed v x at i + 1)) })
      ∙ ap (λ ms. record (node_of {B = B} bs t (Some c ∷ []) v x) { outside = ms })
      (tab_same (outside_in new [] v) (λ j. outside_in t (Some c ∷ []) v j + stands_at t.block (len_of t.store v) v j (Some d)) (filled_in t.store v + 1) 0 (λ j h. outside_now v j x at))

  module _ (s : Sound) (reads : s.reader ≡ Some d) where
    abbrev heard : Node B → Node B
    heard x = with_mark (stands_in t.block x.timing.len (place_of s)) x

    abbrev before : ℕ → Option (Node B)
    before w = option_map (node_of {B = B} bs t (Some c ∷ []) w) (unit_at t w)

    abbrev after : ℕ → Option (Node B)
    after w = option_map (node_of {B = B} bs new [] w) (unit_at t w)

    its_unit : (x : UnitData) × (unit_at t d.list ≡ Some x)
    its_unit = some_is (unit_at t d.list) (table.lists d.list (is_some_of _ (its_list t c d [] table same computed).0 (ap (list_at t.store) same ∙ (its_list t c d [] table same computed).1)))

    abbrev stand : ℕ
    stand = stands_in t.block (len_of t.store d.list) d.place

    stand_is : stands_in t.block its_unit.0.timing.len (place_of s) ≡ stand
    stand_is =
        let u = table.units d.list its_unit.0 its_unit.1 in
        ap (λ n. stands_in t.block n (place_of s)) (sym u.2.len ∙ sym (len_is t.store d.list u.0 u.1))
        ∙ ap (λ (o : Option CursorState). stands_in t.block (len_of t.store d.list) (option_map_or {U = ℕ} (λ k. k.place) o 0)) reads

    stand_within : stand < filled_in t.store d.list + 1
    stand_within =
        let u = table.units d.list its_unit.0 its_unit.1 in
        let place : d.place ≤ min (length u.0.values * t.block) u.0.len =
        omega (arith, computed, ap (computed_in t) same, ap (λ (o : Option ListState). option_map_or {U = ℕ} (λ l. min (length l.values * t.block) l.len) o 0) u.1) in
        omega (arith, stands_within t.block u.0.len d.place (length u.0.values) (omega (arith, table.store.some, table.block)) place, ap (λ n. stands_in t.block n d.place) (len_is t.store d.list u.0 u.1), filled_is t.store d.list u.0 u.1)

    abbrev old_marks : List ℕ
    old_marks = map (outside_in t (Some c ∷ []) d.list) (range_with_len 0 (filled_in t.store d.list + 1))

    more : set old_marks stand (get_or old_marks stand 0 + 1) ≡ marks_with d.list
    more =
        tab_set (outside_in t (Some c ∷ []) d.list) (λ j. outside_in t (Some c ∷ []) d.list j + stands_at t.block (len_of t.store d.list) d.list j (Some d)) (filled_in t.store d.list + 1) stand (get_or old_marks stand 0 + 1) 0 stand_within
        (omega (
          arith,
          tab_get (outside_in t (Some c ∷ []) d.list) (filled_in t.store d.list + 1) stand 0 stand_within,
          stands_of t.block (len_of t.store d.list) (len_of t.store d.list) d.list stand d refl refl,
          ap (λ b. cond {A = ℕ} b 1 0) (eq-eqb stand stand refl),
        ))
        (λ j h ne. omega (arith, stands_of t.block (len_of t.store d.list) (len_of t.store d.list) d.list j d refl refl, ap (λ b. cond {A = ℕ} b 1 0) (ne_eqb stand j (λ e. ne (sym e)))))

    here : after d.list ≡ option_map heard (node_at (state_with {B = B} bs t (Some c ∷ []) fills peak) d.list)
    here =
        ap (option_map (node_of {B = B} bs new [] d.list)) its_unit.1
        ∙ ap Some (node_now d.list its_unit.0 its_unit.1)
        ∙ ap (λ ms. Some (record (node_of {B = B} bs t (Some c ∷ []) d.list its_unit.0) { outside = ms })) (sym (ap (λ m. set old_marks m (get_or old_marks m 0 + 1)) stand_is ∙ more))
        ∙ sym (ap (option_map heard) (node_with B bs t (Some c ∷ []) fills peak d.list its_unit.0 its_unit.1))

    beside : (w : ℕ) → w ≢ d.list → (o : Option UnitData) → unit_at t w ≡ o → option_map (node_of {B = B} bs new [] w) o ≡ option_map (node_of {B = B} bs t (Some c ∷ []) w) o
    beside w ne None at = refl
    beside w ne (Some x) at =
        ap Some (node_now w x at)
        ∙ ap (λ ms. Some (record (node_of {B = B} bs t (Some c ∷ []) w x) { outside = ms }))
        (tab_same (λ j. outside_in t (Some c ∷ []) w j + stands_at t.block (len_of t.store w) w j (Some d)) (outside_in t (Some c ∷ []) w) (filled_in t.store w + 1) 0
        (λ j h. omega (arith, stands_apart t.block (len_of t.store w) w j d (λ e. ne (sym e)))))

    -- what a contract sees once it is a sound's again
    pub heard_is : with_sound {B = B} (state_with bs t (Some c ∷ []) fills peak) s ≡ record (state_of {B = B} bs t fills peak) { nodes = (state_of {B = B} bs new fills peak).nodes }
    heard_is =
        ap (λ (o : Option CursorState). changed {B = B} (state_with bs t (Some c ∷ []) fills peak) (list_of (record s { reader = o })) heard) reads
        ∙ ap (λ ns. record (state_of {B = B} bs t fills peak) { nodes = ns })
        (tab_set before after (length t.units.items) d.list (option_map heard (node_at (state_with bs t (Some c ∷ []) fills peak) d.list)) None (place_within t.units.items d.list its_unit.0 its_unit.1) here (λ w h ne. beside w ne (unit_at t w) refl))

  -- nothing is gone
  pub none_gone : IsTrimmed {B = B} (record (state_of {B = B} bs t fills peak) { nodes = (state_of {B = B} bs new fills peak).nodes }) (state_of bs new fills peak)
  none_gone = record {
    size = record { pool = refl; block = refl };
    fills = refl;
    peak = refl;
    kept = λ v y at. at;
    gone = λ v x at none reach. none_some (sym none ∙ at);
  }

  pub read_keeps : KeepsMeaning {B = B} (state_of bs t fills peak) (state_of bs new fills peak)
  read_keeps = keeps_by B (state_of bs t fills peak) (state_of bs new fills peak) refl (λ v y is.
      let x = unit_of_node B bs new fills peak v y is in
      let u = table.units v x.0 x.1 in
      let now = (lists_now t c d [] table same computed).to v u.0 u.1 in (
        node_of bs t [] v x.0,
        node_of_unit B bs t fills peak v x.0 x.1,
        x.2 ∙ (λ i. record (node_of {B = B} bs t [] v x.0) { filled = filled_now t c d [] table same computed v x.0 x.1 i; outside = map (outside_in new [] v) (range_with_len 0 (filled_in new.store v + 1)) })
            ∙ ap (λ ms. record (node_of {B = B} bs t [] v x.0) { outside = ms }) (sym (ap (λ (z : Node B). z.outside) x.2)),
        λ j b e. block_at-state B bs t fills peak v j u.0 u.1 ∙ now.2.kept j b (sym (block_at-state B bs new fills peak v j now.0 now.1) ∙ e),
      ))

-- ---- a sound that is read

-- c, the cursor of s, is k once n samples were read
module _ (B : Type 0) (bs : ℕ → List B) (t new : Table) (fills peak : ℕ) (table : IsTable t []) (s : Sound) (c k : CursorState) (reads : s.reader ≡ Some c) (counted : IsCounted {B = B} (state_of bs t fills peak) s c.list) where
  pub read_held : IsTable t (Some c ∷ [])
  read_held = IsTable-held B bs t [] fills peak table s c reads counted

  its_holder : (x : UnitData) × (unit_at t c.list ≡ Some x) × (counted.unit ≡ node_of bs t [] c.list x)
  its_holder = holder B bs t [] fills peak table s c reads counted

  place_is : place_of s ≡ c.place
  place_is = ap (λ (o : Option CursorState). option_map_or {U = ℕ} (λ d. d.place) o 0) reads

  pub read_computed : c.place ≤ computed_in t c.list
  read_computed = omega (arith, counted.place, place_is, ap (computed_of {B = B} t.block) its_holder.2, computed_node B bs t [] table c.list its_holder.0 its_holder.1)

  pub read_count : (n most : ℕ) → n ≡ run_of t.block (computed_in t c.list) s.timing.len c.place most → n ≡ run_of t.block (steps.computed_in {B = B} (state_of bs t fills peak) (list_of s)) s.timing.len (place_of s) most
  read_count n most is =
      is ∙ ap (λ m. run_of t.block m s.timing.len c.place most) (sym (computed_node B bs t [] table c.list its_holder.0 its_holder.1)
      ∙ ap (λ (o : Option (Node B)). option_map_or {U = ℕ} (computed_of {B = B} t.block) o 0) (sym (node_of_unit B bs t fills peak c.list its_holder.0 its_holder.1))
      ∙ ap (λ (o : Option CursorState). steps.computed_in {B = B} (state_of bs t fills peak) (option_map {U = ℕ} (λ d. d.list) o)) (sym reads))
      ∙ ap (λ p. run_of t.block (steps.computed_in {B = B} (state_of bs t fills peak) (list_of s)) s.timing.len p most) (sym place_is)

  -- what its list has is what the whole list has there
  pub read_shows : (part : Parts B) (w : Whole) → Means part (state_of bs t fills peak) w → Shows t.store c.list (w.samples c.list)
  read_shows part w means = record {
    kept = λ x j samples is at.
        (means c.list (node_of bs t [] c.list its_holder.0) (node_of_unit B bs t fills peak c.list its_holder.0 its_holder.1)).kept j samples (block_at-state B bs t fills peak c.list j x is ∙ at)
        ∙ ap (λ b. Rattle.ny_heap.specs.Means.nth_block b (w.samples c.list) j) (sym table.block);
  }

  module _ (n most visible : ℕ) (count : n ≡ run_of t.block (computed_in t c.list) s.timing.len c.place most) (passed : k ≡ record c { place = c.place + n; visible = visible })
      (moved : new ≡ record t { store = with_move t.store c (c.place + n) }) (laws : StoreLaws new.store) where
    abbrev gone_on : CursorState
    gone_on = record c { place = c.place + n; visible = visible }

    far : gone_on.place ≤ computed_in t c.list
    far = omega (arith, count, read_computed)

    laws_now : StoreLaws (with_move t.store c (c.place + n))
    laws_now = subst (λ (q : Table). StoreLaws q.store) moved laws

    table_then : IsTable (record t { store = with_move t.store c (c.place + n) }) []
    table_then = IsTable-rest (record t { store = with_move t.store c (c.place + n) }) (Some gone_on) [] (IsTable-moved t c gone_on [] read_held refl far laws_now)

    pub read_heap : IsHeap t → IsHeap new
    read_heap heap = subst IsHeap (sym moved) (IsHeap-moved t c gone_on [] read_held refl far heap table_then)

    pub read_trimmed : IsTrimmed (advanced {B = B} (state_of bs t fills peak) s (record s { reader = Some k })) (state_of bs new fills peak)
    read_trimmed =
        subst (λ (q : CursorState). IsTrimmed (advanced {B = B} (state_of bs t fills peak) s (record s { reader = Some q })) (state_of bs new fills peak)) (sym passed)
        (subst (λ (q : Table). IsTrimmed (advanced {B = B} (state_of bs t fills peak) s (record s { reader = Some gone_on })) (state_of bs q fills peak)) (sym moved)
        (subst (λ (h : HeapState B). IsTrimmed h (state_of bs (record t { store = with_move t.store c (c.place + n) }) fills peak))
        (sym (ap (λ (h : HeapState B). with_sound h (record s { reader = Some gone_on })) (spent_is B bs t [] fills peak table s c reads counted) ∙ heard_is B bs t c gone_on read_held refl far fills peak (record s { reader = Some gone_on }) refl))
        (none_gone B bs t c gone_on read_held refl far fills peak)))

    pub read_kept : KeepsMeaning {B = B} (state_of bs t fills peak) (state_of bs new fills peak)
    read_kept = subst (λ (q : Table). KeepsMeaning {B = B} (state_of bs t fills peak) (state_of bs q fills peak)) (sym moved) (read_keeps B bs t c gone_on read_held refl far fills peak)
