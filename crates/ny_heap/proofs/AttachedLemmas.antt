-- What a contract sees once a part was attached: it is its unit's, and no more its caller's.
use Rattle.std.proofs.Common.{◌≡◌, ◌⊎◌, inl, inr, ℕ, zero, suc, ◌+◌, ◌-◌, ◌<◌, List, [], ◌∷◌, ◌++◌, length, map, get_or, set, Option, None, Some, refl, sym, ap, subst, ◌∙◌, arith, length-set}
use Rattle.std.specs.List.{range_with_len}
use Rattle.std.specs.Option.{option_map, option_map_or}
use Rattle.std.proofs.lemmas.Bool.{cases_eq}
use Rattle.std.proofs.lemmas.List.FromFn.{length-map-range_with_len}
use Rattle.ny_num.specs.declared.timing.Timing.{Timing}
use Rattle.ny_list.specs.Store.{ListState, CursorState}
use Rattle.ny_list.proofs.IndexLemmas.{same_some, none_some, tab_get, tab_same, tab_set}
use Rattle.ny_heap.specs.declared.sound.Sound.{Sound}
use Rattle.ny_heap.specs.declared.table.Unit.{Unit as UnitData}
use Rattle.ny_heap.specs.declared.table.Table.{Table}
use Rattle.ny_heap.specs.declared.work.Work.{Work}
use Rattle.ny_heap.specs.declared.work.Work.TheVariants.{Leaf as LeafWork, Pair as PairWork, Abs as AbsWork, Resample as ResampleWork, Filter as FilterWork, Mix as MixWork, Channel as ChannelWork}
use Rattle.ny_heap.specs.Heap.{Reader, Mix, Node, node_at}
use Rattle.ny_heap.specs.Reach.{Uses, LeadsIn, LeadsTo}
use Rattle.ny_heap.specs.Steps.{reader_of, changed, without_sound}
use Rattle.ny_heap.specs.Work.{kind_of, cursor_at, waits_in, kept_in, cursors_of_sounds, HasPlaces}
use Rattle.ny_heap.specs.Table.{unit_at, input_of, readers_of, held_in, mark_in, IsTable}
use Rattle.ny_heap.specs.View.{node_of, state_of, state_with, outside_in, filled_in, last_stop_in, waiting_with, HaveBranches}
use Rattle.ny_heap.specs.Revealing.{with_part, Attaches, Delivers}
use Rattle.ny_heap.specs.Attaching.{GetsPart}
use Rattle.ny_heap.proofs.TableLemmas.{place_within}
use Rattle.ny_heap.proofs.KeepLemmas.{HoldsCursor, cursor_kept, kept_at}
use Rattle.ny_heap.proofs.CountLemmas.{held_cons}
use Rattle.ny_heap.proofs.AddLemmas.{reads_as}
use Rattle.ny_heap.proofs.StepLemmas.{node_with}
use Rattle.ny_heap.proofs.ViewLemmas.{node_of_unit, unit_of_node, used_lower, cursor_uses}
use Rattle.ny_heap.proofs.RevealMeans.{OthersStay, means_delivered}
use Rattle.ny_heap.proofs.RaiseLemmas.{IsAmong, WalksIn, raised, raised_most, raised_falls, raised_apart}
use Rattle.ny_heap.proofs.AttachLemmas.{unit_now, more, units_now, now_here, now_else, own_now, readers_now, timing_last, cursor_last}

-- ---- an order in which the part stands below its unit

-- the lists that these read
abbrev pub lists_read : List (Option CursorState) → List ℕ
lists_read [] = []
lists_read (None ∷ cs) = lists_read cs
lists_read (Some c ∷ cs) = c.list ∷ lists_read cs

among_read : (cs : List (Option CursorState)) (i : ℕ) (c : CursorState) → get_or cs i None ≡ Some c → IsAmong c.list (lists_read cs)
among_read [] i c is = absurd (none_some is)
among_read (None ∷ cs) zero c is = absurd (none_some is)
among_read (None ∷ cs) (suc i) c is = among_read cs i c is
among_read (Some d ∷ cs) zero c is = inl (ap (λ (k : CursorState). k.list) (sym (same_some is)))
among_read (Some d ∷ cs) (suc i) c is = inr (among_read cs i c is)

read_among : (cs : List (Option CursorState)) (v : ℕ) → IsAmong v (lists_read cs) → (i : ℕ) × (c : CursorState) × (get_or cs i None ≡ Some c) × (c.list ≡ v)
read_among [] v among = absurd among
read_among (None ∷ cs) v among = let r = read_among cs v among in (suc r.0, r.1, r.2, r.3)
read_among (Some d ∷ cs) v (inl e) = (0, d, refl, sym e)
read_among (Some d ∷ cs) v (inr among) = let r = read_among cs v among in (suc r.0, r.1, r.2, r.3)

among_left : (v : ℕ) (xs ys : List ℕ) → IsAmong v xs → IsAmong v (xs ++ ys)
among_left v [] ys among = absurd among
among_left v (x ∷ xs) ys (inl e) = inl e
among_left v (x ∷ xs) ys (inr among) = inr (among_left v xs ys among)

among_right : (v : ℕ) (xs ys : List ℕ) → IsAmong v ys → IsAmong v (xs ++ ys)
among_right v [] ys among = among
among_right v (x ∷ xs) ys among = inr (among_right v xs ys among)

among_either : (v : ℕ) (xs ys : List ℕ) → IsAmong v (xs ++ ys) → IsAmong v xs ⊎ IsAmong v ys
among_either v [] ys among = inr among
among_either v (x ∷ xs) ys (inl e) = inl (inl e)
among_either v (x ∷ xs) ys (inr among) = elim (among_either v xs ys among) [
  | inl h ↦ inl (inr h)
  | inr h ↦ inr h
]

abbrev read_by : UnitData → List ℕ
read_by x = lists_read (map (cursor_at x.work) (range_with_len 0 (length x.inputs.items))) ++ lists_read (cursors_of_sounds (kept_in x.work))

holds_among : (x : UnitData) (c : CursorState) → HoldsCursor x c → IsAmong c.list (read_by x)
holds_among x c (inl r) =
    among_left c.list (lists_read (map (cursor_at x.work) (range_with_len 0 (length x.inputs.items)))) (lists_read (cursors_of_sounds (kept_in x.work)))
    (among_read (map (cursor_at x.work) (range_with_len 0 (length x.inputs.items))) r.0 c (tab_get (cursor_at x.work) (length x.inputs.items) r.0 None r.1 ∙ r.2))
holds_among x c (inr k) =
    among_right c.list (lists_read (map (cursor_at x.work) (range_with_len 0 (length x.inputs.items)))) (lists_read (cursors_of_sounds (kept_in x.work)))
    (among_read (cursors_of_sounds (kept_in x.work)) k.0 c (kept_at (kept_in x.work) k.0 k.1 k.2 ∙ k.3))

among_holds : (x : UnitData) (v : ℕ) → IsAmong v (read_by x) → (c : CursorState) × HoldsCursor x c × (c.list ≡ v)
among_holds x v among = elim (among_either v (lists_read (map (cursor_at x.work) (range_with_len 0 (length x.inputs.items)))) (lists_read (cursors_of_sounds (kept_in x.work))) among) [
  | inl h ↦
      let r = read_among (map (cursor_at x.work) (range_with_len 0 (length x.inputs.items))) v h in
      let inside : r.0 < length x.inputs.items = omega (arith, place_within (map (cursor_at x.work) (range_with_len 0 (length x.inputs.items))) r.0 r.1 r.2, length-map-range_with_len (cursor_at x.work) 0 (length x.inputs.items)) in
      (r.1, inl (r.0, inside, sym (tab_get (cursor_at x.work) (length x.inputs.items) r.0 None inside) ∙ r.2), r.3)
  | inr h ↦
      let r = read_among (cursors_of_sounds (kept_in x.work)) v h in
      let s = cursor_kept (kept_in x.work) r.0 r.1 r.2 in
      (r.1, inr (r.0, s.0, s.1, s.2), r.3)
]

module _ (t : Table) (cs : List (Option CursorState)) (table : IsTable t cs) where
  -- what each unit reads
  abbrev uses : ℕ → List ℕ
  uses w = option_map_or read_by (unit_at t w) []

  uses_unit : (w v : ℕ) → IsAmong v (uses w) → (x : UnitData) × (unit_at t w ≡ Some x) × IsAmong v (read_by x)
  uses_unit w v among = by (unit_at t w) refl among
    where
      by : (o : Option UnitData) → unit_at t w ≡ o → IsAmong v (option_map_or read_by o []) → (x : UnitData) × (unit_at t w ≡ Some x) × IsAmong v (read_by x)
      by None e among = absurd among
      by (Some x) e among = (x, e, among)

  uses_fall : (w v : ℕ) → IsAmong v (uses w) → table.rank v < table.rank w
  uses_fall w v among =
      let x = uses_unit w v among in
      let c = among_holds x.0 v x.2 in
      subst (λ k. table.rank k < table.rank w) c.2 (used_lower t cs w x.0 c.0 table x.1 c.1)

  -- all that leads to the unit stands above the list
  pub above : ℕ → ℕ → ℕ → ℕ
  above u n = raised uses table.rank uses_fall u n

  pub above_bound : (u n v : ℕ) (z : UnitData) → unit_at t v ≡ Some z → above u n v < table.bound + (table.rank n + 1)
  unfolding above
  above_bound u n v z at = omega (arith, raised_most uses table.rank uses_fall u n v, table.below v z at)

  pub above_lower : (u n v : ℕ) (z : UnitData) (c : CursorState) → unit_at t v ≡ Some z → HoldsCursor z c → above u n c.list < above u n v
  unfolding above
  above_lower u n v z c at holds = raised_falls uses table.rank uses_fall u n v c.list (subst (λ (o : Option UnitData). IsAmong c.list (option_map_or read_by o [])) (sym at) (holds_among z c holds))

  module _ (B : Type 0) (bs : ℕ → List B) (have : HaveBranches bs t) (fills peak : ℕ) where
    walk_leads : (k w u : ℕ) → WalksIn uses k w u → LeadsIn {B = B} (state_of bs t fills peak) k w u
    walk_leads zero w u walk = walk
    walk_leads (suc k) w u walk =
        let x = uses_unit w walk.0 walk.1 in
        let c = among_holds x.0 walk.0 x.2 in
        (walk.0, subst (λ v. Uses {B = B} (state_of bs t fills peak) w v) c.2 (cursor_uses B bs t fills peak have w x.0 c.0 x.1 c.1), walk_leads k walk.0 u walk.2)

    pub above_edge : (u n : ℕ) → (LeadsTo {B = B} (state_of bs t fills peak) n u → ⊥) → above u n n < above u n u
    unfolding above
    above_edge u n apart = raised_apart uses table.rank uses_fall u n (λ walk. apart (walk.0, walk_leads walk.0 n u walk.1))

-- ---- what a contract sees

-- only a mix is promised a part
mix_of : (w : Work) (n : ℕ) → HasPlaces w n → 0 < n → kind_of w ≡ Mix
mix_of (LeafWork p) n places some = absurd (omega (arith, places, some))
mix_of (PairWork p a b) n places some = absurd (omega (arith, places, some))
mix_of (AbsWork s) n places some = absurd (omega (arith, places, some))
mix_of (ResampleWork r) n places some = absurd (omega (arith, places, some))
mix_of (FilterWork f start) n places some = absurd (omega (arith, places, some))
mix_of (MixWork m) n places some = refl
mix_of (ChannelWork p) n places some = absurd (omega (arith, places, some))

last_stop_push : (stop : ℕ) (ts : List Timing) (t : Timing) → last_stop_in stop (ts ++ t ∷ []) ≡ t.stop
last_stop_push stop [] t = refl
last_stop_push stop (q ∷ ts) t = last_stop_push q.stop ts t

reads_of : (s : Sound) (o : Option CursorState) → s.reader ≡ o → option_map {U = Reader} (λ c. record { node = c.list; place = c.place; timing = s.timing }) (reads_as (record s { reader = o })) ≡ reader_of (record s { reader = o })
reads_of s None e = refl
reads_of s (Some c) e = refl

module _ (B : Type 0) (bs : ℕ → List B) (old new : Table) (u : ℕ) (s : Sound) (table : IsTable old (s.reader ∷ [])) (g : GetsPart old new u s) (promised : 0 < g.unit.pending) (fills peak : ℕ) where
  abbrev now : UnitData
  now = unit_now old new u s table g promised

  input_new : input_of now (length g.unit.inputs.items) ≡ reader_of s
  input_new =
      (λ i. option_map {U = Reader} (λ c. record { node = c.list; place = c.place; timing = timing_last old new u s table g promised i }) (cursor_last old new u s table g promised i))
      ∙ reads_of s s.reader refl

  same_filled : (w : ℕ) → filled_in new.store w ≡ filled_in old.store w
  same_filled w = ap (λ r. filled_in r w) g.store

  outside_same : (w j : ℕ) → outside_in new [] w j ≡ outside_in old (s.reader ∷ []) w j
  outside_same w j =
      let none : held_in new [] w j ≡ 0 = refl in
      let also : held_in old [] w j ≡ 0 = refl in
      omega (arith, ap (λ r. mark_in r w j) g.store, own_now old new u s table g promised w j, held_cons old s.reader [] w j, none, also)

  marks_same : (w : ℕ) → map (outside_in new [] w) (range_with_len 0 (filled_in new.store w + 1)) ≡ map (outside_in old (s.reader ∷ []) w) (range_with_len 0 (filled_in old.store w + 1))
  marks_same w =
      tab_same (outside_in new [] w) (outside_in old (s.reader ∷ []) w) (filled_in new.store w + 1) 0 (λ j h. outside_same w j)
      ∙ ap (λ n. map (outside_in old (s.reader ∷ []) w) (range_with_len 0 (n + 1))) (same_filled w)

  inputs_are : readers_of now ≡ readers_of g.unit ++ reader_of s ∷ []
  inputs_are = sym (readers_now old new u s table g promised) ∙ ap (λ (r : Option Reader). readers_of g.unit ++ r ∷ []) input_new

  stop_is : last_stop_in 0 g.now.inputs.items ≡ s.timing.stop
  stop_is = ap (last_stop_in 0) g.inputs ∙ last_stop_push 0 g.unit.inputs.items s.timing

  node_new : node_of {B = B} bs new [] u now ≡ with_part s (node_of bs old (s.reader ∷ []) u g.unit)
  node_new =
      let m = more old new u s table g promised in
      λ i. record (node_of {B = B} bs new [] u now) {
        kind = m.kind i;
        filled = same_filled u i;
        inputs = inputs_are i;
        memory = m.memory i;
        last_stop = stop_is i;
        waiting = waiting_with (bs u) (m.waits i);
        outside = marks_same u i;
      }

  node_else : (w : ℕ) → (o : Option UnitData) → option_map (node_of {B = B} bs new [] w) o ≡ option_map (node_of bs old (s.reader ∷ []) w) o
  node_else w None = refl
  node_else w (Some y) = λ i. Some (record (node_of {B = B} bs old (s.reader ∷ []) w y) { filled = same_filled w i; outside = marks_same w i })

  -- the sound is the unit's
  pub attached_is : without_sound {B = B} (state_of bs old fills peak) s ≡ state_with bs old (s.reader ∷ []) fills peak → Attaches {B = B} (state_of bs old fills peak) (state_of bs new fills peak) u s
  attached_is spent =
      (λ i. record (state_of {B = B} bs new fills peak) {
        nodes = nodes i;
        blocks = map (λ (o : Option ListState). option_map_or (λ l. l.values) o []) (g.store i).lists;
        pool = length (g.store i).loose;
        block = g.block i;
      })
      ∙ ap (λ h. changed {B = B} h (Some u) (with_part s)) (sym spent)
    where
      before : ℕ → Option (Node B)
      before w = option_map (node_of bs old (s.reader ∷ []) w) (unit_at old w)

      after : ℕ → Option (Node B)
      after w = option_map (node_of bs new [] w) (unit_at new w)

      long : length new.units.items ≡ length old.units.items
      long = ap length (units_now old new u s table g promised) ∙ length-set old.units.items u (Some now)

      nodes : map after (range_with_len 0 (length new.units.items)) ≡ set (map before (range_with_len 0 (length old.units.items))) u (option_map (with_part s) (node_at {B = B} (state_with bs old (s.reader ∷ []) fills peak) u))
      nodes =
          ap (λ n. map after (range_with_len 0 n)) long
          ∙ sym (tab_set before after (length old.units.items) u (option_map (with_part s) (node_at {B = B} (state_with bs old (s.reader ∷ []) fills peak) u)) None (place_within old.units.items u g.unit g.was)
          (ap (option_map (node_of {B = B} bs new [] u)) (now_here old new u s table g promised) ∙ ap Some node_new ∙ sym (ap (option_map (with_part s)) (node_with B bs old (s.reader ∷ []) fills peak u g.unit g.was)))
          (λ w h ne. ap (option_map (node_of {B = B} bs new [] w)) (now_else old new u s table g promised w ne) ∙ node_else w (unit_at old w)))

  -- ---- what the lists mean

  stay : OthersStay {B = B} (state_of bs old fills peak) (state_of bs new fills peak) u
  stay = record {
    block = g.block;
    blocks = λ v j b e. ap (λ r. get_or (get_or (map (λ (o : Option ListState). option_map_or (λ l. l.values) o []) r.lists) v []) j None) (sym g.store) ∙ e;
    others = λ v y ne at.
        let z = unit_of_node B bs new fills peak v y at in (
          node_of bs old [] v z.0,
          node_of_unit B bs old fills peak v z.0 (sym (now_else old new u s table g promised v ne) ∙ z.1),
          z.2 ∙ (λ i. record (node_of {B = B} bs old [] v z.0) { filled = same_filled v i; outside = map (outside_in new [] v) (range_with_len 0 (filled_in new.store v + 1)) })
              ∙ ap (λ ms. record (node_of {B = B} bs old [] v z.0) { outside = ms }) (sym (ap (λ (q : Node B). q.outside) z.2)),
        );
  }

  node_then : node_of {B = B} bs new [] u now ≡ record (node_of bs old [] u g.unit) { inputs = readers_of g.unit ++ reader_of s ∷ []; pending = g.unit.pending - 1; last_stop = s.timing.stop; outside = map (outside_in new [] u) (range_with_len 0 (filled_in new.store u + 1)) }
  node_then =
      let m = more old new u s table g promised in
      λ i. record (node_of {B = B} bs new [] u now) { kind = m.kind i; filled = same_filled u i; inputs = inputs_are i; memory = m.memory i; last_stop = stop_is i; waiting = waiting_with (bs u) (m.waits i) }

  pub attached_means : Delivers {B = B} (state_of bs old fills peak) (state_of bs new fills peak) u s
  attached_means part w m ms means owed sound =
      means_delivered part (state_of bs old fills peak) (state_of bs new fills peak) w u stay (node_of bs old [] u g.unit) (node_of bs new [] u now) s
      (mix_of g.unit.work g.unit.pending (table.units u g.unit g.was).2.places promised) (node_of_unit B bs old fills peak u g.unit g.was) (node_of_unit B bs new fills peak u now (now_here old new u s table g promised)) node_then m ms means owed sound

  -- branches are left for what still waits
  pub have_still : HaveBranches bs old → HaveBranches bs new
  have_still have w z is = elim (cases_eq w u) [
    | inl e ↦
        let same : now ≡ z = same_some (sym (now_here old new u s table g promised) ∙ sym (ap (unit_at new) e) ∙ is) in
        omega (arith, have u g.unit g.was, ap length (more old new u s table g promised).waits, ap (λ (q : UnitData). length (waits_in q.work)) same, ap (λ k. length (bs k)) e)
    | inr ne ↦ have w z (sym (now_else old new u s table g promised w ne) ∙ is)
  ]
