-- What a part that falls due leaves alone: its unit has one part more, and all else is as it was.
use Rattle.std.proofs.Common.{◌≡◌, ◌≢◌, inl, inr, ℕ, zero, suc, ◌+◌, ◌-◌, ◌*◌, ◌<◌, ◌≤◌, min, List, [], ◌∷◌, length, get_or, slice_index, Option, None, Some, refl, sym, ap, subst, ◌∙◌, arith}
use Rattle.std.specs.Option.{option_map_or}
use Rattle.std.proofs.lemmas.Bool.{cases_eq}
use Rattle.std.proofs.lemmas.List.{ext_get_or}
use Rattle.ny_num.specs.Grid.{tick_at}
use Rattle.ny_num.specs.declared.rate.Rate.{Rate}
use Rattle.ny_resolve.specs.declared.term.NameId.{NameId}
use Rattle.ny_check.specs.Code.{Code}
use Rattle.ny_check.specs.declared.value.Value.{Value}
use Rattle.ny_check.specs.declared.value.Value.TheVariants.{Number, Sound as SoundOf}
use Rattle.ny_heap.specs.declared.sound.Sound.{Sound}
use Rattle.ny_heap.specs.Heap.{Node, HeapState, node_at, list_of, place_of, stands_in}
use Rattle.ny_heap.specs.Reach.{Uses, Read, Hold, ReadOutside, LeadsIn, IsReachable, HeapLaws}
use Rattle.ny_heap.specs.Steps.{changed, without_sounds, IsHeldAt, IsHeldSound}
use Rattle.ny_heap.specs.Revealing.{with_promise, with_part}
use Rattle.ny_hands.specs.Calls.{ReleasesAll}
use Rattle.ny_hands.specs.Counts.{SameCounts}
use Rattle.ny_hands.specs.Frames.{part_is}
use Rattle.ny_hands.specs.Hands.{marks_at, Begins, AllBegin, IsLike, Hand, Comes, item, IsNamed, AreNamed}
use Rattle.ny_hands.specs.declared.branch.Branch.{Branch}
use Rattle.ny_hands.proofs.OptionLemmas.{same_at, none_some}
use Rattle.ny_hands.proofs.HeapLemmas.{changed_same, changed_other}
use Rattle.ny_hands.proofs.MarkLemmas.{IsSane, AreLike, like_more, spent_like, spent_one}
use Rattle.ny_hands.proofs.HandLemmas.{marks_there}
use Rattle.ny_trace.specs.Evaluates.{Trace}
use Rattle.ny_trace.specs.Laws.{IsLawful}
use Rattle.ny_trace.specs.Reveals.{AttachesPart, no_sound, framed, frame, PartTurn, revealed_node, IsRevealed}
use Rattle.ny_trace.proofs.SeqLemmas.{next_sound, next_comes}
use Rattle.ny_trace.proofs.LeftLemmas.{held_begin, IsLeft, left_first, left_released_all}

-- ---- the names of a branch

none_begins : (h : HeapState Branch) (r : Rate) → Begins h (no_sound r)
unfolding tick_at
none_begins h r = record {
  bounds = record { ends = omega arith; stops = omega arith; starts = omega arith };
  place = refl;
  empty = λ none. refl;
  shown = λ n is. absurd (none_some (list_of (no_sound r)) n refl is);
}

place_begins : (h : HeapState Branch) (r : Rate) (ss : List Sound) (k : ℕ) → AllBegin h ss → Begins h (get_or ss k (no_sound r))
place_begins h r [] k b = none_begins h r
place_begins h r (s ∷ ss) zero b = b.0
place_begins h r (s ∷ ss) (suc k) b = place_begins h r ss k b.1

pub frame_named : (h : HeapState Branch) (r : Rate) (ss : List Sound) (bs : List (NameId × Value ℕ)) → AllBegin h ss → AreNamed h (frame r ss bs)
frame_named h r ss [] b = tt
frame_named h r ss (x ∷ bs) b = (by_value x.1, frame_named h r ss bs b)
  where
    by_value : (v : Value ℕ) → IsNamed h (framed r ss v)
    by_value (Number k) = tt
    by_value (SoundOf k) = place_begins h r ss k b

released_laws : (old new : HeapState Branch) (ss : List Sound) → HeapLaws old → ReleasesAll old new ss → HeapLaws new
released_laws old new [] laws step = subst (λ (h : HeapState Branch). HeapLaws h) step laws
released_laws old new (s ∷ ss) laws step = released_laws step.0 new ss step.1.laws step.2

-- ---- the heap in which the part no longer waits

abbrev pub promised : HeapState Branch → ℕ → HeapState Branch
promised h u = changed h (Some u) with_promise

module _ (old : HeapState Branch) (u : ℕ) (x : Node Branch) (was : node_at old u ≡ Some x) (laws : HeapLaws old) where
  pub promised_here : node_at (promised old u) u ≡ Some (with_promise x)
  promised_here = changed_same old u with_promise x was

  pub promised_else : (v : ℕ) → v ≢ u → node_at (promised old u) v ≡ node_at old v
  promised_else v ne = changed_other old u with_promise v ne

  pub promised_to : (v : ℕ) (y : Node Branch) → node_at old v ≡ Some y → (z : Node Branch) × (node_at (promised old u) v ≡ Some z)
  promised_to v y at = elim (cases_eq v u) [
    | inl same ↦ (with_promise x, ap (node_at (promised old u)) same ∙ promised_here)
    | inr other ↦ (y, promised_else v other ∙ at)
  ]

  pub promised_marks : (v j : ℕ) → marks_at (promised old u) v j ≡ marks_at old v j
  promised_marks v j = elim (cases_eq v u) [
    | inl same ↦
        ap (λ n. marks_at (promised old u) n j) same ∙ marks_there (promised old u) u (with_promise x) j promised_here
        ∙ sym (ap (λ n. marks_at old n j) same ∙ marks_there old u x j was)
    | inr other ↦ ap (λ o. option_map_or (λ (y : Node Branch). slice_index y.outside j) o 0) (promised_else v other)
  ]

  pub promised_sane : IsSane (promised old u)
  promised_sane = record {
    block = laws.positive;
    marks = λ v y at. elim (cases_eq v u) [
      | inl same ↦
          let is : with_promise x ≡ y = same_at (node_at (promised old u) u) (with_promise x) y promised_here (ap (node_at (promised old u)) (sym same) ∙ at) in
          omega (arith, (laws.nodes u x was).marks, ap (λ (q : Node Branch). length q.outside) is)
      | inr other ↦ omega (arith, (laws.nodes v y (sym (promised_else v other) ∙ at)).marks)
    ];
  }

  uses_to : (a b : ℕ) → a ≢ u → Uses old a b → Uses (promised old u) a b
  uses_to a b ne (Read r) = Read (record { unit = r.unit; there = promised_else a ne ∙ r.there; place = r.place; reader = r.reader; input = r.input; of = r.of })
  uses_to a b ne (Hold r) = Hold (record { unit = r.unit; there = promised_else a ne ∙ r.there; place = r.place; part = r.part; waits = r.waits; position = r.position; captured = r.captured; one = r.one; of = r.of })

  -- what leads to the unit does not pass it before
  leads_to : (n r : ℕ) → LeadsIn old n r u → (m : ℕ) × LeadsIn (promised old u) m r u
  leads_to zero r walk = (0, walk)
  leads_to (suc n) r walk = elim (cases_eq r u) [
    | inl same ↦ (0, same)
    | inr other ↦ let rest = leads_to n walk.0 walk.2 in (suc rest.0, (walk.0, uses_to r walk.0 other walk.1, rest.1))
  ]

  outside_to : (r : ℕ) → ReadOutside old r → ReadOutside (promised old u) r
  outside_to r reads = elim (cases_eq r u) [
    | inl same ↦ record {
      unit = with_promise reads.unit;
      there = ap (node_at (promised old u)) same ∙ changed_same old u with_promise reads.unit (ap (node_at old) (sym same) ∙ reads.there);
      some = reads.some;
    }
    | inr other ↦ record { unit = reads.unit; there = promised_else r other ∙ reads.there; some = reads.some }
  ]

  pub promised_reached : IsReachable (promised old u) u
  promised_reached =
      let reach = (laws.nodes u x was).reached in
      let walk = leads_to reach.2.0 reach.0 reach.2.1 in
      (reach.0, outside_to reach.0 reach.1, (walk.0, walk.1))

-- ---- up to where the part is attached

module _ (code : Code) (D : Trace) (law : IsLawful code D) (old mid : HeapState Branch) (u : ℕ) (s : Sound) (turn : PartTurn D old mid u s) (laws : HeapLaws old) (inside : turn.branch.expr.0 < length code.nodes) where
  abbrev pub unit : Node Branch
  unit = turn.takes.hands.unit

  pub kept_begin : AllBegin turn.one turn.captured
  kept_begin = held_begin turn.one turn.captured turn.takes.held

  pub part_comes : Comes (part_is code) turn.one turn.two (item s (λ w. next_sound code D law turn.branch.env turn.takes.hands.unit.last_stop (turn.branch.expr, frame turn.branch.env.sound_rate turn.captured turn.branch.names) w) ∷ [])
  part_comes =
      next_comes code D law turn.branch.env turn.takes.hands.unit.last_stop (turn.branch.expr, frame turn.branch.env.sound_rate turn.captured turn.branch.names) turn.one turn.two s inside turn.takes.laws
      (frame_named turn.one turn.branch.env.sound_rate turn.captured turn.branch.names kept_begin) turn.evaluates

  pub mid_laws : HeapLaws mid
  mid_laws = released_laws turn.two mid turn.captured part_comes.hand.laws turn.given_up

  pub part_left : IsLeft (promised old u) mid (s ∷ [])
  part_left =
      left_released_all (promised old u) turn.two mid turn.captured (s ∷ [])
      (left_first (promised old u) turn.two turn.captured (s ∷ []) (promised_sane old u unit turn.takes.hands.was laws)
      (subst (λ (h : HeapState Branch). AllBegin h turn.captured) turn.takes.hands.heap kept_begin)
      (subst (λ (h : HeapState Branch). Hand h turn.two (s ∷ [])) turn.takes.hands.heap part_comes.hand)) turn.given_up

  -- the unit is still there, and waits for the part
  pub unit_left : (y : Node Branch) × (node_at mid u ≡ Some y) × IsLike (with_promise turn.takes.hands.unit) y
  unit_left = part_left.kept u (with_promise unit) (promised_here old u unit turn.takes.hands.was laws) (promised_reached old u unit turn.takes.hands.was laws)

  -- ---- and once it is

  module _ (new : HeapState Branch) (attaches : AttachesPart mid new u s) where
    spent : HeapState Branch
    spent = without_sounds mid (s ∷ [])

    like : AreLike mid (without_sounds mid (s ∷ []))
    like = spent_like mid (s ∷ [])

    unit_spent : (z : Node Branch) × (node_at (without_sounds mid (s ∷ [])) u ≡ Some z) × IsLike (with_promise turn.takes.hands.unit) z
    unit_spent = let y = unit_left in let z = like.to u y.0 y.1 in (z.0, z.1, like_more (with_promise unit) y.0 z.0 y.2 z.2)

    new_here : (z : Node Branch) → node_at (without_sounds mid (s ∷ [])) u ≡ Some z → node_at new u ≡ Some (with_part s z)
    new_here z at = ap (λ (h : HeapState Branch). node_at h u) attaches.heap ∙ changed_same (without_sounds mid (s ∷ [])) u (with_part s) z at

    pub new_else : (v : ℕ) → v ≢ u → node_at new v ≡ node_at (without_sounds mid (s ∷ [])) v
    new_else v ne = ap (λ (h : HeapState Branch). node_at h v) attaches.heap ∙ changed_other (without_sounds mid (s ∷ [])) u (with_part s) v ne

    new_counts : SameCounts old new
    new_counts = subst (λ (h : HeapState Branch). SameCounts old h) (sym attaches.heap) (record {
      pool = like.counts.pool ∙ part_left.counts.pool;
      block = like.counts.block ∙ part_left.counts.block;
      fills = like.counts.fills ∙ part_left.counts.fills;
      peak = like.counts.peak ∙ part_left.counts.peak;
    })

    -- who reads from outside reads as before
    new_marks : (v j : ℕ) → marks_at new v j ≡ marks_at old v j
    new_marks v j = omega (
      arith,
      attached,
      spent_one mid s part_left.sane part_left.begin.0 (λ v j. omega (arith, part_left.marks v j)) v j,
      part_left.marks v j,
      promised_marks old u unit turn.takes.hands.was laws v j,
    )
      where
        attached : marks_at new v j ≡ marks_at (without_sounds mid (s ∷ [])) v j
        attached = elim (cases_eq v u) [
          | inl same ↦
              let z = unit_spent in
              ap (λ n. marks_at new n j) same ∙ marks_there new u (with_part s z.0) j (new_here z.0 z.1)
              ∙ sym (ap (λ n. marks_at (without_sounds mid (s ∷ [])) n j) same ∙ marks_there (without_sounds mid (s ∷ [])) u z.0 j z.1)
          | inr other ↦ ap (λ o. option_map_or (λ (y : Node Branch). slice_index y.outside j) o 0) (new_else v other)
        ]

    -- so a list that has as many blocks has the same marks
    marks_same : (v : ℕ) (x y : Node Branch) → node_at old v ≡ Some x → node_at new v ≡ Some y → y.filled ≡ x.filled → y.outside ≡ x.outside
    marks_same v x y at now filled =
        ext_get_or 0 y.outside x.outside (omega (arith, (attaches.laws.nodes v y now).marks, (laws.nodes v x at).marks, filled))
        (λ j h. sym (marks_there new v y j now) ∙ new_marks v j ∙ marks_there old v x j at)

    other_is : (v : ℕ) (x y : Node Branch) → v ≢ u → node_at old v ≡ Some x → node_at new v ≡ Some y → y ≡ x
    other_is v x y ne at now = both ∙ (λ i. record x { outside = marks_same v x y at now (ap (λ (q : Node Branch). q.filled) both) i })
      where
        both : IsLike x y
        both =
            let m = like.from v y (sym (new_else v ne) ∙ now) in
            like_more x m.0 y (part_left.same v x m.0 (promised_else old u unit turn.takes.hands.was laws v ne ∙ at) m.1) m.2

    pub unit_is : node_at new u ≡ Some (revealed_node s turn.takes.hands.unit)
    unit_is = new_here z.0 z.1 ∙ ap Some (λ i. with_part s (z.2 i)) ∙ (λ i. Some (record (revealed_node s unit) { pending = count i; outside = marks i }))
      where
        z : (z : Node Branch) × (node_at (without_sounds mid (s ∷ [])) u ≡ Some z) × IsLike (with_promise turn.takes.hands.unit) z
        z = unit_spent

        count : turn.takes.hands.unit.pending + 1 - 1 ≡ turn.takes.hands.unit.pending
        count = omega arith

        marks : unit_spent.0.outside ≡ turn.takes.hands.unit.outside
        marks = marks_same u unit (with_part s unit_spent.0) turn.takes.hands.was (new_here unit_spent.0 unit_spent.1) (ap (λ (q : Node Branch). q.filled) unit_spent.2)

    stays : (v : ℕ) (x : Node Branch) → v ≢ u → node_at old v ≡ Some x → IsReachable (promised old u) v → node_at new v ≡ Some x
    stays v x ne at reach =
        let y = part_left.kept v x (promised_else old u unit turn.takes.hands.was laws v ne ∙ at) reach in
        let z = like.to v y.0 y.1 in
        let now : node_at new v ≡ Some z.0 = new_else v ne ∙ z.1 in
        now ∙ ap Some (other_is v x z.0 ne at now)

    -- the unit of a list that somebody reads, as it is to who reads it
    read_still : (v j : ℕ) (x : Node Branch) → node_at old v ≡ Some x → 0 < slice_index x.outside j → (y : Node Branch) × (node_at new v ≡ Some y) × (y.timing ≡ x.timing) × (y.filled ≡ x.filled) × (y.outside ≡ x.outside)
    read_still v j x at some = elim (cases_eq v u) [
      | inl same ↦
          let is : unit ≡ x = same_at (node_at old u) unit x turn.takes.hands.was (ap (node_at old) (sym same) ∙ at) in
          (revealed_node s unit, ap (node_at new) same ∙ unit_is, ap (λ (q : Node Branch). q.timing) is, ap (λ (q : Node Branch). q.filled) is, ap (λ (q : Node Branch). q.outside) is)
      | inr other ↦ by_new other (node_at new v) refl
    ]
      where
        by_new : v ≢ u → (o : Option (Node Branch)) → node_at new v ≡ o → (y : Node Branch) × (node_at new v ≡ Some y) × (y.timing ≡ x.timing) × (y.filled ≡ x.filled) × (y.outside ≡ x.outside)
        by_new ne None e = absurd (omega (arith, some, new_marks v j, marks_there old v x j at, ap (λ o. option_map_or (λ (y : Node Branch). slice_index y.outside j) o 0) e))
        by_new ne (Some y) e = let is = other_is v x y ne at e in (y, e, ap (λ (q : Node Branch). q.timing) is, ap (λ (q : Node Branch). q.filled) is, ap (λ (q : Node Branch). q.outside) is)

    held_still : (a : Sound) → IsHeldSound old a → IsHeldSound new a
    held_still a held = (held.0, by_list (list_of a) held.1)
      where
        by_list : (o : Option ℕ) → IsHeldAt old a o → IsHeldAt new a o
        by_list None none = none
        by_list (Some n) c =
            let y = read_still n (stands_in old.block c.unit.timing.len (place_of a)) c.unit c.there c.stands in
            record {
              unit = y.0;
              there = y.1;
              some = c.some;
              visible = subst (λ k. a.timing.len ≤ k) (ap (λ (t : Rattle.ny_num.specs.declared.timing.Timing.Timing). t.len) (sym y.2)) c.visible;
              place = subst (λ k. place_of a ≤ min a.timing.len k) (λ i. min (sym y.3 i * sym new_counts.block i) (sym y.2 i).len) c.place;
              stands = subst (λ k. 0 < k) (λ i. slice_index (sym y.4 i) (stands_in (sym new_counts.block i) (sym y.2 i).len (place_of a))) c.stands;
            }

    pub revealed : IsRevealed old new u
    revealed = record {
      laws = attaches.laws;
      counts = new_counts;
      unit = turn.takes.hands.unit;
      was = turn.takes.hands.was;
      part = s;
      after = unit_is;
      others = other_is;
      stay = stays;
      held = held_still;
      marks = new_marks;
    }
