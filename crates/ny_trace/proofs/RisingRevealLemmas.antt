-- How high a part that falls due stands: below its mix, as it had room there.
use Rattle.std.proofs.Common.{◌≡◌, ◌≢◌, ◌⊎◌, inl, inr, ℕ, zero, suc, ◌+◌, ◌<◌, ◌≤◌, List, [], ◌∷◌, ◌++◌, length, drop, map, get_or, slice_get, Option, None, Some, refl, sym, ap, subst, ◌∙◌, arith}
use Rattle.std.specs.Option.{option_map}
use Rattle.std.proofs.lemmas.Bool.{cases_eq}
use Rattle.ny_num.specs.Grid.{index_at}
use Rattle.ny_num.specs.Sound.{placed_timing}
use Rattle.ny_num.specs.declared.rate.Rate.{Rate}
use Rattle.ny_warp.specs.Environment.{from_stop}
use Rattle.ny_resolve.specs.declared.term.NameId.{NameId}
use Rattle.ny_check.specs.Code.{Code}
use Rattle.ny_check.specs.declared.value.Value.{Value}
use Rattle.ny_check.specs.declared.value.Value.TheVariants.{Number, Sound as SoundOf}
use Rattle.ny_heap.specs.declared.sound.Sound.{Sound}
use Rattle.ny_heap.specs.Heap.{Reader, Captured, Node, Waiting, HeapState, node_at, list_of, place_of}
use Rattle.ny_heap.specs.Reach.{Uses, Read, Hold, LeadsIn, LeadsTo, HeapLaws}
use Rattle.ny_heap.specs.Steps.{captured_of, waiting_of, reader_of}
use Rattle.ny_heap.specs.Revealing.{with_promise}
use Rattle.ny_hands.specs.Frames.{sounds_among}
use Rattle.ny_hands.specs.Hands.{IsLike}
use Rattle.ny_hands.specs.Ranks.{IsRank}
use Rattle.ny_hands.specs.declared.branch.Branch.{Branch}
use Rattle.ny_hands.proofs.OptionLemmas.{same_at, none_some}
use Rattle.ny_hands.proofs.MarkLemmas.{spent_like}
use Rattle.ny_trace.specs.Evaluates.{Trace}
use Rattle.ny_trace.specs.Heights.{HasRoom, Ranks, AreLow, Stands, IsRising}
use Rattle.ny_trace.specs.Laws.{IsLawful}
use Rattle.ny_trace.specs.Reveals.{AttachesPart, no_sound, frame, PartTurn, revealed_node, StandsBelow}
use Rattle.ny_trace.proofs.HeightLemmas.{ComesFrom, ranks_from, low_append, low_more, low_later, stands_from, stands_seq, stands_released, step_brought}
use Rattle.ny_trace.proofs.RisingSeqLemmas.{from_placed, placed_low}
use Rattle.ny_trace.proofs.LeftLemmas.{sounds_like}
use Rattle.ny_trace.proofs.RevealHandLemmas.{promised, promised_here, promised_else, promised_to, frame_named, kept_begin, unit_left, new_else, unit_is}

-- ---- the sounds that a part kept

captured_low : (rank : ℕ → ℕ) (b : ℕ) (ss : List Sound) → ((i : ℕ) (c : Captured) (n : ℕ) → slice_get (map captured_of ss) i ≡ Some c → c.node ≡ Some n → rank n < b) → AreLow rank b ss
captured_low rank b [] each = tt
captured_low rank b (s ∷ ss) each = ((λ n is. each 0 (captured_of s) n refl is), captured_low rank b ss (λ i. each (suc i)))

place_low : (rank : ℕ → ℕ) (b : ℕ) (r : Rate) (ss : List Sound) (k : ℕ) → AreLow rank b ss → (n : ℕ) → list_of (get_or ss k (no_sound r)) ≡ Some n → rank n < b
place_low rank b r [] k low n is = absurd (none_some (list_of (no_sound r)) n refl is)
place_low rank b r (s ∷ ss) zero low n is = low.0 n is
place_low rank b r (s ∷ ss) (suc k) low n is = place_low rank b r ss k low.1 n is

frame_low : (rank : ℕ → ℕ) (b : ℕ) (r : Rate) (ss : List Sound) (bs : List (NameId × Value ℕ)) → AreLow rank b ss → AreLow rank b (sounds_among (frame r ss bs))
frame_low rank b r ss [] low = tt
frame_low rank b r ss ((x, Number v) ∷ bs) low = frame_low rank b r ss bs low
frame_low rank b r ss ((x, SoundOf k) ∷ bs) low = (place_low rank b r ss k low, frame_low rank b r ss bs low)

-- ---- a part less waits

one_fewer : {A : Type 0} (ws : List A) (p : A) (rest : List A) → ws ≡ p ∷ rest → (i : ℕ) → slice_get (drop 1 ws) i ≡ slice_get ws (suc i)
one_fewer ws p rest is i = ap (λ xs. slice_get (drop 1 xs) i) is ∙ ap (λ xs. slice_get xs (suc i)) (sym is)

module _ (tall : ℕ → ℕ) (old : HeapState Branch) (u : ℕ) (x : Node Branch) (was : node_at old u ≡ Some x) (p : Waiting Branch) (rest : List (Waiting Branch)) (waits : x.waiting ≡ p ∷ rest) (laws : HeapLaws old) (rank : ℕ → ℕ) (ranks : Ranks tall old rank) where
  is_unit : (v : ℕ) (y : Node Branch) → v ≡ u → node_at (promised old u) v ≡ Some y → with_promise x ≡ y
  is_unit v y same at = same_at (node_at (promised old u) u) (with_promise x) y (promised_here old u x was laws) (ap (node_at (promised old u)) (sym same) ∙ at)

  waited : (v : ℕ) (y : Node Branch) (i : ℕ) (q : Waiting Branch) → v ≡ u → node_at (promised old u) v ≡ Some y → slice_get y.waiting i ≡ Some q → slice_get x.waiting (suc i) ≡ Some q
  waited v y i q same at is = sym (one_fewer x.waiting p rest waits i) ∙ ap (λ (z : Node Branch). slice_get z.waiting i) (is_unit v y same at) ∙ is

  uses_back : (a b : ℕ) → Uses (promised old u) a b → Uses old a b
  uses_back a b (Read r) = elim (cases_eq a u) [
    | inl same ↦ Read (record { unit = x; there = ap (node_at old) same ∙ was; place = r.place; reader = r.reader; input = ap (λ (z : Node Branch). get_or z.inputs r.place None) (is_unit a r.unit same r.there) ∙ r.input; of = r.of })
    | inr other ↦ Read (record { unit = r.unit; there = sym (promised_else old u x was laws a other) ∙ r.there; place = r.place; reader = r.reader; input = r.input; of = r.of })
  ]
  uses_back a b (Hold r) = elim (cases_eq a u) [
    | inl same ↦ Hold (record { unit = x; there = ap (node_at old) same ∙ was; place = suc r.place; part = r.part; waits = waited a r.unit r.place r.part same r.there r.waits; position = r.position; captured = r.captured; one = r.one; of = r.of })
    | inr other ↦ Hold (record { unit = r.unit; there = sym (promised_else old u x was laws a other) ∙ r.there; place = r.place; part = r.part; waits = r.waits; position = r.position; captured = r.captured; one = r.one; of = r.of })
  ]

  ranks_promised : Ranks tall (promised old u) rank
  ranks_promised = record {
    falls = λ a b uses. ranks.falls a b (uses_back a b uses);
    room = λ v y i q at is. elim (cases_eq v u) [
      | inl same ↦ subst (λ n. HasRoom tall rank (rank n) q) (sym same) (ranks.room u x (suc i) q was (waited v y i q same at is))
      | inr other ↦ ranks.room v y i q (sym (promised_else old u x was laws v other) ∙ at) is
    ];
  }

-- what leads to a unit stands no lower
leads_fall : (h : HeapState Branch) (rank : ℕ → ℕ) → IsRank h rank → (n a b : ℕ) → LeadsIn h n a b → rank b ≤ rank a
leads_fall h rank falls zero a b walk = omega (arith, ap rank walk)
leads_fall h rank falls (suc n) a b walk = omega (arith, falls a walk.0 walk.1, leads_fall h rank falls n walk.0 b walk.2)

-- ---- the turn

module _ (code : Code) (D : Trace) (law : IsLawful code D) (tall : ℕ → ℕ) (rising : IsRising code tall D) (old mid : HeapState Branch) (u : ℕ) (s : Sound) (turn : PartTurn D old mid u s) (laws : HeapLaws old) (inside : turn.branch.expr.0 < length code.nodes) (rank : ℕ → ℕ) (ranks : Ranks tall old rank) where
  pub room : HasRoom tall rank (rank u) (waiting_of (turn.branch, turn.captured))
  room = ranks.room u turn.takes.hands.unit 0 (waiting_of (turn.branch, turn.captured)) turn.takes.hands.was (ap (λ ws. slice_get ws 0) turn.takes.hands.waits)

  one_from : ComesFrom (promised old u) turn.one
  one_from = subst (λ h. ComesFrom (promised old u) h) (sym turn.takes.hands.heap) (λ v y at. let x = (sounds_like (promised old u) turn.captured).from v y at in (x.0, x.1, x.2))

  one_ranks : Ranks tall turn.one rank
  one_ranks =
      ranks_from tall (promised old u) turn.one rank one_from
      (ranks_promised tall old u turn.takes.hands.unit turn.takes.hands.was (waiting_of (turn.branch, turn.captured)) turn.takes.hands.rest turn.takes.hands.waits laws rank ranks)

  -- what it kept stands below what it makes
  captured_lower : AreLow rank room.base turn.captured
  captured_lower = captured_low rank room.base turn.captured room.captured

  -- how high it stands: the part, and a resampling of it
  abbrev height : ℕ
  height = room.base + tall turn.branch.expr.0

  pub part_stands : Stands tall turn.one mid rank (room.base + tall turn.branch.expr.0 + 1) (s ∷ [])
  unfolding stands_seq stands_from
  part_stands =
      let next = turn.evaluates in
      let r = turn.branch.env.sound_rate in
      let names = frame r turn.captured turn.branch.names in
      let begin = kept_begin code D law old mid u s turn laws inside in
      let named = frame_named turn.one r turn.captured turn.branch.names begin in
      let env = from_stop turn.branch.env turn.takes.hands.unit.last_stop in
      let h1 = (law turn.branch.expr.0 env names turn.one next.mid next.part next.evaluates inside turn.takes.laws named).hand in
      let p1 = rising turn.branch.expr.0 env names turn.one next.mid next.part next.evaluates inside turn.takes.laws named rank room.base one_ranks (frame_low rank room.base r turn.captured turn.branch.names captured_lower) in
      let q = step_brought tall next.mid next.end r next.part next.brought p1.later height h1.laws h1.begin.0 p1.ranks p1.in_hand next.brings in
      let p2 = stands_seq tall turn.one next.mid next.end rank height (height + 1) (height + 1) (next.part ∷ []) (next.brought ∷ []) (omega arith) (omega arith) h1.kept p1 q in
      let p3 = stands_from tall turn.one next.end turn.two rank (height + 1) (next.brought ∷ []) (s ∷ []) (from_placed next.end turn.two (placed_timing (index_at turn.takes.hands.unit.last_stop r)) next.brought s next.places) p2
      (placed_low next.end turn.two (placed_timing (index_at turn.takes.hands.unit.last_stop r)) next.brought s q.later (height + 1) next.places q.in_hand) in
      stands_released tall turn.one turn.two mid rank (height + 1) turn.captured (s ∷ []) (record {
        later = p3.later;
        ranks = p3.ranks;
        same = p3.same;
        low = p3.low;
        in_hand = low_append p3.later (height + 1) turn.captured (s ∷ []) (low_more p3.later room.base (height + 1) turn.captured (omega arith) (low_later turn.one rank p3.later room.base turn.captured begin p3.same captured_lower)) p3.in_hand;
      }) turn.given_up

  -- each unit that was there is there when the part is handed out
  there : (v : ℕ) (x : Node Branch) → node_at old v ≡ Some x → (y : Node Branch) × (node_at turn.one v ≡ Some y)
  there v x at =
      let z = promised_to old u turn.takes.hands.unit turn.takes.hands.was laws v x at in
      let y = (sounds_like (promised old u) turn.captured).to v z.0 z.1 in
      (y.0, ap (λ (h : HeapState Branch). node_at h v) turn.takes.hands.heap ∙ y.1)

  unit_there : (y : Node Branch) × (node_at turn.one u ≡ Some y)
  unit_there = there u turn.takes.hands.unit turn.takes.hands.was

  unit_stands : part_stands.later u ≡ rank u
  unit_stands = part_stands.same u unit_there.0 unit_there.1

  -- the part does not lead to its mix
  pub part_apart : (n : ℕ) → list_of s ≡ Some n → LeadsTo mid n u → ⊥
  part_apart n is walk = omega (arith, leads_fall mid part_stands.later part_stands.ranks.falls walk.0 n u walk.1, part_stands.in_hand.0 n is, unit_stands, room.room)

  module _ (new : HeapState Branch) (attaches : AttachesPart mid new u s) where
    else_from : (v : ℕ) (y : Node Branch) → v ≢ u → node_at new v ≡ Some y → (x : Node Branch) × (node_at mid v ≡ Some x) × IsLike x y
    else_from v y ne at =
        let m = (spent_like mid (s ∷ [])).from v y (sym (new_else code D law old mid u s turn laws inside new attaches v ne) ∙ at) in
        (m.0, m.1, m.2)

    abbrev unit : Node Branch
    unit = turn.takes.hands.unit

    after : node_at new u ≡ Some (revealed_node s turn.takes.hands.unit)
    after = unit_is code D law old mid u s turn laws inside new attaches

    is_after : (v : ℕ) (y : Node Branch) → v ≡ u → node_at new v ≡ Some y → revealed_node s turn.takes.hands.unit ≡ y
    is_after v y same at = same_at (node_at new u) (revealed_node s turn.takes.hands.unit) y after (ap (node_at new) (sym same) ∙ at)

    -- an input of the mix is the part, or was one
    input_was : (os : List (Option Reader)) (i : ℕ) (r : Reader) → get_or (os ++ reader_of s ∷ []) i None ≡ Some r → (get_or os i None ≡ Some r) ⊎ (list_of s ≡ Some r.node)
    input_was [] zero r e = inr (by_list (list_of s) e)
      where
        by_list : (o : Option ℕ) → option_map (λ n. let q : Reader = record { node = n; place = place_of s; timing = s.timing } in q) o ≡ Some r → o ≡ Some r.node
        by_list None e = cc
        by_list (Some n) e = ap (λ (q : Option Reader). option_map (λ q. q.node) q) e
    input_was [] (suc i) r e = absurd (never e)
      where
        never : None ≡ Some r → ⊥
        never q = cc
    input_was (o ∷ os) zero r e = inl e
    input_was (o ∷ os) (suc i) r e = input_was os i r e

    -- in the heap that waits for the part
    unit_mid : (y : Node Branch) × (node_at mid u ≡ Some y) × IsLike (with_promise turn.takes.hands.unit) y
    unit_mid = unit_left code D law old mid u s turn laws inside

    used_lower : (b : ℕ) → Uses new u b → part_stands.later b < part_stands.later u
    used_lower b (Read r) = by_input (input_was unit.inputs r.place r.reader (ap (λ (z : Node Branch). get_or z.inputs r.place None) (is_after u r.unit refl r.there) ∙ r.input))
      where
        by_input : (get_or turn.takes.hands.unit.inputs r.place None ≡ Some r.reader) ⊎ (list_of s ≡ Some r.reader.node) → part_stands.later b < part_stands.later u
        by_input (inl was) =
            let y = unit_mid in
            part_stands.ranks.falls u b (Read (record { unit = y.0; there = y.1; place = r.place; reader = r.reader; input = ap (λ (z : Node Branch). get_or z.inputs r.place None) y.2 ∙ was; of = r.of }))
        by_input (inr now) = omega (arith, part_stands.in_hand.0 r.reader.node now, ap part_stands.later r.of, unit_stands, room.room)
    used_lower b (Hold r) =
        let y = unit_mid in
        let is = is_after u r.unit refl r.there in
        part_stands.ranks.falls u b (Hold (record { unit = y.0; there = y.1; place = r.place; part = r.part; waits = ap (λ (z : Node Branch). slice_get z.waiting r.place) y.2 ∙ ap (λ (z : Node Branch). slice_get z.waiting r.place) is ∙ r.waits; position = r.position; captured = r.captured; one = r.one; of = r.of }))

    uses_mid : (a b : ℕ) → a ≢ u → Uses new a b → Uses mid a b
    uses_mid a b ne (Read r) =
        let x = else_from a r.unit ne r.there in
        Read (record { unit = x.0; there = x.1; place = r.place; reader = r.reader; input = sym (ap (λ (q : Node Branch). get_or q.inputs r.place None) x.2) ∙ r.input; of = r.of })
    uses_mid a b ne (Hold r) =
        let x = else_from a r.unit ne r.there in
        Hold (record { unit = x.0; there = x.1; place = r.place; part = r.part; waits = sym (ap (λ (q : Node Branch). slice_get q.waiting r.place) x.2) ∙ r.waits; position = r.position; captured = r.captured; one = r.one; of = r.of })

    -- all that was there stands as high as it did, and what is new stands below the mix
    pub revealed_stands : StandsBelow tall old new u rank
    revealed_stands = record {
      later = part_stands.later;
      ranks = record {
        falls = λ a b uses. elim (cases_eq a u) [
          | inl same ↦ subst (λ n. part_stands.later b < part_stands.later n) (sym same) (used_lower b (subst (λ n. Uses new n b) same uses))
          | inr other ↦ part_stands.ranks.falls a b (uses_mid a b other uses)
        ];
        room = λ v y i q at waits. elim (cases_eq v u) [
          | inl same ↦
              let m = unit_mid in
              subst (λ n. HasRoom tall part_stands.later (part_stands.later n) q) (sym same)
              (part_stands.ranks.room u m.0 i q m.1 (ap (λ (z : Node Branch). slice_get z.waiting i) m.2 ∙ ap (λ (z : Node Branch). slice_get z.waiting i) (is_after v y same at) ∙ waits))
          | inr other ↦ let x = else_from v y other at in part_stands.ranks.room v x.0 i q x.1 (sym (ap (λ (z : Node Branch). slice_get z.waiting i) x.2) ∙ waits)
        ];
      };
      same = λ v x at. let y = there v x at in part_stands.same v y.0 y.1;
      low = λ v y none at. by_one v y none at (node_at turn.one v) refl;
    }
      where
        by_one : (v : ℕ) (y : Node Branch) → node_at old v ≡ None → node_at new v ≡ Some y → (o : Option (Node Branch)) → node_at turn.one v ≡ o → part_stands.later v < rank u
        by_one v y none at (Some x) e =
            let z = one_from v x e in
            absurd (none_some (node_at old v) z.0 none (sym (promised_else old u unit turn.takes.hands.was laws v (λ same. none_some (node_at old v) unit none (ap (node_at old) same ∙ turn.takes.hands.was))) ∙ z.1))
        by_one v y none at None e =
            let x = else_from v y (λ same. none_some (node_at old v) unit none (ap (node_at old) same ∙ turn.takes.hands.was)) at in
            omega (arith, part_stands.low v x.0 e x.1, room.room)
