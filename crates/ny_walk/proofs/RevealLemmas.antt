-- A part that is revealed leaves alone what stands higher than its unit.
use Rattle.std.proofs.Common.{◌≡◌, ◌≢◌, ◌⊎◌, inl, inr, ℕ, suc, ◌+◌, ◌*◌, ◌<◌, ◌≤◌, Bool, true, false, cond, nat_eq, List, [], ◌∷◌, ◌++◌, length, drop, slice_get, Option, None, Some, refl, sym, ap, subst, ◌∙◌, arith}
use Rattle.std.proofs.lemmas.Bool.{cases_eq, eq-eqb, ne_eqb, ltb-false}
use Rattle.std.specs.Option.{option_map_or}
use Rattle.ny_num.specs.Grid.{index_at}
use Rattle.ny_check.specs.Code.{Code}
use Rattle.ny_heap.specs.Heap.{Reader, Waiting, Node, HeapState, node_at}
use Rattle.ny_heap.specs.Reach.{HeapLaws}
use Rattle.ny_heap.specs.Steps.{IsSettledUnit, changed, reader_of, waiting_of}
use Rattle.ny_heap.specs.Revealing.{needs_part, due_of, with_promise, with_sounds}
use Rattle.ny_hands.specs.declared.branch.Branch.{Branch}
use Rattle.ny_hands.specs.Frames.{part_is}
use Rattle.ny_hands.specs.Hands.{Later}
use Rattle.ny_hands.proofs.MarkLemmas.{spent_like}
use Rattle.ny_hands.proofs.OptionLemmas.{same_at}
use Rattle.ny_trace.specs.Evaluates.{Trace}
use Rattle.ny_trace.specs.Heights.{Ranks, IsRising}
use Rattle.ny_trace.specs.Laws.{IsLawful}
use Rattle.ny_trace.specs.Settled.{IsSettling}
use Rattle.ny_trace.specs.Reveals.{frame, RevealTurn, revealed_node, IsRevealed, StandsBelow}
use Rattle.ny_trace.proofs.LeftLemmas.{sounds_like}
use Rattle.ny_trace.proofs.RevealHandLemmas.{promised, promised_here, promised_else, new_else, revealed}
use Rattle.ny_trace.proofs.RevealLemmas.{reveal_later}
use Rattle.ny_trace.proofs.RisingRevealLemmas.{revealed_stands}
use Rattle.ny_trace.proofs.SettlingRevealLemmas.{revealed_settled}
use Rattle.ny_walk.specs.Parts.{HasPartsOf, AllPartsOf, IsMakingParts}
use Rattle.ny_walk.specs.Fits.{IsTold, IsFitting}
use Rattle.ny_walk.proofs.PartsStepLemmas.{parts_like, parts_released}
use Rattle.ny_walk.proofs.PartsLemmas.{next_parts}
use Rattle.ny_walk.proofs.FitRevealLemmas.{turn_fits}
use Rattle.ny_walk.specs.Below.{IsSettled, SettledButOne, IsHeldAbove, Continues, Below, Revealed}
use Rattle.ny_walk.proofs.StayLemmas.{ChangesOne, high_reached, held_reached}

-- ---- heights

module _ (code : Code) (tall : ℕ → ℕ) (old new : HeapState Branch) (laws : HeapLaws old) (u : ℕ) (shows : IsRevealed old new u) (keeps : (w : Rattle.ny_heap.specs.Means.Whole) → Rattle.ny_heap.specs.Means.Means (part_is code) old w → Later (part_is code) old new w) (rank : ℕ → ℕ) (ranks : Ranks tall old rank) (stands : StandsBelow tall old new u rank) where
  one : ChangesOne old (changed old (Some u) with_promise) u shows.unit (with_promise shows.unit)
  one = record { was = shows.was; after = promised_here old u shows.unit shows.was laws; outside = refl; others = promised_else old u shows.unit shows.was laws }

  is_other : (v : ℕ) → rank u + 1 ≤ rank v → v ≢ u
  is_other v high same = omega (arith, high, ap rank same)

  held_node : (v : ℕ) (x : Node Branch) → node_at old v ≡ Some x → IsHeldAbove old rank (rank u + 1) v → (y : Node Branch) × (node_at new v ≡ Some y) × (stands.later v ≡ rank v) × Continues x y
  held_node v x there by = elim (cases_eq v u) [
    | inl same ↦
        let is : shows.unit ≡ x = same_at (node_at old v) shows.unit x (ap (node_at old) same ∙ shows.was) there in
        (revealed_node shows.part shows.unit, ap (node_at new) same ∙ shows.after, stands.same v x there, subst (λ (z : Node Branch). Continues z (revealed_node shows.part shows.unit)) is (record { timing = refl; filled = omega arith; outside = refl }))
    | inr other ↦
        (x, shows.stay v x other there (held_reached old (changed old (Some u) with_promise) laws rank ranks.falls u shows.unit (with_promise shows.unit) one v by), stands.same v x there, record { timing = refl; filled = omega arith; outside = refl })
  ]

  was_high : (v : ℕ) (y : Node Branch) → node_at new v ≡ Some y → rank u + 1 ≤ stands.later v + 1 → (o : Option (Node Branch)) → node_at old v ≡ o → (x : Node Branch) × (node_at old v ≡ Some x) × (stands.later v ≡ rank v)
  was_high v y at high None e = absurd (omega (arith, high, stands.low v y e at))
  was_high v y at high (Some x) e = (x, e, stands.same v x e)

  pub reveal_below : Below code tall old new rank (rank u + 1)
  reveal_below = record {
    later = stands.later;
    ranks = stands.ranks;
    pool = shows.counts.pool;
    block = shows.counts.block;
    same = λ v x there high. (shows.stay v x (is_other v high) there (high_reached old (changed old (Some u) with_promise) laws rank ranks.falls u shows.unit (with_promise shows.unit) one v x there high), stands.same v x there);
    held = held_node;
    high = λ v y at high. was_high v y at high (node_at old v) refl;
    marks = shows.marks;
    means = λ w means. let l = keeps w means in record { later = l.later; means = l.means; extends = λ v x there by. l.extends v x there };
  }

-- ---- a turn

module _ (code : Code) (D : Trace) (law : IsLawful code D) (tall : ℕ → ℕ) (rising : IsRising code tall D) (settles : IsSettling D) (makes : IsMakingParts code D) (told : IsTold code D) (fitting : IsFitting code D) (old new : HeapState Branch) (u : ℕ) (turn : RevealTurn D old new u) (laws : HeapLaws old) (inside : turn.part.branch.expr.0 < length code.nodes) where
  shows : IsRevealed old new u
  shows = revealed code D law old turn.mid u turn.sound turn.part laws inside new turn.attaches

  abbrev unit : Node Branch
  unit = turn.part.takes.hands.unit

  is_unit : turn.part.takes.hands.unit ≡ shows.unit
  is_unit = same_at (node_at old u) turn.part.takes.hands.unit shows.unit turn.part.takes.hands.was shows.was

  fewer_of : (ws : List (Waiting Branch)) (p : Waiting Branch) (rest : List (Waiting Branch)) → ws ≡ p ∷ rest → length (drop 1 ws) < length ws
  fewer_of ws p rest is = subst (λ (qs : List (Waiting Branch)). length (drop 1 qs) < length qs) (sym is) (omega arith)

  -- ---- the parts that wait

  promised_parts : AllPartsOf code old → AllPartsOf code (promised old u)
  promised_parts all v y at i p is = elim (cases_eq v u) [
    | inl same ↦
        let now : with_promise turn.part.takes.hands.unit ≡ y = same_at (node_at (promised old u) u) (with_promise turn.part.takes.hands.unit) y (promised_here old u turn.part.takes.hands.unit turn.part.takes.hands.was laws) (ap (node_at (promised old u)) (sym same) ∙ at) in
        let was = all u turn.part.takes.hands.unit turn.part.takes.hands.was (suc i) p (sym (later_of turn.part.takes.hands.unit.waiting (waiting_of (turn.part.branch, turn.part.captured)) turn.part.takes.hands.rest turn.part.takes.hands.waits i) ∙ (ap (λ (z : Node Branch). slice_get z.waiting i) now ∙ is)) in
        (was.0, was.1 ∙ ap (λ (z : Node Branch). z.timing.rate) now, was.2, subst (λ (z : Node Branch). 0 < length z.inputs) now was.3)
    | inr other ↦ all v y (sym (promised_else old u turn.part.takes.hands.unit turn.part.takes.hands.was laws v other) ∙ at) i p is
  ]
    where
      later_of : (ws : List (Waiting Branch)) (w : Waiting Branch) (rest : List (Waiting Branch)) → ws ≡ w ∷ rest → (i : ℕ) → slice_get (drop 1 ws) i ≡ slice_get ws (suc i)
      later_of ws w rest is i = ap (λ (qs : List (Waiting Branch)). slice_get (drop 1 qs) i) is ∙ ap (λ (qs : List (Waiting Branch)). slice_get qs (suc i)) (sym is)

  one_parts : AllPartsOf code old → AllPartsOf code turn.part.one
  one_parts all =
      subst (λ (h : HeapState Branch). AllPartsOf code h) (sym turn.part.takes.hands.heap)
      (parts_like code (promised old u) (with_sounds (promised old u) turn.part.captured) (λ v y at. let x = (sounds_like (promised old u) turn.part.captured).from v y at in (x.0, x.1, x.2)) (promised_parts all))

  mid_parts : AllPartsOf code old → AllPartsOf code turn.mid
  mid_parts all =
      let b = turn.part.branch in
      parts_released code turn.part.two turn.mid turn.part.captured turn.part.given_up
      (next_parts code D makes b.env turn.part.takes.hands.unit.last_stop (b.expr, frame b.env.sound_rate turn.part.captured b.names) turn.part.one turn.part.two turn.sound inside turn.part.evaluates (one_parts all))

  turn_parts : AllPartsOf code old → AllPartsOf code new
  turn_parts all v y at i p is = elim (cases_eq v u) [
    | inl same ↦
        let now : revealed_node shows.part shows.unit ≡ y = same_at (node_at new u) (revealed_node shows.part shows.unit) y shows.after (ap (node_at new) (sym same) ∙ at) in
        let was = promised_parts all u (with_promise shows.unit) (promised_here old u shows.unit shows.was laws) i p (ap (λ (z : Node Branch). slice_get z.waiting i) now ∙ is) in
        (was.0, was.1 ∙ ap (λ (z : Node Branch). z.timing.rate) now, was.2, subst (λ (z : Node Branch). 0 < length z.inputs) now (one_more shows.unit.inputs (reader_of shows.part)))
    | inr other ↦
        let m = (spent_like turn.mid (turn.sound ∷ [])).from v y (sym (new_else code D law old turn.mid u turn.sound turn.part laws inside new turn.attaches v other) ∙ at) in
        subst (λ (z : Node Branch). HasPartsOf code z) (sym m.2) (mid_parts all v m.0 m.1) i p is
  ]
    where
      one_more : (os : List (Option Reader)) (o : Option Reader) → 0 < length (os ++ o ∷ [])
      one_more [] o = omega arith
      one_more (a ∷ os) o = omega arith

  pub turn_reveals : Revealed code tall old new u
  turn_reveals = record {
    laws = shows.laws;
    settled = λ all. revealed_settled code D law settles old new u turn laws inside (λ v. nat_eq v u) (eq-eqb u u refl) all;
    parts = turn_parts;
    fits = turn_fits code D law told fitting old new u turn laws inside;
    unit = shows.unit;
    was = shows.was;
    later = revealed_node shows.part shows.unit;
    after = shows.after;
    filled = refl;
    pending = refl;
    fewer = subst (λ (x : Node Branch). length (drop 1 x.waiting) < length x.waiting) is_unit (fewer_of turn.part.takes.hands.unit.waiting (waiting_of (turn.part.branch, turn.part.captured)) turn.part.takes.hands.rest turn.part.takes.hands.waits);
    below = λ rank ranks. reveal_below code tall old new laws u shows (λ w means. reveal_later code D law old new u turn laws inside w means) rank ranks
        (revealed_stands code D law tall rising old turn.mid u turn.sound turn.part laws inside rank ranks new turn.attaches);
  }

-- ---- a unit of which nothing is due

not_due : {B : Type 0} (block : ℕ) (x : Node B) → cond (needs_part block x) (slice_get x.waiting 0) None ≡ None → (x.waiting ≡ []) ⊎ (x.timing.start + (x.filled + 1) * block ≤ index_at x.last_stop x.timing.rate)
not_due {B} block x none = by_need (needs_part block x) refl none
  where
    by_need : (b : Bool) → needs_part block x ≡ b → cond b (slice_get x.waiting 0) None ≡ None → (x.waiting ≡ []) ⊎ (x.timing.start + (x.filled + 1) * block ≤ index_at x.last_stop x.timing.rate)
    by_need false is none = inr (ltb-false (index_at x.last_stop x.timing.rate) (x.timing.start + (x.filled + 1) * block) is)
    by_need true is none = inl (by_list x.waiting none)
      where
        by_list : (ws : List (Waiting B)) → slice_get ws 0 ≡ None → ws ≡ []
        by_list [] e = refl
        by_list (w ∷ ws) e = cc

pub unit_settled : {B : Type 0} (h : HeapState B) (u : ℕ) (x : Node B) → node_at h u ≡ Some x → x.pending ≡ 0 → due_of h u ≡ None → IsSettledUnit h.block x
unit_settled h u x there pending none = (pending, not_due h.block x (sym (ap (λ o. option_map_or (λ x. cond (needs_part h.block x) (slice_get x.waiting 0) None) o None) there) ∙ none))

pub all_settled : {B : Type 0} (h : HeapState B) (u : ℕ) (x : Node B) → node_at h u ≡ Some x → x.pending ≡ 0 → due_of h u ≡ None → SettledButOne u h → IsSettled h
all_settled {B} h u x there pending none but v y at = elim (cases_eq v u) [
  | inl same ↦ subst (λ (z : Node B). IsSettledUnit h.block z) (same_at (node_at h u) x y there (ap (node_at h) (sym same) ∙ at)) (unit_settled h u x there pending none)
  | inr other ↦ but v y at (ne_eqb v u other)
]
