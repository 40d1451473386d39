-- Parts that wait fit after a fill, and after a part was revealed. The part that is handed out ends no later than its unit.
use Rattle.std.proofs.Common.{◌≡◌, ◌⊎◌, inl, inr, ℕ, zero, suc, ◌+◌, ◌<◌, ◌≤◌, Bool, true, false, cond, nat_lt, List, [], ◌∷◌, drop, map, get_or, length, Some, refl, sym, ap, subst, ◌∙◌, arith}
use Rattle.std.proofs.lemmas.Bool.{cases_eq}
use Rattle.ny_num.specs.declared.rate.Rate.{Rate}
use Rattle.ny_num.specs.declared.timing.Timing.{Timing}
use Rattle.ny_resolve.specs.declared.term.NameId.{NameId}
use Rattle.ny_check.specs.declared.value.Value.{Value}
use Rattle.ny_check.specs.declared.value.Value.TheVariants.{Number, Sound as SoundOf}
use Rattle.ny_check.specs.Code.{Code}
use Rattle.ny_timing.specs.Timings.{Timed, next_time, no_time, timing_at}
use Rattle.ny_heap.specs.declared.sound.Sound.{Sound}
use Rattle.ny_heap.specs.Heap.{Waiting, Node, HeapState, node_at, blocks_of}
use Rattle.ny_heap.specs.Reach.{HeapLaws}
use Rattle.ny_heap.specs.Steps.{Fills, filled_node, captured_of, waiting_of}
use Rattle.ny_heap.specs.Revealing.{with_promise, with_sounds}
use Rattle.ny_hands.specs.declared.branch.Branch.{Branch}
use Rattle.ny_hands.proofs.MarkLemmas.{spent_like}
use Rattle.ny_hands.proofs.OptionLemmas.{same_at}
use Rattle.ny_trace.specs.Evaluates.{Trace, timed_in, times_in}
use Rattle.ny_trace.specs.Laws.{IsLawful}
use Rattle.ny_trace.specs.Reveals.{PartTurn, RevealTurn, no_sound, framed, frame, revealed_node}
use Rattle.ny_trace.proofs.LeftLemmas.{sounds_like}
use Rattle.ny_trace.proofs.RevealHandLemmas.{promised, promised_here, promised_else, new_else, unit_is}
use Rattle.ny_walk.specs.Fits.{kept_time, kept_times, times_of, part_time, part_times, EndBy, FitsUnit, Fits, IsTold, IsFitting}
use Rattle.ny_walk.proofs.FillLemmas.{left_node}
use Rattle.ny_walk.proofs.ToldLemmas.{next_told}
use Rattle.ny_walk.proofs.FitStepLemmas.{fit_like, fit_released}
use Rattle.ny_walk.proofs.FitLemmas.{next_fit}

-- ---- a fill

pub fill_fits : (code : Code) (old new : HeapState Branch) (u : ℕ) → Fills old new u → Fits code old → Fits code new
fill_fits code old new u fills all v z at = let x = left_node old new u fills v z at in by_unit x.0 x.1 x.2
  where
    by_open : (x : Node Branch) (b : Bool) → EndBy (x.timing.start + x.timing.len) (part_times code x.last_stop x.waiting) → EndBy (x.timing.start + x.timing.len) (part_times code x.last_stop (cond b x.waiting []))
    by_open x true are = are
    by_open x false are = tt

    by_unit : (x : Node Branch) → node_at old v ≡ Some x → (z ≡ x) ⊎ ((v ≡ u) × (z ≡ filled_node old.block fills.filled.memory x)) → FitsUnit code z
    by_unit x there (inl same) = subst (λ (y : Node Branch). FitsUnit code y) (sym same) (all v x there)
    by_unit x there (inr later) =
        subst (λ (y : Node Branch). FitsUnit code y) (sym later.1) (λ none. by_open x (nat_lt (x.filled + 1) (blocks_of old.block x.timing.len)) (all v x there none))

-- ---- the part that is handed out

place_time : (r : Rate) (ss : List Sound) (k : ℕ) → (get_or ss k (no_sound r)).timing ≡ get_or (times_of (map captured_of ss)) k (no_time r)
place_time r [] k = refl
place_time r (s ∷ ss) zero = refl
place_time r (s ∷ ss) (suc k) = place_time r ss k

frame_value : (r : Rate) (ss : List Sound) (v : Value ℕ) → timed_in (framed r ss v) ≡ kept_time r (times_of (map captured_of ss)) v
frame_value r ss (Number n) = refl
frame_value r ss (SoundOf k) = ap (λ (t : Timing). SoundOf t) (place_time r ss k)

frame_times : (r : Rate) (ss : List Sound) (bs : List (NameId × Value ℕ)) → times_in (frame r ss bs) ≡ kept_times r (times_of (map captured_of ss)) bs
frame_times r ss [] = refl
frame_times r ss (b ∷ bs) = λ i. (b.0, frame_value r ss b.1 i) ∷ frame_times r ss bs i

module _ (code : Code) (D : Trace) (told : IsTold code D) (old mid : HeapState Branch) (u : ℕ) (s : Sound) (turn : PartTurn D old mid u s) (inside : turn.branch.expr.0 < length code.nodes) where
  -- it is heard when the first part that waited was to be
  part_told : s.timing ≡ part_time code turn.takes.hands.unit.last_stop (waiting_of (turn.branch, turn.captured))
  part_told =
      next_told code D told turn.branch.env turn.takes.hands.unit.last_stop (turn.branch.expr, frame turn.branch.env.sound_rate turn.captured turn.branch.names) turn.one turn.two s inside turn.evaluates
      ∙ ap (λ (names : Timed). next_time turn.branch.env turn.takes.hands.unit.last_stop (λ from. timing_at code turn.branch.expr.0 from names)) (frame_times turn.branch.env.sound_rate turn.captured turn.branch.names)

  -- what fits of the unit, part by part
  part_fits : Fits code old → EndBy (turn.takes.hands.unit.timing.start + turn.takes.hands.unit.timing.len) (s.timing ∷ part_times code s.timing.stop turn.takes.hands.rest)
  part_fits all =
      subst (λ (t : Timing). EndBy (turn.takes.hands.unit.timing.start + turn.takes.hands.unit.timing.len) (t ∷ part_times code t.stop turn.takes.hands.rest)) (sym part_told)
      (subst (λ (ws : List (Waiting Branch)). EndBy (turn.takes.hands.unit.timing.start + turn.takes.hands.unit.timing.len) (part_times code turn.takes.hands.unit.last_stop ws)) turn.takes.hands.waits
      (all u turn.takes.hands.unit turn.takes.hands.was turn.settled))

  pub part_ends : Fits code old → s.timing.start + s.timing.len ≤ turn.takes.hands.unit.timing.start + turn.takes.hands.unit.timing.len
  part_ends all = (part_fits all).0

  pub rest_ends : Fits code old → EndBy (turn.takes.hands.unit.timing.start + turn.takes.hands.unit.timing.len) (part_times code s.timing.stop (drop 1 turn.takes.hands.unit.waiting))
  rest_ends all =
      subst (λ (ws : List (Waiting Branch)). EndBy (turn.takes.hands.unit.timing.start + turn.takes.hands.unit.timing.len) (part_times code s.timing.stop (drop 1 ws))) (sym turn.takes.hands.waits)
      (part_fits all).1

-- ---- a part that is revealed

module _ (code : Code) (D : Trace) (law : IsLawful code D) (told : IsTold code D) (fitting : IsFitting code D) (old new : HeapState Branch) (u : ℕ) (turn : RevealTurn D old new u) (laws : HeapLaws old) (inside : turn.part.branch.expr.0 < length code.nodes) where
  promised_fits : Fits code old → Fits code (promised old u)
  promised_fits all v y at = elim (cases_eq v u) [
    | inl same ↦
        let now : with_promise turn.part.takes.hands.unit ≡ y = same_at (node_at (promised old u) u) (with_promise turn.part.takes.hands.unit) y (promised_here old u turn.part.takes.hands.unit turn.part.takes.hands.was laws) (ap (node_at (promised old u)) (sym same) ∙ at) in
        subst (λ (z : Node Branch). FitsUnit code z) now (λ none. absurd (omega (arith, none)))
    | inr other ↦ all v y (sym (promised_else old u turn.part.takes.hands.unit turn.part.takes.hands.was laws v other) ∙ at)
  ]

  one_fits : Fits code old → Fits code turn.part.one
  one_fits all =
      subst (λ (h : HeapState Branch). Fits code h) (sym turn.part.takes.hands.heap)
      (fit_like code (promised old u) (with_sounds (promised old u) turn.part.captured) (λ v y at. let x = (sounds_like (promised old u) turn.part.captured).from v y at in (x.0, x.1, x.2)) (promised_fits all))

  mid_fits : Fits code old → Fits code turn.mid
  mid_fits all =
      let b = turn.part.branch in
      fit_released code turn.part.two turn.mid turn.part.captured turn.part.given_up
      (next_fit code D told fitting b.env turn.part.takes.hands.unit.last_stop (b.expr, frame b.env.sound_rate turn.part.captured b.names) turn.part.one turn.part.two turn.sound inside turn.part.evaluates (one_fits all))

  pub turn_fits : Fits code old → Fits code new
  turn_fits all v y at = elim (cases_eq v u) [
    | inl same ↦
        let now : revealed_node turn.sound turn.part.takes.hands.unit ≡ y = same_at (node_at new u) (revealed_node turn.sound turn.part.takes.hands.unit) y (unit_is code D law old turn.mid u turn.sound turn.part laws inside new turn.attaches) (ap (node_at new) (sym same) ∙ at) in
        subst (λ (z : Node Branch). FitsUnit code z) now (λ none. rest_ends code D told old turn.mid u turn.sound turn.part inside all)
    | inr other ↦
        let m = (spent_like turn.mid (turn.sound ∷ [])).from v y (sym (new_else code D law old turn.mid u turn.sound turn.part laws inside new turn.attaches v other) ∙ at) in
        subst (λ (z : Node Branch). FitsUnit code z) (sym m.2) (mid_fits all v m.0 m.1)
  ]
