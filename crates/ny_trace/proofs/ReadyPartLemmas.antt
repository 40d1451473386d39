-- A part that was evaluated can be attached.
use Rattle.std.proofs.Common.{◌≡◌, ℕ, ◌+◌, ◌<◌, ◌≤◌, [], ◌∷◌, length, slice_index, Option, None, Some, refl, sym, ap, subst, ◌∙◌, arith}
use Rattle.ny_num.specs.Grid.{index_at}
use Rattle.ny_num.specs.Sound.{placed_timing, spanning}
use Rattle.ny_num.specs.Resampling.{other_rate_timing}
use Rattle.ny_num.specs.declared.rate.Rate.{Rate}
use Rattle.ny_num.specs.declared.timing.Timing.{Timing}
use Rattle.ny_check.specs.Code.{Code}
use Rattle.ny_heap.specs.declared.sound.Sound.{Sound}
use Rattle.ny_heap.specs.Heap.{Node, HeapState, list_of, place_of, stands_in}
use Rattle.ny_heap.specs.Reach.{HeapLaws}
use Rattle.ny_heap.specs.Steps.{IsHeldAt, IsHeldSound}
use Rattle.ny_hands.specs.Calls.{Brings, Stay, Change}
use Rattle.ny_hands.specs.declared.branch.Branch.{Branch}
use Rattle.ny_hands.proofs.HeapLemmas.{stands_first}
use Rattle.ny_hands.proofs.HandLemmas.{marks_there, mark_here}
use Rattle.ny_hands.proofs.RateLemmas.{same_rate}
use Rattle.ny_trace.specs.Evaluates.{Trace}
use Rattle.ny_trace.specs.Heights.{Ranks, IsRising}
use Rattle.ny_trace.specs.Laws.{IsLawful}
use Rattle.ny_trace.specs.Reveals.{PartTurn, IsReadyPart}
use Rattle.ny_trace.proofs.LeftLemmas.{IsLeft}
use Rattle.ny_trace.proofs.RevealHandLemmas.{promised, mid_laws, part_left, unit_left}
use Rattle.ny_trace.proofs.RisingRevealLemmas.{part_apart}

brought_rate : (old new : HeapState Branch) (r : Rate) (a s : Sound) → Brings old new r a s → s.timing.rate ≡ r
unfolding other_rate_timing spanning
brought_rate old new r a s (Stay step) = ap (λ (q : Sound). q.timing.rate) (sym step.same) ∙ same_rate a.timing.rate r step.rate
brought_rate old new r a s (Change step) = ap (λ (t : Timing). t.rate) step.made.makes.result.timing

placed_rate : (p : ℕ) (t : Timing) → (placed_timing p t).rate ≡ t.rate
unfolding placed_timing
placed_rate p t = refl

placed_start : (p : ℕ) (t : Timing) → p ≤ (placed_timing p t).start
unfolding placed_timing
placed_start p t = omega arith

module _ (code : Code) (D : Trace) (law : IsLawful code D) (tall : ℕ → ℕ) (rising : IsRising code tall D) (old mid : HeapState Branch) (u : ℕ) (s : Sound) (turn : PartTurn D old mid u s) (laws : HeapLaws old) (inside : turn.branch.expr.0 < length code.nodes) (rank : ℕ → ℕ) (ranks : Ranks tall old rank) where
  part_held : IsHeldSound mid s
  part_held = (left.begin.0.bounds, by_list (list_of s) refl)
    where
      left : IsLeft (promised old u) mid (s ∷ [])
      left = part_left code D law old mid u s turn laws inside

      by_list : (o : Option ℕ) → list_of s ≡ o → IsHeldAt mid s o
      by_list None e = left.begin.0.empty e
      by_list (Some n) e =
          let x = left.begin.0.shown n e in
          let now : stands_in mid.block x.unit.timing.len (place_of s) ≡ 0 = ap (stands_in mid.block x.unit.timing.len) left.begin.0.place ∙ stands_first mid.block x.unit.timing.len (mid_laws code D law old mid u s turn laws inside).positive (omega (arith, x.some, x.visible)) in
          record {
            unit = x.unit;
            there = x.there;
            some = x.some;
            visible = x.visible;
            place = omega (arith, left.begin.0.place);
            stands = subst (λ j. 0 < slice_index x.unit.outside j) (sym now) (omega (arith, left.marks n 0, mark_here mid s n e, marks_there mid n x.unit 0 x.there));
          }

  -- where it ends no later than its mix
  pub part_ready : s.timing.start + s.timing.len ≤ turn.takes.hands.unit.timing.start + turn.takes.hands.unit.timing.len → IsReadyPart mid u s
  part_ready ends =
      let y = unit_left code D law old mid u s turn laws inside in
      let unit = turn.takes.hands.unit in
      let next = turn.evaluates in
      let r = turn.branch.env.sound_rate in
      let rate : s.timing.rate ≡ unit.timing.rate = ap (λ (t : Timing). t.rate) next.places.timing ∙ placed_rate (index_at unit.last_stop r) next.brought.timing ∙ brought_rate next.mid next.end r next.part next.brought next.brings ∙ turn.rate in
      let start : index_at unit.last_stop r ≤ s.timing.start = subst (λ (t : Timing). index_at unit.last_stop r ≤ t.start) (sym next.places.timing) (placed_start (index_at unit.last_stop r) next.brought.timing) in
      record {
        held = part_held;
        begins = next.places.begins;
        unit = y.0;
        there = y.1;
        next = record {
          promised = omega (arith, ap (λ (q : Node Branch). q.pending) y.2);
          rate = rate ∙ sym (ap (λ (q : Node Branch). q.timing.rate) y.2);
          begins = subst (λ n. n ≤ s.timing.start) (λ i. index_at (sym y.2 i).last_stop ((turn.rate ∙ sym (ap (λ (q : Node Branch). q.timing.rate) y.2)) i)) start;
          ends = omega (arith, ends, ap (λ (q : Node Branch). q.timing.start) y.2, ap (λ (q : Node Branch). q.timing.len) y.2);
          apart = part_apart code D law tall rising old mid u s turn laws inside rank ranks;
        };
      }
