-- A part that falls due leaves no other part due, and none to be attached.
use Rattle.std.proofs.Common.{◌≡◌, ◌≢◌, ℕ, ◌<◌, Bool, true, false, [], ◌∷◌, length, sym, ap, subst, ◌∙◌}
use Rattle.std.proofs.lemmas.Bool.{true≢false}
use Rattle.ny_num.specs.Grid.{index_at}
use Rattle.ny_num.specs.Sound.{placed_timing}
use Rattle.ny_check.specs.Code.{Code}
use Rattle.ny_warp.specs.Environment.{from_stop}
use Rattle.ny_heap.specs.Heap.{Node, HeapState}
use Rattle.ny_heap.specs.Reach.{HeapLaws}
use Rattle.ny_heap.specs.Steps.{IsSettledUnit}
use Rattle.ny_heap.specs.Revealing.{with_sounds}
use Rattle.ny_hands.specs.declared.branch.Branch.{Branch}
use Rattle.ny_hands.proofs.MarkLemmas.{spent_like}
use Rattle.ny_trace.specs.Evaluates.{Trace}
use Rattle.ny_trace.specs.Laws.{IsLawful}
use Rattle.ny_trace.specs.Settled.{SettledBut, IsSettling}
use Rattle.ny_trace.specs.Reveals.{frame, RevealTurn}
use Rattle.ny_trace.proofs.LeftLemmas.{sounds_like}
use Rattle.ny_trace.proofs.SettlingLemmas.{settled_like, settled_released, settled_brought, settled_placed}
use Rattle.ny_trace.proofs.RevealHandLemmas.{promised, promised_else, new_else}

module _ (code : Code) (D : Trace) (law : IsLawful code D) (settles : IsSettling D) (old new : HeapState Branch) (u : ℕ) (turn : RevealTurn D old new u) (laws : HeapLaws old) (inside : turn.part.branch.expr.0 < length code.nodes) (but : ℕ → Bool) (here : but u ≡ true) (all : SettledBut but old) where
  -- the unit itself is left out
  apart_of : (v : ℕ) → but v ≡ false → v ≢ u
  apart_of v apart same = true≢false (sym here ∙ ap but (sym same) ∙ apart)

  promised_settled : SettledBut but (promised old u)
  promised_settled v x at apart = all v x (sym (promised_else old u turn.part.takes.hands.unit turn.part.takes.hands.was laws v (apart_of v apart)) ∙ at) apart

  one_settled : SettledBut but turn.part.one
  one_settled =
      subst (λ (h : HeapState Branch). SettledBut but h) (sym turn.part.takes.hands.heap)
      (settled_like but (promised old u) (with_sounds (promised old u) turn.part.captured) (sounds_like (promised old u) turn.part.captured).counts.block (λ v y at. let x = (sounds_like (promised old u) turn.part.captured).from v y at in (x.0, x.1, x.2)) promised_settled)

  mid_settled : SettledBut but turn.mid
  mid_settled =
      let next = turn.part.evaluates in
      let b = turn.part.branch in
      let r = b.env.sound_rate in
      let stop = turn.part.takes.hands.unit.last_stop in
      settled_released but turn.part.two turn.mid turn.part.captured turn.part.given_up
      (settled_placed but next.end turn.part.two (placed_timing (index_at stop r)) next.brought turn.sound next.places
      (settled_brought but next.mid next.end r next.part next.brought next.brings
      (settles b.expr.0 (from_stop b.env stop) (frame r turn.part.captured b.names) turn.part.one next.mid next.part next.evaluates but one_settled)))

  pub revealed_settled : SettledBut but new
  revealed_settled v y at apart =
      let at_spent = sym (new_else code D law old turn.mid u turn.sound turn.part laws inside new turn.attaches v (apart_of v apart)) ∙ at in
      let m = (spent_like turn.mid (turn.sound ∷ [])).from v y at_spent in
      let block : new.block ≡ turn.mid.block = ap (λ (h : HeapState Branch). h.block) turn.attaches.heap ∙ (spent_like turn.mid (turn.sound ∷ [])).counts.block in
      subst (λ (q : Node Branch). IsSettledUnit new.block q) (sym m.2) (subst (λ n. IsSettledUnit n m.0) (sym block) (mid_settled v m.0 m.1 apart))
