-- A part that falls due is what its mix was promised, so no list changes and nothing is owed any more.
use Rattle.std.proofs.Common.{◌≡◌, ◌≢◌, inl, inr, ℕ, zero, suc, ◌<◌, cond, List, [], ◌∷◌, ◌++◌, length, map, get_or, Some, refl, sym, ap, subst, ◌∙◌, arith}
use Rattle.std.proofs.lemmas.Bool.{cases_eq, eq-eqb, ne_eqb}
use Rattle.ny_num.specs.declared.rate.Rate.{Rate}
use Rattle.ny_num.specs.Grid.{index_at}
use Rattle.ny_num.specs.Sound as sounds
use Rattle.ny_num.specs.Sound.{placed, silence}
use Rattle.ny_num.specs.Resampling.{resampled}
use Rattle.ny_warp.specs.Environment.{from_stop}
use Rattle.ny_resolve.specs.declared.term.NameId.{NameId}
use Rattle.ny_check.specs.declared.value.Value.{Value}
use Rattle.ny_check.specs.declared.value.Value.TheVariants.{Number, Sound as SoundOf}
use Rattle.ny_check.specs.Code.{Code}
use Rattle.ny_check.specs.Meaning.{Bound, meaning}
use Rattle.ny_heap.specs.declared.sound.Sound.{Sound}
use Rattle.ny_heap.specs.Heap.{Node, HeapState, node_at}
use Rattle.ny_heap.specs.Means.{Whole, Means, captured_sound, following, stop_after}
use Rattle.ny_heap.specs.Reach.{HeapLaws}
use Rattle.ny_heap.specs.Steps.{captured_of}
use Rattle.ny_heap.specs.Revealing.{with_owed}
use Rattle.ny_hands.specs.Frames.{sound_at, bound_in, captured_bound, part_is}
use Rattle.ny_hands.specs.Hands.{item, Are, Later, Comes}
use Rattle.ny_hands.specs.declared.branch.Branch.{Branch}
use Rattle.ny_hands.proofs.ComingLemmas.{comes_as, keeps_all}
use Rattle.ny_trace.specs.Evaluates.{Trace}
use Rattle.ny_trace.specs.Laws.{IsLawful}
use Rattle.ny_trace.specs.Reveals.{no_sound, frame, RevealTurn}
use Rattle.ny_trace.proofs.WaitLemmas.{resampled_rate, at_rate}
use Rattle.ny_trace.proofs.LeftLemmas.{sounds_like}
use Rattle.ny_trace.proofs.RevealHandLemmas.{promised, promised_to, part_comes}

-- ---- the names of a branch

place_sound : (w : Whole) (r : Rate) (ss : List Sound) (k : ℕ) → sound_at w (get_or ss k (no_sound r)) ≡ get_or (map (sound_at w) ss) k (silence r)
unfolding silence
place_sound w r [] k = refl
place_sound w r (s ∷ ss) zero = refl
place_sound w r (s ∷ ss) (suc k) = place_sound w r ss k

frame_bound : (w : Whole) (r : Rate) (ss : List Sound) (bs : List (NameId × Value ℕ)) → bound_in w (frame r ss bs) ≡ captured_bound r (map (sound_at w) ss) bs
frame_bound w r ss [] = refl
frame_bound w r ss ((x, Number v) ∷ bs) = ap (λ (rest : Bound). (x, Number v) ∷ rest) (frame_bound w r ss bs)
frame_bound w r ss ((x, SoundOf k) ∷ bs) = λ i. (x, SoundOf (place_sound w r ss k i)) ∷ frame_bound w r ss bs i

captured_are : (w : Whole) (ss : List Sound) → map (captured_sound w.samples) (map captured_of ss) ≡ map (sound_at w) ss
captured_are w [] = refl
captured_are w (s ∷ ss) = ap (λ rest. sound_at w s ∷ rest) (captured_are w ss)

none_owed : (xs : List sounds.Sound) → length xs ≡ 0 → xs ≡ []
none_owed [] e = refl
none_owed (x ∷ xs) e = absurd (omega (arith, e))

owed_here : (w : Whole) (u : ℕ) (ss : List sounds.Sound) → (with_owed w u ss).owed u ≡ ss
owed_here w u ss = ap (λ b. cond b ss (w.owed u)) (eq-eqb u u refl)

owed_else : (w : Whole) (u v : ℕ) (ss : List sounds.Sound) → v ≢ u → (with_owed w u ss).owed v ≡ w.owed v
owed_else w u v ss ne = ap (λ b. cond b ss (w.owed v)) (ne_eqb v u ne)

-- ---- what a reveal keeps

module _ (code : Code) (D : Trace) (law : IsLawful code D) (old new : HeapState Branch) (u : ℕ) (turn : RevealTurn D old new u) (laws : HeapLaws old) (inside : turn.part.branch.expr.0 < length code.nodes) where
  abbrev stop : ℕ
  stop = turn.part.takes.hands.unit.last_stop

  -- what comes into hand, told from the lists of the heap that handed it out
  given : Whole → sounds.Sound
  given w = following turn.part.branch.env.sound_rate turn.part.takes.hands.unit.last_stop (part_is code turn.part.branch (map (sound_at w) turn.part.captured) turn.part.takes.hands.unit.last_stop)

  comes : Comes (part_is code) turn.part.one turn.part.two (item turn.sound given ∷ [])
  unfolding given
  comes =
      let b = turn.part.branch in
      let r = turn.part.branch.env.sound_rate in
      let ss = turn.part.captured in
      comes_as (part_is code) turn.part.one turn.part.two turn.sound (λ w. placed (index_at stop r) (resampled r (meaning code b.expr.0 (from_stop b.env stop) (bound_in w (frame r ss b.names))))) given []
      (λ w. ap (λ (q : Bound). placed (index_at stop r) (resampled r (meaning code b.expr.0 (from_stop b.env stop) q))) (frame_bound w r ss b.names)
      ∙ ap (placed (index_at stop r)) (sym (at_rate r (part_is code b (map (sound_at w) ss) stop) (resampled_rate r _))))
      (part_comes code D law old turn.mid u turn.sound turn.part laws inside)

  module _ (w : Whole) (means : Means (part_is code) old w) where
    -- what the mix was promised
    promise : sounds.Sound
    promise = following turn.part.takes.hands.unit.timing.rate turn.part.takes.hands.unit.last_stop (part_is code turn.part.branch (map (captured_sound w.samples) (map captured_of turn.part.captured)) turn.part.takes.hands.unit.last_stop)

    nothing : w.owed u ≡ []
    nothing = none_owed (w.owed u) ((means u turn.part.takes.hands.unit turn.part.takes.hands.was).owed ∙ turn.part.settled)

    first : Whole
    first = with_owed w u (promise ∷ [])

    first_means : Means (part_is code) turn.part.one first
    unfolding promise first
    first_means =
        subst (λ (xs : List sounds.Sound). Means (part_is code) turn.part.one (with_owed w u (xs ++ following turn.part.takes.hands.unit.timing.rate (stop_after turn.part.takes.hands.unit.last_stop xs) (part_is code turn.part.branch (map (captured_sound w.samples) (map captured_of turn.part.captured)) (stop_after turn.part.takes.hands.unit.last_stop xs)) ∷ []))) nothing
        (turn.part.takes.promises (part_is code) w turn.part.takes.hands.unit turn.part.takes.hands.was means)

    second : (q : Later (part_is code) turn.part.one turn.part.two first) × Are first q.later (item turn.sound given ∷ [])
    second = comes.means first first_means

    -- each unit that was there is there when the part is handed out
    there : (v : ℕ) (x : Node Branch) → node_at old v ≡ Some x → (y : Node Branch) × (node_at turn.part.one v ≡ Some y)
    there v x at =
        let z = promised_to old u turn.part.takes.hands.unit turn.part.takes.hands.was laws v x at in
        let y = (sounds_like (promised old u) turn.part.captured).to v z.0 z.1 in
        (y.0, ap (λ (h : HeapState Branch). node_at h v) turn.part.takes.hands.heap ∙ y.1)

    unit_there : (y : Node Branch) × (node_at turn.part.one u ≡ Some y)
    unit_there = there u turn.part.takes.hands.unit turn.part.takes.hands.was

    owed : second.0.later.owed u ≡ promise ∷ []
    unfolding first
    owed = second.0.owes u unit_there.0 unit_there.1 ∙ owed_here w u (promise ∷ [])

    is : given first ≡ promise
    unfolding given promise first
    is = λ i. following (turn.part.rate i) stop (part_is code turn.part.branch (sym (captured_are w turn.part.captured) i) stop)

    -- the lists hold what they did, also the mix's own
    pub reveal_later : Later (part_is code) old new w
    unfolding first
    reveal_later = record {
      later = with_owed second.0.later u [];
      means = turn.attaches.delivers (part_is code) second.0.later promise [] (keeps_all (part_is code) turn.part.two turn.mid turn.part.captured second.0.later turn.part.given_up second.0.means) owed (second.1.0 ∙ is);
      extends = λ v x at. let y = there v x at in second.0.extends v y.0 y.1;
      owes = λ v x at. elim (cases_eq v u) [
        | inl same ↦ ap ((with_owed second.0.later u []).owed) same ∙ owed_here second.0.later u [] ∙ sym (ap w.owed same ∙ nothing)
        | inr other ↦ let y = there v x at in owed_else second.0.later u v [] other ∙ second.0.owes v y.0 y.1 ∙ owed_else w u v (promise ∷ []) other
      ];
    }
