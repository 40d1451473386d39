-- The part that a branch is: its names are held while it is evaluated, and then the sounds that it kept are given up.
use Rattle.std.proofs.Common.{◌≡◌, ℕ, ◌+◌, ◌<◌, List, [], ◌∷◌, length, Result, Ok, Err, IfOk, OnErr, sym, ap, subst, ◌∙◌}
use Rattle.ny_num.specs.declared.rate.Rate.{Rate}
use Rattle.ny_warp.specs.declared.env.Env.{Env}
use Rattle.ny_resolve.specs.declared.term.NameId.{NameId}
use Rattle.ny_check.specs.declared.value.Value.{Value}
use Rattle.ny_check.specs.Code.{Code, IsOrdered}
use Rattle.ny_heap.specs.declared.sound.Sound.{Sound}
use Rattle.ny_heap.specs.Heap.{HeapState}
use Rattle.ny_heap.specs.Reach.{HeapLaws}
use Rattle.ny_heap.specs.Steps.{AreHeld}
use Rattle.ny_hands.specs.declared.branch.Branch.{Branch}
use Rattle.ny_hands.specs.Calls.{ReleasesAll}
use Rattle.ny_hands.specs.Frames.{Names, AllHeld, sounds_among}
use Rattle.ny_hands.specs.Hands.{Hand}
use Rattle.ny_trace.specs.Evaluates.{NextTurn, Evaluates}
use Rattle.ny_trace.specs.Laws.{KeepsFree}
use Rattle.ny_trace.specs.Reveals.{frame}
use Rattle.ny_walk.specs.Parts.{AreKept}
use Rattle.ny_eval.specs.Framed.{FrameState, names_in}
use Rattle.ny_eval.specs.Revealed.{IsDuePart}
use Rattle.ny_eval.proofs.EvalLemmas.{names_lent, sound_hand}
use Rattle.ny_eval.proofs.HandedLemmas.{AreCounted, counted, still_held, names_held, counted_both, released_size}
use Rattle.ny_eval.proofs.KeptLemmas.{frame_among}

-- ---- an expression that was evaluated in a frame of names that are lent

module _ (code : Code) (e : ℕ) (env : Env) (f : FrameState) (names : Names) (old mid : HeapState Branch) (s : Sound) (lent : f ≡ record { lent = names; bound = [] }) (t : Evaluates code (e + 1) e env (names_in f) old mid s) where
  pub lent_turn : Evaluates code (e + 1) e env names old mid s
  lent_turn = subst (λ (ns : Names). Evaluates code (e + 1) e env ns old mid s) (names_lent f names lent) t

  pub lent_hand : IsOrdered code → KeepsFree code → e < length code.nodes → HeapLaws old → AllHeld old names → Hand old mid (s ∷ [])
  lent_hand ordered free inside laws held = sound_hand code ordered free (e + 1) e env names old mid s inside laws held lent_turn

-- ---- the names of a branch

pub framed_as : (names : Names) (ss ts : List Sound) (bs cs : List (NameId × Value ℕ)) → ((r : Rate) → names ≡ frame r ts cs) → ts ≡ ss → cs ≡ bs → (r : Rate) → names ≡ frame r ss bs
framed_as names ss ts bs cs framed sounds same r = framed r ∙ (λ i. frame r (sounds i) (same i))

module _ (b : Branch) (ss : List Sound) (names : Names) (framed : (r : Rate) → names ≡ frame r ss b.names) (kept : AreKept 0 b.names (length ss)) (one : HeapState Branch) (laws : HeapLaws one) (held : AreHeld one ss) where
  among : sounds_among names ≡ ss
  among = ap sounds_among (framed b.env.sound_rate) ∙ frame_among b.env.sound_rate ss b.names kept

  names_counted : AreCounted one (sounds_among names)
  names_counted = subst (λ xs. AreCounted one xs) (sym among) (counted one ss laws held)

  pub part_names : AllHeld one names
  part_names = names_held one names names_counted

  module _ {E : Type 0} (two : HeapState Branch) (r : Result Sound E) (hand : IfOk r (λ s. Hand one two (s ∷ []))) (none : OnErr r (Hand one two [])) where
    pub part_held : AreHeld two (sounds_among names)
    part_held = still_held two (sounds_among names) (counted_both one two (sounds_among names) r names_counted hand none)

    two_size : (two.pool ≡ one.pool) × (two.block ≡ one.block)
    two_size = by_result r hand none
      where
        by_result : (r : Result Sound E) → IfOk r (λ s. Hand one two (s ∷ [])) → OnErr r (Hand one two []) → (two.pool ≡ one.pool) × (two.block ≡ one.block)
        by_result (Ok s) hand none = (hand.counts.pool, hand.counts.block)
        by_result (Err e) hand none = (none.counts.pool, none.counts.block)

    module _ (new : HeapState Branch) (released : ReleasesAll two new (sounds_among names)) where
      pub part_size : (new.pool ≡ one.pool) × (new.block ≡ one.block)
      part_size = let size = released_size two new (sounds_among names) released in (size.0 ∙ two_size.0, size.1 ∙ two_size.1)

      pub part_due : (code : Code) (stop : ℕ) → IfOk r (λ s. NextTurn (Evaluates code (b.expr.0 + 1)) b.env stop (b.expr, names) one two s) → IfOk r (λ s. IsDuePart code b stop ss one new s)
      part_due code stop turn = by_result r turn
        where
          by_result : (r : Result Sound E) → IfOk r (λ s. NextTurn (Evaluates code (b.expr.0 + 1)) b.env stop (b.expr, names) one two s) → IfOk r (λ s. IsDuePart code b stop ss one new s)
          by_result (Ok s) turn = record {
            mid = two;
            evaluates = subst (λ (ns : Names). NextTurn (Evaluates code (b.expr.0 + 1)) b.env stop (b.expr, ns) one two s) (framed b.env.sound_rate) turn;
            given_up = subst (λ xs. ReleasesAll two new xs) among released;
          }
          by_result (Err e) turn = tt
