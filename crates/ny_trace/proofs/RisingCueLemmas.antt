-- How high a cue stands: moving a sound makes no unit, and another loudness one.
use Rattle.std.proofs.Common.{ℕ, ◌+◌, ◌<◌, true, false, Bool, [], ◌∷◌, length, subst, arith, ℤ}
use Rattle.ny_warp.specs.declared.env.Env.{Env}
use Rattle.ny_check.specs.Behaviours.{is_one, cue_timing}
use Rattle.ny_check.specs.declared.node.ExprId.{ExprId}
use Rattle.ny_check.specs.Code.{Code}
use Rattle.ny_heap.specs.declared.sound.Sound.{Sound}
use Rattle.ny_heap.specs.Heap.{HeapState}
use Rattle.ny_heap.specs.Reach.{HeapLaws}
use Rattle.ny_hands.specs.Frames.{Names, sounds_among}
use Rattle.ny_hands.specs.Hands.{AllBegin, AreNamed}
use Rattle.ny_hands.specs.declared.branch.Branch.{Branch}
use Rattle.ny_hands.proofs.PlaceLemmas.{hand_placed}
use Rattle.ny_trace.specs.Evaluates.{Trace, LouderTurn, CueTurn}
use Rattle.ny_trace.specs.Heights.{Ranks, AreLow, Stands, IsRising}
use Rattle.ny_trace.specs.Laws.{IsLawful}
use Rattle.ny_trace.proofs.CueLemmas.{cued_len}
use Rattle.ny_trace.proofs.HeightLemmas.{stands_from, stands_none, stands_seq, stands_wider, step_made}
use Rattle.ny_trace.proofs.RisingSeqLemmas.{from_placed, placed_low}

louder_stands : (tall : ℕ → ℕ) (mid new : HeapState Branch) (is : Bool) (loud : ℤ) (a s : Sound) (rank : ℕ → ℕ) (m : ℕ) → HeapLaws mid → AllBegin mid (a ∷ []) → Ranks tall mid rank → AreLow rank m (a ∷ []) → LouderTurn is loud a mid new s → Stands tall mid new rank (m + 1) (s ∷ [])
louder_stands tall mid new true loud a s rank m laws begin ranks low step =
    subst (λ (q : Sound). Stands tall mid new rank (m + 1) (q ∷ [])) step.1 (subst (λ (h : HeapState Branch). Stands tall mid h rank (m + 1) (a ∷ [])) step.0
    (stands_wider tall mid mid rank m (m + 1) (a ∷ []) (omega arith) (stands_none tall mid rank m (a ∷ []) ranks low)))
louder_stands tall mid new false loud a s rank m laws begin ranks low step = step_made tall mid new _ _ (a ∷ []) s rank m laws begin ranks low step

pub cue_stands : (code : Code) (D : Trace) → IsLawful code D → (tall : ℕ → ℕ) → IsRising code tall D → (e : ExprId) (env : Env) (names : Names) (old new : HeapState Branch) (s : Sound) → e.0 < length code.nodes → HeapLaws old → AreNamed old names → CueTurn D e env names old new s → (rank : ℕ → ℕ) (base : ℕ) → Ranks tall old rank → AreLow rank base (sounds_among names) → Stands tall old new rank (base + (tall e.0 + 1)) (s ∷ [])
cue_stands code D law tall rising e env names old new s inside laws named step rank base ranks low =
    let m = base + tall e.0 in
    let h1 = (law e.0 env names old step.mid step.part step.evaluates inside laws named).hand in
    let p1 = rising e.0 env names old step.mid step.part step.evaluates inside laws named rank base ranks low in
    let h2 = hand_placed old step.mid step.cued.mid (cue_timing env) step.part step.cued.later [] (cued_len env) laws h1 step.cued.places in
    let p2 = stands_from tall old step.mid step.cued.mid rank m (step.part ∷ []) (step.cued.later ∷ []) (from_placed step.mid step.cued.mid (cue_timing env) step.part step.cued.later step.cued.places) p1 (placed_low step.mid step.cued.mid (cue_timing env) step.part step.cued.later p1.later m step.cued.places p1.in_hand) in
    let v = louder_stands tall step.cued.mid new (is_one env.loud) env.loud step.cued.later s p2.later m h2.laws h2.begin p2.ranks p2.in_hand step.cued.louder in
    stands_seq tall old step.cued.mid new rank m (m + 1) (base + (tall e.0 + 1)) (step.cued.later ∷ []) (s ∷ []) (omega arith) (omega arith) h2.kept p2 v
