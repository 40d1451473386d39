-- A cue in hand.
use Rattle.std.proofs.Common.{◌≡◌, [], ◌∷◌, refl, ap, ◌∙◌}
use Rattle.ny_num.specs.declared.timing.Timing.{Timing}
use Rattle.ny_num.specs.Sound.{cued_timing}
use Rattle.ny_warp.specs.declared.env.Env.{Env}
use Rattle.ny_check.specs.Behaviours.{cue_timing}
use Rattle.ny_heap.specs.declared.sound.Sound.{Sound}
use Rattle.ny_heap.specs.Heap.{HeapState}
use Rattle.ny_heap.specs.Sharing.{moved_to}
use Rattle.ny_hands.specs.Calls.{Places}
use Rattle.ny_hands.specs.Hands.{InHand, GivesUp}
use Rattle.ny_hands.proofs.PlaceLemmas.{hand_placed}
use Rattle.ny_trace.proofs.CueLemmas.{cued_len}

-- a sound that is moved to the start and the stop of its cue is heard when the cue is
cue_moved : (env : Env) (t : Timing) → moved_to (cue_timing env t).start (cue_timing env t).stop t ≡ cue_timing env t
unfolding cue_timing cued_timing
cue_moved env t = refl

pub moved_as_cue : (env : Env) (t u : Timing) → u ≡ cue_timing env t → moved_to u.start u.stop t ≡ cue_timing env t
moved_as_cue env t u is = ap (λ (v : Timing). moved_to v.start v.stop t) is ∙ cue_moved env t

pub cue_in_hand : {B : Type 0} (old new : HeapState B) (env : Env) (a s : Sound) → InHand old (a ∷ []) → Places old new (cue_timing env) a s → InHand new (s ∷ [])
cue_in_hand old new env a s is step = record { before = is.before; others = is.others; laws = is.laws; hand = hand_placed is.before old new (cue_timing env) a s is.others (cued_len env) is.laws is.hand step }

pub cue_given_up : {B : Type 0} (old mid new : HeapState B) (env : Env) (a s : Sound) → Places old mid (cue_timing env) a s → GivesUp mid new (s ∷ []) → GivesUp old new (a ∷ [])
cue_given_up old mid new env a s step gives before others laws hand = gives before others laws (hand_placed before old mid (cue_timing env) a s others (cued_len env) laws hand step)
