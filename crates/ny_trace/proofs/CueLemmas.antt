-- Cues: a sound that is moved to the time of its environment, and its loudness.
use Rattle.std.proofs.Common.{◌≡◌, ◌<◌, ◌≤◌, Bool, true, false, if◌then◌else◌, [], ◌∷◌, length, None, Some, refl, sym, ap, subst, ◌∙◌, arith, ℤ}
use Rattle.ny_num.specs.Leaves.{louder_value}
use Rattle.ny_num.specs.Numbers.{sat_sample}
use Rattle.ny_num.specs.Pointwise.{each_value}
use Rattle.ny_num.specs.Sound as sounds
use Rattle.ny_num.specs.Sound.{timing_of, cued, cued_timing, cut_len}
use Rattle.ny_num.specs.declared.timing.Timing.{Timing}
use Rattle.ny_kernels.specs.Operations.{operation}
use Rattle.ny_kernels.specs.declared.operation.Op.TheVariants.{Mul}
use Rattle.ny_warp.specs.declared.env.Env.{Env}
use Rattle.ny_check.specs.declared.node.ExprId.{ExprId}
use Rattle.ny_check.specs.Behaviours.{is_one, cue_shift, cue_sound, cue_timing}
use Rattle.ny_check.specs.Code.{Code}
use Rattle.ny_check.specs.Meaning.{meaning}
use Rattle.ny_heap.specs.declared.make.Make.TheVariants.{Pair}
use Rattle.ny_heap.specs.declared.sound.Sound.{Sound}
use Rattle.ny_heap.specs.Heap.{Made, HeapState}
use Rattle.ny_heap.specs.Means.{Parts, Whole}
use Rattle.ny_heap.specs.Reach.{HeapLaws}
use Rattle.ny_hands.specs.Calls.{retimed}
use Rattle.ny_hands.specs.Frames.{Names, bound_in, part_is}
use Rattle.ny_hands.specs.Hands.{item, Comes, AreNamed}
use Rattle.ny_hands.specs.Made.{made_of}
use Rattle.ny_hands.specs.declared.branch.Branch.{Branch}
use Rattle.ny_hands.proofs.ComingLemmas.{comes_as, comes_made, timing_begin}
use Rattle.ny_hands.proofs.HeardLemmas.{hears_one}
use Rattle.ny_hands.proofs.PlaceLemmas.{comes_retimed}
use Rattle.ny_trace.specs.Evaluates.{Trace, LouderTurn, CueTurn}
use Rattle.ny_trace.specs.Laws.{IsLawful}
use Rattle.ny_trace.proofs.FamilyLemmas.{number_first}

-- no more of a cue is heard than of its sound
pub cued_len : (env : Env) (t : Timing) → (cue_timing env t).len ≤ t.len
unfolding cue_timing cued_timing cut_len
cued_len env t = omega arith

-- the sound of a cue before it is made louder
abbrev moved : Env → sounds.Sound → sounds.Sound
moved env m = cued (cue_shift env m.rate) m

moved_is : (env : Env) (m : sounds.Sound) → retimed (cue_timing env) m ≡ moved env m
unfolding cue_timing cued cued_timing timing_of
moved_is env m = refl

abbrev louder : Bool → ℤ → sounds.Sound → sounds.Sound
louder is loud m = if is then m else each_value (louder_value loud) m

cue_is : (env : Env) (m : sounds.Sound) → louder (is_one env.loud) env.loud (moved env m) ≡ cue_sound env m
unfolding cue_sound
cue_is env m = refl

product_is : (loud : ℤ) → operation Mul (sat_sample loud) ≡ louder_value loud
unfolding louder_value
product_is loud = refl

louder_comes : (part : Parts Branch) (old mid new : HeapState Branch) (is : Bool) (loud : ℤ) (a s : Sound) (m : Whole → sounds.Sound) → HeapLaws old → Comes part old mid (item a m ∷ []) → LouderTurn is loud a mid new s → Comes part old new (item s (λ w. louder is loud (m w)) ∷ [])
louder_comes part old mid new true loud a s m laws c step =
    subst (λ (q : Sound). Comes part old new (item q m ∷ [])) step.1 (subst (λ (h : HeapState Branch). Comes part old h (item a m ∷ [])) step.0 c)
louder_comes part old mid new false loud a s m laws c step =
    comes_made part old mid new (Made (Pair Mul (Some (sat_sample loud)) None)) a.timing (a ∷ []) [] (a ∷ []) (item a m ∷ []) [] s (λ w. each_value (louder_value loud) (m w)) laws refl c step
    (λ w l means extends begin are.
    let when : a.timing ≡ timing_of (m w) = sym (timing_begin part mid l a means begin.0) ∙ ap timing_of are.0 in
    hears_one (Pair Mul (Some (sat_sample loud)) None) a.timing a (m w) part l when are.0
    ∙ ap (λ t. made_of (Pair Mul (Some (sat_sample loud)) None) t (m w)) when
    ∙ number_first Mul (sat_sample loud) (m w)
    ∙ ap (λ f. each_value f (m w)) (product_is loud))

pub cue_comes : (code : Code) (D : Trace) → IsLawful code D → (e : ExprId) (env : Env) (names : Names) (old new : HeapState Branch) (s : Sound) → e.0 < length code.nodes → HeapLaws old → AreNamed old names → CueTurn D e env names old new s → Comes (part_is code) old new (item s (λ w. cue_sound env (meaning code e.0 env (bound_in w names))) ∷ [])
cue_comes code D law e env names old new s inside laws named step =
    let f : Whole → sounds.Sound = λ w. meaning code e.0 env (bound_in w names) in
    let first = law e.0 env names old step.mid step.part step.evaluates inside laws named in
    let second = comes_as (part_is code) old step.cued.mid step.cued.later (λ w. retimed (cue_timing env) (f w)) (λ w. moved env (f w)) [] (λ w. moved_is env (f w))
    (comes_retimed (part_is code) old step.mid step.cued.mid (cue_timing env) step.part step.cued.later f [] (cued_len env) laws first step.cued.places) in
    comes_as (part_is code) old new s (λ w. louder (is_one env.loud) env.loud (moved env (f w))) (λ w. cue_sound env (f w)) [] (λ w. cue_is env (f w))
    (louder_comes (part_is code) old step.cued.mid new (is_one env.loud) env.loud step.cued.later s (λ w. moved env (f w)) laws second step.cued.louder)
