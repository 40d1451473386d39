-- What a call does for sounds in hand: it can spend them, it gives them up, or one comes in the place of another.
use Rattle.std.proofs.Common.{◌≡◌, List, [], ◌∷◌, sym, subst}
use Rattle.std.proofs.lemmas.List.{append-nil}
use Rattle.ny_num.specs.Sound.{IsTiming}
use Rattle.ny_num.specs.declared.rate.Rate.{Rate}
use Rattle.ny_num.specs.declared.timing.Timing.{Timing}
use Rattle.ny_num.specs.Resampling.{other_rate_timing}
use Rattle.ny_heap.specs.declared.make.Make.TheVariants.{Resample}
use Rattle.ny_heap.specs.declared.sound.Sound.{Sound}
use Rattle.ny_heap.specs.Heap.{Kind, Made, HeapState}
use Rattle.ny_heap.specs.Reach.{HeapLaws, IsTrimmed}
use Rattle.ny_heap.specs.Steps.{AreHeld, Makes, MakesMeaning, without_sounds}
use Rattle.ny_hands.specs.Calls.{MakesUnit, Brings, Stay, Change}
use Rattle.ny_hands.specs.Hands.{Hand, InHand, GivesUp}
use Rattle.ny_hands.proofs.HandLemmas.{hand_swap, hand_made, spend, rests_trimmed, are_held}

-- ---- sounds in hand

pub in_hand_held : {B : Type 0} (h : HeapState B) (ss : List Sound) → InHand h ss → AreHeld h ss
in_hand_held h ss is = are_held is.before h ss is.others is.hand

pub gives_up_trimmed : {B : Type 0} (old new : HeapState B) (ss ts : List Sound) → ts ≡ ss → HeapLaws new → IsTrimmed (without_sounds old ts) new → GivesUp old new ss
gives_up_trimmed old new ss ts same laws trimmed before others first hand =
    rests_trimmed before (without_sounds old ss) new others first laws (spend before old ss others hand) (subst (λ xs. IsTrimmed (without_sounds old xs) new) same trimmed)

-- a unit over these sounds
pub unit_made : {B : Type 0} (old new : HeapState B) (kind : Kind) (t : Timing) (ss ts : List Sound) (s : Sound) → ts ≡ ss → HeapLaws new → IsTiming t → Makes old new kind t ts [] ts s → MakesMeaning old new kind t ts [] s → MakesUnit old new kind t ss [] ss s
unit_made old new kind t ss ts s same laws bounds makes meaning = subst (λ xs. MakesUnit old new kind t xs [] xs s) same (record { laws = laws; bounds = bounds; makes = makes; meaning = meaning })

-- ---- two sounds

pub hand_brought : {B : Type 0} (before old new : HeapState B) (r : Rate) (a s : Sound) (others : List Sound) → HeapLaws before → Hand before old (a ∷ others) → Brings old new r a s → Hand before new (s ∷ others)
hand_brought {B} before old new r a s others laws hand (Stay step) =
    subst (λ (q : Sound). Hand before new (q ∷ others)) step.same (subst (λ (h : HeapState B). Hand before h (a ∷ others)) step.heap hand)
hand_brought before old new r a s others laws hand (Change step) = hand_made before old new (Made Resample) (other_rate_timing r a.timing) (a ∷ []) [] (a ∷ []) others s laws hand step.made

pub second_in_hand : {B : Type 0} (old new : HeapState B) (r : Rate) (a s b : Sound) → InHand old (a ∷ b ∷ []) → Brings old new r a s → InHand new (b ∷ s ∷ [])
second_in_hand old new r a s b is step = record { before = is.before; others = is.others; laws = is.laws; hand = hand_swap is.before new s b is.others (hand_brought is.before old new r a s (b ∷ is.others) is.laws is.hand step) }

pub one_of_two : {B : Type 0} (h : HeapState B) (a b : Sound) → InHand h (a ∷ b ∷ []) → InHand h (a ∷ [])
one_of_two h a b is = record { before = is.before; others = b ∷ is.others; laws = is.laws; hand = is.hand }

-- what is left once the first was given up
pub left_in_hand : {B : Type 0} (old new : HeapState B) (a b : Sound) → InHand old (a ∷ b ∷ []) → GivesUp old new (a ∷ []) → InHand new (b ∷ [])
left_in_hand old new a b is gives = record { before = is.before; others = is.others; laws = is.laws; hand = gives is.before (b ∷ is.others) is.laws is.hand }

pub gives_up_both : {B : Type 0} (old mid new : HeapState B) (a b : Sound) → GivesUp old mid (a ∷ []) → GivesUp mid new (b ∷ []) → GivesUp old new (a ∷ b ∷ [])
gives_up_both old mid new a b first second before others laws hand = second before others laws (first before (b ∷ others) laws hand)

pub gives_up_brought : {B : Type 0} (old mid new : HeapState B) (r : Rate) (a s b : Sound) → Brings old mid r a s → GivesUp mid new (b ∷ s ∷ []) → GivesUp old new (a ∷ b ∷ [])
gives_up_brought old mid new r a s b step gives before others laws hand =
    gives before others laws (hand_swap before mid s b others (hand_brought before old mid r a s (b ∷ others) laws hand step))

-- ---- one sound

pub brought_in_hand : {B : Type 0} (old new : HeapState B) (r : Rate) (a s : Sound) → InHand old (a ∷ []) → Brings old new r a s → InHand new (s ∷ [])
brought_in_hand old new r a s is step = record { before = is.before; others = is.others; laws = is.laws; hand = hand_brought is.before old new r a s is.others is.laws is.hand step }

pub gives_up_alone : {B : Type 0} (old mid new : HeapState B) (r : Rate) (a s : Sound) → Brings old mid r a s → GivesUp mid new (s ∷ []) → GivesUp old new (a ∷ [])
gives_up_alone old mid new r a s step gives before others laws hand = gives before others laws (hand_brought before old mid r a s others laws hand step)

-- ---- all that came

-- what came into hand is in hand, and can be given up
pub all_in_hand : {B : Type 0} (old new : HeapState B) (ss : List Sound) → HeapLaws old → Hand old new ss → InHand new ss
all_in_hand old new ss laws hand = record { before = old; others = []; laws = laws; hand = subst (λ zs. Hand old new zs) (sym (append-nil ss)) hand }

pub all_given_up : {B : Type 0} (old mid new : HeapState B) (ss : List Sound) → HeapLaws old → Hand old mid ss → GivesUp mid new ss → Hand old new []
all_given_up old mid new ss laws hand gives = gives old [] laws (subst (λ zs. Hand old mid zs) (sym (append-nil ss)) hand)
