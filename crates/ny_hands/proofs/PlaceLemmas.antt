-- Sounds that are placed.
use Rattle.std.proofs.Common.{◌≡◌, ℕ, zero, suc, ◌≤◌, true, if◌then◌else◌, nat_lt, List, [], ◌∷◌, take, Option, None, Some, refl, sym, ap, subst, ◌∙◌, arith, ℤ}
use Rattle.ny_num.specs.declared.timing.Timing.{Timing}
use Rattle.ny_num.specs.Sound as sounds
use Rattle.ny_num.specs.Sound.{IsTiming, timing_of, placed, placed_timing, cut_len}
use Rattle.ny_heap.specs.declared.sound.Sound.{Sound}
use Rattle.ny_heap.specs.Heap.{HeapState, list_of, place_of}
use Rattle.ny_heap.specs.Means.{Parts, Whole, Means, sound_in}
use Rattle.ny_heap.specs.Reach.{HeapLaws}
use Rattle.ny_heap.specs.Steps.{without_sound}
use Rattle.ny_hands.proofs.OptionLemmas.{none_some}
use Rattle.ny_hands.proofs.HeapLemmas.{Length, Empty, Long, length_of}
use Rattle.ny_hands.specs.Calls.{Places, retimed}
use Rattle.ny_hands.specs.Frames.{sound_at}
use Rattle.ny_hands.specs.Hands.{mark_in, Begins, Hand, Item, item, sounds_in, Comes}
use Rattle.ny_hands.proofs.HandLemmas.{spend, rests_trimmed}
use Rattle.ny_hands.proofs.ComingLemmas.{comes_as, timing_begin}

pub take_both : {A : Type 0} (n m : ℕ) (xs : List A) → n ≤ m → take n (take m xs) ≡ take n xs
take_both zero m xs le = refl
take_both (suc n) zero xs le = absurd (omega (arith, le))
take_both (suc n) (suc m) [] le = refl
take_both (suc n) (suc m) (x ∷ xs) le = ap (λ rest. x ∷ rest) (take_both n m xs (omega (arith, le)))

take_none : {A : Type 0} (n : ℕ) → take {A = A} n [] ≡ []
take_none zero = refl
take_none (suc n) = refl

pub placed_len : (p : ℕ) (t : Timing) → (placed_timing p t).len ≤ t.len
unfolding placed_timing cut_len
placed_len p t = omega arith

-- ---- in hand

hand_empty : {B : Type 0} (old new : HeapState B) (s : Sound) (hand : List Sound) → list_of s ≡ None → s.timing.len ≡ 0 → IsTiming s.timing → place_of s ≡ 0 → Hand old new hand → Hand old new (s ∷ hand)
hand_empty old new s hand none zero_len bounds place q = record {
  laws = q.laws;
  counts = q.counts;
  kept = q.kept;
  marks = λ v j. omega (arith, q.marks v j, ap (λ o. mark_in o v j) none);
  begin = (record { bounds = bounds; place = place; empty = λ e. zero_len; shown = λ n is. absurd (none_some (list_of s) n none is) }, q.begin);
}

pub hand_placed : {B : Type 0} (old mid new : HeapState B) (f : Timing → Timing) (a s : Sound) (hand : List Sound) → ((t : Timing) → (f t).len ≤ t.len) → HeapLaws old → Hand old mid (a ∷ hand) → Places mid new f a s → Hand old new (s ∷ hand)
hand_placed {B} old mid new f a s hand shorter laws c step = by_length (length_of s.timing)
  where
    le : s.timing.len ≤ a.timing.len
    le = omega (arith, shorter a.timing, ap (λ (t : Timing). t.len) step.timing)

    same_list : nat_lt 0 s.timing.len ≡ true → list_of s ≡ list_of a
    same_list e = step.list ∙ ap (λ b. if b then list_of a else None) e

    by_length : Length s.timing → Hand old new (s ∷ hand)
    by_length (Empty e none) =
        hand_empty old new s hand (step.list ∙ ap (λ b. if b then list_of a else None) none) e step.bounds step.begins
        (rests_trimmed old (without_sound mid a) new hand laws step.laws (spend old mid (a ∷ []) hand c) (step.all e))
    by_length (Long e some) = subst (λ (h : HeapState B). Hand old h (s ∷ hand)) (sym (step.some e)) (record {
      laws = c.laws;
      counts = c.counts;
      kept = c.kept;
      marks = λ v j. omega (arith, c.marks v j, ap (λ o. mark_in o v j) (same_list some));
      begin = (
        record {
          bounds = step.bounds;
          place = step.begins;
          empty = λ none. omega (arith, le, c.begin.0.empty (sym (same_list some) ∙ none));
          shown = λ n is. let x = c.begin.0.shown n (sym (same_list some) ∙ is) in record { unit = x.unit; there = x.there; some = e; visible = omega (arith, le, x.visible) };
        },
        c.begin.1,
      );
    })

-- ---- what they are

abbrev samples_in : (ℕ → List ℤ) → Option ℕ → ℕ → List ℤ
samples_in samples None len = []
samples_in samples (Some n) len = take len (samples n)

abbrev remade : Timing → List ℤ → sounds.Sound
remade t xs = record { rate = t.rate; start = t.start; stop = t.stop; samples = xs }

sound_is : (samples : ℕ → List ℤ) (o : Option ℕ) (t : Timing) → sound_in samples o t ≡ remade t (samples_in samples o t.len)
sound_is samples None t = refl
sound_is samples (Some n) t = refl

retimed_of : (f : Timing → Timing) (s : sounds.Sound) (t : Timing) → timing_of s ≡ t → retimed f s ≡ remade (f t) (take (f t).len s.samples)
retimed_of f s t when = λ i. remade (f (when i)) (take (f (when i)).len s.samples)

pub placed_is : {B : Type 0} (part : Parts B) (old new : HeapState B) (l : Whole) (f : Timing → Timing) (a s : Sound) → ((t : Timing) → (f t).len ≤ t.len) → Means part old l → Begins old a → Places old new f a s → sound_at l s ≡ retimed f (sound_at l a)
placed_is {B} part old new l f a s shorter means b step =
    ap (sound_in l.samples (list_of s)) step.timing
    ∙ (sound_is l.samples (list_of s) (f a.timing)
    ∙ (ap (remade (f a.timing)) (cut (list_of a) refl (length_of s.timing))
    ∙ sym (retimed_of f (sound_at l a) a.timing (timing_begin part old l a means b))))
  where
    len : s.timing.len ≡ (f a.timing).len
    len = ap (λ (t : Timing). t.len) step.timing

    samples_are : (o : Option ℕ) → list_of a ≡ o → (sound_at l a).samples ≡ samples_in l.samples o a.timing.len
    samples_are None e = ap (λ o. (sound_in l.samples o a.timing).samples) e
    samples_are (Some n) e = ap (λ o. (sound_in l.samples o a.timing).samples) e

    cut : (o : Option ℕ) → list_of a ≡ o → Length s.timing → samples_in l.samples (list_of s) (f a.timing).len ≡ take (f a.timing).len (sound_at l a).samples
    cut o e (Empty zero_len none) =
        ap (λ o. samples_in l.samples o (f a.timing).len) (step.list ∙ ap (λ b. if b then list_of a else None) none)
        ∙ ap (λ n. take n (sound_at l a).samples) (sym zero_len ∙ len)
    cut None e (Long more some) =
        ap (λ o. samples_in l.samples o (f a.timing).len) (step.list ∙ (ap (λ b. if b then list_of a else None) some ∙ e))
        ∙ (sym (take_none (f a.timing).len)
        ∙ ap (take (f a.timing).len) (sym (samples_are None e)))
    cut (Some n) e (Long more some) =
        ap (λ o. samples_in l.samples o (f a.timing).len) (step.list ∙ (ap (λ b. if b then list_of a else None) some ∙ e))
        ∙ (sym (take_both (f a.timing).len a.timing.len (l.samples n) (shorter a.timing))
        ∙ ap (take (f a.timing).len) (sym (samples_are (Some n) e)))

pub comes_retimed : {B : Type 0} (part : Parts B) (old mid new : HeapState B) (f : Timing → Timing) (a s : Sound) (m : Whole → sounds.Sound) (rest : List Item) → ((t : Timing) → (f t).len ≤ t.len) → HeapLaws old → Comes part old mid (item a m ∷ rest) → Places mid new f a s → Comes part old new (item s (λ w. retimed f (m w)) ∷ rest)
comes_retimed {B} part old mid new f a s m rest shorter laws c step = record {
  hand = hand_placed old mid new f a s (sounds_in rest) shorter laws c.hand step;
  means = λ w means. let l = c.means w means in (
    record { later = l.0.later; means = step.keeps part l.0.later l.0.means; extends = l.0.extends; owes = l.0.owes },
    (placed_is part mid new l.0.later f a s shorter l.0.means c.hand.begin.0 step ∙ ap (retimed f) l.1.0, l.1.1),
  );
}

-- ---- at a place

placed_retimed : (p : ℕ) (s : sounds.Sound) → retimed (placed_timing p) s ≡ placed p s
unfolding placed timing_of placed_timing
placed_retimed p s = refl

pub comes_placed : {B : Type 0} (part : Parts B) (old mid new : HeapState B) (p : ℕ) (a s : Sound) (m : Whole → sounds.Sound) (rest : List Item) → HeapLaws old → Comes part old mid (item a m ∷ rest) → Places mid new (placed_timing p) a s → Comes part old new (item s (λ w. placed p (m w)) ∷ rest)
comes_placed part old mid new p a s m rest laws c step =
    comes_as part old new s (λ w. retimed (placed_timing p) (m w)) (λ w. placed p (m w)) rest (λ w. placed_retimed p (m w))
    (comes_retimed part old mid new (placed_timing p) a s m rest (placed_len p) laws c step)
