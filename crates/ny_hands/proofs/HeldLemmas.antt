-- The sounds that names stand for stay held while others come into hand: what a call of `share` asks.
use Rattle.std.proofs.Common.{◌≡◌, ℕ, ◌+◌, ◌<◌, [], ◌∷◌, ◌++◌, List, slice_index, Option, None, Some, refl, sym, ap, subst, ◌∙◌, arith}
use Rattle.std.proofs.lemmas.List.{append_assoc}
use Rattle.ny_check.specs.declared.value.Value.{Value}
use Rattle.ny_check.specs.declared.value.Value.TheVariants.{Number, Sound as SoundOf}
use Rattle.ny_heap.specs.declared.sound.Sound.{Sound}
use Rattle.ny_heap.specs.Heap.{Node, HeapState, list_of, place_of, stands_in}
use Rattle.ny_heap.specs.Steps.{IsHeldAt, IsHeldSound}
use Rattle.ny_heap.specs.Reach.{HeapLaws}
use Rattle.ny_hands.specs.Calls.{ReleasesAll}
use Rattle.ny_hands.specs.Frames.{Names, IsHeldValue, AllHeld, sounds_among}
use Rattle.ny_hands.specs.Hands.{Begins, Hand, InHand, AreNamed}
use Rattle.ny_hands.proofs.HeapLemmas.{stands_first}
use Rattle.ny_hands.proofs.HandLemmas.{marks_there, mark_here, hand_turned, hand_released_all}

-- ---- held sounds

pub held_begins : {B : Type 0} (h : HeapState B) (s : Sound) → place_of s ≡ 0 → IsHeldSound h s → Begins h s
held_begins h s place held = record {
  bounds = held.0;
  place = place;
  empty = λ none. subst (λ o. IsHeldAt h s o) none held.1;
  shown = λ n is. let c : IsHeldAt h s (Some n) = subst (λ o. IsHeldAt h s o) is held.1 in record { unit = c.unit; there = c.there; some = c.some; visible = c.visible };
}

pub held_later : {B : Type 0} (old new : HeapState B) (hand : List Sound) (s : Sound) → HeapLaws old → Hand old new hand → place_of s ≡ 0 → IsHeldSound old s → IsHeldSound new s
held_later {B} old new hand s laws c place held = (held.0, by_list (list_of s) held.1)
  where
    by_list : (o : Option ℕ) → IsHeldAt old s o → IsHeldAt new s o
    by_list None none = none
    by_list (Some n) q =
        let y = c.kept n q.unit q.there in
        let len = ap (λ (z : Node B). z.timing.len) y.2 in
        let first : stands_in old.block q.unit.timing.len (place_of s) ≡ 0 = ap (stands_in old.block q.unit.timing.len) place ∙ stands_first old.block q.unit.timing.len laws.positive (omega (arith, q.some, q.visible)) in
        let now : stands_in new.block y.0.timing.len (place_of s) ≡ 0 = ap (stands_in new.block y.0.timing.len) place ∙ stands_first new.block y.0.timing.len c.laws.positive (omega (arith, q.some, q.visible, len)) in
        let mark : 0 < slice_index q.unit.outside 0 = subst (λ j. 0 < slice_index q.unit.outside j) first q.stands in
        record {
          unit = y.0;
          there = y.1;
          some = q.some;
          visible = omega (arith, q.visible, len);
          place = omega (arith, place);
          stands = subst (λ j. 0 < slice_index y.0.outside j) (sym now) (omega (arith, mark, c.marks n 0, marks_there old n q.unit 0 q.there, marks_there new n y.0 0 y.1));
        }

-- a sound in hand is held
pub hand_held : {B : Type 0} (old new : HeapState B) (s : Sound) (others : List Sound) → Hand old new (s ∷ others) → IsHeldSound new s
hand_held {B} old new s others c = (c.begin.0.bounds, by_list (list_of s) refl)
  where
    by_list : (o : Option ℕ) → list_of s ≡ o → IsHeldAt new s o
    by_list None e = c.begin.0.empty e
    by_list (Some n) e =
        let x = c.begin.0.shown n e in
        let now : stands_in new.block x.unit.timing.len (place_of s) ≡ 0 = ap (stands_in new.block x.unit.timing.len) c.begin.0.place ∙ stands_first new.block x.unit.timing.len c.laws.positive (omega (arith, x.some, x.visible)) in
        record {
          unit = x.unit;
          there = x.there;
          some = x.some;
          visible = x.visible;
          place = omega (arith, c.begin.0.place);
          stands = subst (λ j. 0 < slice_index x.unit.outside j) (sym now) (omega (arith, c.marks n 0, mark_here new s n e, marks_there new n x.unit 0 x.there));
        }

-- ---- held names

pub names_later : {B : Type 0} (old new : HeapState B) (hand : List Sound) (names : Names) → HeapLaws old → Hand old new hand → AllHeld old names → AllHeld new names
names_later {B} old new hand [] laws c held = tt
names_later {B} old new hand (b ∷ bs) laws c held = (by_value b.1 held.0, names_later old new hand bs laws c held.1)
  where
    by_value : (v : Value Sound) → IsHeldValue old v → IsHeldValue new v
    by_value (Number k) is = tt
    by_value (SoundOf s) is = (is.0, held_later old new hand s laws c is.0 is.1)

pub held_named : {B : Type 0} (h : HeapState B) (names : Names) → AllHeld h names → AreNamed h names
held_named h [] held = tt
held_named h ((x, Number k) ∷ bs) held = (tt, held_named h bs held.1)
held_named h ((x, SoundOf s) ∷ bs) held = (held_begins h s held.0.0 held.0.1, held_named h bs held.1)

pub held_append : {B : Type 0} (h : HeapState B) (ns ms : Names) → AllHeld h ns → AllHeld h ms → AllHeld h (ns ++ ms)
held_append h [] ms p q = q
held_append h (n ∷ ns) ms p q = (p.0, held_append h ns ms p.1 q)

-- the order in which sounds are in hand does not matter: here one stands last
hand_last : {B : Type 0} (old new : HeapState B) (s : Sound) (others : List Sound) → Hand old new (s ∷ others) → Hand old new (others ++ s ∷ [])
hand_last old new s others c = hand_turned old new (s ∷ []) others c

-- names whose sounds are in hand
pub held_among : {B : Type 0} (old new : HeapState B) (names : Names) (others : List Sound) → Hand old new (sounds_among names ++ others) → AllHeld new names
held_among old new [] others c = tt
held_among old new ((x, Number k) ∷ bs) others c = (tt, held_among old new bs others c)
held_among {B} old new ((x, SoundOf s) ∷ bs) others c = (
  (c.begin.0.place, hand_held old new s (sounds_among bs ++ others) c),
  held_among old new bs (others ++ s ∷ []) (subst (λ ss. Hand old new ss) (append_assoc (sounds_among bs) others (s ∷ [])) (hand_last old new s (sounds_among bs ++ others) c)),
)

-- ---- sounds that are given up one after another

pub releases_more : {B : Type 0} (old mid new : HeapState B) (ss ts : List Sound) → ReleasesAll old mid ss → ReleasesAll mid new ts → ReleasesAll old new (ss ++ ts)
releases_more {B} old mid new [] ts first second = subst (λ (h : HeapState B). ReleasesAll h new ts) (sym first) second
releases_more old mid new (s ∷ ss) ts first second = (first.0, first.1, releases_more first.0 mid new ss ts first.2 second)

-- the others are still in hand
pub in_hand_after : {B : Type 0} (old new : HeapState B) (ss ts : List Sound) → InHand old (ss ++ ts) → ReleasesAll old new ss → InHand new ts
in_hand_after {B} old new ss ts is step = record {
  before = is.before;
  others = is.others;
  laws = is.laws;
  hand = hand_released_all is.before old new ss (ts ++ is.others) is.laws (subst (λ zs. Hand is.before old zs) (append_assoc ss ts is.others) is.hand) step;
}

pub in_hand_first : {B : Type 0} (h : HeapState B) (ss ts : List Sound) → InHand h (ss ++ ts) → InHand h ss
in_hand_first {B} h ss ts is = record { before = is.before; others = ts ++ is.others; laws = is.laws; hand = subst (λ zs. Hand is.before h zs) (append_assoc ss ts is.others) is.hand }
