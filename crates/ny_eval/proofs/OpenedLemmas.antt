-- The channels of a program at their beginning.
use Rattle.std.proofs.Common.{◌≡◌, ℕ, zero, suc, ◌+◌, ◌<◌, ◌≤◌, ◌==◌, Bool, true, false, if◌then◌else◌, List, [], ◌∷◌, ◌++◌, map, length, sum, slice_get, slice_index, slice_index_or, Option, None, Some, refl, sym, ap, subst, ◌∙◌, arith, ℤ}
use Rattle.std.proofs.lemmas.Bool.{eqb-true}
use Rattle.std.proofs.lemmas.List.{append_assoc, append-nil}
use Rattle.std.specs.Option.{option_map_or}
use Rattle.ny_num.specs.declared.rate.Rate.{Rate}
use Rattle.ny_num.specs.declared.timing.Timing.{Timing}
use Rattle.ny_num.specs.Sound as sounds
use Rattle.ny_num.specs.Sound.{timing_of}
use Rattle.ny_check.specs.Code.{Code}
use Rattle.ny_check.specs.Channels.{channels}
use Rattle.ny_heap.specs.Heap.{Node, HeapState, node_at, list_of}
use Rattle.ny_heap.specs.Means.{Whole, Means}
use Rattle.ny_heap.specs.Reach.{HeapLaws}
use Rattle.ny_heap.specs.Steps.{IsHeldSound}
use Rattle.ny_heap.specs.declared.sound.Sound.{Sound}
use Rattle.ny_hands.specs.declared.branch.Branch.{Branch}
use Rattle.ny_hands.specs.Frames.{part_is}
use Rattle.ny_hands.specs.Hands.{Item, sounds_in, Hand, Comes, Are, AllBegin, Later, marks_at, mark_in, mark_of, marks_of}
use Rattle.ny_hands.proofs.OptionLemmas.{none_some, some_same}
use Rattle.ny_hands.proofs.BeforeLemmas.{some_mark}
use Rattle.ny_hands.proofs.HandLemmas.{hand_turned, mark_here, marks_there}
use Rattle.ny_hands.proofs.HeldLemmas.{hand_held}
use Rattle.ny_hands.proofs.ComingLemmas.{timing_begin}
use Rattle.ny_walk.specs.Below.{IsSettled}
use Rattle.ny_eval.specs.Opened.{IsEmpty, AreOpened, zeros}
use Rattle.ny_eval.specs.Playing.{IsPulled, IsChannel, AreApart, AreAlone}
use Rattle.ny_eval.specs.Ready.{IsReady}
use Rattle.ny_eval.proofs.FreshLemmas.{IsFresh, AllFresh}

no_lists : Whole
no_lists = record { samples = λ v. []; owed = λ v. [] }

len_of : (t : Timing) (m : sounds.Sound) → timing_of m ≡ t → t.len ≡ length m.samples
unfolding timing_of
len_of t m is = sym (ap (λ (u : Timing). u.len) is)

sum_one : (xs : List ℕ) → length xs ≡ 1 → slice_index xs 0 ≡ 1 → sum xs ≡ 1
sum_one [] len first = absurd (omega (arith, len))
sum_one (x ∷ []) len first = omega (arith, first)
sum_one (x ∷ y ∷ xs) len first = absurd (omega (arith, len))

-- ---- sounds in hand by their places

abbrev placed : List Sound → ℕ → Sound → Type 0
placed ss c s = slice_get (map Some ss) c ≡ Some (Some s)

same_sound : (s t : Sound) → Some (Some s) ≡ Some (Some t) → s ≡ t
same_sound s t e = some_same s t (some_same (Some s) (Some t) e)

never_placed : (s : Sound) → None ≡ Some (Some s) → ⊥
never_placed s e = cc

-- a sound has its mark
mark_counted : (h : HeapState Branch) (ss : List Sound) (c : ℕ) (s : Sound) (n : ℕ) → placed ss c s → list_of s ≡ Some n → 1 ≤ marks_of ss n 0
mark_counted h [] c s n at of = absurd (never_placed s at)
mark_counted h (x ∷ xs) zero s n at of = omega (arith, mark_here h x n (ap (λ (q : Sound). list_of q) (same_sound x s at) ∙ of))
mark_counted h (x ∷ xs) (suc c) s n at of = omega (arith, mark_counted h xs c s n at of)

-- two with the same list are one where there is one mark
once_apart : (h : HeapState Branch) (ss : List Sound) (n : ℕ) → marks_of ss n 0 ≤ 1 → (c d : ℕ) (s t : Sound) → placed ss c s → placed ss d t → list_of s ≡ Some n → list_of t ≡ Some n → c ≡ d
once_apart h [] n one c d s t p q of also = absurd (never_placed s p)
once_apart h (x ∷ xs) n one zero zero s t p q of also = refl
once_apart h (x ∷ xs) n one zero (suc d) s t p q of also =
    absurd (omega (arith, one, mark_here h x n (ap (λ (q : Sound). list_of q) (same_sound x s p) ∙ of), mark_counted h xs d t n q also))
once_apart h (x ∷ xs) n one (suc c) zero s t p q of also =
    absurd (omega (arith, one, mark_here h x n (ap (λ (q : Sound). list_of q) (same_sound x t q) ∙ also), mark_counted h xs c s n p of))
once_apart h (x ∷ xs) n one (suc c) (suc d) s t p q of also = ap (λ k. suc k) (once_apart h xs n (behind (mark_of x n 0) (marks_of xs n 0) one) c d s t p q of also)
  where
    behind : (m k : ℕ) → m + k ≤ 1 → k ≤ 1
    behind m k le = omega (arith, le)

read_by : (o : Option ℕ) (v j : ℕ) → 0 < mark_in o v j → o ≡ Some v
read_by None v j e = absurd (omega (arith, e))
read_by (Some n) v j e = by_number (n == v) refl e
  where
    by_number : (b : Bool) → (n == v) ≡ b → 0 < (if b then (if j == 0 then 1 else 0) else 0) → Some n ≡ Some v
    by_number true is e = ap Some (eqb-true n v is)
    by_number false is e = absurd (omega (arith, e))

-- a mark is that of one of these
marked_by : (ss : List Sound) (v j : ℕ) → 0 < marks_of ss v j → (c : ℕ) × (s : Sound) × placed ss c s × (list_of s ≡ Some v)
marked_by [] v j some = absurd (omega (arith, some))
marked_by (x ∷ xs) v j some = by_mark (λ more. marked_by xs v j more) (mark_of x v j) refl
  where
    by_mark : (0 < marks_of xs v j → (c : ℕ) × (s : Sound) × placed xs c s × (list_of s ≡ Some v)) → (m : ℕ) → mark_of x v j ≡ m → (c : ℕ) × (s : Sound) × placed (x ∷ xs) c s × (list_of s ≡ Some v)
    by_mark later zero e = let rest = later (omega (arith, some, e)) in (suc rest.0, rest.1, rest.2, rest.3)
    by_mark later (suc m) e = (zero, x, refl, read_by (list_of x) v j (omega (arith, e)))

fresh_at : (h : HeapState Branch) (ss : List Sound) → AllFresh h ss → (c : ℕ) (s : Sound) (n : ℕ) → placed ss c s → list_of s ≡ Some n → IsFresh h s n
fresh_at h [] all c s n at of = absurd (never_placed s at)
fresh_at h (x ∷ xs) all zero s n at of = let same = same_sound x s at in subst (λ (q : Sound). IsFresh h q n) same (all.0 n (ap (λ (q : Sound). list_of q) same ∙ of))
fresh_at h (x ∷ xs) all (suc c) s n at of = fresh_at h xs all.1 c s n at of

-- ---- each is held

abbrev AreHeldSounds : HeapState Branch → List Sound → Type 0
AreHeldSounds h [] = Unit {0}
AreHeldSounds h (s ∷ ss) = IsHeldSound h s × AreHeldSounds h ss

all_held : (old new : HeapState Branch) (ss ts : List Sound) → Hand old new (ss ++ ts) → AreHeldSounds new ss
all_held old new [] ts hand = tt
all_held old new (s ∷ ss) ts hand =
    (hand_held old new s (ss ++ ts) hand, all_held old new ss (ts ++ s ∷ []) (subst (λ xs. Hand old new xs) (append_assoc ss ts (s ∷ [])) (hand_turned old new (s ∷ []) (ss ++ ts) hand)))

-- ---- each is a channel

abbrev AreChannels : HeapState Branch → Whole → List Sound → List (List ℤ) → Type 0
AreChannels h w [] [] = Unit {0}
AreChannels h w [] (xs ∷ xss) = ⊥
AreChannels h w (s ∷ ss) [] = ⊥
AreChannels h w (s ∷ ss) (xs ∷ xss) = IsChannel h w s xs 0 0 × AreChannels h w ss xss

-- what the items are
abbrev meant : Whole → List Item → List sounds.Sound
meant w items = map (λ (i : Item). i.is w) items

abbrev sampled : List sounds.Sound → List (List ℤ)
sampled ms = map (λ (s : sounds.Sound). s.samples) ms

pulled_once : (h : HeapState Branch) (s : Sound) (n : ℕ) → HeapLaws h → IsFresh h s n → (x : Node Branch) → node_at h n ≡ Some x → IsPulled h s 0 n
pulled_once h s n laws fresh x at =
    let w = fresh.whole x at in
    record {
      unit = x;
      there = at;
      shown = w.0;
      done = w.1;
      only = sum_one x.outside (omega (arith, (laws.nodes n x at).marks, w.1)) (sym (marks_there h n x 0 at) ∙ fresh.once);
      top = fresh.top;
    }

module _ (code : Code) (h : HeapState Branch) (laws : HeapLaws h) (w later : Whole) (means : Means (part_is code) h later) where
  are_channels : (items : List Item) → AreHeldSounds h (sounds_in items) → AllBegin h (sounds_in items) → AllFresh h (sounds_in items) → Are w later items → AreChannels h later (sounds_in items) (sampled (meant w items))
  are_channels [] held begin fresh are = tt
  are_channels (i ∷ items) held begin fresh are = (
    record {
      held = held.0;
      len = len_of i.sound.timing (i.is w) (sym (ap timing_of are.0) ∙ timing_begin (part_is code) h later i.sound means begin.0);
      place = begin.0.place ∙ omega arith;
      pulled = λ n is. let x = begin.0.shown n is in pulled_once h i.sound n laws (fresh.0 n is) x.unit x.there;
      samples = ap (λ (x : sounds.Sound). x.samples) are.0;
    },
    are_channels items held.1 begin.1 fresh.1 are.1,
  )

  times_are : (items : List Item) → AllBegin h (sounds_in items) → Are w later items → map (λ (s : Sound). s.timing) (sounds_in items) ≡ map timing_of (meant w items)
  times_are [] begin are = refl
  times_are (i ∷ items) begin are =
      let here : i.sound.timing ≡ timing_of (i.is w) = sym (timing_begin (part_is code) h later i.sound means begin.0) ∙ ap timing_of are.0 in
      let rest = times_are items begin.1 are.1 in
      λ j. here j ∷ rest j

channel_placed : (h : HeapState Branch) (w : Whole) (ss : List Sound) (xss : List (List ℤ)) → AreChannels h w ss xss → (c : ℕ) (s : Sound) → placed ss c s → IsChannel h w s (slice_index_or xss c []) (slice_index (zeros ss) c) (slice_index (zeros ss) c)
channel_placed h w [] [] all c s at = absurd (never_placed s at)
channel_placed h w [] (xs ∷ xss) all c s at = absurd all
channel_placed h w (x ∷ ss) [] all c s at = absurd all
channel_placed h w (x ∷ ss) (xs ∷ xss) all zero s at = subst (λ (q : Sound). IsChannel h w q xs 0 0) (same_sound x s at) all.0
channel_placed h w (x ∷ ss) (xs ∷ xss) all (suc c) s at = channel_placed h w ss xss all.1 c s at

-- ---- their numbers

count_somes : (h : HeapState Branch) (w : Whole) (ss : List Sound) (xss : List (List ℤ)) → AreChannels h w ss xss → length (map Some ss) ≡ length xss
count_somes h w [] [] all = refl
count_somes h w [] (xs ∷ xss) all = absurd all
count_somes h w (x ∷ ss) [] all = absurd all
count_somes h w (x ∷ ss) (xs ∷ xss) all = ap (λ k. suc k) (count_somes h w ss xss all.1)

count_zeros : (h : HeapState Branch) (w : Whole) (ss : List Sound) (xss : List (List ℤ)) → AreChannels h w ss xss → length (zeros ss) ≡ length xss
count_zeros h w [] [] all = refl
count_zeros h w [] (xs ∷ xss) all = absurd all
count_zeros h w (x ∷ ss) [] all = absurd all
count_zeros h w (x ∷ ss) (xs ∷ xss) all = ap (λ k. suc k) (count_zeros h w ss xss all.1)

-- ---- all of it

module _ (code : Code) (rate : Rate) (old new : HeapState Branch) (items : List Item) (empty : IsEmpty old) (comes : Comes (part_is code) old new items) (settled : IsSettled new) (ready : IsReady code new) (fresh : AllFresh new (sounds_in items)) (are : (w : Whole) → map (λ (i : Item). i.is w) items ≡ channels code rate) where
  none_before : (v j : ℕ) → marks_at old v j ≡ 0
  none_before v j = ap (λ o. option_map_or (λ (x : Node Branch). slice_index x.outside j) o 0) (empty.none v)

  later : (l : Later (part_is code) old new no_lists) × Are no_lists l.later items
  later = comes.means no_lists (λ v x at. absurd (none_some (node_at old v) x (empty.none v) at))

  channels_are : AreChannels new later.0.later (sounds_in items) (sampled (channels code rate))
  channels_are =
      subst (λ ms. AreChannels new later.0.later (sounds_in items) (sampled ms)) (are no_lists)
      (are_channels code new comes.hand.laws no_lists later.0.later later.0.means items (all_held old new (sounds_in items) [] (subst (λ xs. Hand old new xs) (sym (append-nil (sounds_in items))) comes.hand)) comes.hand.begin fresh later.1)

  apart : AreApart (map Some (sounds_in items))
  apart c d s t n p q of also =
      once_apart new (sounds_in items) n (omega (arith, comes.hand.marks n 0, none_before n 0, (fresh_at new (sounds_in items) fresh c s n p of).once)) c d s t p q of also

  alone : AreAlone new (map Some (sounds_in items))
  alone v x at some =
      let mark = some_mark x.outside some in
      marked_by (sounds_in items) v mark.0 (omega (arith, mark.1, marks_there new v x mark.0 at, comes.hand.marks v mark.0, none_before v mark.0))

  opened : AreOpened code rate new (sounds_in items)
  opened = record {
    timings = times_are code new comes.hand.laws no_lists later.0.later later.0.means items comes.hand.begin later.1 ∙ ap (map timing_of) (are no_lists);
    plays = record {
      laws = comes.hand.laws;
      settled = settled;
      ready = ready;
      whole = later.0.later;
      means = later.0.means;
      count = count_somes new later.0.later (sounds_in items) (sampled (channels code rate)) channels_are;
      count_pulls = count_zeros new later.0.later (sounds_in items) (sampled (channels code rate)) channels_are;
      count_filled = count_zeros new later.0.later (sounds_in items) (sampled (channels code rate)) channels_are;
      each = channel_placed new later.0.later (sounds_in items) (sampled (channels code rate)) channels_are;
      apart = apart;
      alone = alone;
    };
  }

pub are_opened : (code : Code) (rate : Rate) (old new : HeapState Branch) (items : List Item) (ss : List Sound) → IsEmpty old → Comes (part_is code) old new items → IsSettled new → IsReady code new → AllFresh new (sounds_in items) → ((w : Whole) → map (λ (i : Item). i.is w) items ≡ channels code rate) → sounds_in items ≡ ss → AreOpened code rate new ss
are_opened code rate old new items ss empty comes settled ready fresh are in_hand = subst (λ xs. AreOpened code rate new xs) in_hand (opened code rate old new items empty comes settled ready fresh are)
