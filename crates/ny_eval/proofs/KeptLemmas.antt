-- The names of a branch over the sounds that it kept, one after another.
use Rattle.std.proofs.Common.{◌≡◌, ℕ, zero, suc, ◌+◌, ◌<◌, ◌≤◌, List, [], ◌∷◌, ◌++◌, length, get_or, drop, refl, sym, ap, subst, ◌∙◌, arith}
use Rattle.std.proofs.lemmas.List.{append_assoc, append-nil, drop_more, drop_all}
use Rattle.ny_num.specs.declared.rate.Rate.{Rate}
use Rattle.ny_resolve.specs.declared.term.NameId.{NameId}
use Rattle.ny_check.specs.declared.value.Value.{Value}
use Rattle.ny_check.specs.declared.value.Value.TheVariants.{Number, Sound as SoundOf}
use Rattle.ny_heap.specs.declared.sound.Sound.{Sound}
use Rattle.ny_hands.specs.Frames.{Names, sounds_among}
use Rattle.ny_trace.specs.Reveals.{no_sound, framed, frame}
use Rattle.ny_walk.specs.Parts.{IsKept, AreKept}
use Rattle.ny_eval.specs.Revealed.{HasFirst, IsFramed}

-- ---- places

pub same_name : (names : List (NameId × Value ℕ)) (i : ℕ) (a b : NameId × Value ℕ) → i < length names → get_or names i a ≡ get_or names i b
same_name [] i a b within = absurd (omega (arith, within))
same_name (n ∷ ns) zero a b within = refl
same_name (n ∷ ns) (suc i) a b within = same_name ns i a b (omega (arith, within))

kept_within : (bs : List (NameId × Value ℕ)) (k n : ℕ) → AreKept k bs n → k ≤ n
kept_within [] k n kept = omega (arith, kept)
kept_within ((x, Number v) ∷ bs) k n kept = kept_within bs k n kept
kept_within ((x, SoundOf j) ∷ bs) k n kept = let low = kept_within bs (suc k) n kept.1 in omega (arith, low)

some_left : (ss : List Sound) (k : ℕ) → k < length ss → 0 < length (drop k ss)
some_left [] k less = absurd (omega (arith, less))
some_left (s ∷ ss) zero less = omega arith
some_left (s ∷ ss) (suc k) less = some_left ss k (omega (arith, less))

first_left : (ss : List Sound) (k : ℕ) (s d : Sound) (rest : List Sound) → drop k ss ≡ s ∷ rest → (get_or ss k d ≡ s) × (drop (suc k) ss ≡ rest)
first_left [] zero s d rest is = cc
first_left [] (suc k) s d rest is = cc
first_left (x ∷ xs) zero s d rest is = (head x s xs rest is, tail x s xs rest is)
  where
    head : (a b : Sound) (ps qs : List Sound) → a ∷ ps ≡ b ∷ qs → a ≡ b
    head a b ps qs e = cc

    tail : (a b : Sound) (ps qs : List Sound) → a ∷ ps ≡ b ∷ qs → ps ≡ qs
    tail a b ps qs e = cc
first_left (x ∷ xs) (suc k) s d rest is = first_left xs k s d rest is

-- ---- the sounds among the names are those that were kept

among_kept : (r : Rate) (ss : List Sound) (bs : List (NameId × Value ℕ)) (k : ℕ) → AreKept k bs (length ss) → sounds_among (frame r ss bs) ≡ drop k ss
among_kept r ss [] k kept = sym (drop_all k ss (omega (arith, kept)))
among_kept r ss ((x, Number v) ∷ bs) k kept = among_kept r ss bs k kept
among_kept r ss ((x, SoundOf j) ∷ bs) k kept =
    let low = kept_within bs (suc k) (length ss) kept.1 in
    let next : suc k ≡ k + 1 = omega arith in
    ap (λ i. get_or ss i (no_sound r) ∷ sounds_among (frame r ss bs)) kept.0
    ∙ (ap (λ rest. get_or ss k (no_sound r) ∷ rest) (among_kept r ss bs (suc k) kept.1 ∙ ap (λ i. drop i ss) next)
    ∙ sym (drop_more ss k (no_sound r) (omega (arith, low))))

pub frame_among : (r : Rate) (ss : List Sound) (bs : List (NameId × Value ℕ)) → AreKept 0 bs (length ss) → sounds_among (frame r ss bs) ≡ ss
frame_among r ss bs kept = among_kept r ss bs 0 kept

-- ---- name by name

-- the first i names are framed, and these sounds are left for the others
pub record FramedSoFar (names : List (NameId × Value ℕ)) (ss : List Sound) (i : ℕ) (left : List Sound) (done : Names) : Type 0 where
  pub place : ℕ
  pub kept : AreKept place (drop i names) (length ss)
  pub left_is : left ≡ drop place ss
  pub whole : (r : Rate) → done ++ frame r ss (drop i names) ≡ frame r ss names

pub framed_none : (names : List (NameId × Value ℕ)) (ss left : List Sound) (done : Names) → AreKept 0 names (length ss) → left ≡ ss → done ≡ [] → FramedSoFar names ss 0 left done
framed_none names ss left done kept same none = record { place = 0; kept = kept; left_is = same; whole = λ r. ap (λ (ns : Names). ns ++ frame r ss names) none }

module _ (names : List (NameId × Value ℕ)) (ss : List Sound) (i : ℕ) (left : List Sound) (done : Names) (b other : NameId × Value ℕ) (within : i < length names) (is : b ≡ get_or names i other) (so : FramedSoFar names ss i left done) where
  here : drop i names ≡ b ∷ drop (i + 1) names
  here = drop_more names i other within ∙ ap (λ (q : NameId × Value ℕ). q ∷ drop (i + 1) names) (sym is)

  kept_here : AreKept so.place (b ∷ drop (i + 1) names) (length ss)
  kept_here = subst (λ (qs : List (NameId × Value ℕ)). AreKept so.place qs (length ss)) here so.kept

  whole_here : (r : Rate) → done ++ frame r ss (b ∷ drop (i + 1) names) ≡ frame r ss names
  whole_here r = ap (λ (qs : List (NameId × Value ℕ)). done ++ frame r ss qs) (sym here) ∙ so.whole r

  pub has_first : HasFirst b.1 left
  has_first = by_value b.1 kept_here
    where
      by_value : (v : Value ℕ) → IsKept (λ j. AreKept j (drop (i + 1) names) (length ss)) so.place v → HasFirst v left
      by_value (Number v) kept = tt
      by_value (SoundOf j) kept =
          let low = kept_within (drop (i + 1) names) (suc so.place) (length ss) kept.1 in
          subst (λ (qs : List Sound). 0 < length qs) (sym so.left_is) (some_left ss so.place (omega (arith, low)))

  pub framed_more : (rest : List Sound) (value : Value Sound) (more : Names) → IsFramed b.1 left rest value → more ≡ done ++ (b.0, value) ∷ [] → FramedSoFar names ss (i + 1) rest more
  framed_more rest value more framed_is grown = by_value b.1 kept_here framed_is (λ r. whole_here r)
    where
      put : (r : Rate) (v : Value Sound) → value ≡ v → more ++ frame r ss (drop (i + 1) names) ≡ done ++ (b.0, v) ∷ frame r ss (drop (i + 1) names)
      put r v e =
          ap (λ (ns : Names). ns ++ frame r ss (drop (i + 1) names)) (grown ∙ ap (λ (q : Value Sound). done ++ (b.0, q) ∷ []) e)
          ∙ append_assoc done ((b.0, v) ∷ []) (frame r ss (drop (i + 1) names))

      by_value : (v : Value ℕ) → IsKept (λ j. AreKept j (drop (i + 1) names) (length ss)) so.place v → IsFramed v left rest value → ((r : Rate) → done ++ (b.0, framed r ss v) ∷ frame r ss (drop (i + 1) names) ≡ frame r ss names) → FramedSoFar names ss (i + 1) rest more
      by_value (Number v) kept q whole = record {
        place = so.place;
        kept = kept;
        left_is = q.1 ∙ so.left_is;
        whole = λ r. put r (Number v) q.0 ∙ whole r;
      }
      by_value (SoundOf j) kept q whole = record {
        place = suc so.place;
        kept = kept.1;
        left_is = sym (first_left ss so.place q.0 q.0 rest (sym so.left_is ∙ q.2)).1;
        whole = λ r.
            let at : get_or ss j (no_sound r) ≡ q.0 = ap (λ k. get_or ss k (no_sound r)) kept.0 ∙ (first_left ss so.place q.0 (no_sound r) rest (sym so.left_is ∙ q.2)).0 in
            put r (SoundOf q.0) q.1 ∙ (ap (λ (a : Sound). done ++ (b.0, SoundOf a) ∷ frame r ss (drop (i + 1) names)) (sym at) ∙ whole r);
      }

pub framed_all : (names : List (NameId × Value ℕ)) (ss : List Sound) (i : ℕ) (left : List Sound) (done : Names) → i ≡ length names → FramedSoFar names ss i left done → (r : Rate) → done ≡ frame r ss names
framed_all names ss i left done last so r =
    sym (append-nil done)
    ∙ (ap (λ (qs : List (NameId × Value ℕ)). done ++ frame r ss qs) (sym (ap (λ k. drop k names) last ∙ drop_all (length names) names (omega arith)))
    ∙ so.whole r)
