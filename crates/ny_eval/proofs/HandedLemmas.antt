-- Sounds that a heap handed out: they are held while a part is evaluated, and given up one after another.
use Rattle.std.proofs.Common.{◌≡◌, ◌≢◌, ◌⊎◌, inl, inr, ℕ, ◌+◌, ◌<◌, ◌≤◌, nat_eq, true, false, cond, List, [], ◌∷◌, ◌++◌, slice_index, Option, None, Some, Result, Ok, Err, IfOk, OnErr, refl, sym, ap, subst, ◌∙◌, arith}
use Rattle.std.proofs.lemmas.Bool.Decides.{eqb_tells}
use Rattle.std.proofs.lemmas.List.{append-nil}
use Rattle.ny_resolve.specs.declared.term.NameId.{NameId}
use Rattle.ny_check.specs.declared.value.Value.{Value}
use Rattle.ny_heap.specs.declared.sound.Sound.{Sound}
use Rattle.ny_heap.specs.Heap.{HeapState, node_at, list_of, place_of, stands_in}
use Rattle.ny_heap.specs.Reach.{HeapLaws}
use Rattle.ny_heap.specs.Steps.{IsHeldAt, IsHeldSound, AreHeld, without_sounds}
use Rattle.ny_hands.specs.Calls.{Releases, ReleasesAll}
use Rattle.ny_hands.specs.Frames.{Names, AllHeld, sounds_among}
use Rattle.ny_hands.specs.Hands.{marks_at, mark_in, mark_of, marks_of, AllBegin, Hand}
use Rattle.ny_hands.proofs.HeapLemmas.{stands_first, reached_stays}
use Rattle.ny_hands.proofs.MarkLemmas.{sane, AreLike, alike_sane, all_kept, spent_like, spent_all}
use Rattle.ny_hands.proofs.HandLemmas.{marks_append, begin_first, mark_here, marks_there, mark_reaches, trimmed_marks, are_held}
use Rattle.ny_hands.proofs.HeldLemmas.{held_among, releases_more}
use Rattle.ny_trace.specs.Evaluates.{sounds_of_values}
use Rattle.ny_trace.proofs.LeftLemmas.{held_begin, like_from}
use Rattle.ny_eval.proofs.FrameLemmas.{first_among}

-- each is at its beginning, and as many sounds in callers' hands stand in each block as there are of these, or more
pub record AreCounted {B : Type 0} (h : HeapState B) (ss : List Sound) : Type 0 where
  pub laws : HeapLaws h
  pub begin : AllBegin h ss
  pub marks : (v j : ℕ) → marks_of ss v j ≤ marks_at h v j

-- ---- held sounds are counted

mark_counted : {B : Type 0} (h : HeapState B) (s : Sound) → 0 < h.block → place_of s ≡ 0 → IsHeldSound h s → (v j : ℕ) → mark_of s v j ≤ marks_at h v j
mark_counted {B} h s some place held v j = by_list (list_of s) refl held.1
  where
    first_mark : (n : ℕ) → IsHeldAt h s (Some n) → n ≡ v → 0 < marks_at h v 0
    first_mark n c same =
        let first : stands_in h.block c.unit.timing.len (place_of s) ≡ 0 = ap (stands_in h.block c.unit.timing.len) place ∙ stands_first h.block c.unit.timing.len some (omega (arith, c.some, c.visible)) in
        let mark : 0 < slice_index c.unit.outside 0 = subst (λ j. 0 < slice_index c.unit.outside j) first c.stands in
        omega (arith, mark, marks_there h v c.unit 0 (ap (node_at h) (sym same) ∙ c.there))

    by_place : (n : ℕ) → nat_eq n v ≡ true → 0 < marks_at h v 0 → ((nat_eq j 0 ≡ true) × (j ≡ 0)) ⊎ ((nat_eq j 0 ≡ false) × (j ≢ 0)) → mark_in (Some n) v j ≤ marks_at h v j
    by_place n test one (inl first) =
        let is : mark_in (Some n) v j ≡ 1 = (λ i. cond (test i) (cond (first.0 i) 1 0) 0) in
        subst (λ k. mark_in (Some n) v j ≤ marks_at h v k) (sym first.1) (omega (arith, is, one))
    by_place n test one (inr later) =
        let is : mark_in (Some n) v j ≡ 0 = (λ i. cond (test i) (cond (later.0 i) 1 0) 0) in
        omega (arith, is)

    by_same : (n : ℕ) → IsHeldAt h s (Some n) → ((nat_eq n v ≡ true) × (n ≡ v)) ⊎ ((nat_eq n v ≡ false) × (n ≢ v)) → mark_in (Some n) v j ≤ marks_at h v j
    by_same n c (inl same) = by_place n same.0 (first_mark n c same.1) (eqb_tells j 0)
    by_same n c (inr other) =
        let is : mark_in (Some n) v j ≡ 0 = ap (λ b. cond b (cond (nat_eq j 0) 1 0) 0) other.0 in
        omega (arith, is)

    by_list : (o : Option ℕ) → list_of s ≡ o → IsHeldAt h s o → mark_of s v j ≤ marks_at h v j
    by_list None e none = omega (arith, ap (λ o. mark_in o v j) e)
    by_list (Some n) e c = subst (λ o. mark_in o v j ≤ marks_at h v j) (sym e) (by_same n c (eqb_tells n v))

pub counted : {B : Type 0} (h : HeapState B) (ss : List Sound) → HeapLaws h → AreHeld h ss → AreCounted h ss
counted h ss laws held = record { laws = laws; begin = held_begin h ss held; marks = each ss held }
  where
    each : (ss : List Sound) → AreHeld h ss → (v j : ℕ) → marks_of ss v j ≤ marks_at h v j
    each [] held v j = omega arith
    each (s ∷ ss) held v j =
        let like = spent_like h ss in
        omega (arith, spent_all h ss (sane h laws) (held_begin h ss held.2) (each ss held.2) v j, mark_counted (without_sounds h ss) s (alike_sane h (without_sounds h ss) like (sane h laws)).block held.0 held.1 v j)

-- ---- and those that are counted are held

module _ {B : Type 0} (h : HeapState B) where
  in_hand : (ss : List Sound) → AreCounted h ss → Hand (without_sounds h ss) h (ss ++ [])
  in_hand ss c =
      let like = spent_like h ss in
      subst (λ zs. Hand (without_sounds h ss) h zs) (sym (append-nil ss)) (record {
        laws = c.laws;
        counts = record { pool = sym like.counts.pool; block = sym like.counts.block; fills = sym like.counts.fills; peak = sym like.counts.peak };
        kept = like_from h (without_sounds h ss) like;
        marks = λ v j. sym (spent_all h ss (sane h c.laws) c.begin c.marks v j);
        begin = c.begin;
      })

  pub still_held : (ss : List Sound) → AreCounted h ss → AreHeld h ss
  still_held ss c = are_held (without_sounds h ss) h ss [] (in_hand ss c)

  pub names_held : (names : Names) → AreCounted h (sounds_among names) → AllHeld h names
  names_held names c = held_among (without_sounds h (sounds_among names)) h names [] (in_hand (sounds_among names) c)

  counted_first : (ss others : List Sound) → AreCounted h (ss ++ others) → AreCounted h ss
  counted_first ss others c = record { laws = c.laws; begin = begin_first h ss others c.begin; marks = λ v j. omega (arith, c.marks v j, marks_append ss others v j) }

-- while others come into hand
pub counted_later : {B : Type 0} (old new : HeapState B) (ss others : List Sound) → AreCounted old ss → Hand old new others → AreCounted new ss
counted_later old new ss others c hand = record { laws = hand.laws; begin = all_kept old new hand.kept ss c.begin; marks = λ v j. omega (arith, c.marks v j, hand.marks v j) }

-- whether one came or none
pub counted_both : {B E : Type 0} (old new : HeapState B) (ss : List Sound) (r : Result Sound E) → AreCounted old ss → IfOk r (λ s. Hand old new (s ∷ [])) → OnErr r (Hand old new []) → AreCounted new ss
counted_both old new ss (Ok s) c hand none = counted_later old new ss (s ∷ []) c hand
counted_both old new ss (Err e) c hand none = counted_later old new ss [] c none

-- ---- one of them is given up

counted_released : {B : Type 0} (old new : HeapState B) (a : Sound) (ss : List Sound) → AreCounted old (a ∷ ss) → Releases old new a → AreCounted new ss
counted_released {B} old new a ss c step = record {
  laws = step.laws;
  begin = stay ss (all_kept old (without_sounds old (a ∷ [])) like.to ss c.begin.1) (λ v j. omega (arith, all v j, c.marks v j));
  marks = λ v j. omega (arith, trimmed_marks (without_sounds old (a ∷ [])) new step.trimmed v j, all v j, c.marks v j);
}
  where
    like : AreLike old (without_sounds old (a ∷ []))
    like = spent_like old (a ∷ [])

    all : (v j : ℕ) → marks_at (without_sounds old (a ∷ [])) v j + marks_of (a ∷ []) v j ≡ marks_at old v j
    all = spent_all old (a ∷ []) (sane old c.laws) (c.begin.0, tt) (λ v j. omega (arith, c.marks v j))

    stay : (ss : List Sound) → AllBegin (without_sounds old (a ∷ [])) ss → ((v j : ℕ) → marks_of ss v j ≤ marks_at (without_sounds old (a ∷ [])) v j) → AllBegin new ss
    stay [] b enough = tt
    stay (s ∷ ss) b enough = (
      record {
        bounds = b.0.bounds;
        place = b.0.place;
        empty = b.0.empty;
        shown = λ n is.
            let x = b.0.shown n is in
            let some : 0 < slice_index x.unit.outside 0 = omega (arith, enough n 0, mark_here (without_sounds old (a ∷ [])) s n is, marks_there (without_sounds old (a ∷ [])) n x.unit 0 x.there) in
            record { unit = x.unit; there = reached_stays (without_sounds old (a ∷ [])) new step.trimmed n x.unit x.there (mark_reaches (without_sounds old (a ∷ [])) n x.unit 0 x.there some); some = x.some; visible = x.visible };
      },
      stay ss b.1 (λ v j. omega (arith, enough v j)),
    )

counted_released_all : {B : Type 0} (old new : HeapState B) (ss others : List Sound) → AreCounted old (ss ++ others) → ReleasesAll old new ss → AreCounted new others
counted_released_all {B} old new [] others c step = subst (λ (h : HeapState B). AreCounted h others) step c
counted_released_all old new (a ∷ ss) others c step = counted_released_all step.0 new ss others (counted_released old step.0 a (ss ++ others) c step.1) step.2

-- the first of the sounds of some names
module _ {B : Type 0} (old : HeapState B) (names rest : Names) (b : NameId × Value Sound) (list : names ≡ b ∷ rest) where
  given : sounds_among names ≡ sounds_of_values (b.1 ∷ []) ++ sounds_among rest
  given = ap sounds_among list ∙ first_among b rest

  pub first_held : AreCounted old (sounds_among names) → AreHeld old (sounds_of_values (b.1 ∷ []))
  first_held c = still_held old (sounds_of_values (b.1 ∷ [])) (counted_first old (sounds_of_values (b.1 ∷ [])) (sounds_among rest) (subst (λ ss. AreCounted old ss) given c))

  pub rest_counted : (new : HeapState B) → AreCounted old (sounds_among names) → ReleasesAll old new (sounds_of_values (b.1 ∷ [])) → AreCounted new (sounds_among rest)
  rest_counted new c step = counted_released_all old new (sounds_of_values (b.1 ∷ [])) (sounds_among rest) (subst (λ ss. AreCounted old ss) given c) step

  pub released_then : (mid new : HeapState B) → ReleasesAll old mid (sounds_of_values (b.1 ∷ [])) → ReleasesAll mid new (sounds_among rest) → ReleasesAll old new (sounds_among names)
  released_then mid new first second = subst (λ ss. ReleasesAll old new ss) (sym given) (releases_more old mid new (sounds_of_values (b.1 ∷ [])) (sounds_among rest) first second)

-- ---- all of them are

pub none_released : {B : Type 0} (h : HeapState B) (names : Names) → names ≡ [] → ReleasesAll h h (sounds_among names)
none_released h names none = subst (λ (ns : Names). ReleasesAll h h (sounds_among ns)) (sym none) refl

pub released_size : {B : Type 0} (old new : HeapState B) (ss : List Sound) → ReleasesAll old new ss → (new.pool ≡ old.pool) × (new.block ≡ old.block)
released_size {B} old new [] step = (ap (λ (h : HeapState B). h.pool) (sym step), ap (λ (h : HeapState B). h.block) (sym step))
released_size old new (a ∷ ss) step =
    let rest = released_size step.0 new ss step.2 in
    let like = spent_like old (a ∷ []) in
    (rest.0 ∙ step.1.trimmed.size.pool ∙ like.counts.pool, rest.1 ∙ step.1.trimmed.size.block ∙ like.counts.block)
