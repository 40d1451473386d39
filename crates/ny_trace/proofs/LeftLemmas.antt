-- What is left of a heap where sounds are given up that its own units held before: what else is reachable.
use Rattle.std.proofs.Common.{◌≡◌, ℕ, zero, suc, ◌+◌, ◌<◌, ◌≤◌, List, [], ◌∷◌, ◌++◌, get_or, slice_get, slice_index, None, Some, refl, sym, ap, subst, ◌∙◌, arith}
use Rattle.ny_heap.specs.declared.sound.Sound.{Sound}
use Rattle.ny_heap.specs.Heap.{Node, HeapState, node_at, list_of, place_of}
use Rattle.ny_heap.specs.Reach.{Uses, Read, Hold, ReadOutside, LeadsIn, IsReachable}
use Rattle.ny_heap.specs.Steps.{IsHeldAt, AreHeld, with_sound, without_sounds}
use Rattle.ny_heap.specs.Revealing.{with_sounds}
use Rattle.ny_hands.specs.Counts.{SameCounts}
use Rattle.ny_hands.specs.Calls.{Releases, ReleasesAll}
use Rattle.ny_hands.specs.Hands.{marks_at, marks_of, Begins, AllBegin, IsLike, Hand}
use Rattle.ny_hands.proofs.OptionLemmas.{same_at}
use Rattle.ny_hands.proofs.HeapLemmas.{reached_stays, counts_more}
use Rattle.ny_hands.proofs.MarkLemmas.{sums_le, IsSane, sane, AreLike, like_more, alike_none, alike_more, alike_sane, begins_kept, all_kept, shared_one, spent_like, spent_all, marked_like}
use Rattle.ny_hands.proofs.HandLemmas.{marks_append, begin_append, mark_here, marks_there, mark_reaches, trimmed_marks}

-- ---- sounds that come into hand from the heap's own

-- a unit that is like another, the other way round
like_back : {B : Type 0} (x y : Node B) → IsLike x y → IsLike y x
like_back {B} x y like = ap (λ (q : Node B). let z : Node B = record q { outside = x.outside } in z) (sym like)

pub like_from : {B : Type 0} (old new : HeapState B) → AreLike old new → (v : ℕ) (y : Node B) → node_at new v ≡ Some y → (x : Node B) × (node_at old v ≡ Some x) × IsLike y x
like_from old new like v y at = let x = like.from v y at in (x.0, x.1, like_back x.0 y x.2)

-- sounds that are held together are each at their beginning
pub held_begin : {B : Type 0} (h : HeapState B) (ss : List Sound) → AreHeld h ss → AllBegin h ss
held_begin h [] held = tt
held_begin {B} h (s ∷ ss) held = (begins_kept (without_sounds h ss) h (like_from h (without_sounds h ss) (spent_like h ss)) s one, held_begin h ss held.2)
  where
    one : Begins (without_sounds h ss) s
    one = record {
      bounds = held.1.0;
      place = held.0;
      empty = λ none. subst (λ o. IsHeldAt (without_sounds h ss) s o) none held.1.1;
      shown = λ n is. let c : IsHeldAt (without_sounds h ss) s (Some n) = subst (λ o. IsHeldAt (without_sounds h ss) s o) is held.1.1 in record { unit = c.unit; there = c.there; some = c.some; visible = c.visible };
    }

one_like : {B : Type 0} (h : HeapState B) (s : Sound) → AreLike h (with_sound h s)
one_like h s = marked_like (λ n. n + 1) h (place_of s) (list_of s)

pub sounds_like : {B : Type 0} (h : HeapState B) (ss : List Sound) → AreLike h (with_sounds h ss)
sounds_like h [] = alike_none h
sounds_like h (s ∷ ss) = alike_more h (with_sound h s) (with_sounds (with_sound h s) ss) (one_like h s) (sounds_like (with_sound h s) ss)

pub sounds_marks : {B : Type 0} (h : HeapState B) (ss : List Sound) → IsSane h → AllBegin h ss → (v j : ℕ) → marks_at (with_sounds h ss) v j ≡ marks_at h v j + marks_of ss v j
sounds_marks h [] sane b v j = omega arith
sounds_marks h (s ∷ ss) sane b v j =
    let like = one_like h s in
    omega (
      arith,
      shared_one h s sane b.0 v j,
      sounds_marks (with_sound h s) ss (alike_sane h (with_sound h s) like sane) (all_kept h (with_sound h s) like.to ss b.1) v j,
    )

-- ---- what stays reachable

leads_on : {B : Type 0} (h : HeapState B) (n r u w : ℕ) → LeadsIn h n r u → Uses h u w → LeadsIn h (suc n) r w
leads_on h zero r u w leads uses = (w, subst (λ k. Uses h k w) (sym leads) uses, refl)
leads_on h (suc n) r u w leads uses = (leads.0, leads.1, leads_on h n leads.0 u w leads.2 uses)

pub reach_more : {B : Type 0} (h : HeapState B) (u w : ℕ) → IsReachable h u → Uses h u w → IsReachable h w
reach_more h u w reach uses = (reach.0, reach.1, (suc reach.2.0, leads_on h reach.2.0 reach.0 u w reach.2.1 uses))

module _ {B : Type 0} (old new : HeapState B) (kept : (v : ℕ) (x : Node B) → node_at old v ≡ Some x → IsReachable old v → (y : Node B) × (node_at new v ≡ Some y) × IsLike x y) (more : (v j : ℕ) → marks_at old v j ≤ marks_at new v j) where
  uses_left : (u v : ℕ) → IsReachable old u → Uses old u v → Uses new u v
  uses_left u v reach (Read r) =
      let y = kept u r.unit r.there reach in
      Read (record { unit = y.0; there = y.1; place = r.place; reader = r.reader; input = ap (λ (q : Node B). get_or q.inputs r.place None) y.2 ∙ r.input; of = r.of })
  uses_left u v reach (Hold r) =
      let y = kept u r.unit r.there reach in
      Hold (record { unit = y.0; there = y.1; place = r.place; part = r.part; waits = ap (λ (q : Node B). slice_get q.waiting r.place) y.2 ∙ r.waits; position = r.position; captured = r.captured; one = r.one; of = r.of })

  outside_left : (u : ℕ) → ReadOutside old u → ReadOutside new u
  outside_left u r =
      let y = kept u r.unit r.there (u, r, (0, refl)) in
      let le = sums_le r.unit.outside y.0.outside (λ j. omega (arith, more u j, marks_there old u r.unit j r.there, marks_there new u y.0 j y.1)) in
      record { unit = y.0; there = y.1; some = omega (arith, r.some, le) }

  pub reach_left : (v : ℕ) → IsReachable old v → IsReachable new v
  reach_left v reach = (reach.0, outside_left reach.0 reach.1, (reach.2.0, walk reach.2.0 reach.0 (reach.0, reach.1, (0, refl)) reach.2.1))
    where
      walk : (n u : ℕ) → IsReachable old u → LeadsIn old n u v → LeadsIn new n u v
      walk zero u at leads = leads
      walk (suc n) u at leads = (leads.0, uses_left u leads.0 at leads.1, walk n leads.0 (reach_more old u leads.0 at leads.1) leads.2)

-- ---- what is left

-- what was reachable is there, each unit that is there still is as it was, and these sounds are in hand
pub record IsLeft {B : Type 0} (old new : HeapState B) (hand : List Sound) : Type 0 where
  pub sane : IsSane new
  pub counts : SameCounts old new
  pub kept : (v : ℕ) (x : Node B) → node_at old v ≡ Some x → IsReachable old v → (y : Node B) × (node_at new v ≡ Some y) × IsLike x y
  pub same : (v : ℕ) (x y : Node B) → node_at old v ≡ Some x → node_at new v ≡ Some y → IsLike x y
  pub marks : (v j : ℕ) → marks_at new v j ≡ marks_at old v j + marks_of hand v j
  pub begin : AllBegin new hand

-- sounds of the heap's own are in hand, and then others besides
pub left_first : {B : Type 0} (old new : HeapState B) (ss others : List Sound) → IsSane old → AllBegin (with_sounds old ss) ss → Hand (with_sounds old ss) new others → IsLeft old new (ss ++ others)
left_first {B} old new ss others sane_old begin hand = record {
  sane = sane new hand.laws;
  counts = counts_more old (with_sounds old ss) new like.counts hand.counts;
  kept = λ v x at reach. all v x at;
  same = λ v x y at now. let z = all v x at in subst (IsLike x) (same_at (node_at new v) z.0 y z.1 now) z.2;
  marks = λ v j. omega (arith, hand.marks v j, sounds_marks old ss sane_old first v j, marks_append ss others v j);
  begin = begin_append new ss others (all_kept (with_sounds old ss) new hand.kept ss begin) hand.begin;
}
  where
    like : AreLike old (with_sounds old ss)
    like = sounds_like old ss

    first : AllBegin old ss
    first = all_kept (with_sounds old ss) old (like_from old (with_sounds old ss) (sounds_like old ss)) ss begin

    all : (v : ℕ) (x : Node B) → node_at old v ≡ Some x → (y : Node B) × (node_at new v ≡ Some y) × IsLike x y
    all v x at = let y = like.to v x at in let z = hand.kept v y.0 y.1 in (z.0, z.1, like_more x y.0 z.0 y.2 z.2)

-- one of them is given up
pub left_released : {B : Type 0} (old mid new : HeapState B) (a : Sound) (hand : List Sound) → IsLeft old mid (a ∷ hand) → Releases mid new a → IsLeft old new hand
left_released {B} old mid new a hand p step = record {
  sane = sane new step.laws;
  counts = counts_more old spent new (counts_more old mid spent p.counts like.counts) (record { pool = step.trimmed.size.pool; block = step.trimmed.size.block; fills = step.trimmed.fills; peak = step.trimmed.peak });
  kept = λ v x at reach. let z = left v x at reach in (z.0, reached_stays spent new step.trimmed v z.0 z.1 (reach_left old spent left more v reach), z.2);
  same = λ v x y at now. let m = like.from v y (step.trimmed.kept v y now) in like_more x m.0 y (p.same v x m.0 at m.1) m.2;
  marks = λ v j. trimmed_marks spent new step.trimmed v j ∙ omega (arith, all v j, p.marks v j);
  begin = stay hand (all_kept mid spent like.to hand p.begin.1) (λ v j. omega (arith, all v j, p.marks v j));
}
  where
    spent : HeapState B
    spent = without_sounds mid (a ∷ [])

    like : AreLike mid (without_sounds mid (a ∷ []))
    like = spent_like mid (a ∷ [])

    all : (v j : ℕ) → marks_at (without_sounds mid (a ∷ [])) v j + marks_of (a ∷ []) v j ≡ marks_at mid v j
    all = spent_all mid (a ∷ []) p.sane (p.begin.0, tt) (λ v j. omega (arith, p.marks v j))

    left : (v : ℕ) (x : Node B) → node_at old v ≡ Some x → IsReachable old v → (y : Node B) × (node_at (without_sounds mid (a ∷ [])) v ≡ Some y) × IsLike x y
    left v x at reach = let y = p.kept v x at reach in let z = like.to v y.0 y.1 in (z.0, z.1, like_more x y.0 z.0 y.2 z.2)

    more : (v j : ℕ) → marks_at old v j ≤ marks_at (without_sounds mid (a ∷ [])) v j
    more v j = omega (arith, all v j, p.marks v j)

    stay : (ss : List Sound) → AllBegin (without_sounds mid (a ∷ [])) ss → ((v j : ℕ) → marks_of ss v j ≤ marks_at (without_sounds mid (a ∷ [])) v j) → AllBegin new ss
    stay [] b enough = tt
    stay (s ∷ ss) b enough = (
      record {
        bounds = b.0.bounds;
        place = b.0.place;
        empty = b.0.empty;
        shown = λ n is.
            let x = b.0.shown n is in
            let some : 0 < slice_index x.unit.outside 0 = omega (arith, enough n 0, mark_here (without_sounds mid (a ∷ [])) s n is, marks_there (without_sounds mid (a ∷ [])) n x.unit 0 x.there) in
            record { unit = x.unit; there = reached_stays (without_sounds mid (a ∷ [])) new step.trimmed n x.unit x.there (mark_reaches (without_sounds mid (a ∷ [])) n x.unit 0 x.there some); some = x.some; visible = x.visible };
      },
      stay ss b.1 (λ v j. omega (arith, enough v j)),
    )

pub left_released_all : {B : Type 0} (old mid new : HeapState B) (ss hand : List Sound) → IsLeft old mid (ss ++ hand) → ReleasesAll mid new ss → IsLeft old new hand
left_released_all {B} old mid new [] hand p step = subst (λ (h : HeapState B). IsLeft old h hand) step p
left_released_all old mid new (a ∷ ss) hand p step = left_released_all old step.0 new ss hand (left_released old mid step.0 a (ss ++ hand) p step.1) step.2
