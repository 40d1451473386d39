-- What the evaluator has in hand, step by step.
use Rattle.std.proofs.Common.{◌≡◌, ◌≢◌, ◌⊎◌, inl, inr, ℕ, zero, suc, ◌+◌, ◌<◌, ◌≤◌, nat_eq, Bool, true, false, cond, nat_lt, if◌then◌else◌, List, [], ◌∷◌, ◌++◌, get_or, slice_index, slice_get, Option, None, Some, refl, sym, ap, subst, ◌∙◌, arith}
use Rattle.std.proofs.lemmas.Bool.{cases_eq}
use Rattle.std.proofs.lemmas.Bool.Decides.{eqb_tells}
use Rattle.std.specs.Option.{option_map_or}
use Rattle.ny_num.specs.declared.timing.Timing.{Timing}
use Rattle.ny_num.specs.Sound.{IsTiming}
use Rattle.ny_heap.specs.declared.sound.Sound.{Sound}
use Rattle.ny_heap.specs.Heap.{Kind, Node, Waiting, HeapState, node_at, list_of, place_of, stands_in}
use Rattle.ny_heap.specs.Reach.{Uses, Read, Hold, ReadOutside, LeadsIn, IsReachable, HeapLaws, IsTrimmed}
use Rattle.ny_heap.specs.Steps.{IsHeldAt, IsHeldSound, AreHeld, with_sound, without_sound, without_sounds, AddsNode, new_node}
use Rattle.ny_hands.specs.Counts.{SameCounts}
use Rattle.ny_hands.proofs.OptionLemmas.{some_same, none_some}
use Rattle.ny_hands.proofs.HeapLemmas.{mark_counts, reached_stays, stands_first, counts_none, counts_more, Length, Empty, Long, length_of}
use Rattle.ny_hands.specs.Calls.{Shares, Releases, MakesUnit, ReleasesAll}
use Rattle.ny_hands.specs.Hands.{marks_at, mark_in, mark_of, marks_of, Begins, AllBegin, IsLike, Hand}
use Rattle.ny_hands.proofs.MarkLemmas.{sums_le, IsSane, sane, AreLike, like_more, alike_sane, begins_kept, all_kept, shared_one, spent_like, spent_all, marked_like}

-- ---- lists of sounds

pub marks_append : (ss others : List Sound) (v j : ℕ) → marks_of (ss ++ others) v j ≡ marks_of ss v j + marks_of others v j
marks_append [] others v j = omega arith
marks_append (a ∷ ss) others v j = omega (arith, marks_append ss others v j)

pub begin_append : {B : Type 0} (h : HeapState B) (ss others : List Sound) → AllBegin h ss → AllBegin h others → AllBegin h (ss ++ others)
begin_append h [] others p q = q
begin_append h (a ∷ ss) others p q = (p.0, begin_append h ss others p.1 q)

pub begin_first : {B : Type 0} (h : HeapState B) (ss others : List Sound) → AllBegin h (ss ++ others) → AllBegin h ss
begin_first h [] others p = tt
begin_first h (a ∷ ss) others p = (p.0, begin_first h ss others p.1)

pub begin_last : {B : Type 0} (h : HeapState B) (ss others : List Sound) → AllBegin h (ss ++ others) → AllBegin h others
begin_last h [] others p = p
begin_last h (a ∷ ss) others p = begin_last h ss others p.1

-- a sound in hand reads a list from outside
pub mark_here : {B : Type 0} (h : HeapState B) (s : Sound) (n : ℕ) → list_of s ≡ Some n → mark_of s n 0 ≡ 1
mark_here h s n is = ap (λ o. mark_in o n 0) is ∙ ap (λ b. cond b 1 0) (by_same (eqb_tells n n))
  where
    by_same : ((nat_eq n n ≡ true) × (n ≡ n)) ⊎ ((nat_eq n n ≡ false) × (n ≢ n)) → nat_eq n n ≡ true
    by_same (inl same) = same.0
    by_same (inr other) = absurd (other.1 refl)

pub mark_else : (o : Option ℕ) (v j : ℕ) → (o ≡ Some v → ⊥) → mark_in o v j ≡ 0
mark_else None v j other = refl
mark_else (Some n) v j other = by_same (eqb_tells n v)
  where
    by_same : ((nat_eq n v ≡ true) × (n ≡ v)) ⊎ ((nat_eq n v ≡ false) × (n ≢ v)) → mark_in (Some n) v j ≡ 0
    by_same (inl same) = absurd (other (ap Some same.1))
    by_same (inr apart) = ap (λ b. cond b (cond (nat_eq j 0) 1 0) 0) apart.0

mark_later : (n j : ℕ) → mark_in (Some n) n (suc j) ≡ 0
mark_later n j = by_place (eqb_tells (suc j) 0)
  where
    either : (b : Bool) → cond {A = ℕ} b 0 0 ≡ 0
    either true = refl
    either false = refl

    by_place : ((nat_eq (suc j) 0 ≡ true) × (suc j ≡ 0)) ⊎ ((nat_eq (suc j) 0 ≡ false) × (suc j ≢ 0)) → mark_in (Some n) n (suc j) ≡ 0
    by_place (inl same) = absurd (omega (arith, same.1))
    by_place (inr apart) = ap (λ b. cond {A = ℕ} (nat_eq n n) (cond {A = ℕ} b 1 0) 0) apart.0 ∙ either (nat_eq n n)

-- ---- reachability

abbrev pub AreKept : {B : Type 0} → HeapState B → HeapState B → Type 0
AreKept old new = (v : ℕ) (x : Node _) → node_at old v ≡ Some x → (y : Node _) × (node_at new v ≡ Some y) × IsLike x y

pub marks_there : {B : Type 0} (h : HeapState B) (v : ℕ) (x : Node B) (j : ℕ) → node_at h v ≡ Some x → marks_at h v j ≡ slice_index x.outside j
marks_there {B} h v x j at = ap (λ o. option_map_or (λ (x : Node B). slice_index x.outside j) o 0) at

uses_kept : {B : Type 0} (old new : HeapState B) → AreKept old new → (u v : ℕ) → Uses old u v → Uses new u v
uses_kept {B} old new kept u v (Read r) =
    let y = kept u r.unit r.there in
    Read (record { unit = y.0; there = y.1; place = r.place; reader = r.reader; input = ap (λ (q : Node B). get_or q.inputs r.place None) y.2 ∙ r.input; of = r.of })
uses_kept {B} old new kept u v (Hold r) =
    let y = kept u r.unit r.there in
    Hold (record { unit = y.0; there = y.1; place = r.place; part = r.part; waits = ap (λ (q : Node B). slice_get q.waiting r.place) y.2 ∙ r.waits; position = r.position; captured = r.captured; one = r.one; of = r.of })

pub outside_kept : {B : Type 0} (old new : HeapState B) → AreKept old new → ((v j : ℕ) → marks_at old v j ≤ marks_at new v j) → (u : ℕ) → ReadOutside old u → ReadOutside new u
outside_kept old new kept more u r =
    let y = kept u r.unit r.there in
    let le = sums_le r.unit.outside y.0.outside (λ j. omega (arith, more u j, marks_there old u r.unit j r.there, marks_there new u y.0 j y.1)) in
    record { unit = y.0; there = y.1; some = omega (arith, r.some, le) }

pub reach_kept : {B : Type 0} (old new : HeapState B) → AreKept old new → ((v j : ℕ) → marks_at old v j ≤ marks_at new v j) → (v : ℕ) → IsReachable old v → IsReachable new v
reach_kept {B} old new kept more v reach = (reach.0, outside_kept old new kept more reach.0 reach.1, (reach.2.0, walk reach.2.0 reach.0 reach.2.1))
  where
    walk : (n u : ℕ) → LeadsIn old n u v → LeadsIn new n u v
    walk zero u leads = leads
    walk (suc n) u leads = (leads.0, uses_kept old new kept u leads.0 leads.1, walk n leads.0 leads.2)

-- a mark is a reader outside
pub mark_reaches : {B : Type 0} (h : HeapState B) (v : ℕ) (x : Node B) (j : ℕ) → node_at h v ≡ Some x → 0 < slice_index x.outside j → IsReachable h v
mark_reaches h v x j at some = (v, record { unit = x; there = at; some = omega (arith, some, mark_counts x.outside j) }, (0, refl))

-- a trim changes no mark
pub trimmed_marks : {B : Type 0} (old new : HeapState B) → IsTrimmed old new → (v j : ℕ) → marks_at new v j ≡ marks_at old v j
trimmed_marks {B} old new trimmed v j = by_new (node_at new v) refl
  where
    by_mark : (x : Node B) → node_at old v ≡ Some x → node_at new v ≡ None → (n : ℕ) → slice_index x.outside j ≡ n → 0 ≡ n
    by_mark x at gone zero e = refl
    by_mark x at gone (suc n) e = absurd (trimmed.gone v x at gone (mark_reaches old v x j at (omega (arith, e))))

    by_old : (o : Option (Node B)) → node_at old v ≡ o → node_at new v ≡ None → 0 ≡ option_map_or (λ (x : Node B). slice_index x.outside j) o 0
    by_old None e gone = refl
    by_old (Some x) e gone = by_mark x e gone (slice_index x.outside j) refl

    by_new : (o : Option (Node B)) → node_at new v ≡ o → marks_at new v j ≡ marks_at old v j
    by_new None e =
        ap (λ o. option_map_or (λ (x : Node B). slice_index x.outside j) o 0) e ∙ by_old (node_at old v) refl e
    by_new (Some y) e = ap (λ o. option_map_or (λ (x : Node B). slice_index x.outside j) o 0) (e ∙ sym (trimmed.kept v y e))

-- ---- what is left in hand while sounds are spent

pub record Rests {B : Type 0} (old new : HeapState B) (hand : List Sound) : Type 0 where
  pub sane : IsSane new
  pub counts : SameCounts old new
  pub kept : (v : ℕ) (x : Node B) → node_at old v ≡ Some x → (y : Node B) × (node_at new v ≡ Some y) × IsLike x y
  pub marks : (v j : ℕ) → marks_at new v j ≡ marks_at old v j + marks_of hand v j
  pub begin : AllBegin new hand

pub spend : {B : Type 0} (old mid : HeapState B) (ss others : List Sound) → Hand old mid (ss ++ others) → Rests old (without_sounds mid ss) others
spend old mid ss others hand =
    let like = spent_like mid ss in
    let all : (v j : ℕ) → marks_at (without_sounds mid ss) v j + marks_of ss v j ≡ marks_at mid v j = spent_all mid ss (sane mid hand.laws) (begin_first mid ss others hand.begin) (λ v j. omega (arith, hand.marks v j, marks_append ss others v j)) in
    record {
      sane = alike_sane mid (without_sounds mid ss) like (sane mid hand.laws);
      counts = counts_more old mid (without_sounds mid ss) hand.counts like.counts;
      kept = λ v x at. let y = hand.kept v x at in let z = like.to v y.0 y.1 in (z.0, z.1, like_more x y.0 z.0 y.2 z.2);
      marks = λ v j. omega (arith, all v j, hand.marks v j, marks_append ss others v j);
      begin = all_kept mid (without_sounds mid ss) like.to others (begin_last mid ss others hand.begin);
    }

-- they can be spent
pub are_held : {B : Type 0} (old mid : HeapState B) (ss others : List Sound) → Hand old mid (ss ++ others) → AreHeld mid ss
are_held {B} old mid ss others hand = each ss (begin_first mid ss others hand.begin) (λ v j. omega (arith, hand.marks v j, marks_append ss others v j))
  where
    each : (ss : List Sound) → AllBegin mid ss → ((v j : ℕ) → marks_of ss v j ≤ marks_at mid v j) → AreHeld mid ss
    each [] b enough = tt
    each (a ∷ ss) b enough = (b.0.place, held, each ss b.1 (λ v j. omega (arith, enough v j)))
      where
        like : AreLike mid (without_sounds mid ss)
        like = spent_like mid ss

        held_at : (o : Option ℕ) → list_of a ≡ o → IsHeldAt (without_sounds mid ss) a o
        held_at None e = b.0.empty e
        held_at (Some n) e =
            let c = begins_kept mid (without_sounds mid ss) like.to a b.0 in
            let x = c.shown n e in
            let sane_mid = alike_sane mid (without_sounds mid ss) like (sane mid hand.laws) in
            let rest = spent_all mid ss (sane mid hand.laws) b.1 (λ v j. omega (arith, enough v j)) n 0 in
            let one : 0 < slice_index x.unit.outside 0 = omega (arith, rest, enough n 0, mark_here mid a n e, marks_there (without_sounds mid ss) n x.unit 0 x.there) in
            record {
              unit = x.unit;
              there = x.there;
              some = x.some;
              visible = x.visible;
              place = omega (arith, c.place);
              stands = subst (λ j. 0 < slice_index x.unit.outside j) (sym (ap (stands_in (without_sounds mid ss).block x.unit.timing.len) c.place ∙ stands_first (without_sounds mid ss).block x.unit.timing.len sane_mid.block (omega (arith, x.some, x.visible)))) one;
            }

        held : IsHeldSound (without_sounds mid ss) a
        held = (b.0.bounds, held_at (list_of a) refl)

-- what nobody reads any more is removed
pub rests_trimmed : {B : Type 0} (old mid new : HeapState B) (hand : List Sound) → HeapLaws old → HeapLaws new → Rests old mid hand → IsTrimmed mid new → Hand old new hand
rests_trimmed {B} old mid new hand before laws rests trimmed = record {
  laws = laws;
  counts = counts_more old mid new rests.counts (record { pool = trimmed.size.pool; block = trimmed.size.block; fills = trimmed.fills; peak = trimmed.peak });
  kept = λ v x at. let y = rests.kept v x at in (y.0, reached_stays mid new trimmed v y.0 y.1 (reach_kept old mid rests.kept (λ v j. omega (arith, rests.marks v j)) v (before.nodes v x at).reached), y.2);
  marks = λ v j. trimmed_marks mid new trimmed v j ∙ rests.marks v j;
  begin = stay hand rests.begin (λ v j. omega (arith, rests.marks v j));
}
  where
    stay : (hand : List Sound) → AllBegin mid hand → ((v j : ℕ) → marks_of hand v j ≤ marks_at mid v j) → AllBegin new hand
    stay [] b enough = tt
    stay (s ∷ ss) b enough = (
      record {
        bounds = b.0.bounds;
        place = b.0.place;
        empty = b.0.empty;
        shown = λ n is.
            let x = b.0.shown n is in
            let some : 0 < slice_index x.unit.outside 0 = omega (arith, enough n 0, mark_here mid s n is, marks_there mid n x.unit 0 x.there) in
            record { unit = x.unit; there = reached_stays mid new trimmed n x.unit x.there (mark_reaches mid n x.unit 0 x.there some); some = x.some; visible = x.visible };
      },
      stay ss b.1 (λ v j. omega (arith, enough v j)),
    )

-- a unit more
pub rests_added : {B : Type 0} (old mid new : HeapState B) (hand : List Sound) (s : Sound) (n : ℕ) (kind : Kind) (t : Timing) (inputs : List Sound) (waiting : List (Waiting B)) → HeapLaws new → Rests old mid hand → IsTiming t → 0 < t.len → s.timing ≡ t → list_of s ≡ Some n → place_of s ≡ 0 → AddsNode mid new n (new_node kind t inputs waiting) → Hand old new (s ∷ hand)
rests_added {B} old mid new hand s n kind t inputs waiting laws rests bounds long timing list place adds = record {
  laws = laws;
  counts = counts_more old mid new rests.counts (record { pool = adds.size.pool; block = adds.size.block; fills = adds.fills; peak = adds.peak });
  kept = λ v x at. let y = rests.kept v x at in (y.0, adds.others v (not_new v y.0 y.1) ∙ y.1, y.2);
  marks = marks;
  begin = (
    record {
      bounds = subst IsTiming (sym timing) bounds;
      place = place;
      empty = λ none. absurd (none_some (list_of s) n none list);
      shown = λ m is. record {
        unit = new_node kind t inputs waiting;
        there = ap (node_at new) (sym (some_same n m (sym list ∙ is))) ∙ adds.after;
        some = omega (arith, long, ap (λ (q : Timing). q.len) timing);
        visible = omega (arith, ap (λ (q : Timing). q.len) timing);
      };
    },
    all_kept mid new (λ v y at. (y, adds.others v (not_new v y at) ∙ at, refl)) hand rests.begin,
  );
}
  where
    not_new : (v : ℕ) (y : Node B) → node_at mid v ≡ Some y → v ≢ n
    not_new v y at same = none_some (node_at mid v) y (ap (node_at mid) same ∙ adds.fresh) at

    one_mark : (j : ℕ) → slice_index (1 ∷ []) j ≡ mark_in (Some n) n j
    one_mark zero = sym (mark_here new s n list) ∙ ap (λ o. mark_in o n 0) list
    one_mark (suc j) = sym (mark_later n j)

    marks : (v j : ℕ) → marks_at new v j ≡ marks_at old v j + (mark_of s v j + marks_of hand v j)
    marks v j = elim (cases_eq v n) [
      | inl same ↦
          let none : marks_at mid v j ≡ 0 = ap (λ o. option_map_or (λ (x : Node B). slice_index x.outside j) o 0) (ap (node_at mid) same ∙ adds.fresh) in
          let now : marks_at new v j ≡ slice_index (1 ∷ []) j = marks_there new v (new_node kind t inputs waiting) j (ap (node_at new) same ∙ adds.after) in
          let here : mark_of s v j ≡ slice_index (1 ∷ []) j = ap (λ o. mark_in o v j) list ∙ ap (λ m. mark_in (Some n) m j) same ∙ sym (one_mark j) in
          omega (arith, none, now, here, rests.marks v j)
      | inr other ↦
          let now : marks_at new v j ≡ marks_at mid v j = ap (λ o. option_map_or (λ (x : Node B). slice_index x.outside j) o 0) (adds.others v other) in
          let none : mark_of s v j ≡ 0 = mark_else (list_of s) v j (λ e. other (some_same v n (sym e ∙ list))) in
          omega (arith, now, none, rests.marks v j)
    ]

-- ---- the steps

pub hand_none : {B : Type 0} (h : HeapState B) → HeapLaws h → Hand h h []
hand_none h laws = record { laws = laws; counts = counts_none h; kept = λ v x at. (x, at, refl); marks = λ v j. omega arith; begin = tt }

-- one evaluation after another
pub hand_more : {B : Type 0} (old mid new : HeapState B) (ss others : List Sound) → Hand old mid ss → Hand mid new others → Hand old new (ss ++ others)
hand_more old mid new ss others p q = record {
  laws = q.laws;
  counts = counts_more old mid new p.counts q.counts;
  kept = λ v x at. let y = p.kept v x at in let z = q.kept v y.0 y.1 in (z.0, z.1, like_more x y.0 z.0 y.2 z.2);
  marks = λ v j. omega (arith, p.marks v j, q.marks v j, marks_append ss others v j);
  begin = begin_append new ss others (all_kept mid new q.kept ss p.begin) q.begin;
}

-- the order in which sounds are in hand does not matter
pub hand_swap : {B : Type 0} (old new : HeapState B) (a b : Sound) (hand : List Sound) → Hand old new (a ∷ b ∷ hand) → Hand old new (b ∷ a ∷ hand)
hand_swap old new a b hand p = record { laws = p.laws; counts = p.counts; kept = p.kept; marks = λ v j. omega (arith, p.marks v j); begin = (p.begin.1.0, (p.begin.0, p.begin.1.1)) }

pub hand_turned : {B : Type 0} (old new : HeapState B) (ss others : List Sound) → Hand old new (ss ++ others) → Hand old new (others ++ ss)
hand_turned old new ss others p = record {
  laws = p.laws;
  counts = p.counts;
  kept = p.kept;
  marks = λ v j. omega (arith, p.marks v j, marks_append ss others v j, marks_append others ss v j);
  begin = begin_append new others ss (begin_last new ss others p.begin) (begin_first new ss others p.begin);
}

pub hand_released : {B : Type 0} (old mid new : HeapState B) (a : Sound) (hand : List Sound) → HeapLaws old → Hand old mid (a ∷ hand) → Releases mid new a → Hand old new hand
hand_released old mid new a hand before p step = rests_trimmed old (without_sound mid a) new hand before step.laws (spend old mid (a ∷ []) hand p) step.trimmed

pub hand_released_all : {B : Type 0} (old mid new : HeapState B) (ss hand : List Sound) → HeapLaws old → Hand old mid (ss ++ hand) → ReleasesAll mid new ss → Hand old new hand
hand_released_all {B} old mid new [] hand before p step = subst (λ (h : HeapState B). Hand old h hand) step p
hand_released_all old mid new (a ∷ ss) hand before p step =
    hand_released_all old step.0 new ss hand before (hand_released old mid step.0 a (ss ++ hand) before p step.1) step.2

pub hand_shared : {B : Type 0} (old new : HeapState B) (a s : Sound) → HeapLaws old → Begins old a → Shares old new a s → Hand old new (s ∷ [])
hand_shared {B} old new a s before b step =
    let like = marked_like (λ n. n + 1) old (place_of s) (list_of s) in
    let begins : Begins old s = record {
      bounds = subst IsTiming (sym step.timing) b.bounds;
      place = step.begins;
      empty = λ none. omega (arith, b.empty (sym step.list ∙ none), ap (λ (q : Timing). q.len) step.timing);
      shown = λ n is. let x = b.shown n (sym step.list ∙ is) in record { unit = x.unit; there = x.there; some = omega (arith, x.some, ap (λ (q : Timing). q.len) step.timing); visible = omega (arith, x.visible, ap (λ (q : Timing). q.len) step.timing) };
    } in
    subst (λ (h : HeapState B). Hand old h (s ∷ [])) (sym step.heap) (record {
      laws = subst (λ (h : HeapState B). HeapLaws h) step.heap step.laws;
      counts = like.counts;
      kept = like.to;
      marks = λ v j. omega (arith, shared_one old s (sane old before) begins v j);
      begin = (begins_kept old (with_sound old s) like.to s begins, tt);
    })

pub hand_made : {B : Type 0} (old mid new : HeapState B) (kind : Kind) (t : Timing) (inputs : List Sound) (waiting : List (Waiting B)) (spent hand : List Sound) (s : Sound) → HeapLaws old → Hand old mid (spent ++ hand) → MakesUnit mid new kind t inputs waiting spent s → Hand old new (s ∷ hand)
hand_made {B} old mid new kind t inputs waiting spent hand s before p step = by_length (length_of t)
  where
    list_none : nat_lt 0 t.len ≡ false → list_of s ≡ None
    list_none e = step.makes.result.list ∙ ap (λ b. if b then Some step.makes.node else None) e

    list_some : nat_lt 0 t.len ≡ true → list_of s ≡ Some step.makes.node
    list_some e = step.makes.result.list ∙ ap (λ b. if b then Some step.makes.node else None) e

    with_empty : list_of s ≡ None → s.timing.len ≡ 0 → Hand old new hand → Hand old new (s ∷ hand)
    with_empty none zero_len q = record {
      laws = q.laws;
      counts = q.counts;
      kept = q.kept;
      marks = λ v j. omega (arith, q.marks v j, ap (λ o. mark_in o v j) none);
      begin = (
        record { bounds = subst IsTiming (sym step.makes.result.timing) step.bounds; place = step.makes.result.begins; empty = λ e. zero_len; shown = λ n is. absurd (none_some (list_of s) n none is) },
        q.begin,
      );
    }

    by_length : Length t → Hand old new (s ∷ hand)
    by_length (Empty e f) =
        with_empty (list_none f) (ap (λ (q : Timing). q.len) step.makes.result.timing ∙ e)
        (rests_trimmed old (without_sounds mid spent) new hand before step.laws (spend old mid spent hand p) (step.makes.none e))
    by_length (Long e f) =
        rests_added old (without_sounds mid spent) new hand s step.makes.node kind t inputs waiting step.laws (spend old mid spent hand p) step.bounds e step.makes.result.timing (list_some f) step.makes.result.begins (step.makes.unit e)
