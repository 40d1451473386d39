-- Who reads from outside, once a sound more or fewer does.
use Rattle.std.proofs.Common.{◌≡◌, ◌≢◌, ◌⊎◌, inl, inr, ℕ, zero, suc, ◌+◌, ◌-◌, ◌<◌, ◌≤◌, nat_eq, true, false, cond, List, [], ◌∷◌, get_or, length, slice_index, slice_set, Option, None, Some, sum, refl, sym, ap, subst, ◌∙◌, arith}
use Rattle.std.proofs.lemmas.Bool.{cases_eq}
use Rattle.std.proofs.lemmas.Bool.Decides.{eqb_tells}
use Rattle.std.specs.List.{fold}
use Rattle.std.specs.Option.{option_map, option_map_or}
use Rattle.std.proofs.lemmas.List.{get_or-set_same, get_or-set_other, length-set}
use Rattle.ny_heap.specs.Heap.{Node, HeapState, node_at, list_of, place_of, stands_in}
use Rattle.ny_heap.specs.Reach.{HeapLaws}
use Rattle.ny_heap.specs.Steps.{changed, with_sound, without_sound, without_sounds}
use Rattle.ny_heap.specs.declared.sound.Sound.{Sound}
use Rattle.ny_hands.specs.Counts.{SameCounts}
use Rattle.ny_hands.proofs.OptionLemmas.{same_at, none_some}
use Rattle.ny_hands.proofs.HeapLemmas.{changed_same, changed_other, stands_first, counts_none, counts_more}
use Rattle.ny_hands.specs.Hands.{marks_at, mark_in, mark_of, marks_of, Begins, AllBegin, IsLike}

-- ---- sums

fold_more : (a b : ℕ) (ys : List ℕ) → a ≤ b → a ≤ fold ◌+◌ b ys
fold_more a b [] le = le
fold_more a b (y ∷ ys) le = fold_more a (b + y) ys (omega (arith, le))

fold_le : (a b : ℕ) (xs ys : List ℕ) → a ≤ b → ((j : ℕ) → slice_index xs j ≤ slice_index ys j) → fold ◌+◌ a xs ≤ fold ◌+◌ b ys
fold_le a b [] ys le each = fold_more a b ys le
fold_le a b (x ∷ xs) [] le each = fold_le (a + x) b xs [] (omega (arith, le, each 0)) (λ j. each (suc j))
fold_le a b (x ∷ xs) (y ∷ ys) le each = fold_le (a + x) (b + y) xs ys (omega (arith, le, each 0)) (λ j. each (suc j))

pub sums_le : (xs ys : List ℕ) → ((j : ℕ) → slice_index xs j ≤ slice_index ys j) → sum xs ≤ sum ys
sums_le xs ys each = fold_le 0 0 xs ys (omega arith) each

-- ---- what a change of marks leaves

-- each list has a mark for its beginning
pub record IsSane {B : Type 0} (h : HeapState B) : Type 0 where
  pub block : 0 < h.block
  pub marks : (v : ℕ) (x : Node B) → node_at h v ≡ Some x → 0 < length x.outside

pub sane : {B : Type 0} (h : HeapState B) → HeapLaws h → IsSane h
sane h laws = record { block = laws.positive; marks = λ v x at. omega (arith, (laws.nodes v x at).marks) }

-- the same units, but for who reads them from outside
pub record AreLike {B : Type 0} (old new : HeapState B) : Type 0 where
  pub to : (v : ℕ) (x : Node B) → node_at old v ≡ Some x → (y : Node B) × (node_at new v ≡ Some y) × IsLike x y
  pub from : (v : ℕ) (y : Node B) → node_at new v ≡ Some y → (x : Node B) × (node_at old v ≡ Some x) × IsLike x y × (length y.outside ≡ length x.outside)
  pub counts : SameCounts old new

pub like_more : {B : Type 0} (x y z : Node B) → IsLike x y → IsLike y z → IsLike x z
like_more {B} x y z p q = q ∙ ap (λ (u : Node B). let n : Node B = record u { outside = z.outside } in n) p

pub alike_none : {B : Type 0} (h : HeapState B) → AreLike h h
alike_none h = record { to = λ v x at. (x, at, refl); from = λ v x at. (x, at, refl, refl); counts = counts_none h }

pub alike_more : {B : Type 0} (a b c : HeapState B) → AreLike a b → AreLike b c → AreLike a c
alike_more a b c p q = record {
  to = λ v x at. let y = p.to v x at in let z = q.to v y.0 y.1 in (z.0, z.1, like_more x y.0 z.0 y.2 z.2);
  from = λ v z at. let y = q.from v z at in let x = p.from v y.0 y.1 in (x.0, x.1, like_more x.0 y.0 z x.2 y.2, y.3 ∙ x.3);
  counts = counts_more a b c p.counts q.counts;
}

-- a list's marks where a sound at its beginning stands, changed by `f`
abbrev pub remarked : {B : Type 0} → (ℕ → ℕ) → ℕ → ℕ → Node B → Node B
remarked f block place x =
    record x { outside = slice_set x.outside (stands_in block x.timing.len place) (f (slice_index x.outside (stands_in block x.timing.len place))) }

abbrev pub marked : {B : Type 0} → (ℕ → ℕ) → HeapState B → Option ℕ → ℕ → HeapState B
marked f h o place = changed h o (remarked f h.block place)

none_set : {A : Type 0} (os : List (Option A)) (n : ℕ) → get_or (slice_set os n None) n None ≡ None
none_set [] zero = refl
none_set [] (suc n) = refl
none_set (o ∷ os) zero = refl
none_set (o ∷ os) (suc n) = none_set os n

module _ {B : Type 0} (f : ℕ → ℕ) (h : HeapState B) (place : ℕ) where
  marked_to : (o : Option ℕ) (v : ℕ) (x : Node B) → node_at h v ≡ Some x → (y : Node B) × (node_at (marked f h o place) v ≡ Some y) × IsLike x y
  marked_to None v x at = (x, at, refl)
  marked_to (Some n) v x at = elim (cases_eq v n) [
    | inl same ↦ (remarked f h.block place x, ap (node_at (marked f h (Some n) place)) same ∙ changed_same h n (remarked f h.block place) x (ap (node_at h) (sym same) ∙ at), refl)
    | inr other ↦ (x, changed_other h n (remarked f h.block place) v other ∙ at, refl)
  ]

  marked_from : (o : Option ℕ) (v : ℕ) (y : Node B) → node_at (marked f h o place) v ≡ Some y → (x : Node B) × (node_at h v ≡ Some x) × IsLike x y × (length y.outside ≡ length x.outside)
  marked_from None v y at = (y, at, refl, refl)
  marked_from (Some n) v y at = elim (cases_eq v n) [
    | inl same ↦ by_node same (node_at h n) refl
    | inr other ↦ (y, sym (changed_other h n (remarked f h.block place) v other) ∙ at, refl, refl)
  ]
    where
      by_node : v ≡ n → (o : Option (Node B)) → node_at h n ≡ o → (x : Node B) × (node_at h v ≡ Some x) × IsLike x y × (length y.outside ≡ length x.outside)
      by_node same None e =
          absurd (none_some (node_at (marked f h (Some n) place) v) y
          (ap (node_at (marked f h (Some n) place)) same ∙ (ap (λ o. get_or (slice_set h.nodes n (option_map (remarked f h.block place) o)) n None) e ∙ none_set h.nodes n)) at)
      by_node same (Some x) e =
          let is : remarked f h.block place x ≡ y = same_at (node_at (marked f h (Some n) place) n) (remarked f h.block place x) y (changed_same h n (remarked f h.block place) x e) (ap (node_at (marked f h (Some n) place)) (sym same) ∙ at) in
          (x, ap (node_at h) same ∙ e, subst (λ q. IsLike x q) is refl, ap (λ (q : Node B). length q.outside) (sym is) ∙ length-set x.outside (stands_in h.block x.timing.len place) (f (slice_index x.outside (stands_in h.block x.timing.len place))))

  marked_counts : (o : Option ℕ) → SameCounts h (marked f h o place)
  marked_counts None = counts_none h
  marked_counts (Some n) = record { pool = refl; block = refl; fills = refl; peak = refl }

  pub marked_like : (o : Option ℕ) → AreLike h (marked f h o place)
  marked_like o = record { to = marked_to o; from = marked_from o; counts = marked_counts o }

  -- a mark that changes, or does not
  abbrev pub Marks : Option ℕ → ℕ → ℕ → Type 0
  Marks o v j = ((mark_in o v j ≡ 1) × (marks_at (marked f h o place) v j ≡ f (marks_at h v j))) ⊎ ((mark_in o v j ≡ 0) × (marks_at (marked f h o place) v j ≡ marks_at h v j))

  pub marked_marks : IsSane h → place ≡ 0 → (o : Option ℕ) → ((n : ℕ) → o ≡ Some n → (x : Node B) × (node_at h n ≡ Some x) × (0 < x.timing.len)) → (v j : ℕ) → Marks o v j
  marked_marks sane begins None there v j = inr (refl, refl)
  marked_marks sane begins (Some n) there v j = elim (eqb_tells n v) [
    | inl same ↦ here (there n refl).0 (there n refl).1 (there n refl).2 same.0 same.1 (eqb_tells j 0)
    | inr other ↦
        inr (
          ap (λ b. cond b (cond (nat_eq j 0) 1 0) 0) other.0,
          ap (λ o. option_map_or (λ (x : Node B). slice_index x.outside j) o 0) (changed_other h n (remarked f h.block place) v (λ e. other.1 (sym e))),
        )
  ]
    where
      here : (x : Node B) → node_at h n ≡ Some x → 0 < x.timing.len → nat_eq n v ≡ true → n ≡ v → ((nat_eq j 0 ≡ true) × (j ≡ 0)) ⊎ ((nat_eq j 0 ≡ false) × (j ≢ 0)) → Marks (Some n) v j
      here x at long test same (inl first) = inl (
        (λ i. cond (test i) (cond (first.0 i) 1 0) 0),
        ap (λ o. option_map_or (λ (x : Node B). slice_index x.outside j) o 0) (ap (node_at (marked f h (Some n) place)) (sym same) ∙ changed_same h n (remarked f h.block place) x at)
            ∙ ((λ i. slice_index (slice_set x.outside (zero_place i) (f (slice_index x.outside (zero_place i)))) (first.1 i))
            ∙ (get_or-set_same x.outside 0 (f (slice_index x.outside 0)) 0 (sane.marks n x at)
            ∙ sym (λ i. f (slice_index x.outside (first.1 i)))
            ∙ sym (ap (λ o. f (option_map_or (λ (x : Node B). slice_index x.outside j) o 0)) (ap (node_at h) (sym same) ∙ at)))),
      )
        where
          zero_place : stands_in h.block x.timing.len place ≡ 0
          zero_place = ap (stands_in h.block x.timing.len) begins ∙ stands_first h.block x.timing.len sane.block long
      here x at long test same (inr later) = inr (
        (λ i. cond (test i) (cond (later.0 i) 1 0) 0),
        ap (λ o. option_map_or (λ (x : Node B). slice_index x.outside j) o 0) (ap (node_at (marked f h (Some n) place)) (sym same) ∙ changed_same h n (remarked f h.block place) x at)
            ∙ ((λ i. slice_index (slice_set x.outside (zero_place i) (f (slice_index x.outside (zero_place i)))) j)
            ∙ (get_or-set_other x.outside 0 j (f (slice_index x.outside 0)) 0 later.1
            ∙ sym (ap (λ o. option_map_or (λ (x : Node B). slice_index x.outside j) o 0) (ap (node_at h) (sym same) ∙ at)))),
      )
        where
          zero_place : stands_in h.block x.timing.len place ≡ 0
          zero_place = ap (stands_in h.block x.timing.len) begins ∙ stands_first h.block x.timing.len sane.block long

pub alike_sane : {B : Type 0} (old new : HeapState B) → AreLike old new → IsSane old → IsSane new
alike_sane old new like sane = record {
  block = omega (arith, sane.block, like.counts.block);
  marks = λ v y at. let x = like.from v y at in omega (arith, sane.marks v x.0 x.1, x.3);
}

-- ---- sounds that stay in hand

pub begins_kept : {B : Type 0} (old new : HeapState B) → ((v : ℕ) (x : Node B) → node_at old v ≡ Some x → (y : Node B) × (node_at new v ≡ Some y) × IsLike x y) → (s : Sound) → Begins old s → Begins new s
begins_kept {B} old new kept s b = record {
  bounds = b.bounds;
  place = b.place;
  empty = b.empty;
  shown = λ n is. let x = b.shown n is in let y = kept n x.unit x.there in record { unit = y.0; there = y.1; some = x.some; visible = omega (arith, x.visible, ap (λ (q : Node B). q.timing.len) y.2) };
}

pub all_kept : {B : Type 0} (old new : HeapState B) → ((v : ℕ) (x : Node B) → node_at old v ≡ Some x → (y : Node B) × (node_at new v ≡ Some y) × IsLike x y) → (ss : List Sound) → AllBegin old ss → AllBegin new ss
all_kept old new kept [] b = tt
all_kept old new kept (s ∷ ss) b = (begins_kept old new kept s b.0, all_kept old new kept ss b.1)

long_unit : {B : Type 0} (h : HeapState B) (s : Sound) → Begins h s → (n : ℕ) → list_of s ≡ Some n → (x : Node B) × (node_at h n ≡ Some x) × (0 < x.timing.len)
long_unit h s b n is = let x = b.shown n is in (x.unit, x.there, omega (arith, x.some, x.visible))

-- ---- sounds that are spent

pub spent_one : {B : Type 0} (h : HeapState B) (s : Sound) → IsSane h → Begins h s → ((v j : ℕ) → mark_of s v j ≤ marks_at h v j) → (v j : ℕ) → marks_at (without_sound h s) v j + mark_of s v j ≡ marks_at h v j
spent_one h s sane b enough v j = by_mark (marked_marks (λ n. n - 1) h (place_of s) sane b.place (list_of s) (long_unit h s b) v j)
  where
    by_mark : Marks (λ n. n - 1) h (place_of s) (list_of s) v j → marks_at (without_sound h s) v j + mark_of s v j ≡ marks_at h v j
    by_mark (inl one) = omega (arith, one.0, one.1, enough v j)
    by_mark (inr none) = omega (arith, none.0, none.1)

pub shared_one : {B : Type 0} (h : HeapState B) (s : Sound) → IsSane h → Begins h s → (v j : ℕ) → marks_at (with_sound h s) v j ≡ marks_at h v j + mark_of s v j
shared_one h s sane b v j = by_mark (marked_marks (λ n. n + 1) h (place_of s) sane b.place (list_of s) (long_unit h s b) v j)
  where
    by_mark : Marks (λ n. n + 1) h (place_of s) (list_of s) v j → marks_at (with_sound h s) v j ≡ marks_at h v j + mark_of s v j
    by_mark (inl one) = omega (arith, one.0, one.1)
    by_mark (inr none) = omega (arith, none.0, none.1)

pub spent_like : {B : Type 0} (h : HeapState B) (ss : List Sound) → AreLike h (without_sounds h ss)
spent_like h [] = alike_none h
spent_like h (s ∷ ss) = alike_more h (without_sounds h ss) (without_sounds h (s ∷ ss)) (spent_like h ss) (marked_like (λ n. n - 1) (without_sounds h ss) (place_of s) (list_of s))

pub spent_all : {B : Type 0} (h : HeapState B) (ss : List Sound) → IsSane h → AllBegin h ss → ((v j : ℕ) → marks_of ss v j ≤ marks_at h v j) → (v j : ℕ) → marks_at (without_sounds h ss) v j + marks_of ss v j ≡ marks_at h v j
spent_all h [] sane b enough v j = omega arith
spent_all h (s ∷ ss) sane b enough v j =
    let rest : (v j : ℕ) → marks_at (without_sounds h ss) v j + marks_of ss v j ≡ marks_at h v j = spent_all h ss sane b.1 (λ v j. omega (arith, enough v j)) in
    let like = spent_like h ss in
    omega (
      arith,
      rest v j,
      spent_one (without_sounds h ss) s (alike_sane h (without_sounds h ss) like sane) (begins_kept h (without_sounds h ss) like.to s b.0) (λ v j. omega (arith, rest v j, enough v j)) v j,
    )
