-- A walk is the only one from its heap: two that end fill the same units, and none both ends and stops.
use Rattle.std.proofs.Common.{◌≡◌, ◌⊎◌, inl, inr, ℕ, zero, suc, ◌<◌, List, [], ◌∷◌, ◌++◌, None, Some, sym, ap, subst, ◌∙◌, arith}
use Rattle.ny_heap.specs.Heap.{HeapState}
use Rattle.ny_heap.specs.Steps.{want_of}
use Rattle.ny_walk.specs.Fills.{FillsWants, FillsThen, FillsInOrder, StopsThen, StopsInOrder}
use Rattle.ny_hands.proofs.OptionLemmas.{some_same}
use Rattle.ny_walk.proofs.TwinLemmas.{AreTwins, twins_none, twins_turned, want_like, free_like, fills_like}

-- how units are filled one after another, in two heaps
abbrev Walk : Type 0 → Type 1
Walk B = HeapState B → ℕ → List ℕ → HeapState B → Type 0

-- what fills units alike from heaps that are alike
abbrev FillAlike : {B : Type 0} → Walk B → Walk B → Type 0
FillAlike {B} D E = (a b c d : HeapState B) (u : ℕ) (us ws : List ℕ) → AreTwins a b → D a u us c → E b u ws d → AreTwins c d × (us ≡ ws)

-- so much of a walk over what u wants, and its next step
record Begins {B : Type 0} (D : Walk B) (k : ℕ) (old : HeapState B) (u : ℕ) : Type 0 where
  pub mid : HeapState B
  pub us : List ℕ
  pub wants : FillsWants D k old u us mid
  pub input : ℕ
  pub wanted : want_of mid u ≡ Some input
  pub filled : List ℕ
  pub later : HeapState B
  pub fills : D mid input filled later

cases : (a b : ℕ) → (a < b) ⊎ ((b < a) ⊎ (a ≡ b))
cases a b = grind arith

begins : {B : Type 0} (D : Walk B) (k n : ℕ) (old : HeapState B) (u : ℕ) (us : List ℕ) (new : HeapState B) → k < n → FillsWants D n old u us new → Begins D k old u
begins D k zero old u us new less walk = absurd (omega (arith, less))
begins {B} D k (suc n) old u us new less walk = elim (cases k n) [
  | inl later ↦ begins D k n old u walk.2 walk.0 later walk.4
  | inr other ↦ elim other [
    | inl more ↦ absurd (omega (arith, less, more))
    | inr same ↦ record { mid = walk.0; us = walk.2; wants = subst (λ m. FillsWants D m old u walk.2 walk.0) (sym same) walk.4; input = walk.1; wanted = walk.5; filled = walk.3; later = new; fills = walk.6 }
  ]
]

atwins_turned : {B : Type 0} (D E : Walk B) → FillAlike D E → FillAlike E D
atwins_turned D E alike a b c d u us ws like first second =
    let so = alike b a d c u ws us (twins_turned a b like) second first in
    (twins_turned d c so.0, sym so.1)

-- so many fills for u, in both
wants_alike : {B : Type 0} (D E : Walk B) → FillAlike D E → (k : ℕ) (a b c d : HeapState B) (u : ℕ) (us ws : List ℕ) → AreTwins a b → FillsWants D k a u us c → FillsWants E k b u ws d → AreTwins c d × (us ≡ ws)
wants_alike {B} D E alike zero a b c d u us ws like first second =
    (subst (λ h. AreTwins h d) first.1 (subst (λ h. AreTwins a h) second.1 like), first.0 ∙ sym second.0)
wants_alike {B} D E alike (suc k) a b c d u us ws like first second =
    let before = wants_alike D E alike k a b first.0 second.0 u first.2 second.2 like first.4 second.4 in
    let same : second.1 ≡ first.1 = some_same _ _ (sym second.5 ∙ (sym (want_like first.0 second.0 before.0 u) ∙ first.5)) in
    let last = alike first.0 second.0 c d first.1 first.3 second.3 before.0 first.6 (subst (λ v. E second.0 v second.3 d) same second.6) in
    (last.0, first.7 ∙ ((λ i. before.1 i ++ last.1 i) ∙ sym second.7))

-- where u wants nothing, the other walk has gone no further
no_more : {B : Type 0} (D E : Walk B) → FillAlike D E → (k l : ℕ) (a b c d : HeapState B) (u : ℕ) (us ws : List ℕ) → AreTwins a b → FillsWants D k a u us c → want_of c u ≡ None → FillsWants E l b u ws d → k < l → ⊥
no_more D E alike k l a b c d u us ws like first ready second more =
    let so = begins E k l b u ws d more second in
    let mid = wants_alike D E alike k a b c so.mid u us so.us like first so.wants in
    never so.input (sym (want_like c so.mid mid.0 u ∙ so.wanted) ∙ ready)
  where
    never : (v : ℕ) → Some v ≡ None → ⊥
    never v q = cc

-- two walks that end
then_alike : {B : Type 0} (D E : Walk B) → FillAlike D E → FillAlike (FillsThen D) (FillsThen E)
then_alike {B} D E alike a b c d u us ws like first second = elim (cases first.wanted second.wanted) [
  | inl less ↦ absurd (no_more D E alike first.wanted second.wanted a b first.mid second.mid u first.before second.before like first.wants first.ready second.wants less)
  | inr other ↦ elim other [
    | inl more ↦ absurd (no_more E D (atwins_turned D E alike) second.wanted first.wanted b a second.mid first.mid u second.before first.before (twins_turned a b like) second.wants second.ready first.wants more)
    | inr same ↦
        let mid = wants_alike D E alike first.wanted a b first.mid second.mid u first.before second.before like first.wants (subst (λ k. FillsWants E k b u second.before second.mid) (sym same) second.wants) in
        (fills_like first.mid second.mid c d u mid.0 first.fill second.fill first.laws second.laws, first.order ∙ (ap (λ vs. vs ++ u ∷ []) mid.1 ∙ sym second.order))
  ]
]

pub walks_alike : {B : Type 0} (n m : ℕ) → FillAlike {B = B} (FillsInOrder n) (FillsInOrder m)
walks_alike zero m a b c d u us ws like first second = absurd first
walks_alike (suc n) zero a b c d u us ws like first second = absurd second
walks_alike {B} (suc n) (suc m) a b c d u us ws like first second = then_alike (FillsInOrder n) (FillsInOrder m) (walks_alike n m) a b c d u us ws like first second

-- ---- one that ends and one that stops

module _ {B : Type 0} (D E S : Walk B) (alike : FillAlike D E) (never : (a b c d : HeapState B) (u : ℕ) (us ws : List ℕ) → AreTwins a b → D a u us c → S b u ws d → ⊥) (a b c d : HeapState B) (u : ℕ) (us ws : List ℕ) (like : AreTwins a b) (ends : FillsThen D a u us c) (stops : StopsThen E S b u ws d) where
  -- both have filled as much
  at_end : ends.wanted ≡ stops.wanted → ⊥
  at_end same =
      let mid = wants_alike D E alike ends.wanted a b ends.mid stops.mid u ends.before stops.before like ends.wants (subst (λ k. FillsWants E k b u stops.before stops.mid) (sym same) stops.wants) in
      elim stops.stop [
        | inl here ↦ omega (arith, free_like ends.mid stops.mid mid.0, here.full, ends.room)
        | inr below ↦ unwanted below.input (sym below.wants ∙ (sym (want_like ends.mid stops.mid mid.0 u) ∙ ends.ready))
      ]
    where
      unwanted : (v : ℕ) → Some v ≡ None → ⊥
      unwanted v q = cc

  -- the one that stops has filled less
  midway : stops.wanted < ends.wanted → ⊥
  midway less =
      let so = begins D stops.wanted ends.wanted a u ends.before ends.mid less ends.wants in
      let mid = wants_alike D E alike stops.wanted a b so.mid stops.mid u so.us stops.before like so.wants stops.wants in
      elim stops.stop [
        | inl here ↦ unwanted so.input (sym so.wanted ∙ (want_like so.mid stops.mid mid.0 u ∙ here.ready))
        | inr below ↦
            let same : below.input ≡ so.input = some_same _ _ (sym below.wants ∙ (sym (want_like so.mid stops.mid mid.0 u) ∙ so.wanted)) in
            never so.mid stops.mid so.later d so.input so.filled stops.after mid.0 so.fills (subst (λ v. S stops.mid v stops.after d) same below.stops)
      ]
    where
      unwanted : (v : ℕ) → Some v ≡ None → ⊥
      unwanted v q = cc

  not_both : ⊥
  not_both = elim (cases ends.wanted stops.wanted) [
    | inl less ↦ no_more D E alike ends.wanted stops.wanted a b ends.mid stops.mid u ends.before stops.before like ends.wants ends.ready stops.wants less
    | inr other ↦ elim other [
      | inl more ↦ midway more
      | inr same ↦ at_end same
    ]
  ]

like_never : {B : Type 0} (n m : ℕ) (a b c d : HeapState B) (u : ℕ) (us ws : List ℕ) → AreTwins a b → FillsInOrder n a u us c → StopsInOrder m b u ws d → ⊥
like_never zero m a b c d u us ws like ends stops = ends
like_never (suc n) zero a b c d u us ws like ends stops = stops
like_never {B} (suc n) (suc m) a b c d u us ws like ends stops =
    not_both (FillsInOrder n) (FillsInOrder m) (StopsInOrder m) (walks_alike n m) (like_never n m) a b c d u us ws like ends stops

-- where the walk from a heap ends, no walk from there stops
pub ends_or_stops : {B : Type 0} (n m : ℕ) (h new stop : HeapState B) (u : ℕ) (us ws : List ℕ) → FillsInOrder n h u us new → StopsInOrder m h u ws stop → ⊥
ends_or_stops n m h new stop u us ws ends stops = like_never n m h h new stop u us ws (twins_none h) ends stops
