-- Changes that leave alone what stands higher, one after another.
use Rattle.std.proofs.Common.{◌≡◌, inl, inr, ℕ, zero, suc, ◌+◌, ◌≤◌, Some, sum, refl, ap, subst, ◌∙◌, arith}
use Rattle.ny_check.specs.Code.{Code}
use Rattle.ny_heap.specs.Heap.{Node, HeapState, node_at}
use Rattle.ny_heap.specs.Reach.{Uses, Read, Hold, ReadOutside, LeadsIn, HeapLaws}
use Rattle.ny_hands.specs.Ranks.{IsRank}
use Rattle.ny_hands.specs.declared.branch.Branch.{Branch}
use Rattle.ny_hands.proofs.OptionLemmas.{same_at}
use Rattle.ny_trace.specs.Heights.{Ranks}
use Rattle.ny_walk.specs.Below.{IsHeldAbove, Continues, Below}

-- the last step of a walk
last_step : {B : Type 0} (h : HeapState B) (n u v : ℕ) → LeadsIn h (suc n) u v → (w : ℕ) × Uses h w v
last_step h zero u v walk = (u, subst (λ x. Uses h u x) walk.2 walk.1)
last_step h (suc n) u v walk = last_step h n walk.0 v walk.2

-- each unit is held by a sound in a caller's hands, or by a unit that stands higher
pub held_above : {B : Type 0} (h : HeapState B) → HeapLaws h → (rank : ℕ → ℕ) → IsRank h rank → (v : ℕ) (x : Node B) → node_at h v ≡ Some x → IsHeldAbove h rank (rank v + 1) v
held_above h laws rank falls v x there = let reach = (laws.nodes v x there).reached in by_walk reach.2.0 reach.0 reach.1 reach.2.1
  where
    by_walk : (n u : ℕ) → ReadOutside h u → LeadsIn h n u v → IsHeldAbove h rank (rank v + 1) v
    by_walk zero u outside e = inl (subst (λ w. ReadOutside h w) e outside)
    by_walk (suc n) u outside walk =
        let user = last_step h n u v walk in
        inr (record { user = user.0; higher = omega (arith, falls user.0 v user.1); uses = user.1 })

-- a user that is there as it was uses the same
pub uses_same : {B : Type 0} (old new : HeapState B) (u v : ℕ) → Uses old u v → ((x : Node B) → node_at old u ≡ Some x → node_at new u ≡ Some x) → Uses new u v
uses_same old new u v (Read r) same = Read (record { unit = r.unit; there = same r.unit r.there; place = r.place; reader = r.reader; input = r.input; of = r.of })
uses_same old new u v (Hold r) same = Hold (record { unit = r.unit; there = same r.unit r.there; place = r.place; part = r.part; waits = r.waits; position = r.position; captured = r.captured; one = r.one; of = r.of })

pub user_there : {B : Type 0} (h : HeapState B) (u v : ℕ) → Uses h u v → (x : Node B) × (node_at h u ≡ Some x)
user_there h u v (Read r) = (r.unit, r.there)
user_there h u v (Hold r) = (r.unit, r.there)

pub held_weaker : {B : Type 0} (h : HeapState B) (rank : ℕ → ℕ) (a n v : ℕ) → a ≤ n → IsHeldAbove h rank n v → IsHeldAbove h rank a v
held_weaker h rank a n v le (inl outside) = inl outside
held_weaker h rank a n v le (inr used) = inr (record { user = used.user; higher = omega (arith, used.higher); uses = used.uses })

continues_more : {B : Type 0} (x y z : Node B) → Continues x y → Continues y z → Continues x z
continues_more x y z p q = record { timing = q.timing ∙ p.timing; filled = omega (arith, p.filled, q.filled); outside = q.outside ∙ p.outside }

module _ (code : Code) (tall : ℕ → ℕ) where
  pub Below-none : (h : HeapState Branch) (rank : ℕ → ℕ) (n : ℕ) → Ranks tall h rank → Below code tall h h rank n
  Below-none h rank n ranks = record {
    later = rank;
    ranks = ranks;
    pool = refl;
    block = refl;
    same = λ v x there le. (there, refl);
    held = λ v x there by. (x, there, refl, record { timing = refl; filled = omega arith; outside = refl });
    high = λ v y there le. (y, there, refl);
    marks = λ v j. refl;
    means = λ w means. record { later = w; means = means; extends = λ v x there by. refl };
  }

  -- what held a unit holds it later
  held_later : (old mid : HeapState Branch) (rank : ℕ → ℕ) (a n v : ℕ) (x y : Node Branch) → (first : Below code tall old mid rank a) → a ≤ n → node_at old v ≡ Some x → node_at mid v ≡ Some y → Continues x y → IsHeldAbove old rank n v → IsHeldAbove mid first.later n v
  held_later old mid rank a n v x y first le there after on (inl outside) =
      inl (record { unit = y; there = after; some = omega (arith, outside.some, on.outside, ap (λ (z : Node Branch). sum z.outside) (same_at (node_at old v) outside.unit x outside.there there)) })
  held_later old mid rank a n v x y first le there after on (inr used) =
      let unit = user_there old used.user v used.uses in
      let same = first.same used.user unit.0 unit.1 (omega (arith, used.higher)) in
      inr (record {
        user = used.user;
        higher = omega (arith, used.higher, same.1);
        uses = uses_same old mid used.user v used.uses (λ z at. subst (λ q. node_at mid used.user ≡ Some q) (same_at (node_at old used.user) unit.0 z unit.1 at) same.0);
      })

  -- one change after another
  pub Below-more : (old mid new : HeapState Branch) (rank : ℕ → ℕ) (a n : ℕ) → (first : Below code tall old mid rank a) → a ≤ n → Below code tall mid new first.later n → Below code tall old new rank n
  Below-more old mid new rank a n first le second = record {
    later = second.later;
    ranks = second.ranks;
    pool = second.pool ∙ first.pool;
    block = second.block ∙ first.block;
    same = λ v x there high.
        let one = first.same v x there (omega arith) in
        let two = second.same v x one.0 (omega (arith, one.1)) in
        (two.0, two.1 ∙ one.1);
    held = λ v x there by.
        let one = first.held v x there (held_weaker old rank a n v le by) in
        let two = second.held v one.0 one.1 (held_later old mid rank a n v x one.0 first le there one.1 one.3 by) in
        (two.0, two.1, two.2 ∙ one.2, continues_more x one.0 two.0 one.3 two.3);
    high = λ v z there high.
        let two = second.high v z there high in
        let one = first.high v two.0 two.1 (omega (arith, two.2)) in
        (one.0, one.1, two.2 ∙ one.2);
    marks = λ v j. second.marks v j ∙ first.marks v j;
    means = λ w means.
        let one = first.means w means in
        let two = second.means one.later one.means in
        record {
          later = two.later;
          means = two.means;
          extends = λ v x there by.
              let weaker = held_weaker old rank a n v le by in
              let mine = first.held v x there weaker in
              two.extends v mine.0 mine.1 (held_later old mid rank a n v x mine.0 first le there mine.1 mine.3 by) ∙ one.extends v x there weaker;
        };
  }

  pub Below-wider : (old new : HeapState Branch) (rank : ℕ → ℕ) (a n : ℕ) → a ≤ n → Below code tall old new rank a → Below code tall old new rank n
  Below-wider old new rank a n le b = record {
    later = b.later;
    ranks = b.ranks;
    pool = b.pool;
    block = b.block;
    same = λ v x there high. b.same v x there (omega arith);
    held = λ v x there by. b.held v x there (held_weaker old rank a n v le by);
    high = λ v y there high. b.high v y there (omega arith);
    marks = b.marks;
    means = λ w means. let m = b.means w means in record { later = m.later; means = m.means; extends = λ v x there by. m.extends v x there (held_weaker old rank a n v le by) };
  }
