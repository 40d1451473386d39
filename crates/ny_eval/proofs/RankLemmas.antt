-- Units stand no higher above one another than there are places for units.
use Rattle.std.proofs.Common.{◌≡◌, ℕ, zero, suc, ◌+◌, ◌<◌, ◌≤◌, Bool, true, false, nat_lt, length, Some, refl, ap, arith}
use Rattle.std.proofs.lemmas.Bool.{lt-ltb, ltb-true, ltb-false}
use Rattle.ny_heap.specs.Heap.{Node, HeapState, node_at}
use Rattle.ny_heap.specs.Reach.{Uses, HeapLaws}
use Rattle.ny_hands.proofs.OptionLemmas.{some_there}
use Rattle.ny_hands.proofs.HeapLemmas.{there_within}

abbrev one_if : Bool → ℕ
one_if true = 1
one_if false = 0

-- how many of the first places stand lower than b
abbrev lower : (ℕ → ℕ) → ℕ → ℕ → ℕ
lower rank b zero = 0
lower rank b (suc n) = one_if (nat_lt (rank n) b) + lower rank b n

one_most : (t : Bool) → one_if t ≤ 1
one_most true = omega arith
one_most false = omega arith

is_lower : (a b : ℕ) → a < b → one_if (nat_lt a b) ≡ 1
is_lower a b less = ap (λ t. one_if t) (lt-ltb a b less)

not_lower : (a b : ℕ) → b ≤ a → one_if (nat_lt a b) ≡ 0
not_lower a b le = by (nat_lt a b) refl
  where
    by : (t : Bool) → nat_lt a b ≡ t → one_if t ≡ 0
    by true is = absurd (omega (arith, ltb-true a b is, le))
    by false is = refl

one_more : (c a b : ℕ) → a ≤ b → one_if (nat_lt c a) ≤ one_if (nat_lt c b)
one_more c a b le = by (nat_lt c a) refl
  where
    by : (t : Bool) → nat_lt c a ≡ t → one_if t ≤ one_if (nat_lt c b)
    by true is = omega (arith, is_lower c b (omega (arith, ltb-true c a is, le)))
    by false is = omega arith

lower_more : (rank : ℕ → ℕ) (a b n : ℕ) → a ≤ b → lower rank a n ≤ lower rank b n
lower_more rank a b zero le = omega arith
lower_more rank a b (suc n) le = omega (arith, one_more (rank n) a b le, lower_more rank a b n le)

lower_less : (rank : ℕ → ℕ) (a b n v : ℕ) → a ≤ b → v < n → a ≤ rank v → rank v < b → lower rank a n < lower rank b n
lower_less rank a b zero v le within high low = absurd (omega (arith, within))
lower_less rank a b (suc n) v le within high low = by (λ less. lower_less rank a b n v le less high low) (nat_lt v n) refl
  where
    by : (v < n → lower rank a n < lower rank b n) → (t : Bool) → nat_lt v n ≡ t → lower rank a (suc n) < lower rank b (suc n)
    by rest true is = omega (arith, one_more (rank n) a b le, rest (ltb-true v n is))
    by rest false is =
        let same : v ≡ n = omega (arith, within, ltb-false v n is) in
        let at : rank v ≡ rank n = ap rank same in
        omega (arith, not_lower (rank n) a (omega (arith, high, at)), is_lower (rank n) b (omega (arith, low, at)), lower_more rank a b n le)

lower_most : (rank : ℕ → ℕ) (b n : ℕ) → lower rank b n ≤ n
lower_most rank b zero = omega arith
lower_most rank b (suc n) = omega (arith, one_most (nat_lt (rank n) b), lower_most rank b n)

lower_within : (rank : ℕ → ℕ) (b n v : ℕ) → v < n → b ≤ rank v → lower rank b n < n
lower_within rank b zero v within high = absurd (omega (arith, within))
lower_within rank b (suc n) v within high = by (λ less. lower_within rank b n v less high) (nat_lt v n) refl
  where
    by : (v < n → lower rank b n < n) → (t : Bool) → nat_lt v n ≡ t → lower rank b (suc n) < suc n
    by rest true is = omega (arith, one_most (nat_lt (rank n) b), rest (ltb-true v n is))
    by rest false is =
        let same : v ≡ n = omega (arith, within, ltb-false v n is) in
        let at : rank v ≡ rank n = ap rank same in
        omega (arith, not_lower (rank n) b (omega (arith, high, at)), lower_most rank b n)

-- where a unit stands: how many stand lower
module _ {B : Type 0} (h : HeapState B) (laws : HeapLaws h) where
  pub compressed : ℕ → ℕ
  compressed v = lower laws.rank (laws.rank v) (length h.nodes)

  pub compressed_falls : (a b : ℕ) → Uses h a b → compressed b < compressed a
  unfolding compressed
  compressed_falls a b uses =
      let y = some_there (node_at h b) (laws.finds a b uses) in
      let less = laws.falls a b uses in
      lower_less laws.rank (laws.rank b) (laws.rank a) (length h.nodes) b (omega (arith, less)) (there_within h.nodes b y.0 y.1) (omega arith) less

  pub compressed_within : (u : ℕ) (x : Node B) → node_at h u ≡ Some x → compressed u < length h.nodes
  unfolding compressed
  compressed_within u x there = lower_within laws.rank (laws.rank u) (length h.nodes) u (there_within h.nodes u x there) (omega arith)
