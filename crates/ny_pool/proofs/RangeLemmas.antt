-- Parts of a list, of one length and apart, after a write to one of them.
use Rattle.std.proofs.Common.{◌≡◌, ◌≢◌, ◌⊎◌, inl, inr, ℕ, ◌+◌, ◌*◌, ◌-◌, ◌<◌, ◌≤◌, List, ◌++◌, length, get_or, set, take, drop, refl, sym, ap, ◌∙◌, arith, length-set, length-append}
use Rattle.std.proofs.lemmas.List.{same_lists, get_or-set_same, get_or-set_other, get_or_append_left, get_or-append_right, get_or-take, get_or-drop, length-take, length-drop}
use Rattle.std.proofs.lemmas.Nat.{mul-le}
use Rattle.std.proofs.lemmas.Bool.{cases_eq, cases_lt}
use Rattle.std.specs.List.{slice_range}

-- part b ends within n parts
pub part_ends : (len n b : ℕ) → b < n → b * len + len ≤ n * len
part_ends len n b h = omega (arith, mul-le (b + 1) len n len (omega arith) (omega arith))

-- two parts are apart
pub parts_apart : (len k b : ℕ) → k ≢ b → (k * len + len ≤ b * len) ⊎ (b * len + len ≤ k * len)
parts_apart len k b ne =
    elim (cases_lt k b) [
      | inl before ↦ inl (part_ends len b k before)
      | inr after ↦ inr (part_ends len k b (omega arith))
    ]

module _ {T : Type 0} where
  pub get_or-range : (xs : List T) (c len k : ℕ) (d : T) → k < len → get_or (slice_range xs c (c + len)) k d ≡ get_or xs (c + k) d
  get_or-range xs c len k d h = get_or-take (c + len - c) (drop c xs) k d (omega arith) ∙ get_or-drop c xs k d

  pub length-range : (xs : List T) (c len : ℕ) → c + len ≤ length xs → length (slice_range xs c (c + len)) ≡ len
  length-range xs c len h = omega (arith, length-take (c + len - c) (drop c xs), length-drop c xs)

  -- two parts are the same where their items are
  pub same_range : (xs ys : List T) (c len : ℕ) → c + len ≤ length xs → c + len ≤ length ys → ((k : ℕ) (d : T) → k < len → get_or ys (c + k) d ≡ get_or xs (c + k) d) → slice_range ys c (c + len) ≡ slice_range xs c (c + len)
  same_range xs ys c len fits sizes same =
      same_lists _ _ (length-range ys c len sizes ∙ sym (length-range xs c len fits)) (λ k d h.
      let below : k < len = omega (arith, length-range ys c len sizes) in
      get_or-range ys c len k d below ∙ same k d below ∙ sym (get_or-range xs c len k d below))

  pub length-over : (items ys : List T) (at : ℕ) → at + length ys ≤ length items → length (take at items ++ (ys ++ drop (at + length ys) items)) ≡ length items
  length-over items ys at fits = omega (arith, length-append (take at items) (ys ++ drop (at + length ys) items), length-append ys (drop (at + length ys) items), length-take at items, length-drop (at + length ys) items)

  -- a write over one part leaves another
  pub other-over : (items ys : List T) (at len c : ℕ) → length ys ≡ len → at + len ≤ length items → c + len ≤ length items → (c + len ≤ at) ⊎ (at + len ≤ c) → slice_range (take at items ++ (ys ++ drop (at + length ys) items)) c (c + len) ≡ slice_range items c (c + len)
  other-over items ys at len c size fits inside side =
      same_range items _ c len inside (omega (arith, length-over items ys at (omega arith))) (λ k d below. by_side k d below side)
    where
      by_side : (k : ℕ) (d : T) → k < len → (c + len ≤ at) ⊎ (at + len ≤ c) → get_or (take at items ++ (ys ++ drop (at + length ys) items)) (c + k) d ≡ get_or items (c + k) d
      by_side k d h (inl before) = get_or_append_left (take at items) _ d (c + k) (omega (arith, length-take at items)) ∙ get_or-take at items (c + k) d (omega arith)
      by_side k d h (inr after) =
          let e : at + length ys + (c + k - at - length ys) ≡ c + k = omega arith in
          get_or-append_right (take at items) (ys ++ drop (at + length ys) items) at (c + k) d (omega (arith, length-take at items)) (omega arith)
          ∙ get_or-append_right ys (drop (at + length ys) items) (length ys) (c + k - at) d refl (omega arith)
          ∙ get_or-drop (at + length ys) items (c + k - at - length ys) d ∙ ap (λ n. get_or items n d) e

  -- a part that was written over
  pub here-over : (items ys : List T) (at len : ℕ) → length ys ≡ len → at + len ≤ length items → slice_range (take at items ++ (ys ++ drop (at + length ys) items)) at (at + len) ≡ ys
  here-over items ys at len size fits =
      let sizes = length-range (take at items ++ (ys ++ drop (at + length ys) items)) at len (omega (arith, length-over items ys at (omega arith))) in
      same_lists _ _ (sizes ∙ sym size) (λ k d h.
      let below : k < len = omega arith in
      let e : at + k - at ≡ k = omega arith in
      get_or-range _ at len k d below
      ∙ get_or-append_right (take at items) (ys ++ drop (at + length ys) items) at (at + k) d (omega (arith, length-take at items)) (omega arith)
      ∙ ap (λ n. get_or (ys ++ drop (at + length ys) items) n d) e
      ∙ get_or_append_left ys (drop (at + length ys) items) d k (omega arith))

  -- a write of one item leaves another part
  pub other-set : (items : List T) (at len i c : ℕ) (v : T) → i < len → c + len ≤ length items → (c + len ≤ at) ⊎ (at + len ≤ c) → slice_range (set items (at + i) v) c (c + len) ≡ slice_range items c (c + len)
  other-set items at len i c v h inside side =
      same_range items _ c len inside (omega (arith, length-set items (at + i) v)) (λ k d below. get_or-set_other items (at + i) (c + k) v d (by_side k below side))
    where
      by_side : (k : ℕ) → k < len → (c + len ≤ at) ⊎ (at + len ≤ c) → c + k ≢ at + i
      by_side k below (inl before) e = absurd (omega arith)
      by_side k below (inr after) e = absurd (omega arith)

  -- a part of which one item was written
  pub here-set : (items : List T) (at len i : ℕ) (v : T) → i < len → at + len ≤ length items → slice_range (set items (at + i) v) at (at + len) ≡ set (slice_range items at (at + len)) i v
  here-set items at len i v h fits =
      let sizes = length-range items at len fits in
      let later = length-range (set items (at + i) v) at len (omega (arith, length-set items (at + i) v)) in
      same_lists _ _ (omega (arith, length-set (slice_range items at (at + len)) i v)) (λ k d inside.
      let below : k < len = omega arith in
      get_or-range (set items (at + i) v) at len k d below
      ∙ elim (cases_eq k i) [
        | inl e ↦ ap (λ j. get_or (set items (at + i) v) (at + j) d) e ∙ get_or-set_same items (at + i) v d (omega arith) ∙ sym (ap (λ j. get_or (set (slice_range items at (at + len)) i v) j d) e ∙ get_or-set_same (slice_range items at (at + len)) i v d (omega arith))
        | inr ne ↦ get_or-set_other items (at + i) (at + k) v d (λ e. ne (omega arith)) ∙ sym (get_or-set_other (slice_range items at (at + len)) i k v d ne ∙ get_or-range items at len k d below)
      ])
