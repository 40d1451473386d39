-- Blocks by their lists and numbers.
use Rattle.std.proofs.Common.{◌≡◌, ◌≢◌, inl, inr, ℕ, ◌<◌, ◌≤◌, Bool, true, false, List, length, get_or, set, Option, None, Some, IsSome, ◌⊎◌, refl, sym, ap, ◌∙◌, arith}
use Rattle.std.proofs.lemmas.List.{get_or_past}
use Rattle.std.proofs.lemmas.List.Sums.{passes_at_first, fails_before_first}
use Rattle.std.proofs.lemmas.List.Folds.{position_or_len-set}
use Rattle.std.proofs.lemmas.Bool.{cases_lt, true≢false, eq-eqb}
use Rattle.std.proofs.lemmas.Bool.Decides.{nat_tests}
use Rattle.ny_list.specs.declared.chain.Link.{Link}
use Rattle.ny_list.specs.declared.chain.Span.{Span}
use Rattle.ny_list.specs.Chain.{Home, nth, home_of, home_at, is_block, place_of, IsChained}
use Rattle.ny_list.proofs.IndexLemmas.{same_some, none_some}

pub pair_first : {a b c d : ℕ} → nth a b ≡ nth c d → a ≡ c
pair_first e = ap (λ (p : Home). p.list) (same_some e)

pub pair_second : {a b c d : ℕ} → nth a b ≡ nth c d → b ≡ d
pair_second e = ap (λ (p : Home). p.number) (same_some e)

-- what the test says
pub block_test : (l j : ℕ) (o : Option Link) → is_block l j o ≡ true → home_of o ≡ nth l j
block_test l j None e = absurd (true≢false (sym e))
block_test l j (Some x) e =
    let a : x.list ≡ l = grind (arith, nat_tests) in
    let b : x.number ≡ j = grind (arith, nat_tests) in
    λ i. nth (a i) (b i)

pub is_tested : (l j : ℕ) (o : Option Link) → home_of o ≡ nth l j → is_block l j o ≡ true
is_tested l j None e = absurd (none_some e)
is_tested l j (Some x) e =
    let a = pair_first e in
    let b = pair_second e in
    rw (eq-eqb x.list l a, eq-eqb x.number j b) refl

pub home_some : (o : Option Link) (p : Home) → home_of o ≡ Some p → IsSome o
home_some None p e = absurd (none_some e)
home_some (Some x) p e = refl

pub home_within : (links : List (Option Link)) (b : ℕ) (p : Home) → home_at links b ≡ Some p → b < length links
home_within links b p e =
    elim (cases_lt b (length links)) [
      | inl inside ↦ inside
      | inr past ↦ absurd (none_some (sym (ap home_of (get_or_past links b None past)) ∙ e))
    ]

-- a block that is found is that block
pub place_home : (links : List (Option Link)) (l j : ℕ) → place_of links l j < length links → home_at links (place_of links l j) ≡ nth l j
place_home links l j h = block_test l j (get_or links (place_of links l j) None) (passes_at_first (is_block l j) links None h)

-- a block that is there is found
pub place_found : (links : List (Option Link)) (l j b : ℕ) → home_at links b ≡ nth l j → place_of links l j < length links
place_found links l j b e =
    elim (cases_lt b (place_of links l j)) [
      | inl before ↦ absurd (true≢false (sym (is_tested l j (get_or links b None) e) ∙ fails_before_first (is_block l j) links b None before))
      | inr after ↦ let h = home_within links b (record { list = l; number = j }) e in omega (arith, h)
    ]

module _ (links : List (Option Link)) (spans : ℕ → Option Span) (chain : IsChained links spans) where
  pub place_is : (l j b : ℕ) → home_at links b ≡ nth l j → place_of links l j ≡ b
  place_is l j b e = chain.once (place_of links l j) b l j (place_home links l j (place_found links l j b e)) e

-- a block that is not there is not found
pub place_none : (links : List (Option Link)) (l j : ℕ) → ((b : ℕ) → home_at links b ≢ nth l j) → length links ≤ place_of links l j
place_none links l j none =
    elim (cases_lt (place_of links l j) (length links)) [
      | inl inside ↦ absurd (none (place_of links l j) (place_home links l j inside))
      | inr past ↦ past
    ]

-- the same block where the same blocks are there
pub place_same : (old new : List (Option Link)) (spans : ℕ → Option Span) (l j : ℕ) → IsChained new spans → length new ≡ length old
    → ((b : ℕ) → home_at old b ≡ nth l j → home_at new b ≡ nth l j)
    → ((b : ℕ) → home_at new b ≡ nth l j → home_at old b ≡ nth l j)
    → (place_of new l j ≡ place_of old l j) ⊎ ((length new ≤ place_of new l j) × (length old ≤ place_of old l j))
place_same old new spans l j chain len there back =
    elim (cases_lt (place_of old l j) (length old)) [
      | inl inside ↦ inl (place_is new spans chain l j (place_of old l j) (there (place_of old l j) (place_home old l j inside)))
      | inr past ↦ inr (place_none new l j (λ b e. let h = place_found old l j b (back b e) in omega (arith, h, past)), past)
    ]

pub not_block : (l j : ℕ) (o : Option Link) → (home_of o ≢ nth l j) → is_block l j o ≡ false
not_block l j o ne = by_test (is_block l j o) refl
  where
    by_test : (b : Bool) → is_block l j o ≡ b → is_block l j o ≡ false
    by_test true e = absurd (ne (block_test l j o e))
    by_test false e = e

-- a change of one block that is block j of list l neither before nor after
pub place_other : (links : List (Option Link)) (l j b : ℕ) (o : Option Link) → home_at links b ≢ nth l j → home_of o ≢ nth l j → place_of (set links b o) l j ≡ place_of links l j
place_other links l j b o before after =
    position_or_len-set (is_block l j) links b o None (not_block l j o after ∙ sym (not_block l j (get_or links b None) before))

pub other_list : {l j m k : ℕ} → m ≢ l → nth l j ≢ nth m k
other_list ne e = ne (sym (pair_first e))

pub other_number : {l j m k : ℕ} → k ≢ j → nth l j ≢ nth m k
other_number ne e = ne (sym (pair_second e))
