-- Where an envelope stands among its knots.
use Rattle.std.proofs.Common.{◌≡◌, inl, inr, ℕ, suc, ◌+◌, ◌-◌, ◌<◌, ◌≤◌, List, [], ◌∷◌, length, get_or, map, drop, refl, sym, ap, subst, ◌∙◌, ℤ, pos, cond, arith}
use Rattle.std.specs.List.{range_with_len}
use Rattle.std.proofs.lemmas.Bool.{cases_lt, lt-leb}
use Rattle.std.proofs.lemmas.List.{get_or-map, length-map}
use Rattle.std.proofs.Math.Seq.{drop-cons}
use Rattle.ny_num.specs.Leaves.{envelope_value, envelope_from, on_line}
use Rattle.ny_num.proofs.WrittenLists.{same_places}
use Rattle.ny_units.specs.declared.leaves.Knot.{Knot}
use Rattle.ny_units.specs.Envelopes.{corner, corners, corner_at, last_place, StandsAt}

-- a knot of the list is the corner of that number
pub corner_is : (knots : List Knot) (i : ℕ) (d : Knot) → i < length knots → corner_at (corners knots) i ≡ corner (get_or knots i d)
corner_is knots i d within = get_or-map corner knots i d (0, pos 0) within

-- before the last knot there is a next one
pub next_inside : (ks : List (ℕ × ℤ)) (s n : ℕ) → StandsAt ks s n → n < last_place ks → s + 1 < length ks
next_inside ks s n stands before = elim (cases_lt (s + 1) (length ks)) [
  | inl less ↦ less
  | inr more ↦
      let last : length ks - 1 ≡ s = omega (arith, stands.inside) in
      let place : last_place ks ≡ (corner_at ks s).0 = ap (λ i. (corner_at ks i).0) last in
      absurd (omega (arith, place, stands.begun))
]

-- one that stands somewhere stands there at each later place too
pub stands_later : (ks : List (ℕ × ℤ)) (s n m : ℕ) → n ≤ m → StandsAt ks s n → StandsAt ks s m
stands_later ks s n m later stands = record { inside = stands.inside; begun = omega (arith, stands.begun); follows = λ p more. stands.follows p (omega arith) }

-- up to the next knot the envelope is the line to it
pub on_segment : (ks : List (ℕ × ℤ)) (s n m : ℕ) → StandsAt ks s n → s + 1 < length ks → n ≤ m → m < (corner_at ks (s + 1)).0
    → envelope_value ks m ≡ on_line (corner_at ks s) (corner_at ks (s + 1)) m
on_segment ks s n m stands inside later before =
    stands.follows m later
    ∙ ap (λ rest. envelope_from (corner_at ks s) rest m) (drop-cons ks (s + 1) (0, pos 0) inside)
    ∙ ap (λ b. cond b (envelope_from (corner_at ks (s + 1)) (drop (suc (s + 1)) ks) m) (on_line (corner_at ks s) (corner_at ks (s + 1)) m)) (lt-leb (corner_at ks (s + 1)).0 m before)

-- a run of it
pub run_on_segment : (ks : List (ℕ × ℤ)) (s n len : ℕ) (from to : ℕ × ℤ) → StandsAt ks s n → s + 1 < length ks → corner_at ks s ≡ from → corner_at ks (s + 1) ≡ to → n + len ≤ to.0
    → map (on_line from to) (range_with_len n len) ≡ map (envelope_value ks) (range_with_len n len)
run_on_segment ks s n len from to stands inside is_from is_to before =
    same_places (on_line from to) (envelope_value ks) n n len (pos 0) (λ k h.
    sym (on_segment ks s n (n + k) stands inside (omega arith) (subst (λ (p : ℕ × ℤ). n + k < p.0) (sym is_to) (omega arith))
    ∙ ap (λ p. on_line p (corner_at ks (s + 1)) (n + k)) is_from ∙ ap (λ p. on_line from p (n + k)) is_to))

-- the next knot, as it is read from the slice
pub record HasNext (knots : List Knot) (s n : ℕ) (next : Knot) : Type 0 where
  pub inside : s + 1 < length knots
  pub is : corner_at (corners knots) (s + 1) ≡ corner next
  pub after : n < next.t

pub has_next : (knots : List Knot) (s n : ℕ) (next : Knot) → StandsAt (corners knots) s n → n < last_place (corners knots)
    → (s + 1 < length knots → n < (corner_at (corners knots) (s + 1)).0) → next ≡ get_or knots (s + 1) next → HasNext knots s n next
has_next knots s n next stands before later read =
    let inside : s + 1 < length knots = subst (λ m. s + 1 < m) (length-map knots corner) (next_inside (corners knots) s n stands before) in
    let is : corner_at (corners knots) (s + 1) ≡ corner next = corner_is knots (s + 1) next inside ∙ ap corner (sym read) in
    record { inside = inside; is = is; after = subst (λ (p : ℕ × ℤ). n < p.0) is (later inside) }

from_first : (ks : List (ℕ × ℤ)) (m : ℕ) → 0 < length ks → envelope_value ks m ≡ envelope_from (corner_at ks 0) (drop 1 ks) m
unfolding envelope_value
from_first [] m some = absurd (omega arith)
from_first (k ∷ ks) m some = refl

-- at first an envelope stands at its first knot
pub stands_first : (knots : List Knot) → 0 < length knots → (corner_at (corners knots) 0).0 ≡ 0 → StandsAt (corners knots) 0 0
stands_first knots some first =
    let inside : 0 < length (corners knots) = omega (arith, length-map knots corner, some) in
    record { inside = inside; begun = omega (arith, first); follows = λ m later. from_first (corners knots) m inside }
