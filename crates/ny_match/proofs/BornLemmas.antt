-- What an evaluation leaves, step by step: the units that it makes are the rows that the plan makes.
use Rattle.std.proofs.Common.{◌≡◌, ◌≢◌, ◌⊎◌, inl, inr, ℕ, ◌<◌, ◌≤◌, List, length, slice_index, Option, None, Some, refl, sym, ap, subst, ◌∙◌, arith}
use Rattle.std.proofs.lemmas.Bool.{cases_eq}
use Rattle.ny_check.specs.Code.{Code}
use Rattle.ny_heap.specs.declared.sound.Sound.{Sound}
use Rattle.ny_heap.specs.Heap.{Node, HeapState, node_at}
use Rattle.ny_heap.specs.Reach.{HeapLaws}
use Rattle.ny_heap.specs.Steps.{without_sounds, AddsNode}
use Rattle.ny_hands.specs.declared.branch.Branch.{Branch}
use Rattle.ny_hands.specs.Hands.{IsLike}
use Rattle.ny_hands.proofs.OptionLemmas.{same_at, none_some}
use Rattle.ny_hands.proofs.HandLemmas.{AreKept}
use Rattle.ny_hands.proofs.MarkLemmas.{spent_like}
use Rattle.ny_trace.proofs.HeightLemmas.{ComesFrom}
use Rattle.ny_plan.specs.Rows.{Row, row_at}
use Rattle.ny_plan.specs.Need.{Filled}
use Rattle.ny_match.specs.Matched.{Seats, IsFree, IsUnit, Matched}
use Rattle.ny_match.specs.Born.{Born}
use Rattle.ny_match.proofs.SeatLemmas.{SameRows, SameParts, uses_same, unit_later, unit_like, matched_from, put_at, put_else, seated}

module _ (code : Code) (all : List Row) (filled : Filled) where
  -- ---- what is left

  -- `Born`, where these are the seats afterwards
  pub record Grew (old new : HeapState Branch) (seats later : Seats) (from upto : ℕ) : Type 0 where
    pub matched : Matched code all filled new later
    pub row : SameRows old seats.row later.row
    pub parts : SameParts old seats later
    pub fresh : (v : ℕ) (y : Node Branch) → node_at old v ≡ None → node_at new v ≡ Some y → (from ≤ later.row v) × (later.row v < upto)
    pub fresh_parts : (v : ℕ) (y : Node Branch) → node_at old v ≡ None → node_at new v ≡ Some y → (from ≤ later.from v) × (later.upto v ≤ upto)

  pub grew_of : (old new : HeapState Branch) (seats : Seats) (from upto : ℕ) → (b : Born code all filled old new seats from upto) → Grew old new seats b.later from upto
  grew_of old new seats from upto b = record { matched = b.matched; row = b.row; parts = b.parts; fresh = b.fresh; fresh_parts = b.fresh_parts }

  pub grew_none : (h : HeapState Branch) (seats : Seats) (from upto : ℕ) → Matched code all filled h seats → Grew h h seats seats from upto
  grew_none h seats from upto m = record {
    matched = m;
    row = λ v x at. refl;
    parts = λ v x at. (refl, refl);
    fresh = λ v y none at. absurd (none_some (node_at h v) y none at);
    fresh_parts = λ v y none at. absurd (none_some (node_at h v) y none at);
  }

  pub grew_wider : (old new : HeapState Branch) (seats later : Seats) (a b c d : ℕ) → c ≤ a → b ≤ d → Grew old new seats later a b → Grew old new seats later c d
  grew_wider old new seats later a b c d less more g = record {
    matched = g.matched;
    row = g.row;
    parts = g.parts;
    fresh = λ v y none at. let f = g.fresh v y none at in (omega (arith, f.0, less), omega (arith, f.1, more));
    fresh_parts = λ v y none at. let f = g.fresh_parts v y none at in (omega (arith, f.0, less), omega (arith, f.1, more));
  }

  -- no unit more, and who reads one from outside is of no matter
  pub grew_from : (old mid new : HeapState Branch) (seats later : Seats) (from upto : ℕ) → ComesFrom mid new → new.block ≡ mid.block → Grew old mid seats later from upto → Grew old new seats later from upto
  grew_from old mid new seats later from upto comes block g = record {
    matched = matched_from code all filled mid new later comes block g.matched;
    row = g.row;
    parts = g.parts;
    fresh = λ v y none at. let x = comes v y at in g.fresh v x.0 none x.1;
    fresh_parts = λ v y none at. let x = comes v y at in g.fresh_parts v x.0 none x.1;
  }

  pub grew_then : (old mid new : HeapState Branch) (seats next later : Seats) (a b c : ℕ) → a ≤ b → b ≤ c → AreKept old mid → Grew old mid seats next a b → Grew mid new next later b c → Grew old new seats later a c
  grew_then old mid new seats next later a b c first second kept p q = record {
    matched = q.matched;
    row = λ v x at. let y = kept v x at in q.row v y.0 y.1 ∙ p.row v x at;
    parts = λ v x at. let y = kept v x at in let one = p.parts v x at in let two = q.parts v y.0 y.1 in (two.0 ∙ one.0, two.1 ∙ one.1);
    fresh = λ v y none at. by_row v y none at (node_at mid v) refl;
    fresh_parts = λ v y none at. by_parts v y none at (node_at mid v) refl;
  }
    where
      by_row : (v : ℕ) (y : Node Branch) → node_at old v ≡ None → node_at new v ≡ Some y → (o : Option (Node Branch)) → node_at mid v ≡ o → (a ≤ later.row v) × (later.row v < c)
      by_row v y none at None e = let f = q.fresh v y e at in (omega (arith, f.0, first), f.1)
      by_row v y none at (Some x) e = let f = p.fresh v x none e in (omega (arith, f.0, q.row v x e), omega (arith, f.1, q.row v x e, second))

      by_parts : (v : ℕ) (y : Node Branch) → node_at old v ≡ None → node_at new v ≡ Some y → (o : Option (Node Branch)) → node_at mid v ≡ o → (a ≤ later.from v) × (later.upto v ≤ c)
      by_parts v y none at None e = let f = q.fresh_parts v y e at in (omega (arith, f.0, first), f.1)
      by_parts v y none at (Some x) e = let f = p.fresh_parts v x none e in let same = q.parts v x e in (omega (arith, f.0, same.0), omega (arith, f.1, same.1, second))

  -- the same of two ranges in one
  pub grew_within : (old mid new : HeapState Branch) (seats next later : Seats) (low high : ℕ) → AreKept old mid → Grew old mid seats next low high → Grew mid new next later low high → Grew old new seats later low high
  grew_within old mid new seats next later low high kept p q = record {
    matched = q.matched;
    row = λ v x at. let y = kept v x at in q.row v y.0 y.1 ∙ p.row v x at;
    parts = λ v x at. let y = kept v x at in let one = p.parts v x at in let two = q.parts v y.0 y.1 in (two.0 ∙ one.0, two.1 ∙ one.1);
    fresh = λ v y none at. by_row v y none at (node_at mid v) refl;
    fresh_parts = λ v y none at. by_parts v y none at (node_at mid v) refl;
  }
    where
      by_row : (v : ℕ) (y : Node Branch) → node_at old v ≡ None → node_at new v ≡ Some y → (o : Option (Node Branch)) → node_at mid v ≡ o → (low ≤ later.row v) × (later.row v < high)
      by_row v y none at None e = q.fresh v y e at
      by_row v y none at (Some x) e = let f = p.fresh v x none e in (omega (arith, f.0, q.row v x e), omega (arith, f.1, q.row v x e))

      by_parts : (v : ℕ) (y : Node Branch) → node_at old v ≡ None → node_at new v ≡ Some y → (o : Option (Node Branch)) → node_at mid v ≡ o → (low ≤ later.from v) × (later.upto v ≤ high)
      by_parts v y none at None e = q.fresh_parts v y e at
      by_parts v y none at (Some x) e = let f = p.fresh_parts v x none e in let same = q.parts v x e in (omega (arith, f.0, same.0), omega (arith, f.1, same.1))

  -- ---- rows that are free

  -- those beside what was made are still free
  pub free_beside : (old new : HeapState Branch) (seats later : Seats) (a b c d : ℕ) → (b ≤ c) ⊎ (d ≤ a) → Grew old new seats later a b → IsFree filled old seats c d → IsFree filled new later c d
  free_beside old new seats later a b c d apart g f = record {
    units = λ v y at. units v y at (node_at old v) refl;
    parts = λ v y at. parts v y at (node_at old v) refl;
    unfilled = f.unfilled;
  }
    where
      later_row : (v : ℕ) → later.row v ≡ seats.row v → (seats.row v < c) ⊎ (d ≤ seats.row v) → (later.row v < c) ⊎ (d ≤ later.row v)
      later_row v same (inl less) = inl (omega (arith, less, same))
      later_row v same (inr more) = inr (omega (arith, more, same))

      new_row : (v : ℕ) → a ≤ later.row v → later.row v < b → (b ≤ c) ⊎ (d ≤ a) → (later.row v < c) ⊎ (d ≤ later.row v)
      new_row v least less (inl before) = inl (omega (arith, less, before))
      new_row v least less (inr behind) = inr (omega (arith, least, behind))

      units : (v : ℕ) (y : Node Branch) → node_at new v ≡ Some y → (o : Option (Node Branch)) → node_at old v ≡ o → (later.row v < c) ⊎ (d ≤ later.row v)
      units v y at None e = let q = g.fresh v y e at in new_row v q.0 q.1 apart
      units v y at (Some x) e = later_row v (g.row v x e) (f.units v x e)

      later_parts : (v : ℕ) → later.from v ≡ seats.from v → later.upto v ≡ seats.upto v → (seats.upto v ≤ c) ⊎ (d ≤ seats.from v) → (later.upto v ≤ c) ⊎ (d ≤ later.from v)
      later_parts v from upto (inl less) = inl (omega (arith, less, upto))
      later_parts v from upto (inr more) = inr (omega (arith, more, from))

      new_parts : (v : ℕ) → a ≤ later.from v → later.upto v ≤ b → (b ≤ c) ⊎ (d ≤ a) → (later.upto v ≤ c) ⊎ (d ≤ later.from v)
      new_parts v least most (inl before) = inl (omega (arith, most, before))
      new_parts v least most (inr behind) = inr (omega (arith, least, behind))

      parts : (v : ℕ) (y : Node Branch) → node_at new v ≡ Some y → (o : Option (Node Branch)) → node_at old v ≡ o → (later.upto v ≤ c) ⊎ (d ≤ later.from v)
      parts v y at None e = let q = g.fresh_parts v y e at in new_parts v q.0 q.1 apart
      parts v y at (Some x) e = let same = g.parts v x e in later_parts v same.0 same.1 (f.parts v x e)

  pub free_less : (h : HeapState Branch) (seats : Seats) (a b c d : ℕ) → a ≤ c → c ≤ d → d ≤ b → IsFree filled h seats a b → IsFree filled h seats c d
  free_less h seats a b c d from some upto f = record {
    units = λ v y at. units (f.units v y at);
    parts = λ v y at. parts (f.parts v y at);
    unfilled = λ k least less. f.unfilled k (omega (arith, least, from)) (omega (arith, less, upto));
  }
    where
      units : {n : ℕ} → (n < a) ⊎ (b ≤ n) → (n < c) ⊎ (d ≤ n)
      units (inl less) = inl (omega (arith, less, from))
      units (inr more) = inr (omega (arith, more, upto))

      parts : {m n : ℕ} → (m ≤ a) ⊎ (b ≤ n) → (m ≤ c) ⊎ (d ≤ n)
      parts (inl less) = inl (omega (arith, less, from))
      parts (inr more) = inr (omega (arith, more, upto))

  -- those behind what was made are still free
  pub free_later : (old new : HeapState Branch) (seats later : Seats) (a b c : ℕ) → a ≤ b → b ≤ c → Grew old new seats later a b → IsFree filled old seats a c → IsFree filled new later b c
  free_later old new seats later a b c first second g f = record {
    units = λ v y at. units v y at (node_at old v) refl;
    parts = λ v y at. parts v y at (node_at old v) refl;
    unfilled = λ k least less. f.unfilled k (omega (arith, least, first)) less;
  }
    where
      later_row : (v : ℕ) → later.row v ≡ seats.row v → (seats.row v < a) ⊎ (c ≤ seats.row v) → (later.row v < b) ⊎ (c ≤ later.row v)
      later_row v same (inl less) = inl (omega (arith, less, same, first))
      later_row v same (inr more) = inr (omega (arith, more, same))

      units : (v : ℕ) (y : Node Branch) → node_at new v ≡ Some y → (o : Option (Node Branch)) → node_at old v ≡ o → (later.row v < b) ⊎ (c ≤ later.row v)
      units v y at None e = inl (g.fresh v y e at).1
      units v y at (Some x) e = later_row v (g.row v x e) (f.units v x e)

      later_parts : (v : ℕ) → later.from v ≡ seats.from v → later.upto v ≡ seats.upto v → (seats.upto v ≤ a) ⊎ (c ≤ seats.from v) → (later.upto v ≤ b) ⊎ (c ≤ later.from v)
      later_parts v from upto (inl less) = inl (omega (arith, less, upto, first))
      later_parts v from upto (inr more) = inr (omega (arith, more, from))

      parts : (v : ℕ) (y : Node Branch) → node_at new v ≡ Some y → (o : Option (Node Branch)) → node_at old v ≡ o → (later.upto v ≤ b) ⊎ (c ≤ later.from v)
      parts v y at None e = inl (g.fresh_parts v y e at).1
      parts v y at (Some x) e = let same = g.parts v x e in later_parts v same.0 same.1 (f.parts v x e)

  -- ---- one unit more

  module _ (mid new : HeapState Branch) (spent : List Sound) (n : ℕ) (x : Node Branch) (seats : Seats) (row from upto low high : ℕ) (laws : HeapLaws mid) (m : Matched code all filled mid seats) (adds : AddsNode (without_sounds mid spent) new n x) (free : IsFree filled mid seats low high) (inside : (low ≤ row) × (row < high)) (range : (low ≤ from) × (from ≤ upto) × (upto ≤ high)) (apart : (row < from) ⊎ (upto ≤ row)) (short : high ≤ length all) where
    abbrev later : Seats
    later = seated seats n row from upto

    new_from : (v : ℕ) (y : Node Branch) → v ≢ n → node_at new v ≡ Some y → (x : Node Branch) × (node_at mid v ≡ Some x) × IsLike x y
    new_from v y ne at = let x = (spent_like mid spent).from v y (sym (adds.others v ne) ∙ at) in (x.0, x.1, x.2)

    not_new : (v : ℕ) (z : Node Branch) → node_at mid v ≡ Some z → v ≢ n
    not_new v z at same = let y = (spent_like mid spent).to v z at in none_some (node_at (without_sounds mid spent) v) y.0 (ap (node_at (without_sounds mid spent)) same ∙ adds.fresh) y.1

    pub new_rows : SameRows mid seats.row later.row
    new_rows v z at = put_else seats.row n row v (not_new v z at)

    new_parts : SameParts mid seats later
    new_parts v z at = (put_else seats.from n from v (not_new v z at), put_else seats.upto n upto v (not_new v z at))

    same_block : new.block ≡ mid.block
    same_block = adds.size.block ∙ (spent_like mid spent).counts.block

    -- the new one, or one that was there
    record WasThere (v : ℕ) (y : Node Branch) : Type 0 where
      unit : Node Branch
      there : node_at mid v ≡ Some unit
      like : IsLike unit y
      row_is : later.row v ≡ seats.row v
      from_is : later.from v ≡ seats.from v
      upto_is : later.upto v ≡ seats.upto v

    record IsNew (v : ℕ) (y : Node Branch) : Type 0 where
      place : v ≡ n
      unit : x ≡ y
      row_is : later.row v ≡ row
      from_is : later.from v ≡ from
      upto_is : later.upto v ≡ upto

    which : (v : ℕ) (y : Node Branch) → node_at new v ≡ Some y → WasThere v y ⊎ IsNew v y
    which v y at = by_place (cases_eq v n)
      where
        by_place : (v ≡ n) ⊎ (v ≢ n) → WasThere v y ⊎ IsNew v y
        by_place (inl same) = inr (record {
          place = same;
          unit = same_at (node_at new n) x y adds.after (ap (node_at new) (sym same) ∙ at);
          row_is = put_at seats.row n row v same;
          from_is = put_at seats.from n from v same;
          upto_is = put_at seats.upto n upto v same;
        })
        by_place (inr other) = let z = new_from v y other at in inl (record {
          unit = z.0;
          there = z.1;
          like = z.2;
          row_is = put_else seats.row n row v other;
          from_is = put_else seats.from n from v other;
          upto_is = put_else seats.upto n upto v other;
        })

    within : (u : ℕ) (y : Node Branch) → WasThere u y ⊎ IsNew u y → later.row u < length all
    within u y (inl w) = omega (arith, w.row_is, m.within u w.unit w.there)
    within u y (inr w) = omega (arith, w.row_is, inside.1, short)

    apart_by : (u v : ℕ) (y z : Node Branch) → WasThere u y ⊎ IsNew u y → WasThere v z ⊎ IsNew v z → later.row u ≡ later.row v → u ≡ v
    apart_by u v y z (inl a) (inl b) same = m.apart u v a.unit b.unit a.there b.there (sym a.row_is ∙ (same ∙ b.row_is))
    apart_by u v y z (inl a) (inr b) same = absurd (outside (free.units u a.unit a.there))
      where
        outside : (seats.row u < low) ⊎ (high ≤ seats.row u) → ⊥
        outside (inl less) = omega (arith, less, same, a.row_is, b.row_is, inside.0)
        outside (inr more) = omega (arith, more, same, a.row_is, b.row_is, inside.1)
    apart_by u v y z (inr a) (inl b) same = absurd (outside (free.units v b.unit b.there))
      where
        outside : (seats.row v < low) ⊎ (high ≤ seats.row v) → ⊥
        outside (inl less) = omega (arith, less, same, a.row_is, b.row_is, inside.0)
        outside (inr more) = omega (arith, more, same, a.row_is, b.row_is, inside.1)
    apart_by u v y z (inr a) (inr b) same = a.place ∙ sym b.place

    units : IsUnit code new.block all later n (row_at all row) 0 x → (u : ℕ) (y : Node Branch) → WasThere u y ⊎ IsNew u y → IsUnit code new.block all later u (row_at all (later.row u)) (slice_index filled (later.row u)) y
    units is u y (inl w) =
        subst (λ r. IsUnit code new.block all later u (row_at all r) (slice_index filled r) y) (sym w.row_is)
        (subst (λ b. IsUnit code b all later u (row_at all (seats.row u)) (slice_index filled (seats.row u)) y) (sym same_block)
        (unit_like code all mid.block later u (row_at all (seats.row u)) (slice_index filled (seats.row u)) w.unit y w.like
        (unit_later code all mid.block seats later u (row_at all (seats.row u)) (slice_index filled (seats.row u)) w.unit (uses_same mid seats.row later.row u w.unit laws new_rows w.there) w.from_is w.upto_is (m.units u w.unit w.there))))
    units is u y (inr w) =
        subst (λ r. IsUnit code new.block all later u (row_at all r) (slice_index filled r) y) (sym w.row_is)
        (subst (λ d. IsUnit code new.block all later u (row_at all row) d y) (sym (free.unfilled row inside.0 inside.1))
        (subst (λ z. IsUnit code new.block all later u (row_at all row) 0 z) w.unit
        (subst (λ k. IsUnit code new.block all later k (row_at all row) 0 x) (sym w.place) is)))

    ordered : (u : ℕ) (y : Node Branch) → WasThere u y ⊎ IsNew u y → later.from u ≤ later.upto u
    ordered u y (inl w) = omega (arith, w.from_is, w.upto_is, m.ordered u w.unit w.there)
    ordered u y (inr w) = omega (arith, w.from_is, w.upto_is, range.1)

    unborn : (u v : ℕ) (y z : Node Branch) → WasThere u y ⊎ IsNew u y → WasThere v z ⊎ IsNew v z → (later.row v < later.from u) ⊎ (later.upto u ≤ later.row v)
    unborn u v y z (inl a) (inl b) = outside (m.unborn u v a.unit b.unit a.there b.there)
      where
        outside : (seats.row v < seats.from u) ⊎ (seats.upto u ≤ seats.row v) → (later.row v < later.from u) ⊎ (later.upto u ≤ later.row v)
        outside (inl less) = inl (omega (arith, less, a.from_is, b.row_is))
        outside (inr more) = inr (omega (arith, more, a.upto_is, b.row_is))
    unborn u v y z (inl a) (inr b) = outside (free.parts u a.unit a.there)
      where
        outside : (seats.upto u ≤ low) ⊎ (high ≤ seats.from u) → (later.row v < later.from u) ⊎ (later.upto u ≤ later.row v)
        outside (inl less) = inr (omega (arith, less, a.upto_is, b.row_is, inside.0))
        outside (inr more) = inl (omega (arith, more, a.from_is, b.row_is, inside.1))
    unborn u v y z (inr a) (inl b) = outside (free.units v b.unit b.there)
      where
        outside : (seats.row v < low) ⊎ (high ≤ seats.row v) → (later.row v < later.from u) ⊎ (later.upto u ≤ later.row v)
        outside (inl less) = inl (omega (arith, less, a.from_is, b.row_is, range.0))
        outside (inr more) = inr (omega (arith, more, a.upto_is, b.row_is, range.2))
    unborn u v y z (inr a) (inr b) = outside apart
      where
        outside : (row < from) ⊎ (upto ≤ row) → (later.row v < later.from u) ⊎ (later.upto u ≤ later.row v)
        outside (inl less) = inl (omega (arith, less, a.from_is, b.row_is))
        outside (inr more) = inr (omega (arith, more, a.upto_is, b.row_is))

    disjoint : (u v : ℕ) (y z : Node Branch) → u ≢ v → WasThere u y ⊎ IsNew u y → WasThere v z ⊎ IsNew v z → (later.upto u ≤ later.from v) ⊎ (later.upto v ≤ later.from u)
    disjoint u v y z other (inl a) (inl b) = outside (m.disjoint u v a.unit b.unit a.there b.there other)
      where
        outside : (seats.upto u ≤ seats.from v) ⊎ (seats.upto v ≤ seats.from u) → (later.upto u ≤ later.from v) ⊎ (later.upto v ≤ later.from u)
        outside (inl less) = inl (omega (arith, less, a.upto_is, b.from_is))
        outside (inr more) = inr (omega (arith, more, a.from_is, b.upto_is))
    disjoint u v y z other (inl a) (inr b) = outside (free.parts u a.unit a.there)
      where
        outside : (seats.upto u ≤ low) ⊎ (high ≤ seats.from u) → (later.upto u ≤ later.from v) ⊎ (later.upto v ≤ later.from u)
        outside (inl less) = inl (omega (arith, less, a.upto_is, b.from_is, range.0))
        outside (inr more) = inr (omega (arith, more, a.from_is, b.upto_is, range.2))
    disjoint u v y z other (inr a) (inl b) = outside (free.parts v b.unit b.there)
      where
        outside : (seats.upto v ≤ low) ⊎ (high ≤ seats.from v) → (later.upto u ≤ later.from v) ⊎ (later.upto v ≤ later.from u)
        outside (inl less) = inr (omega (arith, less, b.upto_is, a.from_is, range.0))
        outside (inr more) = inl (omega (arith, more, b.from_is, a.upto_is, range.2))
    disjoint u v y z other (inr a) (inr b) = absurd (other (a.place ∙ sym b.place))

    unfilled : (u : ℕ) (y : Node Branch) → WasThere u y ⊎ IsNew u y → (k : ℕ) → later.from u ≤ k → k < later.upto u → slice_index filled k ≡ 0
    unfilled u y (inl w) k least less = m.unfilled u w.unit w.there k (omega (arith, least, w.from_is)) (omega (arith, less, w.upto_is))
    unfilled u y (inr w) k least less = free.unfilled k (omega (arith, least, w.from_is, range.0)) (omega (arith, less, w.upto_is, range.2))

    fresh : (v : ℕ) (y : Node Branch) → node_at mid v ≡ None → WasThere v y ⊎ IsNew v y → (low ≤ later.row v) × (later.row v < high) × (low ≤ later.from v) × (later.upto v ≤ high)
    fresh v y none (inl w) = absurd (none_some (node_at mid v) w.unit none w.there)
    fresh v y none (inr w) = (omega (arith, w.row_is, inside.0), omega (arith, w.row_is, inside.1), omega (arith, w.from_is, range.0), omega (arith, w.upto_is, range.2))

    -- the unit of a free row, whose parts will make free rows
    pub grew_added : IsUnit code new.block all later n (row_at all row) 0 x → Grew mid new seats later low high
    grew_added is = record {
      matched = record {
        within = λ u y at. within u y (which u y at);
        apart = λ u v y z at there same. apart_by u v y z (which u y at) (which v z there) same;
        units = λ u y at. units is u y (which u y at);
        ordered = λ u y at. ordered u y (which u y at);
        unborn = λ u v y z at there. unborn u v y z (which u y at) (which v z there);
        disjoint = λ u v y z at there other. disjoint u v y z other (which u y at) (which v z there);
        unfilled = λ u y at. unfilled u y (which u y at);
      };
      row = new_rows;
      parts = new_parts;
      fresh = λ v y none at. let f = fresh v y none (which v y at) in (f.0, f.1);
      fresh_parts = λ v y none at. let f = fresh v y none (which v y at) in (f.2, f.3);
    }
