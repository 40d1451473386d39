-- What is read of a list, beside its whole list of samples.
use Rattle.std.proofs.Common.{◌≡◌, ℕ, ◌+◌, ◌-◌, ◌*◌, ◌/◌, ◌%◌, ◌<◌, ◌≤◌, min, nat_eq, List, [], length, take, drop, get_or, Option, None, Some, IsSome, ◌∷◌, refl, sym, ap, subst, ◌∙◌, arith, ℤ, pos}
use Rattle.std.proofs.lemmas.Bool.{cond-false, ne_eqb}
use Rattle.std.proofs.lemmas.List.{ext_get_or, length-take, length-drop, get_or-take, get_or-drop}
use Rattle.std.proofs.lemmas.Nat.{le-div}
use Rattle.std.proofs.Math.Nat.{div-mul-le_self, mod-eq-sub-div-mul, div-lt_iff_lt-mul, mod-lt}
use Rattle.std.specs.Option.{option_map_or}
use Rattle.ny_list.specs.Store.{ListState, StoreState, CursorState, list_at, stands_in, blocks_of, mark_at, least, block_of, run_of}
use Rattle.ny_list.specs.Laws.{StoreLaws}
use Rattle.ny_list.specs.Steps.{IsComputed}
use Rattle.ny_list.specs.Reading.{Shows}
use Rattle.ny_list.proofs.SettleLemmas.{least_at}

-- a part of a slice of a list is one of the list
part_of : (n k size start from : ℕ) (xs : List ℤ) → start + k ≡ from
    → take n (drop k (take size (drop start xs))) ≡ take (length (take n (drop k (take size (drop start xs))))) (drop from xs)
part_of n k size start from xs at =
    let ys : List ℤ = take n (drop k (take size (drop start xs))) in
    let some : length ys ≡ min n (min size (length xs - start) - k) = omega (arith, length-take n (drop k (take size (drop start xs))), length-drop k (take size (drop start xs)), length-take size (drop start xs), length-drop start xs) in
    let all : length (take (length ys) (drop from xs)) ≡ length ys = omega (arith, some, length-take (length ys) (drop from xs), length-drop from xs, at) in
    ext_get_or (pos 0) ys (take (length ys) (drop from xs)) (sym all) (λ i h.
    get_or-take n (drop k (take size (drop start xs))) i (pos 0) (omega (arith, some, h))
    ∙ get_or-drop k (take size (drop start xs)) i (pos 0)
    ∙ get_or-take size (drop start xs) (k + i) (pos 0) (omega (arith, some, h))
    ∙ get_or-drop start xs (k + i) (pos 0)
    ∙ ap (λ p. get_or xs p (pos 0)) (place start k i from at)
    ∙ sym (get_or-drop from xs i (pos 0))
    ∙ sym (get_or-take (length ys) (drop from xs) i (pos 0) h))
  where
    place : (start k i from : ℕ) → start + k ≡ from → start + (k + i) ≡ from + i
    place start k i from e = omega (arith, e)

nothing_of : (n k from : ℕ) (xs : List ℤ) → take n (drop k []) ≡ take (length (take {A = ℤ} n (drop k []))) (drop from xs)
nothing_of n k from xs = by_nothing (take n (drop k [])) (omega (arith, length-take {A = ℤ} n (drop k []), length-drop {A = ℤ} k []))
  where
    by_nothing : (ys : List ℤ) → length ys ≡ 0 → ys ≡ take (length ys) (drop from xs)
    by_nothing [] e = refl
    by_nothing (y ∷ ys) e = absurd (omega (arith, e))

block_start : (from block : ℕ) → from / block * block + from % block ≡ from
block_start from block = omega (arith, mod-eq-sub-div-mul from block, div-mul-le_self from block)

-- what is read from a place on is what the whole list has there
pub run_shown : (s : StoreState) (c : CursorState) (from : ℕ) (xs : List ℤ) → Shows s c.list xs → run_of s c from ≡ take (length (run_of s c from)) (drop from xs)
run_shown s c from xs shows = by_list (list_at s c.list) refl
  where
    run : Option ListState → List ℤ
    run o = option_map_or (λ x. take (c.visible - from) (drop (from % s.block) (block_of x (from / s.block)))) o []

    by_list : (o : Option ListState) → list_at s c.list ≡ o → run o ≡ take (length (run o)) (drop from xs)
    by_list None e = refl
    by_list (Some x) e = by_block (get_or x.values (from / s.block) None) refl
      where
        part : Option (List ℤ) → List ℤ
        part o = take (c.visible - from) (drop (from % s.block) (option_map_or (λ samples. samples) o []))

        by_block : (o : Option (List ℤ)) → get_or x.values (from / s.block) None ≡ o → part o ≡ take (length (part o)) (drop from xs)
        by_block None b = nothing_of (c.visible - from) (from % s.block) from xs
        by_block (Some samples) b =
            let is : samples ≡ take s.block (drop (from / s.block * s.block) xs) = shows.kept x (from / s.block) samples e b in
            subst (λ (ys : List ℤ). take (c.visible - from) (drop (from % s.block) ys) ≡ take (length (take (c.visible - from) (drop (from % s.block) ys))) (drop from xs)) (sym is)
            (part_of (c.visible - from) (from % s.block) s.block (from / s.block * s.block) from xs (block_start from s.block))

some_is : {A : Type 0} (o : Option A) → IsSome o → (a : A) × (o ≡ Some a)
some_is None some = absurd cc
some_is (Some a) some = (a, refl)

-- no more is read than the cursor sees
pub run_seen_few : (s : StoreState) (c : CursorState) (from : ℕ) → length (run_of s c from) ≤ c.visible - from
run_seen_few s c from = by_list (list_at s c.list)
  where
    by_list : (o : Option ListState) → length (option_map_or (λ x. take (c.visible - from) (drop (from % s.block) (block_of x (from / s.block)))) o []) ≤ c.visible - from
    by_list None = omega arith
    by_list (Some x) = omega (arith, length-take (c.visible - from) (drop (from % s.block) (block_of x (from / s.block))))

-- where a cursor stands that has not passed the whole list
least_before : (s : StoreState) (c : CursorState) (x : ListState) → list_at s c.list ≡ Some x → 0 < mark_at s c → c.place < x.len → least x.marks ≤ c.place / s.block
least_before s c x there stands before =
    let here : stands_in s.block x.len c.place ≡ c.place / s.block = cond-false (nat_eq c.place x.len) (blocks_of s.block x.len) (c.place / s.block) (ne_eqb c.place x.len (λ e. omega (arith, e))) in
    let seen : 0 < get_or x.marks (stands_in s.block x.len c.place) 0 = subst (λ (o : Option ListState). 0 < option_map_or (λ x. get_or x.marks (stands_in s.block x.len c.place) 0) o 0) there stands in
    subst (λ n. least x.marks ≤ n) here (least_at x.marks (stands_in s.block x.len c.place) seen)

-- what is computed past the cursor, and seen by it, is read
pub run_some : (s : StoreState) (c : CursorState) (from : ℕ) → StoreLaws s → 0 < mark_at s c → c.place ≤ from → IsComputed s c (from - c.place + 1) → from < c.visible → 0 < length (run_of s c from)
run_some s c from laws stands ahead computed seen =
    let x : ListState = computed.list in
    let there = computed.there in
    let block : ℕ = s.block in
    let list = laws.lists c.list x there in
    let some = laws.some in
    let inside : from < length x.values * block = omega (arith, computed.computed, ahead) in
    let short : from < x.len = omega (arith, computed.computed, ahead) in
    let filled : from / block < length x.values = (div-lt_iff_lt-mul {k = block} {x = from} {y = length x.values} some).1 inside in
    let later : c.place / block ≤ from / block = le-div (c.place / block) from block some (omega (arith, div-mul-le_self c.place block, ahead)) in
    let least = least_before s c x there stands (omega (arith, short, ahead)) in
    let held = some_is (get_or x.values (from / block) None) ((list.kept (from / block) filled).1 (omega (arith, least, later))) in
    let long : length held.0 ≡ min (x.len - from / block * block) block = list.whole (from / block) held.0 held.1 in
    let rest : from % block < block = mod-lt from some in
    let start : from / block * block + from % block ≡ from = block_start from block in
    let size : 0 < length (take (c.visible - from) (drop (from % block) held.0)) = omega (arith, length-take (c.visible - from) (drop (from % block) held.0), length-drop (from % block) held.0, long, rest, start, seen, short) in
    let read : run_of s c from ≡ take (c.visible - from) (drop (from % block) held.0) =
    ap (λ (o : Option ListState). option_map_or (λ x. take (c.visible - from) (drop (from % block) (block_of x (from / block)))) o []) there
    ∙ ap (λ (o : Option (List ℤ)). take (c.visible - from) (drop (from % block) (option_map_or (λ samples. samples) o []))) held.1 in
    subst (λ (ys : List ℤ). 0 < length ys) (sym read) size
