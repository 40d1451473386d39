-- A list that was written place by place.
use Rattle.std.proofs.Common.{◌≡◌, ℕ, ◌+◌, ◌<◌, List, length, get_or, map, refl, sym, ap, ◌∙◌, set, arith}
use Rattle.std.specs.List.{range_with_len}
use Rattle.std.proofs.lemmas.List.{ext_get_or, get_or-map, length-map}
use Rattle.std.proofs.lemmas.List.Edits.{fill_by_more}
use Rattle.std.proofs.lemmas.List.FromFn.{get_or-map-range_with_len, length-map-range_with_len}

-- its places are those of f, counted from a first one on
pub by_places_from : {X : Type 0} (f : ℕ → X) (out : List X) (from len n : ℕ) (d : X) → length out ≡ len → n ≡ len
    → ((k : ℕ) → k < n → get_or out k d ≡ f (from + k)) → out ≡ map f (range_with_len from len)
by_places_from f out from len n d long end each =
    ext_get_or d out (map f (range_with_len from len)) (long ∙ sym (length-map-range_with_len f from len))
    (λ k h. each k (omega arith) ∙ sym (get_or-map-range_with_len f from len k (from + k) d (omega arith) refl))

-- the same, counted from 0
pub by_places : {X : Type 0} (f : ℕ → X) (out : List X) (len n : ℕ) (d : X) → length out ≡ len → n ≡ len
    → ((k : ℕ) → k < n → get_or out k d ≡ f k) → out ≡ map f (range_with_len 0 len)
by_places f out len n d long end each = by_places_from f out 0 len n d long end (λ k h. each k h ∙ ap f (omega arith))

-- one more place is written
pub next_place : {X : Type 0} (f : ℕ → X) (out : List X) (n : ℕ) (value : X) (d : X) → n < length out → value ≡ f n
    → ((k : ℕ) → k < n → get_or out k d ≡ f k) → (k : ℕ) → k < n + 1 → get_or (set out n value) k d ≡ f k
next_place f out n value d within is each k h = ap (λ x. get_or (set out n x) k d) is ∙ fill_by_more f out n d within each k h

pub places_more : {X : Type 0} (f : ℕ → X) (out : List X) (from n : ℕ) (value : X) (d : X) → n < length out → value ≡ f (from + n)
    → ((k : ℕ) → k < n → get_or out k d ≡ f (from + k)) → (k : ℕ) → k < n + 1 → get_or (set out n value) k d ≡ f (from + k)
places_more f out from n value d within is each = next_place (λ i. f (from + i)) out n value d within is each

-- each is what f makes of another list's item in the same place
pub by_items : {X : Type 0} (f : X → X) (items out : List X) (n : ℕ) (d : X) → length out ≡ length items → n ≡ length items
    → ((k : ℕ) → k < n → get_or out k d ≡ f (get_or items k d)) → out ≡ map f items
by_items f items out n d long end each =
    ext_get_or d out (map f items) (long ∙ sym (length-map items f)) (λ k h. each k (omega arith) ∙ sym (get_or-map f items k d d (omega arith)))

-- two lists by place, each counted from its own first one, are one where their items agree
pub same_places : {X : Type 0} (f g : ℕ → X) (from first len : ℕ) (d : X) → ((k : ℕ) → k < len → f (from + k) ≡ g (first + k))
    → map f (range_with_len from len) ≡ map g (range_with_len first len)
same_places f g from first len d each =
    by_places_from g (map f (range_with_len from len)) first len len d (length-map-range_with_len f from len) refl
    (λ k h. get_or-map-range_with_len f from len k (from + k) d h refl ∙ each k h)
