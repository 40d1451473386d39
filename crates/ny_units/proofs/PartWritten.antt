-- A list that was written in parts, one after another.
use Rattle.std.proofs.Common.{◌≡◌, ℕ, zero, suc, ◌+◌, ◌-◌, ◌≤◌, List, ◌∷◌, ◌++◌, length, map, take, drop, refl, sym, ap, ◌∙◌, length-append, length-drop, drop_of_length-le, arith}
use Rattle.std.specs.List.{range_with_len}
use Rattle.std.proofs.lemmas.List.{take-append-drop, append-nil}
use Rattle.std.proofs.lemmas.List.FromFn.{length-map-range_with_len}
use Rattle.std.proofs.lemmas.Slice.{take-put_mid, drop-put_mid, drop-append-drop}
use Rattle.std.proofs.Math.Seq.{take-append_seam}
use borrow.Rule.Slice.PartMut.{put_mid}

-- the places up to one, and those from there on
pub places_joined : {X : Type 0} (f : ℕ → X) (from a b : ℕ) → map f (range_with_len from a) ++ map f (range_with_len (from + a) b) ≡ map f (range_with_len from (a + b))
places_joined f from zero b =
    let first : from + 0 ≡ from = omega arith in
    let all : 0 + b ≡ b = omega arith in
    rw (first, all) refl
places_joined f from (suc a) b =
    let first : from + suc a ≡ from + 1 + a = omega arith in
    let all : suc a + b ≡ suc (a + b) = omega arith in
    rw (first, all) (ap (λ xs. f from ∷ xs) (places_joined f (from + 1) a b))

taken : {X : Type 0} (xs ys : List X) (n : ℕ) → length xs ≡ n → take n (xs ++ ys) ≡ xs
taken xs ys n long = ap (λ k. take k (xs ++ ys)) (sym long) ∙ take-append_seam xs ys

-- a part is written after the places so far
pub part_written : {X : Type 0} (f : ℕ → X) (from done end : ℕ) (first out part : List X) → done ≤ end → end ≤ length first
    → out ≡ map f (range_with_len from done) ++ drop done first → part ≡ map f (range_with_len (from + done) (end - done))
    → put_mid done (end - done) out part ≡ map f (range_with_len from end) ++ drop end first
part_written f from done end first out part forward within is new =
    let begun : length (map f (range_with_len from done)) ≡ done = length-map-range_with_len f from done in
    let sizes : length (map f (range_with_len from done)) + length (drop done first) ≡ length first = omega (arith, begun, length-drop done first) in
    let long : length out ≡ length first = ap length is ∙ length-append (map f (range_with_len from done)) (drop done first) ∙ sizes in
    let some : length part ≡ end - done = ap length new ∙ length-map-range_with_len f (from + done) (end - done) in
    let all : done + (end - done) ≡ end = omega arith in
    let front : take end (put_mid done (end - done) out part) ≡ map f (range_with_len from end) =
    take-put_mid done (end - done) out part end (omega (arith, some)) (omega (arith, long))
    ∙ ap (λ xs. take done xs ++ part) is ∙ ap (λ xs. xs ++ part) (taken (map f (range_with_len from done)) (drop done first) done begun)
    ∙ ap (λ xs. map f (range_with_len from done) ++ xs) new ∙ places_joined f from done (end - done) ∙ ap (λ n. map f (range_with_len from n)) all in
    let back : drop end (put_mid done (end - done) out part) ≡ drop end first =
    drop-put_mid done (end - done) out part end (omega arith) (omega (arith, long)) some
    ∙ ap (drop end) is ∙ drop-append-drop done first (map f (range_with_len from done)) end forward begun in
    sym (take-append-drop end (put_mid done (end - done) out part)) ∙ ap (λ xs. xs ++ drop end (put_mid done (end - done) out part)) front ∙ ap (λ xs. map f (range_with_len from end) ++ xs) back

-- once all places are written
pub all_written : {X : Type 0} (f : ℕ → X) (from done : ℕ) (first out : List X) → done ≤ length first → length first ≤ done
    → out ≡ map f (range_with_len from done) ++ drop done first → out ≡ map f (range_with_len from (length first))
all_written f from done first out within all is =
    let end : done ≡ length first = omega arith in
    is ∙ ap (λ rest. map f (range_with_len from done) ++ rest) (drop_of_length-le first {i = done} all) ∙ append-nil (map f (range_with_len from done)) ∙ ap (λ n. map f (range_with_len from n)) end
