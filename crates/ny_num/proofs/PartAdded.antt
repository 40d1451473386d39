-- A list that is written in parts, one after another.
use Rattle.std.proofs.Common.{◌≡◌, ℕ, zero, suc, ◌+◌, ◌-◌, ◌≤◌, List, [], ◌∷◌, ◌++◌, length, take, drop, sym, ap, ◌∙◌, length-append, length-drop, arith}
use Rattle.std.proofs.lemmas.List.{take-append-drop}
use Rattle.std.proofs.lemmas.Slice.{take-put_mid, drop-put_mid, drop-append-drop}
use Rattle.std.proofs.Math.Seq.{take-append_seam, drop-nil}
use borrow.Rule.Slice.PartMut.{put_mid}

-- what is left out twice
pub drop_again : {X : Type 0} (n m : ℕ) (xs : List X) → drop m (drop n xs) ≡ drop (n + m) xs
drop_again zero m xs = let same : m ≡ 0 + m = omega arith in ap (λ k. drop k xs) same
drop_again (suc n) m [] = drop-nil m ∙ sym (drop-nil (suc n + m))
drop_again (suc n) m (x ∷ xs) = let same : suc (n + m) ≡ suc n + m = omega arith in drop_again n m xs ∙ ap (λ k. drop k (x ∷ xs)) same

-- a part is written after what was written so far
pub part_added : {X : Type 0} (done end : ℕ) (first out written part : List X) → done ≤ end → end ≤ length first → length out ≡ length first → length part ≡ end - done
    → out ≡ written ++ drop done first → put_mid done (end - done) out part ≡ (written ++ part) ++ drop end first
part_added done end first out written part forward within long some is =
    let begun : length written ≡ done = omega (arith, ap length is, length-append written (drop done first), length-drop done first, long) in
    let front : take end (put_mid done (end - done) out part) ≡ written ++ part =
    take-put_mid done (end - done) out part end (omega (arith, some)) (omega (arith, long))
    ∙ ap (λ xs. take done xs ++ part) is
    ∙ ap (λ n. take n (written ++ drop done first) ++ part) (sym begun)
    ∙ ap (λ xs. xs ++ part) (take-append_seam written (drop done first)) in
    let back : drop end (put_mid done (end - done) out part) ≡ drop end first =
    drop-put_mid done (end - done) out part end (omega arith) (omega (arith, long)) some
    ∙ ap (drop end) is ∙ drop-append-drop done first written end forward begun in
    sym (take-append-drop end (put_mid done (end - done) out part))
    ∙ ap (λ xs. xs ++ drop end (put_mid done (end - done) out part)) front
    ∙ ap (λ xs. (written ++ part) ++ xs) back
