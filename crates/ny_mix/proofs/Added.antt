-- Samples that are added place by place.
use Rattle.std.proofs.Common.{◌≡◌, ℕ, ◌+◌, ◌-◌, ◌<◌, ◌≤◌, List, ◌++◌, length, take, drop, get_or, map, inl, inr, sym, ap, ◌∙◌, length-take, length-drop, arith, ℤ, pos}
use Rattle.std.specs.List.{range_with_len}
use Rattle.std.proofs.lemmas.Bool.{cases_lt}
use Rattle.std.proofs.lemmas.List.{get_or-take, get_or-drop, get_or-append_right}
use Rattle.std.proofs.lemmas.List.FromFn.{length-map-range_with_len, get_or-map-range_with_len}
use Rattle.std.proofs.lemmas.Slice.{take-put_mid_below, take-put_mid, drop-put_mid, drop-append-drop}
use Rattle.ny_num.specs.Numbers.{IsSample, sample_add}
use Rattle.ny_num.proofs.WrittenLists.{same_places}
use Rattle.ny_units.specs.Inputs.{heard_at}
use Rattle.ny_units.proofs.Pieces.{from_start, before_start, past_end}
use Rattle.ny_units.proofs.PartWritten.{part_written}
use Rattle.ny_mix.proofs.Sums.{add_nothing}
use borrow.Rule.Slice.PartMut.{put_mid}

-- the places before n have the sums, and those from n on are as they were
pub record AddedSoFar (samples first out : List ℤ) (n : ℕ) : Type 0 where
  pub long : length out ≡ length first
  pub written : (k : ℕ) → k < n → get_or out k (pos 0) ≡ sample_add (get_or first k (pos 0)) (get_or samples k (pos 0))
  pub rest : (k : ℕ) → n ≤ k → get_or out k (pos 0) ≡ get_or first k (pos 0)

-- what a place has once the samples of a list from `place` on are added
abbrev pub with_list : List ℤ → List ℤ → ℕ → ℕ → ℤ
with_list first xs place k = sample_add (get_or first k (pos 0)) (get_or xs (place + k) (pos 0))

-- a run is added after those so far
pub run_added : (first xs run out part : List ℤ) (place at done end : ℕ) → done ≤ end → end ≤ length first → end - done ≤ length run
    → out ≡ map (with_list first xs place) (range_with_len 0 done) ++ drop done first
    → run ≡ take (length run) (drop at xs) → at ≡ place + done
    → part ≡ map (λ k. sample_add (get_or (take (end - done) (drop done out)) k (pos 0)) (get_or (take (end - done) run) k (pos 0))) (range_with_len 0 (length (take (end - done) (drop done out))))
    → put_mid done (end - done) out part ≡ map (with_list first xs place) (range_with_len 0 end) ++ drop end first
run_added first xs run out part place at done end forward within some is seen from new =
    let f : ℕ → ℤ = with_list first xs place in
    let g : ℕ → ℤ = λ k. sample_add (get_or (take (end - done) (drop done out)) k (pos 0)) (get_or (take (end - done) run) k (pos 0)) in
    let begun : length (map f (range_with_len 0 done)) ≡ done = length-map-range_with_len f 0 done in
    let rest : drop done out ≡ drop done first = ap (drop done) is ∙ drop-append-drop done first (map f (range_with_len 0 done)) done (omega arith) begun in
    let size : length (take (end - done) (drop done out)) ≡ end - done = ap (λ l. length (take (end - done) l)) rest ∙ sized done end first forward within in
    part_written f 0 done end first out part forward within is
    (new ∙ ap (λ n. map g (range_with_len 0 n)) size
    ∙ same_places g f 0 (0 + done) (end - done) (pos 0)
    (λ k h.
    let now : 0 + k ≡ k = omega arith in
    let there : done + k ≡ 0 + done + k = omega arith in
    let heard : at + k ≡ place + (0 + done + k) = omega (arith, from) in
    ap g now
    ∙ ap (λ v. sample_add v (get_or (take (end - done) run) k (pos 0)))
    (get_or-take (end - done) (drop done out) k (pos 0) h ∙ ap (λ l. get_or l k (pos 0)) rest ∙ get_or-drop done first k (pos 0) ∙ ap (λ n. get_or first n (pos 0)) there)
    ∙ ap (sample_add (get_or first (0 + done + k) (pos 0)))
    (get_or-take (end - done) run k (pos 0) h ∙ ap (λ l. get_or l k (pos 0)) seen ∙ get_or-take (length run) (drop at xs) k (pos 0) (omega arith) ∙ get_or-drop at xs k (pos 0) ∙ ap (λ n. get_or xs n (pos 0)) heard)))
  where
    sized : (done end : ℕ) (first : List ℤ) → done ≤ end → end ≤ length first → length (take (end - done) (drop done first)) ≡ end - done
    sized done end first forward within = omega (arith, forward, within, length-take (end - done) (drop done first), length-drop done first)

-- ---- a part that is heard in some of the places

place_before : (a n k : ℕ) (xs ys : List ℤ) → k < a → a ≤ length xs → get_or (put_mid a n xs ys) k (pos 0) ≡ get_or xs k (pos 0)
place_before a n k xs ys h le =
    sym (get_or-take a (put_mid a n xs ys) k (pos 0) h) ∙ ap (λ l. get_or l k (pos 0)) (take-put_mid_below a n xs ys a (omega arith) le) ∙ get_or-take a xs k (pos 0) h

place_after : (a n k : ℕ) (xs ys : List ℤ) → a + n ≤ k → a ≤ length xs → length ys ≡ n → get_or (put_mid a n xs ys) k (pos 0) ≡ get_or xs k (pos 0)
place_after a n k xs ys h le long =
    let at : k ≡ k + 0 = omega arith in
    ap (λ i. get_or (put_mid a n xs ys) i (pos 0)) at
    ∙ sym (get_or-drop k (put_mid a n xs ys) 0 (pos 0)) ∙ ap (λ l. get_or l 0 (pos 0)) (drop-put_mid a n xs ys k h le long) ∙ get_or-drop k xs 0 (pos 0)
    ∙ ap (λ i. get_or xs i (pos 0)) (sym at)

place_in : (a n k : ℕ) (xs ys : List ℤ) → a ≤ k → k < a + n → a ≤ length xs → length ys ≡ n → get_or (put_mid a n xs ys) k (pos 0) ≡ get_or ys (k - a) (pos 0)
place_in a n k xs ys after h le long =
    let front : length (take a xs) ≡ a = omega (arith, le, length-take a xs) in
    sym (get_or-take (a + n) (put_mid a n xs ys) k (pos 0) h)
    ∙ ap (λ l. get_or l k (pos 0)) (take-put_mid a n xs ys (a + n) (omega (arith, long)) le)
    ∙ get_or-append_right (take a xs) ys a k (pos 0) front after

-- a place where nothing is heard
pub left_alone : (start visible m k : ℕ) (xs : List ℤ) (v : ℤ) → IsSample v → ((start ≤ m + k) → start + visible ≤ m + k)
    → v ≡ sample_add v (heard_at start (take visible xs) (m + k))
left_alone start visible m k xs v is out =
    sym (ap (sample_add v) (elim (cases_lt (m + k) start) [
      | inl early ↦ before_start start (m + k) (take visible xs) early
      | inr later ↦ let end = out later in past_end start visible (m + k) xs later (omega arith)
    ]) ∙ add_nothing v is)

-- places `first` to before `last` have the list's samples from `place` on added to them
pub heard_added : (start visible m first last place : ℕ) (xs out part : List ℤ) → first < last → last ≤ length out → last ≤ start + visible - m → start ≤ m + first
    → ((k : ℕ) → k < first → m + k < start) → ((k : ℕ) → last ≤ k → k < length out → start + visible ≤ m + k)
    → part ≡ map (λ k. sample_add (get_or (take (last - first) (drop first out)) k (pos 0)) (get_or xs (place + k) (pos 0))) (range_with_len 0 (length (take (last - first) (drop first out)))) → place + start ≡ m + first
    → (k : ℕ) → k < length out → IsSample (get_or out k (pos 0))
    → get_or (put_mid first (last - first) out part) k (pos 0) ≡ sample_add (get_or out k (pos 0)) (heard_at start (take visible xs) (m + k))
heard_added start visible m first last place xs out part some within ends begins early late new at k h is =
    elim (cases_lt k first) [
      | inl before ↦
          let far : m + k < start = early k before in
          place_before first (last - first) k out part before (omega arith) ∙ left_alone start visible m k xs (get_or out k (pos 0)) is (λ later. absurd (omega arith))
      | inr after ↦ elim (cases_lt k last) [
        | inl inside ↦
            let j : ℕ = k - first in
            let back : first + (k - first) ≡ k = omega arith in
            let there : place + (k - first) ≡ m + k - start = omega arith in
            place_in first (last - first) k out part after (omega arith) (omega arith) long
            ∙ ap (λ l. get_or l (k - first) (pos 0)) new
            ∙ get_or-map-range_with_len g 0 (length (take (last - first) (drop first out))) (k - first) (k - first) (pos 0) (omega (arith, size)) (omega arith)
            ∙ ap (λ v. sample_add v (get_or xs (place + (k - first)) (pos 0)))
            (get_or-take (last - first) (drop first out) (k - first) (pos 0) (omega arith) ∙ get_or-drop first out (k - first) (pos 0) ∙ ap (λ n. get_or out n (pos 0)) back)
            ∙ ap (sample_add (get_or out k (pos 0)))
            (ap (λ n. get_or xs n (pos 0)) there ∙ sym (get_or-take visible xs (m + k - start) (pos 0) (omega arith)) ∙ sym (from_start start (m + k) (take visible xs) (omega arith)))
        | inr past ↦
            let far : start + visible ≤ m + k = late k past h in
            place_after first (last - first) k out part (omega arith) (omega arith) long ∙ left_alone start visible m k xs (get_or out k (pos 0)) is (λ later. far)
      ]
    ]
  where
    g : ℕ → ℤ
    g k = sample_add (get_or (take (last - first) (drop first out)) k (pos 0)) (get_or xs (place + k) (pos 0))

    size : length (take (last - first) (drop first out)) ≡ last - first
    size = omega (arith, some, within, length-take (last - first) (drop first out), length-drop first out)

    long : length part ≡ last - first
    long = ap length new ∙ length-map-range_with_len g 0 (length (take (last - first) (drop first out))) ∙ size
