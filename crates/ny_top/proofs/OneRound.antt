-- Engines whose channels were pulled in rounds, as often as each other, are in the same round.
use Rattle.std.proofs.Common.{◌≡◌, ℕ, zero, suc, ◌+◌, ◌<◌, ◌≤◌, ◌⊎◌, inl, inr, min, List, [], ◌∷◌, length, refl, sym, ap, subst, ◌∙◌, arith, slice_index, slice_index_or, sum}
use Rattle.std.specs.Int.{div_ceil}
use Rattle.std.specs.List.{fold}
use Rattle.std.proofs.lemmas.Bool.{cases_lt}
use Rattle.std.proofs.lemmas.List.{get_or_past}
use Rattle.std.proofs.Math.Nat.{zero-div, zero-mod}
use Rattle.ny_num.specs.declared.rate.Rate.{Rate}
use Rattle.ny_num.specs.Sound as sounds
use Rattle.ny_num.specs.Sound.{silence}
use Rattle.ny_check.specs.Code.{Code}
use Rattle.ny_check.specs.Channels.{channels}
use Rattle.ny_pull.specs.Engine.{EngineState}
use Rattle.ny_words.specs.Commands.{Render}
use Rattle.ny_top.specs.Playing.{pulls_of, pulls_in, pulled_after, IsFullAfter}
use Rattle.ny_top.proofs.PulledLists.{parted_at, parted_count, parted_either}
use Rattle.ny_top.proofs.PullLemmas.{no_samples}

-- ---- sums

fold_suc : (x : ℕ) (ns : List ℕ) → fold ◌+◌ (suc x) ns ≡ suc (fold ◌+◌ x ns)
fold_suc x [] = refl
fold_suc x (n ∷ ns) = (let e : suc x + n ≡ suc (x + n) = omega arith in ap (λ k. fold ◌+◌ k ns) e) ∙ fold_suc (x + n) ns

no_more : (x y : ℕ) (ns ms : List ℕ) → length ns ≡ length ms → ((i : ℕ) → slice_index ns i ≤ slice_index ms i) → x ≤ y → fold ◌+◌ x ns ≤ fold ◌+◌ y ms
no_more x y [] [] many each le = le
no_more x y [] (m ∷ ms) many each le = absurd (omega (arith, many))
no_more x y (n ∷ ns) [] many each le = absurd (omega (arith, many))
no_more x y (n ∷ ns) (m ∷ ms) many each le = no_more (x + n) (y + m) ns ms (omega (arith, many)) (λ i. each (suc i)) (omega (arith, le, each zero))

-- lists of which one is nowhere greater, and somewhere less
less_in_all : (x y : ℕ) (ns ms : List ℕ) (j : ℕ) → length ns ≡ length ms → ((i : ℕ) → slice_index ns i ≤ slice_index ms i) → slice_index ns j < slice_index ms j → x ≤ y → fold ◌+◌ x ns < fold ◌+◌ y ms
less_in_all x y [] [] j many each less le = absurd (omega (arith, less))
less_in_all x y [] (m ∷ ms) j many each less le = absurd (omega (arith, many))
less_in_all x y (n ∷ ns) [] j many each less le = absurd (omega (arith, many))
less_in_all x y (n ∷ ns) (m ∷ ms) zero many each less le =
    omega (arith, no_more (suc (x + n)) (y + m) ns ms (omega (arith, many)) (λ i. each (suc i)) (omega (arith, le, less)), fold_suc (x + n) ns)
less_in_all x y (n ∷ ns) (m ∷ ms) (suc j) many each less le = less_in_all (x + n) (y + m) ns ms j (omega (arith, many)) (λ i. each (suc i)) less (omega (arith, le, each zero))

-- ---- rounds

no_pulls : (block : ℕ) → div_ceil 0 block ≡ 0
no_pulls block = (λ i. zero-div block i + min 1 (zero-mod block i))

module _ (block : ℕ) (cs : List sounds.Sound) (rate : Rate) where
  abbrev d : sounds.Sound
  d = silence rate

  of_none : (c : ℕ) → length cs ≤ c → pulls_of block (slice_index_or cs c d) ≡ 0
  of_none c past = ap (λ (s : sounds.Sound). pulls_of block s) (get_or_past cs c d past) ∙ ap (λ (len : ℕ). div_ceil len block) (no_samples rate) ∙ no_pulls block

  -- a channel that takes a further pull is there
  is_there : (n c : ℕ) → n < pulls_of block (slice_index_or cs c d) → c < length cs
  is_there n c more = of (cases_lt c (length cs))
    where
      of : (c < length cs) ⊎ (length cs ≤ c) → c < length cs
      of (inl less) = less
      of (inr past) = absurd (omega (arith, more, of_none c past))

  between : (n c i : ℕ) → (min n (pulls_of block (slice_index_or cs i d)) ≤ slice_index (pulled_after block n c cs) i) × (slice_index (pulled_after block n c cs) i ≤ min (n + 1) (pulls_of block (slice_index_or cs i d)))
  between n c i = of (cases_lt i (length cs))
    where
      of : (i < length cs) ⊎ (length cs ≤ i) → (min n (pulls_of block (slice_index_or cs i d)) ≤ slice_index (pulled_after block n c cs) i) × (slice_index (pulled_after block n c cs) i ≤ min (n + 1) (pulls_of block (slice_index_or cs i d)))
      of (inl within) = either (parted_either (pulls_in block (n + 1)) (pulls_in block n) c i cs d within)
        where
          either : (slice_index (pulled_after block n c cs) i ≡ pulls_in block (n + 1) (slice_index_or cs i d)) ⊎ (slice_index (pulled_after block n c cs) i ≡ pulls_in block n (slice_index_or cs i d))
              → (min n (pulls_of block (slice_index_or cs i d)) ≤ slice_index (pulled_after block n c cs) i) × (slice_index (pulled_after block n c cs) i ≤ min (n + 1) (pulls_of block (slice_index_or cs i d)))
          either (inl is) = (omega (arith, is), omega (arith, is))
          either (inr is) = (omega (arith, is), omega (arith, is))
      of (inr past) =
          let none : slice_index (pulled_after block n c cs) i ≡ 0 = get_or_past (pulled_after block n c cs) i 0 (omega (arith, past, parted_count (pulls_in block (n + 1)) (pulls_in block n) c cs)) in
          (omega (arith, of_none i past), omega (arith, none))

  -- in a later round more pulls were made
  more_later : (n c m e : ℕ) → n < pulls_of block (slice_index_or cs c d) → n < m → sum (pulled_after block n c cs) < sum (pulled_after block m e cs)
  more_later n c m e more less =
      less_in_all 0 0 (pulled_after block n c cs) (pulled_after block m e cs) c
      (parted_count (pulls_in block (n + 1)) (pulls_in block n) c cs ∙ sym (parted_count (pulls_in block (m + 1)) (pulls_in block m) e cs))
      (λ i. omega (arith, (between n c i).1, (between m e i).0, less))
      (omega (arith, parted_at (pulls_in block (n + 1)) (pulls_in block n) c cs d (is_there n c more), (between m e c).0, less, more))
      (omega arith)

  one_round : (n c m e : ℕ) → n < pulls_of block (slice_index_or cs c d) → m < pulls_of block (slice_index_or cs e d) → sum (pulled_after block n c cs) ≡ sum (pulled_after block m e cs) → m ≡ n
  one_round n c m e first second same = of (cases_lt n m)
    where
      of : (n < m) ⊎ (m ≤ n) → m ≡ n
      of (inl less) = absurd (omega (arith, more_later n c m e first less, same))
      of (inr le) = at (cases_lt m n)
        where
          at : (m < n) ⊎ (n ≤ m) → m ≡ n
          at (inl less) = absurd (omega (arith, more_later m e n c second less, same))
          at (inr ge) = omega (arith, le, ge)

-- so engines whose pools were full after as many pulls were in the same round
pub same_round : (r : Render) (code : Code) (e f : EngineState) (n m : ℕ) → IsFullAfter r code n e → IsFullAfter r code m f → sum f.pulled ≡ sum e.pulled → m ≡ n
same_round r code e f n m first second same =
    one_round r.block (channels code r.rate) r.rate n first.at m second.at (more e n first) (more f m second)
    (sym (ap sum (pulls e n first)) ∙ sym same ∙ ap sum (pulls f m second))
  where
    more : (e : EngineState) (n : ℕ) (is : IsFullAfter r code n e) → n < pulls_of r.block (slice_index_or (channels code r.rate) is.at (silence r.rate))
    more e n is =
        subst (λ k. n < k) (λ i. pulls_of (is.asked.block i) (slice_index_or (channels (is.piece i) (is.asked.rate i)) is.at (silence (is.asked.rate i)))) is.pulls.more

    pulls : (e : EngineState) (n : ℕ) (is : IsFullAfter r code n e) → e.pulled ≡ pulled_after r.block n is.at (channels code r.rate)
    pulls e n is = is.pulls.pulls ∙ (λ i. pulled_after (is.asked.block i) n is.at (channels (is.piece i) (is.asked.rate i)))
