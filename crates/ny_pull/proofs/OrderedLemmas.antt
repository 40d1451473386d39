-- What is live along an order of pulls, with one pull more.
use Rattle.std.proofs.Common.{◌≡◌, ℕ, suc, ◌+◌, ◌<◌, Bool, true, false, cond, List, [], ◌∷◌, ◌++◌, length, map, None, Some, refl, sym, ap, ◌∙◌, arith}
use Rattle.std.specs.Prelude.{◌==◌, ◌||◌, max, fold, flat_map}
use Rattle.std.specs.List.{AllByRecursion, list_any, position, position_from}
use Rattle.std.proofs.lemmas.Bool.{ne_eqb}
use Rattle.std.proofs.lemmas.Grind.{flat_map-append}
use Rattle.std.proofs.lemmas.Iterator.Adapters.{position_from-zero}
use Rattle.std.proofs.lemmas.List.{append-nil, map-append}
use Rattle.std.proofs.lemmas.List.Sums.{fold-append}
use Rattle.ny_plan.specs.Rows.{Plan}
use Rattle.ny_plan.specs.Need.{Filled}
use Rattle.ny_plan.specs.Fills.{Pulls, Fills, fills}
use Rattle.ny_plan.specs.Peak.{nothing_filled, live_before, live_along, peak_of, first_full}
use Rattle.ny_plan.specs.Lines.{pulled}
use Rattle.ny_match.specs.Counting.{higher_peak}
use Rattle.ny_pull.specs.Ordered.{pulls_along, filled_along}

-- ---- the first that passes a test

found_later : {A : Type 0} (test : A → Bool) (i : ℕ) (xs : List A) (y : A) (ys : List A) → position_from test i xs ≡ None → test y ≡ true → position_from test i (xs ++ y ∷ ys) ≡ Some (i + length xs)
found_later test i [] y ys none here = ap (λ b. cond b (Some i) (position_from test (i + 1) ys)) here ∙ ap Some (omega arith)
found_later test i (x ∷ xs) y ys none here = by_test (test x) none (λ later. found_later test (i + 1) xs y ys later here)
  where
    by_test : (b : Bool) → cond b (Some i) (position_from test (i + 1) xs) ≡ None → (position_from test (i + 1) xs ≡ None → position_from test (i + 1) (xs ++ y ∷ ys) ≡ Some (i + 1 + length xs))
        → cond b (Some i) (position_from test (i + 1) (xs ++ y ∷ ys)) ≡ Some (i + suc (length xs))
    by_test true none rest = cc
    by_test false none rest = rest none ∙ ap Some (omega arith)

never_later : {A : Type 0} (test : A → Bool) (i : ℕ) (xs : List A) (y : A) → position_from test i xs ≡ None → test y ≡ false → position_from test i (xs ++ y ∷ []) ≡ None
never_later test i [] y none not = ap (λ b. cond b (Some i) None) not
never_later test i (x ∷ xs) y none not = by_test (test x) none (λ later. never_later test (i + 1) xs y later not)
  where
    by_test : (b : Bool) → cond b (Some i) (position_from test (i + 1) xs) ≡ None → (position_from test (i + 1) xs ≡ None → position_from test (i + 1) (xs ++ y ∷ []) ≡ None)
        → cond b (Some i) (position_from test (i + 1) (xs ++ y ∷ [])) ≡ None
    by_test true none rest = none
    by_test false none rest = rest none

none_at : (size : ℕ) (ns : List ℕ) → AllByRecursion (λ n. n < size) ns → list_any (λ n. n == size) ns ≡ false
none_at size [] all = refl
none_at size (n ∷ ns) all = (λ i. ne_eqb n size (λ is. absurd (omega (arith, all.0, is))) i || none_at size ns all.1 i)

-- ---- an order, and pulls after it

pub pulls_then : (order : List ℕ) (c : ℕ) (pulls : Pulls) → pulls_along (order ++ c ∷ []) pulls ≡ pulled c (pulls_along order pulls)
pulls_then [] c pulls = refl
pulls_then (d ∷ order) c pulls = pulls_then order c (pulled d pulls)

module _ (block : ℕ) (p : Plan) where
  pub filled_then : (order : List ℕ) (c : ℕ) (f : Filled) → filled_along block p (order ++ c ∷ []) f ≡ Fills.filled (fills block p (filled_along block p order f) c)
  filled_then [] c f = refl
  filled_then (d ∷ order) c f = filled_then order c (Fills.filled (fills block p f d))

  live_then : (order : List ℕ) (c : ℕ) (rest : List ℕ) (f : Filled) → live_along block p (order ++ c ∷ rest) f ≡ live_along block p order f ++ live_along block p (c ∷ rest) (filled_along block p order f)
  live_then [] c rest f = refl
  live_then (d ∷ order) c rest f = ap (λ found. live_before block p.rows (Fills.order (fills block p f d)) f ∷ found) (live_then order c rest (Fills.filled (fills block p f d)))

  many_along : (order : List ℕ) (f : Filled) → length (live_along block p order f) ≡ length order
  many_along [] f = refl
  many_along (d ∷ order) f = ap suc (many_along order (Fills.filled (fills block p f d)))

  module _ (order : List ℕ) (c : ℕ) where
    abbrev before : Filled
    before = filled_along block p order (nothing_filled p.rows)

    -- how many blocks are live before each fill of a pull of channel c after the order
    abbrev pub found : List ℕ
    found = live_before block p.rows (Fills.order (fills block p before c)) before

    pub peak_then : peak_of block p (order ++ c ∷ []) ≡ higher_peak (peak_of block p order) found
    unfolding peak_of
    peak_then =
        ap (λ (xs : List (List ℕ)). fold max 0 (map (λ n. n + 1) (flat_map (λ ns. ns) xs))) (live_then order c [] (nothing_filled p.rows))
        ∙ ap (λ (ns : List ℕ). fold max 0 (map (λ n. n + 1) ns)) (flat_map-append (λ ns. ns) (live_along block p order (nothing_filled p.rows)) (found ∷ []))
        ∙ ap (λ (ns : List ℕ). fold max 0 (map (λ n. n + 1) (flat_map (λ ns. ns) (live_along block p order (nothing_filled p.rows)) ++ ns))) (append-nil found)
        ∙ ap (fold max 0) (map-append (λ n. n + 1) (flat_map (λ ns. ns) (live_along block p order (nothing_filled p.rows))) found)
        ∙ fold-append max 0 (map (λ n. n + 1) (flat_map (λ ns. ns) (live_along block p order (nothing_filled p.rows)))) (map (λ n. n + 1) found)

    module _ (size : ℕ) (none : first_full block p size order ≡ None) where
      abbrev is_full : List ℕ → Bool
      is_full ns = list_any (λ n. n == size) ns

      none_before : position_from is_full 0 (live_along block p order (nothing_filled p.rows)) ≡ None
      unfolding first_full
      none_before = sym (position_from-zero is_full (live_along block p order (nothing_filled p.rows))) ∙ none

      pub full_then : (rest : List ℕ) → list_any (λ n. n == size) found ≡ true → first_full block p size (order ++ c ∷ rest) ≡ Some (length order)
      unfolding first_full
      full_then rest here =
          ap (position is_full) (live_then order c rest (nothing_filled p.rows))
          ∙ position_from-zero is_full (live_along block p order (nothing_filled p.rows) ++ live_along block p (c ∷ rest) before)
          ∙ found_later is_full 0 (live_along block p order (nothing_filled p.rows)) found (live_along block p rest (Fills.filled (fills block p before c))) none_before here
          ∙ ap Some (let many : 0 + length (live_along block p order (nothing_filled p.rows)) ≡ length order = omega (arith, many_along order (nothing_filled p.rows)) in many)

      pub room_then : AllByRecursion (λ n. n < size) found → first_full block p size (order ++ c ∷ []) ≡ None
      unfolding first_full
      room_then all =
          ap (position is_full) (live_then order c [] (nothing_filled p.rows))
          ∙ position_from-zero is_full (live_along block p order (nothing_filled p.rows) ++ found ∷ [])
          ∙ never_later is_full 0 (live_along block p order (nothing_filled p.rows)) found none_before (none_at size found all)
