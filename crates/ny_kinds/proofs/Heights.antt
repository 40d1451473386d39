-- A body that is judged in place ends: its declaration comes before, and so do those that it calls.
use Rattle.std.proofs.Common.{◌≡◌, ℕ, zero, suc, ◌+◌, ◌*◌, ◌<◌, ◌≤◌, List, length, get_or, refl, sym, ap, ◌∙◌, arith, subst, inl, inr}
use Rattle.std.specs.Prelude.{◌⊎◌}
use Rattle.std.proofs.lemmas.Bool.{cases_lt}
use Rattle.ny_resolve.specs.declared.term.Declared.{Declared}
use Rattle.ny_resolve.proofs.term.Part.TheLaws as parts
use Rattle.ny_kinds.specs.Kinds.{no_declared}

-- the heights of the bodies before this declaration, each and 1, added up
abbrev pub heights_below : List Declared → ℕ → ℕ
heights_below ds zero = 0
heights_below ds (suc n) = heights_below ds n + parts.the_size (get_or ds n no_declared).body + 1

pub heights-more : (ds : List Declared) (n m : ℕ) → n ≤ m → heights_below ds n ≤ heights_below ds m
heights-more ds n zero h = let e : n ≡ 0 = omega arith in rw e (omega arith)
heights-more ds n (suc m) h = by (heights-more ds n m) (cases_lt m n)
  where
    by : (n ≤ m → heights_below ds n ≤ heights_below ds m) → ((m < n) ⊎ (n ≤ m)) → heights_below ds n ≤ heights_below ds (suc m)
    by before (inl lt) = let e : n ≡ suc m = omega arith in rw e (omega arith)
    by before (inr le) = let w : heights_below ds n ≤ heights_below ds m = before le in omega arith

pub body-falls : (ds : List Declared) (n here : ℕ) → n < here → 4 * heights_below ds (n + 1) < 4 * heights_below ds here + 1
body-falls ds n here h = let le : heights_below ds (n + 1) ≤ heights_below ds here = heights-more ds (n + 1) here (omega arith) in omega arith
