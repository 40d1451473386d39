-- What fills of the plan's rows leave of a heap's counts.
use Rattle.std.specs.Prelude.{◌≡◌, ℕ, ◌+◌, ◌-◌, ◌<◌, ◌^◌, min, max, map, fold, List, [], ◌∷◌}
use Rattle.std.specs.List.{AllByRecursion}
use Rattle.ny_heap.specs.Heap.{HeapState}
use Rattle.ny_hands.specs.declared.branch.Branch.{Branch}
use Rattle.ny_plan.specs.Rows.{Row}
use Rattle.ny_plan.specs.Need.{Filled}
use Rattle.ny_plan.specs.Peak.{live_before}

-- a count of fills once these rows were filled: it stands still at its end
abbrev pub more_fills : ℕ → List ℕ → ℕ
more_fills n [] = n
more_fills n (x ∷ xs) = more_fills (min (n + 1) (2 ^ 64 - 1)) xs

-- a peak once so many blocks were live before each of these fills
abbrev pub higher_peak : ℕ → List ℕ → ℕ
higher_peak peak ns = fold max peak (map (λ n. n + 1) ns)

-- These rows were filled, in order, and each fill found a block free
pub record Counts (rows : List Row) (f : Filled) (order : List ℕ) (old new : HeapState Branch) : Type 0 where
  pub pool : new.pool ≡ old.pool
  pub block : new.block ≡ old.block
  pub fills : new.fills ≡ more_fills old.fills order
  pub peak : new.peak ≡ higher_peak old.peak (live_before old.block rows order f)
  pub room : AllByRecursion (λ n. n < old.pool) (live_before old.block rows order f)
