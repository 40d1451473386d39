-- Counts of fills, one after another.
use Rattle.std.proofs.Common.{◌≡◌, ℕ, ◌+◌, ◌-◌, ◌<◌, ◌^◌, min, max, List, [], ◌∷◌, ◌++◌, refl, sym, ap, subst, ◌∙◌, arith}
use Rattle.std.specs.List.{AllByRecursion}
use Rattle.ny_heap.specs.Heap.{HeapState, live_of}
use Rattle.ny_hands.specs.declared.branch.Branch.{Branch}
use Rattle.ny_hands.specs.Counts.{SameCounts}
use Rattle.ny_plan.specs.Rows.{Row}
use Rattle.ny_plan.specs.Need.{Filled}
use Rattle.ny_plan.specs.Liveness.{live}
use Rattle.ny_plan.specs.Peak.{live_before}
use Rattle.ny_walk.specs.Walk.{FillTurn}
use Rattle.ny_match.specs.Counting.{more_fills, higher_peak, Counts}
use Rattle.ny_match.proofs.OrderLemmas.{raised, before_append}

pub fills_append : (n : ℕ) (xs ys : List ℕ) → more_fills n (xs ++ ys) ≡ more_fills (more_fills n xs) ys
fills_append n [] ys = refl
fills_append n (x ∷ xs) ys = fills_append (min (n + 1) (2 ^ 64 - 1)) xs ys

pub peak_append : (p : ℕ) (ns ms : List ℕ) → higher_peak p (ns ++ ms) ≡ higher_peak (higher_peak p ns) ms
peak_append p [] ms = refl
peak_append p (n ∷ ns) ms = peak_append (max p (n + 1)) ns ms

all_append : {A : Type 0} (P : A → Type 0) (xs ys : List A) → AllByRecursion P xs → AllByRecursion P ys → AllByRecursion P (xs ++ ys)
all_append P [] ys a b = b
all_append P (x ∷ xs) ys a b = (a.0, all_append P xs ys a.1 b)

pub counts_none : (rows : List Row) (f : Filled) (h : HeapState Branch) → Counts rows f [] h h
counts_none rows f h = record { pool = refl; block = refl; fills = refl; peak = refl; room = tt }

-- some fills, and then others
pub counts_more : (rows : List Row) (f : Filled) (xs ys : List ℕ) (old mid new : HeapState Branch) → Counts rows f xs old mid → Counts rows (raised xs f) ys mid new → Counts rows f (xs ++ ys) old new
counts_more rows f xs ys old mid new first rest = record {
  pool = rest.pool ∙ first.pool;
  block = rest.block ∙ first.block;
  fills = rest.fills ∙ ap (λ n. more_fills n ys) first.fills ∙ sym (fills_append old.fills xs ys);
  peak = rest.peak ∙ (λ i. higher_peak (first.peak i) (live_before (first.block i) rows ys (raised xs f)))
      ∙ sym (peak_append old.peak (live_before old.block rows xs f) (live_before old.block rows ys (raised xs f)))
      ∙ ap (higher_peak old.peak) (sym (before_append old.block rows xs ys f));
  room = subst (AllByRecursion (λ n. n < old.pool)) (sym (before_append old.block rows xs ys f))
      (all_append (λ n. n < old.pool) (live_before old.block rows xs f) (live_before old.block rows ys (raised xs f)) first.room
      (subst (λ p. AllByRecursion (λ n. n < p) (live_before old.block rows ys (raised xs f))) first.pool
      (subst (λ b. AllByRecursion (λ n. n < mid.pool) (live_before b rows ys (raised xs f))) first.block rest.room)));
}

-- what changes no count
pub counts_same : (rows : List Row) (f : Filled) (xs : List ℕ) (old mid new : HeapState Branch) → Counts rows f xs old mid → SameCounts mid new → Counts rows f xs old new
counts_same rows f xs old mid new c same = record {
  pool = same.pool ∙ c.pool;
  block = same.block ∙ c.block;
  fills = same.fills ∙ c.fills;
  peak = same.peak ∙ c.peak;
  room = c.room;
}

-- one fill, which found a block free
pub counts_fill : (rows : List Row) (f : Filled) (x : ℕ) (old new : HeapState Branch) (u : ℕ) → FillTurn old new u → live_of old ≡ live old.block rows f → Counts rows f (x ∷ []) old new
counts_fill rows f x old new u turn lives =
    let filled = turn.fills.filled in
    let trimmed = turn.fills.trimmed in
    record {
      pool = trimmed.size.pool ∙ filled.size.pool;
      block = trimmed.size.block ∙ filled.size.block;
      fills = trimmed.fills ∙ filled.fills;
      peak = trimmed.peak ∙ filled.peak ∙ ap (λ n. max old.peak (n + 1)) lives;
      room = (omega (arith, turn.room, lives), tt);
    }
