-- Each fill counts one block more.
use Rattle.std.proofs.Common.{◌≡◌, ℕ, zero, suc, ◌+◌, ◌-◌, ◌<◌, Bool, true, false, cond, List, [], ◌∷◌, ◌++◌, fold, length, sum, Option, None, Some, refl, ap, ◌∙◌, arith}
use Rattle.std.specs.Prelude.{slice_index, slice_set}
use Rattle.std.specs.List.{AllByRecursion}
use Rattle.std.proofs.Math.ListN.{length-set, length-append}
use Rattle.ny_heap.specs.Heap.{blocks_of}
use Rattle.ny_plan.specs.Rows.{Input, Row, row_at}
use Rattle.ny_plan.specs.Need.{Filled, need, has_come}
use Rattle.ny_plan.specs.Fills.{Fills, no_fills, fill_of, repeated, for_each, filled_upto, fill_input, fill_row}
use Rattle.ny_plan.specs.Order.{IsBelow, IsInputOf, AllRows}

fold_more : (n : ℕ) (ns : List ℕ) → fold ◌+◌ (n + 1) ns ≡ fold ◌+◌ n ns + 1
fold_more n [] = refl
fold_more n (m ∷ ns) = let turned : n + 1 + m ≡ n + m + 1 = omega arith in ap (λ k. fold ◌+◌ k ns) turned ∙ fold_more (n + m) ns

sum_more : (ns : List ℕ) (j : ℕ) → j < length ns → sum (slice_set ns j (slice_index ns j + 1)) ≡ sum ns + 1
sum_more ns j within = from 0 ns j within
  where
    from : (a : ℕ) (ns : List ℕ) (j : ℕ) → j < length ns → fold ◌+◌ a (slice_set ns j (slice_index ns j + 1)) ≡ fold ◌+◌ a ns + 1
    from a [] j within = absurd (omega (arith, within))
    from a (n ∷ ns) zero within = let turned : a + (n + 1) ≡ a + n + 1 = omega arith in ap (λ m. fold ◌+◌ m ns) turned ∙ fold_more (a + n) ns
    from a (n ∷ ns) (suc j) within = from (a + n) ns j (omega (arith, within))

-- so many fills are one block more each
pub record Counted (f : Filled) (fills : Fills) : Type 0 where
  pub size : length fills.filled ≡ length f
  pub sum : sum fills.filled ≡ sum f + length fills.order

pub counted_none : (f : Filled) → Counted f (no_fills f)
counted_none f = record { size = refl; sum = omega arith }

counted_then : (f : Filled) (first rest : Fills) → Counted f first → Counted first.filled rest → Counted f (record { order = first.order ++ rest.order; filled = rest.filled })
counted_then f first rest p q = record { size = q.size ∙ p.size; sum = omega (arith, p.sum, q.sum, length-append first.order rest.order) }

counted_fill : (x : ℕ) (f : Filled) → x < length f → Counted f (fill_of x f)
counted_fill x f within = record { size = length-set f x (slice_index f x + 1); sum = omega (arith, sum_more f x within) }

module _ (block : ℕ) (rows : List Row) (all : AllRows rows) where
  -- a fill of a row, whatever is filled
  abbrev CountsFill : (Filled → Fills) → Type 0
  CountsFill fill = (f : Filled) → length f ≡ length rows → Counted f (fill f)

  counted_repeated : (fill : Filled → Fills) → CountsFill fill → (n : ℕ) → CountsFill (repeated n fill)
  counted_repeated fill counts zero f size = counted_none f
  counted_repeated fill counts (suc n) f size =
      let first = counts f size in
      counted_then f (fill f) (repeated n fill (Fills.filled (fill f))) first (counted_repeated fill counts n (Fills.filled (fill f)) (first.size ∙ size))

  counted_upto : (x : ℕ) (fill : ℕ → Filled → Fills) → ((y : ℕ) → y < x → CountsFill (fill y)) → (o : Option ℕ) → ((y : ℕ) → o ≡ Some y → y < x) → (n : ℕ) → CountsFill (filled_upto fill o n)
  counted_upto x fill counts None earlier n f size = counted_none f
  counted_upto x fill counts (Some y) earlier n f size = counted_repeated (fill y) (counts y (earlier y refl)) (n - slice_index f y) f size

  counted_input : (x done : ℕ) (fill : ℕ → Filled → Fills) → ((y : ℕ) → y < x → CountsFill (fill y)) → (i : Input) → IsBelow x i.sound → CountsFill (fill_input block fill (row_at rows x) done i)
  counted_input x done fill counts i earlier f size = by_test (has_come block done i)
    where
      by_test : (b : Bool) → Counted f (cond b (filled_upto fill i.sound.row (blocks_of block (need block (row_at rows x) i (done + 1))) f) (no_fills f))
      by_test false = counted_none f
      by_test true = counted_upto x fill counts i.sound.row earlier (blocks_of block (need block (row_at rows x) i (done + 1))) f size

  counted_each : (x done : ℕ) (fill : ℕ → Filled → Fills) → ((y : ℕ) → y < x → CountsFill (fill y)) → (is : List Input) → AllByRecursion (IsInputOf x (row_at rows x)) is → CountsFill (for_each (fill_input block fill (row_at rows x) done) is)
  counted_each x done fill counts [] these f size = counted_none f
  counted_each x done fill counts (i ∷ is) these f size =
      let first = counted_input x done fill counts i these.0.earlier f size in
      let mid = Fills.filled (fill_input block fill (row_at rows x) done i f) in
      counted_then f (fill_input block fill (row_at rows x) done i f) (for_each (fill_input block fill (row_at rows x) done) is mid) first (counted_each x done fill counts is these.1 mid (first.size ∙ size))

  pub counted_row : (depth x : ℕ) → x < length rows → CountsFill (fill_row block rows depth x)
  counted_row zero x inside f size = counted_none f
  counted_row (suc depth) x inside f size =
      let inputs = for_each (fill_input block (fill_row block rows depth) (row_at rows x) (slice_index f x)) (row_at rows x).inputs f in
      let first = counted_each x (slice_index f x) (fill_row block rows depth) (λ y before. counted_row depth y (omega (arith, inside, before))) (row_at rows x).inputs (all x inside) f size in
      counted_then f inputs (fill_of x (Fills.filled inputs)) first (counted_fill x (Fills.filled inputs) (omega (arith, first.size, size, inside)))
