-- Need never falls, and what a row needs more of has come.
use Rattle.std.proofs.Common.{◌≡◌, inl, inr, ℕ, zero, suc, ◌+◌, ◌-◌, ◌*◌, ◌<◌, ◌≤◌, min, Bool, true, false, cond, List, [], ◌∷◌, length, Some, slice_get, sym, ap, subst, ◌∙◌, arith}
use Rattle.std.specs.Prelude.{slice_index, flat_map}
use Rattle.std.specs.List.{AllByRecursion}
use Rattle.std.proofs.lemmas.Bool.{cases_lt, lt-ltb}
use Rattle.std.proofs.lemmas.Nat.{mul-le}
use Rattle.std.proofs.lemmas.List.{get_or_past}
use Rattle.ny_list.proofs.IndexLemmas.{same_some, none_some}
use Rattle.ny_heap.specs.Heap as heap
use Rattle.ny_heap.specs.Heap.{taken_after}
use Rattle.ny_heap.proofs.NeedLemmas.{taken_rises, taken_at}
use Rattle.ny_plan.specs.Rows.{RowSound, Input, Row, row_at, no_row}
use Rattle.ny_plan.specs.Need.{Filled, takes_as, need, has_come}
use Rattle.ny_plan.specs.Liveness.{reader_of, reads_left}
use Rattle.ny_plan.specs.Held.{Has, IsInOrder}
use Rattle.ny_plan.proofs.ReaderLemmas.{in_flat_map}
use Rattle.ny_plan.proofs.StandsLemmas.{in_reader_of, in_left}
use Rattle.ny_plan.specs.Order.{IsBelow, IsInputOf, AllRows}

-- more blocks need no less
pub need-rises : (block : ℕ) (x : Row) (i : Input) (j : ℕ) → need block x i j ≤ need block x i (j + 1)
need-rises block x i j = taken_rises block (takes_as x.kind) x.timing i.sound.timing j

-- an input of which the next block needs more has come
pub need-come : (block n : ℕ) (x : Row) (i : Input) (j : ℕ) → 0 < block → IsInputOf n x i → need block x i j < need block x i (j + 1) → has_come block j i ≡ true
need-come block n x i j some is more = elim is.in_time [
  | inl first ↦ lt-ltb i.offset ((j + 1) * block) (omega (arith, first, once))
  | inr mix ↦ lt-ltb i.offset ((j + 1) * block) (omega (arith, mix.1, taken mix.0, more))
]
  where
    once : block ≤ (j + 1) * block
    once = omega (arith, mul-le 1 block (j + 1) block (omega arith) (omega arith))

    taken : takes_as x.kind ≡ heap.Mix → need block x i (j + 1) ≡ min (x.timing.start + min ((j + 1) * block) x.timing.len - i.sound.timing.start) i.sound.timing.len
    taken mix = ap (λ k. taken_after block k x.timing i.sound.timing (j + 1)) mix ∙ taken_at block heap.Mix x.timing i.sound.timing (j + 1) (omega arith)

pub item_of : {A : Type 0} (P : A → Type 0) (xs : List A) (k : ℕ) (a : A) → AllByRecursion P xs → slice_get xs k ≡ Some a → P a
item_of P [] k a all there = absurd (none_some there)
item_of P (x ∷ xs) zero a all there = subst P (same_some there) all.0
item_of P (x ∷ xs) (suc k) a all there = item_of P xs k a all.1 there

-- a plan's rows read earlier rows alone, whatever is filled
pub reads-earlier : (block : ℕ) (rows : List Row) (filled : Filled) → AllRows rows → IsInOrder block rows filled
reads-earlier block rows filled all x r reads = elim (cases_lt x (length rows)) [
  | inr past ↦ absurd (none_some (sym (ap (λ (w : Row). slice_get w.inputs reads.place) (get_or_past rows x no_row past)) ∙ reads.there))
  | inl inside ↦ by_input (item_of (IsInputOf x (row_at rows x)) (row_at rows x).inputs reads.place reads.input (all x inside) reads.there) (has_come block (slice_index filled x) reads.input) reads.reads
]
  where
    by_input : IsInputOf x (row_at rows x) reads.input → (b : Bool) → Has (cond b (reads_left reads.input.sound (need block (row_at rows x) reads.input (slice_index filled x))) (flat_map (λ (s : RowSound). reader_of s.row 0) reads.input.captured)) r → r.row < x
    by_input is true has = is.earlier r.row (in_left reads.input.sound (need block (row_at rows x) reads.input (slice_index filled x)) r has).1
    by_input is false has =
        let s = in_flat_map (λ (s : RowSound). reader_of s.row 0) reads.input.captured r has in
        item_of (IsBelow x) reads.input.captured s.0 s.1 is.keeps_earlier s.2 r.row (in_reader_of s.1.row 0 r s.3).0

-- the same of the rows of a plan
pub plan-come : (rows : List Row) → AllRows rows → (block n k : ℕ) (i : Input) (j : ℕ) → 0 < block → slice_get (row_at rows n).inputs k ≡ Some i → need block (row_at rows n) i j < need block (row_at rows n) i (j + 1) → has_come block j i ≡ true
plan-come rows all block n k i j some there more = elim (cases_lt n (length rows)) [
  | inr past ↦ absurd (none_some (sym (ap (λ (w : Row). slice_get w.inputs k) (get_or_past rows n no_row past)) ∙ there))
  | inl inside ↦ need-come block n (row_at rows n) i j some (item_of (IsInputOf n (row_at rows n)) (row_at rows n).inputs k i (all n inside) there) more
]
