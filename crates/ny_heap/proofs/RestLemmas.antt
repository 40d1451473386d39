-- The cursors that are left of a unit's work.
use Rattle.std.proofs.Common.{◌≡◌, ℕ, zero, suc, ◌+◌, ◌-◌, ◌<◌, ◌≤◌, ◌∷◌, ◌++◌, length, map, Option, None, Some, refl, sym, ap, ◌∙◌, arith, length-set}
use Rattle.std.specs.List.{range_with_len, sum_by}
use Rattle.std.specs.Option.{option_map}
use Rattle.std.proofs.lemmas.List.FromFn.{length-map-range_with_len}
use Rattle.std.proofs.lemmas.List.Sums.{sum_by-append}
use Rattle.ny_num.specs.declared.timing.Timing.{Timing}
use Rattle.ny_num.proofs.WrittenLists.{same_places}
use Rattle.ny_list.specs.Store.{CursorState}
use Rattle.ny_list.proofs.IndexLemmas.{tab_get, sums_agree}
use Rattle.ny_heap.specs.declared.table.Unit.{Unit as UnitData}
use Rattle.ny_mix.specs.declared.part.Part.{Part}
use Rattle.ny_mix.specs.Mixes.{part_at}
use Rattle.ny_heap.specs.declared.work.Work.{Work}
use Rattle.ny_heap.specs.declared.work.Work.TheVariants.{Leaf as LeafWork, Pair as PairWork, Abs as AbsWork, Resample as ResampleWork, Filter as FilterWork, Mix as MixWork, Channel as ChannelWork}
use Rattle.ny_heap.specs.Heap.{Reader, is_reader}
use Rattle.ny_units.specs.Inputs.{taken_of}
use Rattle.ny_heap.specs.Work.{inputs_in, source_at, cursor_at, without_cursor_at, kept_in, cursors_of_sounds}
use Rattle.ny_heap.proofs.PartLemmas.{part_else}
use Rattle.ny_heap.proofs.KeepLemmas.{kept_wired}
use Rattle.ny_heap.specs.Table.{readers_of, input_of, own_of, stands_at, rest_of, timing_at}

pub same_count : (w : Work) (i : ℕ) → inputs_in (without_cursor_at w i) ≡ inputs_in w
same_count (LeafWork p) i = refl
same_count (PairWork p a b) i = refl
same_count (AbsWork s) i = refl
same_count (ResampleWork r) i = refl
same_count (FilterWork f start) i = refl
same_count (MixWork m) i = length-set m.parts i (record (part_at m.parts i) { cursor = None })
same_count (ChannelWork p) i = refl

pub other_cursor : (w : Work) (i k : ℕ) → i < k → k < inputs_in w → cursor_at (without_cursor_at w i) k ≡ cursor_at w k
other_cursor (LeafWork p) i k later inside = refl
other_cursor (PairWork p (Some a) (Some b)) i k later inside = absurd (omega (arith, inside))
other_cursor (PairWork p (Some a) None) i k later inside = absurd (omega (arith, inside, later))
other_cursor (PairWork p None (Some b)) i k later inside = absurd (omega (arith, inside, later))
other_cursor (PairWork p None None) zero zero later inside = absurd (omega (arith, later))
other_cursor (PairWork p None None) zero (suc zero) later inside = refl
other_cursor (PairWork p None None) zero (suc (suc k)) later inside = absurd (omega (arith, inside))
other_cursor (PairWork p None None) (suc i) k later inside = absurd (omega (arith, inside, later))
other_cursor (AbsWork s) i k later inside = absurd (omega (arith, inside, later))
other_cursor (ResampleWork r) i k later inside = absurd (omega (arith, inside, later))
other_cursor (FilterWork f start) i k later inside = absurd (omega (arith, inside, later))
other_cursor (MixWork m) i k later inside = ap (λ (p : Part). p.cursor) (part_else m.parts i k None (λ e. omega (arith, e, later)))
other_cursor (ChannelWork p) i k later inside = absurd (omega (arith, inside, later))

pub rest_done : (w : Work) (i : ℕ) → inputs_in w ≤ i → rest_of w i ≡ cursors_of_sounds (kept_in w)
rest_done w i past = let e : inputs_in w - i ≡ 0 = omega (arith, past) in ap (λ n. map (cursor_at w) (range_with_len i n) ++ cursors_of_sounds (kept_in w)) e

pub rest_more : (w : Work) (i : ℕ) → i < inputs_in w → rest_of w i ≡ cursor_at w i ∷ rest_of w (i + 1)
rest_more w i inside =
    let e : inputs_in w - i ≡ suc (inputs_in w - (i + 1)) = omega (arith, inside) in
    ap (λ n. map (cursor_at w) (range_with_len i n) ++ cursors_of_sounds (kept_in w)) e
    ∙ ap (λ m. cursor_at w i ∷ map (cursor_at w) (range_with_len m (inputs_in w - (i + 1))) ++ cursors_of_sounds (kept_in w)) (omega arith)

pub rest_without : (w : Work) (i : ℕ) → rest_of (without_cursor_at w i) (i + 1) ≡ rest_of w (i + 1)
rest_without w i =
    ap (λ n. map (cursor_at (without_cursor_at w i)) (range_with_len (i + 1) (n - (i + 1))) ++ cursors_of_sounds (kept_in (without_cursor_at w i))) (same_count w i)
    ∙ ap (λ cs. cs ++ cursors_of_sounds (kept_in (without_cursor_at w i)))
    (same_places (cursor_at (without_cursor_at w i)) (cursor_at w) (i + 1) (i + 1) (inputs_in w - (i + 1)) None (λ k h. other_cursor w i (i + 1 + k) (omega arith) (omega (arith, h))))
    ∙ ap (λ ks. map (cursor_at w) (range_with_len (i + 1) (inputs_in w - (i + 1))) ++ cursors_of_sounds ks) (kept_wired w i (taken_of (source_at w i)))

pub same_mark : (block len v j : ℕ) (t : Timing) (o : Option CursorState) → stands_at block len v j o ≡ is_reader block len v j (option_map {U = Reader} (λ c. record { node = c.list; place = c.place; timing = t }) o)
same_mark block len v j t None = refl
same_mark block len v j t (Some c) = refl

-- a unit's inputs are those of its work
pub inputs_rest : (block len v j : ℕ) (x : UnitData) → length x.inputs.items ≡ inputs_in x.work
    → sum_by (stands_at block len v j) (map (cursor_at x.work) (range_with_len 0 (inputs_in x.work - 0))) ≡ sum_by (is_reader block len v j) (readers_of x)
inputs_rest block len v j x count =
    ap (λ n. sum_by (stands_at block len v j) (map (cursor_at x.work) (range_with_len 0 n))) all
    ∙ sums_agree (stands_at block len v j) (is_reader block len v j) None None (map (cursor_at x.work) (range_with_len 0 n)) (readers_of x)
    (length-map-range_with_len (cursor_at x.work) 0 n ∙ sym (length-map-range_with_len (input_of x) 0 n))
    (λ k h. let inside : k < n = omega (arith, h, length-map-range_with_len (cursor_at x.work) 0 n) in
    ap (stands_at block len v j) (tab_get (cursor_at x.work) n k None inside)
    ∙ same_mark block len v j (timing_at x k) (cursor_at x.work k)
    ∙ ap (is_reader block len v j) (sym (tab_get (input_of x) n k None inside)))
  where
    n : ℕ
    n = length x.inputs.items

    all : inputs_in x.work - 0 ≡ n
    all = omega (arith, count)

-- and so are its cursors
pub own_rest : (block len v j : ℕ) (x : UnitData) → length x.inputs.items ≡ inputs_in x.work → sum_by (stands_at block len v j) (rest_of x.work 0) ≡ own_of block len v j x
own_rest block len v j x count =
    omega (
      arith,
      inputs_rest block len v j x count,
      sum_by-append (stands_at block len v j) (map (cursor_at x.work) (range_with_len 0 (inputs_in x.work - 0))) (cursors_of_sounds (kept_in x.work)),
    )
