-- Where sounds read the channels, the channels alone are read from outside.
use Rattle.std.proofs.Common.{◌≡◌, ◌≢◌, inl, inr, ℕ, zero, suc, ◌+◌, ◌-◌, ◌*◌, ◌/◌, ◌<◌, ◌≤◌, min, nat_lt, List, [], ◌∷◌, length, sum, Option, None, Some, slice_get, refl, sym, ap, subst, ◌∙◌, arith}
use Rattle.std.specs.Prelude.{slice_index, slice_set}
use Rattle.std.specs.Option.{option_map}
use Rattle.std.proofs.lemmas.Bool.{cases_lt, cases_eq, lt-ltb, le-ltb, true≢false}
use Rattle.std.proofs.lemmas.List.{get_or_past, get_or-set_other}
use Rattle.std.proofs.lemmas.Option.{slice_get_within}
use Rattle.std.proofs.Math.Nat.{mul-div_left, div-lt_iff_lt-mul, suc-mul}
use Rattle.std.proofs.lemmas.Nat.{le-div}
use Rattle.ny_list.proofs.IndexLemmas.{same_some, none_some, sum_set}
use Rattle.ny_heap.specs.declared.sound.Sound.{Sound}
use Rattle.ny_heap.specs.Heap.{Node, HeapState, node_at, list_of, place_of, blocks_of, stands_in}
use Rattle.ny_heap.specs.Steps.{IsCounted, IsHeldAt, IsHeldSound}
use Rattle.ny_heap.proofs.NeedLemmas.{stands_mid}
use Rattle.ny_hands.specs.declared.branch.Branch.{Branch}
use Rattle.ny_hands.specs.Hands.{marks_at}
use Rattle.ny_hands.proofs.OptionLemmas.{same_at}
use Rattle.ny_hands.proofs.HandLemmas.{marks_there}
use Rattle.ny_hands.proofs.HeapLemmas.{mark_counts}
use Rattle.ny_plan.specs.Rows.{RowSound, Row, Plan, row_at}
use Rattle.ny_plan.specs.Need.{Filled, is_open}
use Rattle.ny_plan.specs.StandsFor.{IsRoot}
use Rattle.ny_match.specs.Matched.{Seats}
use Rattle.ny_match.specs.Roots.{Roots}
use Rattle.ny_match.specs.Channels.{HasChannels, AreReading}

-- ---- all channels

there_is : {A : Type 0} (xs : List A) (k : ℕ) → k < length xs → (a : A) × (slice_get xs k ≡ Some a)
there_is [] k within = absurd (omega (arith, within))
there_is (x ∷ xs) zero within = (x, refl)
there_is (x ∷ xs) (suc k) within = there_is xs k (omega (arith, within))

pub roots_read : (p : Plan) (f : Filled) (h : HeapState Branch) (seats : Seats) (sounds : List (Option Sound)) → HasChannels p → AreReading p f h seats.row sounds → Roots p.rows f h seats
roots_read p f h seats sounds channels reading = record { outside = outside; there = there }
  where
    outside : (v j : ℕ) → 0 < marks_at h v j → IsRoot h.block (row_at p.rows (seats.row v)) (slice_index f (seats.row v)) × (j ≡ slice_index f (seats.row v))
    outside v j some =
        let a = reading.alone v j some in
        let r = there_is p.channels a.0 (omega (arith, reading.count, slice_get_within sounds a.0 (Some a.1) a.2)) in
        let row : r.0.row ≡ Some (seats.row v) = reading.names a.0 a.1 r.0 a.2 r.1 ∙ ap (option_map seats.row) a.3 in
        (((channels.rows a.0 (seats.row v) r.0 r.1 row).kind, reading.opens a.0 v a.1 a.2 a.3), reading.stands a.0 v j a.1 a.2 a.3 some)

    there : (c : ℕ) → IsRoot h.block (row_at p.rows c) (slice_index f c) → (v : ℕ) × (0 < marks_at h v (slice_index f c)) × (seats.row v ≡ c)
    there c root =
        let r = channels.played c root.0 in
        let o = there_is sounds r.0 (omega (arith, reading.count, slice_get_within p.channels r.0 r.1 r.2)) in
        by_sound r.0 r.1 r.2 r.3 o.0 o.1
      where
        by_list : (k : ℕ) (s : Sound) → slice_get sounds k ≡ Some (Some s) → (o : Option ℕ) → list_of s ≡ o → option_map seats.row o ≡ Some c → (v : ℕ) × (0 < marks_at h v (slice_index f c)) × (seats.row v ≡ c)
        by_list k s at None is e = absurd (none_some e)
        by_list k s at (Some n) is e = (n, subst (λ w. 0 < marks_at h n (slice_index f w)) (same_some e) (reading.marks k n s at is), same_some e)

        by_sound : (k : ℕ) (r : RowSound) → slice_get p.channels k ≡ Some r → r.row ≡ Some c → (o : Option Sound) → slice_get sounds k ≡ Some o → (v : ℕ) × (0 < marks_at h v (slice_index f c)) × (seats.row v ≡ c)
        by_sound k r here is None at = absurd (true≢false (sym root.1 ∙ reading.ended k c r at here is))
        by_sound k r here is (Some s) at = by_list k s at (list_of s) refl (sym (reading.names k s r at here) ∙ is)

-- ---- one channel

-- two marks are no more than all
two_marks : (ns : List ℕ) (j p : ℕ) → j ≢ p → slice_index ns j + slice_index ns p ≤ sum ns
two_marks ns j p other = elim (cases_lt j (length ns)) [
  | inl within ↦ omega (arith, sum_set ns j 0 within, mark_counts (slice_set ns j 0) p, get_or-set_other ns j p 0 0 (λ same. other (sym same)))
  | inr past ↦ omega (arith, get_or_past ns j 0 past, mark_counts ns p)
]

-- A sound that has read all blocks that are filled, of a list that it shows whole and reads alone, stands where the next one begins
pub channel_stands : (h : HeapState Branch) (s : Sound) (n pulls : ℕ) (unit : Node Branch) → 0 < h.block → node_at h n ≡ Some unit → list_of s ≡ Some n → IsHeldSound h s → unit.timing.len ≡ s.timing.len → sum unit.outside ≡ 1
    → place_of s ≡ min (pulls * h.block) s.timing.len → pulls * h.block < s.timing.len → (0 < marks_at h n pulls) × ((j : ℕ) → 0 < marks_at h n j → j ≡ pulls)
channel_stands h s n pulls unit some there list held shown only place less = (here, alone)
  where
    counted : IsCounted h s n
    counted = subst (IsHeldAt h s) list held.1

    same : counted.unit ≡ unit
    same = same_at (node_at h n) counted.unit unit counted.there there

    stands : stands_in h.block unit.timing.len (place_of s) ≡ pulls
    stands =
        stands_mid h.block unit.timing.len (place_of s) (λ e. absurd (omega (arith, e, shown, place, less)))
        ∙ ap (λ m. m / h.block) (omega (arith, place, less))
        ∙ mul-div_left pulls some

    mark : 0 < slice_index unit.outside pulls
    mark = subst (λ m. 0 < slice_index unit.outside m) stands (subst (λ (x : Node Branch). 0 < slice_index x.outside (stands_in h.block x.timing.len (place_of s))) same counted.stands)

    here : 0 < marks_at h n pulls
    here = omega (arith, mark, marks_there h n unit pulls there)

    alone : (j : ℕ) → 0 < marks_at h n j → j ≡ pulls
    alone j more = elim (cases_eq j pulls) [
      | inl e ↦ e
      | inr other ↦ absurd (omega (arith, two_marks unit.outside j pulls other, mark, more, marks_there h n unit j there, only))
    ]

-- a row has a block left exactly where its filled ones do not reach its end
pub opens_before : (block done : ℕ) (x : Row) → 0 < block → is_open block x done ≡ nat_lt (done * block) x.timing.len
opens_before block done x some = elim (cases_lt (done * block) x.timing.len) [
  | inl less ↦
      lt-ltb done (blocks_of block x.timing.len) (omega (arith, le-div (done + 1) (x.timing.len + (block - 1)) block some (omega (arith, less, some, suc-mul done block))))
      ∙ sym (lt-ltb (done * block) x.timing.len less)
  | inr all ↦
      le-ltb done (blocks_of block x.timing.len) (omega (arith, (div-lt_iff_lt-mul {k = block} {x = x.timing.len + (block - 1)} {y = done + 1} some).1 (omega (arith, all, some, suc-mul done block))))
      ∙ sym (le-ltb (done * block) x.timing.len all)
]
