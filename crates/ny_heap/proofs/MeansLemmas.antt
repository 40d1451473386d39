-- What a unit is to give, where some of its inputs were dropped.
use Rattle.std.proofs.Common.{◌≡◌, inl, inr, ℕ, ◌+◌, ◌-◌, ◌*◌, ◌<◌, ◌≤◌, ◌&&◌, min, nat_lt, nat_le, cond, Bool, true, false, List, [], ◌∷◌, ◌++◌, length, map, take, drop, get_or, Option, None, Some, refl, sym, ap, subst, ◌∙◌, arith, ℤ, pos}
use Rattle.std.specs.List.{range_with_len}
use Rattle.std.proofs.lemmas.Bool.{cases_eq, cases_lt, lt-ltb}
use Rattle.std.proofs.lemmas.List.{get_or_past, length-take}
use Rattle.ny_num.specs.Numbers.{sample_abs}
use Rattle.ny_num.specs.Sound as sounds
use Rattle.ny_num.specs.Sound.{value_at}
use Rattle.ny_num.specs.declared.timing.Timing.{Timing}
use Rattle.ny_kernels.specs.Operations.{operation}
use Rattle.ny_units.specs.Neighbours.{known_at, between}
use Rattle.ny_units.specs.Resamplings.{Resampling, next_after, index_before}
use Rattle.ny_filters.specs.Filtering.{Filtering, outputs_after}
use Rattle.ny_heap.specs.declared.table.Unit.{Unit as UnitData}
use Rattle.ny_heap.specs.declared.work.Work.{Work}
use Rattle.ny_heap.specs.declared.work.Work.TheVariants.{Leaf as LeafWork, Pair as PairWork, Abs as AbsWork, Resample as ResampleWork, Filter as FilterWork, Mix as MixWork, Channel as ChannelWork}
use Rattle.ny_heap.specs.Heap.{Reader, next_taken, taken_after, blocks_of}
use Rattle.ny_heap.specs.Means.{heard, first_samples, input_sound, unit_value}
use Rattle.ny_heap.specs.Work.{kind_of, inputs_in, memory_in}
use Rattle.ny_heap.specs.Tasks.{BeginsAt, BringsFrom, Hears}
use Rattle.ny_heap.specs.Filling.{moved_in}
use Rattle.ny_heap.proofs.PartLemmas.{sum_alike}
use Rattle.ny_heap.proofs.NeedLemmas.{taken_at}
use Rattle.ny_heap.proofs.ValueLemmas.{known_before, known_after, known_else, asks_late, between_same}

-- ---- an input that has passed all that it sees

past_end : (samples : ℕ → List ℤ) (r : Reader) (m : ℕ) → r.timing.len ≤ m - r.timing.start → pos 0 ≡ heard (input_sound samples (Some r)) m
unfolding value_at
past_end samples r m past = by (nat_le r.timing.start m)
  where
    silent : pos 0 ≡ get_or (take r.timing.len (samples r.node)) (m - r.timing.start) (pos 0)
    silent = sym (get_or_past (take r.timing.len (samples r.node)) (m - r.timing.start) (pos 0) (omega (arith, past, length-take r.timing.len (samples r.node))))

    by : (b : Bool) → pos 0 ≡ cond b (get_or (take r.timing.len (samples r.node)) (m - r.timing.start) (pos 0)) (pos 0)
    by true = silent
    by false = refl

-- an input that has moved on is heard as before from the next sample on that its unit takes
pub moved_heard : (samples : ℕ → List ℤ) (block : ℕ) (x : UnitData) (n : ℕ) (t : Timing) (o : Option Reader) (m : ℕ) → 0 < n → n < blocks_of block x.timing.len → ((r : Reader) → o ≡ Some r → r.timing ≡ t)
    → next_taken (kind_of x.work) x.timing t (min (n * block) x.timing.len) ≤ m → heard (input_sound samples (moved_in block x n o)) m ≡ heard (input_sound samples o) m
moved_heard samples block x n t None m some still timing late = refl
moved_heard samples block x n t (Some r) m some still timing late = elim (cases_lt (taken_after block (kind_of x.work) x.timing r.timing n) r.timing.len) [
  | inl less ↦ ap (λ b. heard (input_sound samples (kept b)) m) (both (lt-ltb (taken_after block (kind_of x.work) x.timing r.timing n) r.timing.len less))
  | inr all ↦
      let same : r.timing ≡ t = timing r refl in
      let far : next_taken (kind_of x.work) x.timing r.timing (min (n * block) x.timing.len) ≤ m = omega (arith, late, ap (λ k. next_taken (kind_of x.work) x.timing k (min (n * block) x.timing.len)) same) in
      let past : r.timing.len ≤ m - r.timing.start = omega (arith, all, far, taken_at block (kind_of x.work) x.timing r.timing n some) in
      ap (λ b. heard (input_sound samples (kept b)) m) (both (Rattle.std.proofs.lemmas.Bool.le-ltb (taken_after block (kind_of x.work) x.timing r.timing n) r.timing.len all))
      ∙ past_end samples r m past
]
  where
    kept : Bool → Option Reader
    kept b = cond b (Some (record r { place = taken_after block (kind_of x.work) x.timing r.timing n })) None

    both : {b : Bool} → nat_lt (taken_after block (kind_of x.work) x.timing r.timing n) r.timing.len ≡ b → (nat_lt n (blocks_of block x.timing.len) && nat_lt (taken_after block (kind_of x.work) x.timing r.timing n) r.timing.len) ≡ b
    both {b} e = λ i. lt-ltb n (blocks_of block x.timing.len) still i && e i

-- one that has not passed all is the same sound
pub moved_sound : (samples : ℕ → List ℤ) (block : ℕ) (x : UnitData) (n : ℕ) (o : Option Reader) → n < blocks_of block x.timing.len → ((r : Reader) → o ≡ Some r → taken_after block (kind_of x.work) x.timing r.timing n < r.timing.len)
    → input_sound samples (moved_in block x n o) ≡ input_sound samples o
moved_sound samples block x n None still more = refl
moved_sound samples block x n (Some r) still more =
    ap (λ b. input_sound samples (cond b (Some (record r { place = taken_after block (kind_of x.work) x.timing r.timing n })) None))
    (λ i. lt-ltb n (blocks_of block x.timing.len) still i && lt-ltb (taken_after block (kind_of x.work) x.timing r.timing n) r.timing.len (more r refl) i)

-- ---- what is known of an input

known_same : (next : ℕ) (before after : ℤ) (f g : ℕ → ℤ) (p : ℕ) → next ≤ p + 2 → (next ≤ p → f p ≡ g p) → known_at next before after f p ≡ known_at next before after g p
known_same next before after f g p late same = elim (cases_eq (p + 2) next) [
  | inl e ↦ known_before next before after f p e ∙ sym (known_before next before after g p e)
  | inr ne ↦ elim (cases_eq (p + 1) next) [
    | inl e ↦ known_after next before after f p e ∙ sym (known_after next before after g p e)
    | inr other ↦ elim (cases_lt p next) [
      | inl less ↦ absurd (ne (omega (arith, late, less, other)))
      | inr past ↦ known_else next before after f p past ∙ same past ∙ sym (known_else next before after g p past)
    ]
  ]
]

-- ---- all work

module _ (t : Timing) (ts : List Timing) (done k : ℕ) (late : done ≤ k) (g h : ℕ → Option sounds.Sound) (rest : List (Option sounds.Sound)) where
  -- inputs that are heard the same from the next sample on that is taken. A filter's is the same sound
  pub record SameInputs (w : Work) : Type 0 where
    pub hear : (i m : ℕ) → i < inputs_in w → next_taken (kind_of w) t (get_or ts i t) done ≤ m → heard (h i) m ≡ heard (g i) m
    pub filter : (f : Filtering) (start : ℕ) → w ≡ FilterWork f start → h 0 ≡ g 0

  resampled : (r : Resampling) → BeginsAt (ResampleWork r) t → BringsFrom (ResampleWork r) ts → Hears (ResampleWork r) t ts → SameInputs (ResampleWork r)
      → between r.from.rate t.rate (known_at (next_after r.from t (t.start + done - t.start)) r.before r.after (heard (h 0))) (t.start + k) ≡ between r.from.rate t.rate (known_at (next_after r.from t (t.start + done - t.start)) r.before r.after (heard (g 0))) (t.start + k)
  resampled r begins brings hears same =
      between_same r.from.rate t.rate (known_at next r.before r.after (heard (h 0))) (known_at next r.before r.after (heard (g 0))) (t.start + k)
      (known_same next r.before r.after (heard (h 0)) (heard (g 0)) (index_before r.from t (t.start + k)) asks (λ past. one (index_before r.from t (t.start + k)) past))
      (known_same next r.before r.after (heard (h 0)) (heard (g 0)) (index_before r.from t (t.start + k) + 1) (omega (arith, asks)) (λ past. one (index_before r.from t (t.start + k) + 1) past))
    where
      next : ℕ
      next = next_after r.from t (t.start + done - t.start)

      count : t.start + done - t.start ≡ done
      count = omega arith

      first : (ks : List Timing) → BringsFrom (ResampleWork r) ks → r.from ≡ get_or ks 0 t
      first [] b = absurd b
      first (s ∷ ss) b = b

      asks : next ≤ index_before r.from t (t.start + k) + 2
      asks = subst (λ q. next_after r.from q (q.start + done - q.start) ≤ index_before r.from q (q.start + k) + 2) begins
          (let own : r.to.start + done - r.to.start ≡ done = omega arith in subst (λ n. next_after r.from r.to n ≤ index_before r.from r.to (r.to.start + k) + 2) (sym own) (asks_late r.from r.to done k hears late))

      one : (p : ℕ) → next ≤ p → heard (h 0) p ≡ heard (g 0) p
      one p past =
          let same_next : next_after r.from t (t.start + done - t.start) ≡ next_after (get_or ts 0 t) t done = λ i. next_after (first ts brings i) t (count i) in
          same.hear 0 p (omega arith) (omega (arith, past, same_next))

  pub value_by : (w : Work) → BeginsAt w t → BringsFrom w ts → Hears w t ts → SameInputs w
      → unit_value (kind_of w) t (memory_in w) (t.start + done) (map h (range_with_len 0 (inputs_in w)) ++ rest) (t.start + k) ≡ unit_value (kind_of w) t (memory_in w) (t.start + done) (map g (range_with_len 0 (inputs_in w)) ++ rest) (t.start + k)
  value_by (LeafWork p) begins brings hears same = refl
  value_by (PairWork p None None) begins brings hears same =
      λ i. operation p.op (same.hear 0 (t.start + k) (omega arith) (omega (arith, late)) i) (same.hear 1 (t.start + k) (omega arith) (omega (arith, late)) i)
  value_by (PairWork p (Some a) None) begins brings hears same = ap (operation p.op a) (same.hear 0 (t.start + k) (omega arith) (omega (arith, late)))
  value_by (PairWork p None (Some b)) begins brings hears same = ap (λ a. operation p.op a b) (same.hear 0 (t.start + k) (omega arith) (omega (arith, late)))
  value_by (PairWork p (Some a) (Some b)) begins brings hears same = refl
  value_by (AbsWork s) begins brings hears same = ap sample_abs (same.hear 0 (t.start + k) (omega arith) (omega (arith, late)))
  value_by (ResampleWork r) begins brings hears same = resampled r begins brings hears same
  value_by (FilterWork f start) begins brings hears same =
      ap (λ o. get_or (outputs_after f.filter f.memory (drop (t.start + done - t.start) (first_samples (o ∷ rest)))) (t.start + k - (t.start + done)) (pos 0)) (same.filter f start refl)
  value_by (MixWork m) begins brings hears same = sum_alike h g rest (t.start + k) 0 (length m.parts) (pos 0) (λ i from to. same.hear i (t.start + k) (omega (arith, to)) (omega (arith, late)))
  value_by (ChannelWork p) begins brings hears same = same.hear 0 (t.start + k) (omega arith) (omega (arith, late))
