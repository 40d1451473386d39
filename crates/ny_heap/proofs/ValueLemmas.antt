-- What work has still to give: the same once it has moved on, and what its unit is to give.
use Rattle.std.proofs.Common.{◌≡◌, ◌≢◌, inl, inr, ℕ, zero, suc, ◌+◌, ◌-◌, ◌*◌, ◌/◌, ◌%◌, ◌<◌, ◌≤◌, nat_eq, nat_le, cond, List, [], ◌∷◌, ◌++◌, length, Vec, Global, map, take, drop, get_or, Option, None, Some, refl, sym, ap, subst, ◌∙◌, arith, ℤ, pos}
use Rattle.std.specs.List.{range_with_len}
use Rattle.std.specs.Option.{option_map}
use Rattle.std.proofs.lemmas.Bool.{cases_eq, cases_lt, eq-eqb, ne_eqb}
use Rattle.ny_num.specs.Grid.{grid_of}
use Rattle.ny_num.specs.Numbers.{sample_abs}
use Rattle.ny_num.specs.Sound as sounds
use Rattle.ny_num.specs.Sound.{value_at}
use Rattle.ny_num.specs.Filters.{Coefficients, Recent, one_pole_value, one_pole_after, biquad_next, biquad_after, comb_after, comb_value, delayed}
use Rattle.ny_num.specs.declared.rate.Rate.{Rate}
use Rattle.ny_num.specs.declared.timing.Timing.{Timing}
use Rattle.ny_num.proofs.PartAdded.{drop_again}
use Rattle.ny_list.specs.Store.{CursorState}
use Rattle.ny_kernels.specs.Operations.{operation}
use Rattle.ny_filters.specs.declared.filter.Filter.{Filter}
use Rattle.ny_filters.specs.declared.filter.Filter.TheVariants.{OnePole, Biquad, Comb}
use Rattle.ny_filters.specs.Kept.{kept_after, comb_next}
use Rattle.ny_filters.specs.Filtering.{Memory, Pole, Poles, Line, Filtering, IsFilter, outputs_after, memory_after}
use Rattle.ny_filters.proofs.Combs.{newest_outputs}
use Rattle.ny_units.specs.Playing.{leaf_value}
use Rattle.ny_units.specs.Inputs.{start_of, reader_of}
use Rattle.ny_units.specs.Courses.{on_way}
use Rattle.ny_units.specs.Neighbours.{known_at, between}
use Rattle.ny_units.specs.Resamplings.{Resampling, next_after, index_before, BeginsLater}
use Rattle.ny_num.specs.Mix.{sum_at}
use Rattle.ny_mix.specs.Mixes.{MixState, part_at, part_sound, sounds_of}
use Rattle.ny_mix.proofs.Sums.{value_heard, value_silent}
use Rattle.ny_units.specs.declared.input.Source.{Source}
use Rattle.ny_units.specs.declared.input.Source.TheVariants.{Reader as ListSource, Number}
use Rattle.ny_heap.specs.declared.work.Work.{Work}
use Rattle.ny_heap.specs.declared.work.Work.TheVariants.{Leaf as LeafWork, Pair as PairWork, Abs as AbsWork, Resample as ResampleWork, Filter as FilterWork, Mix as MixWork, Channel as ChannelWork}
use Rattle.ny_heap.specs.declared.sound.Sound.{Sound}
use Rattle.ny_heap.specs.Heap.{Reader, Mix}
use Rattle.ny_heap.specs.Means.{heard, first_samples, input_sound, unit_value}
use Rattle.ny_heap.specs.Work.{kind_of, inputs_in, source_at, memory_in, heard_in, seen_in, known_in, work_value, HasGiven, MovesOn, Recalls}
use Rattle.ny_heap.specs.Tasks.{IsSide, HasSides, BeginsAt, Hears}
use Rattle.ny_heap.proofs.PartLemmas.{AddNothing, sum_of_parts}
use Rattle.ny_heap.proofs.NeedLemmas.{before_rises, none_next, some_next}

-- ---- a filter that has moved on

nothing_at : (k : ℕ) → get_or {A = ℤ} [] k (pos 0) ≡ pos 0
nothing_at zero = refl
nothing_at (suc k) = refl

pole_on : (a y1 : ℤ) (xs : List ℤ) (n k : ℕ) → n ≤ k → get_or (one_pole_after a y1 xs) k (pos 0) ≡ get_or (one_pole_after a (kept_after (one_pole_value a) y1 (take n xs)) (drop n xs)) (k - n) (pos 0)
pole_on a y1 xs zero k less = let e : k ≡ k - 0 = omega arith in ap (λ i. get_or (one_pole_after a y1 xs) i (pos 0)) e
pole_on a y1 [] (suc n) k less = nothing_at k ∙ sym (nothing_at (k - suc n))
pole_on a y1 (x ∷ xs) (suc n) zero less = absurd (omega (arith, less))
pole_on a y1 (x ∷ xs) (suc n) (suc k) less =
    let e : k - n ≡ suc k - suc n = omega arith in
    pole_on a (one_pole_value a y1 x) xs n k (omega (arith, less))
    ∙ ap (λ i. get_or (one_pole_after a (kept_after (one_pole_value a) (one_pole_value a y1 x) (take n xs)) (drop n xs)) i (pos 0)) e

biquad_on : (c : Coefficients) (r : Recent) (xs : List ℤ) (n k : ℕ) → n ≤ k → get_or (biquad_after c r xs) k (pos 0) ≡ get_or (biquad_after c (kept_after (biquad_next c) r (take n xs)) (drop n xs)) (k - n) (pos 0)
biquad_on c r xs zero k less = let e : k ≡ k - 0 = omega arith in ap (λ i. get_or (biquad_after c r xs) i (pos 0)) e
biquad_on c r [] (suc n) k less = nothing_at k ∙ sym (nothing_at (k - suc n))
biquad_on c r (x ∷ xs) (suc n) zero less = absurd (omega (arith, less))
biquad_on c r (x ∷ xs) (suc n) (suc k) less =
    let e : k - n ≡ suc k - suc n = omega arith in
    biquad_on c (biquad_next c r x) xs n k (omega (arith, less))
    ∙ ap (λ i. get_or (biquad_after c (kept_after (biquad_next c) (biquad_next c r x) (take n xs)) (drop n xs)) i (pos 0)) e

comb_on : (delay : ℕ) (gain : ℤ) (os xs : List ℤ) (n k : ℕ) → 1 ≤ delay → n ≤ k → get_or (comb_after delay gain os xs) k (pos 0) ≡ get_or (comb_after delay gain (kept_after (comb_next delay gain) os (take n xs)) (drop n xs)) (k - n) (pos 0)
comb_on delay gain os xs zero k some less = let e : k ≡ k - 0 = omega arith in ap (λ i. get_or (comb_after delay gain os xs) i (pos 0)) e
comb_on delay gain os [] (suc n) k some less = nothing_at k ∙ sym (nothing_at (k - suc n))
comb_on delay gain os (x ∷ xs) (suc n) zero some less = absurd (omega (arith, less))
comb_on delay gain os (x ∷ xs) (suc n) (suc k) some less =
    let e : k - n ≡ suc k - suc n = omega arith in
    ap (λ zs. get_or zs k (pos 0)) (sym (newest_outputs delay gain (comb_value gain (delayed delay os) x ∷ os) xs some))
    ∙ comb_on delay gain (comb_next delay gain os x) xs n k some (omega (arith, less))
    ∙ ap (λ i. get_or (comb_after delay gain (kept_after (comb_next delay gain) (comb_next delay gain os x) (take n xs)) (drop n xs)) i (pos 0)) e

-- a filter that has heard n samples gives from what it keeps then what it would have given
pub outputs_on : (f : Filter) (m : Memory) (xs : List ℤ) (n k : ℕ) → IsFilter f → n ≤ k → get_or (outputs_after f m xs) k (pos 0) ≡ get_or (outputs_after f (memory_after f m (take n xs)) (drop n xs)) (k - n) (pos 0)
outputs_on (OnePole a) (Pole y1) xs n k is less = pole_on a y1 xs n k less
outputs_on (Biquad b0 b1 b2 a1 a2) (Poles r) xs n k is less = biquad_on (record { b0 = b0; b1 = b1; b2 = b2; a1 = a1; a2 = a2 }) r xs n k less
outputs_on (Comb delay gain) (Line os) xs n k is less = comb_on delay gain os xs n k is.0 less
outputs_on (OnePole a) (Poles r) xs n k is less = nothing_at k ∙ sym (nothing_at (k - n))
outputs_on (OnePole a) (Line os) xs n k is less = nothing_at k ∙ sym (nothing_at (k - n))
outputs_on (Biquad b0 b1 b2 a1 a2) (Pole y1) xs n k is less = nothing_at k ∙ sym (nothing_at (k - n))
outputs_on (Biquad b0 b1 b2 a1 a2) (Line os) xs n k is less = nothing_at k ∙ sym (nothing_at (k - n))
outputs_on (Comb delay gain) (Pole y1) xs n k is less = nothing_at k ∙ sym (nothing_at (k - n))
outputs_on (Comb delay gain) (Poles r) xs n k is less = nothing_at k ∙ sym (nothing_at (k - n))

filter_on : (whole : ℕ → List ℤ) (f : Filtering) (memory : Memory) (start from n k : ℕ) → IsFilter f.filter → memory ≡ memory_after f.filter f.memory (take n (drop from (seen_in whole f.reader))) → from + n ≤ k
    → work_value (FilterWork (record f { memory = memory }) start) whole (from + n) k ≡ work_value (FilterWork f start) whole from k
filter_on whole f memory start from n k is kept less =
    let xs : List ℤ = drop from (seen_in whole f.reader) in
    let e : k - (from + n) ≡ k - from - n = omega arith in
    ap (λ m. get_or (outputs_after f.filter m (drop (from + n) (seen_in whole f.reader))) (k - (from + n)) (pos 0)) kept
    ∙ ap (λ ys. get_or (outputs_after f.filter (memory_after f.filter f.memory (take n xs)) ys) (k - (from + n)) (pos 0)) (sym (drop_again from n (seen_in whole f.reader)))
    ∙ ap (λ i. get_or (outputs_after f.filter (memory_after f.filter f.memory (take n xs)) (drop n xs)) i (pos 0)) e
    ∙ sym (outputs_on f.filter f.memory xs n (k - from) is (omega (arith, less)))

-- ---- a resampling that has moved on

pub known_before : (next : ℕ) (before after : ℤ) (value : ℕ → ℤ) (p : ℕ) → p + 2 ≡ next → known_at next before after value p ≡ before
known_before next before after value p e = ap (λ b. cond {A = ℤ} b before (cond {A = ℤ} (nat_eq (p + 1) next) after (value p))) (eq-eqb (p + 2) next e)

pub known_after : (next : ℕ) (before after : ℤ) (value : ℕ → ℤ) (p : ℕ) → p + 1 ≡ next → known_at next before after value p ≡ after
known_after next before after value p e =
    ap (λ b. cond {A = ℤ} b before (cond {A = ℤ} (nat_eq (p + 1) next) after (value p))) (ne_eqb (p + 2) next (λ q. omega (arith, e, q)))
    ∙ ap (λ b. cond {A = ℤ} b after (value p)) (eq-eqb (p + 1) next e)

pub known_else : (next : ℕ) (before after : ℤ) (value : ℕ → ℤ) (p : ℕ) → next ≤ p → known_at next before after value p ≡ value p
known_else next before after value p past =
    ap (λ b. cond {A = ℤ} b before (cond {A = ℤ} (nat_eq (p + 1) next) after (value p))) (ne_eqb (p + 2) next (λ q. omega (arith, past, q)))
    ∙ ap (λ b. cond {A = ℤ} b after (value p)) (ne_eqb (p + 1) next (λ q. omega (arith, past, q)))

-- it goes forward in its input
next_on : (from to : Timing) (g m : ℕ) → BeginsLater from to → g ≤ m → next_after from to g ≤ next_after from to m
next_on from to g m later less = elim (cases_eq m 0) [
  | inl none ↦ omega (arith, none_next from to m none, none_next from to g (omega (arith, none, less)))
  | inr some ↦ elim (cases_eq g 0) [
    | inl none ↦ omega (arith, none_next from to g none, some_next from to m some, later, before_rises from to to.start (to.start + m - 1) (omega (arith, some)))
    | inr any ↦ omega (arith, some_next from to g any, some_next from to m some, before_rises from to (to.start + g - 1) (to.start + m - 1) (omega (arith, less)))
  ]
]

-- later outputs ask for no more than the last two samples that it took, and what comes then
pub asks_late : (from to : Timing) (m k : ℕ) → BeginsLater from to → m ≤ k → next_after from to m ≤ index_before from to (to.start + k) + 2
asks_late from to m k later less = elim (cases_eq m 0) [
  | inl none ↦ omega (arith, none_next from to m none, later, before_rises from to to.start (to.start + k) (omega arith))
  | inr some ↦ omega (arith, some_next from to m some, before_rises from to (to.start + m - 1) (to.start + k) (omega (arith, less)))
]

pub between_same : (from to : Rate) (f g : ℕ → ℤ) (m : ℕ) → f (m * grid_of to / grid_of from) ≡ g (m * grid_of to / grid_of from) → f (m * grid_of to / grid_of from + 1) ≡ g (m * grid_of to / grid_of from + 1)
    → between from to f m ≡ between from to g m
between_same from to f g m first second = λ i. on_way (first i) (second i) (m * grid_of to % grid_of from) (grid_of from)

module _ (whole : ℕ → List ℤ) (r : Resampling) (before after : ℤ) (m : ℕ) (later : BeginsLater r.from r.to) (forward : r.given ≤ m)
    (is_before : (p : ℕ) → p + 2 ≡ next_after r.from r.to m → before ≡ known_in whole r p) (is_after : (p : ℕ) → p + 1 ≡ next_after r.from r.to m → after ≡ known_in whole r p) where
  -- of what it may still ask for it knows what it knew
  known_on : (p : ℕ) → next_after r.from r.to m ≤ p + 2 → known_in whole (record r { before = before; after = after; given = m }) p ≡ known_in whole r p
  known_on p late = elim (cases_eq (p + 2) next) [
    | inl e ↦ known_before next before after value p e ∙ is_before p e
    | inr ne ↦ elim (cases_eq (p + 1) next) [
      | inl e ↦ known_after next before after value p e ∙ is_after p e
      | inr other ↦
          let past : next ≤ p = above next p late ne other in
          known_else next before after value p past
          ∙ sym (known_else (next_after r.from r.to r.given) r.before r.after value p (omega (arith, past, next_on r.from r.to r.given m later forward)))
    ]
  ]
    where
      next : ℕ
      next = next_after r.from r.to m

      value : ℕ → ℤ
      value = heard_in whole (ListSource r.reader r.from.start)

      above : (next p : ℕ) → next ≤ p + 2 → p + 2 ≢ next → p + 1 ≢ next → next ≤ p
      above next p late ne other = elim (cases_lt p next) [
        | inl less ↦ elim (cases_eq (p + 1) next) [
          | inl e ↦ absurd (other e)
          | inr n ↦ absurd (ne (omega (arith, late, less, n)))
        ]
        | inr done ↦ done
      ]

  resample_on : (from k : ℕ) → m ≤ k → work_value (ResampleWork (record r { before = before; after = after; given = m })) whole m k ≡ work_value (ResampleWork r) whole from k
  resample_on from k less =
      let late = asks_late r.from r.to m k later less in
      between_same r.from.rate r.to.rate (known_in whole (record r { before = before; after = after; given = m })) (known_in whole r) (r.to.start + k)
      (known_on (index_before r.from r.to (r.to.start + k)) late) (known_on (index_before r.from r.to (r.to.start + k) + 1) (omega (arith, late)))

-- ---- all work

-- what work has still to give stays the same once it has given n samples more
pub value_on : (w v : Work) (t : Timing) (ts : List Timing) (whole : ℕ → List ℤ) (len from n k : ℕ) → MovesOn w v (from + n) → Recalls w v whole from n → Hears w t ts → HasGiven w len from → from + n ≤ k
    → work_value v whole (from + n) k ≡ work_value w whole from k
value_on (LeafWork p) v t ts whole len from n k moves recalls hears given less = ap (λ w. work_value w whole (from + n) k) moves
value_on (PairWork p a b) v t ts whole len from n k moves recalls hears given less = ap (λ w. work_value w whole (from + n) k) moves
value_on (AbsWork s) v t ts whole len from n k moves recalls hears given less = ap (λ w. work_value w whole (from + n) k) moves
value_on (ResampleWork r) v t ts whole len from n k moves recalls hears given less =
    let q : Resampling = record r { before = moves.0; after = moves.1; given = from + n } in
    let kept = subst (λ w. Recalls (ResampleWork r) w whole from n) moves.2 recalls in
    ap (λ w. work_value w whole (from + n) k) moves.2
    ∙ resample_on whole r moves.0 moves.1 (from + n) hears (omega (arith, given)) kept.0 kept.1 from k less
value_on (FilterWork f start) v t ts whole len from n k moves recalls hears given less =
    ap (λ w. work_value w whole (from + n) k) moves.1
    ∙ filter_on whole f moves.0 start from n k given (subst (λ w. Recalls (FilterWork f start) w whole from n) moves.1 recalls) less
value_on (MixWork m) v t ts whole len from n k moves recalls hears given less = ap (λ w. work_value w whole (from + n) k) moves
value_on (ChannelWork p) v t ts whole len from n k moves recalls hears given less = ap (λ w. work_value w whole (from + n) k) moves

-- ---- what its unit is to give

-- a source that is heard and seen as a timing says
abbrev pub IsHeardSo : Source → Timing → Type 0
IsHeardSo s t = (c : CursorState) → reader_of s ≡ Some c → (start_of s ≡ t.start) × (c.visible ≡ t.len)

-- where it reads, as the heap's contracts see it
abbrev pub read_by : Source → Timing → Option Reader
read_by s t = option_map (λ (c : CursorState). record { node = c.list; place = c.place; timing = t }) (reader_of s)

-- what is heard of it
pub heard_is : (whole : ℕ → List ℤ) (s : Source) (t : Timing) (m : ℕ) → IsSide None s → IsHeardSo s t → heard (input_sound whole (read_by s t)) m ≡ heard_in whole s m
unfolding value_at
heard_is whole (ListSource None start) t m side so = refl
heard_is whole (ListSource (Some c) start) t m side so =
    let e = so c refl in
    λ i. cond {A = ℤ} (nat_le (sym e.0 i) m) (get_or (take (sym e.1 i) (whole c.list)) (m - sym e.0 i) (pos 0)) (pos 0)
heard_is whole (Number value) t m side so = sym side

-- all that is seen of it
samples_are : (whole : ℕ → List ℤ) (o : Option CursorState) (start : ℕ) (t : Timing) (rest : List (Option sounds.Sound)) → IsHeardSo (ListSource o start) t → first_samples (input_sound whole (read_by (ListSource o start) t) ∷ rest) ≡ seen_in whole o
samples_are whole None start t rest so = refl
samples_are whole (Some c) start t rest so = ap (λ n. take n (whole c.list)) (sym (so c refl).1)

module _ (t : Timing) (ts : List Timing) (whole : ℕ → List ℤ) (len from k : ℕ) (rest : List (Option sounds.Sound)) where
  -- the inputs of work as sounds, and then others
  abbrev pub inputs_by : Work → List (Option sounds.Sound)
  inputs_by w = map (λ i. input_sound whole (read_by (source_at w i) (get_or ts i t))) (range_with_len 0 (inputs_in w)) ++ rest

  abbrev pub AreHeardSo : Work → Type 0
  AreHeardSo w = (i : ℕ) → i < inputs_in w → IsHeardSo (source_at w i) (get_or ts i t)

  -- a part of a mix is heard as the part that its fill adds
  part_is : (m : MixState (Vec Sound Global)) (i n : ℕ) → i < length m.parts → AreHeardSo (MixWork m) → heard (input_sound whole (read_by (source_at (MixWork m) i) (get_or ts i t))) n ≡ value_at (part_sound m.timing.rate whole (part_at m.parts i)) n
  part_is m i n inside so = heard_is whole (source_at (MixWork m) i) (get_or ts i t) n tt (so i inside) ∙ by (part_at m.parts i).cursor refl
    where
      by : (o : Option CursorState) → (part_at m.parts i).cursor ≡ o → heard_in whole (ListSource o (part_at m.parts i).start) n ≡ value_at (part_sound m.timing.rate whole (part_at m.parts i)) n
      by None e = sym (value_silent m.timing.rate whole (part_at m.parts i) n e)
      by (Some c) e = sym (value_heard m.timing.rate whole (part_at m.parts i) c n e)

  -- what work computes is what its unit is to give. Others that a mix hears are silent then
  pub value_is : (w : Work) → (kind_of w ≡ Mix → AddNothing rest (t.start + k)) → HasSides w → BeginsAt w t → HasGiven w len from → AreHeardSo w
      → unit_value (kind_of w) t (memory_in w) (t.start + from) (inputs_by w) (t.start + k) ≡ work_value w whole from k
  value_is (LeafWork p) quiet sides begins given so = let e : t.start + k - t.start ≡ k = omega arith in ap (leaf_value p.leaf) e
  value_is (PairWork p None None) quiet sides begins given so =
      (λ i. operation p.op (heard_is whole p.left (get_or ts 0 t) (t.start + k) sides.0 (so 0 (omega arith)) i) (heard_is whole p.right (get_or ts 1 t) (t.start + k) sides.1 (so 1 (omega arith)) i))
      ∙ ap (λ b. operation p.op (heard_in whole p.left (b + k)) (heard_in whole p.right (b + k))) (sym begins)
  value_is (PairWork p (Some a) None) quiet sides begins given so =
      (λ i. operation p.op (heard_in whole (sym sides.0 i) (t.start + k)) (heard_is whole p.right (get_or ts 0 t) (t.start + k) sides.1 (so 0 (omega arith)) i))
      ∙ ap (λ b. operation p.op (heard_in whole p.left (b + k)) (heard_in whole p.right (b + k))) (sym begins)
  value_is (PairWork p None (Some b)) quiet sides begins given so =
      (λ i. operation p.op (heard_is whole p.left (get_or ts 0 t) (t.start + k) sides.0 (so 0 (omega arith)) i) (heard_in whole (sym sides.1 i) (t.start + k)))
      ∙ ap (λ b. operation p.op (heard_in whole p.left (b + k)) (heard_in whole p.right (b + k))) (sym begins)
  value_is (PairWork p (Some a) (Some b)) quiet sides begins given so =
      (λ i. operation p.op (heard_in whole (sym sides.0 i) (t.start + k)) (heard_in whole (sym sides.1 i) (t.start + k)))
      ∙ ap (λ b. operation p.op (heard_in whole p.left (b + k)) (heard_in whole p.right (b + k))) (sym begins)
  value_is (AbsWork s) quiet sides begins given so =
      ap sample_abs (heard_is whole s (get_or ts 0 t) (t.start + k) sides (so 0 (omega arith))) ∙ ap (λ b. sample_abs (heard_in whole s (b + k))) (sym begins)
  value_is (ResampleWork r) quiet sides begins given so =
      let count : t.start + from - t.start ≡ r.given = omega (arith, given) in
      λ i. between r.from.rate (sym begins i).rate (known_at (next_after r.from (sym begins i) (count i)) r.before r.after (λ p. heard_is whole (ListSource r.reader r.from.start) (get_or ts 0 t) p tt (so 0 (omega arith)) i)) ((sym begins i).start + k)
  value_is (FilterWork f start) quiet sides begins given so =
      let first : t.start + from - t.start ≡ from = omega arith in
      let own : t.start + k - (t.start + from) ≡ k - from = omega arith in
      λ i. get_or (outputs_after f.filter f.memory (drop (first i) (samples_are whole f.reader start (get_or ts 0 t) rest (so 0 (omega arith)) i))) (own i) (pos 0)
  value_is (MixWork m) quiet sides begins given so =
      sum_of_parts m.timing.rate whole m.parts (t.start + k) (λ i. input_sound whole (read_by (source_at (MixWork m) i) (get_or ts i t))) (λ i inside. part_is m i (t.start + k) inside so) rest (quiet refl)
      ∙ ap (λ (b : Timing). sum_at (sounds_of m.timing.rate whole m.parts) (b.start + k)) (sym begins)
  value_is (ChannelWork p) quiet sides begins given so =
      heard_is whole p.input (get_or ts 0 t) (t.start + k) sides (so 0 (omega arith)) ∙ ap (λ b. heard_in whole p.input (b + k)) (sym begins)
