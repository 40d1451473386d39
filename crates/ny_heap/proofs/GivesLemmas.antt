-- What a unit is to give, once its inputs have moved on and those that have nothing more to give were dropped: the same.
use Rattle.std.proofs.Common.{◌≡◌, ◌≢◌, inl, inr, ℕ, ◌+◌, ◌-◌, ◌*◌, ◌<◌, ◌≤◌, min, List, [], ◌∷◌, ◌++◌, length, map, take, drop, get_or, Option, None, Some, refl, sym, ap, subst, ◌∙◌, arith, ℤ, pos}
use Rattle.std.specs.List.{range_with_len}
use Rattle.std.specs.Option.{option_map}
use Rattle.std.proofs.lemmas.Bool.{cases_eq, cases_lt}
use Rattle.ny_num.specs.Numbers.{sample_abs}
use Rattle.ny_num.specs.Sound as sounds
use Rattle.ny_num.specs.Sound.{value_at}
use Rattle.ny_num.specs.declared.timing.Timing.{Timing}
use Rattle.ny_kernels.specs.Operations.{operation}
use Rattle.ny_list.specs.Store.{CursorState}
use Rattle.ny_list.proofs.IndexLemmas.{same_some, none_some}
use Rattle.ny_filters.specs.Filtering.{outputs_after}
use Rattle.ny_units.proofs.Pieces.{before_start, past_end}
use Rattle.ny_units.specs.Neighbours.{known_at, between}
use Rattle.ny_units.specs.Resamplings.{next_after, index_before, BeginsLater}
use Rattle.ny_heap.specs.declared.make.Make.TheVariants.{Resample}
use Rattle.ny_heap.specs.declared.table.Unit.{Unit as UnitData}
use Rattle.ny_heap.specs.declared.work.Work.{Work}
use Rattle.ny_heap.specs.declared.work.Work.TheVariants.{Leaf as LeafWork, Pair as PairWork, Abs as AbsWork, Resample as ResampleWork, Filter as FilterWork, Mix as MixWork, Channel as ChannelWork}
use Rattle.ny_heap.specs.Heap.{Reader, Made, next_taken, taken_after, blocks_of}
use Rattle.ny_heap.specs.Means.{heard, first_samples, input_sound, unit_value}
use Rattle.ny_heap.specs.Work.{kind_of, inputs_in, cursor_at, memory_in}
use Rattle.ny_heap.specs.Tasks.{BeginsAt, BringsFrom, Hears}
use Rattle.ny_heap.specs.Table.{input_of, timing_at}
use Rattle.ny_heap.specs.Filling.{moved_in}
use Rattle.ny_heap.proofs.PartLemmas.{sum_alike}
use Rattle.ny_heap.proofs.NeedLemmas.{taken_at, none_taken}
use Rattle.ny_heap.proofs.TakenLemmas.{first_timing}
use Rattle.ny_heap.proofs.FillLemmas.{moved_some, moved_none}
use Rattle.ny_heap.proofs.ValueLemmas.{known_before, known_after, known_else, between_same, asks_late}

-- past its end an input has zeros
nothing_past : (samples : ℕ → List ℤ) (r : Reader) (m : ℕ) → r.timing.len ≤ m - r.timing.start → heard (input_sound samples (Some r)) m ≡ pos 0
unfolding value_at
nothing_past samples r m past = elim (cases_lt m r.timing.start) [
  | inl early ↦ before_start r.timing.start m (take r.timing.len (samples r.node)) early
  | inr later ↦ past_end r.timing.start r.timing.len m (samples r.node) later past
]

-- an input is heard as its unit says
input_timing : (x : UnitData) (i : ℕ) (r : Reader) → input_of x i ≡ Some r → r.timing ≡ timing_at x i
input_timing x i r is = by (cursor_at x.work i) is
  where
    by : (o : Option CursorState) → option_map {U = Reader} (λ c. record { node = c.list; place = c.place; timing = timing_at x i }) o ≡ Some r → r.timing ≡ timing_at x i
    by None e = absurd (none_some e)
    by (Some c) e = ap (λ (q : Reader). q.timing) (sym (same_some e))

-- a resampling asks for what it has passed by its two last samples
known_late : (next : ℕ) (before after : ℤ) (f g : ℕ → ℤ) (p : ℕ) → next ≤ p + 2 → (next ≤ p → f p ≡ g p) → known_at next before after f p ≡ known_at next before after g p
known_late next before after f g p late same = elim (cases_eq (p + 2) next) [
  | inl e ↦ known_before next before after f p e ∙ sym (known_before next before after g p e)
  | inr ne ↦ elim (cases_eq (p + 1) next) [
    | inl e ↦ known_after next before after f p e ∙ sym (known_after next before after g p e)
    | inr other ↦ elim (cases_lt p next) [
      | inl less ↦ absurd (between_them next p late ne other less)
      | inr past ↦ known_else next before after f p past ∙ same past ∙ sym (known_else next before after g p past)
    ]
  ]
]
  where
    between_them : (next p : ℕ) → next ≤ p + 2 → p + 2 ≢ next → p + 1 ≢ next → p < next → ⊥
    between_them next p late ne other less = elim (cases_lt (p + 1) next) [
      | inl far ↦ ne (omega (arith, late, far))
      | inr near ↦ other (omega (arith, near, less))
    ]

module _ (samples : ℕ → List ℤ) (block : ℕ) (x : UnitData) (filled : ℕ) (still : filled < blocks_of block x.timing.len) where
  -- what doesn't go by a reader's place is the same of one that has moved on, where it is the same of none
  moved_as : {A : Type 0} (f : Option Reader → A) → ((q : Reader) (n : ℕ) → f (Some (record q { place = n })) ≡ f (Some q)) → (o : Option Reader)
      → ((r : Reader) → o ≡ Some r → r.timing.len ≤ taken_after block (kind_of x.work) x.timing r.timing filled → f None ≡ f (Some r)) → f (moved_in block x filled o) ≡ f o
  moved_as f placed None dropped = refl
  moved_as f placed (Some r) dropped = by (moved_in block x filled (Some r)) refl
    where
      by : (o : Option Reader) → moved_in block x filled (Some r) ≡ o → f (moved_in block x filled (Some r)) ≡ f (Some r)
      by None e = ap f e ∙ dropped r refl (moved_none block x filled r e still)
      by (Some q) e =
          let p = moved_some block x filled (Some r) q e in
          ap f e ∙ ap (λ z. f (Some z)) p.2 ∙ placed p.0 (taken_after block (kind_of x.work) x.timing p.0.timing filled) ∙ sym (ap f p.1)

  heard_moved : (o : Option Reader) (m : ℕ) → ((r : Reader) → o ≡ Some r → r.timing.len ≤ taken_after block (kind_of x.work) x.timing r.timing filled → r.timing.len ≤ m - r.timing.start)
      → heard (input_sound samples (moved_in block x filled o)) m ≡ heard (input_sound samples o) m
  heard_moved o m past = moved_as (λ q. heard (input_sound samples q) m) (λ q n. refl) o (λ r is all. sym (nothing_past samples r m (past r is all)))

  module _ (k : ℕ) (from : filled * block ≤ k) (below : k < x.timing.len) where
    -- an input that gives a sample for each
    heard_plain : (o : Option Reader) → ((input : Timing) (n : ℕ) → next_taken (kind_of x.work) x.timing input n ≡ x.timing.start + n)
        → heard (input_sound samples (moved_in block x filled o)) (x.timing.start + k) ≡ heard (input_sound samples o) (x.timing.start + k)
    heard_plain o plain = heard_moved o (x.timing.start + k) (λ r is all. past r all)
      where
        past : (r : Reader) → r.timing.len ≤ taken_after block (kind_of x.work) x.timing r.timing filled → r.timing.len ≤ x.timing.start + k - r.timing.start
        past r all = elim (cases_eq filled 0) [
          | inl none ↦ omega (arith, all, ap (taken_after block (kind_of x.work) x.timing r.timing) none, none_taken block (kind_of x.work) x.timing r.timing)
          | inr some ↦ omega (arith, all, taken_at block (kind_of x.work) x.timing r.timing filled (omega (arith, some)), plain r.timing (min (filled * block) x.timing.len), from)
        ]

-- the inputs once they moved on, and what they were, and then others
abbrev pub inputs_moved : (ℕ → List ℤ) → ℕ → UnitData → ℕ → List (Option sounds.Sound) → List (Option sounds.Sound)
inputs_moved samples block x filled rest = map (λ i. input_sound samples (moved_in block x filled (input_of x i))) (range_with_len 0 (inputs_in x.work)) ++ rest

abbrev pub inputs_were : (ℕ → List ℤ) → UnitData → List (Option sounds.Sound) → List (Option sounds.Sound)
inputs_were samples x rest = map (λ i. input_sound samples (input_of x i)) (range_with_len 0 (inputs_in x.work)) ++ rest

module _ (samples : ℕ → List ℤ) (block filled k : ℕ) (rest : List (Option sounds.Sound)) (from : filled * block ≤ k) where
  -- a resampling
  resample_gives : (x : UnitData) → filled < blocks_of block x.timing.len → k < x.timing.len → kind_of x.work ≡ Made Resample → (first : Timing) → first ≡ timing_at x 0 → BeginsLater first x.timing → (before after : ℤ)
      → between first.rate x.timing.rate (known_at (next_after first x.timing (x.timing.start + filled * block - x.timing.start)) before after (heard (input_sound samples (moved_in block x filled (input_of x 0))))) (x.timing.start + k)
      ≡ between first.rate x.timing.rate (known_at (next_after first x.timing (x.timing.start + filled * block - x.timing.start)) before after (heard (input_sound samples (input_of x 0)))) (x.timing.start + k)
  resample_gives x still below kind first is later before after =
      let late : next ≤ index_before first x.timing (x.timing.start + k) + 2 = asks_late first x.timing done k later (omega (arith, from)) in
      between_same first.rate x.timing.rate (known_at next before after now) (known_at next before after was) (x.timing.start + k)
      (known_late next before after now was (index_before first x.timing (x.timing.start + k)) late (same (index_before first x.timing (x.timing.start + k))))
      (known_late next before after now was (index_before first x.timing (x.timing.start + k) + 1) (omega (arith, late)) (same (index_before first x.timing (x.timing.start + k) + 1)))
    where
      done : ℕ
      done = x.timing.start + filled * block - x.timing.start

      next : ℕ
      next = next_after first x.timing done

      now : ℕ → ℤ
      now = heard (input_sound samples (moved_in block x filled (input_of x 0)))

      was : ℕ → ℤ
      was = heard (input_sound samples (input_of x 0))

      counted : min (filled * block) x.timing.len ≡ done
      counted = omega (arith, from, below)

      past : (p : ℕ) → next ≤ p → (r : Reader) → input_of x 0 ≡ Some r → r.timing.len ≤ taken_after block (kind_of x.work) x.timing r.timing filled → r.timing.len ≤ p - r.timing.start
      past p beyond r at all = elim (cases_eq filled 0) [
        | inl none ↦ omega (arith, all, ap (taken_after block (kind_of x.work) x.timing r.timing) none, none_taken block (kind_of x.work) x.timing r.timing)
        | inr some ↦
            let e : next_taken (kind_of x.work) x.timing r.timing (min (filled * block) x.timing.len) ≡ next =
            ap (λ c. next_taken c x.timing r.timing (min (filled * block) x.timing.len)) kind
            ∙ ap (λ t. next_after t x.timing (min (filled * block) x.timing.len)) (input_timing x 0 r at ∙ sym is) ∙ ap (next_after first x.timing) counted in
            omega (arith, all, taken_at block (kind_of x.work) x.timing r.timing filled (omega (arith, some)), e, beyond)
      ]

      same : (p : ℕ) → next ≤ p → now p ≡ was p
      same p beyond = heard_moved samples block x filled still (input_of x 0) p (past p beyond)

  -- a filter hears all of its input while it has something left to give
  filter_hears : (x : UnitData) → filled < blocks_of block x.timing.len → k < x.timing.len → ((input : Timing) (n : ℕ) → next_taken (kind_of x.work) x.timing input n ≡ x.timing.start + n) → x.timing ≡ timing_at x 0
      → first_samples (input_sound samples (moved_in block x filled (input_of x 0)) ∷ rest) ≡ first_samples (input_sound samples (input_of x 0) ∷ rest)
  filter_hears x still below plain is = moved_as samples block x filled still (λ q. first_samples (input_sound samples q ∷ rest)) (λ q n. refl) (input_of x 0) (λ r at all. absurd (never r at all))
    where
      never : (r : Reader) → input_of x 0 ≡ Some r → r.timing.len ≤ taken_after block (kind_of x.work) x.timing r.timing filled → ⊥
      never r at all =
          let same : r.timing ≡ x.timing = input_timing x 0 r at ∙ sym is in
          elim (cases_eq filled 0) [
            | inl none ↦ omega (arith, all, below, ap (λ (t : Timing). t.len) same, ap (taken_after block (kind_of x.work) x.timing r.timing) none, none_taken block (kind_of x.work) x.timing r.timing)
            | inr some ↦ omega (
              arith,
              all,
              from,
              below,
              taken_at block (kind_of x.work) x.timing r.timing filled (omega (arith, some)),
              plain r.timing (min (filled * block) x.timing.len),
              ap (λ (t : Timing). t.len) same,
              ap (λ (t : Timing). t.start) same,
            )
          ]

  abbrev GivesSame : UnitData → Type 0
  GivesSame x =
      unit_value (kind_of x.work) x.timing (memory_in x.work) (x.timing.start + filled * block) (inputs_moved samples block x filled rest) (x.timing.start + k)
      ≡ unit_value (kind_of x.work) x.timing (memory_in x.work) (x.timing.start + filled * block) (inputs_were samples x rest) (x.timing.start + k)

  by_work : (x : UnitData) (w : Work) → filled < blocks_of block x.timing.len → k < x.timing.len → BeginsAt w x.timing → BringsFrom w x.inputs.items → Hears w x.timing x.inputs.items → GivesSame (record x { work = w })
  by_work x (LeafWork p) still below begins brings hears = refl
  by_work x (PairWork p None None) still below begins brings hears =
      let y : UnitData = record x { work = PairWork p None None } in
      λ i. operation p.op (heard_plain samples block y filled still k from below (input_of y 0) (λ input n. refl) i) (heard_plain samples block y filled still k from below (input_of y 1) (λ input n. refl) i)
  by_work x (PairWork p (Some a) None) still below begins brings hears =
      let y : UnitData = record x { work = PairWork p (Some a) None } in
      ap (operation p.op a) (heard_plain samples block y filled still k from below (input_of y 0) (λ input n. refl))
  by_work x (PairWork p None (Some b)) still below begins brings hears =
      let y : UnitData = record x { work = PairWork p None (Some b) } in
      ap (λ v. operation p.op v b) (heard_plain samples block y filled still k from below (input_of y 0) (λ input n. refl))
  by_work x (PairWork p (Some a) (Some b)) still below begins brings hears = refl
  by_work x (AbsWork s) still below begins brings hears =
      let y : UnitData = record x { work = AbsWork s } in
      ap sample_abs (heard_plain samples block y filled still k from below (input_of y 0) (λ input n. refl))
  by_work x (ResampleWork r) still below begins brings hears =
      let y : UnitData = record x { work = ResampleWork r } in
      resample_gives y still below refl r.from (first_timing r x.inputs.items x.timing 0 brings (omega arith)) (subst (BeginsLater r.from) begins hears) r.before r.after
  by_work x (FilterWork f start) still below begins brings hears =
      let y : UnitData = record x { work = FilterWork f start } in
      ap (λ xs. get_or (outputs_after f.filter f.memory (drop (x.timing.start + filled * block - x.timing.start) xs)) (x.timing.start + k - (x.timing.start + filled * block)) (pos 0))
      (filter_hears y still below (λ input n. refl) (first_heard_at x.timing x.inputs.items hears))
    where
      first_heard_at : (t : Timing) (ts : List Timing) → Hears (FilterWork f start) t ts → t ≡ get_or ts 0 t
      first_heard_at t [] h = absurd h
      first_heard_at t (s ∷ ss) h = h
  by_work x (MixWork m) still below begins brings hears =
      let y : UnitData = record x { work = MixWork m } in
      sum_alike (λ i. input_sound samples (moved_in block y filled (input_of y i))) (λ i. input_sound samples (input_of y i)) rest (x.timing.start + k) 0 (length m.parts) (pos 0)
      (λ i begin end. heard_plain samples block y filled still k from below (input_of y i) (λ input n. refl))
  by_work x (ChannelWork p) still below begins brings hears =
      let y : UnitData = record x { work = ChannelWork p } in
      heard_plain samples block y filled still k from below (input_of y 0) (λ input n. refl)

  -- what a unit is to give from here on is the same once its inputs moved on
  pub gives_same : (x : UnitData) → filled < blocks_of block x.timing.len → k < x.timing.len → BeginsAt x.work x.timing → BringsFrom x.work x.inputs.items → Hears x.work x.timing x.inputs.items
      → unit_value (kind_of x.work) x.timing (memory_in x.work) (x.timing.start + filled * block) (inputs_moved samples block x filled rest) (x.timing.start + k)
      ≡ unit_value (kind_of x.work) x.timing (memory_in x.work) (x.timing.start + filled * block) (inputs_were samples x rest) (x.timing.start + k)
  gives_same x still below begins brings hears = by_work x x.work still below begins brings hears
