-- What a unit reads for its next block can be read.
use Rattle.std.proofs.Common.{◌≡◌, ℕ, zero, suc, ◌+◌, ◌-◌, ◌*◌, ◌<◌, ◌≤◌, ◌^◌, min, nat_lt, false, List, [], ◌∷◌, ◌++◌, length, get_or, set, Option, None, Some, IsSomeAnd, refl, sym, ap, subst, ◌∙◌, arith, ℤ, pos}
use Rattle.std.specs.Option.{option_map_or}
use Rattle.std.proofs.lemmas.Bool.{ltb-true}
use Rattle.std.proofs.lemmas.List.{get_or_append_left}
use Rattle.std.proofs.lemmas.Nat.{mul-le}
use Rattle.std.proofs.Math.Nat.{div-mul-le_self}
use Rattle.ny_num.specs.declared.timing.Timing.{Timing}
use Rattle.ny_list.specs.Store.{ListState, StoreState, CursorState, list_at, mark_at}
use Rattle.ny_list.specs.Steps.{IsComputed}
use Rattle.ny_list.proofs.IndexLemmas.{same_some}
use Rattle.ny_units.specs.Inputs.{reader_of, start_of, CanHear, CanRead, IsReader}
use Rattle.ny_units.specs.Resamplings as resamplings
use Rattle.ny_units.specs.Resamplings.{CanResample}
use Rattle.ny_units.specs.declared.input.Source.{Source}
use Rattle.ny_units.specs.declared.input.Source.TheVariants.{Reader as ListSource, Number}
use Rattle.ny_filters.specs.Filtering.{Filtering, CanFilter}
use Rattle.ny_heap.specs.declared.make.Make.TheVariants.{Resample}
use Rattle.ny_heap.specs.declared.table.Unit.{Unit as UnitData}
use Rattle.ny_heap.specs.declared.table.Table.{Table}
use Rattle.ny_heap.specs.declared.work.Work.{Work}
use Rattle.ny_heap.specs.declared.work.Work.TheVariants.{Leaf as LeafWork, Pair as PairWork, Abs as AbsWork, Resample as ResampleWork, Filter as FilterWork, Mix as MixWork, Channel as ChannelWork}
use Rattle.ny_heap.specs.Heap.{Made, next_taken, taken_after, blocks_of, stands_in}
use Rattle.ny_heap.specs.Work.{kind_of, inputs_in, source_at, cursor_at, CanWork, HasGiven, ShowsAll, work_value, MovesOn, Recalls}
use Rattle.ny_heap.specs.Tasks.{IsSide, HasSides, BeginsAt, BringsFrom, Hears}
use Rattle.ny_heap.specs.Table.{unit_at, timing_at, len_of, IsTable, IsUnit, IsInput, computed_in, computed_next_in, is_open_in}
use Rattle.ny_heap.specs.View.{filled_in}
use Rattle.ny_heap.specs.Filling.{CanFill, Computes}
use Rattle.ny_heap.proofs.NeedLemmas.{taken_at}
use Rattle.ny_heap.proofs.ListLemmas.{mark_is, len_is}
use Rattle.ny_heap.proofs.CountLemmas.{own_one}
use Rattle.ny_heap.proofs.KeepLemmas.{filled_is}
use Rattle.ny_heap.proofs.TakenLemmas.{need_is, next_is}
use Rattle.ny_heap.proofs.AppendLemmas.{far_enough}
use Rattle.ny_heap.proofs.MovesLemmas.{given_before}

-- the filled blocks of an open list are whole
pub not_past : (block filled len : ℕ) → 0 < block → filled < blocks_of block len → filled * block < len
not_past block filled len positive opened =
    omega (arith, div-mul-le_self (len + (block - 1)) block, mul-le (filled + 1) block (blocks_of block len) block (omega (arith, opened)) (omega arith), positive)

-- a resampling takes what its unit does
pub taken_resampled : (block : ℕ) (t input : Timing) (n : ℕ) → taken_after block (Made Resample) t input n ≡ resamplings.taken_after input t (min (n * block) t.len)
unfolding taken_after
taken_resampled block t input zero = let none : 0 ≡ min (0 * block) t.len = omega arith in omega (arith, ap (resamplings.taken_after input t) none)
taken_resampled block t input (suc n) = refl

-- the cursor of an input is counted
pub input_counted : (t : Table) (u i : ℕ) (x : UnitData) (c : CursorState) (l : ListState) → IsTable t [] → unit_at t u ≡ Some x → i < length x.inputs.items → cursor_at x.work i ≡ Some c → list_at t.store c.list ≡ Some l → 0 < mark_at t.store c
input_counted t u i x c l table at inside is there =
    let j : ℕ = stands_in t.block (len_of t.store c.list) c.place in
    let e : j ≡ stands_in t.store.block l.len c.place = ap (λ n. stands_in t.block n c.place) (len_is t.store c.list l there) ∙ ap (λ b. stands_in b l.len c.place) (sym table.block) in
    let m : mark_at t.store c ≡ get_or l.marks (stands_in t.store.block l.len c.place) 0 =
    ap (λ (o : Option ListState). option_map_or {U = ℕ} (λ k. get_or k.marks (stands_in t.store.block k.len c.place) 0) o 0) there in
    omega (arith, own_one t u i x c at inside is, table.counted c.list j l there, mark_is t.store c.list j l there, ap (λ k. get_or l.marks k 0) e, m)

module _ (t : Table) (u : ℕ) (f : CanFill t u) where
  abbrev x : UnitData
  x = f.there.unit

  abbrev l : ListState
  l = f.there.list

  table : IsTable t []
  table = f.heap.table

  abbrev pub done : ℕ
  done = computed_in t u

  abbrev pub next : ℕ
  next = computed_next_in t u

  pub unit : IsUnit t u f.there.unit f.there.list
  unit = let w = table.units u x f.there.there in subst (IsUnit t u x) (same_some (sym w.1 ∙ f.there.listed)) w.2

  abbrev filled : ℕ
  filled = filled_in t.store u

  pub filled_here : filled_in t.store u ≡ length f.there.list.values
  filled_here = filled_is t.store u l f.there.listed

  positive : 0 < t.block
  positive = omega (arith, table.store.some, table.block)

  pub opened : filled_in t.store u < blocks_of t.block f.there.unit.timing.len
  opened =
      let is : is_open_in t u ≡ nat_lt (length l.values) (blocks_of t.block l.len) = ap (λ (o : Option ListState). option_map_or (λ k. nat_lt (length k.values) (blocks_of t.block k.len)) o false) f.there.listed in
      subst (λ n. n < blocks_of t.block x.timing.len) (sym filled_here) (subst (λ n. length l.values < blocks_of t.block n) unit.len (ltb-true (length l.values) (blocks_of t.block l.len) (sym is ∙ f.opened)))

  pub inside_len : filled_in t.store u * t.block < f.there.unit.timing.len
  inside_len = not_past t.block filled x.timing.len positive opened

  pub done_is : computed_in t u ≡ min (filled_in t.store u * t.block) f.there.unit.timing.len
  done_is =
      ap (λ (o : Option ListState). option_map_or {U = ℕ} (λ k. min (length k.values * t.block) k.len) o 0) f.there.listed
      ∙ ap (λ n. min (n * t.block) l.len) (sym filled_here) ∙ ap (min (filled_in t.store u * t.block)) unit.len

  -- all blocks before are whole
  pub done_all : computed_in t u ≡ filled_in t.store u * t.block
  done_all = omega (arith, done_is, inside_len)

  pub next_to : computed_next_in t u ≡ min ((filled_in t.store u + 1) * t.block) f.there.unit.timing.len
  next_to = next_is t table u x f.there.there

  pub room : computed_next_in t u ≤ computed_in t u + t.block
  room = omega (arith, next_to, done_all)

  pub forward : computed_in t u < computed_next_in t u
  forward = omega (arith, next_to, done_all, inside_len, positive)

  pub within : computed_next_in t u ≤ f.there.unit.timing.len
  within = omega (arith, next_to)

  pub short : computed_next_in t u < 2 ^ 32
  short = omega (arith, within, unit.early)

  pub given : HasGiven f.there.unit.work (computed_next_in t u) (computed_in t u)
  given = given_before x.work x.timing.len next done within
      (subst (HasGiven x.work x.timing.len) (sym (done_is ∙ ap (λ n. min (n * t.block) x.timing.len) filled_here)) unit.given)

  -- ---- one input

  module _ (i : ℕ) (inside : i < inputs_in f.there.unit.work) (c : CursorState) (is : cursor_at f.there.unit.work i ≡ Some c) where
    abbrev input : Timing
    input = timing_at x i

    within_i : i < length x.inputs.items
    within_i = omega (arith, inside, unit.count)

    reads : (k : ListState) × (list_at t.store c.list ≡ Some k) × IsInput t x i c k
    reads = table.inputs u i x l c f.there.there f.there.listed within_i is

    stands : 0 < mark_at t.store c
    stands = input_counted t u i x c reads.0 table f.there.there within_i is reads.1

    place : c.place ≡ taken_after t.block (kind_of x.work) x.timing input filled
    place = f.heap.needs u i x c f.there.there within_i is

    far_in : computed_in t c.list ≡ min (length reads.0.values * t.store.block) reads.0.len
    far_in =
        ap (λ (o : Option ListState). option_map_or {U = ℕ} (λ k. min (length k.values * t.block) k.len) o 0) reads.1
        ∙ ap (λ b. min (length reads.0.values * b) reads.0.len) (sym table.block)

    passed : c.place ≤ computed_in t c.list
    passed = omega (arith, far_in, reads.2.computed, ap (λ b. min (length reads.0.values * b) reads.0.len) table.block)

    need : taken_after t.block (kind_of x.work) x.timing input (filled + 1) ≤ computed_in t c.list
    need = omega (arith, far_enough t u f i c inside is, need_is t table u x f.there.there i c inside is)

    -- as many samples are computed as there are of the need
    computed : (n : ℕ) → n ≤ computed_in t c.list → IsComputed t.store c (n - c.place)
    computed n less = record { list = reads.0; there = reads.1; computed = omega (arith, less, passed, far_in) }

    taken_next : taken_after t.block (kind_of x.work) x.timing input (filled + 1) ≡ min (next_taken (kind_of x.work) x.timing input next - input.start) input.len
    taken_next = taken_at t.block (kind_of x.work) x.timing input (filled + 1) (omega arith) ∙ ap (λ n. min (next_taken (kind_of x.work) x.timing input n - input.start) input.len) (sym next_to)

    -- where it takes what is heard before the next sample
    module _ (plain : (n : ℕ) → next_taken (kind_of f.there.unit.work) f.there.unit.timing (timing_at f.there.unit i) n ≡ f.there.unit.timing.start + n) where
      pub place_plain : c.place ≤ f.there.unit.timing.start + computed_in t u - (timing_at f.there.unit i).start
      place_plain = by filled refl
        where
          by : (n : ℕ) → filled ≡ n → c.place ≤ x.timing.start + done - input.start
          by zero e = omega (arith, place, ap (taken_after t.block (kind_of x.work) x.timing input) e, Rattle.ny_heap.proofs.NeedLemmas.none_taken t.block (kind_of x.work) x.timing input)
          by (suc n) e = omega (arith, place, taken_at t.block (kind_of x.work) x.timing input filled (omega (arith, e)), plain (min (filled * t.block) x.timing.len), done_is)

      pub need_plain : min (f.there.unit.timing.start + computed_next_in t u - (timing_at f.there.unit i).start) (timing_at f.there.unit i).len ≤ computed_in t c.list
      need_plain = omega (arith, need, taken_next, plain next)

      hear : (start b : ℕ) → start_of (source_at x.work i) ≡ start → b ≡ x.timing.start → CanHear t.store c start (b + done) (b + next)
      hear start b starts begins =
          let same : start ≡ input.start = sym starts ∙ reads.2.starts in record {
            stands = stands;
            ahead = omega (arith, place_plain, same, begins);
            computed = computed (min c.visible (b + next - start)) (omega (arith, need_plain, same, begins, reads.2.sees));
          }

  read : (i : ℕ) → i < inputs_in x.work → ((n : ℕ) → next_taken (kind_of x.work) x.timing (timing_at x i) n ≡ x.timing.start + n) → (a : Source) → source_at x.work i ≡ a → (b : ℕ) → b ≡ x.timing.start → CanRead t.store a (b + done) (b + next)
  read i inside plain (ListSource o start) is b begins = λ c e. hear i inside c (ap reader_of is ∙ e) plain start b (ap start_of is) begins
  read i inside plain (Number value) is b begins = tt

  -- ---- what a resampling and a filter read

  resample : (r : resamplings.Resampling) → x.work ≡ ResampleWork r → CanWork t.store (ResampleWork r) done next
  resample r e = (
    (λ c is.
        let at : cursor_at x.work 0 ≡ Some c = ap (λ k. cursor_at k 0) e ∙ is in
        record {
          stands = stands 0 inside c at;
          ahead = omega (arith, place 0 inside c at, taken filled, ap (resamplings.taken_after r.from r.to) same_given);
          seen = (reads 0 inside c at).2.sees ∙ ap (λ (k : Timing). k.len) (sym from_is);
          computed = computed 0 inside c at (resamplings.taken_after r.from r.to next) (omega (arith, need 0 inside c at, taken (filled + 1), ap (resamplings.taken_after r.from r.to) next_to));
        }),
    (λ none. omega (
      arith,
      subst (λ w. IsReader (source_at w 0) → cursor_at w 0 ≡ None → filled < blocks_of t.block x.timing.len → (timing_at x 0).len ≤ taken_after t.block (kind_of w) x.timing (timing_at x 0) filled) e (f.heap.exhausted u 0 x f.there.there (omega (arith, inside, unit.count))) tt none opened,
      taken_resampled t.block x.timing (timing_at x 0) filled,
      back done filled done_is,
      ap (λ (k : Timing). k.len) from_is,
    )),
  )
    where
      inside : 0 < inputs_in x.work
      inside = subst (λ w. 0 < inputs_in w) (sym e) (omega arith)

      first : (ts : List Timing) → BringsFrom (ResampleWork r) ts → r.from ≡ get_or ts 0 x.timing
      first [] b = absurd b
      first (k ∷ ks) b = b

      from_is : r.from ≡ timing_at x 0
      from_is = first x.inputs.items (subst (λ w. BringsFrom w x.inputs.items) e unit.brings)

      to_is : r.to ≡ x.timing
      to_is = subst (λ w. BeginsAt w x.timing) e unit.begins

      same_given : r.given ≡ min (filled * t.block) x.timing.len
      same_given = subst (λ w. HasGiven w next done) e given ∙ done_is

      back : (n m : ℕ) → n ≡ min (m * t.block) x.timing.len → resamplings.taken_after r.from r.to n ≡ resamplings.taken_after (timing_at x 0) x.timing (min (m * t.block) x.timing.len)
      back n m is = λ j. resamplings.taken_after (from_is j) (to_is j) (is j)

      taken : (n : ℕ) → taken_after t.block (kind_of x.work) x.timing (timing_at x 0) n ≡ resamplings.taken_after r.from r.to (min (n * t.block) x.timing.len)
      taken n = ap (λ w. taken_after t.block (kind_of w) x.timing (timing_at x 0) n) e ∙ taken_resampled t.block x.timing (timing_at x 0) n ∙ sym (back (min (n * t.block) x.timing.len) n refl)

  filter : (g : Filtering) (start : ℕ) → x.work ≡ FilterWork g start → CanWork t.store (FilterWork g start) done next
  filter g start e = by g.reader refl
    where
      inside : 0 < inputs_in x.work
      inside = subst (λ w. 0 < inputs_in w) (sym e) (omega arith)

      first : (ts : List Timing) → Hears (FilterWork g start) x.timing ts → x.timing ≡ get_or ts 0 x.timing
      first [] b = absurd b
      first (k ∷ ks) b = b

      heard : x.timing ≡ timing_at x 0
      heard = first x.inputs.items (subst (λ w. Hears w x.timing x.inputs.items) e unit.hears)

      same_start : x.timing.start ≡ (timing_at x 0).start
      same_start = ap (λ (k : Timing). k.start) heard

      same_len : x.timing.len ≡ (timing_at x 0).len
      same_len = ap (λ (k : Timing). k.len) heard

      plain : (n : ℕ) → next_taken (kind_of x.work) x.timing (timing_at x 0) n ≡ x.timing.start + n
      plain n = ap (λ w. next_taken (kind_of w) x.timing (timing_at x 0) n) e

      none_left : cursor_at x.work 0 ≡ None → (timing_at x 0).len ≤ taken_after t.block (kind_of x.work) x.timing (timing_at x 0) filled
      none_left none = f.heap.exhausted u 0 x f.there.there (omega (arith, inside, unit.count)) (subst (λ w. IsReader (source_at w 0)) (sym e) tt) none opened

      not_all : (n : ℕ) → filled ≡ n → (timing_at x 0).len ≤ taken_after t.block (kind_of x.work) x.timing (timing_at x 0) filled → ⊥
      not_all zero is all = omega (arith, all, ap (taken_after t.block (kind_of x.work) x.timing (timing_at x 0)) is, Rattle.ny_heap.proofs.NeedLemmas.none_taken t.block (kind_of x.work) x.timing (timing_at x 0), unit.some, same_len)
      not_all (suc n) is all = omega (arith, all, taken_at t.block (kind_of x.work) x.timing (timing_at x 0) filled (omega (arith, is)), plain (min (filled * t.block) x.timing.len), same_start, same_len, inside_len)

      by : (o : Option CursorState) → g.reader ≡ o → IsSomeAnd o (λ c. CanFilter t.store c done next)
      by None is = absurd (not_all filled refl (none_left (ap (λ k. cursor_at k 0) e ∙ is)))
      by (Some c) is =
          let at : cursor_at x.work 0 ≡ Some c = ap (λ k. cursor_at k 0) e ∙ is in record {
            stands = stands 0 inside c at;
            ahead = omega (arith, place_plain 0 inside c at plain, same_start);
            seen = omega (arith, (reads 0 inside c at).2.sees, same_len, within);
            computed = computed 0 inside c at next (omega (arith, need_plain 0 inside c at plain, same_start, same_len, within));
          }

  -- ---- all kinds

  fixed : (value : ℤ) (a : Source) (from end : ℕ) → IsSide (Some value) a → CanRead t.store a from end
  fixed value a from end is = subst (λ s. CanRead t.store s from end) (sym is) tt

  by_work : (w : Work) → x.work ≡ w → CanWork t.store w done next
  by_work (LeafWork p) e = tt
  by_work (PairWork p None None) e =
      let begins : p.start ≡ x.timing.start = subst (λ w. BeginsAt w x.timing) e unit.begins in (
        read 0 (subst (λ w. 0 < inputs_in w) (sym e) (omega arith)) (λ n. ap (λ w. next_taken (kind_of w) x.timing (timing_at x 0) n) e) p.left (ap (λ w. source_at w 0) e) p.start begins,
        read 1 (subst (λ w. 1 < inputs_in w) (sym e) (omega arith)) (λ n. ap (λ w. next_taken (kind_of w) x.timing (timing_at x 1) n) e) p.right (ap (λ w. source_at w 1) e) p.start begins,
      )
  by_work (PairWork p (Some a) None) e =
      let begins : p.start ≡ x.timing.start = subst (λ w. BeginsAt w x.timing) e unit.begins in
      let sides = subst HasSides e unit.sides in (
        fixed a p.left (p.start + done) (p.start + next) sides.0,
        read 0 (subst (λ w. 0 < inputs_in w) (sym e) (omega arith)) (λ n. ap (λ w. next_taken (kind_of w) x.timing (timing_at x 0) n) e) p.right (ap (λ w. source_at w 0) e) p.start begins,
      )
  by_work (PairWork p None (Some b)) e =
      let begins : p.start ≡ x.timing.start = subst (λ w. BeginsAt w x.timing) e unit.begins in
      let sides = subst HasSides e unit.sides in (
        read 0 (subst (λ w. 0 < inputs_in w) (sym e) (omega arith)) (λ n. ap (λ w. next_taken (kind_of w) x.timing (timing_at x 0) n) e) p.left (ap (λ w. source_at w 0) e) p.start begins,
        fixed b p.right (p.start + done) (p.start + next) sides.1,
      )
  by_work (PairWork p (Some a) (Some b)) e =
      let sides = subst HasSides e unit.sides in (
        fixed a p.left (p.start + done) (p.start + next) sides.0,
        fixed b p.right (p.start + done) (p.start + next) sides.1,
      )
  by_work (AbsWork s) e =
      read 0 (subst (λ w. 0 < inputs_in w) (sym e) (omega arith)) (λ n. ap (λ w. next_taken (kind_of w) x.timing (timing_at x 0) n) e) s (ap (λ w. source_at w 0) e) (start_of s) (subst (λ w. BeginsAt w x.timing) e unit.begins)
  by_work (ResampleWork r) e = resample r e
  by_work (FilterWork g start) e = filter g start e
  by_work (MixWork m) e =
      let begins : m.timing.start ≡ x.timing.start = ap (λ (k : Timing). k.start) (subst (λ w. BeginsAt w x.timing) e unit.begins) in
      λ i c inside is.
      read i (subst (λ w. i < inputs_in w) (sym e) inside) (λ n. ap (λ w. next_taken (kind_of w) x.timing (timing_at x i) n) e) (source_at (MixWork m) i) (ap (λ w. source_at w i) e) m.timing.start begins c is
  by_work (ChannelWork p) e =
      read 0 (subst (λ w. 0 < inputs_in w) (sym e) (omega arith)) (λ n. ap (λ w. next_taken (kind_of w) x.timing (timing_at x 0) n) e) p.input (ap (λ w. source_at w 0) e) p.start (subst (λ w. BeginsAt w x.timing) e unit.begins)

  pub can_work : CanWork t.store f.there.unit.work (computed_in t u) (computed_next_in t u)
  can_work = by_work x.work refl

-- ---- as the code asks

-- so many samples, from those that there are on
module _ (t : Table) (u : ℕ) (f : CanFill t u) (w : Work) (from n : ℕ) (is : w ≡ f.there.unit.work) (begins : from ≡ computed_in t u) (ends : from + n ≡ computed_next_in t u) where
  pub ready_for : (s : StoreState) → s ≡ t.store → CanWork s w from (from + n)
  ready_for s same =
      subst (λ k. CanWork k w from (from + n)) (sym same)
      (subst (λ k. CanWork t.store k from (from + n)) (sym is)
      (subst (λ k. CanWork t.store f.there.unit.work from k) (sym ends)
      (subst (λ k. CanWork t.store f.there.unit.work k (computed_next_in t u)) (sym begins) (can_work t u f))))

  pub given_for : HasGiven w (from + n) from
  given_for =
      subst (λ k. HasGiven k (from + n) from) (sym is)
      (subst (λ k. HasGiven f.there.unit.work k from) (sym ends)
      (subst (λ k. HasGiven f.there.unit.work (computed_next_in t u) k) (sym begins) (given t u f)))

-- as many places as there are samples to compute
pub taken_count : (t : Table) (u : ℕ) (f : CanFill t u) (from end len n : ℕ) → from ≡ computed_in t u → end ≡ computed_next_in t u → len ≡ t.block → n ≡ min (end - from) len → (from + n ≡ computed_next_in t u) × (n ≡ computed_next_in t u - computed_in t u)
taken_count t u f from end len n begins ends whole is = (omega (arith, begins, ends, whole, is, room t u f, forward t u f), omega (arith, begins, ends, whole, is, room t u f, forward t u f))

-- what was computed, by the samples that the work gives
module _ (old new : Table) (u : ℕ) (f : CanFill old u) (x : UnitData) (work : Work) (s : StoreState) (from n : ℕ) (out first rest : List ℤ)
    (was : unit_at old u ≡ Some x) (same : s ≡ old.store) (begins : from ≡ computed_in old u) (count : (from + n ≡ computed_next_in old u) × (n ≡ computed_next_in old u - computed_in old u))
    (long : length first ≡ n) (all : out ≡ first ++ rest)
    (moves : MovesOn x.work work (from + n))
    (recalls : (whole : ℕ → List ℤ) → ShowsAll s whole → Recalls x.work work whole from n)
    (samples : (whole : ℕ → List ℤ) → ShowsAll s whole → (k : ℕ) → k < n → get_or first k (pos 0) ≡ work_value x.work whole from (from + k))
    (units : new.units.items ≡ set old.units.items u (Some (record x { work = work }))) (store : new.store ≡ old.store) (block : new.block ≡ old.block) where
  pub computed_block : Computes old new u out
  computed_block = record {
    unit = x;
    was = was;
    work = work;
    moves = subst (MovesOn x.work work) count.0 moves;
    recalls = λ whole shows. recalled whole (subst (λ k. ShowsAll k whole) (sym same) shows);
    samples = λ whole shows k inside.
        ap (λ xs. get_or xs k (pos 0)) all
        ∙ get_or_append_left first rest (pos 0) k (omega (arith, inside, count.1, long))
        ∙ samples whole (subst (λ z. ShowsAll z whole) (sym same) shows) k (omega (arith, inside, count.1))
        ∙ ap (λ m. work_value x.work whole m (m + k)) begins;
    reworks = record { units = units; store = store; block = block };
  }
    where
      recalled : (whole : ℕ → List ℤ) → ShowsAll s whole → Recalls x.work work whole (computed_in old u) (computed_next_in old u - computed_in old u)
      recalled whole shows = subst (Recalls x.work work whole (computed_in old u)) count.1 (subst (λ m. Recalls x.work work whole m n) begins (recalls whole shows))
