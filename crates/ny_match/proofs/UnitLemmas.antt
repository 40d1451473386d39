-- The steps of a trace and of the plan, side by side: units, sounds brought to a rate, shared, placed, and given up.
use Rattle.std.proofs.Common.{◌≡◌, ◌≢◌, ◌⊎◌, inl, inr, ℕ, zero, suc, ◌+◌, ◌*◌, ◌<◌, ◌≤◌, nat_eq, nat_lt, Bool, true, false, cond, if◌then◌else◌, List, [], ◌∷◌, ◌++◌, map, drop, length, get_or, slice_get, Option, None, Some, refl, sym, ap, subst, ◌∙◌, arith, ℤ}
use Rattle.std.specs.List.{AllZip}
use Rattle.std.specs.Option.{option_map}
use Rattle.std.proofs.lemmas.Bool.{lt-ltb}
use Rattle.std.proofs.lemmas.List.{get_or_append_left}
use Rattle.std.proofs.lemmas.Bool.Decides.{eqb_tells}
use Rattle.std.proofs.Math.Seq.{get_or-append_seam}
use Rattle.std.proofs.Math.ListN.{length-append}
use Rattle.ny_num.specs.declared.rate.Rate.{Rate}
use Rattle.ny_num.specs.declared.timing.Timing.{Timing}
use Rattle.ny_num.specs.Sound as sounds
use Rattle.ny_num.specs.Resampling.{is_same_rate, other_rate_timing, resampled}
use Rattle.ny_warp.specs.Environment.{opening}
use Rattle.ny_check.specs.Code.{Code}
use Rattle.ny_heap.specs.declared.make.Make.TheVariants.{Resample as MakesResample}
use Rattle.ny_heap.specs.declared.sound.Sound.{Sound}
use Rattle.ny_heap.specs.Heap.{Reader, Kind, Made, Waiting, HeapState, list_of, place_of}
use Rattle.ny_heap.specs.Reach.{HeapLaws, IsTrimmed}
use Rattle.ny_heap.specs.Steps.{without_sounds, new_node, reader_of}
use Rattle.ny_hands.specs.declared.branch.Branch.{Branch}
use Rattle.ny_hands.specs.Calls.{Shares, MakesUnit, Places, ReleasesAll, Brings, Stay, Change, IsSilent}
use Rattle.ny_hands.specs.Hands.{Begins, AllBegin}
use Rattle.ny_hands.proofs.HeapLemmas.{Length, Empty, Long, length_of}
use Rattle.ny_hands.proofs.OptionLemmas.{some_same, none_some}
use Rattle.ny_hands.proofs.MarkLemmas.{marked_like, spent_like}
use Rattle.ny_trace.proofs.HeightLemmas.{ComesFrom, from_trimmed}
use Rattle.ny_trace.proofs.RisingSeqLemmas.{from_placed}
use Rattle.ny_heap.specs.Kinds.{UnitKind, Resample}
use Rattle.ny_plan.specs.Rows.{RowSound, Input, Row, After, Step, row_at, no_row, given, shown, silent, input, unit}
use Rattle.ny_plan.specs.Need.{Filled, is_open, has_come}
use Rattle.ny_plan.specs.Units.{first, brought}
use Rattle.ny_heap.specs.Kinds.{unit_kind}
use Rattle.ny_plan.specs.StandsFor.{ReadsFor, Keeps}
use Rattle.ny_match.specs.Matched.{IsFirst, Seats, IsSound, IsFree, Awaits, IsUnit, Matched}
use Rattle.ny_match.proofs.GrowLemmas.{first_then}
use Rattle.ny_match.proofs.SeatLemmas.{SameRows, sound_later, seated, put_at}
use Rattle.ny_match.proofs.BornLemmas.{Grew, grew_none, grew_from, free_less, free_later, new_rows, grew_added}

-- ---- the inputs that a unit is given at once

-- they are the first of the row's, and each has come
abbrev pub FirstInputs : (ℕ → ℕ) → ℕ → List Sound → List Input → Type 0
FirstInputs row block [] is = Unit {0}
FirstInputs row block (s ∷ ss) [] = ⊥
FirstInputs row block (s ∷ ss) (i ∷ is) = IsSound row s i.sound × (has_come block 0 i ≡ true) × FirstInputs row block ss is

pub firsts_later : (h : HeapState Branch) (row later : ℕ → ℕ) (block : ℕ) (ss : List Sound) (is : List Input) → AllBegin h ss → SameRows h row later → FirstInputs row block ss is → FirstInputs later block ss is
firsts_later h row later block [] is begin same f = tt
firsts_later h row later block (s ∷ ss) [] begin same f = absurd f
firsts_later h row later block (s ∷ ss) (i ∷ is) begin same f = (sound_later h row later s i.sound begin.0 same f.0, f.1, firsts_later h row later block ss is begin.1 same f.2)

pub come_first : (block : ℕ) (i : Input) → 0 < block → i.offset ≡ 0 → has_come block 0 i ≡ true
come_first block i some at = lt-ltb i.offset ((0 + 1) * block) (omega (arith, some, at))

module _ (row : ℕ → ℕ) (block : ℕ) where
  few_inputs : (ss : List Sound) (is : List Input) → FirstInputs row block ss is → length (map reader_of ss) ≤ length is
  few_inputs [] is f = omega arith
  few_inputs (s ∷ ss) [] f = absurd f
  few_inputs (s ∷ ss) (i ∷ is) f = omega (arith, few_inputs ss is f.2)

  have_come : (ss : List Sound) (is : List Input) → FirstInputs row block ss is → (k : ℕ) (i : Input) → slice_get is k ≡ Some i → k < length (map reader_of ss) → has_come block 0 i ≡ true
  have_come [] is f k i at less = absurd (omega (arith, less))
  have_come (s ∷ ss) [] f k i at less = absurd f
  have_come (s ∷ ss) (j ∷ is) f zero i at less = subst (λ q. has_come block 0 q ≡ true) (some_same j i at) f.1
  have_come (s ∷ ss) (j ∷ is) f (suc k) i at less = have_come ss is f.2 k i at (omega (arith, less))

  abbrev reader_for : Sound → ℕ → Reader
  reader_for s n = record { node = n; place = place_of s; timing = s.timing }

  reads_for : (s : Sound) (i : Input) (r : Reader) → IsSound row s i.sound → (o : Option ℕ) → list_of s ≡ o → option_map (reader_for s) o ≡ Some r → ReadsFor row i r
  reads_for s i r is None at e = absurd (none_some None r refl e)
  reads_for s i r is (Some n) at e =
      let same : reader_for s n ≡ r = some_same (reader_for s n) r e in
      record {
        names = is.names ∙ (ap (option_map row) at ∙ ap (λ (q : Reader). Some (row q.node)) same);
        timing = sym (ap (λ (q : Reader). q.timing) same) ∙ is.timing;
      }

  are_readers : (ss : List Sound) (is : List Input) → FirstInputs row block ss is → (k : ℕ) (r : Reader) → get_or (map reader_of ss) k None ≡ Some r → (i : Input) × (slice_get is k ≡ Some i) × ReadsFor row i r
  are_readers [] is f k r e = absurd (none_some None r refl e)
  are_readers (s ∷ ss) [] f k r e = absurd f
  are_readers (s ∷ ss) (i ∷ is) f zero r e = (i, refl, reads_for s i r f.0 (list_of s) refl e)
  are_readers (s ∷ ss) (i ∷ is) f (suc k) r e = are_readers ss is f.2 k r e

  is_read : (s : Sound) (i : Input) (y : ℕ) → IsSound row s i.sound → i.sound.row ≡ Some y → (o : Option ℕ) → list_of s ≡ o → (r : Reader) × (option_map (reader_for s) o ≡ Some r) × ReadsFor row i r
  is_read s i y is named None at = absurd (none_some i.sound.row y (is.names ∙ ap (option_map row) at) named)
  is_read s i y is named (Some n) at = (reader_for s n, refl, reads_for s i (reader_for s n) is (Some n) at refl)

  are_read : (ss : List Sound) (is : List Input) → FirstInputs row block ss is → (k y : ℕ) (i : Input) → slice_get is k ≡ Some i → k < length (map reader_of ss) → i.sound.row ≡ Some y → (r : Reader) × (get_or (map reader_of ss) k None ≡ Some r) × ReadsFor row i r
  are_read [] is f k y i at less named = absurd (omega (arith, less))
  are_read (s ∷ ss) [] f k y i at less named = absurd f
  are_read (s ∷ ss) (j ∷ is) f zero y i at less named =
      let same = some_same j i at in
      is_read s i y (subst (λ (q : Input). IsSound row s q.sound) same f.0) named (list_of s) refl
  are_read (s ∷ ss) (j ∷ is) f (suc k) y i at less named = are_read ss is f.2 k y i at (omega (arith, less)) named

pub positive : (n : ℕ) → n ≢ 0 → 0 < n
positive zero ne = absurd (ne refl)
positive (suc n) ne = omega arith

drop_all : {A : Type 0} (n : ℕ) (xs : List A) → length xs ≤ n → drop n xs ≡ []
drop_all zero [] le = refl
drop_all zero (x ∷ xs) le = absurd (omega (arith, le))
drop_all (suc n) [] le = refl
drop_all (suc n) (x ∷ xs) le = drop_all n xs (omega (arith, le))

opening_rate : (rate : Rate) → (opening rate).sound_rate ≡ rate
unfolding opening
opening_rate rate = refl

module _ (code : Code) (all : List Row) where
  -- a new unit is its row
  pub new_unit : (block : ℕ) (seats : Seats) (u : ℕ) (x : Row) (kind : Kind) (t : Timing) (inputs : List Sound) (waiting : List (Waiting Branch)) → unit_kind kind ≡ x.kind → t ≡ x.timing → FirstInputs seats.row block inputs x.inputs
      → (is_open block x 0 ≡ true → (stop : ℕ) × ((new_node kind t inputs waiting).pending ≡ 0 → stop ≡ (new_node kind t inputs waiting).last_stop) × Awaits code all seats u x (new_node kind t inputs waiting) (length (map reader_of inputs) + 0) stop)
      → IsUnit code block all seats u x 0 (new_node kind t inputs waiting)
  new_unit block seats u x kind t inputs waiting same when f awaits = record {
    kind = same;
    timing = when;
    filled = refl;
    few = omega (arith, few_inputs seats.row block inputs x.inputs f);
    come = have_come seats.row block inputs x.inputs f;
    readers = are_readers seats.row block inputs x.inputs f;
    inputs = λ unfinished k y i at less more named. are_read seats.row block inputs x.inputs f k y i at less named;
    awaits = awaits;
  }

  -- where it was given all, nothing waits
  pub awaits_none : (seats : Seats) (u : ℕ) (x : Row) (kind : Kind) (t : Timing) (inputs : List Sound) (rows : List Row) → length x.inputs ≤ length (map reader_of inputs) → IsFirst rows all → length rows ≡ seats.from u → length rows ≡ seats.upto u
      → (stop : ℕ) × ((new_node {B = Branch} kind t inputs []).pending ≡ 0 → stop ≡ (new_node {B = Branch} kind t inputs []).last_stop) × Awaits code all seats u x (new_node kind t inputs []) (length (map reader_of inputs) + 0) stop
  awaits_none seats u x kind t inputs rows le before from upto =
      let gone : drop (length (map reader_of inputs) + 0) x.inputs ≡ [] = drop_all (length (map reader_of inputs) + 0) x.inputs (omega (arith, le)) in (
        (new_node {B = Branch} kind t inputs []).last_stop,
        λ e. refl,
        record {
          env = opening x.timing.rate;
          parts = [];
          rows = rows;
          before = before;
          from = from;
          after = before;
          upto = upto;
          inputs = gone;
          rate = opening_rate x.timing.rate;
          are = tt;
          keep = subst (λ (is : List Input). AllZip (λ p (i : Input). AllZip (Keeps seats.row) (Waiting.captured {B = Branch} p) i.captured) [] is) (sym gone) tt;
        },
      )

-- ---- a step of the trace and of the plan

module _ (code : Code) (all : List Row) (filled : Filled) where
  -- a step leaves the rows that the plan's step makes, and gives what it gives
  abbrev pub Turns : {A : Type 0} → HeapState Branch → HeapState Branch → Seats → ((ℕ → ℕ) → A → Type 0) → List Row → After A → Type 0
  Turns old new seats P rows a = (later : Seats) × Grew code all filled old new seats later (length rows) (length (After.rows a)) × P later.row (After.gives a)

  -- what it begins with: its rows are those of the table, and nobody's
  pub record Fits {A : Type 0} (h : HeapState Branch) (seats : Seats) (rows : List Row) (a : After A) : Type 0 where
    pub matched : Matched code all filled h seats
    pub first : IsFirst (After.rows a) all
    pub free : IsFree filled h seats (length rows) (length (After.rows a))

  -- so it is of the first of two steps
  pub fits_first : {A C : Type 0} (h : HeapState Branch) (seats : Seats) (rows : List Row) (a : After A) (c : After C) → IsFirst rows (After.rows a) → IsFirst (After.rows a) (After.rows c) → Fits h seats rows c → Fits h seats rows a
  fits_first h seats rows a c more rest f = record {
    matched = f.matched;
    first = first_then (After.rows a) (After.rows c) all rest f.first;
    free = free_less code all filled h seats (length rows) (length (After.rows c)) (length rows) (length (After.rows a)) (omega arith) more.short rest.short f.free;
  }

  -- and then of the second
  pub fits_next : {C : Type 0} (old mid : HeapState Branch) (seats later : Seats) (rows more : List Row) (c : After C) → IsFirst rows more → IsFirst more (After.rows c) → Grew code all filled old mid seats later (length rows) (length more) → Fits old seats rows c → Fits mid later more c
  fits_next old mid seats later rows more c first rest g f = record {
    matched = g.matched;
    first = f.first;
    free = free_later code all filled old mid seats later (length rows) (length more) (length (After.rows c)) first.short rest.short g f.free;
  }

  -- ---- no unit

  pub given_turn : {A : Type 0} (old new : HeapState Branch) (seats : Seats) (P : (ℕ → ℕ) → A → Type 0) (rows : List Row) (a : A) → Matched code all filled old seats → ComesFrom old new → new.block ≡ old.block → P seats.row a → Turns old new seats P rows (given a rows)
  given_turn old new seats P rows a m from block p = (seats, grew_from code all filled old old new seats seats (length rows) (length rows) from block (grew_none code all filled old seats (length rows) (length rows) m), p)

  pub trimmed_block : (mid new : HeapState Branch) (ss : List Sound) → IsTrimmed (without_sounds mid ss) new → new.block ≡ mid.block
  trimmed_block mid new ss trimmed = trimmed.size.block ∙ (spent_like mid ss).counts.block

  pub grew_released : (old mid new : HeapState Branch) (seats later : Seats) (from upto : ℕ) (ss : List Sound) → ReleasesAll mid new ss → Grew code all filled old mid seats later from upto → Grew code all filled old new seats later from upto
  grew_released old mid new seats later from upto [] step g = subst (λ h. Grew code all filled old h seats later from upto) step g
  grew_released old mid new seats later from upto (s ∷ ss) step g =
      grew_released old step.0 new seats later from upto ss step.2
      (grew_from code all filled old mid step.0 seats later from upto (from_trimmed mid step.0 (s ∷ []) step.1.trimmed) (trimmed_block mid step.0 (s ∷ []) step.1.trimmed) g)

  pub shared_turn : (old new : HeapState Branch) (seats : Seats) (rows : List Row) (a s : Sound) (r : RowSound) → Matched code all filled old seats → IsSound seats.row a r → Shares old new a s → Turns old new seats (λ row. IsSound row s) rows (given r rows)
  shared_turn old new seats rows a s r m is step =
      let like = marked_like (λ n. n + 1) old (place_of s) (list_of s) in
      given_turn old new seats (λ row. IsSound row s) rows r m
      (subst (λ h. ComesFrom old h) (sym step.heap) (λ v y at. let x = like.from v y at in (x.0, x.1, x.2)))
      (ap (λ (h : HeapState Branch). h.block) step.heap ∙ like.counts.block)
      (record { names = is.names ∙ ap (option_map seats.row) (sym step.list); timing = step.timing ∙ is.timing })

  shown_is : (row : ℕ → ℕ) (n : ℕ) (r o : Option ℕ) → r ≡ option_map row o → (if nat_eq n 0 then None else r) ≡ option_map row (if nat_lt 0 n then o else None)
  shown_is row n r o e = by_length (eqb_tells n 0)
    where
      both : (b c : Bool) → ((b ≡ true) × (c ≡ false)) ⊎ ((b ≡ false) × (c ≡ true)) → (if b then None else r) ≡ option_map row (if c then o else None)
      both b c (inl p) = ap (λ b. if b then None else r) p.0 ∙ sym (ap (λ c. option_map row (if c then o else None)) p.1)
      both b c (inr p) = ap (λ b. if b then None else r) p.0 ∙ (e ∙ sym (ap (λ c. option_map row (if c then o else None)) p.1))

      by_length : ((nat_eq n 0 ≡ true) × (n ≡ 0)) ⊎ ((nat_eq n 0 ≡ false) × (n ≢ 0)) → (if nat_eq n 0 then None else r) ≡ option_map row (if nat_lt 0 n then o else None)
      by_length (inl z) = both (nat_eq n 0) (nat_lt 0 n) (inl (z.0, ap (nat_lt 0) z.1))
      by_length (inr z) = both (nat_eq n 0) (nat_lt 0 n) (inr (z.0, lt-ltb 0 n (positive n z.1)))

  pub placed_turn : (old new : HeapState Branch) (seats : Seats) (rows : List Row) (f : Timing → Timing) (a s : Sound) (r : RowSound) → Matched code all filled old seats → IsSound seats.row a r → Places old new f a s → Turns old new seats (λ row. IsSound row s) rows (given (shown r.row (f r.timing)) rows)
  placed_turn old new seats rows f a s r m is step =
      given_turn old new seats (λ row. IsSound row s) rows (shown r.row (f r.timing)) m (from_placed old new f a s step) (by_length (length_of s.timing))
      (record {
        names =
            shown_is seats.row (f r.timing).len r.row (list_of a) is.names
            ∙ (ap (λ (t : Timing). option_map seats.row (if nat_lt 0 t.len then list_of a else None)) (sym when) ∙ ap (option_map seats.row) (sym step.list));
        timing = when;
      })
    where
      when : s.timing ≡ f r.timing
      when = step.timing ∙ ap f is.timing

      by_length : Length s.timing → new.block ≡ old.block
      by_length (Empty e f) = trimmed_block old new (a ∷ []) (step.all e)
      by_length (Long e f) = ap (λ (h : HeapState Branch). h.block) (step.some e)

  pub silent_turn : (old new : HeapState Branch) (seats : Seats) (rows : List Row) (rate : Rate) (s : Sound) → Matched code all filled old seats → IsSilent old new rate s → Turns old new seats (λ row. IsSound row s) rows (given (silent rate) rows)
  silent_turn old new seats rows rate s m step =
      given_turn old new seats (λ row. IsSound row s) rows (silent rate) m (from_trimmed old new [] (step.makes.none refl)) (trimmed_block old new [] (step.makes.none refl))
      (record { names = sym (ap (option_map seats.row) step.makes.result.list); timing = step.makes.result.timing })

  -- a unit that has no sample is none
  pub none_turn : (old new : HeapState Branch) (seats : Seats) (rows : List Row) (t : Timing) (s : Sound) (kind : Kind) → t.len ≡ 0 → Matched code all filled old seats → MakesUnit old new kind t [] [] [] s → Turns old new seats (λ row. IsSound row s) rows (given (shown None t) rows)
  none_turn old new seats rows t s kind z m step =
      given_turn old new seats (λ row. IsSound row s) rows (shown None t) m (from_trimmed old new [] (step.makes.none z)) (trimmed_block old new [] (step.makes.none z))
      (record {
        names = either (nat_eq t.len 0) ∙ sym (ap (option_map seats.row) (step.makes.result.list ∙ ap (λ n. if nat_lt 0 n then Some step.makes.node else None) z));
        timing = step.makes.result.timing;
      })
    where
      either : (b : Bool) → cond {A = Option ℕ} b None None ≡ None
      either true = refl
      either false = refl

  -- ---- a unit

  abbrev pub unit_row : UnitKind → Timing → List Input → (List sounds.Sound → List ℤ) → Row
  unit_row k t is samples = record { kind = k; timing = t; inputs = is; samples = samples }

  -- a unit's row, unless it has no sample
  abbrev pub made_by : UnitKind → Timing → List Input → (List sounds.Sound → List ℤ) → List Row → Bool → After RowSound
  made_by k t is samples rows none = record {
    gives = record { row = if none then None else Some (length rows); timing = t };
    rows = if none then rows else rows ++ (record { kind = k; timing = t; inputs = is; samples = samples } ∷ []);
  }

  pub made_turn : (mid new : HeapState Branch) (kind : Kind) (k : UnitKind) (t : Timing) (inputs : List Sound) (is : List Input) (samples : List sounds.Sound → List ℤ) (spent : List Sound) (s : Sound) (seats : Seats) (rows : List Row)
      → HeapLaws mid → AllBegin mid inputs → unit_kind kind ≡ k → FirstInputs seats.row mid.block inputs is → length is ≤ length (map reader_of inputs) → MakesUnit mid new kind t inputs [] spent s
      → Fits mid seats rows (unit k t is samples rows) → Turns mid new seats (λ row. IsSound row s) rows (unit k t is samples rows)
  made_turn mid new kind k t inputs is samples spent s seats rows laws begin same f whole step fits = by_length (eqb_tells t.len 0) fits
    where
      none : t.len ≡ 0 → Fits mid seats rows (made_by k t is samples rows true) → Turns mid new seats (λ row. IsSound row s) rows (made_by k t is samples rows true)
      none z fits = (
        seats,
        grew_from code all filled mid mid new seats seats (length rows) (length rows) (from_trimmed mid new spent (step.makes.none z)) (trimmed_block mid new spent (step.makes.none z))
            (grew_none code all filled mid seats (length rows) (length rows) fits.matched),
        record { names = sym (ap (option_map seats.row) (step.makes.result.list ∙ ap (λ n. if nat_lt 0 n then Some step.makes.node else None) z)); timing = step.makes.result.timing },
      )

      more : 0 < t.len → Fits mid seats rows (made_by k t is samples rows false) → Turns mid new seats (λ row. IsSound row s) rows (made_by k t is samples rows false)
      more some fits =
          let n : ℕ = step.makes.node in
          let adds = step.makes.unit some in
          let x : Row = unit_row k t is samples in
          let size : length (rows ++ (x ∷ [])) ≡ length rows + 1 = length-append rows (x ∷ []) in
          let high = length (rows ++ (x ∷ [])) in
          let here : row_at all (length rows) ≡ x = fits.first.same (length rows) (omega (arith, size)) ∙ get_or-append_seam rows x [] no_row in
          let next : Seats = seated seats n (length rows) (length rows) (length rows) in
          let same_rows : SameRows mid seats.row next.row = new_rows code all filled mid new spent n (new_node kind t inputs []) seats (length rows) (length rows) (length rows) (length rows) high laws fits.matched adds fits.free (omega arith, omega (arith, size)) (omega arith, omega arith, omega (arith, size)) (inr (omega arith)) fits.first.short in
          let block : new.block ≡ mid.block = adds.size.block ∙ (spent_like mid spent).counts.block in
          let before : IsFirst rows all = record { short = omega (arith, size, fits.first.short); same = λ j less. fits.first.same j (omega (arith, less, size)) ∙ get_or_append_left rows (x ∷ []) no_row j less } in
          let firsts : FirstInputs next.row new.block inputs is = subst (λ b. FirstInputs next.row b inputs is) (sym block) (firsts_later mid seats.row next.row mid.block inputs is begin same_rows f) in
          let fits_here : IsUnit code new.block all next n x 0 (new_node kind t inputs []) =
          new_unit code all new.block next n x kind t inputs [] same refl firsts
          (λ unfinished. awaits_none code all next n x kind t inputs rows whole before (sym (put_at seats.from n (length rows) n refl)) (sym (put_at seats.upto n (length rows) n refl))) in (
            next,
            grew_added code all filled mid new spent n (new_node kind t inputs []) seats (length rows) (length rows) (length rows) (length rows) high laws fits.matched adds fits.free (omega arith, omega (arith, size)) (omega arith, omega arith, omega (arith, size)) (inr (omega arith)) fits.first.short
                (subst (λ z. IsUnit code new.block all next n z 0 (new_node kind t inputs [])) (sym here) fits_here),
            record {
              names = sym (ap (option_map next.row) (step.makes.result.list ∙ ap (λ b. if b then Some n else None) (lt-ltb 0 t.len some)) ∙ ap Some (put_at seats.row n (length rows) n refl));
              timing = step.makes.result.timing;
            },
          )

      by_length : ((nat_eq t.len 0 ≡ true) × (t.len ≡ 0)) ⊎ ((nat_eq t.len 0 ≡ false) × (t.len ≢ 0)) → Fits mid seats rows (made_by k t is samples rows (nat_eq t.len 0)) → Turns mid new seats (λ row. IsSound row s) rows (made_by k t is samples rows (nat_eq t.len 0))
      by_length (inl z) fits = subst (λ b. Turns mid new seats (λ row. IsSound row s) rows (made_by k t is samples rows b)) (sym z.0) (none z.1 (subst (λ b. Fits mid seats rows (made_by k t is samples rows b)) z.0 fits))
      by_length (inr z) fits = subst (λ b. Turns mid new seats (λ row. IsSound row s) rows (made_by k t is samples rows b)) (sym z.0) (more (positive t.len z.1) (subst (λ b. Fits mid seats rows (made_by k t is samples rows b)) z.0 fits))

  -- ---- a sound, brought to a rate

  abbrev resampled_row : Rate → RowSound → Step RowSound
  resampled_row rate r = unit Resample (other_rate_timing rate r.timing) (input r ∷ []) (λ ss. (resampled rate (first ss)).samples)

  pub brought_turn : (mid new : HeapState Branch) (rate : Rate) (a s : Sound) (r : RowSound) (seats : Seats) (rows : List Row) → HeapLaws mid → Begins mid a → IsSound seats.row a r → Brings mid new rate a s
      → Fits mid seats rows (brought rate r rows) → Turns mid new seats (λ row. IsSound row s) rows (brought rate r rows)
  brought_turn mid new rate a s r seats rows laws begin is (Stay step) fits =
      let e : is_same_rate r.timing.rate rate ≡ true = ap (λ (t : Timing). is_same_rate t.rate rate) (sym is.timing) ∙ step.rate in
      subst (λ b. Turns mid new seats (λ row. IsSound row s) rows ((if b then given r else resampled_row rate r) rows)) (sym e)
      (subst (λ h. Turns mid h seats (λ row. IsSound row s) rows (given r rows)) step.heap
      (given_turn mid mid seats (λ row. IsSound row s) rows r fits.matched (λ v y at. (y, at, refl)) refl (subst (λ q. IsSound seats.row q r) step.same is)))
  brought_turn mid new rate a s r seats rows laws begin is (Change step) fits =
      let e : is_same_rate r.timing.rate rate ≡ false = ap (λ (t : Timing). is_same_rate t.rate rate) (sym is.timing) ∙ step.rate in
      let step_made : MakesUnit mid new (Made MakesResample) (other_rate_timing rate r.timing) (a ∷ []) [] (a ∷ []) s = subst (λ (t : Timing). MakesUnit mid new (Made MakesResample) (other_rate_timing rate t) (a ∷ []) [] (a ∷ []) s) is.timing step.made in
      subst (λ b. Turns mid new seats (λ row. IsSound row s) rows ((if b then given r else resampled_row rate r) rows)) (sym e)
      (made_turn mid new (Made MakesResample) Resample (other_rate_timing rate r.timing) (a ∷ []) (input r ∷ []) (λ ss. (resampled rate (first ss)).samples) (a ∷ []) s seats rows laws (begin, tt) refl
      (is, come_first mid.block (input r) laws.positive refl, tt) (omega arith) step_made
      (subst (λ b. Fits mid seats rows ((if b then given r else resampled_row rate r) rows)) e fits))
