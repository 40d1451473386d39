-- In a settled heap exactly the parts that are due have come, so as many blocks are kept as are live.
use Rattle.std.proofs.Common.{◌≡◌, ◌⊎◌, inl, inr, ℕ, zero, suc, ◌+◌, ◌-◌, ◌*◌, ◌<◌, ◌≤◌, Bool, true, false, not, cond, nat_lt, List, [], ◌∷◌, length, map, drop, get_or, Option, None, Some, slice_get, refl, sym, ap, subst, ◌∙◌, arith}
use Rattle.std.specs.Prelude.{slice_index}
use Rattle.std.specs.List.{filter, AllZip}
use Rattle.std.specs.Option.{option_map_or}
use Rattle.std.proofs.lemmas.Bool.{cases_lt, lt-ltb, le-ltb, ltb-true}
use Rattle.std.proofs.lemmas.List.{get_or_past}
use Rattle.ny_list.proofs.IndexLemmas.{same_some, none_some}
use Rattle.ny_num.specs.Grid.{index_at, tick_at}
use Rattle.ny_num.specs.declared.rate.Rate.{Rate}
use Rattle.ny_num.specs.declared.timing.Timing.{Timing}
use Rattle.ny_num.specs.Sound.{placed_timing, spanning}
use Rattle.ny_num.specs.Resampling.{is_same_rate, other_rate_timing, resampled}
use Rattle.ny_num.proofs.RateLaws.{same_rate}
use Rattle.ny_warp.specs.declared.env.Env.{Env}
use Rattle.ny_warp.specs.Environment.{from_stop}
use Rattle.ny_check.specs.Code.{Code}
use Rattle.ny_heap.specs.Heap.{Reader, Node, HeapState, node_at, blocks_of, is_open as heap_open, live_of}
use Rattle.ny_heap.specs.Steps.{IsSettledUnit}
use Rattle.ny_heap.specs.Reach.{HeapLaws}
use Rattle.ny_heap.proofs.WaitingMeans.{index_of_stop}
use Rattle.ny_hands.specs.declared.branch.Branch.{Branch}
use Rattle.ny_hands.specs.Hands.{marks_at}
use Rattle.ny_hands.proofs.HandLemmas.{marks_there}
use Rattle.ny_heap.specs.Kinds.{UnitKind, Resample}
use Rattle.ny_plan.specs.Rows.{RowSound, Input, Row, After, row_at, given, input, unit}
use Rattle.ny_plan.specs.Units.{Part as MixPart, first, brought, next_part, parts_after, counted_from}
use Rattle.ny_plan.specs.Plan.{part_of, made}
use Rattle.ny_plan.specs.Need.{Filled, is_open, has_come}
use Rattle.ny_plan.specs.Order.{AllRows}
use Rattle.ny_plan.specs.Liveness.{live, live_of_kinds}
use Rattle.ny_heap.specs.Kinds.{kept_of_kinds}
use Rattle.ny_plan.specs.StandsFor.{KeepsPart, waiting_inputs, UnitMatches, Matches}
use Rattle.ny_plan.proofs.LiveLemmas.{live_is, kept_are_live}
use Rattle.ny_plan.proofs.NeedLemmas.{reads-earlier}
use Rattle.ny_walk.specs.Below.{IsSettled}
use Rattle.ny_match.specs.Matched.{Seats, Part, IsPart, coming, Awaits, IsUnit, Matched}
use Rattle.ny_match.specs.Roots.{Roots}

-- ---- later parts come later

other_rate : (rate : Rate) (t : Timing) → (other_rate_timing rate t).rate ≡ rate
unfolding other_rate_timing spanning
other_rate rate t = refl

pub brought_rate : (rate : Rate) (s : RowSound) (rows : List Row) → (After.gives (brought rate s rows)).timing.rate ≡ rate
brought_rate rate s rows = by_test (is_same_rate s.timing.rate rate) refl
  where
    by_test : (b : Bool) → is_same_rate s.timing.rate rate ≡ b → (After.gives ((cond b (given s) (unit Resample (other_rate_timing rate s.timing) (input s ∷ []) (λ ss. (resampled rate (first ss)).samples))) rows)).timing.rate ≡ rate
    by_test true e = same_rate s.timing.rate rate e
    by_test false e = other_rate rate s.timing

-- a sound that is placed at an index stops there or later
pub placed_stop : (at : ℕ) (t : Timing) → at ≤ index_at (placed_timing at t).stop t.rate
unfolding placed_timing
placed_stop at t = omega (arith, index_of_stop t.rate start (placed_timing at t).stop late)
  where
    start : ℕ
    start = (placed_timing at t).start

    late : tick_at start t.rate ≤ (placed_timing at t).stop
    late = omega arith

next_stop : (env : Env) (stop : ℕ) (part : MixPart) (rows : List Row) → index_at stop env.sound_rate ≤ index_at (After.gives (next_part env stop part rows)).timing.stop env.sound_rate
next_stop env stop part rows =
    let s = part.sound (from_stop env stop) rows in
    let t = brought env.sound_rate s.gives s.rows in
    subst (λ r. index_at stop env.sound_rate ≤ index_at (placed_timing (index_at stop env.sound_rate) t.gives.timing).stop r) (brought_rate env.sound_rate s.gives s.rows) (placed_stop (index_at stop env.sound_rate) t.gives.timing)

-- each of the parts that follow a stop comes at that stop or later
pub later_offsets : (env : Env) (parts : List MixPart) (stop : ℕ) (rows : List Row) (k : ℕ) (i : Input) → slice_get (After.gives (parts_after env stop parts rows)) k ≡ Some i → index_at stop env.sound_rate ≤ i.offset
later_offsets env [] stop rows k i there = absurd (none_some there)
later_offsets env (part ∷ parts) stop rows zero i there = omega (arith, ap (λ (j : Input). j.offset) (same_some there))
later_offsets env (part ∷ parts) stop rows (suc k) i there =
    let s = next_part env stop part rows in
    omega (arith, next_stop env stop part rows, later_offsets env parts s.gives.timing.stop s.rows k i there)

-- ---- what has come

mapped_item : {A C : Type 0} (f : A → C) (xs : List A) (k : ℕ) (c : C) → slice_get (map f xs) k ≡ Some c → (a : A) × (slice_get xs k ≡ Some a) × (f a ≡ c)
mapped_item f [] k c there = absurd (none_some there)
mapped_item f (x ∷ xs) zero c there = (x, refl, same_some there)
mapped_item f (x ∷ xs) (suc k) c there = mapped_item f xs k c there

dropped_item : {A : Type 0} (n m : ℕ) (xs : List A) (k : ℕ) (a : A) → n + k ≡ m → slice_get xs m ≡ Some a → slice_get (drop n xs) k ≡ Some a
dropped_item zero m xs k a e there = ap (slice_get xs) (omega (arith, e)) ∙ there
dropped_item (suc n) m [] k a e there = absurd (none_some there)
dropped_item (suc n) zero (x ∷ xs) k a e there = absurd (omega (arith, e))
dropped_item (suc n) (suc m) (x ∷ xs) k a e there = dropped_item n m xs k a (omega (arith, e)) there

none_zip : {A C : Type 0} (R : A → C → Type 0) (xs : List A) (ys : List C) → AllZip R xs ys → xs ≡ [] → ys ≡ []
none_zip R [] [] all e = refl
none_zip R [] (y ∷ ys) all e = absurd all
none_zip R (x ∷ xs) ys all e = absurd (no_item e)
  where
    no_item : {A : Type 0} {x : A} {xs : List A} → x ∷ xs ≡ [] → ⊥
    no_item p = cc

one_fewer : (k n : ℕ) → nat_lt (suc k) (suc n) ≡ nat_lt k n
one_fewer k n = elim (cases_lt k n) [
  | inl less ↦ lt-ltb (suc k) (suc n) (omega (arith, less)) ∙ sym (lt-ltb k n less)
  | inr past ↦ le-ltb (suc k) (suc n) (omega (arith, past)) ∙ sym (le-ltb k n past)
]

-- the items that pass are those from a place on
filter_drop : {A : Type 0} (test : A → Bool) (n : ℕ) (xs : List A) → ((k : ℕ) (a : A) → slice_get xs k ≡ Some a → test a ≡ not (nat_lt k n)) → filter test xs ≡ drop n xs
filter_drop test zero [] h = refl
filter_drop test (suc n) [] h = refl
filter_drop test zero (x ∷ xs) h =
    ap (λ b. cond b (x ∷ filter test xs) (filter test xs)) (h 0 x refl ∙ ap not (le-ltb 0 0 (omega arith)))
    ∙ ap (λ ys. x ∷ ys) (filter_drop test 0 xs (λ k a there. h (suc k) a there ∙ ap not (le-ltb (suc k) 0 (omega arith) ∙ sym (le-ltb k 0 (omega arith)))))
filter_drop test (suc n) (x ∷ xs) h =
    ap (λ b. cond b (x ∷ filter test xs) (filter test xs)) (h 0 x refl ∙ ap not (lt-ltb 0 (suc n) (omega arith)))
    ∙ filter_drop test n xs (λ k a there. h (suc k) a there ∙ ap not (one_fewer k n))

module _ (code : Code) (block : ℕ) (all : List Row) (seats : Seats) (u : ℕ) (x : Row) (done : ℕ) (unit : Node Branch) (is : IsUnit code block all seats u x done unit) (settled : IsSettledUnit block unit) (opened : is_open block x done ≡ true) where
  waits_now : Awaits code all seats u x unit (length unit.inputs) unit.last_stop
  waits_now =
      let w = is.awaits opened in
      subst (λ n. Awaits code all seats u x unit n unit.last_stop) (omega (arith, settled.0))
      (subst (λ stop. Awaits code all seats u x unit (length unit.inputs + unit.pending) stop) (w.1 settled.0) w.2)

  -- those that wait follow the last stop, and nothing is due there yet
  waits_on : (k : ℕ) (i : Input) → slice_get (drop (length unit.inputs) x.inputs) k ≡ Some i → (done + 1) * block ≤ i.offset
  waits_on k i there = by_waiting waits_now
    where
      by_waiting : Awaits code all seats u x unit (length unit.inputs) unit.last_stop → (done + 1) * block ≤ i.offset
      by_waiting w = by_settled settled.1
        where
          gives : List Part → List Input
          gives ps = After.gives (coming code w.env unit.last_stop ps w.rows)

          source : (j : Input) × (slice_get (gives w.parts) k ≡ Some j) × (counted_from x.timing.start j ≡ i)
          source = mapped_item (counted_from x.timing.start) (gives w.parts) k i (ap (λ is. slice_get is k) (sym w.inputs) ∙ there)

          by_settled : (unit.waiting ≡ []) ⊎ (unit.timing.start + (unit.filled + 1) * block ≤ index_at unit.last_stop unit.timing.rate) → (done + 1) * block ≤ i.offset
          by_settled (inl none) = absurd (none_some (sym (ap (λ ps. slice_get (gives ps) k) (none_zip (IsPart seats.row w.env) unit.waiting w.parts w.are none)) ∙ source.1))
          by_settled (inr later) =
              omega (
                arith,
                later,
                later_offsets w.env (map (λ (q : Part). part_of code (made code) q.1 q.0) w.parts) unit.last_stop w.rows k source.0 source.1,
                ap (λ (j : Input). j.offset) source.2,
                ap (λ r. index_at unit.last_stop r) (ap (λ (t : Timing). t.rate) is.timing ∙ sym w.rate),
                ap (λ (t : Timing). t.start) is.timing,
                ap (λ n. (n + 1) * block) is.filled,
              )

  -- exactly the inputs that it was given have come
  pub settled_come : (k : ℕ) (i : Input) → slice_get x.inputs k ≡ Some i → has_come block done i ≡ nat_lt k (length unit.inputs)
  settled_come k i there = elim (cases_lt k (length unit.inputs)) [
    | inl given_now ↦ is.come k i there given_now ∙ sym (lt-ltb k (length unit.inputs) given_now)
    | inr later ↦ le-ltb i.offset ((done + 1) * block) (waits_on (k - length unit.inputs) i (dropped_item (length unit.inputs) k x.inputs (k - length unit.inputs) i (omega (arith, later)) there)) ∙ sym (le-ltb k (length unit.inputs) later)
  ]

  -- ---- what waits

  pub settled_waits : AllZip (KeepsPart seats.row) unit.waiting (waiting_inputs block x done)
  settled_waits =
      subst (λ is. AllZip (KeepsPart seats.row) unit.waiting is) (sym (filter_drop (λ (i : Input). not (has_come block done i)) (length unit.inputs) x.inputs (λ k i there. ap not (settled_come k i there)))) waits_now.keep

-- ---- the whole heap

-- a heap that is matched and settled stands for the plan
pub matches : (code : Code) (all : List Row) (f : Filled) (h : HeapState Branch) (seats : Seats) → IsSettled h → Matched code all f h seats → Roots all f h seats → Matches {B = Branch} h.block all f h seats.row
matches code all f h seats settled m roots = record {
  size = refl;
  within = m.within;
  apart = m.apart;
  units = units;
  roots = λ c root. by_mark c (roots.there c root);
}
  where
    some_within : (os : List (Option Reader)) (k : ℕ) (r : Reader) → get_or os k None ≡ Some r → k < length os
    some_within os k r at = elim (cases_lt k (length os)) [
      | inl within ↦ within
      | inr past ↦ absurd (none_some (sym (get_or_past os k None past) ∙ at))
    ]

    units : (u : ℕ) (unit : Node Branch) → node_at h u ≡ Some unit → UnitMatches {B = Branch} h.block seats.row (row_at all (seats.row u)) (slice_index f (seats.row u)) unit
    units u unit there =
        let x = row_at all (seats.row u) in
        let done = slice_index f (seats.row u) in
        let is = m.units u unit there in
        record {
          kind = is.kind;
          timing = is.timing;
          filled = is.filled;
          readers = λ k r at. let i = is.readers k r at in (i.0, i.1, is.come k i.0 i.1 (some_within unit.inputs k r at), i.2);
          inputs = λ opened k y i at come more names.
              is.inputs opened k y i at (ltb-true k (length unit.inputs) (sym (settled_come code h.block all seats u x done unit is (settled u unit there) opened k i at) ∙ come)) more names;
          waiting = λ opened. settled_waits code h.block all seats u x done unit is (settled u unit there) opened;
          outside_root = λ j some. roots.outside u j (omega (arith, some, marks_there h u unit j there));
        }

    by_mark : (c : ℕ) → (v : ℕ) × (0 < marks_at h v (slice_index f c)) × (seats.row v ≡ c) → (u : ℕ) × (x : Node Branch) × (node_at h u ≡ Some x) × (seats.row u ≡ c)
    by_mark c v = by_node (node_at h v.0) refl
      where
        by_node : (o : Option (Node Branch)) → node_at h v.0 ≡ o → (u : ℕ) × (x : Node Branch) × (node_at h u ≡ Some x) × (seats.row u ≡ c)
        by_node None e = absurd (omega (arith, v.1, ap (λ o. option_map_or (λ (x : Node Branch). slice_index x.outside (slice_index f c)) o 0) e))
        by_node (Some x) e = (v.0, x, e, v.2)

-- as many of its blocks are taken as are live
pub matched_live : (code : Code) (all : List Row) (f : Filled) (h : HeapState Branch) (seats : Seats) → HeapLaws h → IsSettled h → Matched code all f h seats → Roots all f h seats → AllRows all → live_of h ≡ live h.block all f
matched_live code all f h seats laws settled m roots ordered = live_is Branch h.block all f h seats.row (matches code all f h seats settled m roots) laws (reads-earlier h.block all f ordered)

-- and as many of its units of some kinds as are live of the rows of these kinds
pub matched_by_kind : (counts : UnitKind → Bool) (code : Code) (all : List Row) (f : Filled) (h : HeapState Branch) (seats : Seats) → HeapLaws h → IsSettled h → Matched code all f h seats → Roots all f h seats → AllRows all → kept_of_kinds counts h 0 h.nodes ≡ live_of_kinds counts h.block all f
matched_by_kind counts code all f h seats laws settled m roots ordered = kept_are_live Branch counts h.block all f h seats.row (matches code all f h seats settled m roots) laws (reads-earlier h.block all f ordered)

-- a unit is open where its row is
pub opened_as : (code : Code) (block : ℕ) (all : List Row) (seats : Seats) (u : ℕ) (x : Row) (done : ℕ) (unit : Node Branch) → IsUnit code block all seats u x done unit → heap_open block unit ≡ is_open block x done
opened_as code block all seats u x done unit is = ap (λ n. nat_lt n (blocks_of block unit.timing.len)) is.filled ∙ ap (λ (t : Timing). nat_lt done (blocks_of block t.len)) is.timing

-- exactly the inputs that an open unit was given have come
pub matched_come : (code : Code) (all : List Row) (f : Filled) (h : HeapState Branch) (seats : Seats) → IsSettled h → Matched code all f h seats → (u k : ℕ) (unit : Node Branch) (i : Input) → node_at h u ≡ Some unit → heap_open h.block unit ≡ true → slice_get (row_at all (seats.row u)).inputs k ≡ Some i → has_come h.block (slice_index f (seats.row u)) i ≡ nat_lt k (length unit.inputs)
matched_come code all f h seats settled m u k unit i there opened at =
    let is = m.units u unit there in
    settled_come code h.block all seats u (row_at all (seats.row u)) (slice_index f (seats.row u)) unit is (settled u unit there) (sym (opened_as code h.block all seats u (row_at all (seats.row u)) (slice_index f (seats.row u)) unit is) ∙ opened) k i at
