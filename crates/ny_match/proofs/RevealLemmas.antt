-- A part that falls due is the next input of its row, and what it makes are the rows that waited for it.
use Rattle.std.proofs.Common.{◌≡◌, ◌≢◌, ◌⊎◌, inl, inr, ℕ, zero, suc, ◌+◌, ◌-◌, ◌*◌, ◌<◌, ◌≤◌, Bool, true, false, List, [], ◌∷◌, ◌++◌, length, map, drop, Option, None, Some, slice_get, refl, sym, ap, subst, ◌∙◌, arith}
use Rattle.std.specs.Prelude.{slice_index}
use Rattle.std.specs.Option.{option_map}
use Rattle.std.specs.List.{AllZip, AllByRecursion}
use Rattle.std.proofs.lemmas.Bool.{cases_lt, cases_eq, lt-ltb, ltb-true}
use Rattle.std.proofs.lemmas.List.{get_or_append_left, get_or_past}
use Rattle.std.proofs.lemmas.Nat.{mul-le}
use Rattle.std.proofs.lemmas.Option.{slice_get_within}
use Rattle.std.proofs.Math.Seq.{get_or-append_seam}
use Rattle.std.proofs.Math.ListN.{length-append}
use Rattle.ny_list.proofs.IndexLemmas.{same_some, none_some}
use Rattle.ny_num.specs.Grid.{index_at}
use Rattle.ny_num.specs.declared.timing.Timing.{Timing}
use Rattle.ny_warp.specs.declared.env.Env.{Env}
use Rattle.ny_check.specs.declared.node.ExprId.{ExprId}
use Rattle.ny_check.specs.Code.{Code}
use Rattle.ny_heap.specs.declared.sound.Sound.{Sound}
use Rattle.ny_heap.specs.Heap.{Reader, Waiting, Node, HeapState, node_at, input_at, list_of, place_of, is_open as heap_open}
use Rattle.ny_heap.specs.Reach.{HeapLaws}
use Rattle.ny_heap.specs.Steps.{reader_of, waiting_of}
use Rattle.ny_heap.specs.Revealing.{with_promise}
use Rattle.ny_hands.specs.declared.branch.Branch.{Branch}
use Rattle.ny_hands.specs.Counts.{SameCounts}
use Rattle.ny_hands.specs.Hands.{IsLike}
use Rattle.ny_hands.proofs.OptionLemmas.{same_at}
use Rattle.ny_hands.proofs.MarkLemmas.{AreLike, spent_like}
use Rattle.ny_plan.specs.Rows.{RowSound, Input, Row, After, row_at}
use Rattle.ny_plan.specs.Units.{Part as MixPart, coming as comes_at, next_part, parts_after, counted_from}
use Rattle.ny_plan.specs.Need.{Filled, need, is_open, has_come}
use Rattle.ny_plan.specs.Plan as plans
use Rattle.ny_plan.specs.Plan.{part_of, made}
use Rattle.ny_plan.specs.StandsFor.{ReadsFor, Keeps}
use Rattle.ny_trace.specs.Evaluates.{Trace}
use Rattle.ny_trace.specs.Laws.{IsLawful}
use Rattle.ny_trace.specs.Reveals.{frame, AttachesPart, PartTurn, RevealTurn, revealed_node}
use Rattle.ny_trace.proofs.LeftLemmas.{sounds_like}
use Rattle.ny_trace.proofs.RevealHandLemmas.{frame_named, promised, promised_here, promised_else, promised_to, kept_begin, part_left, unit_left, new_else, unit_is, revealed}
use Rattle.ny_match.specs.Matched.{IsFirst, Seats, IsSound, AreKeptNames, Part, IsPart, coming, Awaits, IsUnit, IsFree, Matched}
use Rattle.ny_match.specs.Born.{IsMatching}
use Rattle.ny_match.proofs.GrowLemmas.{first_then, made_grows, grows_next, grows_after, PartGrows}
use Rattle.ny_match.proofs.SeatLemmas.{UsesSame, uses_same, awaits_later, unit_later, unit_like, matched_from, put, put_at, put_else}
use Rattle.ny_match.proofs.BornLemmas.{Grew}
use Rattle.ny_match.proofs.UnitLemmas.{Turns, grew_released}
use Rattle.ny_match.proofs.NextLemmas.{frame_names, next_turn}
use Rattle.ny_match.proofs.FillLemmas.{awaits_as, unit_as}
use Rattle.ny_match.proofs.LiveLemmas.{opened_as}

-- ---- lists

drop_here : {A : Type 0} (n : ℕ) (xs : List A) (a : A) (bs : List A) → drop n xs ≡ a ∷ bs → slice_get xs n ≡ Some a
drop_here zero [] a bs e = cc
drop_here zero (x ∷ xs) a bs e = cc
drop_here (suc n) [] a bs e = cc
drop_here (suc n) (x ∷ xs) a bs e = drop_here n xs a bs e

drop_more : {A : Type 0} (n : ℕ) (xs : List A) (a : A) (bs : List A) → drop n xs ≡ a ∷ bs → drop (suc n) xs ≡ bs
drop_more zero [] a bs e = cc
drop_more zero (x ∷ xs) a bs e = cc
drop_more (suc n) [] a bs e = cc
drop_more (suc n) (x ∷ xs) a bs e = drop_more n xs a bs e

parts_grow : (code : Code) (qs : List Part) → AllByRecursion PartGrows (map (λ (q : Part). part_of code (made code) q.1 q.0) qs)
parts_grow code [] = tt
parts_grow code (q ∷ qs) = ((λ from. made_grows code q.0.0 from q.1), parts_grow code qs)

like_back : (x y : Node Branch) → IsLike x y → IsLike y x
like_back x y e = ap (λ (n : Node Branch). let m : Node Branch = record n { outside = x.outside } in m) (sym e)

-- ---- the first part that waits, and those behind it

record Coming (code : Code) (all : List Row) (row : ℕ → ℕ) (first last : ℕ) (x : Row) (p : Waiting Branch) (rest : List (Waiting Branch)) (at stop : ℕ) (env : Env) (e : ExprId) (ns : plans.Names) (qs : List Part) (rows : List Row) : Type 0 where
  from : length rows ≡ first
  after : IsFirst (After.rows (coming code env stop ((e, ns) ∷ qs) rows)) all
  upto : length (After.rows (coming code env stop ((e, ns) ∷ qs) rows)) ≡ last
  inputs : drop at x.inputs ≡ map (counted_from x.timing.start) (After.gives (coming code env stop ((e, ns) ∷ qs) rows))
  rate : env.sound_rate ≡ x.timing.rate
  names : AreKeptNames row p.captured p.branch.names ns
  are : AllZip (IsPart row env) rest qs
  keep : AllZip (λ p (i : Input). AllZip (Keeps row) (Waiting.captured p) i.captured) (p ∷ rest) (drop at x.inputs)

first_coming : (code : Code) (all : List Row) (seats : Seats) (u : ℕ) (x : Row) (unit : Node Branch) (p : Waiting Branch) (rest : List (Waiting Branch)) (at stop : ℕ) → unit.waiting ≡ p ∷ rest → Awaits code all seats u x unit at stop
    → (ns : plans.Names) × (qs : List Part) × (rows : List Row) × Coming code all seats.row (seats.from u) (seats.upto u) x p rest at stop p.branch.env p.branch.expr ns qs rows
first_coming code all seats u x unit p rest at stop waits w = by_parts w.parts (subst (λ ws. AllZip (IsPart seats.row w.env) ws w.parts) waits w.are) w.after w.upto w.inputs
  where
    keep : AllZip (λ p (i : Input). AllZip (Keeps seats.row) (Waiting.captured p) i.captured) (p ∷ rest) (drop at x.inputs)
    keep = subst (λ ws. AllZip (λ p (i : Input). AllZip (Keeps seats.row) (Waiting.captured p) i.captured) ws (drop at x.inputs)) waits w.keep

    by_parts : (parts : List Part) → AllZip (IsPart seats.row w.env) (p ∷ rest) parts → IsFirst (After.rows (coming code w.env stop parts w.rows)) all → length (After.rows (coming code w.env stop parts w.rows)) ≡ seats.upto u
        → drop at x.inputs ≡ map (counted_from x.timing.start) (After.gives (coming code w.env stop parts w.rows))
        → (ns : plans.Names) × (qs : List Part) × (rows : List Row) × Coming code all seats.row (seats.from u) (seats.upto u) x p rest at stop p.branch.env p.branch.expr ns qs rows
    by_parts [] are after upto inputs = absurd are
    by_parts (q ∷ qs) are after upto inputs = (
      q.1,
      qs,
      w.rows,
      subst (λ (e : ExprId). Coming code all seats.row (seats.from u) (seats.upto u) x p rest at stop p.branch.env e q.1 qs w.rows) (sym are.0.expr)
          (subst (λ (env : Env). Coming code all seats.row (seats.from u) (seats.upto u) x p rest at stop env q.0 q.1 qs w.rows) (sym are.0.there)
          (record { from = w.from; after = after; upto = upto; inputs = inputs; rate = w.rate; names = are.0.names; are = are.1; keep = keep })),
    )

-- ---- the turn

module _ (code : Code) (D : Trace) (law : IsLawful code D) (match : IsMatching code D) (all : List Row) (f : Filled) (old mid : HeapState Branch) (u : ℕ) (s : Sound) (turn : PartTurn D old mid u s) (laws : HeapLaws old) (inside : turn.branch.expr.0 < length code.nodes)
    (seats : Seats) (m : Matched code all f old seats) (ns : plans.Names) (qs : List Part) (rows : List Row)
    (c : Coming code all seats.row (seats.from u) (seats.upto u) (row_at all (seats.row u)) (waiting_of (turn.branch, turn.captured)) turn.takes.hands.rest (length turn.takes.hands.unit.inputs) turn.takes.hands.unit.last_stop turn.branch.env turn.branch.expr ns qs rows) where
  abbrev unit : Node Branch
  unit = turn.takes.hands.unit

  abbrev x : Row
  x = row_at all (seats.row u)

  abbrev done : ℕ
  done = slice_index f (seats.row u)

  abbrev env : Env
  env = turn.branch.env

  abbrev part : MixPart
  part = part_of code (made code) ns turn.branch.expr

  -- what the plan makes of the part, and then of those behind it
  abbrev next : After RowSound
  next = next_part turn.branch.env turn.takes.hands.unit.last_stop (part_of code (made code) ns turn.branch.expr) rows

  abbrev others : After (List Input)
  others = parts_after turn.branch.env next.gives.timing.stop (map (λ (q : Part). part_of code (made code) q.1 q.0) qs) next.rows

  grows_first : IsFirst rows next.rows
  grows_first = grows_next turn.branch.env turn.takes.hands.unit.last_stop (part_of code (made code) ns turn.branch.expr) (λ from. made_grows code turn.branch.expr.0 from ns) rows

  grows_others : IsFirst next.rows others.rows
  grows_others = grows_after turn.branch.env next.gives.timing.stop (map (λ (q : Part). part_of code (made code) q.1 q.0) qs) (parts_grow code qs) next.rows

  first_next : IsFirst next.rows all
  first_next = first_then next.rows others.rows all grows_others c.after

  -- the input that the part is
  abbrev input : Input
  input = counted_from x.timing.start (comes_at (index_at turn.takes.hands.unit.last_stop turn.branch.env.sound_rate) part next.gives)

  input_here : slice_get x.inputs (length unit.inputs) ≡ Some input
  input_here = drop_here (length unit.inputs) x.inputs input (map (counted_from x.timing.start) others.gives) c.inputs

  inputs_more : drop (suc (length unit.inputs)) x.inputs ≡ map (counted_from x.timing.start) others.gives
  inputs_more = drop_more (length unit.inputs) x.inputs input (map (counted_from x.timing.start) others.gives) c.inputs

  was : node_at old u ≡ Some unit
  was = turn.takes.hands.was

  is : IsUnit code old.block all seats u x done unit
  is = m.units u unit was

  -- ---- once it is handed out

  -- the rows of the part are still to come, and are no longer those of what waits
  abbrev promised_seats : Seats
  promised_seats = record seats { from = put seats.from u (length next.rows) }

  from_more : (v : ℕ) → seats.from v ≤ promised_seats.from v
  from_more v = elim (cases_eq v u) [
    | inl same ↦ omega (arith, put_at seats.from u (length next.rows) v same, ap seats.from same, c.from, grows_first.short)
    | inr other ↦ omega (arith, put_else seats.from u (length next.rows) v other)
  ]

  promised_from : promised_seats.from u ≡ length next.rows
  promised_from = put_at seats.from u (length next.rows) u refl

  next_within : length next.rows ≤ seats.upto u
  next_within = omega (arith, grows_others.short, c.upto)

  rest_is : drop 1 unit.waiting ≡ turn.takes.hands.rest
  rest_is = ap (drop 1) turn.takes.hands.waits

  at_next : length unit.inputs + (unit.pending + 1) ≡ suc (length unit.inputs)
  at_next = omega (arith, turn.settled)

  promised_awaits : Awaits code all promised_seats u x (with_promise unit) (length unit.inputs + (unit.pending + 1)) next.gives.timing.stop
  promised_awaits = record {
    env = turn.branch.env;
    parts = qs;
    rows = next.rows;
    before = first_next;
    from = sym promised_from;
    after = c.after;
    upto = c.upto;
    inputs = ap (λ n. drop n x.inputs) at_next ∙ inputs_more;
    rate = c.rate;
    are = subst (λ ws. AllZip (IsPart seats.row turn.branch.env) ws qs) (sym rest_is) c.are;
    keep = subst (λ ws. AllZip (λ p (i : Input). AllZip (Keeps seats.row) (Waiting.captured p) i.captured) ws (drop (length unit.inputs + (unit.pending + 1)) x.inputs)) (sym rest_is)
        (subst (λ is. AllZip (λ p (i : Input). AllZip (Keeps seats.row) (Waiting.captured p) i.captured) turn.takes.hands.rest is) (sym (ap (λ n. drop n x.inputs) at_next ∙ inputs_more)) kept_rest);
  }
    where
      kept_rest : AllZip (λ p (i : Input). AllZip (Keeps seats.row) (Waiting.captured p) i.captured) turn.takes.hands.rest (map (counted_from x.timing.start) others.gives)
      kept_rest = (subst (λ is. AllZip (λ p (i : Input). AllZip (Keeps seats.row) (Waiting.captured p) i.captured) (waiting_of (turn.branch, turn.captured) ∷ turn.takes.hands.rest) is) c.inputs c.keep).1

  promised_unit : IsUnit code old.block all promised_seats u x done (with_promise unit)
  promised_unit = record {
    kind = is.kind;
    timing = is.timing;
    filled = is.filled;
    few = omega (arith, turn.settled, slice_get_within x.inputs (length unit.inputs) input input_here);
    come = is.come;
    readers = is.readers;
    inputs = is.inputs;
    awaits = λ opened. (next.gives.timing.stop, (λ none. absurd (omega (arith, none))), promised_awaits);
  }

  abbrev WasPromised : ℕ → Node Branch → Type 0
  WasPromised v y = (z : Node Branch) × (node_at old v ≡ Some z) × (((v ≡ u) × (y ≡ with_promise unit)) ⊎ ((v ≢ u) × (y ≡ z)))

  was_promised : (v : ℕ) (y : Node Branch) → node_at (promised old u) v ≡ Some y → WasPromised v y
  was_promised v y at = elim (cases_eq v u) [
    | inl same ↦ (unit, ap (node_at old) same ∙ was, inl (same, same_at (node_at (promised old u) u) y (with_promise unit) (ap (node_at (promised old u)) (sym same) ∙ at) (promised_here old u unit was laws)))
    | inr other ↦ (y, sym (promised_else old u unit was laws v other) ∙ at, inr (other, refl))
  ]

  promised_units : (v : ℕ) (y : Node Branch) → node_at (promised old u) v ≡ Some y → IsUnit code old.block all promised_seats v (row_at all (seats.row v)) (slice_index f (seats.row v)) y
  promised_units v y at = by_unit (was_promised v y at)
    where
      by_unit : WasPromised v y → IsUnit code old.block all promised_seats v (row_at all (seats.row v)) (slice_index f (seats.row v)) y
      by_unit (z, there, inl same) = unit_as code old.block old.block all promised_seats u v done (slice_index f (seats.row v)) (with_promise unit) y refl (sym same.0) (ap (λ w. slice_index f (seats.row w)) (sym same.0)) (sym same.1) promised_unit
      by_unit (z, there, inr other) =
          subst (λ q. IsUnit code old.block all promised_seats v (row_at all (seats.row v)) (slice_index f (seats.row v)) q) (sym other.1)
          (unit_later code all old.block seats promised_seats v (row_at all (seats.row v)) (slice_index f (seats.row v)) z ((λ k r at. refl), (λ i p at j d n one of. refl)) (put_else seats.from u (length next.rows) v other.0) refl (m.units v z there))

  promised_matched : Matched code all f (promised old u) promised_seats
  promised_matched = record {
    within = λ v y at. let z = was_promised v y at in m.within v z.0 z.1;
    apart = λ v w y z at there same. let p = was_promised v y at in let q = was_promised w z there in m.apart v w p.0 q.0 p.1 q.1 same;
    units = promised_units;
    ordered = λ v y at. let z = was_promised v y at in elim (cases_eq v u) [
      | inl same ↦ omega (arith, put_at seats.from u (length next.rows) v same, next_within, ap seats.upto same)
      | inr other ↦ omega (arith, put_else seats.from u (length next.rows) v other, m.ordered v z.0 z.1)
    ];
    unborn = λ v w y z at there. let p = was_promised v y at in let q = was_promised w z there in elim (m.unborn v w p.0 q.0 p.1 q.1) [
      | inl low ↦ inl (omega (arith, low, from_more v))
      | inr high ↦ inr high
    ];
    disjoint = λ v w y z at there other. let p = was_promised v y at in let q = was_promised w z there in elim (m.disjoint v w p.0 q.0 p.1 q.1 other) [
      | inl low ↦ inl (omega (arith, low, from_more w))
      | inr high ↦ inr (omega (arith, high, from_more v))
    ];
    unfilled = λ v y at. let z = was_promised v y at in λ k from upto. m.unfilled v z.0 z.1 k (omega (arith, from, from_more v)) upto;
  }

  one_like : AreLike (promised old u) turn.one
  one_like = subst (λ (h : HeapState Branch). AreLike (promised old u) h) (sym turn.takes.hands.heap) (sounds_like (promised old u) turn.captured)

  one_matched : Matched code all f turn.one promised_seats
  one_matched = matched_from code all f (promised old u) turn.one promised_seats (λ v y at. let z = one_like.from v y at in (z.0, z.1, z.2)) one_like.counts.block promised_matched

  one_was : (v : ℕ) (y : Node Branch) → node_at turn.one v ≡ Some y → (z : Node Branch) × (node_at old v ≡ Some z)
  one_was v y at = let p = one_like.from v y at in let z = was_promised v p.0 p.1 in (z.0, z.1)

  one_there : (v : ℕ) (z : Node Branch) → node_at old v ≡ Some z → (y : Node Branch) × (node_at turn.one v ≡ Some y)
  one_there v z at = let p = promised_to old u unit was laws v z at in let y = one_like.to v p.0 p.1 in (y.0, y.1)

  -- the rows of the part are nobody's by now
  one_free : IsFree f turn.one promised_seats (length rows) (length next.rows)
  one_free = record {
    units = λ v y at. let z = one_was v y at in elim (m.unborn u v unit z.0 was z.1) [
      | inl low ↦ inl (omega (arith, low, c.from))
      | inr high ↦ inr (omega (arith, high, next_within))
    ];
    parts = λ v y at. let z = one_was v y at in elim (cases_eq v u) [
      | inl same ↦ inr (omega (arith, put_at seats.from u (length next.rows) v same))
      | inr other ↦ elim (m.disjoint u v unit z.0 was z.1 (λ same. other (sym same))) [
        | inl above ↦ inr (omega (arith, above, next_within, from_more v))
        | inr under ↦ inl (omega (arith, under, c.from))
      ]
    ];
    unfilled = λ k from upto. m.unfilled u unit was k (omega (arith, from, c.from)) (omega (arith, upto, next_within));
  }

  -- ---- once it is evaluated

  turned : Turns code all f turn.one turn.two promised_seats (λ row. IsSound row s) rows next
  turned =
      next_turn code D law match all f turn.branch.env turn.takes.hands.unit.last_stop turn.branch.expr (frame turn.branch.env.sound_rate turn.captured turn.branch.names) ns turn.one turn.two s promised_seats rows inside turn.takes.laws
      (frame_named turn.one turn.branch.env.sound_rate turn.captured turn.branch.names (kept_begin code D law old mid u s turn laws inside)) (frame_names seats.row turn.branch.env.sound_rate turn.captured turn.branch.names ns c.names) turn.evaluates
      (record { matched = one_matched; first = first_next; free = one_free })

  module _ (later : Seats) (grew : Grew code all f turn.one turn.two promised_seats later (length rows) (length next.rows)) (sound : IsSound later.row s next.gives) where
    released : Grew code all f turn.one mid promised_seats later (length rows) (length next.rows)
    released = grew_released code all f turn.one turn.two mid promised_seats later (length rows) (length next.rows) turn.captured turn.given_up grew

    row_kept : (v : ℕ) (z : Node Branch) → node_at old v ≡ Some z → later.row v ≡ seats.row v
    row_kept v z at = let y = one_there v z at in released.row v y.0 y.1

    unit_mid : (y : Node Branch) × (node_at mid u ≡ Some y) × IsLike (with_promise unit) y
    unit_mid = unit_left code D law old mid u s turn laws inside

    waits_still : IsUnit code mid.block all later u x done (with_promise unit)
    waits_still =
        subst (λ r. IsUnit code mid.block all later u (row_at all r) (slice_index f r) (with_promise unit)) (row_kept u unit was)
        (unit_like code all mid.block later u (row_at all (later.row u)) (slice_index f (later.row u)) unit_mid.0 (with_promise unit) (like_back (with_promise unit) unit_mid.0 unit_mid.2) (released.matched.units u unit_mid.0 unit_mid.1))

    same_uses : UsesSame promised_seats.row later.row (with_promise unit)
    same_uses =
        let p = promised_to old u unit was laws u unit was in
        let y = one_like.to u (with_promise unit) (promised_here old u unit was laws) in
        subst (λ (z : Node Branch). UsesSame promised_seats.row later.row z) (y.2) (uses_same turn.one promised_seats.row later.row u y.0 turn.takes.laws released.row y.1)

    awaits_still : Awaits code all later u x (with_promise unit) (length unit.inputs + (unit.pending + 1)) next.gives.timing.stop
    awaits_still =
        let y = one_there u unit was in
        let same = released.parts u y.0 y.1 in
        awaits_later code all promised_seats later u x (with_promise unit) (length unit.inputs + (unit.pending + 1)) next.gives.timing.stop same_uses same.0 same.1 promised_awaits

    -- ---- once it is attached

    abbrev more : Node Branch
    more = revealed_node s unit

    one_longer : length (unit.inputs ++ reader_of s ∷ []) ≡ length unit.inputs + 1
    one_longer = length-append unit.inputs (reader_of s ∷ [])

    last_input : input_at more (length unit.inputs) ≡ reader_of s
    last_input = get_or-append_seam unit.inputs (reader_of s) [] None

    input_come : (i : Input) → slice_get x.inputs (length unit.inputs) ≡ Some i → has_come mid.block done i ≡ true
    input_come i at = subst (λ b. has_come b done i ≡ true) (sym mid_block) (lt-ltb i.offset ((done + 1) * old.block) (omega (arith, place, in_time, some, start, blocks)))
      where
        mid_block : mid.block ≡ old.block
        mid_block = (part_left code D law old mid u s turn laws inside).counts.block

        place : i.offset ≡ index_at unit.last_stop unit.timing.rate - x.timing.start
        place = sym (ap (λ (j : Input). j.offset) (same_some (sym input_here ∙ at))) ∙ ap (λ r. index_at unit.last_stop r - x.timing.start) turn.rate

        in_time : index_at unit.last_stop unit.timing.rate < unit.timing.start + (unit.filled + 1) * old.block
        in_time = ltb-true (index_at unit.last_stop unit.timing.rate) (unit.timing.start + (unit.filled + 1) * old.block) turn.due

        some : 0 < (unit.filled + 1) * old.block
        some = omega (arith, laws.positive, mul-le 1 old.block (unit.filled + 1) old.block (omega arith) (omega arith))

        start : unit.timing.start ≡ x.timing.start
        start = ap (λ (t : Timing). t.start) is.timing

        blocks : (unit.filled + 1) * old.block ≡ (done + 1) * old.block
        blocks = ap (λ n. (n + 1) * old.block) is.filled

    more_come : (k : ℕ) (i : Input) → slice_get x.inputs k ≡ Some i → k < length more.inputs → has_come mid.block done i ≡ true
    more_come k i at given = elim (cases_lt k (length unit.inputs)) [
      | inl before ↦ waits_still.come k i at before
      | inr past ↦ input_come i (ap (slice_get x.inputs) (omega (arith, past, given, one_longer)) ∙ at)
    ]

    reads_part : (o : Option ℕ) → list_of s ≡ o → (r : Reader) → option_map (λ n. let q : Reader = record { node = n; place = place_of s; timing = s.timing } in q) o ≡ Some r → ReadsFor later.row input r
    reads_part None e r at = absurd (none_some at)
    reads_part (Some n) e r at =
        let same = same_some at in
        record {
          names = sound.names ∙ ap (option_map later.row) e ∙ ap (λ (q : Reader). Some (later.row q.node)) same;
          timing = sym (ap (λ (q : Reader). q.timing) same) ∙ sound.timing;
        }

    more_readers : (k : ℕ) (r : Reader) → input_at more k ≡ Some r → (i : Input) × (slice_get x.inputs k ≡ Some i) × ReadsFor later.row i r
    more_readers k r at = elim (cases_lt k (length unit.inputs)) [
      | inl before ↦ waits_still.readers k r (sym (get_or_append_left unit.inputs (reader_of s ∷ []) None k before) ∙ at)
      | inr past ↦ elim (cases_eq k (length unit.inputs)) [
        | inl same ↦ (input, ap (slice_get x.inputs) same ∙ input_here, reads_part (list_of s) refl r (sym last_input ∙ ap (input_at more) (sym same) ∙ at))
        | inr other ↦ absurd (none_some (sym (get_or_past (unit.inputs ++ reader_of s ∷ []) k None (omega (arith, past, other, one_longer))) ∙ at))
      ]
    ]

    part_read : (o : Option ℕ) → list_of s ≡ o → (y : ℕ) → next.gives.row ≡ Some y → (r : Reader) × (option_map (λ n. let q : Reader = record { node = n; place = place_of s; timing = s.timing } in q) o ≡ Some r) × ReadsFor later.row input r
    part_read None e y named = absurd (none_some (sym (sound.names ∙ ap (option_map later.row) e) ∙ named))
    part_read (Some n) e y named = (record { node = n; place = place_of s; timing = s.timing }, refl, reads_part (Some n) e (record { node = n; place = place_of s; timing = s.timing }) refl)

    more_inputs : is_open mid.block x done ≡ true → (k y : ℕ) (i : Input) → slice_get x.inputs k ≡ Some i → k < length more.inputs → need mid.block x i done < i.sound.timing.len → i.sound.row ≡ Some y → (r : Reader) × (input_at more k ≡ Some r) × ReadsFor later.row i r
    more_inputs opened k y i at given less named = elim (cases_lt k (length unit.inputs)) [
      | inl before ↦
          let r = waits_still.inputs opened k y i at before less named in
          (r.0, get_or_append_left unit.inputs (reader_of s ∷ []) None k before ∙ r.1, r.2)
      | inr past ↦ by_last (omega (arith, past, given, one_longer))
    ]
      where
        by_last : k ≡ length unit.inputs → (r : Reader) × (input_at more k ≡ Some r) × ReadsFor later.row i r
        by_last same =
            let is_it : input ≡ i = same_some (sym input_here ∙ ap (slice_get x.inputs) (sym same) ∙ at) in
            let r = part_read (list_of s) refl y (ap (λ (j : Input). j.sound.row) is_it ∙ named) in
            (r.0, ap (input_at more) same ∙ last_input ∙ r.1, subst (λ j. ReadsFor later.row j r.0) is_it r.2)

    more_unit : IsUnit code mid.block all later u x done more
    more_unit = record {
      kind = waits_still.kind;
      timing = waits_still.timing;
      filled = waits_still.filled;
      few = omega (arith, waits_still.few, one_longer);
      come = more_come;
      readers = more_readers;
      inputs = more_inputs;
      awaits = λ opened. (
        s.timing.stop,
        (λ none. refl),
        awaits_as code all later u x (with_promise unit) more (length unit.inputs + (unit.pending + 1)) (length (unit.inputs ++ reader_of s ∷ []) + unit.pending) s.timing.stop refl (omega (arith, one_longer))
            (subst (λ n. Awaits code all later u x (with_promise unit) (length unit.inputs + (unit.pending + 1)) n) (sym (ap (λ (t : Timing). t.stop) sound.timing)) awaits_still),
      );
    }

    module _ (new : HeapState Branch) (attaches : AttachesPart mid new u s) where
      spent_block : new.block ≡ mid.block
      spent_block = ap (λ (h : HeapState Branch). h.block) attaches.heap ∙ (spent_like mid (s ∷ [])).counts.block

      abbrev WasMid : ℕ → Node Branch → Type 0
      WasMid v y = (z : Node Branch) × (node_at mid v ≡ Some z) × (((v ≡ u) × (y ≡ revealed_node s unit)) ⊎ ((v ≢ u) × IsLike z y))

      was_mid : (v : ℕ) (y : Node Branch) → node_at new v ≡ Some y → WasMid v y
      was_mid v y at = elim (cases_eq v u) [
        | inl same ↦ (unit_mid.0, ap (node_at mid) same ∙ unit_mid.1, inl (same, same_at (node_at new u) y (revealed_node s unit) (ap (node_at new) (sym same) ∙ at) (unit_is code D law old mid u s turn laws inside new attaches)))
        | inr other ↦
            let z = (spent_like mid (s ∷ [])).from v y (sym (new_else code D law old mid u s turn laws inside new attaches v other) ∙ at) in
            (z.0, z.1, inr (other, z.2))
      ]

      new_units : (v : ℕ) (y : Node Branch) → node_at new v ≡ Some y → IsUnit code new.block all later v (row_at all (later.row v)) (slice_index f (later.row v)) y
      new_units v y at = subst (λ b. IsUnit code b all later v (row_at all (later.row v)) (slice_index f (later.row v)) y) (sym spent_block) (by_unit (was_mid v y at))
        where
          at_u : IsUnit code mid.block all later u (row_at all (later.row u)) (slice_index f (later.row u)) (revealed_node s unit)
          at_u = subst (λ r. IsUnit code mid.block all later u (row_at all r) (slice_index f r) (revealed_node s unit)) (sym (row_kept u unit was)) more_unit

          by_unit : WasMid v y → IsUnit code mid.block all later v (row_at all (later.row v)) (slice_index f (later.row v)) y
          by_unit (z, there, inl same) =
              unit_as code mid.block mid.block all later u v (slice_index f (later.row u)) (slice_index f (later.row v)) (revealed_node s unit) y refl (sym same.0) (ap (λ w. slice_index f (later.row w)) (sym same.0)) (sym same.1) at_u
          by_unit (z, there, inr other) = unit_like code all mid.block later v (row_at all (later.row v)) (slice_index f (later.row v)) z y other.1 (released.matched.units v z there)

      attached_matched : Matched code all f new later
      attached_matched = record {
        within = λ v y at. let z = was_mid v y at in released.matched.within v z.0 z.1;
        apart = λ v w y z at there same. let p = was_mid v y at in let q = was_mid w z there in released.matched.apart v w p.0 q.0 p.1 q.1 same;
        units = new_units;
        ordered = λ v y at. let z = was_mid v y at in released.matched.ordered v z.0 z.1;
        unborn = λ v w y z at there. let p = was_mid v y at in let q = was_mid w z there in released.matched.unborn v w p.0 q.0 p.1 q.1;
        disjoint = λ v w y z at there other. let p = was_mid v y at in let q = was_mid w z there in released.matched.disjoint v w p.0 q.0 p.1 q.1 other;
        unfilled = λ v y at. let z = was_mid v y at in released.matched.unfilled v z.0 z.1;
      }

-- ---- the whole turn

pub reveal_matched : (code : Code) (D : Trace) (law : IsLawful code D) (match : IsMatching code D) (all : List Row) (f : Filled) (old new : HeapState Branch) (u : ℕ) (turn : RevealTurn D old new u) (laws : HeapLaws old) (inside : turn.part.branch.expr.0 < length code.nodes) (seats : Seats) → Matched code all f old seats
    → (later : Seats) × Matched code all f new later × ((v : ℕ) (x : Node Branch) → node_at old v ≡ Some x → later.row v ≡ seats.row v) × SameCounts old new
reveal_matched code D law match all f old new u turn laws inside seats m =
    let c = waits_first in
    let t = turned code D law match all f old turn.mid u turn.sound turn.part laws inside seats m c.0 c.1 c.2 c.3 in (
      t.0,
      attached_matched code D law match all f old turn.mid u turn.sound turn.part laws inside seats m c.0 c.1 c.2 c.3 t.0 t.1 t.2 new turn.attaches,
      row_kept code D law match all f old turn.mid u turn.sound turn.part laws inside seats m c.0 c.1 c.2 c.3 t.0 t.1 t.2,
      (revealed code D law old turn.mid u turn.sound turn.part laws inside new turn.attaches).counts,
    )
  where
    unit : Node Branch
    unit = turn.part.takes.hands.unit

    is : IsUnit code old.block all seats u (row_at all (seats.row u)) (slice_index f (seats.row u)) turn.part.takes.hands.unit
    is = m.units u turn.part.takes.hands.unit turn.part.takes.hands.was

    opened_heap : (b : Bool) → heap_open old.block turn.part.takes.hands.unit ≡ b → heap_open old.block turn.part.takes.hands.unit ≡ true
    opened_heap true e = e
    opened_heap false e = absurd (no_item (sym turn.part.takes.hands.waits ∙ ((laws.nodes u turn.part.takes.hands.unit turn.part.takes.hands.was).waits_for_nothing e).0))
      where
        no_item : {A : Type 0} {a : A} {bs : List A} → a ∷ bs ≡ [] → ⊥
        no_item p = cc

    opened : is_open old.block (row_at all (seats.row u)) (slice_index f (seats.row u)) ≡ true
    opened = sym (opened_as code old.block all seats u (row_at all (seats.row u)) (slice_index f (seats.row u)) turn.part.takes.hands.unit is) ∙ opened_heap (heap_open old.block turn.part.takes.hands.unit) refl

    waits_first : (ns : plans.Names) × (qs : List Part) × (rows : List Row) × Coming code all seats.row (seats.from u) (seats.upto u) (row_at all (seats.row u)) (waiting_of (turn.part.branch, turn.part.captured)) turn.part.takes.hands.rest (length turn.part.takes.hands.unit.inputs) turn.part.takes.hands.unit.last_stop turn.part.branch.env turn.part.branch.expr ns qs rows
    waits_first =
        let w = is.awaits opened in
        first_coming code all seats u (row_at all (seats.row u)) turn.part.takes.hands.unit (waiting_of (turn.part.branch, turn.part.captured)) turn.part.takes.hands.rest (length turn.part.takes.hands.unit.inputs) turn.part.takes.hands.unit.last_stop turn.part.takes.hands.waits
        (subst (λ n. Awaits code all seats u (row_at all (seats.row u)) turn.part.takes.hands.unit n turn.part.takes.hands.unit.last_stop) (omega (arith, turn.part.settled))
        (subst (λ stop. Awaits code all seats u (row_at all (seats.row u)) turn.part.takes.hands.unit (length turn.part.takes.hands.unit.inputs + turn.part.takes.hands.unit.pending) stop) (w.1 turn.part.settled) w.2))
