-- One block more of a unit is one block more of its row.
use Rattle.std.proofs.Common.{◌≡◌, ◌≢◌, inl, inr, ℕ, zero, suc, ◌+◌, ◌*◌, ◌<◌, ◌≤◌, Bool, true, false, cond, nat_lt, List, [], ◌∷◌, length, map, drop, get_or, Option, None, Some, slice_get, refl, sym, ap, subst, ◌∙◌, arith}
use Rattle.std.specs.Prelude.{slice_index, slice_set}
use Rattle.std.specs.List.{AllZip}
use Rattle.std.proofs.lemmas.Bool.{cases_eq, lt-ltb, ltb-true}
use Rattle.std.proofs.lemmas.List.{length-map, get_or-set_same, get_or-set_other}
use Rattle.std.proofs.Math.ListN.{get_or-map}
use Rattle.ny_list.proofs.IndexLemmas.{same_some, none_some}
use Rattle.ny_num.specs.declared.timing.Timing.{Timing}
use Rattle.ny_check.specs.Code.{Code}
use Rattle.ny_heap.specs.Heap.{Reader, Waiting, Memory, Node, HeapState, node_at, input_at, blocks_of, taken_after}
use Rattle.ny_heap.specs.Steps.{Fills, filled_node, moved}
use Rattle.ny_hands.specs.declared.branch.Branch.{Branch}
use Rattle.ny_plan.specs.Rows.{Input, Row, row_at}
use Rattle.ny_plan.specs.Need.{Filled, takes_as, need, blocks_in, is_open, has_come}
use Rattle.ny_heap.specs.Kinds.{unit_kind}
use Rattle.ny_plan.specs.StandsFor.{ReadsFor, Keeps}
use Rattle.ny_plan.proofs.NeedLemmas.{need-rises}
use Rattle.ny_plan.proofs.StandsLemmas.{taken_alike}
use Rattle.ny_hands.proofs.OptionLemmas.{same_at}
use Rattle.ny_match.specs.Matched.{Seats, IsPart, Awaits, IsUnit, Matched}

-- ---- what a unit takes of an input is what its row needs

pub need_is : {B : Type 0} (block : ℕ) (x : Row) (unit : Node B) (i : Input) (t : Timing) (j : ℕ) → unit_kind unit.kind ≡ x.kind → unit.timing ≡ x.timing → t ≡ i.sound.timing → taken_after block unit.kind unit.timing t j ≡ need block x i j
need_is block x unit i t j kind timing heard =
    taken_alike block unit.kind unit.timing t j
    ∙ ap (λ k. taken_after block (takes_as k) unit.timing t j) kind
    ∙ ap (λ s. taken_after block (takes_as x.kind) s t j) timing
    ∙ ap (λ s. taken_after block (takes_as x.kind) x.timing s j) heard

-- ---- inputs of a unit with one block more

-- an input that is left reads as before, further on
moved_from : {B : Type 0} (block done : ℕ) (x : Node B) (o : Option Reader) (r : Reader) → moved block x done o ≡ Some r → (s : Reader) × (o ≡ Some s) × (r.node ≡ s.node) × (r.timing ≡ s.timing)
moved_from block done x None r e = cc
moved_from block done x (Some s) r e = by_more (nat_lt (taken_after block x.kind x.timing s.timing done) s.timing.len) e
  where
    by_more : (b : Bool) → cond b (Some (record s { place = taken_after block x.kind x.timing s.timing done })) None ≡ Some r → (q : Reader) × (Some s ≡ Some q) × (r.node ≡ q.node) × (r.timing ≡ q.timing)
    by_more true p = (s, refl, ap (λ (q : Reader). q.node) (sym (same_some p)), ap (λ (q : Reader). q.timing) (sym (same_some p)))
    by_more false p = cc

-- an input with more to read is left
moved_on : {B : Type 0} (block done : ℕ) (x : Node B) (s : Reader) → taken_after block x.kind x.timing s.timing done < s.timing.len → (r : Reader) × (moved block x done (Some s) ≡ Some r) × (r.node ≡ s.node) × (r.timing ≡ s.timing)
moved_on block done x s more = (
  record s { place = taken_after block x.kind x.timing s.timing done },
  ap (λ b. cond b (Some (record s { place = taken_after block x.kind x.timing s.timing done })) None) (lt-ltb (taken_after block x.kind x.timing s.timing done) s.timing.len more),
  refl,
  refl,
)

abbrev opens : {B : Type 0} → ℕ → Node B → Bool
opens block x = nat_lt (x.filled + 1) (blocks_of block x.timing.len)

input_moved : {B : Type 0} (block : ℕ) (memory : Memory) (x : Node B) (k : ℕ) → opens block x ≡ true → input_at (filled_node block memory x) k ≡ moved block x (x.filled + 1) (input_at x k)
input_moved block memory x k opened =
    ap (λ b. get_or (map (cond b (moved block x (x.filled + 1)) (λ r. None)) x.inputs) k None) opened
    ∙ get_or-map (moved block x (x.filled + 1)) x.inputs k None

input_gone : {B : Type 0} (block : ℕ) (memory : Memory) (x : Node B) (k : ℕ) → opens block x ≡ false → input_at (filled_node block memory x) k ≡ None
input_gone block memory x k over =
    ap (λ b. get_or (map (cond b (moved block x (x.filled + 1)) (λ r. None)) x.inputs) k None) over
    ∙ none_of x.inputs k
  where
    none_of : (os : List (Option Reader)) (k : ℕ) → get_or (map (λ (r : Option Reader). let none : Option Reader = None in none) os) k None ≡ None
    none_of [] k = refl
    none_of (o ∷ os) zero = refl
    none_of (o ∷ os) (suc k) = none_of os k

as_many : {B : Type 0} (block : ℕ) (memory : Memory) (x : Node B) → length (filled_node block memory x).inputs ≡ length x.inputs
as_many block memory x = length-map x.inputs (cond (opens block x) (moved block x (x.filled + 1)) (λ r. None))

-- ---- the unit

-- the same parts wait
pub awaits_as : (code : Code) (all : List Row) (seats : Seats) (u : ℕ) (x : Row) (unit later : Node Branch) (at next stop : ℕ) → later.waiting ≡ unit.waiting → next ≡ at → Awaits code all seats u x unit at stop → Awaits code all seats u x later next stop
awaits_as code all seats u x unit later at next stop waits same w = record {
  env = w.env;
  parts = w.parts;
  rows = w.rows;
  before = w.before;
  from = w.from;
  after = w.after;
  upto = w.upto;
  inputs = ap (λ n. drop n x.inputs) same ∙ w.inputs;
  rate = w.rate;
  are = subst (λ ws. AllZip (IsPart seats.row w.env) ws w.parts) (sym waits) w.are;
  keep = subst (λ ws. AllZip (λ p (i : Input). AllZip (Keeps seats.row) (Waiting.captured p) i.captured) ws (drop next x.inputs)) (sym waits)
      (subst (λ n. AllZip (λ p (i : Input). AllZip (Keeps seats.row) (Waiting.captured p) i.captured) unit.waiting (drop n x.inputs)) (sym same) w.keep);
}

still_open : (block : ℕ) (x : Row) (done : ℕ) → is_open block x (done + 1) ≡ true → is_open block x done ≡ true
still_open block x done opened = lt-ltb done (blocks_in block x) (omega (arith, ltb-true (done + 1) (blocks_in block x) opened))

pub still_come : (block done : ℕ) (i : Input) → has_come block done i ≡ true → has_come block (done + 1) i ≡ true
still_come block done i come = lt-ltb i.offset ((done + 1 + 1) * block) (omega (arith, ltb-true i.offset ((done + 1) * block) come))

module _ (code : Code) (block : ℕ) (all : List Row) (seats : Seats) (u : ℕ) (x : Row) (done : ℕ) (unit : Node Branch) (memory : Memory) (is : IsUnit code block all seats u x done unit) where
  -- its row is open where it is
  opens_as : is_open block x (done + 1) ≡ opens block unit
  opens_as = ap (λ n. nat_lt (n + 1) (blocks_in block x)) (sym is.filled) ∙ ap (λ (t : Timing). nat_lt (unit.filled + 1) (blocks_of block t.len)) (sym is.timing)

  taken_is : (i : Input) (r : Reader) → r.timing ≡ i.sound.timing → taken_after block unit.kind unit.timing r.timing (unit.filled + 1) ≡ need block x i (done + 1)
  taken_is i r heard = ap (λ n. taken_after block unit.kind unit.timing r.timing (n + 1)) is.filled ∙ need_is block x unit i r.timing (done + 1) is.kind is.timing heard

  filled_readers : (k : ℕ) (r : Reader) → input_at (filled_node block memory unit) k ≡ Some r → (i : Input) × (slice_get x.inputs k ≡ Some i) × ReadsFor seats.row i r
  filled_readers k r at = by_open (opens block unit) refl
    where
      by_open : (b : Bool) → opens block unit ≡ b → (i : Input) × (slice_get x.inputs k ≡ Some i) × ReadsFor seats.row i r
      by_open false over = absurd (none_some (sym (input_gone block memory unit k over) ∙ at))
      by_open true opened =
          let s = moved_from block (unit.filled + 1) unit (input_at unit k) r (sym (input_moved block memory unit k opened) ∙ at) in
          let i = is.readers k s.0 s.1 in
          (i.0, i.1, record { names = i.2.names ∙ ap (λ n. Some (seats.row n)) (sym s.2); timing = s.3 ∙ i.2.timing })

  -- an input with more to read is left
  left_reads : (k : ℕ) (i : Input) (s r : Reader) → opens block unit ≡ true → input_at unit k ≡ Some s → ReadsFor seats.row i s → moved block unit (unit.filled + 1) (Some s) ≡ Some r → r.node ≡ s.node → r.timing ≡ s.timing → (q : Reader) × (input_at (filled_node block memory unit) k ≡ Some q) × ReadsFor seats.row i q
  left_reads k i s r opened at reads left node timing =
      (r, input_moved block memory unit k opened ∙ ap (moved block unit (unit.filled + 1)) at ∙ left, record { names = reads.names ∙ ap (λ n. Some (seats.row n)) (sym node); timing = timing ∙ reads.timing })

  filled_reads : is_open block x (done + 1) ≡ true → (k y : ℕ) (i : Input) → slice_get x.inputs k ≡ Some i → k < length (filled_node block memory unit).inputs → need block x i (done + 1) < i.sound.timing.len → i.sound.row ≡ Some y → (r : Reader) × (input_at (filled_node block memory unit) k ≡ Some r) × ReadsFor seats.row i r
  filled_reads opened k y i there given more names =
      let s = is.inputs (still_open block x done opened) k y i there (omega (arith, given, as_many block memory unit)) (omega (arith, more, need-rises block x i done)) names in
      let left = moved_on block (unit.filled + 1) unit s.0 (omega (arith, more, taken_is i s.0 s.2.timing, ap (λ (t : Timing). t.len) s.2.timing)) in
      left_reads k i s.0 left.0 (sym opens_as ∙ opened) s.1 s.2 left.1 left.2 left.3

  filled_awaits : is_open block x (done + 1) ≡ true → (stop : ℕ) × (unit.pending ≡ 0 → stop ≡ unit.last_stop) × Awaits code all seats u x (filled_node block memory unit) (length (filled_node block memory unit).inputs + unit.pending) stop
  filled_awaits opened =
      let w = is.awaits (still_open block x done opened) in (
        w.0,
        w.1,
        awaits_as code all seats u x unit (filled_node block memory unit) (length unit.inputs + unit.pending) (length (filled_node block memory unit).inputs + unit.pending) w.0
            (ap (λ b. cond b unit.waiting []) (sym opens_as ∙ opened)) (ap (λ n. n + unit.pending) (as_many block memory unit)) w.2,
      )

  -- with one block more it is its row with one block more
  pub unit_fills : IsUnit code block all seats u x (done + 1) (filled_node block memory unit)
  unit_fills = record {
    kind = is.kind;
    timing = is.timing;
    filled = ap (λ n. n + 1) is.filled;
    few = omega (arith, is.few, as_many block memory unit);
    come = λ k i there given. still_come block done i (is.come k i there (omega (arith, given, as_many block memory unit)));
    readers = filled_readers;
    inputs = filled_reads;
    awaits = filled_awaits;
  }

-- the same unit, told in other words
pub unit_as : (code : Code) (block now : ℕ) (all : List Row) (seats : Seats) (u v done later : ℕ) (x y : Node Branch) → block ≡ now → u ≡ v → done ≡ later → x ≡ y → IsUnit code block all seats u (row_at all (seats.row u)) done x → IsUnit code now all seats v (row_at all (seats.row v)) later y
unit_as code block now all seats u v done later x y size number blocks same is =
    subst (λ b. IsUnit code b all seats v (row_at all (seats.row v)) later y) size
    (subst (λ w. IsUnit code block all seats w (row_at all (seats.row w)) later y) number
    (subst (λ n. IsUnit code block all seats u (row_at all (seats.row u)) n y) blocks
    (subst (λ z. IsUnit code block all seats u (row_at all (seats.row u)) done z) same is)))

-- ---- the heap

module _ (code : Code) (all : List Row) (f : Filled) (old new : HeapState Branch) (seats : Seats) (u : ℕ) (fills : Fills old new u) (size : length f ≡ length all) (m : Matched code all f old seats) where
  abbrev more : Filled
  more = slice_set f (seats.row u) (slice_index f (seats.row u) + 1)

  was_there : (v : ℕ) (y : Node Branch) → node_at new v ≡ Some y → (x : Node Branch) × (node_at old v ≡ Some x)
  was_there v y there = elim (cases_eq v u) [
    | inl same ↦ (fills.filled.unit, ap (node_at old) same ∙ fills.filled.was)
    | inr other ↦ (y, sym (fills.filled.others v other) ∙ fills.trimmed.kept v y there)
  ]

  -- the row of another unit has as many blocks as before
  others_as : (v : ℕ) (x : Node Branch) → node_at old v ≡ Some x → v ≢ u → slice_index more (seats.row v) ≡ slice_index f (seats.row v)
  others_as v x there other =
      get_or-set_other f (seats.row u) (seats.row v) (slice_index f (seats.row u) + 1) 0 (λ same. other (m.apart v u x fills.filled.unit there fills.filled.was same))

  one_more : slice_index more (seats.row u) ≡ slice_index f (seats.row u) + 1
  one_more = get_or-set_same f (seats.row u) (slice_index f (seats.row u) + 1) 0 (omega (arith, m.within u fills.filled.unit fills.filled.was, size))

  same_block : old.block ≡ new.block
  same_block = sym (fills.trimmed.size.block ∙ fills.filled.size.block)

  fill_units : (v : ℕ) (y : Node Branch) → node_at new v ≡ Some y → IsUnit code new.block all seats v (row_at all (seats.row v)) (slice_index more (seats.row v)) y
  fill_units v y there = elim (cases_eq v u) [
    | inl same ↦
        unit_as code old.block new.block all seats u v (slice_index f (seats.row u) + 1) (slice_index more (seats.row v)) (filled_node old.block fills.filled.memory fills.filled.unit) y
        same_block (sym same) (sym one_more ∙ ap (λ w. slice_index more (seats.row w)) (sym same))
        (same_at (node_at fills.between v) (filled_node old.block fills.filled.memory fills.filled.unit) y (ap (node_at fills.between) same ∙ fills.filled.after) (fills.trimmed.kept v y there))
        (unit_fills code old.block all seats u (row_at all (seats.row u)) (slice_index f (seats.row u)) fills.filled.unit fills.filled.memory (m.units u fills.filled.unit fills.filled.was))
    | inr other ↦
        let was = sym (fills.filled.others v other) ∙ fills.trimmed.kept v y there in
        unit_as code old.block new.block all seats v v (slice_index f (seats.row v)) (slice_index more (seats.row v)) y y
        same_block refl (sym (others_as v y was other)) refl (m.units v y was)
  ]

  fill_waits : (v : ℕ) (x : Node Branch) → node_at old v ≡ Some x → (k : ℕ) → seats.from v ≤ k → k < seats.upto v → slice_index more k ≡ 0
  fill_waits v x there k from upto =
      get_or-set_other f (seats.row u) k (slice_index f (seats.row u) + 1) 0 (λ same. elim (m.unborn v u x fills.filled.unit there fills.filled.was) [
        | inl low ↦ absurd (omega (arith, low, from, same))
        | inr high ↦ absurd (omega (arith, high, upto, same))
      ])
      ∙ m.unfilled v x there k from upto

  pub Fills-matched : Matched code all more new seats
  Fills-matched = record {
    within = λ v y there. let x = was_there v y there in m.within v x.0 x.1;
    apart = λ v w y z there at same. let x = was_there v y there in let q = was_there w z at in m.apart v w x.0 q.0 x.1 q.1 same;
    units = fill_units;
    ordered = λ v y there. let x = was_there v y there in m.ordered v x.0 x.1;
    unborn = λ v w y z there at. let x = was_there v y there in let q = was_there w z at in m.unborn v w x.0 q.0 x.1 q.1;
    disjoint = λ v w y z there at other. let x = was_there v y there in let q = was_there w z at in m.disjoint v w x.0 q.0 x.1 q.1 other;
    unfilled = λ v y there. let x = was_there v y there in fill_waits v x.0 x.1;
  }
