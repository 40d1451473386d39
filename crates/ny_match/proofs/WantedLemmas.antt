-- What a unit wants is what its row lacks first.
use Rattle.std.proofs.Common.{◌≡◌, inl, inr, ℕ, zero, suc, ◌+◌, ◌-◌, ◌*◌, ◌<◌, ◌≤◌, Bool, true, false, cond, nat_lt, List, [], ◌∷◌, length, get_or, Option, None, Some, slice_get, refl, sym, ap, subst, ◌∙◌, arith}
use Rattle.std.specs.Prelude.{slice_index}
use Rattle.std.specs.Option.{option_map_or}
use Rattle.std.proofs.lemmas.Bool.{cases_lt, lt-ltb, ltb-true, true≢false}
use Rattle.std.proofs.lemmas.List.{get_or_past}
use Rattle.std.proofs.Math.Nat.{le-div_iff_mul-le}
use Rattle.ny_num.specs.declared.timing.Timing.{Timing}
use Rattle.ny_list.proofs.IndexLemmas.{same_some, none_some}
use Rattle.ny_check.specs.Code.{Code}
use Rattle.ny_heap.specs.Heap.{Reader, Node, HeapState, node_at, input_at, taken_after, blocks_of, is_open, computed_of}
use Rattle.ny_heap.specs.Reach.{Read, HeapLaws}
use Rattle.ny_heap.specs.Steps.{lacks, wants, want_of}
use Rattle.ny_hands.specs.declared.branch.Branch.{Branch}
use Rattle.ny_hands.proofs.OptionLemmas.{some_there}
use Rattle.ny_plan.specs.Rows.{Input, Row, row_at}
use Rattle.ny_plan.specs.Need.{Filled, takes_as, need, has_come}
use Rattle.ny_plan.specs.Demand.{IsEnough}
use Rattle.ny_plan.proofs.FillLemmas.{blocks-le}
use Rattle.ny_plan.proofs.StandsLemmas.{taken_alike}
use Rattle.ny_walk.proofs.WantLemmas.{taken_within, short_is_open}
use Rattle.ny_match.specs.Matched.{Seats, IsUnit, Matched}
use Rattle.ny_match.proofs.OrderLemmas.{IsMet, Lacks}

-- ---- the first that lacks

pub record FirstLacking {B : Type 0} (h : HeapState B) (x : Node B) (os : List (Option Reader)) (v : ℕ) : Type 0 where
  pub place : ℕ
  pub reader : Reader
  pub input : get_or os place None ≡ Some reader
  pub of : reader.node ≡ v
  pub lacking : lacks h x (Some reader) ≡ true
  pub before : (j : ℕ) → j < place → lacks h x (get_or os j None) ≡ false

pub first_lacking : {B : Type 0} (h : HeapState B) (x : Node B) (v : ℕ) (os : List (Option Reader)) → wants h x os ≡ Some v → FirstLacking h x os v
first_lacking h x v [] e = cc
first_lacking h x v (None ∷ os) e =
    let later = first_lacking h x v os e in
    record { place = suc later.place; reader = later.reader; input = later.input; of = later.of; lacking = later.lacking; before = λ j low. by_place j low later.before }
  where
    by_place : {n : ℕ} (j : ℕ) → j < suc n → ((k : ℕ) → k < n → lacks h x (get_or os k None) ≡ false) → lacks h x (get_or (None ∷ os) j None) ≡ false
    by_place zero low before = refl
    by_place (suc j) low before = before j (omega (arith, low))
first_lacking h x v (Some r ∷ os) e = by_test (λ rest. first_lacking h x v os rest) (lacks h x (Some r)) refl e
  where
    by_place : {n : ℕ} (j : ℕ) → j < suc n → lacks h x (Some r) ≡ false → ((k : ℕ) → k < n → lacks h x (get_or os k None) ≡ false) → lacks h x (get_or (Some r ∷ os) j None) ≡ false
    by_place zero low first before = first
    by_place (suc j) low first before = before j (omega (arith, low))

    by_test : (wants h x os ≡ Some v → FirstLacking h x os v) → (b : Bool) → lacks h x (Some r) ≡ b → cond b (Some r.node) (wants h x os) ≡ Some v → FirstLacking h x (Some r ∷ os) v
    by_test more true is e = record { place = 0; reader = r; input = refl; of = same_some e; lacking = is; before = λ j low. absurd (omega (arith, low)) }
    by_test more false is e =
        let later = more e in
        record { place = suc later.place; reader = later.reader; input = later.input; of = later.of; lacking = later.lacking; before = λ j low. by_place j low is later.before }

pub none_lacking : {B : Type 0} (h : HeapState B) (x : Node B) (os : List (Option Reader)) → wants h x os ≡ None → (j : ℕ) → lacks h x (get_or os j None) ≡ false
none_lacking h x [] e j = refl
none_lacking h x (None ∷ os) e zero = refl
none_lacking h x (None ∷ os) e (suc j) = none_lacking h x os e j
none_lacking {B} h x (Some r ∷ os) e j = by_test (λ rest k. none_lacking h x os rest k) (lacks h x (Some r)) refl e j
  where
    by_test : (wants h x os ≡ None → (j : ℕ) → lacks h x (get_or os j None) ≡ false) → (b : Bool) → lacks h x (Some r) ≡ b → cond b (Some r.node) (wants h x os) ≡ None → (j : ℕ) → lacks h x (get_or (Some r ∷ os) j None) ≡ false
    by_test later true is e j = absurd (none_some (sym e))
    by_test later false is e zero = is
    by_test later false is e (suc j) = later e j

-- ---- blocks and samples

blocks_enough : (block n filled : ℕ) → 0 < block → n ≤ filled * block → blocks_of block n ≤ filled
blocks_enough block n filled some le = elim (cases_lt filled (blocks_of block n)) [
  | inr fits ↦ fits
  | inl more ↦
      let reaches : (filled + 1) * block ≤ n + (block - 1) = (le-div_iff_mul-le {k = block} {x = filled + 1} {y = n + (block - 1)} some).0 (omega (arith, more)) in
      absurd (omega (arith, reaches, le, some, one_more filled block))
]
  where
    one_more : (n b : ℕ) → (n + 1) * b ≡ n * b + b
    one_more n b = omega arith

no_more : (a b : ℕ) → nat_lt a b ≡ false → b ≤ a
no_more a b e = elim (cases_lt a b) [
  | inl lt ↦ absurd (true≢false (sym (lt-ltb a b lt) ∙ e))
  | inr le ↦ le
]

some_within : {A : Type 0} (os : List (Option A)) (k : ℕ) (a : A) → get_or os k None ≡ Some a → k < length os
some_within os k a at = elim (cases_lt k (length os)) [
  | inl inside ↦ inside
  | inr past ↦ absurd (none_some (sym (get_or_past os k None past) ∙ at))
]

blocks_short : (block n filled : ℕ) → 0 < block → filled * block < n → filled < blocks_of block n
blocks_short block n filled some short = short_is_open block filled n some short

module _ (code : Code) (rows : List Row) (f : Filled) (h : HeapState Branch) (seats : Seats) (laws : HeapLaws h) (matched : Matched code rows f h seats) (enough : IsEnough h.block rows f)
    (come : (u k : ℕ) (unit : Node Branch) (i : Input) → node_at h u ≡ Some unit → is_open h.block unit ≡ true → slice_get (row_at rows (seats.row u)).inputs k ≡ Some i → has_come h.block (slice_index f (seats.row u)) i ≡ nat_lt k (length unit.inputs))
    (u : ℕ) (x : Node Branch) (there : node_at h u ≡ Some x) (opened : is_open h.block x ≡ true) where
  abbrev X : Row
  X = row_at rows (seats.row u)

  abbrev done : ℕ
  done = slice_index f (seats.row u)

  unit : IsUnit code h.block rows seats u X done x
  unit = matched.units u x there

  -- what a reader's unit takes for the next block is the need of the row
  need_is : (r : Reader) (i : Input) → r.timing ≡ i.sound.timing → taken_after h.block x.kind x.timing r.timing (x.filled + 1) ≡ need h.block X i (done + 1)
  need_is r i timing = taken_alike h.block x.kind x.timing r.timing (x.filled + 1) ∙ (λ k. taken_after h.block (takes_as (unit.kind k)) (unit.timing k) (timing k) (unit.filled k + 1))

  read_unit : (k : ℕ) (r : Reader) → input_at x k ≡ Some r → (z : Node Branch) × (node_at h r.node ≡ Some z)
  read_unit k r at = some_there (node_at h r.node) (laws.finds u r.node (Read (record { unit = x; there = there; place = k; reader = r; input = at; of = refl })))

  lacks_is : (r : Reader) (z : Node Branch) → node_at h r.node ≡ Some z → lacks h x (Some r) ≡ nat_lt (computed_of h.block z) (taken_after h.block x.kind x.timing r.timing (x.filled + 1))
  lacks_is r z at = ap (λ o. nat_lt (option_map_or (computed_of h.block) o 0) (taken_after h.block x.kind x.timing r.timing (x.filled + 1))) at

  open_row : nat_lt done (blocks_of h.block X.timing.len) ≡ true
  open_row = sym (λ j. nat_lt (unit.filled j) (blocks_of h.block (Timing.len (unit.timing j)))) ∙ opened

  -- what does not lack is met
  met_given : (k y : ℕ) (i : Input) → slice_get X.inputs k ≡ Some i → i.sound.row ≡ Some y → lacks h x (get_or x.inputs k None) ≡ false → k < length x.inputs → (o : Option Reader) → input_at x k ≡ o
      → blocks_of h.block (need h.block X i (done + 1)) ≤ slice_index f y
  met_given k y i is names fits given None at = elim (cases_lt (need h.block X i done) i.sound.timing.len) [
    | inl more ↦ let r = unit.inputs open_row k y i is given more names in absurd (none_some (sym at ∙ r.1))
    | inr past ↦
        let within = taken_within h.block (takes_as X.kind) X.timing i.sound.timing (done + 1) in
        omega (arith, enough (seats.row u) k y i is names, blocks-le h.block (need h.block X i (done + 1)) (need h.block X i done) laws.positive (omega (arith, past, within)))
  ]
  met_given k y i is names fits given (Some r) at =
      let reads = unit.readers k r at in
      let same : reads.0 ≡ i = same_some (sym reads.1 ∙ is) in
      let z = read_unit k r at in
      let taken = need_is r i (reads.2.timing ∙ ap (λ (q : Input). q.sound.timing) same) in
      let row : y ≡ seats.row r.node = same_some (sym names ∙ ap (λ (q : Input). q.sound.row) (sym same) ∙ reads.2.names) in
      let filled : z.0.filled ≡ slice_index f y = (matched.units r.node z.0 z.1).filled ∙ ap (slice_index f) (sym row) in
      let fit = no_more (computed_of h.block z.0) (taken_after h.block x.kind x.timing r.timing (x.filled + 1)) (sym (lacks_is r z.0 z.1) ∙ ap (lacks h x) (sym at) ∙ fits) in
      blocks_enough h.block (need h.block X i (done + 1)) (slice_index f y) laws.positive (omega (arith, fit, taken, ap (λ n. n * h.block) filled))

  met : (k : ℕ) (i : Input) → slice_get X.inputs k ≡ Some i → lacks h x (get_or x.inputs k None) ≡ false → IsMet h.block X done f i
  met k i is fits came y names = met_given k y i is names fits (ltb-true k (length x.inputs) (sym (come u k x i there opened is) ∙ came)) (input_at x k) refl

  -- where it wants nothing all is met
  pub wants_none : want_of h u ≡ None → (k : ℕ) (i : Input) → slice_get X.inputs k ≡ Some i → IsMet h.block X done f i
  wants_none e k i is = met k i is (none_lacking h x x.inputs (sym (ap (λ o. option_map_or (λ (x : Node Branch). wants h x x.inputs) o None) there) ∙ e) k)

  -- and else what it wants is the first that lacks
  pub wants_first : (v : ℕ) → want_of h u ≡ Some v → Lacks h.block X done f X.inputs (seats.row v)
  wants_first v e =
      let first = first_lacking h x v x.inputs (sym (ap (λ o. option_map_or (λ (x : Node Branch). wants h x x.inputs) o None) there) ∙ e) in
      let reads = unit.readers first.place first.reader first.input in
      let z = read_unit first.place first.reader first.input in
      let taken = need_is first.reader reads.0 reads.2.timing in
      let filled = (matched.units first.reader.node z.0 z.1).filled in
      let sees = (laws.readers u first.place x z.0 first.reader there first.input z.1).sees in
      let within = taken_within h.block x.kind x.timing first.reader.timing (x.filled + 1) in
      let short = ltb-true (computed_of h.block z.0) (taken_after h.block x.kind x.timing first.reader.timing (x.filled + 1)) (sym (lacks_is first.reader z.0 z.1) ∙ first.lacking) in
      let given : first.place < length x.inputs = some_within x.inputs first.place first.reader first.input in
      record {
        place = first.place;
        input = reads.0;
        there = reads.1;
        names = reads.2.names ∙ ap (λ w. Some (seats.row w)) first.of;
        come = come u first.place x reads.0 there opened reads.1 ∙ lt-ltb first.place (length x.inputs) given;
        short = subst (λ w. slice_index f (seats.row w) < blocks_of h.block (need h.block X reads.0 (done + 1))) first.of
            (blocks_short h.block (need h.block X reads.0 (done + 1)) (slice_index f (seats.row first.reader.node)) laws.positive
            (omega (arith, short, sees, within, taken, ap (λ n. n * h.block) filled)));
        before = λ k i is low. met k i is (first.before k low);
      }
