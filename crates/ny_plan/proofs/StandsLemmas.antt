-- Where a heap stands for a plan, the kept blocks of a unit are the live blocks of its row.
use Rattle.std.proofs.Common.{◌≡◌, inl, inr, ℕ, zero, suc, ◌-◌, ◌*◌, ◌/◌, ◌<◌, ◌≤◌, Bool, true, false, not, cond, ◌&&◌, nat_eq, nat_lt, IsTrue, List, [], ◌∷◌, length, get_or, Option, None, Some, slice_get, sum_by, refl, sym, ap, subst, ◌∙◌, arith}
use Rattle.std.specs.Prelude.{slice_index, flat_map}
use Rattle.std.specs.Option.{option_map, option_map_or}
use Rattle.std.proofs.lemmas.Bool.{cases_lt, eq-eqb, eqb-true, lt-ltb, ltb-true, and_from, and_parts}
use Rattle.std.proofs.lemmas.Option.{get_or_from_slice_get}
use Rattle.std.proofs.lemmas.List.Sums.{get_or-le-sum_by}
use Rattle.std.proofs.lemmas.Nat.{div-mul-add}
use Rattle.std.proofs.Math.Nat.{zero-div}
use Rattle.ny_num.specs.declared.timing.Timing.{Timing}
use Rattle.ny_kernels.specs.declared.operation.Op.TheVariants as op
use Rattle.ny_units.specs.declared.leaves.Leaf.TheVariants as leaf
use Rattle.ny_list.proofs.IndexLemmas.{same_some, none_some}
use Rattle.ny_heap.specs.declared.make.Make.TheVariants as make
use Rattle.ny_heap.specs.Heap as heap
use Rattle.ny_heap.specs.Heap.{Captured, Waiting, Node, HeapState, node_at, input_at, blocks_of, taken_after, stands_in, is_reader as marks_reader, is_captured as marks_captured, own_in, readers_in, first_kept, kept_of}
use Rattle.ny_heap.specs.Reach.{Uses, Read, Hold, LeadsIn, HeapLaws}
use Rattle.ny_heap.proofs.CountLemmas.{some_is}
use Rattle.ny_heap.proofs.LawLemmas.{some_term}
use Rattle.ny_heap.proofs.NeedLemmas.{stands_mid}
use Rattle.ny_heap.proofs.CanLemmas.{not_past}
use Rattle.ny_plan.specs.Rows.{RowSound, Input, Row, row_at}
use Rattle.ny_plan.specs.Need.{Filled, takes_as, need, computed, is_open, has_come}
use Rattle.ny_plan.specs.Liveness.{Reader, is_channel, reader_of, reads_left, reads_of, readers, least_passed, live_in}
use Rattle.ny_plan.specs.Held.{Has, ReadsBy, IsOutside, HeldIn, IsHeld, IsInOrder}
use Rattle.ny_heap.specs.Kinds.{unit_kind}
use Rattle.ny_plan.specs.StandsFor.{ReadsFor, Keeps, KeepsPart, waiting_inputs, IsRoot, UnitMatches, Matches}
use Rattle.ny_plan.proofs.ItemLemmas.{some_item, item-le, zip-right, zip-left, in_filter, to_filter}
use Rattle.ny_plan.proofs.LeastLemmas.{first_read-least}
use Rattle.ny_plan.proofs.ReaderLemmas.{has-flat_map, in_flat_map, reader_is, is_reader, is_held_in}

-- ---- need is one and the same

pub taken_alike : (block : ℕ) (k : heap.Kind) (t i : Timing) (j : ℕ) → taken_after block k t i j ≡ taken_after block (takes_as (unit_kind k)) t i j
unfolding taken_after
taken_alike block k t i zero = refl
taken_alike block (heap.Made (make.Leaf (leaf.Const v))) t i (suc j) = refl
taken_alike block (heap.Made (make.Leaf (leaf.Ramp n))) t i (suc j) = refl
taken_alike block (heap.Made (make.Leaf (leaf.Osc inc loud))) t i (suc j) = refl
taken_alike block (heap.Made (make.Leaf (leaf.HzOsc inc loud))) t i (suc j) = refl
taken_alike block (heap.Made (make.Leaf (leaf.Lfo inc))) t i (suc j) = refl
taken_alike block (heap.Made (make.Leaf (leaf.Noise x loud))) t i (suc j) = refl
taken_alike block (heap.Made (make.Leaf (leaf.Pwl knots))) t i (suc j) = refl
taken_alike block (heap.Made (make.Pair op.Add a b)) t i (suc j) = refl
taken_alike block (heap.Made (make.Pair op.Sub a b)) t i (suc j) = refl
taken_alike block (heap.Made (make.Pair op.Mul a b)) t i (suc j) = refl
taken_alike block (heap.Made (make.Pair op.Max a b)) t i (suc j) = refl
taken_alike block (heap.Made (make.Pair op.Min a b)) t i (suc j) = refl
taken_alike block (heap.Made make.Abs) t i (suc j) = refl
taken_alike block (heap.Made make.Resample) t i (suc j) = refl
taken_alike block (heap.Made (make.Filter f)) t i (suc j) = refl
taken_alike block heap.Mix t i (suc j) = refl
taken_alike block heap.Channel t i (suc j) = refl

-- ---- readers in a block

reader_in : (block len v j : ℕ) (o : Option heap.Reader) → 0 < marks_reader block len v j o → (r : heap.Reader) × (o ≡ Some r) × (r.node ≡ v) × (stands_in block len r.place ≡ j)
reader_in block len v j None some = absurd (omega (arith, some))
reader_in block len v j (Some r) some = by_test (nat_eq r.node v && nat_eq (stands_in block len r.place) j) refl some
  where
    by_test : (b : Bool) → (nat_eq r.node v && nat_eq (stands_in block len r.place) j) ≡ b → 0 < cond {A = ℕ} b 1 0 → (q : heap.Reader) × (Some r ≡ Some q) × (q.node ≡ v) × (stands_in block len q.place ≡ j)
    by_test true e h = let both = and_parts _ _ e in (r, refl, eqb-true r.node v both.0, eqb-true (stands_in block len r.place) j both.1)
    by_test false e h = absurd (omega (arith, h))

captured_in : (v j : ℕ) (c : Captured) → 0 < marks_captured v j c → (c.node ≡ Some v) × (j ≡ 0)
captured_in v j c some = by_node c.node refl some
  where
    by_test : (n : ℕ) → c.node ≡ Some n → (b : Bool) → (nat_eq n v && nat_eq j 0) ≡ b → 0 < cond {A = ℕ} b 1 0 → (c.node ≡ Some v) × (j ≡ 0)
    by_test n is true e h = let both = and_parts _ _ e in (is ∙ ap Some (eqb-true n v both.0), eqb-true j 0 both.1)
    by_test n is false e h = absurd (omega (arith, h))

    by_node : (o : Option ℕ) → c.node ≡ o → 0 < option_map_or {U = ℕ} (λ n. cond {A = ℕ} (nat_eq n v && nat_eq j 0) 1 0) o 0 → (c.node ≡ Some v) × (j ≡ 0)
    by_node None is h = absurd (omega (arith, h))
    by_node (Some n) is h = by_test n is (nat_eq n v && nat_eq j 0) refl h

-- ---- what an input reads

pub in_reader_of : (o : Option ℕ) (n : ℕ) (r : Reader) → Has (reader_of o n) r → (o ≡ Some r.row) × (r.passed ≡ n)
in_reader_of None n r has = absurd has
in_reader_of (Some y) n r (inl e) = (ap (λ (q : Reader). Some q.row) e, sym (ap (λ (q : Reader). q.passed) e))
in_reader_of (Some y) n r (inr later) = absurd later

reads_come : (block : ℕ) (x : Row) (done : ℕ) (i : Input) → has_come block done i ≡ true → reads_of block x done i ≡ reads_left i.sound (need block x i done)
reads_come block x done i come = ap (λ b. cond b (reads_left i.sound (need block x i done)) (flat_map (λ (s : RowSound). reader_of s.row 0) i.captured)) come

reads_wait : (block : ℕ) (x : Row) (done : ℕ) (i : Input) → has_come block done i ≡ false → reads_of block x done i ≡ flat_map (λ (s : RowSound). reader_of s.row 0) i.captured
reads_wait block x done i wait = ap (λ b. cond b (reads_left i.sound (need block x i done)) (flat_map (λ (s : RowSound). reader_of s.row 0) i.captured)) wait

has_left : (s : RowSound) (n y : ℕ) → n < s.timing.len → s.row ≡ Some y → Has (reads_left s n) (record { row = y; passed = n })
has_left s n y more names =
    let e : reads_left s n ≡ record { row = y; passed = n } ∷ [] = ap (λ b. cond b (reader_of s.row n) []) (lt-ltb n s.timing.len more) ∙ ap (λ o. reader_of o n) names in
    subst (λ rs. Has rs (record { row = y; passed = n })) (sym e) (inl refl)

pub in_left : (s : RowSound) (n : ℕ) (r : Reader) → Has (reads_left s n) r → (n < s.timing.len) × (s.row ≡ Some r.row) × (r.passed ≡ n)
in_left s n r has = by_test (nat_lt n s.timing.len) refl has
  where
    by_test : (b : Bool) → nat_lt n s.timing.len ≡ b → Has (cond b (reader_of s.row n) []) r → (n < s.timing.len) × (s.row ≡ Some r.row) × (r.passed ≡ n)
    by_test true e there = let o = in_reader_of s.row n r there in (ltb-true n s.timing.len e, o.0, o.1)
    by_test false e there = absurd there

-- ---- a heap that stands for a plan

module _ (B : Type 0) (block : ℕ) (rows : List Row) (filled : Filled) (h : HeapState B) (row : ℕ → ℕ) (m : Matches {B = B} block rows filled h row) (laws : HeapLaws h) where
  abbrev X : ℕ → Row
  X u = row_at rows (row u)

  abbrev done : ℕ → ℕ
  done u = slice_index filled (row u)

  -- an open unit's row is open
  open_row : (u : ℕ) (x : Node B) → node_at h u ≡ Some x → heap.is_open h.block x ≡ true → IsTrue (is_open block (X u) (done u))
  open_row u x there e =
      let unit = m.units u x there in
      sym (λ i. nat_lt (unit.filled i) (blocks_of (m.size i) (Timing.len (unit.timing i)))) ∙ e

  found : (u v : ℕ) → Uses h u v → (y : Node B) × (node_at h v ≡ Some y)
  found u v uses = some_is (node_at h v) (laws.finds u v uses)

  -- a reader stands at the need of its row's input
  at_need : (u k : ℕ) (x : Node B) (r : heap.Reader) (i : Input) → node_at h u ≡ Some x → input_at x k ≡ Some r → ReadsFor row i r → (r.place ≡ need block (X u) i (done u)) × (r.place < i.sound.timing.len)
  at_need u k x r i there at for =
      let unit = m.units u x there in
      let y = found u r.node (Read (record { unit = x; there = there; place = k; reader = r; input = at; of = refl })) in
      let law = laws.readers u k x y.0 r there at y.1 in (
        law.at_need ∙ taken_alike h.block x.kind x.timing r.timing x.filled ∙ (λ i. taken_after (m.size i) (takes_as (unit.kind i)) (unit.timing i) (for.timing i) (unit.filled i)),
        omega (arith, law.more, ap (λ (t : Timing). t.len) for.timing),
      )

  -- an input of a unit is a reading of its row
  input_reads : (u k : ℕ) (x : Node B) (r : heap.Reader) → node_at h u ≡ Some x → input_at x k ≡ Some r → ReadsBy block rows filled (row u) (record { row = row r.node; passed = r.place })
  input_reads u k x r there at =
      let unit = m.units u x there in
      let i = unit.readers k r at in
      let need_at = at_need u k x r i.0 there at i.3 in
      record {
        unfinished = open_row u x there (opened (heap.is_open h.block x) refl);
        place = k;
        input = i.0;
        there = i.1;
        reads = subst (λ rs. Has rs (record { row = row r.node; passed = r.place })) (sym (reads_come block (X u) (done u) i.0 i.2))
            (subst (λ n. Has (reads_left i.0.sound (need block (X u) i.0 (done u))) (record { row = row r.node; passed = n })) (sym need_at.0)
            (has_left i.0.sound (need block (X u) i.0 (done u)) (row r.node) (omega (arith, need_at.0, need_at.1)) i.3.names));
      }
    where
      opened : (b : Bool) → heap.is_open h.block x ≡ b → heap.is_open h.block x ≡ true
      opened true e = e
      opened false e = absurd (none_some (sym ((laws.nodes u x there).reads_nothing e k) ∙ at))

  -- what a waiting part has captured, its row reads from the beginning
  captured_reads : (u k j v : ℕ) (x : Node B) (p : Waiting B) (c : Captured) → node_at h u ≡ Some x → slice_get x.waiting k ≡ Some p → slice_get p.captured j ≡ Some c → c.node ≡ Some v → ReadsBy block rows filled (row u) (record { row = row v; passed = 0 })
  captured_reads u k j v x p c there waits at names =
      let open_now = open_row u x there (opened (heap.is_open h.block x) refl) in
      let i = zip-right (KeepsPart row) x.waiting (waiting_inputs block (X u) (done u)) k p ((m.units u x there).waiting open_now) waits in
      let s = zip-right (Keeps row) p.captured i.0.captured j c i.2 at in
      let f = in_filter (λ (i : Input). not (has_come block (done u) i)) (X u).inputs k i.0 i.1 in
      record {
        unfinished = open_now;
        place = f.0.0;
        input = i.0;
        there = f.0.1;
        reads = subst (λ rs. Has rs (record { row = row v; passed = 0 })) (sym (reads_wait block (X u) (done u) i.0 (not-true (has_come block (done u) i.0) f.1)))
            (has-flat_map (λ (s : RowSound). reader_of s.row 0) i.0.captured j s.0 (record { row = row v; passed = 0 }) s.1
            (subst (λ o. Has (reader_of o 0) (record { row = row v; passed = 0 })) (sym (s.2.names ∙ ap (option_map row) names)) (inl refl)));
      }
    where
      opened : (b : Bool) → heap.is_open h.block x ≡ b → heap.is_open h.block x ≡ true
      opened true e = e
      opened false e = absurd (none_some (sym (ap (λ ws. slice_get ws k) ((laws.nodes u x there).waits_for_nothing e).0) ∙ waits))

      not-true : (b : Bool) → not b ≡ true → b ≡ false
      not-true true e = cc
      not-true false e = refl

  -- ---- each unit's row is held

  uses_reads : (u v : ℕ) → Uses h u v → (r : Reader) × ReadsBy block rows filled (row u) r × (r.row ≡ row v)
  uses_reads u v (Read reads) = (record { row = row reads.reader.node; passed = reads.reader.place }, input_reads u reads.place reads.unit reads.reader reads.there reads.input, ap row reads.of)
  uses_reads u v (Hold holds) = (record { row = row v; passed = 0 }, captured_reads u holds.place holds.position v holds.unit holds.part holds.captured holds.there holds.waits holds.one holds.of, refl)

  walk_held : (n u v : ℕ) → IsHeld block rows filled (row u) → LeadsIn h n u v → IsHeld block rows filled (row v)
  walk_held zero u v held same = subst (λ w. IsHeld block rows filled (row w)) same held
  walk_held (suc n) u v held walk =
      let r = uses_reads u walk.0 walk.1 in
      walk_held n walk.0 v (suc held.0, (row u, held.1, r.0, r.1, r.2)) walk.2

  root_outside : (y : ℕ) → IsRoot block (row_at rows y) (slice_index filled y) → (r : Reader) × IsOutside block rows filled y r
  root_outside y root =
      let r : Reader = record { row = y; passed = computed block (row_at rows y) (slice_index filled y) } in
      (r, subst (λ b. Has (cond b (r ∷ []) []) r) (sym (and_from _ _ root.0 root.1)) (inl refl))

  pub unit_held : (u : ℕ) (x : Node B) → node_at h u ≡ Some x → IsHeld block rows filled (row u)
  unit_held u x there =
      let reach = (laws.nodes u x there).reached in
      let mark = some_term (λ n. n) 0 reach.1.unit.outside reach.1.some in
      let root = (m.units reach.0 reach.1.unit reach.1.there).outside_root mark.0 mark.2 in
      walk_held reach.2.0 reach.0 u (0, root_outside (row reach.0) root.0) reach.2.1

  -- ---- readers in the blocks of a unit

  -- where a reader stands that has more to read
  stands_before : (u k : ℕ) (x y : Node B) (r : heap.Reader) → node_at h u ≡ Some x → input_at x k ≡ Some r → node_at h r.node ≡ Some y → stands_in h.block y.timing.len r.place ≡ r.place / block
  stands_before u k x y r there at read =
      let law = laws.readers u k x y r there at read in
      stands_mid h.block y.timing.len r.place (λ e. absurd (omega (arith, law.sees, law.more, e))) ∙ ap (λ b. r.place / b) m.size

  -- a reading that a unit has in block j of unit u is one of its row
  own_reads : (k u j : ℕ) (z x : Node B) → node_at h k ≡ Some z → node_at h u ≡ Some x → 0 < own_in h.block x.timing.len u j z
      → (r : Reader) × ReadsBy block rows filled (row k) r × (r.row ≡ row u) × (r.passed / block ≡ j)
  own_reads k u j z x there at some = elim (cases_lt 0 (sum_by (marks_reader h.block x.timing.len u j) z.inputs)) [
    | inl reads ↦ by_input (some_item (marks_reader h.block x.timing.len u j) z.inputs reads)
    | inr none ↦ by_part (some_item (λ (p : Waiting B). sum_by (marks_captured u j) p.captured) z.waiting (omega (arith, some, none)))
  ]
    where
      by_input : ((i : ℕ) × (o : Option heap.Reader) × (slice_get z.inputs i ≡ Some o) × (0 < marks_reader h.block x.timing.len u j o)) → (r : Reader) × ReadsBy block rows filled (row k) r × (r.row ≡ row u) × (r.passed / block ≡ j)
      by_input i =
          let r = reader_in h.block x.timing.len u j i.1 i.3 in
          let input = get_or_from_slice_get z.inputs i.0 i.1 None i.2 ∙ r.1 in
          (record { row = row r.0.node; passed = r.0.place }, input_reads k i.0 z r.0 there input, ap row r.2, sym (stands_before k i.0 z x r.0 there input (ap (node_at h) r.2 ∙ at)) ∙ r.3)

      by_part : ((a : ℕ) × (p : Waiting B) × (slice_get z.waiting a ≡ Some p) × (0 < sum_by (marks_captured u j) p.captured)) → (r : Reader) × ReadsBy block rows filled (row k) r × (r.row ≡ row u) × (r.passed / block ≡ j)
      by_part p =
          let c = some_item (marks_captured u j) p.1.captured p.3 in
          let e = captured_in u j c.1 c.3 in
          (record { row = row u; passed = 0 }, captured_reads k p.0 c.0 u z p.1 c.1 there p.2 c.2 e.0, refl, zero-div block ∙ sym e.1)

  -- a reading of a unit's row is one that the unit has, in the block where it stands
  abbrev IsRead : ℕ → Node B → Reader → Type 0
  IsRead k z r = (u : ℕ) × (x : Node B) × (node_at h u ≡ Some x) × (row u ≡ r.row) × (0 < own_in h.block x.timing.len u (r.passed / block) z)

  reads_unit : (k : ℕ) (z : Node B) (r : Reader) → node_at h k ≡ Some z → ReadsBy block rows filled (row k) r → IsRead k z r
  reads_unit k z r there reads = by_test (has_come block (done k) reads.input) refl
    where
      unit : UnitMatches {B = B} block row (X k) (done k) z
      unit = m.units k z there

      marked : (node place : ℕ) (len j : ℕ) → node ≡ node → stands_in h.block len place ≡ j → cond {A = ℕ} (nat_eq node node && nat_eq (stands_in h.block len place) j) 1 0 ≡ 1
      marked node place len j e stands = ap (λ b. cond {A = ℕ} b 1 0) (and_from _ _ (eq-eqb node node e) (eq-eqb (stands_in h.block len place) j stands))

      by_input : has_come block (done k) reads.input ≡ true → (need block (X k) reads.input (done k) < reads.input.sound.timing.len) × (reads.input.sound.row ≡ Some r.row) × (r.passed ≡ need block (X k) reads.input (done k)) → IsRead k z r
      by_input come l =
          let q = unit.inputs reads.unfinished reads.place r.row reads.input reads.there come l.0 l.1 in
          let y = found k q.0.node (Read (record { unit = z; there = there; place = reads.place; reader = q.0; input = q.1; of = refl })) in
          let place = at_need k reads.place z q.0 reads.input there q.1 q.2 in
          let stands : stands_in h.block y.0.timing.len q.0.place ≡ r.passed / block = stands_before k reads.place z y.0 q.0 there q.1 y.1 ∙ ap (λ n. n / block) (place.0 ∙ sym l.2) in
          let one = ap (marks_reader h.block y.0.timing.len q.0.node (r.passed / block)) q.1 ∙ marked q.0.node q.0.place y.0.timing.len (r.passed / block) refl stands in
          (q.0.node, y.0, y.1, same_some (sym q.2.names ∙ l.1), omega (arith, one, input_counts (marks_reader h.block y.0.timing.len q.0.node (r.passed / block)) z reads.place q.0 q.1))
        where
          input_counts : (f : Option heap.Reader → ℕ) (z : Node B) (i : ℕ) (q : heap.Reader) → input_at z i ≡ Some q → f (input_at z i) ≤ sum_by f z.inputs
          input_counts f z i q at = elim (cases_lt i (length z.inputs)) [
            | inl within ↦ get_or-le-sum_by f z.inputs i None within
            | inr past ↦ absurd (none_some (sym (Rattle.std.proofs.lemmas.List.get_or_past z.inputs i None past) ∙ at))
          ]

      by_part : has_come block (done k) reads.input ≡ false → (j : ℕ) × (s : RowSound) × (slice_get reads.input.captured j ≡ Some s) × Has (reader_of s.row 0) r → IsRead k z r
      by_part wait s =
          let o = in_reader_of s.1.row 0 r s.3 in
          let i = to_filter (λ (i : Input). not (has_come block (done k) i)) (X k).inputs reads.place reads.input reads.there (ap not wait) in
          let p = zip-left (KeepsPart row) z.waiting (waiting_inputs block (X k) (done k)) i.0 reads.input (unit.waiting reads.unfinished) i.1 in
          let c = zip-left (Keeps row) p.0.captured reads.input.captured s.0 s.1 p.2 s.2 in
          by_node c.0.node c.0 refl i.0 p.0 s.0 p.1 c.1 (sym o.0 ∙ c.2.names) o.1
        where
          by_node : (node : Option ℕ) (c : Captured) → c.node ≡ node → (a : ℕ) (p : Waiting B) (j : ℕ) → slice_get z.waiting a ≡ Some p → slice_get p.captured j ≡ Some c → Some r.row ≡ option_map row c.node → r.passed ≡ 0 → IsRead k z r
          by_node None c is a p j waits at names zero_passed = absurd (none_some (sym (names ∙ ap (option_map row) is)))
          by_node (Some v) c is a p j waits at names zero_passed =
              let y = found k v (Hold (record { unit = z; there = there; place = a; part = p; waits = waits; position = j; captured = c; one = at; of = is })) in
              let first : r.passed / block ≡ 0 = ap (λ n. n / block) zero_passed ∙ zero-div block in
              let one : marks_captured v (r.passed / block) c ≡ 1 =
              ap (λ o. option_map_or {U = ℕ} (λ n. cond {A = ℕ} (nat_eq n v && nat_eq (r.passed / block) 0) 1 0) o 0) is
              ∙ ap (λ b. cond {A = ℕ} b 1 0) (and_from _ _ (eq-eqb v v refl) (eq-eqb (r.passed / block) 0 first)) in
              (v, y.0, y.1, sym (same_some (names ∙ ap (option_map row) is)), omega (arith, one, item-le (marks_captured v (r.passed / block)) p.captured j c at, item-le (λ (p : Waiting B). sum_by (marks_captured v (r.passed / block)) p.captured) z.waiting a p waits))

      by_test : (b : Bool) → has_come block (done k) reads.input ≡ b → IsRead k z r
      by_test true come = by_input come (in_left reads.input.sound (need block (X k) reads.input (done k)) r (subst (λ rs. Has rs r) (reads_come block (X k) (done k) reads.input come) reads.reads))
      by_test false wait = by_part wait (in_flat_map (λ (s : RowSound). reader_of s.row 0) reads.input.captured r (subst (λ rs. Has rs r) (reads_wait block (X k) (done k) reads.input wait) reads.reads))

  -- a held row has a unit
  pub held_unit : (n y : ℕ) → HeldIn block rows filled n y → (u : ℕ) × (x : Node B) × (node_at h u ≡ Some x) × (row u ≡ y)
  held_unit zero y held = m.roots y (is_root held.0 held.1)
    where
      is_root : (r : Reader) → IsOutside block rows filled y r → IsRoot block (row_at rows y) (slice_index filled y)
      is_root r has = by_test (is_channel (row_at rows y).kind && is_open block (row_at rows y) (slice_index filled y)) refl has
        where
          by_test : (b : Bool) → (is_channel (row_at rows y).kind && is_open block (row_at rows y) (slice_index filled y)) ≡ b → Has (cond b (record { row = y; passed = computed block (row_at rows y) (slice_index filled y) } ∷ []) []) r → IsRoot block (row_at rows y) (slice_index filled y)
          by_test true e there = and_parts _ _ e
          by_test false e there = absurd there
  held_unit (suc n) y held =
      let k = held_unit n held.0 held.1 in
      let u = reads_unit k.0 k.1 held.2 k.2 (subst (λ w. ReadsBy block rows filled w held.2) (sym k.3) held.3) in
      (u.0, u.1, u.2, u.3 ∙ held.4)

  -- ---- kept blocks are live blocks

  module _ (order : IsInOrder block rows filled) (u : ℕ) (x : Node B) (there : node_at h u ≡ Some x) where
    abbrev own : ℕ → Option (Node B) → ℕ
    own j o = option_map_or {U = ℕ} (own_in h.block x.timing.len u j) o 0

    some_block : 0 < block
    some_block = omega (arith, laws.positive, m.size)

    -- a reader of the row that stands in a filled block is one that the list has there
    finds : (r : Reader) → Has (readers block rows filled) r → r.row ≡ row u → r.passed / block < x.filled → 0 < readers_in h u x (r.passed / block)
    finds r has same before = elim (reader_is block rows filled order r has) [
      | inl outside ↦ absurd (too_late outside)
      | inr by ↦ by_row by
    ]
      where
        too_late : IsOutside block rows filled r.row r → ⊥
        too_late outside = by_test (is_channel (row_at rows r.row).kind && is_open block (row_at rows r.row) (slice_index filled r.row)) refl outside
          where
            whole : (n : ℕ) → n * block / block ≡ n
            whole n = ap (λ k. k / block) (omega arith) ∙ div-mul-add n block 0 some_block

            by_test : (b : Bool) → (is_channel (row_at rows r.row).kind && is_open block (row_at rows r.row) (slice_index filled r.row)) ≡ b → Has (cond b (record { row = r.row; passed = computed block (row_at rows r.row) (slice_index filled r.row) } ∷ []) []) r → ⊥
            by_test false e there = absurd there
            by_test true e (inr later) = absurd later
            by_test true e (inl is) =
                let n = slice_index filled r.row in
                let len = (row_at rows r.row).timing.len in
                let passed : r.passed ≡ n * block = omega (arith, ap (λ (q : Reader). q.passed) is, not_past block n len some_block (ltb-true n (blocks_of block len) (and_parts _ _ e).1)) in
                omega (arith, before, (m.units u x there).filled, ap (slice_index filled) same, ap (λ k. k / block) passed, whole n)

        among : (k : ℕ) (z : Node B) → node_at h k ≡ Some z → (j : ℕ) → own j (node_at h k) ≤ sum_by (own j) h.nodes
        among k z is j = elim (cases_lt k (length h.nodes)) [
          | inl within ↦ get_or-le-sum_by (own j) h.nodes k None within
          | inr past ↦ absurd (none_some (sym (Rattle.std.proofs.lemmas.List.get_or_past h.nodes k None past) ∙ is))
        ]

        by_row : ((w : ℕ) × IsHeld block rows filled w × ReadsBy block rows filled w r) → 0 < readers_in h u x (r.passed / block)
        by_row by =
            let k = held_unit by.1.0 by.0 by.1.1 in
            let q = reads_unit k.0 k.1 r k.2 (subst (λ w. ReadsBy block rows filled w r) (sym k.3) by.2) in
            let mine = m.apart q.0 u q.1 x q.2 there (q.3 ∙ same) in
            let is : q.1 ≡ x = same_some (sym q.2 ∙ ap (node_at h) mine ∙ there) in
            let e : own_in h.block q.1.timing.len q.0 (r.passed / block) k.1 ≡ own (r.passed / block) (node_at h k.0) =
            (λ i. own_in h.block (Timing.len (Node.timing (is i))) (mine i) (r.passed / block) k.1) ∙ sym (ap (own (r.passed / block)) k.2) in
            omega (arith, q.4, e, among k.0 k.1 k.2 (r.passed / block))

    -- and the other way round
    comes : (j : ℕ) → j < x.filled → 0 < readers_in h u x j → (r : Reader) × Has (readers block rows filled) r × (r.row ≡ row u) × (r.passed / block ≡ j)
    comes j before some = elim (cases_lt 0 (slice_index x.outside j)) [
      | inl outside ↦ absurd (omega (arith, before, ((m.units u x there).outside_root j outside).1, (m.units u x there).filled))
      | inr none ↦ by_unit (some_term (own j) None h.nodes (omega (arith, some, none)))
    ]
      where
        by_unit : ((k : ℕ) × (k < length h.nodes) × (0 < own j (get_or h.nodes k None))) → (r : Reader) × Has (readers block rows filled) r × (r.row ≡ row u) × (r.passed / block ≡ j)
        by_unit k = by_node (node_at h k.0) refl k.2
          where
            by_node : (o : Option (Node B)) → node_at h k.0 ≡ o → 0 < own j o → (r : Reader) × Has (readers block rows filled) r × (r.row ≡ row u) × (r.passed / block ≡ j)
            by_node None is more = absurd (omega (arith, more))
            by_node (Some z) is more =
                let r = own_reads k.0 u j z x is there more in
                (r.0, is_reader block rows filled order r.0 (inr (row k.0, unit_held k.0 z is, r.1)), r.2, r.3)

    pub kept_is_live : kept_of h u (Some x) ≡ live_in block (readers block rows filled) filled (row u)
    kept_is_live =
        let held = unit_held u x there in
        let first : first_kept h u x ≡ least_passed (row u) (readers block rows filled) (x.filled * block) / block = first_read-least (readers_in h u x) block x.filled (row u) (readers block rows filled) some_block finds comes in
        let many : x.filled ≡ slice_index filled (row u) = (m.units u x there).filled in
        ap (λ k. x.filled - k) first
        ∙ ap (λ n. n - least_passed (row u) (readers block rows filled) (n * block) / block) many
        ∙ ap (λ b. cond {A = ℕ} b (slice_index filled (row u) - least_passed (row u) (readers block rows filled) (slice_index filled (row u) * block) / block) 0) (sym (is_held_in block rows filled order held.0 (row u) held.1))
