-- A fill leaves alone what stands higher than its unit.
use Rattle.std.proofs.Common.{◌≡◌, ◌⊎◌, inl, inr, ℕ, zero, suc, ◌+◌, Bool, true, false, cond, nat_lt, List, [], ◌∷◌, ◌++◌, ◌<◌, length, map, get_or, slice_get, slice_index, Option, None, Some, sum, refl, sym, ap, subst, ◌∙◌, arith}
use Rattle.std.proofs.lemmas.Bool.{cases_eq}
use Rattle.std.proofs.lemmas.List.{length-map}
use Rattle.std.specs.List.{fold}
use Rattle.std.specs.Option.{option_map_or}
use Rattle.ny_check.specs.Code.{Code}
use Rattle.ny_heap.specs.Heap.{Reader, Waiting, Memory, Node, HeapState, node_at, input_at, blocks_of, taken_after}
use Rattle.ny_heap.specs.Means.{KeepsMeaning}
use Rattle.ny_heap.specs.Reach.{Uses, Read, Hold, HeapLaws}
use Rattle.ny_heap.specs.Steps.{Fills, filled_node, moved}
use Rattle.ny_hands.specs.Frames.{part_is}
use Rattle.ny_hands.specs.Hands.{marks_at}
use Rattle.ny_hands.specs.declared.branch.Branch.{Branch}
use Rattle.ny_hands.proofs.OptionLemmas.{same_at}
use Rattle.ny_hands.proofs.HeapLemmas.{reached_stays}
use Rattle.ny_hands.proofs.HandLemmas.{marks_there, trimmed_marks}
use Rattle.ny_trace.specs.Heights.{Ranks}
use Rattle.ny_walk.specs.Parts.{AreKept, HasPartsOf, AllPartsOf}
use Rattle.ny_walk.specs.Below.{Continues, Drives}
use Rattle.ny_walk.proofs.StayLemmas.{ChangesOne, high_reached, held_reached}

-- an input of the filled unit is one that it had
moved_of : {B : Type 0} (block done : ℕ) (x : Node B) (o : Option Reader) (r : Reader) → moved block x done o ≡ Some r → (s : Reader) × (o ≡ Some s) × (s.node ≡ r.node)
moved_of block done x None r e = cc
moved_of block done x (Some s) r e = by_more (nat_lt (taken_after block x.kind x.timing s.timing done) s.timing.len) e
  where
    by_more : (b : Bool) → cond b (Some (record s { place = taken_after block x.kind x.timing s.timing done })) None ≡ Some r → (q : Reader) × (Some s ≡ Some q) × (q.node ≡ r.node)
    by_more true p = (s, refl, ap (λ (q : Reader). q.node) (same_at _ _ _ refl p))
    by_more false p = cc

mapped_of : (f : Option Reader → Option Reader) → ((o : Option Reader) (r : Reader) → f o ≡ Some r → (s : Reader) × (o ≡ Some s) × (s.node ≡ r.node)) → (os : List (Option Reader)) (i : ℕ) (r : Reader) → get_or (map f os) i None ≡ Some r → (s : Reader) × (get_or os i None ≡ Some s) × (s.node ≡ r.node)
mapped_of f of [] i r e = cc
mapped_of f of (o ∷ os) zero r e = of o r e
mapped_of f of (o ∷ os) (suc i) r e = mapped_of f of os i r e

filled_input : {B : Type 0} (block : ℕ) (memory : Memory) (x : Node B) (i : ℕ) (r : Reader) → input_at (filled_node block memory x) i ≡ Some r → (s : Reader) × (input_at x i ≡ Some s) × (s.node ≡ r.node)
filled_input {B} block memory x i r e = by_open (nat_lt (x.filled + 1) (blocks_of block x.timing.len)) e
  where
    by_open : (b : Bool) → get_or (map (cond b (moved block x (x.filled + 1)) (λ r. None)) x.inputs) i None ≡ Some r → (s : Reader) × (input_at x i ≡ Some s) × (s.node ≡ r.node)
    by_open true p = mapped_of (moved block x (x.filled + 1)) (moved_of block (x.filled + 1) x) x.inputs i r p
    by_open false p = mapped_of (λ r. None) (λ o s q. cc) x.inputs i r p

filled_waiting : {B : Type 0} (block : ℕ) (memory : Memory) (x : Node B) (i : ℕ) (p : Waiting B) → slice_get (filled_node block memory x).waiting i ≡ Some p → slice_get x.waiting i ≡ Some p
filled_waiting block memory x i p e = by_open (nat_lt (x.filled + 1) (blocks_of block x.timing.len)) e
  where
    by_open : (b : Bool) → slice_get (cond b x.waiting []) i ≡ Some p → slice_get x.waiting i ≡ Some p
    by_open true q = q
    by_open false q = cc

pub sum_with_none : (ns : List ℕ) → sum (ns ++ 0 ∷ []) ≡ sum ns
sum_with_none ns = from 0 ns
  where
    from : (acc : ℕ) (ns : List ℕ) → fold ◌+◌ acc (ns ++ 0 ∷ []) ≡ fold ◌+◌ acc ns
    from acc [] = omega arith
    from acc (n ∷ ns) = from (acc + n) ns

mark_with_none : (ns : List ℕ) (j : ℕ) → slice_index (ns ++ 0 ∷ []) j ≡ slice_index ns j
mark_with_none [] zero = refl
mark_with_none [] (suc j) = refl
mark_with_none (n ∷ ns) zero = refl
mark_with_none (n ∷ ns) (suc j) = mark_with_none ns j

-- ---- between the fill and what is removed

module _ {B : Type 0} (old new : HeapState B) (u : ℕ) (fills : Fills old new u) where
  pub fill_one : ChangesOne old fills.between u fills.filled.unit (filled_node old.block fills.filled.memory fills.filled.unit)
  fill_one = record { was = fills.filled.was; after = fills.filled.after; outside = sum_with_none fills.filled.unit.outside; others = fills.filled.others }

  -- a unit that is left, by what it was
  pub left_node : (v : ℕ) (z : Node B) → node_at new v ≡ Some z → (x : Node B) × (node_at old v ≡ Some x) × ((z ≡ x) ⊎ ((v ≡ u) × (z ≡ filled_node old.block fills.filled.memory x)))
  left_node v z at = elim (cases_eq v u) [
    | inl same ↦ (
      fills.filled.unit,
      ap (node_at old) same ∙ fills.filled.was,
      inr (same, same_at (node_at fills.between v) z (filled_node old.block fills.filled.memory fills.filled.unit) (fills.trimmed.kept v z at) (ap (node_at fills.between) same ∙ fills.filled.after)),
    )
    | inr other ↦ (z, sym (fills.filled.others v other) ∙ fills.trimmed.kept v z at, inl refl)
  ]

  -- what a unit uses it used before
  pub uses_before : (p q : ℕ) → Uses new p q → Uses old p q
  uses_before p q (Read r) = let x = left_node p r.unit r.there in by_unit x.0 x.1 x.2
    where
      by_unit : (x : Node B) → node_at old p ≡ Some x → (r.unit ≡ x) ⊎ ((p ≡ u) × (r.unit ≡ filled_node old.block fills.filled.memory x)) → Uses old p q
      by_unit x at (inl is) = Read (record { unit = x; there = at; place = r.place; reader = r.reader; input = ap (λ (y : Node B). input_at y r.place) (sym is) ∙ r.input; of = r.of })
      by_unit x at (inr is) =
          let input = filled_input old.block fills.filled.memory x r.place r.reader (ap (λ (y : Node B). input_at y r.place) (sym is.1) ∙ r.input) in
          Read (record { unit = x; there = at; place = r.place; reader = input.0; input = input.1; of = input.2 ∙ r.of })
  uses_before p q (Hold r) = let x = left_node p r.unit r.there in by_unit x.0 x.1 x.2
    where
      by_unit : (x : Node B) → node_at old p ≡ Some x → (r.unit ≡ x) ⊎ ((p ≡ u) × (r.unit ≡ filled_node old.block fills.filled.memory x)) → Uses old p q
      by_unit x at is = Hold (record { unit = x; there = at; place = r.place; part = r.part; waits = waited is; position = r.position; captured = r.captured; one = r.one; of = r.of })
        where
          waited : (r.unit ≡ x) ⊎ ((p ≡ u) × (r.unit ≡ filled_node old.block fills.filled.memory x)) → slice_get x.waiting r.place ≡ Some r.part
          waited (inl is) = ap (λ (y : Node B). slice_get y.waiting r.place) (sym is) ∙ r.waits
          waited (inr is) = filled_waiting old.block fills.filled.memory x r.place r.part (ap (λ (y : Node B). slice_get y.waiting r.place) (sym is.1) ∙ r.waits)

  -- a part that waits waited before
  pub waited_before : (v : ℕ) (z : Node B) (i : ℕ) (p : Waiting B) → node_at new v ≡ Some z → slice_get z.waiting i ≡ Some p → (x : Node B) × (node_at old v ≡ Some x) × (slice_get x.waiting i ≡ Some p)
  waited_before v z i p at is = let x = left_node v z at in (x.0, x.1, by_unit x.0 x.2)
    where
      by_unit : (x : Node B) → (z ≡ x) ⊎ ((v ≡ u) × (z ≡ filled_node old.block fills.filled.memory x)) → slice_get x.waiting i ≡ Some p
      by_unit x (inl same) = ap (λ (y : Node B). slice_get y.waiting i) (sym same) ∙ is
      by_unit x (inr later) = filled_waiting old.block fills.filled.memory x i p (ap (λ (y : Node B). slice_get y.waiting i) (sym later.1) ∙ is)

  pub fill_marks : (v j : ℕ) → marks_at new v j ≡ marks_at old v j
  fill_marks v j = trimmed_marks fills.between new fills.trimmed v j ∙ between_marks
    where
      between_marks : marks_at fills.between v j ≡ marks_at old v j
      between_marks = elim (cases_eq v u) [
        | inl same ↦
            marks_there fills.between v (filled_node old.block fills.filled.memory fills.filled.unit) j (ap (node_at fills.between) same ∙ fills.filled.after)
            ∙ mark_with_none fills.filled.unit.outside j
            ∙ sym (marks_there old v fills.filled.unit j (ap (node_at old) same ∙ fills.filled.was))
        | inr other ↦ ap (λ o. option_map_or (λ (y : Node B). slice_index y.outside j) o 0) (fills.filled.others v other)
      ]

filled_inputs : {B : Type 0} (block : ℕ) (memory : Memory) (x : Node B) → length (filled_node block memory x).inputs ≡ length x.inputs
filled_inputs block memory x = length-map x.inputs (cond (nat_lt (x.filled + 1) (blocks_of block x.timing.len)) (moved block x (x.filled + 1)) (λ r. None))

-- the parts that wait are those that did
pub fill_parts : (code : Code) (old new : HeapState Branch) (u : ℕ) → Fills old new u → AllPartsOf code old → AllPartsOf code new
fill_parts code old new u fills all v z at i p is = let x = left_node old new u fills v z at in by_unit x.0 x.1 x.2
  where
    by_unit : (x : Node Branch) → node_at old v ≡ Some x → (z ≡ x) ⊎ ((v ≡ u) × (z ≡ filled_node old.block fills.filled.memory x)) → (p.branch.expr.0 < length code.nodes) × (p.branch.env.sound_rate ≡ z.timing.rate) × AreKept 0 p.branch.names (length p.captured) × (0 < length z.inputs)
    by_unit x there (inl same) = subst (λ (y : Node Branch). HasPartsOf code y) (sym same) (all v x there) i p is
    by_unit x there (inr later) =
        let was = all v x there i p (filled_waiting old.block fills.filled.memory x i p (ap (λ (y : Node Branch). slice_get y.waiting i) (sym later.1) ∙ is)) in
        (was.0, was.1 ∙ ap (λ (y : Node Branch). y.timing.rate) (sym later.1), was.2, omega (arith, was.3, ap (λ (y : Node Branch). length y.inputs) later.1 ∙ filled_inputs old.block fills.filled.memory x))

-- ---- what a fill leaves

module _ (code : Code) (tall : ℕ → ℕ) (old new : HeapState Branch) (laws : HeapLaws old) (rank : ℕ → ℕ) (ranks : Ranks tall old rank) (u : ℕ) (fills : Fills old new u) (keeps : KeepsMeaning old new) where
  unit : Node Branch
  unit = fills.filled.unit

  one : ChangesOne old fills.between u fills.filled.unit (filled_node old.block fills.filled.memory fills.filled.unit)
  one = fill_one old new u fills

  held_node : (v : ℕ) (x : Node Branch) → node_at old v ≡ Some x → (y : Node Branch) × (node_at fills.between v ≡ Some y) × Continues x y
  held_node v x there = elim (cases_eq v u) [
    | inl same ↦
        let is : fills.filled.unit ≡ x = same_at (node_at old v) fills.filled.unit x (ap (node_at old) same ∙ fills.filled.was) there in
        (filled_node old.block fills.filled.memory fills.filled.unit, ap (node_at fills.between) same ∙ fills.filled.after, subst (λ z. Continues z (filled_node old.block fills.filled.memory fills.filled.unit)) is (record { timing = refl; filled = omega arith; outside = sum_with_none fills.filled.unit.outside }))
    | inr other ↦ (x, fills.filled.others v other ∙ there, record { timing = refl; filled = omega arith; outside = refl })
  ]

  pub fill_more : (x y : Node Branch) → node_at old u ≡ Some x → node_at new u ≡ Some y → y.filled ≡ x.filled + 1
  fill_more x y there after =
      let before : x ≡ fills.filled.unit = same_at (node_at old u) x fills.filled.unit there fills.filled.was in
      let now : y ≡ filled_node old.block fills.filled.memory fills.filled.unit = same_at (node_at fills.between u) y (filled_node old.block fills.filled.memory fills.filled.unit) (fills.trimmed.kept u y after) fills.filled.after in
      ap (λ (z : Node Branch). z.filled) now ∙ ap (λ (z : Node Branch). z.filled + 1) (sym before)

  pub Fills-drives : Drives code tall old new u rank
  Fills-drives = record {
    below = record {
      later = rank;
      ranks = record {
        falls = λ p q uses. ranks.falls p q (uses_before old new u fills p q uses);
        room = λ v z i p at is. let x = waited_before old new u fills v z i p at is in ranks.room v x.0 i p x.1 x.2;
      };
      pool = fills.trimmed.size.pool ∙ fills.filled.size.pool;
      block = fills.trimmed.size.block ∙ fills.filled.size.block;
      same = λ v x there high.
          (reached_stays fills.between new fills.trimmed v x (fills.filled.others v (λ same. omega (arith, high, ap rank same)) ∙ there) (high_reached old fills.between laws rank ranks.falls u fills.filled.unit (filled_node old.block fills.filled.memory fills.filled.unit) one v x there high), refl);
      held = λ v x there by.
          let node = held_node v x there in
          (node.0, reached_stays fills.between new fills.trimmed v node.0 node.1 (held_reached old fills.between laws rank ranks.falls u fills.filled.unit (filled_node old.block fills.filled.memory fills.filled.unit) one v by), refl, node.2);
      high = λ v y there high. let x = left_node old new u fills v y there in (x.0, x.1, refl);
      marks = fill_marks old new u fills;
      means = λ w means. record { later = w; means = keeps (part_is code) w means; extends = λ v x there by. refl };
    };
    more = fill_more;
  }
