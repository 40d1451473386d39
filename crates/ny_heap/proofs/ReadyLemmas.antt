-- A unit that a contract calls ready can fill a block.
use Rattle.std.proofs.Common.{◌≡◌, ℕ, nat_lt, false, List, [], length, Option, None, Some, IsSomeAnd, IsTrue, sym, ap, subst, ◌∙◌, inl, inr, ◌+◌, ◌*◌, ◌<◌, ◌≤◌, ◌∷◌, refl, arith}
use Rattle.std.specs.Option.{option_map_or}
use Rattle.ny_list.specs.Store.{ListState}
use Rattle.ny_list.proofs.IndexLemmas.{same_some}
use Rattle.ny_heap.specs.declared.table.Table.{Table}
use Rattle.ny_heap.specs.Heap.{Node, node_at, is_open, blocks_of}
use Rattle.ny_heap.specs.declared.table.Unit.{Unit as UnitData}
use Rattle.ny_heap.specs.Steps.{want_of, IsSettledUnit}
use Rattle.ny_heap.specs.Table.{unit_at, IsThere, is_open_in}
use Rattle.ny_heap.specs.View.{node_of, state_of, filled_in, IsHeap, last_stop_in, waiting_with}
use Rattle.ny_heap.specs.Filling.{CanFill}
use Rattle.ny_heap.proofs.ViewLemmas.{node_of_unit, filled_is}
use Rattle.ny_heap.proofs.FirstLemmas.{some_and, open_is, want_is}
use Rattle.ny_num.specs.Grid.{index_at}
use Rattle.ny_heap.specs.Work.{waits_in}
use Rattle.ny_heap.specs.declared.sound.Sound.{Sound}

-- an open unit has a block left to fill
opened_in : (B : Type 0) (bs : ℕ → List B) (t : Table) (fills peak u : ℕ) → (there : IsThere t u) → IsSomeAnd (node_at {B = B} (state_of bs t fills peak) u) (λ x. IsTrue (is_open t.block x)) → IsTrue (is_open_in t u)
opened_in B bs t fills peak u there opened =
    let y = some_and _ _ opened in
    let same : y.0 ≡ node_of bs t [] u there.unit = same_some (sym y.1 ∙ node_of_unit B bs t fills peak u there.unit there.there) in
    let is : is_open_in t u ≡ nat_lt (filled_in t.store u) (blocks_of t.block there.unit.timing.len) =
    ap (λ (o : Option ListState). option_map_or (λ l. nat_lt (length l.values) (blocks_of t.block l.len)) o false) there.listed
    ∙ (λ i. nat_lt (sym (filled_is t.store u there.list there.listed) i) (blocks_of t.block (there.len i))) in
    is ∙ ap (λ (k : Node B). is_open t.block k) (sym same) ∙ y.2

pub can_fill : (B : Type 0) (bs : ℕ → List B) (t : Table) (fills peak u : ℕ) → IsHeap t → IsSomeAnd (node_at {B = B} (state_of bs t fills peak) u) (λ x. IsTrue (is_open t.block x)) → want_of {B = B} (state_of bs t fills peak) u ≡ None → CanFill t u
can_fill B bs t fills peak u heap opened ready =
    let there = (open_is B bs t fills peak u heap.table opened).2 in
    record {
      heap = heap;
      there = there;
      opened = opened_in B bs t fills peak u there opened;
      computed = sym (want_is B bs t heap.table fills peak u there.unit there.there) ∙ ready;
    }

-- what waits for nothing keeps nothing
none_waits : (B : Type 0) (bs : List B) (kept : List (List Sound)) → waiting_with bs kept ≡ [] → length kept ≤ length bs → length kept ≡ 0
none_waits B [] kept none few = omega (arith, few)
none_waits B (b ∷ bs) [] none few = refl
none_waits B (b ∷ bs) (ss ∷ kept) none few = absurd (omega (arith, ap length none))

-- a unit that is settled is not needed past the stop of its last input
pub settled_until : (B : Type 0) (bs : ℕ → List B) (t : Table) (u : ℕ) (x : UnitData) → IsSettledUnit {B = B} t.block (node_of bs t [] u x) → length (waits_in x.work) ≤ length (bs u) → 0 < length (waits_in x.work)
    → x.timing.start + (filled_in t.store u + 1) * t.block ≤ index_at (last_stop_in 0 x.inputs.items) x.timing.rate
settled_until B bs t u x settled few some = elim settled.1 [
  | inl none ↦ absurd (omega (arith, some, none_waits B (bs u) (waits_in x.work) none few))
  | inr late ↦ late
]

-- the unit that is filled is settled
pub still_settled : (B : Type 0) (bs : ℕ → List B) (t : Table) (fills peak u : ℕ) → CanFill t u → (x : UnitData) → unit_at t u ≡ Some x → IsSomeAnd (node_at {B = B} (state_of bs t fills peak) u) (λ y. IsSettledUnit t.block y) → IsSettledUnit {B = B} t.block (node_of bs t [] u x)
still_settled B bs t fills peak u ready x at settled =
    let y = some_and _ _ settled in
    subst (λ (z : Node B). IsSettledUnit t.block z) (same_some (sym y.1 ∙ node_of_unit B bs t fills peak u x at)) y.2
