-- What it is to a contract that a unit fills a block.
use Rattle.std.proofs.Common.{◌≡◌, ◌≢◌, inl, inr, ℕ, ◌+◌, ◌-◌, ◌^◌, ◌<◌, ◌&&◌, min, max, nat_lt, cond, Bool, true, false, List, [], ◌∷◌, ◌++◌, length, map, set, Option, None, Some, IsSome, sum, refl, sym, ap, subst, ◌∙◌, arith, ℤ}
use Rattle.std.specs.List.{range_with_len}
use Rattle.std.proofs.lemmas.Bool.{cases_eq}
use Rattle.std.proofs.lemmas.List.{get_or-set_same, get_or-set_other}
use Rattle.std.proofs.lemmas.List.FromFn.{length-map-range_with_len}
use Rattle.std.proofs.lemmas.Simd.{map-map}
use Rattle.ny_list.specs.Store.{ListState, list_at}
use Rattle.ny_list.proofs.IndexLemmas.{same_some, tab_get, tab_same, tab_push}
use Rattle.ny_heap.specs.declared.table.Unit.{Unit as UnitData}
use Rattle.ny_heap.specs.declared.table.Table.{Table}
use Rattle.ny_heap.specs.Heap.{Reader, Node, HeapState, node_at, blocks_of, taken_after, live_of}
use Rattle.ny_heap.specs.Reach.{Uses, Read, Hold, ReadOutside, IsTrimmed}
use Rattle.ny_heap.specs.Steps.{moved, filled_node, Fills}
use Rattle.ny_heap.specs.declared.sound.Sound.{Sound}
use Rattle.ny_heap.specs.Work.{kind_of, memory_in, waits_in}
use Rattle.ny_heap.specs.Table.{unit_at, input_of, readers_of}
use Rattle.ny_heap.specs.View.{node_of, state_of, waiting_with, outside_in, filled_in}
use Rattle.ny_heap.specs.Filling.{CanFill, FillsBlock, moved_in}
use Rattle.ny_heap.proofs.TableLemmas.{place_within}
use Rattle.ny_heap.proofs.CountLemmas.{some_is, is_some_of}
use Rattle.ny_heap.proofs.WaitLemmas.{waits_none}
use Rattle.ny_heap.proofs.ViewLemmas.{node_of_unit, unit_of_node, used_there, uses_cursor}
use Rattle.ny_heap.proofs.LawLemmas.{some_term}
use Rattle.ny_heap.proofs.StepLemmas.{trimmed_by}
use Rattle.ny_heap.proofs.FillLemmas.{x, z, unit_was, unit_now, same_kind, block_same, pool_same, filled_new, other_was, other_filled, input_now, outside_same, outside_gone, outside_last}

-- what a unit uses is seen at the unit alone
uses_same : {B : Type 0} (h g : HeapState B) (u v : ℕ) → node_at h u ≡ node_at g u → Uses h u v → Uses g u v
uses_same h g u v e (Read r) = Read (record { unit = r.unit; there = sym e ∙ r.there; place = r.place; reader = r.reader; input = r.input; of = r.of })
uses_same h g u v e (Hold r) = Hold (record { unit = r.unit; there = sym e ∙ r.there; place = r.place; part = r.part; waits = r.waits; position = r.position; captured = r.captured; one = r.one; of = r.of })

-- an input once its unit has so many blocks
moved_is : (B : Type 0) (bs : ℕ → List B) (block : ℕ) (t : Table) (u : ℕ) (x : UnitData) (n : ℕ) (o : Option Reader) → moved_in block x n o ≡ (cond (nat_lt n (blocks_of block x.timing.len)) (moved {B = B} block (node_of bs t [] u x) n) (λ r. None)) o
moved_is B bs block t u x n None = by (nat_lt n (blocks_of block x.timing.len))
  where
    by : (b : Bool) → None ≡ (cond b (moved {B = B} block (node_of bs t [] u x) n) (λ r. None)) None
    by true = refl
    by false = refl
moved_is B bs block t u x n (Some r) = by (nat_lt n (blocks_of block x.timing.len))
  where
    by : (b : Bool) → cond (b && nat_lt (taken_after block (kind_of x.work) x.timing r.timing n) r.timing.len) (Some (record r { place = taken_after block (kind_of x.work) x.timing r.timing n })) None ≡ (cond b (moved {B = B} block (node_of bs t [] u x) n) (λ q. None)) (Some r)
    by true = refl
    by false = refl

-- the parts that wait once its unit has so many blocks
waits_then : {B : Type 0} (branches : List B) (wss : List (List Sound)) (b : Bool) → waiting_with branches (cond b wss []) ≡ cond b (waiting_with branches wss) []
waits_then branches wss true = refl
waits_then branches wss false = waits_none branches

module _ (B : Type 0) (bs : ℕ → List B) (old new : Table) (u : ℕ) (out : List ℤ) (f : CanFill old u) (fills : FillsBlock old new u out) where
  abbrev was : UnitData
  was = x old new u out f fills

  abbrev now : UnitData
  now = z old new u out f fills

  n : ℕ
  n = filled_in old.store u + 1

  abbrev next : Option Reader → Option Reader
  next = cond (nat_lt (filled_in old.store u + 1) (blocks_of old.block was.timing.len)) (moved {B = B} old.block (node_of bs old [] u was) (filled_in old.store u + 1)) (λ r. None)

  inputs_now : readers_of now ≡ map next (readers_of was)
  inputs_now =
      tab_same (input_of now) (λ i. next (input_of was i)) (length was.inputs.items) None (λ i h. input_now old new u out f fills i h ∙ moved_is B bs old.block old u was (filled_in old.store u + 1) (input_of was i))
      ∙ sym (map-map next (input_of was) (range_with_len 0 (length was.inputs.items)))

  marks_now : map (outside_in new [] u) (range_with_len 0 (filled_in new.store u + 1)) ≡ map (outside_in old [] u) (range_with_len 0 (filled_in old.store u + 1)) ++ 0 ∷ []
  marks_now =
      ap (λ k. map (outside_in new [] u) (range_with_len 0 (k + 1))) (filled_new old new u out f fills)
      ∙ sym (tab_push (outside_in old [] u) (outside_in new [] u) (filled_in old.store u + 1) 0 0
      (λ k h. sym (outside_same old new u out f fills u k now (unit_now old new u out f fills)))
      (outside_same old new u out f fills u (filled_in old.store u + 1) now (unit_now old new u out f fills) ∙ outside_last old new u out f fills))

  abbrev pub after : Node B
  after = filled_node old.block (memory_in now.work) (node_of bs old [] u was)

  -- the unit as a contract sees it
  pub node_now : node_of {B = B} bs new [] u now ≡ after
  node_now = λ i. record {
    kind = same_kind old new u out f fills i;
    timing = was.timing;
    filled = filled_new old new u out f fills i;
    inputs = inputs_now i;
    memory = memory_in now.work;
    last_stop = Rattle.ny_heap.specs.View.last_stop_in 0 was.inputs.items;
    waiting = (ap (waiting_with (bs u)) fills.waits ∙ waits_then (bs u) (waits_in was.work) (nat_lt (filled_in old.store u + 1) (blocks_of old.block was.timing.len))) i;
    pending = was.pending;
    outside = marks_now i;
  }

  -- another one
  pub node_other : (v : ℕ) (y : UnitData) → v ≢ u → unit_at new v ≡ Some y → node_of {B = B} bs new [] v y ≡ node_of bs old [] v y
  node_other v y ne at = λ i. record (node_of {B = B} bs old [] v y) { filled = other_filled old new u out f fills v y ne at i; outside = marks i }
    where
      marks : map (outside_in new [] v) (range_with_len 0 (filled_in new.store v + 1)) ≡ map (outside_in old [] v) (range_with_len 0 (filled_in old.store v + 1))
      marks =
          tab_same (outside_in new [] v) (outside_in old [] v) (filled_in new.store v + 1) 0 (λ j h. outside_same old new u out f fills v j y at)
          ∙ ap (λ k. map (outside_in old [] v) (range_with_len 0 (k + 1))) (other_filled old new u out f fills v y ne at)

  module _ (count peak later_count later_peak : ℕ) where
    abbrev before : HeapState B
    before = state_of bs old count peak

    abbrev later : HeapState B
    later = state_of bs new later_count later_peak

    -- the heap before what nobody reads any more is removed
    abbrev between : HeapState B
    between = record before { nodes = set before.nodes u (Some after); fills = later_count; peak = later_peak }

    between_here : node_at between u ≡ Some after
    between_here = get_or-set_same before.nodes u (Some after) None (place_within before.nodes u (node_of bs old [] u was) (node_of_unit B bs old count peak u was (unit_was old new u out f fills)))

    between_other : (v : ℕ) → v ≢ u → node_at between v ≡ node_at before v
    between_other v ne = get_or-set_other before.nodes u v (Some after) None ne

    kept : (v : ℕ) (y : UnitData) → unit_at new v ≡ Some y → node_at between v ≡ Some (node_of bs new [] v y)
    kept v y at = elim (cases_eq v u) [
      | inl e ↦
          let same : y ≡ now = same_some (sym at ∙ ap (unit_at new) e ∙ unit_now old new u out f fills) in
          ap (node_at between) e ∙ between_here ∙ ap Some (sym node_now) ∙ (λ i. Some (node_of {B = B} bs new [] (sym e i) (sym same i)))
      | inr ne ↦ between_other v ne ∙ node_of_unit B bs old count peak v y (other_was old new u out f fills v y ne at) ∙ ap Some (sym (node_other v y ne at))
    ]

    roots : (v : ℕ) → ReadOutside between v → IsSome (unit_at new v)
    roots v outside = elim (cases_eq v u) [
      | inl e ↦ is_some_of _ now (ap (unit_at new) e ∙ unit_now old new u out f fills)
      | inr ne ↦ by ne (list_at new.store v) refl
    ]
      where
        by : v ≢ u → (o : Option ListState) → list_at new.store v ≡ o → IsSome (unit_at new v)
        by ne (Some l) e = fills.table.lists v (is_some_of _ l e)
        by ne None e =
            let q = unit_of_node B bs old count peak v outside.unit (sym (between_other v ne) ∙ outside.there) in
            let some = some_term (λ m. m) 0 (map (outside_in old [] v) (range_with_len 0 (filled_in old.store v + 1))) (subst (λ (y : Node B). 0 < sum y.outside) q.2 outside.some) in
            let l = f.heap.table.units v q.0 q.1 in
            let inside : some.0 < filled_in old.store v + 1 = omega (arith, some.1, length-map-range_with_len (outside_in old [] v) 0 (filled_in old.store v + 1)) in
            absurd (omega (arith, some.2, tab_get (outside_in old [] v) (filled_in old.store v + 1) some.0 0 inside, outside_gone old new u out f fills v some.0 l.0 ne l.1 e))

    onward : (p v : ℕ) → IsSome (unit_at new p) → Uses between p v → IsSome (unit_at new v)
    onward p v left uses =
        let y = some_is (unit_at new p) left in
        let same : node_at between p ≡ node_at later p = kept p y.0 y.1 ∙ sym (node_of_unit B bs new later_count later_peak p y.0 y.1) in
        let r = uses_cursor B bs new later_count later_peak p v (uses_same between later p v same uses) in
        let q = some_is (unit_at new r.1.list) (fills.table.lists r.1.list (used_there new [] p r.0 r.1 fills.table r.2 r.3)) in
        is_some_of _ q.0 (ap (unit_at new) (sym r.4) ∙ q.1)

    trimmed : IsTrimmed between later
    trimmed = trimmed_by B bs between new later_count later_peak (pool_same old new u out f fills) (block_same old new u out f fills) refl refl kept roots onward

    pub filled_is : later_count ≡ min (count + 1) (2 ^ 64 - 1) → later_peak ≡ max peak (live_of {B = B} (state_of bs old count peak) + 1) → Fills {B = B} (state_of bs old count peak) (state_of bs new later_count later_peak) u
    filled_is counts peaks = record {
      between = between;
      filled = record {
        size = record { pool = refl; block = refl };
        fills = counts;
        peak = peaks;
        unit = node_of bs old [] u was;
        memory = memory_in now.work;
        was = node_of_unit B bs old count peak u was (unit_was old new u out f fills);
        after = between_here;
        others = between_other;
      };
      trimmed = trimmed;
    }
