-- What a contract sees where there are more places.
use Rattle.std.proofs.Common.{◌≡◌, ℕ, zero, suc, ◌+◌, List, map, Option, None, Some, refl, sym, ap, ◌∙◌, arith}
use Rattle.std.specs.List.{range_with_len}
use Rattle.std.specs.Option.{option_map}
use Rattle.ny_list.specs.Store.{CursorState}
use Rattle.ny_list.proofs.IndexLemmas.{tab_same}
use Rattle.ny_heap.specs.declared.table.Unit.{Unit as UnitData}
use Rattle.ny_heap.specs.declared.table.Table.{Table}
use Rattle.ny_heap.specs.Table.{unit_at}
use Rattle.ny_heap.specs.Heap.{HeapState, node_at}
use Rattle.ny_heap.specs.Reach.{Uses, Read, Hold, LeadsIn, IsTrimmed}
use Rattle.ny_heap.specs.View.{node_of, state_with, outside_in, filled_in}
use Rattle.ny_heap.specs.Making.{Grows}
use Rattle.ny_heap.proofs.RoomLemmas.{unit, filled, mark, own, in_hand}
use Rattle.ny_heap.proofs.StepLemmas.{node_at-with}

module _ (old new : Table) (g : Grows old new) where
  outside : (cs : List (Option CursorState)) (v j : ℕ) → outside_in new cs v j ≡ outside_in old cs v j
  outside cs v j = omega (arith, mark old new g v j, own old new g v j, in_hand old new g cs v j)

  module _ (B : Type 0) (bs : ℕ → List B) (cs : List (Option CursorState)) (fills peak : ℕ) where
    node_kept : (v : ℕ) (o : Option UnitData) → option_map (node_of {B = B} bs new cs v) o ≡ option_map (node_of {B = B} bs old cs v) o
    node_kept v None = refl
    node_kept v (Some x) = λ i. Some (record (node_of {B = B} bs old cs v x) { filled = filled old new g v i; outside = marks i })
      where
        marks : map (outside_in new cs v) (range_with_len 0 (filled_in new.store v + 1)) ≡ map (outside_in old cs v) (range_with_len 0 (filled_in old.store v + 1))
        marks =
            tab_same (outside_in new cs v) (outside_in old cs v) (filled_in new.store v + 1) 0 (λ j h. outside cs v j)
            ∙ ap (λ k. map (outside_in old cs v) (range_with_len 0 (k + 1))) (filled old new g v)

    -- a contract sees nothing of them
    pub node_grown : (v : ℕ) → node_at {B = B} (state_with bs new cs fills peak) v ≡ node_at (state_with bs old cs fills peak) v
    node_grown v =
        node_at-with B bs new cs fills peak v ∙ ap (option_map (node_of {B = B} bs new cs v)) (unit old new g v) ∙ node_kept v (unit_at old v)
        ∙ sym (node_at-with B bs old cs fills peak v)

-- ---- heaps whose units are the same

module _ (B : Type 0) (a b : HeapState B) (same : (v : ℕ) → node_at b v ≡ node_at a v) where
  uses : (u v : ℕ) → Uses a u v → Uses b u v
  uses u v (Read r) = Read (record { unit = r.unit; there = same u ∙ r.there; place = r.place; reader = r.reader; input = r.input; of = r.of })
  uses u v (Hold r) = Hold (record { unit = r.unit; there = same u ∙ r.there; place = r.place; part = r.part; waits = r.waits; position = r.position; captured = r.captured; one = r.one; of = r.of })

  leads : (n u v : ℕ) → LeadsIn a n u v → LeadsIn b n u v
  leads zero u v e = e
  leads (suc n) u v walk = (walk.0, uses u walk.0 walk.1, leads n walk.0 v walk.2)

  pub trimmed_same : (new : HeapState B) → b.pool ≡ a.pool → b.block ≡ a.block → b.fills ≡ a.fills → b.peak ≡ a.peak → IsTrimmed b new → IsTrimmed a new
  trimmed_same new pool block fills peak t = record {
    size = record { pool = t.size.pool ∙ pool; block = t.size.block ∙ block };
    fills = t.fills ∙ fills;
    peak = t.peak ∙ peak;
    kept = λ v y at. sym (same v) ∙ t.kept v y at;
    gone = λ v x at none reach. t.gone v x (same v ∙ at) none (reach.0, record { unit = reach.1.unit; there = same reach.0 ∙ reach.1.there; some = reach.1.some }, (reach.2.0, leads reach.2.0 reach.0 v reach.2.1));
  }
