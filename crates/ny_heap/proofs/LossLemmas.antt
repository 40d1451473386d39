-- Where no unit is made: there may be more places, and the sounds are spent.
use Rattle.std.proofs.Common.{◌≡◌, ◌≤◌, ℕ, ◌<◌, List, [], length, Option, refl, sym, ap, subst, ◌∙◌}
use Rattle.ny_list.specs.Store.{CursorState}
use Rattle.ny_heap.specs.declared.table.Table.{Table}
use Rattle.ny_heap.specs.declared.table.Unit.{Unit as UnitData}
use Rattle.ny_heap.specs.Heap.{blocks_of, taken_after}
use Rattle.ny_heap.specs.Work.{kind_of}
use Rattle.ny_heap.specs.Means.{KeepsMeaning}
use Rattle.ny_heap.specs.Reach.{IsTrimmed}
use Rattle.ny_heap.specs.Table.{IsTable, Drops, timing_at}
use Rattle.ny_heap.specs.View.{state_of, state_with, filled_in, IsHeap}
use Rattle.ny_heap.specs.Making.{Grows}
use Rattle.ny_heap.proofs.ViewLemmas.{unit_of_node, block_at-state}
use Rattle.ny_heap.proofs.StepLemmas.{keeps_by, IsHeap-drops, IsTable-drops, released, drops_keep}
use Rattle.ny_heap.proofs.RoomLemmas.{unit, list, filled, IsTable-grown}
use Rattle.ny_heap.proofs.GrowLemmas.{node_grown, trimmed_same}
use Rattle.ny_heap.proofs.KeepLemmas.{still_timely}

pub IsHeap-grown : (old mid : Table) → Grows old mid → IsHeap old → IsHeap mid
IsHeap-grown old mid g heap = record {
  table = IsTable-grown old mid g [] heap.table;
  read = λ v l is. heap.read v l (sym (list old mid g v) ∙ is);
  clean = λ v i x c at inside cursor.
      let w = heap.clean v i x c (sym (unit old mid g v) ∙ at) inside cursor in
      (w.0, subst (λ b. filled_in mid.store v < blocks_of b x.timing.len) (sym g.block) (subst (λ k. k < blocks_of old.block x.timing.len) (sym (filled old mid g v)) w.1));
  needs = λ v i x c at inside cursor. heap.needs v i x c (sym (unit old mid g v) ∙ at) inside cursor ∙ taken v i x;
  exhausted = λ v i x at inside reader none still.
      subst (λ n. (timing_at x i).len ≤ n) (taken v i x)
      (heap.exhausted v i x (sym (unit old mid g v) ∙ at) inside reader none (subst (λ b. filled_in old.store v < blocks_of b x.timing.len) g.block (subst (λ n. n < blocks_of mid.block x.timing.len) (filled old mid g v) still)));
  waits = λ v x at full. heap.waits v x (sym (unit old mid g v) ∙ at) (subst (λ b. blocks_of b x.timing.len ≤ filled_in old.store v) g.block (subst (λ n. blocks_of mid.block x.timing.len ≤ n) (filled old mid g v) full));
  timely = λ v x at owes. still_timely x.timing.start (filled_in old.store v) (filled_in mid.store v) old.block mid.block _ (filled old mid g v) g.block (heap.timely v x (sym (unit old mid g v) ∙ at) owes);
}
  where
    taken : (v i : ℕ) (x : UnitData) → taken_after old.block (kind_of x.work) x.timing (timing_at x i) (filled_in old.store v) ≡ taken_after mid.block (kind_of x.work) x.timing (timing_at x i) (filled_in mid.store v)
    taken v i x = λ j. taken_after (sym g.block j) (kind_of x.work) x.timing (timing_at x i) (sym (filled old mid g v) j)

pub IsHeap-lost : (old mid new : Table) (cs : List (Option CursorState)) → Grows old mid → Drops mid new cs [] → IsHeap old → IsTable old cs → IsHeap new
IsHeap-lost old mid new cs g drops heap held =
    IsHeap-drops mid new cs (IsHeap-grown old mid g heap) (IsTable-drops ℕ (λ v. []) mid new cs 0 0 (IsTable-grown old mid g cs held) drops) drops

module _ (B : Type 0) (bs : ℕ → List B) (old mid : Table) (fills peak : ℕ) (g : Grows old mid) where
  pub grown_keep : IsTable old [] → KeepsMeaning {B = B} (state_of bs old fills peak) (state_of bs mid fills peak)
  grown_keep table = keeps_by B (state_of bs old fills peak) (state_of bs mid fills peak) g.block (λ v y is.
      let x = unit_of_node B bs mid fills peak v y is in
      let l = (IsTable-grown old mid g [] table).units v x.0 x.1 in (
        y,
        sym (node_grown old mid g B bs [] fills peak v) ∙ is,
        refl,
        λ j b e. block_at-state B bs old fills peak v j l.0 (sym (list old mid g v) ∙ l.1) ∙ sym (block_at-state B bs mid fills peak v j l.0 l.1) ∙ e,
      ))

module _ (B : Type 0) (bs : ℕ → List B) (old mid new : Table) (cs : List (Option CursorState)) (fills peak : ℕ) (g : Grows old mid) (drops : Drops mid new cs []) where
  pub lost : IsTable old cs → IsTrimmed {B = B} (state_with bs old cs fills peak) (state_of bs new fills peak)
  lost held =
      trimmed_same B (state_with bs old cs fills peak) (state_with bs mid cs fills peak) (node_grown old mid g B bs cs fills peak) (state_of bs new fills peak) (ap (λ s. length s.loose) g.store) g.block refl refl
      (released B bs mid new cs fills peak (IsTable-grown old mid g cs held) drops)

  pub lost_keep : IsTable old [] → IsTable old cs → KeepsMeaning {B = B} (state_of bs old fills peak) (state_of bs new fills peak)
  lost_keep table held = λ part w means. drops_keep B bs mid new cs fills peak (IsTable-grown old mid g cs held) drops part w (grown_keep B bs old mid fills peak g table part w means)
