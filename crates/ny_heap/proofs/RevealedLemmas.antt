-- What a heap is once a part was handed out, and once it was attached.
use Rattle.std.proofs.Common.{◌≡◌, ◌≢◌, ℕ, ◌+◌, ◌*◌, ◌<◌, ◌≤◌, List, [], ◌∷◌, length, Option, Some, sym, ap, subst, ◌∙◌, arith, ℤ}
use Rattle.std.specs.Option.{option_map, option_map_or}
use Rattle.ny_num.specs.Grid.{index_at, tick_at}
use Rattle.ny_num.specs.declared.rate.Rate.{Rate}
use Rattle.ny_list.specs.Store.{CursorState}
use Rattle.ny_list.proofs.IndexLemmas.{same_some}
use Rattle.ny_heap.specs.declared.sound.Sound.{Sound}
use Rattle.ny_heap.specs.declared.table.Unit.{Unit as UnitData}
use Rattle.ny_heap.specs.declared.table.Table.{Table}
use Rattle.ny_heap.specs.Heap.{Node, node_at, place_of}
use Rattle.ny_heap.specs.Reach.{HeapLaws}
use Rattle.ny_heap.specs.Steps.{IsHeldSound, AreHeld, without_sound, waiting_of}
use Rattle.ny_heap.specs.Table.{unit_at, IsTable, IsKept}
use Rattle.ny_heap.specs.View.{node_of, state_of, state_with, filled_in, last_stop_in, IsHeap, IsHeapInside}
use Rattle.ny_heap.specs.Revealing.{IsNextPart, HandsOut, Promises, Attaches, Delivers}
use Rattle.ny_heap.specs.Attaching.{TakesPart, GetsPart}
use Rattle.ny_heap.proofs.LawLemmas.{heap_laws}
use Rattle.ny_heap.proofs.ViewLemmas.{node_of_unit}
use Rattle.ny_heap.proofs.SoundLemmas.{all_taken}
use Rattle.ny_heap.proofs.MadeLemmas.{all_kept}
use Rattle.ny_heap.proofs.WaitingMeans.{index_of_stop}
use Rattle.ny_heap.proofs.HandOutLemmas.{IsTable-handed, IsTable-handing, handed_kept, IsHeap-handed}
use Rattle.ny_heap.proofs.HandedLemmas.{handed_is, handed_means, hands_out, have_later}
use Rattle.ny_heap.proofs.AttachLemmas.{IsHeap-attached}
use Rattle.ny_heap.proofs.AttachedLemmas.{above, above_bound, above_lower, above_edge, attached_is, attached_means, have_still}

-- ---- handed out

module _ (B : Type 0) (bs later : ℕ → List B) (old new : Table) (u : ℕ) (kept : List Sound) (branch : B) (size fills peak : ℕ) (out : List ℤ) (inside : IsHeapInside bs old size fills peak out) (p : TakesPart old new u kept) (mine : bs u ≡ branch ∷ later u) (others : (w : ℕ) → w ≢ u → later w ≡ bs w) where
  pub inside_handed : IsHeapInside later new size fills peak out
  inside_handed = record {
    heap = IsHeap-handed old new u kept inside.heap.table p inside.heap;
    have = have_later B old new u kept p bs later branch mine others fills peak inside.have;
    counted = inside.counted ∙ sym (ap (λ s. length s.loose) p.store);
    reached = inside.reached;
    few = inside.few;
    whole = inside.whole ∙ sym p.block;
  }

  pub laws_handed : HeapLaws {B = B} (state_of later new fills peak)
  laws_handed = heap_laws B later new inside_handed.heap inside_handed.have fills peak

  pub handed : HandsOut {B = B} (state_of bs old fills peak) (state_of later new fills peak) u branch kept
  handed = hands_out B old new u kept p bs later branch mine others fills peak (IsTable-handed old new u kept inside.heap.table p) (IsTable-handing old new u kept inside.heap.table p) (handed_kept old new u kept inside.heap.table p)

  pub handed_held : AreHeld {B = B} (state_of later new fills peak) kept
  handed_held = (handed_is B old new u kept p bs later branch mine others fills peak (IsTable-handed old new u kept inside.heap.table p) (IsTable-handing old new u kept inside.heap.table p) (handed_kept old new u kept inside.heap.table p)).0

  pub handed_promises : Promises {B = B} (state_of bs old fills peak) (state_of later new fills peak) u (waiting_of (branch, kept))
  handed_promises = handed_means B old new u kept p bs later branch mine others fills peak

-- ---- attached

module _ (B : Type 0) (bs : ℕ → List B) (old : Table) (u : ℕ) (s : Sound) (size fills peak : ℕ) (out : List ℤ) (inside : IsHeapInside bs old size fills peak out) (held : IsHeldSound {B = B} (state_of bs old fills peak) s) (place : place_of s ≡ 0) (y : Node B) (at : node_at (state_of bs old fills peak) u ≡ Some y) (next : IsNextPart (state_of bs old fills peak) u y s) where
  hand : AreHeld {B = B} (state_of bs old fills peak) (s ∷ [])
  hand = (place, held, tt)

  -- the table with the sound in hand
  pub table_in_hand : IsTable old (s.reader ∷ [])
  table_in_hand = (all_taken B bs old fills peak inside.heap.table (s ∷ []) hand).0

  spent : without_sound {B = B} (state_of bs old fills peak) s ≡ state_with bs old (s.reader ∷ []) fills peak
  spent = (all_taken B bs old fills peak inside.heap.table (s ∷ []) hand).1

  kept : IsKept old s
  kept = (all_kept B bs old fills peak inside.heap.table (s ∷ []) hand).0

  pub promised_unit : (x : UnitData) → unit_at old u ≡ Some x → 0 < x.pending
  promised_unit x is = subst (λ (q : Node B). 0 < q.pending) (same_some (sym at ∙ node_of_unit B bs old fills peak u x is)) next.promised

  module _ (new : Table) (g : GetsPart old new u s) where
    same : y ≡ node_of bs old [] u g.unit
    same = same_some (sym at ∙ node_of_unit B bs old fills peak u g.unit g.was)

    promised : 0 < g.unit.pending
    promised = promised_unit g.unit g.was

    number : ℕ
    number = option_map_or {U = ℕ} (λ (c : CursorState). c.list) s.reader 0

    edge : (c : CursorState) → s.reader ≡ Some c → above old [] inside.heap.table u number c.list < above old [] inside.heap.table u number u
    unfolding number
    edge c reads =
        let here : option_map_or {U = ℕ} (λ (d : CursorState). d.list) s.reader 0 ≡ c.list = ap (λ (o : Option CursorState). option_map_or {U = ℕ} (λ d. d.list) o 0) reads in
        subst (λ n. above old [] inside.heap.table u n c.list < above old [] inside.heap.table u n u) (sym here)
        (above_edge old [] inside.heap.table B bs inside.have fills peak u c.list (next.apart c.list (ap (λ (o : Option CursorState). option_map {U = ℕ} (λ d. d.list) o) reads)))

    after_stop : index_at (last_stop_in 0 g.unit.inputs.items) g.unit.timing.rate ≤ s.timing.start
    after_stop = subst (λ (q : Node B). index_at q.last_stop q.timing.rate ≤ s.timing.start) same next.begins

    begins : g.unit.timing.start + filled_in old.store u * old.block ≤ s.timing.start
    begins = omega (arith, after_stop, inside.heap.timely u g.unit g.was (omega (arith, promised)))

    rate : s.timing.rate ≡ g.unit.timing.rate
    rate = next.rate ∙ ap (λ (q : Node B). q.timing.rate) same

    stop : index_at (last_stop_in 0 g.unit.inputs.items) g.unit.timing.rate ≤ index_at s.timing.stop g.unit.timing.rate
    stop =
        let own : s.timing.start ≤ index_at s.timing.stop g.unit.timing.rate = index_of_stop g.unit.timing.rate s.timing.start s.timing.stop (subst (λ (r : Rate). tick_at s.timing.start r ≤ s.timing.stop) rate kept.bounds.starts) in
        omega (arith, after_stop, own)

    heap_now : IsHeap new
    heap_now =
        IsHeap-attached old new u s table_in_hand g promised (λ c reads. (kept.some c reads).1) (above old [] inside.heap.table u number) (inside.heap.table.bound + (inside.heap.table.rank number + 1))
        (above_bound old [] inside.heap.table u number) (above_lower old [] inside.heap.table u number) edge inside.heap begins kept.none stop

    pub inside_attached : IsHeapInside bs new size fills peak out
    inside_attached = record {
      heap = heap_now;
      have = have_still B bs old new u s table_in_hand g promised fills peak inside.have;
      counted = inside.counted ∙ sym (ap (λ r. length r.loose) g.store);
      reached = inside.reached;
      few = inside.few;
      whole = inside.whole ∙ sym g.block;
    }

    pub laws_attached : HeapLaws {B = B} (state_of bs new fills peak)
    laws_attached = heap_laws B bs new inside_attached.heap inside_attached.have fills peak

    pub attaches : Attaches {B = B} (state_of bs old fills peak) (state_of bs new fills peak) u s
    attaches = attached_is B bs old new u s table_in_hand g promised fills peak spent

    pub delivers : Delivers {B = B} (state_of bs old fills peak) (state_of bs new fills peak) u s
    delivers = attached_means B bs old new u s table_in_hand g promised fills peak
