-- A unit at which no part is due, and none is still to be attached, is settled.
use Rattle.std.proofs.Common.{◌≡◌, ◌⊎◌, inl, inr, ℕ, ◌+◌, ◌*◌, ◌≤◌, Bool, true, false, cond, List, [], ◌∷◌, Option, None, Some, refl, sym, ap, ◌∙◌}
use Rattle.std.specs.List.{slice_get}
use Rattle.std.specs.Option.{option_map_or}
use Rattle.std.proofs.lemmas.Bool.{ltb-false}
use Rattle.ny_num.specs.Grid.{index_at}
use Rattle.ny_list.proofs.IndexLemmas.{none_some}
use Rattle.ny_heap.specs.Heap.{Node, HeapState, node_at}
use Rattle.ny_heap.specs.Steps.{IsSettledUnit}
use Rattle.ny_heap.specs.Revealing.{needs_part, due_of}

none_first : {A : Type 0} (xs : List A) → slice_get xs 0 ≡ None → xs ≡ []
none_first [] e = refl
none_first (x ∷ xs) e = absurd (none_some (sym e))

pub settled_where : {B : Type 0} (h : HeapState B) (u : ℕ) (x : Node B) → node_at h u ≡ Some x → x.pending ≡ 0 → due_of h u ≡ None → IsSettledUnit h.block x
settled_where {B} h u x at pending none = (pending, by (needs_part h.block x) refl (sym (ap (λ (o : Option (Node B)). option_map_or (λ y. cond (needs_part h.block y) (slice_get y.waiting 0) None) o None) at) ∙ none))
  where
    by : (b : Bool) → needs_part h.block x ≡ b → cond b (slice_get x.waiting 0) None ≡ None → (x.waiting ≡ []) ⊎ (x.timing.start + (x.filled + 1) * h.block ≤ index_at x.last_stop x.timing.rate)
    by true e is = inl (none_first x.waiting is)
    by false e is = inr (ltb-false (index_at x.last_stop x.timing.rate) (x.timing.start + (x.filled + 1) * h.block) e)
