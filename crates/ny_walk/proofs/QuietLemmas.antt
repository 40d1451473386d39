-- Where no part waits, a walk fills units alone.
use Rattle.std.proofs.Common.{◌≡◌, ◌⊎◌, inl, inr, ℕ, zero, suc, ◌+◌, ◌<◌, Bool, true, false, cond, nat_lt, List, [], ◌∷◌, length, slice_get, None, Some, refl, ap, subst, ◌∙◌, arith}
use Rattle.std.specs.Option.{option_map_or}
use Rattle.ny_heap.specs.Heap.{Waiting, Node, HeapState, node_at, blocks_of}
use Rattle.ny_heap.specs.Steps.{Fills, filled_node}
use Rattle.ny_heap.specs.Revealing.{needs_part, due_of}
use Rattle.ny_hands.specs.declared.branch.Branch.{Branch}
use Rattle.ny_walk.specs.Walk.{Reveal, Walk, RevealsParts, WalksWants, FillsThen, WalksInOrder}
use Rattle.ny_walk.specs.Stops.{DueInOrder, NoneWaits}
use Rattle.ny_walk.proofs.FillLemmas.{left_node}

pub quiet_fill : {B : Type 0} (old new : HeapState B) (u : ℕ) → Fills old new u → NoneWaits old → NoneWaits new
quiet_fill {B} old new u fills none v z at = let x = left_node old new u fills v z at in by_unit x.0 x.1 x.2
  where
    none_of : (b : Bool) (ws : List (Waiting B)) → ws ≡ [] → cond b ws [] ≡ []
    none_of true ws e = e
    none_of false ws e = refl

    by_unit : (x : Node B) → node_at old v ≡ Some x → (z ≡ x) ⊎ ((v ≡ u) × (z ≡ filled_node old.block fills.filled.memory x)) → z.waiting ≡ []
    by_unit x there (inl is) = ap (λ (y : Node B). y.waiting) is ∙ none v x there
    by_unit x there (inr later) = ap (λ (y : Node B). y.waiting) later.1 ∙ none_of (nat_lt (x.filled + 1) (blocks_of old.block x.timing.len)) x.waiting (none v x there)

-- no part of a unit is due
pub quiet_due : {B : Type 0} (h : HeapState B) (u : ℕ) (p : Waiting B) → NoneWaits h → due_of h u ≡ Some p → ⊥
quiet_due {B} h u p none due = by_node (node_at h u) refl due
  where
    by_list : (b : Bool) (ws : List (Waiting B)) → ws ≡ [] → cond b (slice_get ws 0) None ≡ Some p → ⊥
    by_list true [] e d = cc
    by_list true (w ∷ ws) e d = absurd (some e)
      where
        some : w ∷ ws ≡ [] → ⊥
        some q = cc
    by_list false ws e d = cc

    by_node : (o : Rattle.std.specs.Prelude.Option (Node B)) → node_at h u ≡ o → option_map_or (λ x. cond (needs_part h.block x) (slice_get x.waiting 0) None) o None ≡ Some p → ⊥
    by_node None e d = cc
    by_node (Some x) e d = by_list (needs_part h.block x) x.waiting (none u x e) d

module _ (R : Reveal) (waits : (old new : HeapState Branch) (u : ℕ) → R old u new → (x : Node Branch) × (node_at old u ≡ Some x) × (0 < length x.waiting)) where
  pub quiet_reveals : (k : ℕ) (old new : HeapState Branch) (u : ℕ) → RevealsParts R k old u new → NoneWaits old → old ≡ new
  quiet_reveals zero old new u steps none = steps
  quiet_reveals (suc k) old new u steps none =
      let mid = subst (λ (h : HeapState Branch). NoneWaits h) (quiet_reveals k old steps.0 u steps.1 none) none in
      let x = waits steps.0 new u steps.2 in
      absurd (omega (arith, x.2, ap (λ (ws : List (Waiting Branch)). length ws) (mid u x.0 x.1)))

  abbrev pub Stays : Walk → Type 0
  Stays D = (old new : HeapState Branch) (u : ℕ) (us : List ℕ) → D old u us new → NoneWaits old → NoneWaits new

  pub quiet_wants : (D : Walk) → Stays D → (k : ℕ) (old mid : HeapState Branch) (u : ℕ) (us : List ℕ) → WalksWants D k old u us mid → NoneWaits old → NoneWaits mid
  quiet_wants D stays zero old mid u us walk none = subst (λ (h : HeapState Branch). NoneWaits h) walk.1 none
  quiet_wants D stays (suc k) old new u us walk none = stays walk.0 new walk.1 walk.3 walk.6 (quiet_wants D stays k old walk.0 u walk.2 walk.4 none)

  quiet_fills : (D : Walk) → Stays D → (old new : HeapState Branch) (u : ℕ) (us : List ℕ) → FillsThen D R old u us new → NoneWaits old → NoneWaits new
  quiet_fills D stays old new u us walk none =
      let filled = quiet_fill walk.mid walk.filled u walk.fill.fills (quiet_wants D stays walk.wanted old walk.mid u walk.before walk.wants none) in
      subst (λ (h : HeapState Branch). NoneWaits h) (quiet_reveals walk.parts walk.filled new u walk.reveals filled) filled

  pub quiet_walk : (n : ℕ) → Stays (WalksInOrder R n)
  quiet_walk zero old new u us walk none = absurd walk
  quiet_walk (suc n) old new u us walk none = quiet_fills (WalksInOrder R n) (quiet_walk n) old new u us walk.fills none

  -- so memory is never missing
  pub quiet_enough : (n : ℕ) (old last : HeapState Branch) (u : ℕ) (us : List ℕ) → DueInOrder R n old u us last → NoneWaits old → ⊥
  quiet_enough zero old last u us walk none = walk
  quiet_enough (suc n) old last u us (inl here) none = quiet_due last u here.part (quiet_fills (WalksInOrder R n) (quiet_walk n) old last u us here.fills none) here.due
  quiet_enough (suc n) old last u us (inr apart) none =
      quiet_enough n apart.mid last apart.stop.input apart.after apart.stop.stops (quiet_wants (WalksInOrder R n) (quiet_walk n) apart.wanted old apart.mid u apart.before apart.wants none)
