-- What each round of a walk leaves, and so the whole walk.
use Rattle.std.proofs.Common.{◌≡◌, ◌≢◌, ◌⊎◌, inl, inr, ℕ, zero, suc, ◌+◌, ◌-◌, ◌<◌, true, false, nat_eq, IsTrue, IsSomeAnd, List, Some, refl, sym, ap, subst, ◌∙◌, arith}
use Rattle.std.proofs.lemmas.Bool.{eq-eqb}
use Rattle.ny_check.specs.Code.{Code}
use Rattle.ny_heap.specs.Heap.{Node, HeapState, node_at, is_open, free_of}
use Rattle.ny_heap.specs.Reach.{HeapLaws}
use Rattle.ny_heap.specs.Steps.{IsSettledUnit, want_of, filled_node}
use Rattle.ny_hands.specs.declared.branch.Branch.{Branch}
use Rattle.ny_hands.proofs.OptionLemmas.{same_at, some_there, and_some}
use Rattle.ny_trace.specs.Heights.{Ranks}
use Rattle.ny_walk.specs.Walk.{FillTurn, Reveal, Walk, RevealsParts, WalksWants, FillsThen, WalksInOrder}
use Rattle.ny_walk.specs.Stops.{StopsHere, StopsBelow, StopsThen, StopsInOrder}
use Rattle.ny_walk.specs.Below.{IsSettled, SettledButOne, IsRanked, Below, Walked, Stopped, Revealed, WantsSoFar, RevealsSoFar}
use Rattle.ny_walk.proofs.BelowLemmas.{held_above, Below-none, Below-more, Below-wider}
use Rattle.ny_walk.proofs.FillLemmas.{left_node, fill_parts, Fills-drives}
use Rattle.ny_walk.proofs.FitRevealLemmas.{fill_fits}
use Rattle.ny_walk.proofs.RevealLemmas.{all_settled}
use Rattle.ny_walk.proofs.WantLemmas.{wanted, wanted_uses, wanted_open}

-- ---- what u wants

pub next_there : {B : Type 0} (h : HeapState B) → HeapLaws h → (u v : ℕ) (x : Node B) → node_at h u ≡ Some x → want_of h u ≡ Some v → (y : Node B) × (node_at h v ≡ Some y)
next_there h laws u v x there e = some_there (node_at h v) (laws.finds u v (wanted_uses h u v x there (wanted h u v x there e)))

pub next_open : {B : Type 0} (h : HeapState B) → HeapLaws h → (u v : ℕ) (x : Node B) → node_at h u ≡ Some x → want_of h u ≡ Some v → IsSomeAnd (node_at h v) (λ x. IsTrue (is_open h.block x))
next_open h laws u v x there e =
    let y = next_there h laws u v x there e in
    and_some (node_at h v) (λ x. IsTrue (is_open h.block x)) y.0 y.1 (wanted_open h laws u v x y.0 there y.1 (wanted h u v x there e))

settled_apart : (v u : ℕ) → nat_eq v u ≡ false → v ≢ u
settled_apart v u apart same = never (sym apart ∙ eq-eqb v u same)
  where
    never : false ≡ true → ⊥
    never e = cc

pub fill_settled : {B : Type 0} (old new : HeapState B) (u : ℕ) → FillTurn old new u → IsSettled old → SettledButOne u new
fill_settled {B} old new u turn all v z at apart = let x = left_node old new u turn.fills v z at in by_unit x.0 x.1 x.2
  where
    block : new.block ≡ old.block
    block = turn.fills.trimmed.size.block ∙ turn.fills.filled.size.block

    by_unit : (x : Node B) → node_at old v ≡ Some x → (z ≡ x) ⊎ ((v ≡ u) × (z ≡ filled_node old.block turn.fills.filled.memory x)) → IsSettledUnit new.block z
    by_unit x there (inl is) = subst (λ (y : Node B). IsSettledUnit new.block y) (sym is) (subst (λ n. IsSettledUnit n x) (sym block) (all v x there))
    by_unit x there (inr later) = absurd (settled_apart v u apart later.0)

fill_pending : {B : Type 0} (old new : HeapState B) (u : ℕ) → FillTurn old new u → IsSettled old → (z : Node B) → node_at new u ≡ Some z → z.pending ≡ 0
fill_pending {B} old new u turn all z at = let x = left_node old new u turn.fills u z at in by_unit x.0 x.1 x.2
  where
    by_unit : (x : Node B) → node_at old u ≡ Some x → (z ≡ x) ⊎ ((u ≡ u) × (z ≡ filled_node old.block turn.fills.filled.memory x)) → z.pending ≡ 0
    by_unit x there (inl is) = ap (λ (y : Node B). y.pending) is ∙ (all u x there).0
    by_unit x there (inr later) = ap (λ (y : Node B). y.pending) later.1 ∙ (all u x there).0

module _ (code : Code) (tall : ℕ → ℕ) where
  pub next_ranked : (h : HeapState Branch) (u v left : ℕ) (x : Node Branch) → node_at h u ≡ Some x → want_of h u ≡ Some v → IsRanked tall h u left → IsRanked tall h v (left - 1)
  next_ranked h u v left x there e ranked =
      let low = ranked.ranks.falls u v (wanted_uses h u v x there (wanted h u v x there e)) in
      record { rank = ranked.rank; ranks = ranked.ranks; within = omega (arith, low, ranked.within) }

  pub wants_none : (h : HeapState Branch) (u left : ℕ) → HeapLaws h → IsSettled h → IsRanked tall h u left → WantsSoFar code tall h h u left
  wants_none h u left laws settled ranked = record {
    laws = laws;
    start = ranked;
    settled = settled;
    parts = λ all. all;
    fits = λ all. all;
    ranked = ranked;
    same = refl;
    below = λ rank ranks. Below-none code tall h rank (rank u) ranks;
  }

  pub wants_more : (old mid new : HeapState Branch) (u v left : ℕ) (x : Node Branch) → node_at old u ≡ Some x → WantsSoFar code tall old mid u left → want_of mid u ≡ Some v → Walked code tall mid new v → WantsSoFar code tall old new u left
  wants_more old mid new u v left x there so e walked = record {
    laws = walked.laws;
    start = so.start;
    settled = walked.settled;
    parts = λ all. walked.parts (so.parts all);
    fits = λ all. walked.fits (so.fits all);
    ranked =
        let d = walked.drives so.ranked.rank so.ranked.ranks in
        let u_same = d.below.same u x here (omega (arith, falls so.ranked.rank so.ranked.ranks)) in
        record { rank = d.below.later; ranks = d.below.ranks; within = omega (arith, so.ranked.within, u_same.1) };
    same =
        let d = walked.drives so.ranked.rank so.ranked.ranks in
        let u_same = d.below.same u x here (omega (arith, falls so.ranked.rank so.ranked.ranks)) in
        u_same.0 ∙ sym there;
    below = λ rank ranks.
        let first = so.below rank ranks in
        let u_same = first.same u x there (omega arith) in
        let second = walked.drives first.later first.ranks in
        Below-more code tall old mid new rank (rank u) (rank u) first (omega arith)
        (Below-wider code tall mid new first.later (first.later v + 1) (rank u) (omega (arith, falls first.later first.ranks, u_same.1)) second.below);
  }
    where
      here : node_at mid u ≡ Some x
      here = so.same ∙ there

      falls : (rank : ℕ → ℕ) → Ranks tall mid rank → rank v < rank u
      falls rank ranks = ranks.falls u v (wanted_uses mid u v x here (wanted mid u v x here e))

  -- where the walk stops at what u wants
  pub stops_apart : (old mid new : HeapState Branch) (u v left : ℕ) (x : Node Branch) → node_at old u ≡ Some x → WantsSoFar code tall old mid u left → want_of mid u ≡ Some v → Stopped code tall mid new v → Stopped code tall old new u
  stops_apart old mid new u v left x there so e stopped = record {
    laws = stopped.laws;
    settled = stopped.settled;
    parts = λ all. stopped.parts (so.parts all);
    fits = λ all. stopped.fits (so.fits all);
    below = λ rank ranks.
        let first = so.below rank ranks in
        let u_same = first.same u x there (omega arith) in
        let falls = first.ranks.falls u v (wanted_uses mid u v x (so.same ∙ there) (wanted mid u v x (so.same ∙ there) e)) in
        Below-more code tall old mid new rank (rank u) (rank u) first (omega arith)
        (Below-wider code tall mid new first.later (first.later v) (rank u) (omega (arith, falls, u_same.1)) (stopped.below first.later first.ranks));
  }

  pub stops_at : (old mid new : HeapState Branch) (u left : ℕ) → WantsSoFar code tall old mid u left → new ≡ mid → Stopped code tall old new u
  stops_at old mid new u left so same =
      subst (λ (h : HeapState Branch). Stopped code tall old h u) (sym same) (record { laws = so.laws; settled = so.settled; parts = so.parts; fits = so.fits; below = so.below })

  -- ---- the fill, and the parts that fall due

  pub fill_then : (old mid new : HeapState Branch) (u left : ℕ) (x : Node Branch) → node_at old u ≡ Some x → WantsSoFar code tall old mid u left → FillTurn mid new u → RevealsSoFar code tall old new u
  fill_then old mid new u left x there so turn = record {
    laws = turn.laws;
    settled = fill_settled mid new u turn so.settled;
    parts = λ all. fill_parts code mid new u turn.fills (so.parts all);
    fits = λ all. fill_fits code mid new u turn.fills (so.fits all);
    unit = unit_now.0;
    there = unit_now.1;
    pending = fill_pending mid new u turn so.settled unit_now.0 unit_now.1;
    drives = λ rank ranks.
        let first = so.below rank ranks in
        let u_same = first.same u x there (omega arith) in
        let second = Fills-drives code tall mid new so.laws first.later first.ranks u turn.fills turn.keeps in
        record {
          below = Below-more code tall old mid new rank (rank u) (rank u + 1) first (omega arith) (subst (λ n. Below code tall mid new first.later (n + 1)) u_same.1 second.below);
          more = λ y z at after. second.more y z (so.same ∙ at) after;
        };
  }
    where
      unit_now : (y : Node Branch) × (node_at new u ≡ Some y)
      unit_now =
          let d = Fills-drives code tall mid new so.laws so.ranked.rank so.ranked.ranks u turn.fills turn.keeps in
          let y = d.below.held u x (so.same ∙ there) (held_above mid so.laws so.ranked.rank so.ranked.ranks.falls u x (so.same ∙ there)) in
          (y.0, y.1)

  pub reveal_more : (old mid new : HeapState Branch) (u : ℕ) (x : Node Branch) → HeapLaws old → node_at old u ≡ Some x → RevealsSoFar code tall old mid u → Revealed code tall mid new u → RevealsSoFar code tall old new u
  reveal_more old mid new u x laws there so shows = record {
    laws = shows.laws;
    settled = shows.settled so.settled;
    parts = λ all. shows.parts (so.parts all);
    fits = λ all. shows.fits (so.fits all);
    unit = shows.later;
    there = shows.after;
    pending = shows.pending ∙ ap (λ (q : Node Branch). q.pending) (same_at (node_at mid u) shows.unit so.unit shows.was so.there) ∙ so.pending;
    drives = λ rank ranks.
        let first = so.drives rank ranks in
        let u_held = first.below.held u x there (held_above old laws rank ranks.falls u x there) in
        let second = shows.below first.below.later first.below.ranks in
        record {
          below = Below-more code tall old mid new rank (rank u + 1) (rank u + 1) first.below (omega arith) (subst (λ n. Below code tall mid new first.below.later (n + 1)) u_held.2 second);
          more = λ y z at after. ap (λ (q : Node Branch). q.filled) (same_at (node_at new u) z shows.later after shows.after) ∙ shows.filled ∙ first.more y shows.unit at shows.was;
        };
  }

  -- ---- the whole walk

  module _ (R : Reveal) (reveals : (old new : HeapState Branch) (u : ℕ) → HeapLaws old → R old u new → Revealed code tall old new u) where
    abbrev pub Leaves : Walk → Type 0
    Leaves D = (old new : HeapState Branch) (u left : ℕ) (us : List ℕ) (x : Node Branch) → node_at old u ≡ Some x → HeapLaws old → IsSettled old → IsRanked tall old u left → D old u us new → Walked code tall old new u

    pub wants_leave : (D : Walk) → Leaves D → (k : ℕ) (old mid : HeapState Branch) (u left : ℕ) (us : List ℕ) (x : Node Branch) → node_at old u ≡ Some x → HeapLaws old → IsSettled old → IsRanked tall old u left → WalksWants D k old u us mid → WantsSoFar code tall old mid u left
    wants_leave D leaves zero old mid u left us x there laws settled ranked walk = subst (λ (h : HeapState Branch). WantsSoFar code tall old h u left) walk.1 (wants_none old u left laws settled ranked)
    wants_leave D leaves (suc k) old new u left us x there laws settled ranked walk =
        let so = wants_leave D leaves k old walk.0 u left walk.2 x there laws settled ranked walk.4 in
        let here = so.same ∙ there in
        let y = next_there walk.0 so.laws u walk.1 x here walk.5 in
        wants_more old walk.0 new u walk.1 left x there so walk.5 (leaves walk.0 new walk.1 (left - 1) walk.3 y.0 y.1 so.laws so.settled (next_ranked walk.0 u walk.1 left x here walk.5 so.ranked) walk.6)

    reveals_leave : (k : ℕ) (old filled new : HeapState Branch) (u : ℕ) (x : Node Branch) → HeapLaws old → node_at old u ≡ Some x → RevealsSoFar code tall old filled u → RevealsParts R k filled u new → RevealsSoFar code tall old new u
    reveals_leave zero old filled new u x laws there so steps = subst (λ (h : HeapState Branch). RevealsSoFar code tall old h u) steps so
    reveals_leave (suc k) old filled new u x laws there so steps =
        let mid = reveals_leave k old filled steps.0 u x laws there so steps.1 in
        reveal_more old steps.0 new u x laws there mid (reveals steps.0 new u mid.laws steps.2)

    pub fills_leave : (D : Walk) → Leaves D → (old new : HeapState Branch) (u left : ℕ) (us : List ℕ) (x : Node Branch) → node_at old u ≡ Some x → HeapLaws old → IsSettled old → IsRanked tall old u left → FillsThen D R old u us new → RevealsSoFar code tall old new u
    fills_leave D leaves old new u left us x there laws settled ranked walk =
        let so = wants_leave D leaves walk.wanted old walk.mid u left walk.before x there laws settled ranked walk.wants in
        reveals_leave walk.parts old walk.filled new u x laws there (fill_then old walk.mid walk.filled u left x there so walk.fill) walk.reveals

    pub walk_leaves : (n : ℕ) → Leaves (WalksInOrder R n)
    walk_leaves zero old new u left us x there laws settled ranked walk = absurd walk
    walk_leaves (suc n) old new u left us x there laws settled ranked walk =
        let so = fills_leave (WalksInOrder R n) (walk_leaves n) old new u left us x there laws settled ranked walk.fills in
        record { laws = so.laws; settled = all_settled new u so.unit so.there so.pending walk.over so.settled; parts = so.parts; fits = so.fits; drives = so.drives }

    -- ---- a walk that stops

    abbrev pub Stops : Walk → Type 0
    Stops S = (old new : HeapState Branch) (u left : ℕ) (us : List ℕ) (x : Node Branch) → node_at old u ≡ Some x → HeapLaws old → IsSettled old → IsRanked tall old u left → S old u us new → Stopped code tall old new u

    stops_then : (D S : Walk) → Leaves D → Stops S → Stops (StopsThen D S)
    stops_then D S leaves lower old new u left us x there laws settled ranked walk = by_stop walk.stop
      where
        so : WantsSoFar code tall old walk.mid u left
        so = wants_leave D leaves walk.wanted old walk.mid u left walk.before x there laws settled ranked walk.wants

        by_stop : StopsHere walk.mid u walk.after new ⊎ StopsBelow S walk.mid u walk.after new → Stopped code tall old new u
        by_stop (inl here) = stops_at old walk.mid new u left so here.same
        by_stop (inr apart) =
            let at = so.same ∙ there in
            let y = next_there walk.mid so.laws u apart.input x at apart.wants in
            stops_apart old walk.mid new u apart.input left x there so apart.wants
            (lower walk.mid new apart.input (left - 1) walk.after y.0 y.1 so.laws so.settled (next_ranked walk.mid u apart.input left x at apart.wants so.ranked) apart.stops)

    pub stop_leaves : (n : ℕ) → Stops (StopsInOrder R n)
    stop_leaves zero old new u left us x there laws settled ranked walk = absurd walk
    stop_leaves (suc n) old new u left us x there laws settled ranked walk =
        stops_then (WalksInOrder R n) (StopsInOrder R n) (walk_leaves n) (stop_leaves n) old new u left us x there laws settled ranked walk

-- where it stops no block is free
pub stops_full : (R : Reveal) (n : ℕ) (old new : HeapState Branch) (u : ℕ) (us : List ℕ) → StopsInOrder R n old u us new → free_of new ≡ 0
stops_full R zero old new u us walk = absurd walk
stops_full R (suc n) old new u us walk = by_stop (λ v ws stops. stops_full R n walk.mid new v ws stops) walk.stop
  where
    by_stop : ((v : ℕ) (ws : List ℕ) → StopsInOrder R n walk.mid v ws new → free_of new ≡ 0) → StopsHere walk.mid u walk.after new ⊎ StopsBelow (StopsInOrder R n) walk.mid u walk.after new → free_of new ≡ 0
    by_stop lower (inl here) = ap (λ (h : HeapState Branch). free_of h) here.same ∙ here.full
    by_stop lower (inr apart) = lower apart.input walk.after apart.stops
