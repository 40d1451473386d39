-- For whoever makes the walk: each step adds to the relation, and less is left to do.
use Rattle.std.proofs.Common.{◌≡◌, inl, inr, ℕ, suc, ◌-◌, ◌<◌, IsTrue, List, [], ◌∷◌, ◌++◌, length, None, Some, refl, sym, ap, subst, ◌∙◌, arith}
use Rattle.std.specs.Option.{option_map_or}
use Rattle.ny_check.specs.Code.{Code}
use Rattle.ny_heap.specs.Heap.{Waiting, Node, HeapState, node_at, is_open, free_of}
use Rattle.ny_heap.specs.Steps.{want_of}
use Rattle.ny_heap.specs.Revealing.{due_of}
use Rattle.ny_heap.specs.Wanting.{NoneWanted}
use Rattle.ny_hands.specs.declared.branch.Branch.{Branch}
use Rattle.ny_walk.specs.Walk.{FillTurn, Reveal, Walk, WalksWants, FillsThen, WalksInOrder}
use Rattle.ny_walk.specs.Stops.{StopsInOrder, DueInOrder}
use Rattle.ny_walk.specs.Below.{IsRanked, Walked, Revealed, WantsSoFar, missing, waiting_at}
use Rattle.ny_walk.proofs.WantLemmas.{wanted, missing_falls, none_wanted_on}

-- ---- less is left

module _ (code : Code) (tall : ℕ → ℕ) (old mid new : HeapState Branch) (u : ℕ) where
  -- of what u lacks
  pub wants_less : (v left : ℕ) (x : Node Branch) → node_at old u ≡ Some x → WantsSoFar code tall old mid u left → want_of mid u ≡ Some v → Walked code tall mid new v → missing new u < missing mid u
  wants_less v left x there so e walked =
      missing_falls code tall mid new so.laws u v x so.ranked.rank so.ranked.ranks (so.same ∙ there) (wanted mid u v x (so.same ∙ there) e) (walked.drives so.ranked.rank so.ranked.ranks)

  -- the inputs that u does not want it does not want later
  pub wants_on : (v left place : ℕ) (x : Node Branch) → node_at old u ≡ Some x → WantsSoFar code tall old mid u left → want_of mid u ≡ Some v → Walked code tall mid new v → NoneWanted mid u place → NoneWanted new u place
  wants_on v left place x there so e walked none =
      none_wanted_on code tall mid new so.laws u v place x so.ranked.rank so.ranked.ranks (so.same ∙ there) (wanted mid u v x (so.same ∙ there) e) (walked.drives so.ranked.rank so.ranked.ranks) none

  -- u is as open as it was
  pub open_still : (left : ℕ) (x : Node Branch) → node_at old u ≡ Some x → WantsSoFar code tall old mid u left → IsTrue (is_open old.block x) → IsTrue (is_open mid.block x)
  open_still left x there so e = subst (λ b. IsTrue (is_open b x)) (sym (so.below so.start.rank so.start.ranks).block) e

  -- of the parts that wait
  pub fewer_wait : Revealed code tall mid new u → waiting_at new u < waiting_at mid u
  fewer_wait shows =
      omega (arith, shows.fewer, ap (λ o. option_map_or (λ (x : Node Branch). length x.waiting) o 0) shows.was, ap (λ o. option_map_or (λ (x : Node Branch). length x.waiting) o 0) shows.after)

-- ---- the relation grows

module _ (R : Reveal) (old : HeapState Branch) (u : ℕ) where
  pub wants_next : (D : Walk) (k v : ℕ) (mid new : HeapState Branch) (us ws : List ℕ) → WalksWants D k old u us mid → want_of mid u ≡ Some v → D mid v ws new → WalksWants D (suc k) old u (us ++ ws) new
  wants_next D k v mid new us ws walk e next = (mid, v, us, ws, walk, e, next, refl)

  pub fills_first : (D : Walk) (k : ℕ) (mid new : HeapState Branch) (us : List ℕ) → WalksWants D k old u us mid → FillTurn mid new u → FillsThen D R old u (us ++ u ∷ []) new
  fills_first D k mid new us walk turn = record { wanted = k; mid = mid; before = us; wants = walk; filled = new; fill = turn; parts = 0; reveals = refl; order = refl }

  pub reveals_next : (D : Walk) (mid new : HeapState Branch) (us : List ℕ) → FillsThen D R old u us mid → R mid u new → FillsThen D R old u us new
  reveals_next D mid new us walk part = record {
    wanted = walk.wanted;
    mid = walk.mid;
    before = walk.before;
    wants = walk.wants;
    filled = walk.filled;
    fill = walk.fill;
    parts = suc walk.parts;
    reveals = (mid, walk.reveals, part);
    order = walk.order;
  }

  module _ (tall : ℕ → ℕ) (left : ℕ) (ranked : IsRanked tall old u left) (us : List ℕ) (new : HeapState Branch) where
    one_more : suc (left - 1) ≡ left
    one_more = omega (arith, ranked.within)

    -- no part is due any more
    pub walk_ends : FillsThen (WalksInOrder R (left - 1)) R old u us new → due_of new u ≡ None → WalksInOrder R left old u us new
    walk_ends walk over =
        let whole : WalksInOrder R (suc (left - 1)) old u us new = record { fills = walk; over = over } in
        subst (λ n. WalksInOrder R n old u us new) one_more whole

    -- memory is missing for the part that is due
    pub part_lacks : (p : Waiting Branch) → FillsThen (WalksInOrder R (left - 1)) R old u us new → due_of new u ≡ Some p → DueInOrder R left old u us new
    part_lacks p walk due =
        let whole : DueInOrder R (suc (left - 1)) old u us new = inl (record { fills = walk; part = p; due = due }) in
        subst (λ n. DueInOrder R n old u us new) one_more whole

  module _ (tall : ℕ → ℕ) (left : ℕ) (ranked : IsRanked tall old u left) (k : ℕ) (mid : HeapState Branch) (us : List ℕ) (walk : WalksWants (WalksInOrder R (left - 1)) k old u us mid) (new : HeapState Branch) where
    one_deeper : suc (left - 1) ≡ left
    one_deeper = omega (arith, ranked.within)

    pub stops_here : want_of mid u ≡ None → free_of mid ≡ 0 → new ≡ mid → StopsInOrder R left old u (us ++ []) new
    stops_here ready full same =
        let whole : StopsInOrder R (suc (left - 1)) old u (us ++ []) new = record { wanted = k; mid = mid; before = us; after = []; wants = walk; stop = inl (record { ready = ready; full = full; none = refl; same = same }); order = refl } in
        subst (λ n. StopsInOrder R n old u (us ++ []) new) one_deeper whole

    pub stops_below : (v : ℕ) (ws : List ℕ) → want_of mid u ≡ Some v → StopsInOrder R (left - 1) mid v ws new → StopsInOrder R left old u (us ++ ws) new
    stops_below v ws e stops =
        let whole : StopsInOrder R (suc (left - 1)) old u (us ++ ws) new = record { wanted = k; mid = mid; before = us; after = ws; wants = walk; stop = inr (record { input = v; wants = e; stops = stops }); order = refl } in
        subst (λ n. StopsInOrder R n old u (us ++ ws) new) one_deeper whole

    pub lacks_below : (v : ℕ) (ws : List ℕ) → want_of mid u ≡ Some v → DueInOrder R (left - 1) mid v ws new → DueInOrder R left old u (us ++ ws) new
    lacks_below v ws e stops =
        let whole : DueInOrder R (suc (left - 1)) old u (us ++ ws) new = inr (record { wanted = k; mid = mid; before = us; after = ws; wants = walk; stop = record { input = v; wants = e; stops = stops }; order = refl }) in
        subst (λ n. DueInOrder R n old u (us ++ ws) new) one_deeper whole
