-- One block more of a unit: the rounds of the walk, its last fill, the parts that fall due, and where it stops.
use Rattle.std.proofs.Common.{◌≡◌, ℕ, zero, suc, ◌+◌, ◌-◌, ◌<◌, true, false, IsTrue, IsSomeAnd, IsSome, List, [], ◌∷◌, ◌++◌, None, Some, Result, Ok, Err, OnOk, IfErr, is_err, refl, sym, subst, ◌∙◌, arith}
use Rattle.ny_check.specs.Code.{Code, IsOrdered}
use Rattle.ny_check.specs.Heights.{height_of, IsTall as LeavesRoom}
use Rattle.ny_heap.specs.Heap.{Waiting, Node, HeapState, node_at, is_open, free_of}
use Rattle.ny_heap.specs.Means.{KeepsMeaning}
use Rattle.ny_heap.specs.Reach.{HeapLaws}
use Rattle.ny_heap.specs.Steps.{Fills, IsSettledUnit, want_of}
use Rattle.ny_heap.specs.Revealing.{due_of}
use Rattle.ny_heap.specs.Wanting.{NoneWanted}
use Rattle.ny_hands.specs.declared.branch.Branch.{Branch}
use Rattle.ny_hands.proofs.OptionLemmas.{and_some}
use Rattle.ny_trace.specs.Heights.{IsTall}
use Rattle.ny_trace.specs.Laws.{KeepsFree}
use Rattle.ny_walk.specs.Walk.{FillTurn, PartTurn, RevealsParts, WalksWants, FillsThen, Walks, WalksInOrder}
use Rattle.ny_walk.specs.Stops.{StopsAtFull, RunsOut, NoneWaits, FindsNoneFree}
use Rattle.ny_walk.specs.Below.{IsSettled, IsRanked, Walked, Stopped, WantsSoFar, RevealsSoFar, missing}
use Rattle.ny_walk.specs.Heard.{StaysHeard}
use Rattle.ny_walk.proofs.TurnLemmas as turns
use Rattle.ny_walk.proofs.WalkLemmas as walks
use Rattle.ny_walk.proofs.DriveLemmas as steps
use Rattle.ny_walk.proofs.WantLemmas.{wanted, wanted_uses}
use Rattle.ny_eval.specs.declared.walk.DriveFault.{DriveFault}
use Rattle.ny_eval.specs.declared.walk.DriveFault.TheVariants.{PoolFull, OutOfMemory}
use Rattle.ny_eval.specs.Driven.{HasWalked, HasStopped, HasRunOut, HasFailed, IsDriven}
use Rattle.ny_eval.specs.Ready.{IsReady}
use Rattle.ny_eval.proofs.ProgramLemmas.{heights_enough}
use Rattle.ny_eval.proofs.TowerLemmas.{tower, tower_ranked, tower_ranks, tower_lowest}

-- ---- while u's inputs get what they lack

-- no deeper than `left`
pub record SoFar (code : Code) (old h : HeapState Branch) (u left : ℕ) : Type 0 where
  pub wants : WantsSoFar code (height_of code) old h u left
  pub count : ℕ
  pub us : List ℕ
  pub walk : WalksWants (WalksInOrder (PartTurn code) (left - 1)) count old u us h

pub record Underway (code : Code) (old h : HeapState Branch) (u place : ℕ) : Type 0 where
  pub so : (left : ℕ) → IsRanked (height_of code) old u left → SoFar code old h u left
  pub none : NoneWanted h u place

pub turn_of : {B : Type 0} (mid filled : HeapState B) (u : ℕ) → want_of mid u ≡ None → (free_of mid ≡ 0 → IsTrue false) → Fills mid filled u → HeapLaws filled → KeepsMeaning mid filled → FillTurn mid filled u
turn_of mid filled u ready full fills laws keeps = record { ready = ready; room = some_room (free_of mid) full; fills = fills; laws = laws; keeps = keeps }
  where
    never : false ≡ true → ⊥
    never e = cc

    some_room : (n : ℕ) → (n ≡ 0 → IsTrue false) → 0 < n
    some_room zero full = absurd (never (full refl))
    some_room (suc n) full = omega arith

module _ (code : Code) (ordered : IsOrdered code) (free : KeepsFree code) (high : LeavesRoom code (height_of code)) where
  tall_enough : IsTall code (height_of code)
  tall_enough = heights_enough code (height_of code) high

  -- what a walk leaves that ends
  pub walked_on : (old new : HeapState Branch) (u : ℕ) → IsSome (node_at old u) → HeapLaws old → IsSettled old → HasWalked code old u new → Walked code (height_of code) old new u
  walked_on old new u there laws settled driven =
      let ranked = tower_ranked (height_of code) old laws u in
      let walk = driven (tower (height_of code) old u + 1) ranked in
      turns.walked code (tower (height_of code) old u + 1) old new u walk.0 ordered free (height_of code) tall_enough (tower (height_of code) old u + 1) there laws settled ranked walk.1

  pub stopped_on : (old new : HeapState Branch) (u : ℕ) → IsSome (node_at old u) → HeapLaws old → IsSettled old → HasStopped code old u new → Stopped code (height_of code) old new u
  stopped_on old new u there laws settled driven =
      let ranked = tower_ranked (height_of code) old laws u in
      let walk = driven (tower (height_of code) old u + 1) ranked in
      turns.stopped code (tower (height_of code) old u + 1) old new u walk.0 ordered free (height_of code) tall_enough (tower (height_of code) old u + 1) there laws settled ranked walk.1

  pub walked_hears : (old new : HeapState Branch) (u : ℕ) → IsSome (node_at old u) → HeapLaws old → IsSettled old → HasWalked code old u new → StaysHeard code old new
  walked_hears old new u there laws settled driven =
      let ranked = tower_ranked (height_of code) old laws u in
      let walk = driven (tower (height_of code) old u + 1) ranked in
      turns.walked_heard code (tower (height_of code) old u + 1) old new u walk.0 ordered free (height_of code) tall_enough (tower (height_of code) old u + 1) there laws settled ranked walk.1

  pub stopped_hears : (old new : HeapState Branch) (u : ℕ) → IsSome (node_at old u) → HeapLaws old → IsSettled old → HasStopped code old u new → StaysHeard code old new
  stopped_hears old new u there laws settled driven =
      let ranked = tower_ranked (height_of code) old laws u in
      let walk = driven (tower (height_of code) old u + 1) ranked in
      turns.stopped_heard code (tower (height_of code) old u + 1) old new u walk.0 ordered free (height_of code) tall_enough (tower (height_of code) old u + 1) there laws settled ranked walk.1

  -- ---- the rounds

  module _ (old : HeapState Branch) (u : ℕ) (laws : HeapLaws old) where
    pub first_left : ℕ
    first_left = tower (height_of code) old u + 1

    pub first_ranked : IsRanked (height_of code) old u first_left
    unfolding first_left
    first_ranked = tower_ranked (height_of code) old laws u

    pub underway_none : IsSettled old → Underway code old old u 0
    underway_none settled = record {
      so = λ left ranked. record { wants = walks.wants_none code (height_of code) old u left laws settled ranked; count = 0; us = []; walk = (refl, refl) };
      none = λ x at k less. absurd (omega (arith, less));
    }

    module _ (x : Node Branch) (there : node_at old u ≡ Some x) (mid : HeapState Branch) (place : ℕ) (under : Underway code old mid u place) where
      so_far : SoFar code old mid u first_left
      so_far = under.so first_left first_ranked

      mid_laws : HeapLaws mid
      mid_laws = so_far.wants.laws

      mid_settled : IsSettled mid
      mid_settled = so_far.wants.settled

      here : node_at mid u ≡ Some x
      here = so_far.wants.same ∙ there

      mid_ready : IsReady code old → IsReady code mid
      mid_ready ready = record { parts = so_far.wants.parts ready.parts; fits = so_far.wants.fits ready.fits }

      same_pool : mid.pool ≡ old.pool
      same_pool = (so_far.wants.below so_far.wants.start.rank so_far.wants.start.ranks).pool

      same_block : mid.block ≡ old.block
      same_block = (so_far.wants.below so_far.wants.start.rank so_far.wants.start.ranks).block

      pub same_size : (new : HeapState Branch) → (new.pool ≡ mid.pool) × (new.block ≡ mid.block) → (new.pool ≡ old.pool) × (new.block ≡ old.block)
      same_size new size = (size.0 ∙ same_pool, size.1 ∙ same_block)

      pub still_open : IsTrue (is_open old.block x) → IsSomeAnd (node_at mid u) (λ x. IsTrue (is_open mid.block x))
      still_open e = and_some (node_at mid u) (λ x. IsTrue (is_open mid.block x)) x here (subst (λ b. IsTrue (is_open b x)) (sym same_block) e)

      pub still_settled : IsSomeAnd (node_at mid u) (λ x. IsSettledUnit mid.block x)
      still_settled = and_some (node_at mid u) (λ x. IsSettledUnit mid.block x) x here (mid_settled u x here)

      module _ (v : ℕ) (e : want_of mid u ≡ Some v) where
        -- it stands lower
        next_lower : tower (height_of code) mid v < tower (height_of code) old u
        next_lower =
            let below = so_far.wants.below (tower (height_of code) old) (tower_ranks (height_of code) old laws) in
            let falls = below.ranks.falls u v (wanted_uses mid u v x here (wanted mid u v x here e)) in
            omega (arith, falls, tower_lowest (height_of code) mid below.later below.ranks v, (below.same u x there (omega arith)).1)

        -- what a walk of it asks
        pub next_asks : (t : ℕ) → tower (height_of code) old u ≡ t → IsReady code old → (tower (height_of code) mid v < t) × HeapLaws mid × IsSomeAnd (node_at mid v) (λ x. IsTrue (is_open mid.block x)) × IsSettled mid × IsReady code mid
        next_asks t is ready = (subst (λ n. tower (height_of code) mid v < n) is next_lower, mid_laws, walks.next_open mid mid_laws u v x here e, mid_settled, mid_ready ready)

        next_there : IsSome (node_at mid v)
        next_there = let y = walks.next_there mid mid_laws u v x here e in subst IsSome (sym y.1) refl

        module _ (new : HeapState Branch) where
          module _ (driven : HasWalked code mid v new) where
            walked : Walked code (height_of code) mid new v
            walked = walked_on mid new v next_there mid_laws mid_settled driven

            pub underway_more : (later : ℕ) → NoneWanted mid u later → Underway code old new u later
            underway_more later none = record {
              so = λ left ranked.
                  let s = under.so left ranked in
                  let w = driven (left - 1) (walks.next_ranked code (height_of code) mid u v left x here e s.wants.ranked) in
                  record {
                    wants = walks.wants_more code (height_of code) old mid new u v left x there s.wants e walked;
                    count = suc s.count;
                    us = s.us ++ w.0;
                    walk = steps.wants_next (PartTurn code) old u (WalksInOrder (PartTurn code) (left - 1)) s.count v mid new s.us w.0 s.walk e w.1;
                  };
              none = steps.wants_on code (height_of code) old mid new u v first_left later x there so_far.wants e walked none;
            }

            pub less_missing : missing new u < missing mid u
            less_missing = steps.wants_less code (height_of code) old mid new u v first_left x there so_far.wants e walked

          pub stops_below : (f : DriveFault) → HasFailed code mid v new f → HasFailed code old u new f
          stops_below PoolFull driven = λ left ranked.
              let s = under.so left ranked in
              let w = driven (left - 1) (walks.next_ranked code (height_of code) mid u v left x here e s.wants.ranked) in
              (s.us ++ w.0, steps.stops_below (PartTurn code) old u (height_of code) left ranked s.count mid s.us s.walk new v w.0 e w.1)
          stops_below OutOfMemory driven = λ left ranked.
              let s = under.so left ranked in
              let w = driven (left - 1) (walks.next_ranked code (height_of code) mid u v left x here e s.wants.ranked) in
              (s.us ++ w.0, w.1, steps.lacks_below (PartTurn code) old u (height_of code) left ranked s.count mid s.us s.walk w.1 v w.0 e w.2)

      -- ---- the fill, and the parts that fall due

      pub stops_here : (new : HeapState Branch) → want_of mid u ≡ None → free_of mid ≡ 0 → new ≡ mid → HasStopped code old u new
      stops_here new ready full same left ranked =
          let s = under.so left ranked in
          (s.us ++ [], steps.stops_here (PartTurn code) old u (height_of code) left ranked s.count mid s.us s.walk new ready full same)

      module _ (filled : HeapState Branch) (turn : FillTurn mid filled u) where
        revealed : (left : ℕ) (s : SoFar code old mid u left) (k : ℕ) (last : HeapState Branch) → RevealsParts (PartTurn code) k filled u last → FillsThen (WalksInOrder (PartTurn code) (left - 1)) (PartTurn code) old u (s.us ++ u ∷ []) last
        revealed left s k last reveals = record { wanted = s.count; mid = mid; before = s.us; wants = s.walk; filled = filled; fill = turn; parts = k; reveals = reveals; order = refl }

        filled_so_far : IsSettled old → RevealsSoFar code (height_of code) old filled u
        filled_so_far settled =
            turns.reveals_so_far code ordered free (height_of code) tall_enough (first_left - 1) old u first_left (so_far.us ++ u ∷ []) x there laws settled first_ranked filled (revealed first_left so_far 0 filled refl)

        pub filled_size : (new : HeapState Branch) → (new.pool ≡ filled.pool) × (new.block ≡ filled.block) → (new.pool ≡ old.pool) × (new.block ≡ old.block)
        filled_size new size = same_size new (size.0 ∙ turn.fills.trimmed.size.pool ∙ turn.fills.filled.size.pool, size.1 ∙ turn.fills.trimmed.size.block ∙ turn.fills.filled.size.block)

        pub filled_there : IsSettled old → IsSomeAnd (node_at filled u) (λ x. x.pending ≡ 0)
        filled_there settled = let so = filled_so_far settled in and_some (node_at filled u) (λ x. x.pending ≡ 0) so.unit so.there so.pending

        pub filled_ready : IsSettled old → IsReady code old → IsReady code filled
        filled_ready settled ready = let so = filled_so_far settled in record { parts = so.parts ready.parts; fits = so.fits ready.fits }

        -- no part is due any more, or memory is missing for one
        pub ends : (new : HeapState Branch) → (k : ℕ) × RevealsParts (PartTurn code) k filled u new × (due_of new u ≡ None) → HasWalked code old u new
        ends new reveals left ranked =
            let s = under.so left ranked in
            (s.us ++ u ∷ [], steps.walk_ends (PartTurn code) old u (height_of code) left ranked (s.us ++ u ∷ []) new (revealed left s reveals.0 new reveals.1) reveals.2)

        pub lacks_here : (k : ℕ) × (last : HeapState Branch) × (part : Waiting Branch) × RevealsParts (PartTurn code) k filled u last × (due_of last u ≡ Some part) → HasRunOut code old u
        lacks_here lacks left ranked =
            let s = under.so left ranked in
            (s.us ++ u ∷ [], lacks.1, steps.part_lacks (PartTurn code) old u (height_of code) left ranked (s.us ++ u ∷ []) lacks.1 lacks.2 (revealed left s lacks.0 lacks.1 lacks.3) lacks.4)

-- ---- what a caller is told

other_fault : OutOfMemory ≡ PoolFull → ⊥
other_fault e = cc

fault_other : PoolFull ≡ OutOfMemory → ⊥
fault_other e = cc

module _ {A : Type 0} (code : Code) (ordered : IsOrdered code) (free : KeepsFree code) (high : LeavesRoom code (height_of code)) (old new : HeapState Branch) (u : ℕ) (there : IsSome (node_at old u)) (laws : HeapLaws old) (settled : IsSettled old) where
  pub tell_walks : (r : Result A DriveFault) → IsDriven code old u new r → OnOk r ((deep : ℕ) × (us : List ℕ) × Walks code deep old u us new)
  tell_walks (Ok x) driven = let walk = driven (tower (height_of code) old u + 1) (tower_ranked (height_of code) old laws u) in (tower (height_of code) old u + 1, walk.0, walk.1)
  tell_walks (Err f) driven = tt

  pub tell_walked : (r : Result A DriveFault) → IsDriven code old u new r → OnOk r (Walked code (height_of code) old new u)
  tell_walked (Ok x) driven = walked_on code ordered free high old new u there laws settled driven
  tell_walked (Err f) driven = tt

  pub tell_hears : (r : Result A DriveFault) → IsDriven code old u new r → OnOk r (StaysHeard code old new)
  tell_hears (Ok x) driven = walked_hears code ordered free high old new u there laws settled driven
  tell_hears (Err f) driven = tt

  pub tell_ready : (r : Result A DriveFault) → IsDriven code old u new r → IsReady code old → OnOk r (IsReady code new)
  tell_ready (Ok x) driven ready = let now = walked_on code ordered free high old new u there laws settled driven in record { parts = now.parts ready.parts; fits = now.fits ready.fits }
  tell_ready (Err f) driven ready = tt

  pub tell_stops : (r : Result A DriveFault) → IsDriven code old u new r → IfErr r (λ f. f ≡ PoolFull → (deep : ℕ) × (us : List ℕ) × StopsAtFull code deep old u us new)
  tell_stops (Ok x) driven = tt
  tell_stops (Err PoolFull) driven = λ is. let walk = driven (tower (height_of code) old u + 1) (tower_ranked (height_of code) old laws u) in (tower (height_of code) old u + 1, walk.0, walk.1)
  tell_stops (Err OutOfMemory) driven = λ is. absurd (other_fault is)

  pub tell_stopped : (r : Result A DriveFault) → IsDriven code old u new r → IfErr r (λ f. f ≡ PoolFull → Stopped code (height_of code) old new u)
  tell_stopped (Ok x) driven = tt
  tell_stopped (Err PoolFull) driven = λ is. stopped_on code ordered free high old new u there laws settled driven
  tell_stopped (Err OutOfMemory) driven = λ is. absurd (other_fault is)

  pub tell_heard : (r : Result A DriveFault) → IsDriven code old u new r → IfErr r (λ f. f ≡ PoolFull → StaysHeard code old new)
  tell_heard (Ok x) driven = tt
  tell_heard (Err PoolFull) driven = λ is. stopped_hears code ordered free high old new u there laws settled driven
  tell_heard (Err OutOfMemory) driven = λ is. absurd (other_fault is)

  pub tell_still : (r : Result A DriveFault) → IsDriven code old u new r → IsReady code old → IfErr r (λ f. f ≡ PoolFull → IsReady code new)
  tell_still (Ok x) driven ready = tt
  tell_still (Err PoolFull) driven ready = λ is. let now = stopped_on code ordered free high old new u there laws settled driven in record { parts = now.parts ready.parts; fits = now.fits ready.fits }
  tell_still (Err OutOfMemory) driven ready = λ is. absurd (other_fault is)

  pub tell_full : (r : Result A DriveFault) → IsDriven code old u new r → IfErr r (λ f. f ≡ PoolFull → free_of new ≡ 0)
  tell_full (Ok x) driven = tt
  tell_full (Err PoolFull) driven = λ is. let walk = driven (tower (height_of code) old u + 1) (tower_ranked (height_of code) old laws u) in turns.stopped_full code (tower (height_of code) old u + 1) old new u walk.0 walk.1
  tell_full (Err OutOfMemory) driven = λ is. absurd (other_fault is)

  pub tell_lacks : (r : Result A DriveFault) → IsDriven code old u new r → IfErr r (λ f. f ≡ OutOfMemory → (deep : ℕ) × (us : List ℕ) × (last : HeapState Branch) × RunsOut code deep old u us last)
  tell_lacks (Ok x) driven = tt
  tell_lacks (Err PoolFull) driven = λ is. absurd (fault_other is)
  tell_lacks (Err OutOfMemory) driven = λ is. let walk = driven (tower (height_of code) old u + 1) (tower_ranked (height_of code) old laws u) in (tower (height_of code) old u + 1, walk.0, walk.1, walk.2)

  pub tell_enough : (r : Result A DriveFault) → IsDriven code old u new r → NoneWaits old → IfErr r (λ f. f ≡ PoolFull)
  tell_enough (Ok x) driven none = tt
  tell_enough (Err PoolFull) driven none = refl
  tell_enough (Err OutOfMemory) driven none =
      let walk = driven (tower (height_of code) old u + 1) (tower_ranked (height_of code) old laws u) in
      absurd (turns.never_out code (tower (height_of code) old u + 1) old walk.1 u walk.0 walk.2 none)

  pub tell_quiet : (r : Result A DriveFault) → IsDriven code old u new r → NoneWaits old → OnOk r (NoneWaits new)
  tell_quiet (Ok x) driven none =
      let walk = driven (tower (height_of code) old u + 1) (tower_ranked (height_of code) old laws u) in
      turns.none_waits code (tower (height_of code) old u + 1) old new u walk.0 walk.1 none
  tell_quiet (Err f) driven none = tt

  pub tell_exact : (r : Result A DriveFault) → IsDriven code old u new r → NoneWaits old → (IsTrue (is_err r) → FindsNoneFree code old u) × (FindsNoneFree code old u → IsTrue (is_err r))
  tell_exact (Ok x) driven none = (λ failed. absurd (never failed), λ found. absurd (by_walks found))
    where
      never : false ≡ true → ⊥
      never e = cc

      by_walks : FindsNoneFree code old u → ⊥
      by_walks found =
          let walk = driven (tower (height_of code) old u + 1) (tower_ranked (height_of code) old laws u) in
          turns.ends_only code (tower (height_of code) old u + 1) found.0 old new found.2 u walk.0 found.1 none walk.1 found.3
  tell_exact (Err PoolFull) driven none = (λ failed. let walk = driven (tower (height_of code) old u + 1) (tower_ranked (height_of code) old laws u) in (tower (height_of code) old u + 1, walk.0, new, walk.1), λ found. refl)
  tell_exact (Err OutOfMemory) driven none =
      let walk = driven (tower (height_of code) old u + 1) (tower_ranked (height_of code) old laws u) in
      absurd (turns.never_out code (tower (height_of code) old u + 1) old walk.1 u walk.0 walk.2 none)
