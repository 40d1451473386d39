-- Where no part waits, a walk is one of fills alone, so that from one heap none both ends and stops.
use Rattle.std.proofs.Common.{◌≡◌, ◌<◌, ◌⊎◌, inl, inr, ℕ, zero, suc, List, length, Some, subst}
use Rattle.ny_heap.specs.Heap.{Node, HeapState, node_at}
use Rattle.ny_heap.specs.Reach.{HeapLaws}
use Rattle.ny_heap.specs.Steps.{Fills}
use Rattle.ny_hands.specs.declared.branch.Branch.{Branch}
use Rattle.ny_walk.specs.Walk.{Reveal, Walk, WalksWants, WalksInOrder}
use Rattle.ny_walk.specs.Stops.{StopsHere, StopsBelow, StopsInOrder, NoneWaits}
use Rattle.ny_walk.specs.Fills as fills
use Rattle.ny_walk.proofs.QuietLemmas.{quiet_fill, quiet_reveals, quiet_wants, quiet_walk}
use Rattle.ny_walk.proofs.OnlyLemmas.{ends_or_stops}

module _ (R : Reveal) (waits : (old new : HeapState Branch) (u : ℕ) → R old u new → (x : Node Branch) × (node_at old u ≡ Some x) × (0 < length x.waiting)) where
  abbrev IsPlain : Walk → Walk → Type 0
  IsPlain D E = (old new : HeapState Branch) (u : ℕ) (us : List ℕ) → D old u us new → NoneWaits old → E old u us new

  plain_wants : (n : ℕ) (E : Walk) → IsPlain (WalksInOrder R n) E → (k : ℕ) (old mid : HeapState Branch) (u : ℕ) (us : List ℕ) → WalksWants (WalksInOrder R n) k old u us mid → NoneWaits old → fills.FillsWants E k old u us mid
  plain_wants n E plain zero old mid u us walk none = walk
  plain_wants n E plain (suc k) old new u us walk none = (
    walk.0,
    walk.1,
    walk.2,
    walk.3,
    plain_wants n E plain k old walk.0 u walk.2 walk.4 none,
    walk.5,
    plain walk.0 new walk.1 walk.3 walk.6 (quiet_wants R waits (WalksInOrder R n) (quiet_walk R waits n) k old walk.0 u walk.2 walk.4 none),
    walk.7,
  )

  pub plain_walk : (n : ℕ) → IsPlain (WalksInOrder R n) (fills.FillsInOrder n)
  plain_walk zero old new u us walk none = absurd walk
  plain_walk (suc n) old new u us walk none =
      let turn = walk.fills.fill in
      let before = quiet_wants R waits (WalksInOrder R n) (quiet_walk R waits n) walk.fills.wanted old walk.fills.mid u walk.fills.before walk.fills.wants none in
      let same = quiet_reveals R waits walk.fills.parts walk.fills.filled new u walk.fills.reveals (quiet_fill walk.fills.mid walk.fills.filled u turn.fills before) in
      record {
        wanted = walk.fills.wanted;
        mid = walk.fills.mid;
        before = walk.fills.before;
        wants = plain_wants n (fills.FillsInOrder n) (plain_walk n) walk.fills.wanted old walk.fills.mid u walk.fills.before walk.fills.wants none;
        ready = turn.ready;
        room = turn.room;
        fill = subst (λ (h : HeapState Branch). Fills walk.fills.mid h u) same turn.fills;
        laws = subst (λ (h : HeapState Branch). HeapLaws h) same turn.laws;
        order = walk.fills.order;
      }

  pub plain_stop : (n : ℕ) → IsPlain (StopsInOrder R n) (fills.StopsInOrder n)
  plain_stop zero old new u us walk none = absurd walk
  plain_stop (suc n) old new u us walk none = record {
    wanted = walk.wanted;
    mid = walk.mid;
    before = walk.before;
    after = walk.after;
    wants = plain_wants n (fills.FillsInOrder n) (plain_walk n) walk.wanted old walk.mid u walk.before walk.wants none;
    stop = by_stop (λ v ws stops. plain_stop n walk.mid new v ws stops (quiet_wants R waits (WalksInOrder R n) (quiet_walk R waits n) walk.wanted old walk.mid u walk.before walk.wants none)) walk.stop;
    order = walk.order;
  }
    where
      by_stop : ((v : ℕ) (ws : List ℕ) → StopsInOrder R n walk.mid v ws new → fills.StopsInOrder n walk.mid v ws new) → StopsHere walk.mid u walk.after new ⊎ StopsBelow (StopsInOrder R n) walk.mid u walk.after new → fills.StopsHere walk.mid u walk.after new ⊎ fills.StopsBelow (fills.StopsInOrder n) walk.mid u walk.after new
      by_stop lower (inl here) = inl (record { ready = here.ready; full = here.full; none = here.none; same = here.same })
      by_stop lower (inr apart) = inr (record { input = apart.input; wants = apart.wants; stops = lower apart.input walk.after apart.stops })

  pub only_one : (n m : ℕ) (old new stop : HeapState Branch) (u : ℕ) (us ws : List ℕ) → NoneWaits old → WalksInOrder R n old u us new → StopsInOrder R m old u ws stop → ⊥
  only_one n m old new stop u us ws none ends stops =
      ends_or_stops n m old new stop u us ws (plain_walk n old new u us ends none) (plain_stop m old stop u ws stops none)
