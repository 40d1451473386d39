-- A walk of a matched heap fills the rows that the plan fills: the laws of fills and of live blocks put into the walk.
use Rattle.std.proofs.Common.{◌≡◌, ℕ, suc, ◌+◌, ◌≤◌, true, List, Some, subst, arith}
use Rattle.std.specs.Prelude.{◌==◌}
use Rattle.std.specs.List.{list_any}
use Rattle.ny_check.specs.Code.{Code, IsOrdered}
use Rattle.ny_heap.specs.Heap.{Node, HeapState, node_at, is_open, live_of}
use Rattle.ny_heap.specs.Reach.{HeapLaws}
use Rattle.ny_hands.specs.declared.branch.Branch.{Branch}
use Rattle.ny_hands.specs.Counts.{SameCounts}
use Rattle.ny_plan.specs.Rows.{Row}
use Rattle.ny_plan.specs.Need.{Filled}
use Rattle.ny_plan.specs.Fills.{Fills, fill_row}
use Rattle.ny_plan.specs.Peak.{live_before}
use Rattle.ny_plan.specs.Order.{AllRows}
use Rattle.ny_trace.specs.Evaluates.{Evaluates}
use Rattle.ny_trace.specs.Heights.{IsTall}
use Rattle.ny_trace.specs.Laws.{KeepsFree, IsLawful}
use Rattle.ny_trace.proofs.EvaluationLemmas.{evaluates_lawful}
use Rattle.ny_walk.specs.Walk.{EvaluatesIn, PartTurn, Walks}
use Rattle.ny_walk.specs.Stops.{StopsAtFull}
use Rattle.ny_walk.specs.Parts.{AllPartsOf}
use Rattle.ny_walk.specs.Below.{IsRanked}
use Rattle.ny_match.specs.Matched.{Seats, Matched}
use Rattle.ny_match.specs.Born.{IsMatching}
use Rattle.ny_match.specs.Walking.{ChannelsFrom, Rests, WalksAs}
use Rattle.ny_match.proofs.FillLemmas.{Fills-matched}
use Rattle.ny_match.proofs.LiveLemmas.{matched_come, matched_live}
use Rattle.ny_match.proofs.RevealLemmas.{reveal_matched}
use Rattle.ny_match.proofs.WalkLemmas.{walk_as, stop_as}

one_more : (n : ℕ) → suc n ≡ n + 1
one_more n = omega arith

module _ (code : Code) (ordered : IsOrdered code) (free : KeepsFree code) (match : (n : ℕ) → IsMatching code (Evaluates code n)) where
  lawful_in : IsLawful code (EvaluatesIn code)
  lawful_in e env names old new s t inside laws named = evaluates_lawful code ordered free t.0 e env names old new s t.1 inside laws named

  matching_in : IsMatching code (EvaluatesIn code)
  matching_in e env names old new s t = match t.0 e env names old new s t.1

  -- a part that is revealed
  pub part_matched : (all : List Row) (f : Filled) (old new : HeapState Branch) (seats : Seats) (u : ℕ) → HeapLaws old → PartTurn code old u new → Matched code all f old seats
      → (later : Seats) × Matched code all f new later × ((v : ℕ) (x : Node Branch) → node_at old v ≡ Some x → later.row v ≡ seats.row v) × SameCounts old new
  part_matched all f old new seats u laws turn m = reveal_matched code (EvaluatesIn code) lawful_in matching_in all f old new u turn.turn laws turn.inside seats m

module _ (code : Code) (ordered : IsOrdered code) (free : KeepsFree code) (match : (n : ℕ) → IsMatching code (Evaluates code n)) (tall : ℕ → ℕ) (is_tall : IsTall code tall) (rows : List Row) (all : AllRows rows) (top : ℕ) (last : ChannelsFrom top rows) where
  reveal : (f : Filled) (old new : HeapState Branch) (seats : Seats) (u : ℕ) → HeapLaws old → AllPartsOf code old → PartTurn code old u new → Matched code rows f old seats
      → (later : Seats) × Matched code rows f new later × ((v : ℕ) (x y : Node Branch) → node_at old v ≡ Some x → node_at new v ≡ Some y → later.row v ≡ seats.row v) × SameCounts old new
  reveal f old new seats u laws parts turn m =
      let r = part_matched code ordered free match rows f old new seats u laws turn m in
      (r.0, r.1, (λ v x y at now. r.2 v x at), r.3)

  -- a whole walk fills what the plan fills for its row
  pub walk_matched : (n : ℕ) (old new : HeapState Branch) (u left : ℕ) (us : List ℕ) (x : Node Branch) → node_at old u ≡ Some x → is_open old.block x ≡ true → IsRanked tall old u left → (f : Filled) (seats : Seats) → Rests code rows f old seats
      → Walks code n old u us new → WalksAs code tall rows f old new seats u (fill_row old.block rows (seats.row u + 1) (seats.row u) f)
  walk_matched n old new u left us x there opened ranked f seats rests walk =
      subst (λ d. WalksAs code tall rows f old new seats u (fill_row old.block rows d (seats.row u) f)) (one_more (seats.row u))
      (walk_as code ordered free tall is_tall rows all top last
      (λ f h seats rests. matched_come code rows f h seats rests.settled rests.matched)
      (λ f h seats rests. matched_live code rows f h seats rests.laws rests.settled rests.matched rests.roots all)
      (λ f old new seats u rests turn. Fills-matched code rows f old new seats u turn.fills rests.size rests.matched)
      reveal n old new u left us x there opened ranked f seats rests walk)

  -- and where it stops for want of a block, the plan's order comes to a fill before which all blocks of the pool are live
  pub stop_matched : (n : ℕ) (old new : HeapState Branch) (u left : ℕ) (us : List ℕ) (x : Node Branch) → node_at old u ≡ Some x → is_open old.block x ≡ true → IsRanked tall old u left → (f : Filled) (seats : Seats) → Rests code rows f old seats
      → StopsAtFull code n old u us new → live_of new ≤ new.pool → list_any (λ n. n == old.pool) (live_before old.block rows (Fills.order (fill_row old.block rows (seats.row u + 1) (seats.row u) f)) f) ≡ true
  stop_matched n old new u left us x there opened ranked f seats rests walk within =
      subst (λ d. list_any (λ n. n == old.pool) (live_before old.block rows (Fills.order (fill_row old.block rows d (seats.row u) f)) f) ≡ true) (one_more (seats.row u))
      (stop_as code ordered free tall is_tall rows all top last
      (λ f h seats rests. matched_come code rows f h seats rests.settled rests.matched)
      (λ f h seats rests. matched_live code rows f h seats rests.laws rests.settled rests.matched rests.roots all)
      (λ f old new seats u rests turn. Fills-matched code rows f old new seats u turn.fills rests.size rests.matched)
      reveal n old new u left us x there opened ranked f seats rests walk within)
