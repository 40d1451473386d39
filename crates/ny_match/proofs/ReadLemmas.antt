-- What is read of a matched heap, or given up, leaves each unit the row that it was.
use Rattle.std.proofs.Common.{◌+◌, ◌-◌, List, ◌∙◌}
use Rattle.ny_check.specs.Code.{Code}
use Rattle.ny_heap.specs.declared.sound.Sound.{Sound}
use Rattle.ny_heap.specs.Heap.{HeapState, list_of, place_of}
use Rattle.ny_heap.specs.Reach.{IsTrimmed}
use Rattle.ny_heap.specs.Steps.{without_sound, advanced}
use Rattle.ny_hands.specs.declared.branch.Branch.{Branch}
use Rattle.ny_hands.proofs.MarkLemmas.{AreLike, alike_more, marked_like}
use Rattle.ny_plan.specs.Rows.{Row}
use Rattle.ny_plan.specs.Need.{Filled}
use Rattle.ny_match.specs.Matched.{Seats, Matched}
use Rattle.ny_match.proofs.SeatLemmas.{matched_from}

-- a heap where other sounds stand, once what nobody reads is removed
matched_like : (code : Code) (all : List Row) (f : Filled) (old mid new : HeapState Branch) (seats : Seats) → AreLike old mid → IsTrimmed mid new → Matched code all f old seats → Matched code all f new seats
matched_like code all f old mid new seats like trimmed m =
    matched_from code all f old new seats (λ v y at. let x = like.from v y (trimmed.kept v y at) in (x.0, x.1, x.2)) (trimmed.size.block ∙ like.counts.block) m

pub spent_matched : (code : Code) (all : List Row) (f : Filled) (old new : HeapState Branch) (seats : Seats) (s : Sound) → IsTrimmed (without_sound old s) new → Matched code all f old seats → Matched code all f new seats
spent_matched code all f old new seats s trimmed m = matched_like code all f old (without_sound old s) new seats (marked_like (λ n. n - 1) old (place_of s) (list_of s)) trimmed m

pub read_matched : (code : Code) (all : List Row) (f : Filled) (old new : HeapState Branch) (seats : Seats) (s t : Sound) → IsTrimmed (advanced old s t) new → Matched code all f old seats → Matched code all f new seats
read_matched code all f old new seats s t trimmed m =
    matched_like code all f old (advanced old s t) new seats
    (alike_more old (without_sound old s) (advanced old s t) (marked_like (λ n. n - 1) old (place_of s) (list_of s)) (marked_like (λ n. n + 1) (without_sound old s) (place_of t) (list_of t))) trimmed m
