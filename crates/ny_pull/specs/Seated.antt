-- The heap of an engine by the plan of its program.
use Rattle.std.specs.Prelude.{◌≡◌, ℕ, ◌-◌, ◌^◌, min, sum, List, Option, Some, length, slice_get, slice_index_or}
use Rattle.std.specs.Option.{option_map}
use Rattle.ny_num.specs.declared.rate.Rate.{Rate}
use Rattle.ny_num.specs.Sound.{silence}
use Rattle.ny_check.specs.Code.{Code}
use Rattle.ny_check.specs.Channels.{channels}
use Rattle.ny_heap.specs.Heap.{HeapState, list_of}
use Rattle.ny_heap.specs.declared.sound.Sound.{Sound}
use Rattle.ny_hands.specs.declared.branch.Branch.{Branch}
use Rattle.ny_plan.specs.Rows.{RowSound}
use Rattle.ny_plan.specs.Plan.{plan}
use Rattle.ny_plan.specs.Fills.{counts}
use Rattle.ny_match.specs.Matched.{Seats, Matched}

-- Each unit is a row of the plan, of which as many blocks are filled as these pulls ask for, and each channel that is still to be pulled reads
-- its own row. A channel is as long as the plan says
pub record AreSeated (code : Code) (rate : Rate) (h : HeapState Branch) (sounds : List (Option Sound)) (pulled : List ℕ) : Type 0 where
  pub seats : Seats
  pub matched : Matched code (plan code rate).rows (counts h.block (plan code rate) pulled) h seats
  pub count : length sounds ≡ length (plan code rate).channels
  pub names : (k : ℕ) (s : Sound) (r : RowSound) → slice_get sounds k ≡ Some (Some s) → slice_get (plan code rate).channels k ≡ Some r → r.row ≡ option_map seats.row (list_of s)
  -- as many fills are counted as there are blocks, up to the end of the count
  pub fills : h.fills ≡ min (sum (counts h.block (plan code rate) pulled)) (2 ^ 64 - 1)
  pub lens : (k : ℕ) (r : RowSound) → slice_get (plan code rate).channels k ≡ Some r → r.timing.len ≡ length (slice_index_or (channels code rate) k (silence rate)).samples
