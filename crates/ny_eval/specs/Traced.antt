-- How the channels of a program come about: as one trace of calls of a heap.
use Rattle.std.specs.Prelude.{ℕ, List, []}
use Rattle.ny_num.specs.declared.rate.Rate.{Rate}
use Rattle.ny_warp.specs.Environment.{opening}
use Rattle.ny_check.specs.Code.{Code}
use Rattle.ny_heap.specs.Heap.{HeapState}
use Rattle.ny_heap.specs.declared.sound.Sound.{Sound}
use Rattle.ny_hands.specs.declared.branch.Branch.{Branch}
use Rattle.ny_trace.specs.Channels.{ChannelsTurn}
use Rattle.ny_trace.specs.Plays.{Plays}

-- what the program plays is evaluated at its opening, among no names, and then each sound becomes a channel
pub record EvaluatesChannels (code : Code) (rate : Rate) (old new : HeapState Branch) (ss : List Sound) : Type 0 where
  pub deep : ℕ
  pub mid : HeapState Branch
  pub played : List Sound
  pub plays : Plays code deep code.play.0 (opening rate) [] old mid played
  pub channels : ChannelsTurn rate played mid new ss
