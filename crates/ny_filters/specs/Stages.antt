-- How a filter is kept. No public clause cites this module.
use Rattle.std.specs.Prelude.{◌≤◌}
use Rattle.ny_filters.specs.declared.filter.Filter.{Filter}
use Rattle.ny_filters.specs.declared.filter.Filter.TheVariants.{OnePole, Biquad, Comb}
use Rattle.ny_filters.specs.declared.stage.Stage.{Stage}
use Rattle.ny_filters.specs.declared.stage.Stage.TheVariants.{Pole as PoleStage, Biquad as BiquadStage, Comb as CombStage}
use Rattle.ny_filters.specs.Filtering.{Memory, Pole, Poles, Line}

-- the filter of a stage
abbrev pub filter_of : Stage → Filter
filter_of (PoleStage a output) = OnePole a
filter_of (BiquadStage c recent) = Biquad c.b0 c.b1 c.b2 c.a1 c.a2
filter_of (CombStage gain line) = Comb line.capacity gain

-- what it keeps
abbrev pub memory_of : Stage → Memory
memory_of (PoleStage a output) = Pole output
memory_of (BiquadStage c recent) = Poles recent
memory_of (CombStage gain line) = Line line.items

-- a comb's line holds an output at least
abbrev pub IsStage : Stage → Type 0
IsStage (CombStage gain line) = 1 ≤ line.capacity
IsStage _ = Unit {0}
