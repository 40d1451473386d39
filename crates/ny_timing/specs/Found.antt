-- What was found of an expression: a number, a test, or when its sound is heard.
use Rattle.ny_num.specs.declared.rate.Rate.{Rate}
use Rattle.ny_num.specs.declared.timing.Timing.{Timing}
use Rattle.ny_check.specs.declared.value.Scalar.{Scalar}
use Rattle.ny_check.specs.declared.value.Scalar.TheVariants as scalar
use Rattle.ny_check.specs.declared.value.Value.{Value}
use Rattle.ny_timing.specs.declared.found.Found.{Found}
use Rattle.ny_timing.specs.declared.found.Found.TheVariants.{Number, Test, Sound}
use Rattle.ny_timing.specs.Timings.{no_time, timed_by}

-- the number or test
abbrev pub scalar_of_found : Found → Scalar
scalar_of_found (Number v) = scalar.Number v
scalar_of_found (Test b) = scalar.Test b
scalar_of_found (Sound t) = scalar.Sound

-- when it is heard; of a number or a test no sound at the rate
abbrev pub time_of_found : Rate → Found → Timing
time_of_found rate (Number v) = no_time rate
time_of_found rate (Test b) = no_time rate
time_of_found rate (Sound t) = t

-- what a name stands for that is bound to it
abbrev pub value_of_found : Rate → Found → Value Timing
value_of_found rate f = timed_by (scalar_of_found f) (time_of_found rate f)
