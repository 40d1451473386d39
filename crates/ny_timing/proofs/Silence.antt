-- No sound is within the bounds.
use Rattle.std.proofs.Common.{arith}
use Rattle.ny_num.specs.Grid.{tick_at}
use Rattle.ny_num.specs.Sound.{IsTiming}
use Rattle.ny_num.specs.declared.rate.Rate.{Rate}
use Rattle.ny_timing.specs.Timings.{no_time}

pub no_time_is : (rate : Rate) → IsTiming (no_time rate)
unfolding tick_at
no_time_is rate = record { ends = omega arith; stops = omega arith; starts = omega arith }
