use Rattle.std.proofs.Common.{◌≡◌, ◌++◌, drop, map}
use Rattle.std.specs.List.{All}
use Rattle.ny_num.specs.Sound.{IsTiming}
use Rattle.ny_timing.specs.Played.{channel_time}
use Rattle.ny_timing.proofs.entry.channel_timings.Given as goal

abbrev pub invariant-loop-t : goal.invariant-loop-t
invariant-loop-t l = record {
  so_far : l.times.items ++ map (channel_time l.rate) (drop l.t-index l.t-items) ≡ map (channel_time l.rate) l.t-items;
  bounds : All IsTiming l.times.items;
}
