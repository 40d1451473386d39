use Rattle.std.proofs.Common.{◌≡◌, ◌≤◌, drop}
use Rattle.ny_num.specs.Grid.{last_index}
use Rattle.ny_num.specs.Mix.{least_start, greatest_end, greatest_stop}
use Rattle.ny_timing.proofs.rules.mix_timing.Given as goal

abbrev pub invariant-loop-part : goal.invariant-loop-part
invariant-loop-part l = record {
  starts : least_start l.start (drop l.part-index l.parts) ≡ least_start l.initial.start l.parts;
  ends : greatest_end l.rate l.end (drop l.part-index l.parts) ≡ greatest_end l.rate 0 l.parts;
  stops : greatest_stop l.stop (drop l.part-index l.parts) ≡ greatest_stop 0 l.parts;
  start_within : l.start ≤ last_index l.rate;
  end_within : l.end ≤ last_index l.rate;
}
