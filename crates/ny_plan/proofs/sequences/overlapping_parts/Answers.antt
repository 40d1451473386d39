use Rattle.std.proofs.Common.{refl}
use Rattle.ny_num.specs.Numbers.{fix_mul, sat}
use Rattle.ny_num.specs.Grid.{clamp_ticks, ticks_of_micro, index_at, tick_at}
use Rattle.ny_num.specs.Sound.{spanning, cut_len, placed_timing, cued_timing}
use Rattle.ny_num.specs.Leaves.{leaf_timing}
use Rattle.ny_num.specs.Resampling.{resampled_timing}
use Rattle.ny_num.specs.Mix.{mix_timing, channel_timing}
use Rattle.ny_warp.specs.Warp.{scaled}
use Rattle.ny_warp.specs.Environment.{opening, global_time, shifted, sustained, from_stop}
use Rattle.ny_check.specs.Recursion.{by_smaller}
use Rattle.ny_check.specs.Values.{scalar_of, number_of, test_of}
use Rattle.ny_check.specs.Behaviours.{sustained_timing, cue_timing}
use Rattle.ny_heap.specs.Heap.{taken_after}
use Rattle.ny_plan.specs.Plan.{made, played, plan}
use Rattle.ny_plan.specs.Liveness.{live, live_of_kinds}
use Rattle.ny_plan.specs.Fills.{counts, fills}
use Rattle.ny_plan.specs.Peak.{peak_of, first_full}
use Rattle.ny_plan.specs.Lines.{sequence, lines}
use Rattle.ny_plan.proofs.Stops.{no_warp}
use Rattle.ny_plan.proofs.sequences.overlapping_parts.Goals as goal

pub returns : goal.returns
unfolding made played plan opening global_time shifted sustained from_stop scaled ticks_of_micro clamp_ticks index_at tick_at by_smaller scalar_of number_of test_of sustained_timing cue_timing leaf_timing spanning cut_len placed_timing cued_timing mix_timing channel_timing resampled_timing fix_mul sat taken_after live live_of_kinds counts fills peak_of first_full sequence lines
returns c = rw (no_warp 1411200 refl) refl
