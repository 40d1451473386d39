use Rattle.std.proofs.Common.{[], refl, ◌∙◌}
use Rattle.ny_check.specs.Channels.{frames, channels, played}
use Rattle.ny_check.specs.Meaning.{meaning}
use Rattle.ny_check.specs.Recursion.{by_smaller}
use Rattle.ny_check.specs.Values.{scalar_of, number_of}
use Rattle.ny_check.specs.Behaviours.{const_sound, sustained_timing}
use Rattle.ny_warp.specs.Environment.{opening, global_time, warped}
use Rattle.ny_warp.specs.Warp.{scaled}
use Rattle.ny_num.specs.Numbers.{fix_mul, sat, sat_sample, sample_add}
use Rattle.ny_num.specs.Grid.{clamp_ticks, ticks_of_micro, index_at, tick_at}
use Rattle.ny_num.specs.Sound.{timing_of, value_at, sound_of, spanning, placed, cut_len}
use Rattle.ny_num.specs.Leaves.{leaf, leaf_timing}
use Rattle.ny_num.specs.Resampling.{resampled}
use Rattle.ny_num.specs.Mix.{mix, mix_timing, sum_at, channel, channel_timing}
use Rattle.ny_examples.specs.Maps.{under_steep}
use Rattle.ny_examples.proofs.Thresholds.{first_stop-least}
use Rattle.ny_examples.specs.Sequences.{in_turn_under_warp}
use Rattle.ny_examples.proofs.InTurn.{part_at, two_in_turn}
use Rattle.ny_examples.proofs.sequences.under_a_warp.Goals as goal

pub returns : goal.returns
unfolding frames channels played meaning by_smaller scalar_of number_of sustained_timing opening global_time scaled clamp_ticks ticks_of_micro index_at tick_at fix_mul sat leaf leaf_timing spanning timing_of value_at sound_of placed cut_len resampled mix mix_timing sum_at sample_add channel channel_timing const_sound sat_sample warped
returns c = two_in_turn under_steep (part_at in_turn_under_warp [] 2) (part_at in_turn_under_warp [] 4) 1411200 705600 refl first_stop-least ∙ refl
