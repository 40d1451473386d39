use Rattle.std.proofs.Common.{[], refl, ◌∙◌, arith}
use Rattle.ny_check.specs.Channels.{frames, channels, played}
use Rattle.ny_check.specs.Meaning.{meaning}
use Rattle.ny_check.specs.Recursion.{by_smaller}
use Rattle.ny_check.specs.Values.{scalar_of, number_of}
use Rattle.ny_check.specs.Behaviours.{const_sound, sustained_timing}
use Rattle.ny_warp.specs.Environment.{opening, global_time}
use Rattle.ny_warp.specs.Warp.{scaled}
use Rattle.ny_num.specs.Numbers.{fix_mul, fix_add, sat, sat_sample, sample_add}
use Rattle.ny_num.specs.Grid.{clamp_ticks, ticks_of_micro, index_at, tick_at}
use Rattle.ny_num.specs.Sound.{timing_of, value_at, sound_of, spanning, placed, cut_len}
use Rattle.ny_num.specs.Leaves.{leaf, leaf_timing}
use Rattle.ny_num.specs.Resampling.{resampled}
use Rattle.ny_num.specs.Mix.{mix, mix_timing, sum_at, channel, channel_timing}
use Rattle.std.proofs.Common.{ℕ}
use Rattle.ny_num.specs.Sound.{Sound}
use Rattle.ny_warp.specs.declared.env.Env.{Env}
use Rattle.ny_check.specs.Meaning.{repeated_part}
use Rattle.ny_examples.specs.Programs.{at_place, name}
use Rattle.ny_examples.specs.Sequences.{repeats_in_turn}
use Rattle.ny_examples.proofs.InTurn.{two_from_opening}
use Rattle.ny_examples.proofs.sequences.repeats.Goals as goal

-- what repeat k is from an environment
abbrev repeat : ℕ → Env → Sound
repeat k = repeated_part (meaning repeats_in_turn) [] name (at_place 4) k

pub returns : goal.returns
unfolding frames channels played meaning by_smaller scalar_of number_of sustained_timing opening global_time scaled clamp_ticks ticks_of_micro index_at tick_at fix_mul sat leaf leaf_timing spanning timing_of value_at sound_of placed cut_len resampled mix mix_timing sum_at sample_add channel channel_timing const_sound sat_sample fix_add
returns c = two_from_opening (repeat 0) (repeat 1) 176400 refl (omega arith) ∙ refl
