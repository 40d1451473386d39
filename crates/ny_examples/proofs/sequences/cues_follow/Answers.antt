use Rattle.std.proofs.Common.{[], ◌∷◌, refl, ◌∙◌, arith}
use Rattle.ny_check.specs.Channels.{frames, channels, played}
use Rattle.ny_check.specs.Meaning.{meaning}
use Rattle.ny_check.specs.Recursion.{by_smaller}
use Rattle.ny_check.specs.Values.{scalar_of, number_of}
use Rattle.ny_check.specs.Behaviours.{osc_sound, cue_sound, sustained_timing}
use Rattle.ny_warp.specs.Environment.{opening, global_time}
use Rattle.ny_warp.specs.Warp.{scaled}
use Rattle.ny_num.specs.Numbers.{fix_mul, fix_add, sat, sat_sample, whole_units, sample_add, sample_mul}
use Rattle.ny_num.specs.Grid.{clamp_ticks, ticks_of_micro, index_at, tick_at}
use Rattle.ny_num.specs.Sound.{timing_of, value_at, sound_of, spanning, placed, cued, cut_len}
use Rattle.ny_num.specs.Leaves.{leaf, leaf_timing, arch, wave_entry, increment, entry_at_phase, wave_value, louder_value, key_of, key_frequency, key_hz}
use Rattle.ny_num.specs.Resampling.{resampled}
use Rattle.ny_num.specs.Mix.{mix, mix_timing, sum_at, channel, channel_timing}
use Rattle.ny_num.specs.declared.rate.Rate.TheVariants.{R8000}
use Rattle.ny_check.specs.declared.value.Value.TheVariants.{Sound}
use Rattle.ny_check.specs.Meaning.{Bound}
use Rattle.ny_examples.specs.Programs.{name}
use Rattle.ny_examples.specs.Sequences.{waves_in_turn, cues_in_turn}
use Rattle.ny_examples.proofs.InTurn.{part_at, two_from_opening}
use Rattle.ny_examples.proofs.sequences.cues_follow.Goals as goal

-- x is the wave
abbrev x : Bound
x = (name, Sound (meaning cues_in_turn 2 (opening R8000) [])) ∷ []

pub returns-clause-waves : goal.returns-clause-waves
unfolding frames channels played meaning by_smaller scalar_of number_of sustained_timing opening global_time scaled clamp_ticks ticks_of_micro index_at tick_at fix_mul sat leaf leaf_timing spanning timing_of value_at sound_of placed cut_len resampled mix mix_timing sum_at sample_add channel channel_timing osc_sound whole_units fix_add sat_sample sample_mul arch wave_entry increment entry_at_phase wave_value louder_value key_of key_frequency key_hz cue_sound cued
returns-clause-waves c = two_from_opening (part_at waves_in_turn [] 2) (part_at waves_in_turn [] 2) 705600 refl (omega arith) ∙ refl

pub returns-clause-cues : goal.returns-clause-cues
unfolding frames channels played meaning by_smaller scalar_of number_of sustained_timing opening global_time scaled clamp_ticks ticks_of_micro index_at tick_at fix_mul sat leaf leaf_timing spanning timing_of value_at sound_of placed cut_len resampled mix mix_timing sum_at sample_add channel channel_timing osc_sound whole_units fix_add sat_sample sample_mul arch wave_entry increment entry_at_phase wave_value louder_value key_of key_frequency key_hz cue_sound cued
returns-clause-cues c = two_from_opening (part_at cues_in_turn x 4) (part_at cues_in_turn x 4) 705600 refl (omega arith) ∙ refl
