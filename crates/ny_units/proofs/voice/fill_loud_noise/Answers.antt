use Rattle.std.proofs.Common.{length}
use Rattle.ny_num.specs.Numbers.{IsSample}
use Rattle.ny_num.specs.Leaves.{noise_value}
use Rattle.ny_units.proofs.Noises.{noise_sample}
use Rattle.ny_units.proofs.Runs.{all_of_run, louder_run}
use Rattle.ny_units.proofs.voice.fill_loud_noise.Goals as goal

pub at_loudness-requires : goal.at_loudness-requires
at_loudness-requires c = all_of_run IsSample (noise_value c.args.state) 0 (length c.args.out.now) c.fill_noise-after.new.out c.fill_noise-after.ensures.samples (noise_sample c.args.state)

pub returns-clause-samples : goal.returns-clause-samples
returns-clause-samples c = louder_run c.args.loud (noise_value c.args.state) 0 (length c.args.out.now) c.fill_noise-after.new.out c.at_loudness.new.out c.fill_noise-after.ensures.samples c.at_loudness.ensures
