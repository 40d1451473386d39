use Rattle.std.proofs.Common.{length}
use Rattle.ny_num.specs.Numbers.{IsSample}
use Rattle.ny_num.specs.Leaves.{wave_value}
use Rattle.ny_units.proofs.Runs.{all_of_run, louder_run, wave_sample}
use Rattle.ny_units.proofs.voice.fill_loud_wave.Goals as goal

pub at_loudness-requires : goal.at_loudness-requires
at_loudness-requires g c =
    all_of_run IsSample (wave_value g.row.N c.args.inc) c.args.from (length c.args.out.now) c.fill_wave.new.out c.fill_wave.ensures (λ n. wave_sample g.row.N c.args.inc n c.requires)

pub returns : goal.returns
returns g c = louder_run c.args.loud (wave_value g.row.N c.args.inc) c.args.from (length c.args.out.now) c.fill_wave.new.out c.at_loudness.new.out c.fill_wave.ensures c.at_loudness.ensures
