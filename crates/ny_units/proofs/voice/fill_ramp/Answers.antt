use Rattle.std.proofs.Common.{◌∙◌, ap, length, map, pos}
use Rattle.std.specs.List.{range_with_len}
use Rattle.ny_units.specs.Lines.{line_value}
use Rattle.ny_units.proofs.Runs.{ramp_run}
use Rattle.ny_units.proofs.voice.fill_ramp.Goals as goal

pub returns : goal.returns
returns c =
    ramp_run c.args.len c.from-2.result c.args.from (length c.args.out.now) c.fill_line.new.out c.requires.some c.from-2.ensures c.requires.within
    (c.fill_line.ensures ∙ ap (λ w. map (line_value (pos 0) (pos 1000000) w) (range_with_len c.from-2.result (length c.args.out.now))) c.from.ensures)
