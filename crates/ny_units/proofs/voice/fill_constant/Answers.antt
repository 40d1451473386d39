use Rattle.std.proofs.Common.{◌∙◌, length}
use Rattle.ny_units.proofs.Runs.{constant_run}
use Rattle.ny_units.proofs.voice.fill_constant.Goals as goal

pub returns : goal.returns
returns c = c.fill.ensures.after (λ y same. same) ∙ constant_run c.args.value c.args.from (length c.args.out.now)
