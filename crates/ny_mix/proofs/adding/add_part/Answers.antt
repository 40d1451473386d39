use Rattle.std.proofs.Common.{◌+◌, ◌∙◌, get_or, sym, ap, pos}
use Rattle.ny_num.specs.Numbers.{sample_add}
use Rattle.ny_mix.proofs.Sums.{value_heard}
use Rattle.ny_mix.proofs.Parts.{part_silent}
use Rattle.ny_mix.proofs.adding.add_part.Goals as goal

pub add_heard-requires-clause-ready : goal.add_heard-requires-clause-ready
add_heard-requires-clause-ready c = c.requires.ready c.in-Some.c c.in-Some.is

pub returns-in-Some-clause-samples : goal.returns-in-Some-clause-samples
returns-in-Some-clause-samples c = λ r whole shows k h is.
    c.add_heard.ensures.samples (whole c.in-Some.c.list) (shows c.in-Some.c c.in-Some.is) k h is
    ∙ ap (sample_add (get_or c.args.out.now k (pos 0))) (sym (value_heard r whole c.args.part.now c.in-Some.c (c.args.m + k) c.in-Some.is))

pub returns-in_default-clause-samples : goal.returns-in_default-clause-samples
returns-in_default-clause-samples c = λ r whole shows k h is. part_silent r whole c.args.part.now (c.args.m + k) (get_or c.args.out.now k (pos 0)) c.in_default.not-Some is
