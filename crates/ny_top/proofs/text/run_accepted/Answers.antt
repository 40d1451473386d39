use Rattle.std.proofs.Common.{inl, inr, ap}
use Rattle.ny_top.specs.Outcome.{checked}
use Rattle.ny_words.specs.Views.{task_view}
use Rattle.ny_top.proofs.FileLemmas.{of_check, only_ok}
use Rattle.ny_top.proofs.text.run_accepted.Goals as goal

pub returns-in-Check-clause-whole : goal.returns-in-Check-clause-whole
returns-in-Check-clause-whole g c = λ whole.
    let is = only_ok c.print_canonical.result whole c.print_canonical.ensures.status in (
      checked c.args.accepted.tree,
      of_check (task_view c.args.task) c.args.accepted.tree c.args.left.now (ap task_view c.in-Check.is) c.requires.left,
      (is, c.print_canonical.ensures.output.created, c.print_canonical.ensures.whole is),
    )

pub returns-in-Check-clause-told : goal.returns-in-Check-clause-told
returns-in-Check-clause-told g c = λ is.
    inr (inl (
      checked c.args.accepted.tree,
      of_check (task_view c.args.task) c.args.accepted.tree c.args.left.now (ap task_view c.in-Check.is) c.requires.left,
      c.print_canonical.ensures.fault is,
    ))
