use Rattle.std.proofs.Common.{rules, inl, inr, ap, subst, ◌∙◌, arith, length}
use Rattle.ny_io.specs.Faults.{Rose}
use Rattle.std.specs.Io.KnownBytes.{append_known}
use Rattle.ny_top.specs.Outcome.{refused, too_long_line, open_line, read_line}
use Rattle.ny_top.specs.Ends.{FaultTold}
use Rattle.ny_words.specs.Views.{command_view, task_view}
use Rattle.ny_top.proofs.FaultLines.{told_from}
use Rattle.ny_top.proofs.Outcomes.{ended_whole, whole_sound}
use Rattle.ny_top.proofs.Stages.{handed_on, ends_read, write_told, makes_read, cuts_read, quiet_then, not_created, too_long_ends, too_long_told}
use Rattle.ny_top.proofs.names.run_names.Goals as goal

pub returns-in-Ok-read_all-clause-whole : goal.returns-in-Ok-read_all-clause-whole
returns-in-Ok-read_all-clause-whole g c = λ whole.
    let old = g.H.Host.state c.args.host.now in
    let read = c.in-Ok-read_all.ensures in
    let from = c.args.command.input.now in
    ends_read (task_view c.args.command.task) from c.deref.result.now c.run_text.new.left c.run_text.result old (g.H.Host.state c.read_all.new.host) (g.H.Host.state c.run_text.new.host)
    (record { counts = read.counts; created = read.output.created; printed = read.printed })
    (handed_on old.files from c.in-Ok-read_all.text.items c.deref.result.now c.deref.ensures.value read.whole)
    (omega (arith, read.short, ap length c.deref.ensures.value)) (c.run_text.ensures.whole whole)

pub returns-in-Ok-read_all-clause-told : goal.returns-in-Ok-read_all-clause-told
returns-in-Ok-read_all-clause-told g c = λ is.
    let old = g.H.Host.state c.args.host.now in
    let read = c.in-Ok-read_all.ensures in
    let from = c.args.command.input.now in
    write_told (command_view c.args.command) c.deref.result.now c.run_text.new.left old (g.H.Host.state c.read_all.new.host) (g.H.Host.state c.run_text.new.host)
    (record { counts = read.counts; created = read.output.created; printed = read.printed })
    (handed_on old.files from c.in-Ok-read_all.text.items c.deref.result.now c.deref.ensures.value read.whole)
    (omega (arith, read.short, ap length c.deref.ensures.value)) (c.run_text.ensures.told is)

pub returns-in-Ok-read_all-clause-open : goal.returns-in-Ok-read_all-clause-open
returns-in-Ok-read_all-clause-open g c = λ is.
    let old = g.H.Host.state c.args.host.now in
    let read = c.in-Ok-read_all.ensures in
    let from = c.args.command.input.now in
    not_created (command_view c.args.command) c.deref.result.now old (g.H.Host.state c.read_all.new.host) (g.H.Host.state c.run_text.new.host)
    (record { counts = read.counts; created = read.output.created; printed = read.printed })
    (handed_on old.files from c.in-Ok-read_all.text.items c.deref.result.now c.deref.ensures.value read.whole) (c.run_text.ensures.create is) (c.run_text.ensures.piece is)

pub returns-in-Ok-read_all-clause-unfailed : goal.returns-in-Ok-read_all-clause-unfailed
returns-in-Ok-read_all-clause-unfailed g c = λ unfailed.
    quiet_then (g.H.Host.state c.args.host.now) (g.H.Host.state c.read_all.new.host) (g.H.Host.state c.run_text.new.host)
    c.in-Ok-read_all.ensures.quiet (c.run_text.ensures.unfailed unfailed)

pub returns-in-Err-TooLong-clause-unfailed : goal.returns-in-Err-TooLong-clause-unfailed
returns-in-Err-TooLong-clause-unfailed g c = λ unfailed.
    quiet_then (g.H.Host.state c.args.host.now) (g.H.Host.state c.read_all.new.host) (g.H.Host.state c.finish.new.host)
    (search rules) (c.finish.ensures.unfailed unfailed)

pub returns-in-Ok-read_all-clause-part : goal.returns-in-Ok-read_all-clause-part
returns-in-Ok-read_all-clause-part g c =
    let old = g.H.Host.state c.args.host.now in
    let read = c.in-Ok-read_all.ensures in
    let from = c.args.command.input.now in
    makes_read (command_view c.args.command) c.deref.result.now old (g.H.Host.state c.read_all.new.host) (g.H.Host.state c.run_text.new.host)
    (record { counts = read.counts; created = read.output.created; printed = read.printed })
    (handed_on old.files from c.in-Ok-read_all.text.items c.deref.result.now c.deref.ensures.value read.whole)
    c.run_text.ensures.part

pub returns-in-Err-TooLong-clause-whole : goal.returns-in-Err-TooLong-clause-whole
returns-in-Err-TooLong-clause-whole g c = λ whole.
    let old = g.H.Host.state c.args.host.now in
    let new = g.H.Host.state c.finish.new.host in
    let read = c.read_all.ensures in
    too_long_ends (task_view c.args.command.task) c.args.command.input.now c.args.left.now c.finish.result old new c.requires.left (search rules)
    (ended_whole (refused too_long_line) c.finish.result old new (whole_sound c.finish.result whole) c.finish.ensures.status
    (λ is. c.finish.ensures.told is ∙ ap (λ known. append_known known too_long_line) read.printed)
    (c.finish.ensures.output.created ∙ read.output.created))

pub returns-in-Err-TooLong-clause-told : goal.returns-in-Err-TooLong-clause-told
returns-in-Err-TooLong-clause-told g c = λ is.
    let old = g.H.Host.state c.args.host.now in
    inr (inl (too_long_told (task_view c.args.command.task) c.args.command.input.now c.args.left.now old (g.H.Host.state c.finish.new.host) c.requires.left (search rules)
    (told_from too_long_line old (g.H.Host.state c.read_all.new.host) (g.H.Host.state c.finish.new.host)
    (search rules) (search rules) (c.finish.ensures.fault is))))

pub returns-in-Err-Open-clause-told : goal.returns-in-Err-Open-clause-told
returns-in-Err-Open-clause-told g c = λ is.
    let from = c.args.command.input.now in
    let old = g.H.Host.state c.args.host.now in
    let mid = g.H.Host.state c.read_all.new.host in
    let new = g.H.Host.state c.end_at.new.host in
    let rose : Rose (old.opens from) (new.opens from) = search rules in
    let told : FaultTold (open_line from) mid new = subst (λ bytes. FaultTold bytes mid new) c.in-Ok.ensures.open (c.end_at.ensures.fault is) in
    inr (inr (inl (rose, told_from (open_line from) old mid new c.in-Err-Open.ensures.counts.writes c.in-Err-Open.ensures.printed told)))

pub returns-in-Err-Read-clause-read : goal.returns-in-Err-Read-clause-read
returns-in-Err-Read-clause-read g c = λ is.
    let from = c.args.command.input.now in
    let old = g.H.Host.state c.args.host.now in
    let new = g.H.Host.state c.end_at-in-Err-Read.new.host in
    let rose : Rose (old.reads from) (new.reads from) = search rules in (
      rose,
      c.end_at-in-Err-Read.ensures.told is
          ∙ ap (λ known. append_known known c.in-Ok.lines.read.items) c.in-Err-Read.ensures.printed
          ∙ ap (append_known old.printed) c.in-Ok.ensures.read,
    )

pub returns-in-Err-Read-clause-told : goal.returns-in-Err-Read-clause-told
returns-in-Err-Read-clause-told g c = λ is.
    let from = c.args.command.input.now in
    let old = g.H.Host.state c.args.host.now in
    let mid = g.H.Host.state c.read_all.new.host in
    let new = g.H.Host.state c.end_at-in-Err-Read.new.host in
    let rose : Rose (old.reads from) (new.reads from) = search rules in
    let told : FaultTold (read_line from) mid new = subst (λ bytes. FaultTold bytes mid new) c.in-Ok.ensures.read (c.end_at-in-Err-Read.ensures.fault is) in
    inr (inr (inr (inl (rose, told_from (read_line from) old mid new c.in-Err-Read.ensures.counts.writes c.in-Err-Read.ensures.printed told))))

pub returns-in-Ok-read_all-clause-cut : goal.returns-in-Ok-read_all-clause-cut
returns-in-Ok-read_all-clause-cut g c = λ is.
    let old = g.H.Host.state c.args.host.now in
    let read = c.in-Ok-read_all.ensures in
    let from = c.args.command.input.now in
    cuts_read (command_view c.args.command) c.deref.result.now c.run_text.new.left old (g.H.Host.state c.read_all.new.host) (g.H.Host.state c.run_text.new.host)
    read.output (handed_on old.files from c.in-Ok-read_all.text.items c.deref.result.now c.deref.ensures.value read.whole) (c.run_text.ensures.cut is)
