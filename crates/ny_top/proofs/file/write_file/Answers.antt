use Rattle.std.proofs.Common.{rules, refl, inl, inr, ap, sym, subst, ◌∙◌}
use Rattle.std.specs.Io.KnownBytes.{append_known}
use Rattle.ny_report.specs.Lines.{full_line_of}
use Rattle.ny_top.specs.Channel.{file_of}
use Rattle.ny_top.specs.Outcome.{create_line}
use Rattle.ny_top.specs.Ends.{FaultTold}
use Rattle.ny_words.specs.Views.{render_view}
use Rattle.ny_top.specs.declared.status.Status.TheVariants.{PoolFull, WriteFault}
use Rattle.ny_top.proofs.FaultLines.{told_alone, told_from, append_known-nothing}
use Rattle.ny_top.proofs.Parts.{made_part, made_whole, made_after}
use Rattle.ny_top.proofs.Stages.{rose_from, quiet_then}
use Rattle.ny_top.proofs.FileLemmas.{plays, fills, fills_told, cuts, only_full, ends_at, a_late}
use Rattle.ny_top.proofs.file.write_file.Goals as goal

pub returns-in-Err-clause-told : goal.returns-in-Err-clause-told
returns-in-Err-clause-told g c = λ is.
    let old = g.H.Host.state c.args.host.now in
    let new = g.H.Host.state c.end_at.new.host in
    let line = create_line c.args.render.output.now in
    inr (inr (
      search rules,
      told_from line old (g.H.Host.state c.create.new.self) new (search rules) (search rules)
          (subst (λ bytes. FaultTold bytes (g.H.Host.state c.create.new.self) new) c.requires.line (c.end_at.ensures.fault is)),
    ))

pub returns-in-Err-clause-create : goal.returns-in-Err-clause-create
returns-in-Err-clause-create g c = λ is.
    let old = g.H.Host.state c.args.host.now in
    let failed = c.in-Err.ensures in (
      search rules,
      c.end_at.ensures.told is ∙ ap (λ known. append_known known c.args.lines.create.items) failed.printed ∙ ap (append_known old.printed) c.requires.line,
    )

pub returns-in-Ok-write_parts-clause-unfailed : goal.returns-in-Ok-write_parts-clause-unfailed
returns-in-Ok-write_parts-clause-unfailed g c = λ unfailed.
    quiet_then (g.H.Host.state c.args.host.now) (g.H.Host.state c.create.new.self) (g.H.Host.state c.write_parts.new.host)
    c.in-Ok.ensures.quiet c.in-Ok-write_parts.ensures.quiet

pub returns-in-Ok-write_parts-clause-whole : goal.returns-in-Ok-write_parts-clause-whole
returns-in-Ok-write_parts-clause-whole g c = λ whole.
    let old = g.H.Host.state c.args.host.now in
    let wrote = c.in-Ok-write_parts.ensures in
    plays (render_view c.args.render) c.args.engine.now c.write_parts.new.engine old (g.H.Host.state c.create.new.self) (g.H.Host.state c.write_parts.new.host)
    c.requires.new wrote.played c.in-Ok.ensures.created wrote.whole (wrote.printed ∙ c.in-Ok.ensures.printed ∙ sym (append_known-nothing old.printed))

pub returns-in-Ok-write_parts-clause-part : goal.returns-in-Ok-write_parts-clause-part
returns-in-Ok-write_parts-clause-part g c =
    made_whole c.args.render.output.now (file_of c.args.render.rate c.args.engine.now.code)
    (g.H.Host.state c.args.host.now) (g.H.Host.state c.create.new.self) (g.H.Host.state c.write_parts.new.host)
    c.in-Ok.ensures.created c.in-Ok-write_parts.ensures.whole

pub returns-in-Err-Write-clause-told : goal.returns-in-Err-Write-clause-told
returns-in-Err-Write-clause-told g c = λ is.
    let old = g.H.Host.state c.args.host.now in
    let mid = g.H.Host.state c.create.new.self in
    let later = g.H.Host.state c.write_parts.new.host in
    let failed = c.in-Err-Write.ensures in
    inl (told_alone old later (g.H.Host.state c.tell_fault.new.host)
    (rose_from old.writes mid.writes later.writes c.in-Ok.ensures.counts.writes (rw c.in-Err-Write.field-0-is at failed.fault))
    (failed.printed ∙ c.in-Ok.ensures.printed) c.tell_fault.ensures.told)

pub returns-in-Err-Write-clause-part : goal.returns-in-Err-Write-clause-part
returns-in-Err-Write-clause-part g c =
    let to = c.args.render.output.now in
    let bytes = file_of c.args.render.rate c.args.engine.now.code in
    let old = g.H.Host.state c.args.host.now in
    let later = g.H.Host.state c.write_parts.new.host in
    let part = c.in-Err-Write.ensures.part in
    made_after to bytes old later (g.H.Host.state c.tell_fault.new.host)
    (made_part to bytes old (g.H.Host.state c.create.new.self) later part.0 c.in-Ok.ensures.created part.2)
    c.tell_fault.ensures.output.created

pub returns-in-Err-PoolFull-clause-unfailed : goal.returns-in-Err-PoolFull-clause-unfailed
returns-in-Err-PoolFull-clause-unfailed g c = λ unfailed.
    let old = g.H.Host.state c.args.host.now in
    let mid = g.H.Host.state c.create.new.self in
    let later = g.H.Host.state c.write_parts.new.host in
    let stopped = (rw c.in-Err-PoolFull.field-0-is at c.in-Err-PoolFull.ensures.fault) in
    quiet_then old later (g.H.Host.state c.end_full.new.host) (quiet_then old mid later c.in-Ok.ensures.quiet stopped.3) (c.end_full.ensures.unfailed unfailed)

pub returns-in-Err-PoolFull-clause-early : goal.returns-in-Err-PoolFull-clause-early
returns-in-Err-PoolFull-clause-early g c = λ early. absurd (a_late c.end_full.result PoolFull WriteFault early c.end_full.ensures.status refl refl)

pub returns-in-Err-PoolFull-clause-whole : goal.returns-in-Err-PoolFull-clause-whole
returns-in-Err-PoolFull-clause-whole g c = λ whole.
    let old = g.H.Host.state c.args.host.now in
    let new = g.H.Host.state c.end_full.new.host in
    let n = c.in-Err-PoolFull.pulls in
    let stopped = (rw c.in-Err-PoolFull.field-0-is at c.in-Err-PoolFull.ensures.fault) in
    let is = only_full c.end_full.result whole c.end_full.ensures.status in
    ends_at _ c.end_full.result PoolFull old new is
    (fills (render_view c.args.render) c.args.engine.now c.write_parts.new.engine old (g.H.Host.state c.create.new.self) new stopped.0 n
    c.requires.new stopped.1 c.in-Ok.ensures.created (c.end_full.ensures.output.created ∙ stopped.2)
    (c.end_full.ensures.told is ∙ ap (λ known. append_known known (full_line_of n)) (c.in-Err-PoolFull.ensures.printed ∙ c.in-Ok.ensures.printed)))

pub returns-in-Err-PoolFull-clause-told : goal.returns-in-Err-PoolFull-clause-told
returns-in-Err-PoolFull-clause-told g c = λ is.
    let old = g.H.Host.state c.args.host.now in
    let later = g.H.Host.state c.write_parts.new.host in
    let new = g.H.Host.state c.end_full.new.host in
    let n = c.in-Err-PoolFull.pulls in
    let stopped = (rw c.in-Err-PoolFull.field-0-is at c.in-Err-PoolFull.ensures.fault) in
    inr (inl (fills_told (render_view c.args.render) c.args.engine.now c.write_parts.new.engine old new stopped.0 n c.requires.new stopped.1
    (told_from (full_line_of n) old later new (search rules) (c.in-Err-PoolFull.ensures.printed ∙ c.in-Ok.ensures.printed) (c.end_full.ensures.fault is))))

pub returns-in-Err-PoolFull-clause-part : goal.returns-in-Err-PoolFull-clause-part
returns-in-Err-PoolFull-clause-part g c =
    let to = c.args.render.output.now in
    let bytes = file_of c.args.render.rate c.args.engine.now.code in
    let old = g.H.Host.state c.args.host.now in
    let later = g.H.Host.state c.write_parts.new.host in
    let part = c.in-Err-PoolFull.ensures.part in
    made_after to bytes old later (g.H.Host.state c.end_full.new.host)
    (made_part to bytes old (g.H.Host.state c.create.new.self) later part.0 c.in-Ok.ensures.created part.2)
    c.end_full.ensures.output.created

pub returns-in-Err-OutOfMemory-clause-memory : goal.returns-in-Err-OutOfMemory-clause-memory
returns-in-Err-OutOfMemory-clause-memory g c = λ is.
    let ended = (rw c.in-Err-OutOfMemory.field-0-is at c.in-Err-OutOfMemory.ensures.fault) in
    cuts (render_view c.args.render) c.args.engine.now c.write_parts.new.engine (g.H.Host.state c.args.host.now) (g.H.Host.state c.create.new.self) (g.H.Host.state c.write_parts.new.host)
    ended.0 c.requires.new ended.1 c.in-Ok.ensures.created ended.2

pub returns-in-Err-OutOfMemory-clause-unfailed : goal.returns-in-Err-OutOfMemory-clause-unfailed
returns-in-Err-OutOfMemory-clause-unfailed g c = λ unfailed.
    let ended = (rw c.in-Err-OutOfMemory.field-0-is at c.in-Err-OutOfMemory.ensures.fault) in
    quiet_then (g.H.Host.state c.args.host.now) (g.H.Host.state c.create.new.self) (g.H.Host.state c.write_parts.new.host) c.in-Ok.ensures.quiet ended.3

pub returns-in-Err-OutOfMemory-clause-part : goal.returns-in-Err-OutOfMemory-clause-part
returns-in-Err-OutOfMemory-clause-part g c =
    let part = c.in-Err-OutOfMemory.ensures.part in
    made_part c.args.render.output.now (file_of c.args.render.rate c.args.engine.now.code) (g.H.Host.state c.args.host.now) (g.H.Host.state c.create.new.self) (g.H.Host.state c.write_parts.new.host)
    part.0 c.in-Ok.ensures.created part.2
