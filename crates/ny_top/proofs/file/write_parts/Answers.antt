use Rattle.std.proofs.Common.{◌∙◌, arith}
use Rattle.ny_wav.specs.WavFile.{header_of}
use Rattle.ny_top.proofs.RoundLemmas.{ok_on, err_on, if_err_on}
use Rattle.ny_top.proofs.FileLemmas.{wrote_file, head_part, file_part, ends_file, within_hour}
use Rattle.ny_words.specs.Views.{render_view}
use Rattle.ny_top.proofs.file.write_parts.Goals as goal

pub header-head-requires-clause-hour : goal.header-head-requires-clause-hour
header-head-requires-clause-hour g c = omega (arith, c.frames.ensures, within_hour (render_view c.args.render) c.args.engine.now c.requires.new)

pub returns-in-Ok-clause-whole : goal.returns-in-Ok-clause-whole
returns-in-Ok-clause-whole g c =
    ok_on c.rounds.result _ _
    (λ rest. wrote_file (render_view c.args.render) c.args.engine.now c.header-head.result c.requires.new.asked.rate (c.header-head.ensures ∙ (λ i. header_of ((c.channels.ensures ∙ c.requires.new.count) i) c.args.render.rate 16 (c.frames.ensures i)))
    (g.H.Host.state c.args.host.now) (g.H.Host.state c.write_all.new.host) (g.H.Host.state c.rounds.new.host) c.in-Ok.ensures.whole rest)
    c.rounds.ensures.whole

pub returns-in-Ok-clause-fault : goal.returns-in-Ok-clause-fault
returns-in-Ok-clause-fault g c =
    if_err_on c.rounds.result _ _
    (λ fault ends. ends_file (render_view c.args.render) c.args.engine.now c.header-head.result c.requires.new.asked.rate (c.header-head.ensures ∙ (λ i. header_of ((c.channels.ensures ∙ c.requires.new.count) i) c.args.render.rate 16 (c.frames.ensures i)))
    (g.H.Host.state c.args.host.now) (g.H.Host.state c.write_all.new.host) (g.H.Host.state c.rounds.new.host) c.rounds.new.engine fault c.in-Ok.ensures.counts.writes c.in-Ok.ensures.quiet c.in-Ok.ensures.whole ends)
    c.rounds.ensures.fault

pub returns-in-Ok-clause-part : goal.returns-in-Ok-clause-part
returns-in-Ok-clause-part g c =
    err_on c.rounds.result _ _
    (λ part. file_part (render_view c.args.render) c.args.engine.now c.header-head.result c.requires.new.asked.rate (c.header-head.ensures ∙ (λ i. header_of ((c.channels.ensures ∙ c.requires.new.count) i) c.args.render.rate 16 (c.frames.ensures i)))
    (g.H.Host.state c.args.host.now) (g.H.Host.state c.write_all.new.host) (g.H.Host.state c.rounds.new.host) c.in-Ok.ensures.whole part)
    c.rounds.ensures.part

pub returns-in-Err-clause-part : goal.returns-in-Err-clause-part
returns-in-Err-clause-part g c =
    let now = g.H.Host.state c.write_all.new.host in
    head_part (render_view c.args.render) c.args.engine.now c.header-head.result c.requires.new.asked.rate (c.header-head.ensures ∙ (λ i. header_of ((c.channels.ensures ∙ c.requires.new.count) i) c.args.render.rate 16 (c.frames.ensures i)))
    (g.H.Host.state c.args.host.now) now now c.in-Err.ensures.part
