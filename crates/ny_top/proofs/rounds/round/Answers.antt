use Rattle.std.proofs.Common.{ℕ, List, ◌++◌, drop, length, subst, ◌∙◌, arith}
use Rattle.ny_top.specs.Frames.{gathered_in}
use Rattle.ny_top.specs.Rounds.{WrotePart, Gathered, bytes_of_round}
use Rattle.ny_top.proofs.RoundLemmas.{part_first}
use Rattle.ny_top.proofs.FrameLemmas.{kept_bytes}
use Rattle.ny_top.proofs.rounds.round.Goals as goal

pub returns-in-Err-clause-part : goal.returns-in-Err-clause-part
returns-in-Err-clause-part g c =
    part_first (gathered_in c.args.buffers.now) (bytes_of_round c.args.engine.now c.args.round) (g.H.Host.state c.args.host.now) (g.H.Host.state c.end_round.new.host) c.end_round.ensures.part

pub returns-in-Err-clause-fault : goal.returns-in-Err-clause-fault
returns-in-Err-clause-fault g c =
    c.end_round.ensures.fault c.args.engine.now c.pull_channels.new.engine c.args.round (c.in-Err.ensures.fault c.args.round c.requires.order.0 c.requires.underway c.requires.order.1)

pub returns-in-Ok-write_frames-clause-underway : goal.returns-in-Ok-write_frames-clause-underway
returns-in-Ok-write_frames-clause-underway g c = c.in-Ok.ensures.underway c.args.round c.requires.underway

pub returns-in-Ok-write_frames-clause-order : goal.returns-in-Ok-write_frames-clause-order
returns-in-Ok-write_frames-clause-order g c = λ n at. c.in-Ok.ensures.turns c.args.round n c.requires.underway at

pub returns-in-Ok-write_frames-clause-whole : goal.returns-in-Ok-write_frames-clause-whole
returns-in-Ok-write_frames-clause-whole g c =
    let bytes =
    kept_bytes c.args.engine.now c.args.round c.min-count.result c.channels.result c.args.buffers.now.block c.args.buffers.now.samples.len c.frames.result c.pull_channels.new.samples (drop (length c.pull_channels.new.samples) c.args.buffers.now.samples.items) c.requires.underway.count
    (c.in-Ok.ensures.samples c.args.round c.requires.underway) (c.channels.ensures ∙ c.in-Ok.ensures.same.channels) c.requires.room.block (omega (arith, c.pull_channels.ensures.size, c.as_mut_slice.ensures.len)) c.frames.ensures c.min-count.ensures in
    subst (λ (bytes : List ℕ). Gathered (gathered_in c.args.buffers.now ++ bytes) c.write_frames.new.buffers (g.H.Host.state c.args.host.now) (g.H.Host.state c.write_frames.new.host)) bytes c.in-Ok-write_frames.ensures.whole

pub returns-in-Err-write_frames-clause-part : goal.returns-in-Err-write_frames-clause-part
returns-in-Err-write_frames-clause-part g c =
    let bytes =
    kept_bytes c.args.engine.now c.args.round c.min-count.result c.channels.result c.args.buffers.now.block c.args.buffers.now.samples.len c.frames.result c.pull_channels.new.samples (drop (length c.pull_channels.new.samples) c.args.buffers.now.samples.items) c.requires.underway.count
    (c.in-Ok.ensures.samples c.args.round c.requires.underway) (c.channels.ensures ∙ c.in-Ok.ensures.same.channels) c.requires.room.block (omega (arith, c.pull_channels.ensures.size, c.as_mut_slice.ensures.len)) c.frames.ensures c.min-count.ensures in
    subst (λ (bytes : List ℕ). WrotePart (gathered_in c.args.buffers.now ++ bytes) (g.H.Host.state c.args.host.now) (g.H.Host.state c.write_frames.new.host)) bytes c.in-Err-write_frames.ensures.part
