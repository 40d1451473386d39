use Rattle.std.proofs.Common.{◌≡◌, ◌+◌, ◌*◌, ◌≤◌, ◌++◌, length, drop, sym, ap, ◌∙◌, arith}
use Rattle.ny_top.proofs.FrameLemmas.{rows, frame_added, frame_within}
use Rattle.ny_top.proofs.frames.take_frames.Goals as goal

pub loop-n-init : goal.loop-n-init
loop-n-init c = sym (ap (λ k. drop k c.args.frames.now) (let e : 0 * c.args.channels ≡ 0 = omega arith in e))

pub loop-n-preserved : goal.loop-n-preserved
loop-n-preserved c =
    let within : (c.loop-n.n + 1) * c.args.channels ≤ length c.args.frames.now =
    frame_within c.loop-n.n c.args.channels c.args.block (length c.args.frames.now) (omega (arith, c.loop-n-test.true, c.requires.count)) c.requires.frames in
    frame_added c.args.channels c.args.block c.loop-n.n c.args.samples.now c.args.frames.now c.loop-n.frames c.take_frame.new.frame within c.loop-n.auto.frames c.take_frame.ensures c.loop-n.invariant

pub returns : goal.returns
returns c =
    let all : c.loop-n.n ≡ c.args.count = omega (arith, c.loop-n-test.false, c.loop-n.auto.n-end) in
    c.loop-n.invariant ∙ ap (λ k. rows c.args.channels c.args.block c.args.samples.now k ++ drop (k * c.args.channels) c.args.frames.now) all
