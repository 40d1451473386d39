use Rattle.std.proofs.Common.{sym, arith}
use Rattle.ny_wav.proofs.Frames.{frame_of-nil, frame_of-more}
use Rattle.ny_wav.proofs.sample_bytes.frame_bytes.Goals as goal

pub loop-i-init : goal.loop-i-init
loop-i-init c = sym frame_of-nil

pub loop-i-preserved : goal.loop-i-preserved
loop-i-preserved c =
    rw c.write_sample.ensures
    (frame_of-more c.args.channels.now c.loop-i.out _ _ c.loop-i.i c.index-channels-i.result (omega arith) (omega arith) c.index-channels-i.is c.loop-i.invariant)
