use Rattle.std.proofs.Common.{◌≡◌, ◌++◌, ◌*◌, drop}
use Rattle.ny_top.proofs.FrameLemmas.{rows}
use Rattle.ny_top.proofs.frames.take_frames.Given as goal

-- the frames so far
abbrev pub invariant-loop-n : goal.invariant-loop-n
invariant-loop-n l = l.frames ≡ rows l.channels l.block l.samples l.n ++ drop (l.n * l.channels) l.fn.frames
