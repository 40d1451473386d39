use Rattle.std.proofs.Common.{◌≡◌, ◌*◌, take}
use Rattle.ny_wav.specs.WavFile.{frame_of}
use Rattle.ny_wav.proofs.sample_bytes.frame_bytes.Given as goal

-- the bytes of the samples so far
abbrev pub invariant-loop-i : goal.invariant-loop-i
invariant-loop-i l = take (2 * l.i) l.out ≡ frame_of (take l.i l.channels)
