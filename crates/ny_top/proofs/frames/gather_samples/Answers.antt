use Rattle.std.proofs.Common.{◌≡◌, ◌+◌, ◌*◌, ◌++◌, List, ℤ, take, drop, map, length, ap, ◌∙◌, arith}
use Rattle.std.proofs.lemmas.List.{take_at}
use Rattle.std.specs.List.{flat_map, range_with_len}
use Rattle.ny_wav.specs.WavFile.{frame_of}
use Rattle.ny_top.specs.Frames.{row}
use Rattle.ny_top.proofs.FrameLemmas.{mono_bytes}
use Rattle.ny_top.proofs.frames.gather_samples.Goals as goal

pub returns-clause-gathers : goal.returns-clause-gathers
returns-clause-gathers c = λ channels one.
    let b = c.args.buffers.now in
    let samples : List ℤ = take c.args.count c.as_slice.result.now in
    let bytes : frame_of samples ≡ flat_map frame_of (map (row channels b.block b.samples.items) (range_with_len 0 c.args.count)) =
    ap (λ (ys : List ℤ). frame_of (take c.args.count ys)) c.as_slice.ensures.value ∙ mono_bytes channels b.block b.samples.items c.args.count one c.requires.count in
    let size : length c.put_samples.new.bytes ≡ b.bytes.len = omega (arith, c.put_samples.ensures.size, c.as_mut_slice.ensures.len) in
    ap (take (b.gathered + 2 * length samples)) (take_at c.put_samples.new.bytes (drop (length c.put_samples.new.bytes) b.bytes.items) b.bytes.len size)
    ∙ c.put_samples.ensures.front
    ∙ (λ i. take b.gathered (c.as_mut_slice.ensures.value i) ++ bytes i)
