use Rattle.std.proofs.Common.{◌≡◌, ◌+◌, ◌*◌, ◌++◌, List, ℤ, take, drop, map, length, ap, ◌∙◌, arith}
use Rattle.std.proofs.lemmas.List.{take_at}
use Rattle.std.specs.List.{flat_map, range_with_len}
use Rattle.ny_wav.specs.WavFile.{frame_of}
use Rattle.ny_top.specs.Frames.{row}
use Rattle.ny_top.proofs.FrameLemmas.{front_frames, rows_bytes}
use Rattle.ny_top.proofs.frames.gather_frames.Goals as goal

pub returns-clause-gathers : goal.returns-clause-gathers
returns-clause-gathers c =
    let b = c.args.buffers.now in
    let xs : List ℤ = c.as_slice.result.now in
    let frames : List ℤ = take (c.args.count * c.args.channels) c.as_slice-2.result.now in
    let bytes : frame_of frames ≡ flat_map frame_of (map (row c.args.channels b.block b.samples.items) (range_with_len 0 c.args.count)) =
    ap (λ (ys : List ℤ). frame_of (take (c.args.count * c.args.channels) ys)) c.as_slice-2.ensures.value
    ∙ ap frame_of (front_frames c.args.channels b.block c.args.count b.frames.len xs c.as_mut_slice.result.now c.take_frames.new.frames (drop (length c.take_frames.new.frames) b.frames.items) (omega (arith, c.take_frames.auto.frames, c.as_mut_slice.ensures.len)) c.take_frames.ensures)
    ∙ rows_bytes c.args.channels b.block xs c.args.count
    ∙ ap (λ (ys : List ℤ). flat_map frame_of (map (row c.args.channels b.block ys) (range_with_len 0 c.args.count))) c.as_slice.ensures.value in
    let size : length c.put_samples.new.bytes ≡ b.bytes.len = omega (arith, c.put_samples.ensures.size, c.as_mut_slice-2.ensures.len) in
    ap (take (b.gathered + 2 * length frames)) (take_at c.put_samples.new.bytes (drop (length c.put_samples.new.bytes) b.bytes.items) b.bytes.len size)
    ∙ c.put_samples.ensures.front
    ∙ (λ i. take b.gathered (c.as_mut_slice-2.ensures.value i) ++ bytes i)
