-- Frames: how the blocks of several channels become a round's frames, and how many frames there are.
use Rattle.std.proofs.Common.{◌≡◌, ℕ, zero, suc, ◌+◌, ◌-◌, ◌*◌, ◌<◌, ◌≤◌, min, pos, ℤ, List, [], ◌∷◌, ◌++◌, map, take, drop, length, refl, sym, ap, ◌∙◌, arith, slice_index_or, length-take, length-drop, length-append, add-one, mul_comm}
use Rattle.std.specs.List.{flat_map, range_with_len}
use borrow.Rule.Slice.PartMut.{put_mid}
use Rattle.std.proofs.lemmas.List.{ext_get_or, get_or-map, length-map, get_or-take, get_or-drop, take_at, take_more, append_assoc, append-nil}
use Rattle.std.proofs.lemmas.List.Concat.{flat_map-append}
use Rattle.std.proofs.lemmas.List.Folds.{flat_map-map}
use Rattle.std.proofs.lemmas.List.FromFn.{length-map-range_with_len, get_or-map-range_with_len, map-range_with_len_more}
use Rattle.std.proofs.lemmas.Slice.{drop-append-drop, take-put_mid}
use Rattle.ny_num.specs.Sound as sounds
use Rattle.ny_num.specs.Sound.{silence, value_at}
use Rattle.ny_check.specs.Channels.{channels, frame, frames, longest}
use Rattle.ny_pull.specs.Engine.{EngineState}
use Rattle.ny_num.proofs.PartAdded.{part_added}
use Rattle.ny_wav.specs.WavFile.{frame_of}
use Rattle.ny_wav.proofs.Frames.{frames_of-joined, length-frame_of}
use Rattle.ny_top.specs.Frames.{row, AreBlocks}
use Rattle.ny_top.specs.Rounds.{frames_at, bytes_of_round}
use Rattle.ny_top.proofs.PullLemmas.{next_multiple, one_more, fewer_blocks}

-- there are as many frames as the longest channel has samples
pub frames_count : (cs : List sounds.Sound) → length (frames cs) ≡ longest cs
unfolding frames
frames_count cs = length-map-range_with_len (frame cs) 0 (longest cs)

-- each frame is that of its index
pub frame_there : (cs : List sounds.Sound) (n : ℕ) → n < longest cs → slice_index_or (frames cs) n [] ≡ frame cs n
unfolding frames
frame_there cs n within = get_or-map-range_with_len (frame cs) 0 (longest cs) n n [] within (omega arith)

-- a value for each place of a list, in order
by_place : {A X : Type 0} (f : ℕ → X) (g : A → X) (xs : List A) (d : A) (e : X) (k : ℕ) → k ≡ length xs → ((c : ℕ) → c < k → f c ≡ g (slice_index_or xs c d)) → map f (range_with_len 0 k) ≡ map g xs
by_place f g xs d e k size same =
    ext_get_or e (map f (range_with_len 0 k)) (map g xs) (length-map-range_with_len f 0 k ∙ size ∙ sym (length-map xs g))
    (λ c within.
    let inside : c < k = omega (arith, within, length-map-range_with_len f 0 k) in
    get_or-map-range_with_len f 0 k c c e inside (omega arith) ∙ same c inside ∙ sym (get_or-map g xs c d e (omega (arith, inside, size))))

-- what stands at the same place of each block is a frame
pub row_is : (e : EngineState) (rounds : ℕ) (xs : List ℤ) → length e.channels ≡ length (channels e.code e.rate) → AreBlocks e rounds xs → (n : ℕ) → n < e.heap.block
    → row (length e.channels) e.heap.block xs n ≡ frame (channels e.code e.rate) (rounds * e.heap.block + n)
row_is e rounds xs count blocks n less =
    by_place (λ c. slice_index_or xs (c * e.heap.block + n) (pos 0)) (λ (s : sounds.Sound). value_at s (rounds * e.heap.block + n)) (channels e.code e.rate) (silence e.rate) (pos 0)
    (length e.channels) count (λ c within. blocks c n within less)

-- the frames of a round are those of its blocks
pub round_frames : (e : EngineState) (rounds count : ℕ) (xs : List ℤ) → length e.channels ≡ length (channels e.code e.rate) → AreBlocks e rounds xs
    → count ≡ min (longest (channels e.code e.rate) - rounds * e.heap.block) e.heap.block
    → map (row (length e.channels) e.heap.block xs) (range_with_len 0 count) ≡ take e.heap.block (drop (rounds * e.heap.block) (frames_at e))
round_frames e rounds count xs size blocks is =
    let b = e.heap.block in
    let p = rounds * e.heap.block in
    let f = row (length e.channels) e.heap.block xs in
    let cs = channels e.code e.rate in
    ext_get_or [] (map f (range_with_len 0 count)) (take b (drop p (frames cs)))
    (length-map-range_with_len f 0 count ∙ omega (arith, is, length-take b (drop p (frames cs)), length-drop p (frames cs), frames_count cs))
    (λ n within.
    let inside : n < count = omega (arith, within, length-map-range_with_len f 0 count) in
    get_or-map-range_with_len f 0 count n n [] inside (omega arith)
    ∙ row_is e rounds xs size blocks n (omega (arith, inside, is))
    ∙ sym (frame_there cs (p + n) (omega (arith, inside, is)))
    ∙ sym (get_or-drop p (frames cs) n [])
    ∙ sym (get_or-take b (drop p (frames cs)) n [] (omega (arith, inside, is))))

pub round_bytes : (e : EngineState) (rounds count : ℕ) (xs : List ℤ) → length e.channels ≡ length (channels e.code e.rate) → AreBlocks e rounds xs
    → count ≡ min (longest (channels e.code e.rate) - rounds * e.heap.block) e.heap.block
    → flat_map frame_of (map (row (length e.channels) e.heap.block xs) (range_with_len 0 count)) ≡ bytes_of_round e rounds
round_bytes e rounds count xs size blocks is = ap (flat_map frame_of) (round_frames e rounds count xs size blocks is)

-- the same of what buffers hold
pub kept_bytes : (e : EngineState) (rounds count size block len most : ℕ) (xs rest : List ℤ) → length e.channels ≡ length (channels e.code e.rate) → AreBlocks e rounds xs → size ≡ length e.channels
    → block ≡ e.heap.block → length xs ≡ len → most ≡ longest (channels e.code e.rate) → count ≡ min (most - rounds * block) block
    → flat_map frame_of (map (row size block (take len (xs ++ rest))) (range_with_len 0 count)) ≡ bytes_of_round e rounds
kept_bytes e rounds count size block len most xs rest there blocks channels_is block_is all most_is is =
    (λ i. flat_map frame_of (map (row (channels_is i) (block_is i) (take_at xs rest len all i)) (range_with_len 0 count)))
    ∙ round_bytes e rounds count xs there blocks (is ∙ (λ i. min (most_is i - rounds * block_is i) (block_is i)))

-- ---- the buffer of frames

pub row_length : (channels block : ℕ) (xs : List ℤ) (n : ℕ) → length (row channels block xs n) ≡ channels
row_length channels block xs n = length-map-range_with_len (λ c. slice_index_or xs (c * block + n) (pos 0)) 0 channels

-- so many frames in a row
abbrev pub rows : ℕ → ℕ → List ℤ → ℕ → List ℤ
rows channels block xs n = flat_map (row channels block xs) (range_with_len 0 n)

pub rows_more : (channels block : ℕ) (xs : List ℤ) (n : ℕ) → rows channels block xs (n + 1) ≡ rows channels block xs n ++ row channels block xs n
rows_more channels block xs n =
    sym (flat_map-map (λ (ys : List ℤ). ys) (row channels block xs) (range_with_len 0 (n + 1)))
    ∙ ap (flat_map (λ (ys : List ℤ). ys)) (map-range_with_len_more (row channels block xs) 0 n n (omega arith))
    ∙ flat_map-append (λ (ys : List ℤ). ys) (map (row channels block xs) (range_with_len 0 n)) (row channels block xs n ∷ [])
    ∙ ap (λ ys. ys ++ (row channels block xs n ++ [])) (flat_map-map (λ (ys : List ℤ). ys) (row channels block xs) (range_with_len 0 n))
    ∙ ap (λ ys. rows channels block xs n ++ ys) (append-nil (row channels block xs n))

pub rows_length : (channels block : ℕ) (xs : List ℤ) (n : ℕ) → length (rows channels block xs n) ≡ n * channels
rows_length channels block xs zero = omega arith
rows_length channels block xs (suc n) =
    ap (λ k. length (rows channels block xs k)) (sym (add-one n))
    ∙ ap length (rows_more channels block xs n)
    ∙ length-append (rows channels block xs n) (row channels block xs n)
    ∙ omega (arith, rows_length channels block xs n, row_length channels block xs n, one_more n channels)

-- one frame more is written behind those so far
pub rows_on : (channels block : ℕ) (xs old now : List ℤ) (n : ℕ) → now ≡ rows channels block xs n ++ drop (n * channels) old
    → take (n * channels) now ++ (row channels block xs n ++ drop ((n + 1) * channels) now) ≡ rows channels block xs (n + 1) ++ drop ((n + 1) * channels) old
rows_on channels block xs old now n is =
    let front = rows channels block xs n in
    let size : length front ≡ n * channels = rows_length channels block xs n in
    (λ i. take (n * channels) (is i) ++ (row channels block xs n ++ drop ((n + 1) * channels) (is i)))
    ∙ ap (λ (ys : List ℤ). ys ++ (row channels block xs n ++ drop ((n + 1) * channels) (front ++ drop (n * channels) old))) (take_at front (drop (n * channels) old) (n * channels) size)
    ∙ ap (λ (ys : List ℤ). front ++ (row channels block xs n ++ ys)) (drop-append-drop (n * channels) old front ((n + 1) * channels) (fewer (n * channels) channels ((n + 1) * channels) (next_multiple n channels)) size)
    ∙ sym (append_assoc front (row channels block xs n) (drop ((n + 1) * channels) old))
    ∙ ap (λ (ys : List ℤ). ys ++ drop ((n + 1) * channels) old) (sym (rows_more channels block xs n))
  where
    fewer : (a b c : ℕ) → c ≡ a + b → a ≤ c
    fewer a b c is = omega (arith, is)

-- the bytes of so many frames, as the buffer holds them
pub rows_bytes : (channels block : ℕ) (xs : List ℤ) (n : ℕ) → frame_of (rows channels block xs n) ≡ flat_map frame_of (map (row channels block xs) (range_with_len 0 n))
rows_bytes channels block xs n =
    ap frame_of (sym (flat_map-map (λ (ys : List ℤ). ys) (row channels block xs) (range_with_len 0 n)))
    ∙ sym (frames_of-joined (map (row channels block xs) (range_with_len 0 n)))

-- the frames of one channel are its samples
rows_mono : (block : ℕ) (xs : List ℤ) (n : ℕ) → n ≤ length xs → rows 1 block xs n ≡ take n xs
rows_mono block xs zero within = refl
rows_mono block xs (suc n) within =
    ap (λ k. rows 1 block xs k) (sym (add-one n))
    ∙ rows_more 1 block xs n
    ∙ ap (λ (ys : List ℤ). ys ++ row 1 block xs n) (rows_mono block xs n (omega (arith, within)))
    ∙ (let first : 0 * block + n ≡ n = omega arith in ap (λ k. take n xs ++ slice_index_or xs k (pos 0) ∷ []) first)
    ∙ sym (take_more xs n (pos 0) (omega (arith, within)))
    ∙ ap (λ k. take k xs) (add-one n)

pub mono_bytes : (channels block : ℕ) (xs : List ℤ) (n : ℕ) → channels ≡ 1 → n ≤ length xs → frame_of (take n xs) ≡ flat_map frame_of (map (row channels block xs) (range_with_len 0 n))
mono_bytes channels block xs n one within =
    ap frame_of (sym (rows_mono block xs n within))
    ∙ rows_bytes 1 block xs n
    ∙ ap (λ k. flat_map frame_of (map (row k block xs) (range_with_len 0 n))) (sym one)

-- a sample of a block stands within the blocks
pub place_within : (c n channels block len : ℕ) → c < channels → n < block → len ≡ channels * block → c * block + n < len
place_within c n channels block len at less is = omega (arith, is, less, one_more c block, fewer_blocks (suc c) channels block at)

-- and a block of c ends within them
pub block_within : (c channels block len : ℕ) → c < channels → len ≡ channels * block → c * block + block ≤ len
block_within c channels block len at is = omega (arith, is, one_more c block, fewer_blocks (suc c) channels block at)

-- so does a frame within so many
pub frame_within : (n channels block len : ℕ) → n < block → len ≡ channels * block → (n + 1) * channels ≤ len
frame_within n channels block len less is = omega (arith, is, next_multiple n channels, one_more n channels, fewer_blocks (suc n) block channels less, swap)
  where
    swap : channels * block ≡ block * channels
    swap = mul_comm channels block

-- frame n + 1 begins where frame n ends
pub frame_size : (n channels : ℕ) → (n + 1) * channels - n * channels ≡ channels
frame_size n channels = omega (arith, next_multiple n channels)

-- one frame more
pub frame_added : (channels block n : ℕ) (xs first out frame : List ℤ) → (n + 1) * channels ≤ length first → length out ≡ length first
    → frame ≡ row (length (take ((n + 1) * channels - n * channels) (drop (n * channels) out))) block xs n → out ≡ rows channels block xs n ++ drop (n * channels) first
    → put_mid (n * channels) ((n + 1) * channels - n * channels) out frame ≡ rows channels block xs (n + 1) ++ drop ((n + 1) * channels) first
frame_added channels block n xs first out frame within same is so_far =
    part_added (n * channels) ((n + 1) * channels) first out (rows channels block xs n) frame (omega (arith, next_multiple n channels)) within same
    (ap length here ∙ row_length channels block xs n ∙ sym (frame_size n channels)) so_far
    ∙ ap (λ (ys : List ℤ). ys ++ drop ((n + 1) * channels) first) (ap (λ (ys : List ℤ). rows channels block xs n ++ ys) here ∙ sym (rows_more channels block xs n))
  where
    size : length (take ((n + 1) * channels - n * channels) (drop (n * channels) out)) ≡ channels
    size = length-take ((n + 1) * channels - n * channels) (drop (n * channels) out) ∙ omega (arith, frame_size n channels, length-drop (n * channels) out, next_multiple n channels, within, same)

    here : frame ≡ row channels block xs n
    here = is ∙ ap (λ k. row k block xs n) size

-- the frames are at the front of what is kept
pub front_frames : (channels block count len : ℕ) (xs first frames rest : List ℤ) → length frames ≡ len → frames ≡ rows channels block xs count ++ drop (count * channels) first
    → take (count * channels) (take len (frames ++ rest)) ≡ rows channels block xs count
front_frames channels block count len xs first frames rest size is =
    ap (take (count * channels)) (take_at frames rest len size)
    ∙ ap (take (count * channels)) is
    ∙ take_at (rows channels block xs count) (drop (count * channels) first) (count * channels) (rows_length channels block xs count)

-- ---- the buffer of bytes

-- the bytes of samples are put behind what stands there
pub put_behind : (at k n : ℕ) (bytes part : List ℕ) (xs : List ℤ) → part ≡ frame_of xs → n ≡ at + 2 * length xs → at + 2 * length xs ≤ length bytes
    → take n (put_mid at k bytes part) ≡ take at bytes ++ frame_of xs
put_behind at k n bytes part xs is size within =
    take-put_mid at k bytes part n (size ∙ omega (arith, ap length is, length-frame_of xs)) (omega (arith, within))
    ∙ ap (λ (ys : List ℕ). take at bytes ++ ys) is
