-- A WAV file of whole-number samples: a header of 44 bytes, then the frames. Every number stands low byte first.
use Rattle.std.specs.Prelude.{ℕ, ◌+◌, ◌*◌, ◌/◌, List, ◌++◌, length, codes, ℤ, pos, negsuc, ◌*ℤ◌}
use Rattle.std.specs.Int.{w16, cast_unsigned}
use Rattle.std.specs.List.{flat_map}
use Rattle.byteorder.specs.Endian.{little_bytes}
use Rattle.ny_num.specs.Numbers.{million, floor_div, clamp_ℤ}
use Rattle.ny_num.specs.Grid.{hz_of}
use Rattle.ny_num.specs.declared.rate.Rate.{Rate}

-- the level of a sample of x millionths: 32767 levels to 1, rounded down, and no further out than 16 bits reach
abbrev pub level_of : ℤ → ℤ
level_of x = clamp_ℤ (negsuc 32767) (pos 32767) (floor_div (x *ℤ pos 32767) million)

-- the two bytes of a sample: its level in two's complement
unfoldable pub pcm16_of : ℤ → List ℕ
pcm16_of x = little_bytes 2 (cast_unsigned w16 (level_of x))

-- the bytes of a frame, channel 0 first; or of several frames in a row
unfoldable pub frame_of : List ℤ → List ℕ
frame_of samples = flat_map pcm16_of samples

-- how many bytes a frame has: those of one sample for each channel
abbrev pub frame_size : ℕ → ℕ → ℕ
frame_size channels bits = channels * (bits / 8)

-- the head of the file: its kind, and how many bytes follow that size, of which 36 are the header's
abbrev pub riff_head : ℕ → List ℕ
riff_head data_size = codes "RIFF" ++ little_bytes 4 (36 + data_size) ++ codes "WAVE"

-- the chunk that says how the samples stand; 16 bytes of it follow its size
abbrev pub format_chunk_of : ℕ → Rate → ℕ → List ℕ
format_chunk_of channels rate bits =
    codes "fmt " ++ little_bytes 4 16
    ++ little_bytes 2 1  -- whole numbers, not compressed
    ++ little_bytes 2 channels
    ++ little_bytes 4 (hz_of rate)
    ++ little_bytes 4 (hz_of rate * frame_size channels bits)  -- bytes a second
    ++ little_bytes 2 (frame_size channels bits)
    ++ little_bytes 2 bits

-- how the chunk that holds the frames begins
abbrev pub data_head : ℕ → List ℕ
data_head data_size = codes "data" ++ little_bytes 4 data_size

-- the header of a file of so many channels, at a rate, of samples of so many bits, with so many frames
unfoldable pub header_of : ℕ → Rate → ℕ → ℕ → List ℕ
header_of channels rate bits frames =
    riff_head (frames * frame_size channels bits)
    ++ format_chunk_of channels rate bits
    ++ data_head (frames * frame_size channels bits)

-- the file of 16 bits whose frames are these
unfoldable pub wav_of : ℕ → Rate → List (List ℤ) → List ℕ
wav_of channels rate frames = header_of channels rate 16 (length frames) ++ flat_map frame_of frames
