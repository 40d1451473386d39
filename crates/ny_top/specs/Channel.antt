-- The bytes of a program's file.
use Rattle.std.specs.Prelude.{ℕ, List, ◌++◌, take, length}
use Rattle.std.specs.List.{flat_map}
use Rattle.ny_num.specs.declared.rate.Rate.{Rate}
use Rattle.ny_wav.specs.WavFile.{header_of, frame_of, wav_of}
use Rattle.ny_check.specs.Code.{Code}
use Rattle.ny_check.specs.Channels.{channels, frames}

-- the file of a program at a rate: the frames of its channels, as the strict meaning has them
unfoldable pub file_of : Rate → Code → List ℕ
file_of rate code = wav_of (length (channels code rate)) rate (frames (channels code rate))

-- the header of that file, which counts all its frames, and its first n frames
unfoldable pub first_frames : Rate → Code → ℕ → List ℕ
first_frames rate code n =
    header_of (length (channels code rate)) rate 16 (length (frames (channels code rate)))
    ++ flat_map frame_of (take n (frames (channels code rate)))
