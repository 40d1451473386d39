-- Values of the definitions, worked out.
use Rattle.std.proofs.Common.{◌≡◌, [], ◌∷◌, ◌++◌, refl, pos, negsuc}
use Rattle.ny_num.specs.declared.rate.Rate.TheVariants.{R8000}
use Rattle.ny_wav.specs.WavFile.{pcm16_of, frame_of, header_of, wav_of}

silence : pcm16_of (pos 0) ≡ 0x00 ∷ 0x00 ∷ []
unfolding pcm16_of
silence = refl

half : pcm16_of (pos 500000) ≡ 0xff ∷ 0x3f ∷ []
unfolding pcm16_of
half = refl

tenth : pcm16_of (pos 100000) ≡ 0xcc ∷ 0x0c ∷ []
unfolding pcm16_of
tenth = refl

whole : pcm16_of (pos 1000000) ≡ 0xff ∷ 0x7f ∷ []
unfolding pcm16_of
whole = refl

-- rounded down, also below zero
least_below_zero : pcm16_of (negsuc 0) ≡ 0xff ∷ 0xff ∷ []
unfolding pcm16_of
least_below_zero = refl

-- the last level above the clamp, and the clamp
lowest : pcm16_of (negsuc 1000000) ≡ 0x00 ∷ 0x80 ∷ []
unfolding pcm16_of
lowest = refl

far_below : pcm16_of (negsuc 2145483646) ≡ 0x00 ∷ 0x80 ∷ []
unfolding pcm16_of
far_below = refl

far_above : pcm16_of (pos 2147483647) ≡ 0xff ∷ 0x7f ∷ []
unfolding pcm16_of
far_above = refl

-- 8 frames of one channel
short_file : header_of 1 R8000 16 8
    ≡ 0x52 ∷ 0x49 ∷ 0x46 ∷ 0x46 ∷ 0x34 ∷ 0x00 ∷ 0x00 ∷ 0x00 ∷ 0x57 ∷ 0x41 ∷ 0x56 ∷ 0x45
    ∷ 0x66 ∷ 0x6d ∷ 0x74 ∷ 0x20 ∷ 0x10 ∷ 0x00 ∷ 0x00 ∷ 0x00 ∷ 0x01 ∷ 0x00 ∷ 0x01 ∷ 0x00
    ∷ 0x40 ∷ 0x1f ∷ 0x00 ∷ 0x00 ∷ 0x80 ∷ 0x3e ∷ 0x00 ∷ 0x00 ∷ 0x02 ∷ 0x00 ∷ 0x10 ∷ 0x00
    ∷ 0x64 ∷ 0x61 ∷ 0x74 ∷ 0x61 ∷ 0x10 ∷ 0x00 ∷ 0x00 ∷ 0x00 ∷ []
unfolding header_of
short_file = refl

-- a file of two channels and one frame: 4 bytes follow the header
two_channels : wav_of 2 R8000 ((pos 500000 ∷ negsuc 0 ∷ []) ∷ [])
    ≡ header_of 2 R8000 16 1 ++ 0xff ∷ 0x3f ∷ 0xff ∷ 0xff ∷ []
unfolding wav_of frame_of pcm16_of
two_channels = refl
