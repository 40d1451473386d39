-- What callers need of the bytes of a file: how many there are, and how the bytes of parts join.
use Rattle.std.proofs.Common.{◌≡◌, ℕ, ◌+◌, ◌*◌, ◌≤◌, ◌<◌, List, [], ◌∷◌, ◌++◌, length, take, get_or, map, refl, sym, ap, ◌∙◌, arith, ℤ, length-append}
use Rattle.std.proofs.lemmas.List.{append-nil, append_assoc, length-map, length-take-le, take_at, take_more}
use Rattle.std.proofs.lemmas.List.Concat.{flat_map-append}
use Rattle.std.specs.List.{flat_map}
use Rattle.ny_num.specs.declared.rate.Rate.{Rate}
use Rattle.ny_wav.specs.WavFile.{pcm16_of, frame_of, header_of, wav_of}

pub length-pcm16_of : (x : ℤ) → length (pcm16_of x) ≡ 2
unfolding pcm16_of
length-pcm16_of x = refl

pub length-header_of : (channels : ℕ) (rate : Rate) (bits frames : ℕ) → length (header_of channels rate bits frames) ≡ 44
unfolding header_of
length-header_of channels rate bits frames = refl

-- no sample has no bytes
pub frame_of-nil : frame_of [] ≡ []
unfolding frame_of
frame_of-nil = refl

-- one sample more in front
pub frame_of-cons : (x : ℤ) (xs : List ℤ) → frame_of (x ∷ xs) ≡ pcm16_of x ++ frame_of xs
unfolding frame_of
frame_of-cons x xs = refl

-- one sample alone
pub frame_of-single : (x : ℤ) → frame_of (x ∷ []) ≡ pcm16_of x
unfolding frame_of
frame_of-single x = append-nil (pcm16_of x)

pub length-frame_of : (xs : List ℤ) → length (frame_of xs) ≡ 2 * length xs
length-frame_of [] = ap length frame_of-nil
length-frame_of (x ∷ xs) =
    rw (frame_of-cons x xs, length-append (pcm16_of x) (frame_of xs), length-pcm16_of x, length-frame_of xs) (omega arith)

pub frame_of-append : (xs ys : List ℤ) → frame_of (xs ++ ys) ≡ frame_of xs ++ frame_of ys
unfolding frame_of
frame_of-append xs ys = flat_map-append pcm16_of xs ys

-- frames one after another are the bytes of their samples in a row
pub frames_of-joined : (frames : List (List ℤ)) → flat_map frame_of frames ≡ frame_of (flat_map (λ frame. frame) frames)
frames_of-joined [] = sym frame_of-nil
frames_of-joined (frame ∷ frames) =
    ap (λ (rest : List ℕ). frame_of frame ++ rest) (frames_of-joined frames)
    ∙ sym (frame_of-append frame (flat_map (λ f. f) frames))

-- frames of one sample each
pub frames_of-mono : (xs : List ℤ) → flat_map frame_of (map (λ s. s ∷ []) xs) ≡ frame_of xs
frames_of-mono [] = sym frame_of-nil
frames_of-mono (x ∷ xs) =
    rw (frame_of-single x, frames_of-mono xs, frame_of-cons x xs) refl

-- the file of one channel
pub wav_of-mono : (rate : Rate) (xs : List ℤ) → wav_of 1 rate (map (λ s. s ∷ []) xs) ≡ header_of 1 rate 16 (length xs) ++ frame_of xs
unfolding wav_of
wav_of-mono rate xs = rw (frames_of-mono xs, length-map) refl

-- the bytes of a file, whatever its frames are
pub wav_of-joined : (channels : ℕ) (rate : Rate) (frames : List (List ℤ))
    → wav_of channels rate frames ≡ header_of channels rate 16 (length frames) ++ frame_of (flat_map (λ frame. frame) frames)
unfolding wav_of
wav_of-joined channels rate frames =
    ap (λ (rest : List ℕ). header_of channels rate 16 (length frames) ++ rest) (frames_of-joined frames)

-- what a caller needs who writes a file of one channel
pub ruleset mono_file = (wav_of-mono, length-header_of, length-frame_of)

-- what a caller needs who writes frames block by block
pub ruleset frames_in_parts = (frame_of-nil, frame_of-append, length-frame_of)

-- the bytes of one sample more are written, and what stood after them stays
pub frame_of-more : (samples : List ℤ) (out rest post : List ℕ) (i : ℕ) (x : ℤ) → 2 * i ≤ length out → i < length samples
    → x ≡ get_or samples i x
    → take (2 * i) out ≡ frame_of (take i samples)
    → take (2 * (i + 1)) (take (2 * i) out ++ ((pcm16_of x ++ rest) ++ post)) ≡ frame_of (take (i + 1) samples)
frame_of-more samples out rest post i x room fits read before =
    let front : List ℕ = take (2 * i) out in
    let whole : front ++ ((pcm16_of x ++ rest) ++ post) ≡ (front ++ pcm16_of x) ++ (rest ++ post) = simp append_assoc in
    let end : length (front ++ pcm16_of x) ≡ 2 * (i + 1) =
    omega (arith, length-append front (pcm16_of x), length-take-le (2 * i) out room, length-pcm16_of x) in
    rw (whole, take_at (front ++ pcm16_of x) (rest ++ post) (2 * (i + 1)) end, before, take_more samples i x fits, frame_of-append (take i samples) (get_or samples i x ∷ []), ← read, frame_of-single x) refl
