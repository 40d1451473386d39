-- When a sound is heard follows from when the sounds are heard that it is made of.
use Rattle.std.proofs.Common.{◌≡◌, ℕ, suc, max, Bool, true, false, if◌then◌else◌, List, [], ◌∷◌, length, map, take, ℤ, pos, refl, ap, arith}
use Rattle.std.proofs.lemmas.List.{length-map, length-take}
use Rattle.std.proofs.lemmas.List.FromFn.{length-map-range_with_len}
use Rattle.ny_num.specs.Sound.{Sound, timing_of, sound_of, silence, cut_len, placed, placed_timing, cued, cued_timing}
use Rattle.ny_num.specs.Leaves.{leaf}
use Rattle.ny_num.specs.Pointwise.{combined, each_value}
use Rattle.ny_num.specs.Resampling.{is_same_rate, other_rate_timing, resampled, resampled_timing, interpolated}
use Rattle.ny_num.specs.Filters.{one_pole, one_pole_value, one_pole_after, Coefficients, Recent, biquad, biquad_next, biquad_after, at_rest, comb, comb_value, comb_after, delayed}
use Rattle.ny_num.specs.Mix.{mix, mix_timing, channel, channel_timing}
use Rattle.ny_num.specs.declared.rate.Rate.{Rate}
use Rattle.ny_num.specs.declared.timing.Timing.{Timing}

-- a timing with another length
abbrev with_len : Timing → ℕ → Timing
with_len t n = record { rate = t.rate; start = t.start; len = n; stop = t.stop }

pub timing_of-sound_of : (t : Timing) (f : ℕ → ℤ) → timing_of (sound_of t f) ≡ t
unfolding timing_of sound_of
timing_of-sound_of t f = ap (with_len t) (length-map-range_with_len f t.start t.len)

pub timing_of-leaf : (t : Timing) (f : ℕ → ℤ) → timing_of (leaf t f) ≡ t
unfolding timing_of leaf
timing_of-leaf t f = ap (with_len t) (length-map-range_with_len f 0 t.len)

pub timing_of-silence : (r : Rate) → timing_of (silence r) ≡ record { rate = r; start = 0; len = 0; stop = 0 }
unfolding timing_of silence
timing_of-silence r = refl

-- ---- moved sounds

-- what is cut is as long as what is left of the length
length-cut : (r : Rate) (start : ℕ) (samples : List ℤ) → length (take (cut_len r start (length samples)) samples) ≡ cut_len r start (length samples)
unfolding cut_len
length-cut r start samples = omega (arith, length-take (cut_len r start (length samples)) samples)

pub timing_of-placed : (p : ℕ) (s : Sound) → timing_of (placed p s) ≡ placed_timing p (timing_of s)
unfolding timing_of placed placed_timing
timing_of-placed p s = ap (with_len (placed_timing p (timing_of s))) (length-cut s.rate (max s.start p) s.samples)

pub timing_of-cued : (k : ℕ) (s : Sound) → timing_of (cued k s) ≡ cued_timing k (timing_of s)
unfolding timing_of cued cued_timing
timing_of-cued k s = ap (with_len (cued_timing k (timing_of s))) (length-cut s.rate _ s.samples)

-- ---- pointwise sounds

pub timing_of-combined : (timing : Timing → Timing → Timing) (operation : ℤ → ℤ → ℤ) (a b : Sound) → timing_of (combined timing operation a b) ≡ timing (timing_of a) (timing_of b)
unfolding combined
timing_of-combined timing operation a b = timing_of-sound_of _ _

pub timing_of-each_value : (operation : ℤ → ℤ) (s : Sound) → timing_of (each_value operation s) ≡ timing_of s
unfolding timing_of each_value
timing_of-each_value operation s = ap (with_len (timing_of s)) (length-map s.samples operation)

-- ---- resampling

pub timing_of-resampled : (to : Rate) (s : Sound) → timing_of (resampled to s) ≡ resampled_timing to (timing_of s)
unfolding timing_of resampled resampled_timing
timing_of-resampled to s = by_rates (is_same_rate s.rate to)
  where
    by_rates : (same : Bool) → timing_of (if same then s else sound_of (other_rate_timing to (timing_of s)) (interpolated to s)) ≡ (if same then timing_of s else other_rate_timing to (timing_of s))
    by_rates true = refl
    by_rates false = timing_of-sound_of _ _

-- ---- filters

pub length-one_pole : (a y1 : ℤ) (xs : List ℤ) → length (one_pole_after a y1 xs) ≡ length xs
length-one_pole a y1 [] = refl
length-one_pole a y1 (x ∷ xs) = ap suc (length-one_pole a (one_pole_value a y1 x) xs)

pub timing_of-one_pole : (a : ℤ) (s : Sound) → timing_of (one_pole a s) ≡ timing_of s
unfolding timing_of one_pole
timing_of-one_pole a s = ap (with_len (timing_of s)) (length-one_pole a (pos 0) s.samples)

pub length-biquad : (c : Coefficients) (r : Recent) (xs : List ℤ) → length (biquad_after c r xs) ≡ length xs
length-biquad c r [] = refl
length-biquad c r (x ∷ xs) = ap suc (length-biquad c (biquad_next c r x) xs)

pub timing_of-biquad : (c : Coefficients) (s : Sound) → timing_of (biquad c s) ≡ timing_of s
unfolding timing_of biquad
timing_of-biquad c s = ap (with_len (timing_of s)) (length-biquad c at_rest s.samples)

pub length-comb : (delay : ℕ) (gain : ℤ) (outputs xs : List ℤ) → length (comb_after delay gain outputs xs) ≡ length xs
length-comb delay gain outputs [] = refl
length-comb delay gain outputs (x ∷ xs) = ap suc (length-comb delay gain (comb_value gain (delayed delay outputs) x ∷ outputs) xs)

pub timing_of-comb : (delay : ℕ) (gain : ℤ) (s : Sound) → timing_of (comb delay gain s) ≡ timing_of s
unfolding timing_of comb
timing_of-comb delay gain s = ap (with_len (timing_of s)) (length-comb delay gain [] s.samples)

-- ---- mixes

pub timing_of-mix : (r : Rate) (parts : List Sound) → timing_of (mix r parts) ≡ mix_timing r (map timing_of parts)
unfolding mix
timing_of-mix r parts = timing_of-sound_of _ _

pub timing_of-channel : (s : Sound) → timing_of (channel s) ≡ channel_timing (timing_of s)
unfolding channel
timing_of-channel s = timing_of-sound_of _ _
