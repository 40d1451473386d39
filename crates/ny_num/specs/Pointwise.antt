-- Sounds made of others index by index.
use Rattle.std.specs.Prelude.{◌+◌, min, map, ℤ}
use Rattle.ny_num.specs.Sound.{Sound, timing_of, value_at, sound_of, spanning}
use Rattle.ny_num.specs.declared.timing.Timing.{Timing}

-- when the product of two sounds of one rate is heard: from the least start to the least end, with the least stop. There
-- are no samples where that end is not after the start
unfoldable pub product_timing : Timing → Timing → Timing
product_timing a b =
    spanning a.rate (min a.start b.start) (min (a.start + a.len) (b.start + b.len)) (min a.stop b.stop)

-- two sounds of one rate by an operation, heard as `timing` says: at each index the operation on the two values there
unfoldable pub combined : (Timing → Timing → Timing) → (ℤ → ℤ → ℤ) → Sound → Sound → Sound
combined timing operation a b =
    sound_of (timing (timing_of a) (timing_of b)) (λ m. operation (value_at a m) (value_at b m))

-- each sample of a sound by an operation; it is heard as before
unfoldable pub each_value : (ℤ → ℤ) → Sound → Sound
each_value operation s = record { rate = s.rate; start = s.start; stop = s.stop; samples = map operation s.samples }
